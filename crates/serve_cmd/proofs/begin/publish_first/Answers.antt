use Rattle.std.proofs.Common.{rules}
use Rattle.desk.specs.Kept.{desk_of}
use Rattle.serve_cmd.proofs.Unused.{unused_more}
use Rattle.serve_cmd.proofs.begin.publish_first.Goals as goal

pub returns-in_ok-publish-in-Some-clause-ready : goal.returns-in_ok-publish-in-Some-clause-ready
returns-in_ok-publish-in-Some-clause-ready c = record {
  unused = unused_more (desk_of c.args.desk.now) (desk_of c.publish.new.self) _ c.in_ok-publish-in-Some.ensures.ok c.requires.unused;
  number = search rules;
  few = search rules;
}
