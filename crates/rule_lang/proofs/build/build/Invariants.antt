use Rattle.std.proofs.Common.{◌≡◌, take}
use Rattle.std.specs.List.{AllByRecursion}
use Rattle.rule_lang.specs.Values.{call_tree, IsRightCall}
use Rattle.rule_lang.specs.Builds.{trees, build_steps, scan_steps, scan_start}
use Rattle.rule_lang.specs.Builders.{build_of, TokensStand}
use Rattle.rule_lang.proofs.Building.{build_start}
use Rattle.rule_lang.proofs.Growing.{NotsWithin}
use Rattle.rule_lang.proofs.build.build.Given as goal

abbrev pub invariant-loop-token : goal.invariant-loop-token
invariant-loop-token l = record {
  built : build_steps trees (call_tree l.text) build_start (take l.token-index l.tokens) ≡ build_of l.builder;
  ready : TokensStand l.text l.builder.name l.builder.values.items;
  nots : NotsWithin l.token-index (build_of l.builder);
  right : AllByRecursion (IsRightCall l.text) (scan_steps scan_start (take l.token-index l.tokens)).calls;
}
