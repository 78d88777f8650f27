use Rattle.std.proofs.Common.{codes}
use Rattle.command_words.specs.Commands.{IsWorkers}
use Rattle.command_words.specs.Values.{values_of}
use Rattle.command_words.proofs.Chosens.{unread}
use Rattle.command_words.proofs.serve.workers_of.Goals as goal

pub returns-in-None-workers : goal.returns-in-None-workers
returns-in-None-workers c =
    let given = rw c.in-Some.is at c.in_ok-text.ensures in
    unread (values_of (codes "workers") c.args.settings.now) c.in-Some.text.now 1 IsWorkers given c.in-None-workers.ensures
