use Rattle.std.proofs.Common.{Option, None, refl}
use Rattle.std.specs.Option.{option_copied}
use Rattle.field_tree.specs.declared.tree.Tree.{Tree}
use Rattle.field_tree.specs.Trees.{table_of}
use Rattle.field_tree.proofs.Tables.{rises_none, entry_found, entry_missing}
use Rattle.field_tree.proofs.tree.find.Goals as goal

pub returns-in-None-clause-rising : goal.returns-in-None-clause-rising
returns-in-None-clause-rising c = rises_none (table_of c.args.tree.now) c.in-None.ensures

pub returns-in-None-clause-entry : goal.returns-in-None-clause-entry
returns-in-None-clause-entry c value =
    let none : Option Tree = None in
    entry_missing (table_of c.args.tree.now) c.args.key.now value none c.in-None.ensures refl

pub returns-in-Some-clause-entry : goal.returns-in-Some-clause-entry
returns-in-Some-clause-entry c value =
    entry_found (table_of c.args.tree.now) c.in-Some.fields.now c.args.key.now value (option_copied c.get.result) c.in-Some.ensures c.get.ensures.value c.get.ensures.rising
