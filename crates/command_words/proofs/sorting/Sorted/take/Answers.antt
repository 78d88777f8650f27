use Rattle.std.proofs.Common.{map, string_bytes, Global}
use Rattle.command_words.proofs.Joins.{setting_taken, other_taken}
use Rattle.command_words.proofs.sorting.Sorted.take.Goals as goal

pub returns-in_ok-push_setting-in-Valued-clause-taken : goal.returns-in_ok-push_setting-in-Valued-clause-taken
returns-in_ok-push_setting-in-Valued-clause-taken c =
    setting_taken c.args.self.now c.push_setting.new.self c.args.word.now c.in-Valued.name.now c.in-Valued.value.now (map (string_bytes {Z = Global}) c.args.more.now) c.in-Valued.ensures c.in_ok-push_setting-in-Valued.ensures

pub returns-in_ok-push_other-in-Other-clause-taken : goal.returns-in_ok-push_other-in-Other-clause-taken
returns-in_ok-push_other-in-Other-clause-taken c =
    other_taken c.args.self.now c.push_other.new.self c.args.word.now (map (string_bytes {Z = Global}) c.args.more.now) c.in-Other.ensures c.in_ok-push_other-in-Other.ensures
