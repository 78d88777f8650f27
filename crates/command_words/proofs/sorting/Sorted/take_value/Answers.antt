use Rattle.std.proofs.Common.{◌≡◌, ◌∙◌, ◌∷◌, sym, ap, map, string_bytes, Global, true}
use Rattle.command_words.specs.Words.{is_value as may_be_value}
use Rattle.command_words.proofs.Joins.{value_taken}
use Rattle.command_words.proofs.sorting.Sorted.take_value.Goals as goal

pub returns-in_ok-push_setting-in-Some-clause-taken : goal.returns-in_ok-push_setting-in-Some-clause-taken
returns-in_ok-push_setting-in-Some-clause-taken c =
    let cut = ap (map (string_bytes {Z = Global})) c.in-Some.ensures.cases.0 in
    let all : map (string_bytes {Z = Global}) c.args.words.now ≡ c.as_bytes-in-Some.result.now ∷ map (string_bytes {Z = Global}) c.in-Some.rest.now =
    cut ∙ ap (λ v. v ∷ map (string_bytes {Z = Global}) c.in-Some.rest.now) (sym c.as_bytes-in-Some.ensures.value) in
    let is : may_be_value c.as_bytes-in-Some.result.now ≡ true =
    ap may_be_value (c.as_bytes-in-Some.ensures.value ∙ sym c.as_bytes.ensures.value) ∙ sym c.is_value.ensures ∙ c.if-not-is_value.false in
    value_taken c.args.self.now c.push_setting.new.self c.args.name.now c.as_bytes-in-Some.result.now (map (string_bytes {Z = Global}) c.args.words.now) (map (string_bytes {Z = Global}) c.in-Some.rest.now)
    all is c.in_ok-push_setting-in-Some.ensures
