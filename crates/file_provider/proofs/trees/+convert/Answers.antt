use Rattle.std.proofs.Common.{◌≡◌, [], ◌∷◌, ◌++◌, map, sym, ap, ap₂, ◌∙◌, arith, append_assoc, append-nil}
use Rattle.std.proofs.lemmas.Grind.{common_steps}
use Rattle.std.proofs.lemmas.List.{map-append}
use Rattle.toml.proofs.Views.{Entry}
use Rattle.file_provider.specs.View.{field_view}
use Rattle.file_provider.proofs.Lists.{member_shape, shapes_agree, fields_agree, keys_rise}
use Rattle.file_provider.proofs.trees.+convert.Goals as goal

pub convert_items-returns : goal.convert_items-returns
convert_items-returns t c =
    rw c.from_vec.ensures (shapes_agree c.loop-item.trees.items c.args.items.now.items (grind (arith, common_steps)))

pub convert_members-push-requires : goal.convert_members-push-requires
convert_members-push-requires t c =
    let l = c.loop-key in
    let e : Entry = (c.in-Some.key.now, c.in-Some.member.now) in
    let left = c.next.new.self in
    let all : c.args.members.now.entries ≡ l.invariant.0 ++ e ∷ left = l.invariant.1 ∙ ap (λ es. l.invariant.0 ++ es) c.in-Some.ensures.steps in
    let named = c.in_ok-name.ensures ∙ c.as_bytes.ensures.value in
    keys_rise l.fields c.in_ok-name.name c.in_ok-tree.tree c.args.members.now.entries l.invariant.0 left e c.iter-key-items.ensures.ordered all l.invariant.2 named

pub convert_members-loop-key-preserved : goal.convert_members-loop-key-preserved
convert_members-loop-key-preserved t c =
    let l = c.loop-key in
    let done = l.invariant.0 in
    let e : Entry = (c.in-Some.key.now, c.in-Some.member.now) in
    let left = c.next.new.self in
    let all : c.args.members.now.entries ≡ done ++ e ∷ left = l.invariant.1 ∙ ap (λ es. done ++ es) c.in-Some.ensures.steps in
    let named = c.in_ok-name.ensures ∙ c.as_bytes.ensures.value in
    let one : field_view (c.in_ok-name.name, c.in_ok-tree.tree) ≡ member_shape e = ap₂ (λ a b. (a, b)) named c.in_ok-tree.ensures in (
      done ++ e ∷ [],
      all ∙ sym (append_assoc done (e ∷ []) left),
      ap (map field_view) c.in_ok-push.ensures.ok ∙ map-append field_view l.fields ((c.in_ok-name.name, c.in_ok-tree.tree) ∷ [])
          ∙ ap₂ (λ a b. a ++ b ∷ []) l.invariant.2 one ∙ sym (map-append member_shape done (e ∷ [])),
    )

pub convert_members-returns : goal.convert_members-returns
convert_members-returns t c =
    let l = c.loop-key in
    let done = l.invariant.0 in
    let all : c.args.members.now.entries ≡ done = l.invariant.1 ∙ ap (λ xs. done ++ xs) c.in-None.ensures.steps.0 ∙ append-nil done in
    fields_agree l.fields c.args.members.now.entries (l.invariant.2 ∙ ap (map member_shape) (sym all))
