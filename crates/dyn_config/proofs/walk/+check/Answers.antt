use Rattle.std.proofs.Common.{◌≡◌, refl, if◌then◌else◌, map, sym, ap, ◌∙◌}
use Rattle.std.specs.List.{fold}
use Rattle.std.specs.Map.{values_of}
use Rattle.std.specs.Str.{bytes_eq}
use Rattle.field_tree.specs.Keys.{walk_cmp}
use Rattle.field_tree.specs.declared.values.Style.TheVariants.{Texts}
use Rattle.dyn_config.specs.declared.found.Cause.TheVariants.{Twice, BadName}
use Rattle.field_tree.specs.declared.tree.Tree.{Tree}
use Rattle.field_tree.specs.declared.values.Style.{Style}
use Rattle.dyn_config.specs.declared.schema.Shape.{Shape}
use Rattle.dyn_config.specs.declared.schema.Shape.TheVariants as shape
use Rattle.dyn_config.specs.declared.schema.TextRange.{TextRange}
use Rattle.dyn_config.specs.declared.schema.NumberRange.{NumberRange}
use Rattle.dyn_config.specs.declared.schema.Table.{Table}
use Rattle.dyn_config.specs.Walk.{entries_in, in_entries, Row, here, sooner, name_stop, kind_stop, named_check, number_stop, number_cmp, same_number, least_key}
use Rattle.dyn_config.specs.Shapes.{kinds_of, declared_check, meaning, entries_fault}
use Rattle.dyn_config.specs.Ordered.{entry_view}
use Rattle.dyn_config.proofs.Loops.{ok_same, on_any, same_there, row_one, row_two}
use Rattle.dyn_config.proofs.Twins.{same_twins}
use Rattle.dyn_config.proofs.walk.+check.Goals.{check_names-then-is_name+in_ok-fault, check_names-else-is_name, check_kinds-then-is_same+in_ok-fault, check_kinds-else-is_same, check_numbers-then-has_twin, check_numbers-else-has_twin+in_ok-fault}
use Rattle.dyn_config.proofs.walk.+check.Goals as goal

pub check_names-loop-at-preserved : goal.check_names-loop-at-preserved
check_names-loop-at-preserved t c =
    let key = c.key-key.result.now in
    let asked = declared_check c.args.declared c.args.style in
    on_any (sooner walk_cmp) (name_stop (declared_check c.args.declared) c.args.style) c.args.fields.now c.loop-at.at key _ c.loop-at.first c.in_ok-first.first c.if-is_name.fault c.key-key.ensures c.loop-at.invariant c.in_ok-first.ensures
    (λ value at. elim c.if-is_name.branch [
      | check_names-then-is_name+in_ok-fault w ↦
          ap (λ b. (key, if b then asked value else here BadName)) (sym c.is_name.ensures ∙ w.if-is_name.true)
          ∙ ap (λ v. (key, asked v)) (same_there (values_of c.args.fields.now) c.loop-at.at value w.value.result.now at w.value.ensures)
          ∙ ap (λ f. (key, f)) (sym (w.fault-is ∙ w.in_ok-fault.ensures ∙ ap (λ check. check c.args.style w.value.result.now) w.declared_shape.ensures.shape))
      | check_names-else-is_name w ↦
          ap (λ b. (key, if b then asked value else here BadName)) (sym c.is_name.ensures ∙ w.if-is_name.false)
          ∙ ap (λ f. (key, f)) (sym (w.fault-is ∙ w.here-fault.ensures))
    ])

pub check_kinds-loop-at-preserved : goal.check_kinds-loop-at-preserved
check_kinds-loop-at-preserved t c =
    let key = c.key-key.result.now in
    let asked = named_check (kinds_of c.args.family) key c.args.style in
    let test = ap (λ k. bytes_eq key k) (sym c.first_key-least.ensures) ∙ sym c.is_same.ensures in
    on_any (sooner walk_cmp) (kind_stop (kinds_of c.args.family) c.args.style (least_key c.args.fields.now)) c.args.fields.now c.loop-at.at key _ c.loop-at.first c.in_ok-first.first c.if-is_same.fault c.key-key.ensures c.loop-at.invariant c.in_ok-first.ensures
    (λ value at. elim c.if-is_same.branch [
      | check_kinds-then-is_same+in_ok-fault w ↦
          ap (λ b. (key, if b then asked value else here Twice)) (test ∙ w.if-is_same.true)
          ∙ ap (λ v. (key, asked v)) (same_there (values_of c.args.fields.now) c.loop-at.at value w.value.result.now at w.value.ensures)
          ∙ ap (λ f. (key, f)) (sym (w.fault-is ∙ w.in_ok-fault.ensures ∙ sym (w.kind_shape.ensures.shape c.args.style w.value.result.now)))
      | check_kinds-else-is_same w ↦
          ap (λ b. (key, if b then asked value else here Twice)) (test ∙ w.if-is_same.false)
          ∙ ap (λ f. (key, f)) (sym (w.fault-is ∙ w.here-fault.ensures))
    ])

pub check_numbers-loop-at-preserved : goal.check_numbers-loop-at-preserved
check_numbers-loop-at-preserved t c =
    let key = c.key-key.result.now in
    let asked = meaning c.args.element Texts in
    let twice = same_twins same_number c.args.fields.now (map entry_view c.args.ordered.now) key c.requires.all in
    let test = sym twice ∙ sym c.has_twin.ensures in
    on_any (sooner number_cmp) (number_stop (meaning c.args.element) c.args.fields.now) c.args.fields.now c.loop-at.at key _ c.loop-at.first c.in_ok-first.first c.if-has_twin.fault c.key-key.ensures c.loop-at.invariant c.in_ok-first.ensures
    (λ value at. elim c.if-has_twin.branch [
      | check_numbers-then-has_twin w ↦
          ap (λ b. (key, if b then here Twice else asked value)) (test ∙ w.if-has_twin.true)
          ∙ ap (λ f. (key, f)) (sym (w.fault-is ∙ w.here-fault.ensures))
      | check_numbers-else-has_twin+in_ok-fault w ↦
          ap (λ b. (key, if b then here Twice else asked value)) (test ∙ w.if-has_twin.false)
          ∙ ap (λ v. (key, asked v)) (same_there (values_of c.args.fields.now) c.loop-at.at value w.value.result.now at w.value.ensures)
          ∙ ap (λ f. (key, f)) (sym (w.fault-is ∙ w.in_ok-fault.ensures))
    ])

pub check_row-returns-in-Some-next_under : goal.check_row-returns-in-Some-next_under
check_row-returns-in-Some-next_under t c =
    let row : Row = record { key = c.args.key.now; required = c.args.required; check = meaning c.args.shape } in
    let stops = row_two c.args.style row c.args.fields.now c.in-Some.at c.in-Some-next_under.second c.key-one.result.now c.key-two.result.now c.value.result.now c.in-Some.ensures c.in-Some-next_under.ensures c.key-one.ensures c.value.ensures c.key-two.ensures in
    ok_same _ _ _ (ap (λ f. sooner walk_cmp c.in_ok-first.first (c.key-two.result.now, f)) c.here-twice.ensures
    ∙ ap (λ first. sooner walk_cmp first (c.key-two.result.now, here Twice)) (c.in_ok-first.ensures ∙ ap (λ f. sooner walk_cmp c.args.first (c.key-one.result.now, f)) c.in_ok-fault.ensures)
    ∙ ap (fold (sooner walk_cmp) c.args.first) (sym stops)) c.note-in-Some-next_under.ensures

pub check_row-returns-in-None : goal.check_row-returns-in-None
check_row-returns-in-None t c =
    let row : Row = record { key = c.args.key.now; required = c.args.required; check = meaning c.args.shape } in
    let stops = row_one c.args.style row c.args.fields.now c.in-Some.at c.key-one.result.now c.value.result.now c.in-Some.ensures c.key-one.ensures c.value.ensures c.in-None.ensures in
    c.in_ok-first.ensures
    ∙ ap (λ f. sooner walk_cmp c.args.first (c.key-one.result.now, f)) c.in_ok-fault.ensures
    ∙ ap (fold (sooner walk_cmp) c.args.first) (sym stops)

-- Of a shape that asks for a table, what is asked of its entries.
entries_meaning : (asked : Shape) (style : Style) (tree : Tree) → (asked ≡ shape.Anything → ⊥) → (asked ≡ shape.Flag → ⊥) → (asked ≡ shape.Time → ⊥)
    → ((range : TextRange) → asked ≡ shape.Text range → ⊥) → ((range : NumberRange) → asked ≡ shape.Number range → ⊥)
    → (asked ≡ shape.Texts → ⊥) → ((table : Table) → asked ≡ shape.Tables table → ⊥)
    → in_entries (entries_fault asked style) (entries_in style tree) ≡ meaning asked style tree
entries_meaning shape.Anything style tree a b c d e f g = absurd (a refl)
entries_meaning shape.Flag style tree a b c d e f g = absurd (b refl)
entries_meaning shape.Time style tree a b c d e f g = absurd (c refl)
entries_meaning (shape.Text range) style tree a b c d e f g = absurd (d range refl)
entries_meaning (shape.Number range) style tree a b c d e f g = absurd (e range refl)
entries_meaning shape.Texts style tree a b c d e f g = absurd (f refl)
entries_meaning (shape.Tables table) style tree a b c d e f g = absurd (g table refl)
entries_meaning shape.AnyTable style tree a b c d e f g = refl
entries_meaning shape.Lines style tree a b c d e f g = refl
entries_meaning (shape.Options table) style tree a b c d e f g = refl
entries_meaning (shape.Open table) style tree a b c d e f g = refl
entries_meaning (shape.Names declared) style tree a b c d e f g = refl
entries_meaning (shape.Kinds family) style tree a b c d e f g = refl

pub check-returns-in_default : goal.check-returns-in_default
check-returns-in_default t c =
    ok_same _ _ _ (entries_meaning c.args.shape c.args.style c.args.tree.now c.in_default.not-Anything c.in_default.not-Flag c.in_default.not-Time c.in_default.not-Text c.in_default.not-Number c.in_default.not-Texts c.in_default.not-Tables) c.check_entries.ensures
