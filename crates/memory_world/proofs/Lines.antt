-- What a log tells of a link, record by record.
use Rattle.std.proofs.Common.{◌≡◌, ℕ, List, [], ◌∷◌, ◌++◌, map, refl, sym, ap, ◌∙◌}
use Rattle.std.specs.List.{flat_map}
use Rattle.std.proofs.lemmas.List.Concat.{flat_map-append}
use Rattle.link_world.specs.declared.note.Note.{Note}
use Rattle.link_world.specs.Log.{happening, history_of, taken_by, note_by, taken, notes}
use Rattle.link_world.specs.NoteText.{note_line}
use Rattle.memory_world.specs.declared.record.Record.{Record}
use Rattle.memory_world.specs.Records.{event_of}

pub taken_all : (link : ℕ) (records : List Record) → flat_map (λ (r : Record). taken (happening link (event_of r))) records ≡ taken (history_of link (map event_of records))
taken_all link [] = refl
taken_all link (r ∷ records) =
    ap (λ (xs : List ℕ). taken (happening link (event_of r)) ++ xs) (taken_all link records)
    ∙ sym (flat_map-append taken_by (happening link (event_of r)) (history_of link (map event_of records)))

pub lines_all : (link : ℕ) (records : List Record) → flat_map (λ (r : Record). flat_map note_line (notes (happening link (event_of r)))) records ≡ flat_map note_line (notes (history_of link (map event_of records)))
lines_all link [] = refl
lines_all link (r ∷ records) =
    ap (λ (xs : List ℕ). flat_map note_line (notes (happening link (event_of r))) ++ xs) (lines_all link records)
    ∙ sym (flat_map-append note_line (notes (happening link (event_of r))) (notes (history_of link (map event_of records))))
    ∙ ap (λ (ns : List Note). flat_map note_line ns) (sym (flat_map-append note_by (happening link (event_of r)) (history_of link (map event_of records))))
