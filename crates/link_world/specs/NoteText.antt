-- The text of a note: one line.
use Rattle.std.specs.Prelude.{ℕ, List, [], ◌∷◌, ◌++◌, codes, Option, Some, None}
use Rattle.std.specs.List.{flat_map}
use Rattle.std.specs.Fmt.{decimal}
use Rattle.link_world.specs.declared.note.Note.{Note}
use Rattle.link_world.specs.declared.note.NoteBody.{NoteBody}
use Rattle.link_world.specs.declared.note.NoteBody.TheVariants.{Request, End}
use Rattle.link_world.specs.declared.note.RequestNote.{RequestNote}
use Rattle.link_world.specs.declared.note.Look.{Look}
use Rattle.link_world.specs.declared.note.NodePick.{NodePick}
use Rattle.link_world.specs.declared.note.NodeTurn.{NodeTurn}
use Rattle.link_world.specs.declared.note.Cause.{Cause}
use Rattle.link_world.specs.declared.note.Cause.TheVariants.{Passed, Undecided, Head, HeadTooLarge, NoRouter, Stopped, BodyTooLarge, NoChild, Spent, BackFailed, BackBad, BackLate}
use Rattle.link_world.specs.declared.note.HeadName.{HeadName}
use Rattle.link_world.specs.declared.note.HeadName.TheVariants.{BadHead, NoHost, TwoHosts, BadLength, BothLengths, BadCoding, BadTarget, BadEscape}
use Rattle.link_world.specs.declared.note.EndCause.{EndCause}
use Rattle.link_world.specs.declared.note.EndCause.TheVariants as ends

-- items joined by commas, or a dash where there are none
abbrev pub joined : {T : Type 0} → (T → List ℕ) → List T → List ℕ
joined text [] = codes "-"
joined text (x ∷ xs) = text x ++ flat_map (λ y. 44 ∷ text y) xs

abbrev pub look_text : Look → List ℕ
look_text l = decimal l.node ++ codes ":" ++ decimal l.mask

abbrev pub pick_text : NodePick → List ℕ
pick_text p = decimal p.node ++ codes ":" ++ decimal p.pick.from ++ codes "-" ++ decimal p.pick.to ++ codes ":" ++ decimal p.pick.child

abbrev pub turn_text : NodeTurn → List ℕ
turn_text t = decimal t.node ++ codes ":" ++ decimal t.n ++ codes ":" ++ decimal t.selected

-- the row of a router, or a dash
abbrev pub row_text : Option ℕ → List ℕ
row_text None = codes "-"
row_text (Some row) = decimal row

abbrev pub fault_text : HeadName → List ℕ
fault_text BadHead = codes "BadHead"
fault_text NoHost = codes "NoHost"
fault_text TwoHosts = codes "TwoHosts"
fault_text BadLength = codes "BadLength"
fault_text BothLengths = codes "BothLengths"
fault_text BadCoding = codes "BadCoding"
fault_text BadTarget = codes "BadTarget"
fault_text BadEscape = codes "BadEscape"

-- a name and its numbers; a fault of the head is its own name
abbrev pub cause_text : Cause → List ℕ
cause_text Passed = codes "Passed"
cause_text Undecided = codes "Undecided"
cause_text (Head fault) = fault_text fault
cause_text HeadTooLarge = codes "HeadTooLarge"
cause_text NoRouter = codes "NoRouter"
cause_text (Stopped place) = codes "Stopped " ++ decimal place
cause_text BodyTooLarge = codes "BodyTooLarge"
cause_text NoChild = codes "NoChild"
cause_text (Spent node) = codes "Spent " ++ decimal node
cause_text (BackFailed link) = codes "BackFailed " ++ decimal link
cause_text (BackBad link) = codes "BackBad " ++ decimal link
cause_text (BackLate link base now) = codes "BackLate " ++ decimal link ++ codes " " ++ decimal base ++ codes " " ++ decimal now

-- a cut by the clock prints as a cut
abbrev pub end_text : EndCause → List ℕ
end_text ends.Client = codes "Client"
end_text ends.ClientFailed = codes "ClientFailed"
end_text ends.Asked = codes "Asked"
end_text ends.Refused = codes "Refused"
end_text ends.Unread = codes "Unread"
end_text (ends.Idle base now) = codes "Idle " ++ decimal base ++ codes " " ++ decimal now
end_text ends.Count = codes "Count"
end_text (ends.Cut link) = codes "Cut " ++ decimal link
end_text (ends.CutLate base now) = codes "Cut " ++ decimal base ++ codes " " ++ decimal now
end_text ends.Stopped = codes "Stopped"
end_text ends.Memory = codes "Memory"

-- which request, under which generation, by which router, and what it was answered
abbrev pub answer_text : RequestNote → List ℕ
answer_text r = decimal r.index ++ codes " gen " ++ decimal r.generation ++ codes " router " ++ row_text r.router
    ++ codes " status " ++ decimal r.status ++ codes " " ++ cause_text r.cause

-- what led to the answer
abbrev pub walk_text : RequestNote → List ℕ
walk_text r = codes " looks " ++ joined look_text r.looks ++ codes " picks " ++ joined pick_text r.picks
    ++ codes " turns " ++ joined turn_text r.turns ++ codes " backs " ++ joined decimal r.backs

abbrev pub body_text : NoteBody → List ℕ
body_text (Request r) = answer_text r ++ walk_text r
body_text (End cause) = codes "end " ++ end_text cause

abbrev pub note_line : Note → List ℕ
note_line n = codes "note " ++ decimal n.link ++ codes " " ++ body_text n.body ++ codes "\n"
