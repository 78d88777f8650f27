-- The cut of a line at its first blank, and what each command says of the lines that begin with it.
use Rattle.std.proofs.Common.{◌≡◌, ◌≢◌, ℕ, ◌==◌, inl, inr, List, [], ◌∷◌, ◌++◌, length, get_or, All, Bool, true, false, refl, sym, ap, ◌∙◌, subst, arith, codes, IsTrue, Option, Some, None, not, if◌then◌else◌}
use Rattle.std.proofs.lemmas.List.{append_cancel_left}
use Rattle.std.proofs.lemmas.List.Splits.{slice_split_none, slice_split_at, length-slice_split}
use Rattle.std.proofs.lemmas.Bool.Decides.{eqb_tells}
use Rattle.std.specs.List.{slice_split, list_all}
use Rattle.std.specs.Str.{bytes_eq}
use Rattle.std.proofs.lemmas.List.Sums.{AllPass-from_list_all}
use Rattle.std.proofs.lemmas.Bool.{false≢true}
use Rattle.ip_net.specs.declared.ip.Ip.{Ip}
use Rattle.ip_net.specs.Texts.{Writes}
use Rattle.replay_script.specs.declared.lines.Command.{Command}
use Rattle.replay_script.specs.declared.lines.Command.TheVariants as command
use Rattle.replay_script.specs.declared.lines.LinkKind.{LinkKind}
use Rattle.replay_script.specs.declared.lines.LinkKind.TheVariants as on
use Rattle.replay_script.specs.declared.lines.Line.{Line}
use Rattle.replay_script.specs.declared.lines.Line.TheVariants as line
use Rattle.replay_script.specs.Lines.{Cuts, name_of, command_of, link_command, IsWord, IsArrival, IsSmallNumber, IsGift, IsCount, IsTaking, IsMark, up_text, IsRest, IsLone, IsLine}

abbrev pub is_blank : ℕ → Bool
is_blank b = b == 32

no_blank : (b : ℕ) → b ≢ 32 → is_blank b ≡ false
no_blank b h = elim (eqb_tells b 32) [ inl yes_ ↦ absurd (h yes_.1) | inr no_ ↦ no_.0 ]

no_blanks : (text : List ℕ) → All (λ b. b ≢ 32) text → All (λ b. is_blank b ≡ false) text
no_blanks text h = λ k d l. no_blank (get_or text k d) (h k d l)

head_same : (a b : List ℕ) (cs bs : List (List ℕ)) → a ∷ cs ≡ b ∷ bs → a ≡ b
head_same a b cs bs e = cc

cons_same : (b d : List ℕ) (x : ℕ) → x ∷ b ≡ x ∷ d → b ≡ d
cons_same b d x e = cc

-- the cut is the only one
pub cut_same : (text a b c d : List ℕ) → Cuts text a b → Cuts text c d → (a ≡ c) × (b ≡ d)
cut_same text a b c d p q =
    let e : a ++ 32 ∷ b ≡ c ++ 32 ∷ d = sym p.text_is ∙ q.text_is in
    let same : a ≡ c = head_same a c (slice_split is_blank b) (slice_split is_blank d)
    (sym (slice_split_at is_blank a 32 b (no_blanks a p.no_blank) refl) ∙ ap (slice_split is_blank) e ∙ slice_split_at is_blank c 32 d (no_blanks c q.no_blank) refl) in
    (same, cons_same b d 32 (append_cancel_left c (32 ∷ b) (32 ∷ d) (ap (λ x. x ++ 32 ∷ b) (sym same) ∙ e)))

never_empty : (xs : List ℕ) → [] ≡ slice_split is_blank xs → ⊥
never_empty xs q = let h : length (slice_split is_blank xs) ≡ 0 = ap length (sym q) in omega (arith, h, length-slice_split is_blank xs)

-- where there is no blank there is no cut
pub never_cut : (text : List ℕ) → All (λ x. x ≢ 32) text → (a b : List ℕ) → ¬ (Cuts text a b)
never_cut text h a b = λ cut. (
    let parts : text ∷ [] ≡ a ∷ slice_split is_blank b =
    sym (slice_split_none is_blank text (no_blanks text h)) ∙ ap (slice_split is_blank) cut.text_is ∙ slice_split_at is_blank a 32 b (no_blanks a cut.no_blank) refl in
    let none : [] ≡ slice_split is_blank b = cc in
    never_empty b none)

pub arrive_lines : (text : List ℕ) → ((entry : List ℕ) (peer : Ip) → ¬ (IsArrival text entry peer)) → (l : Line) → command_of l ≡ command.Arrive → ¬ (IsRest text l)
arrive_lines text none line.ConfigFile e = absurd (let f : ⊥ = cc in f)
arrive_lines text none (line.ConfigConsul root) e = absurd (let f : ⊥ = cc in f)
arrive_lines text none line.Publish e = absurd (let f : ⊥ = cc in f)
arrive_lines text none (line.Arrive entry peer) e = none entry.now peer
arrive_lines text none (line.Bytes link given) e = absurd (let f : ⊥ = cc in f)
arrive_lines text none (line.OnLink on.End link) e = absurd (let f : ⊥ = cc in f)
arrive_lines text none (line.OnLink on.Fail link) e = absurd (let f : ⊥ = cc in f)
arrive_lines text none (line.OnLink on.Pin link) e = absurd (let f : ⊥ = cc in f)
arrive_lines text none (line.OnLink on.Look link) e = absurd (let f : ⊥ = cc in f)
arrive_lines text none (line.OnLink on.Draw link) e = absurd (let f : ⊥ = cc in f)
arrive_lines text none (line.OnLink on.Dial link) e = absurd (let f : ⊥ = cc in f)
arrive_lines text none (line.Took link count) e = absurd (let f : ⊥ = cc in f)
arrive_lines text none (line.Mark node server up) e = absurd (let f : ⊥ = cc in f)
arrive_lines text none (line.Tick now) e = absurd (let f : ⊥ = cc in f)
arrive_lines text none line.Stop e = absurd (let f : ⊥ = cc in f)

pub bytes_lines : (text : List ℕ) → ((link : ℕ) (given : List ℕ) → ¬ (IsGift text link given)) → (l : Line) → command_of l ≡ command.Bytes → ¬ (IsRest text l)
bytes_lines text none line.ConfigFile e = absurd (let f : ⊥ = cc in f)
bytes_lines text none (line.ConfigConsul root) e = absurd (let f : ⊥ = cc in f)
bytes_lines text none line.Publish e = absurd (let f : ⊥ = cc in f)
bytes_lines text none (line.Arrive entry peer) e = absurd (let f : ⊥ = cc in f)
bytes_lines text none (line.Bytes link given) e = none link given.now
bytes_lines text none (line.OnLink on.End link) e = absurd (let f : ⊥ = cc in f)
bytes_lines text none (line.OnLink on.Fail link) e = absurd (let f : ⊥ = cc in f)
bytes_lines text none (line.OnLink on.Pin link) e = absurd (let f : ⊥ = cc in f)
bytes_lines text none (line.OnLink on.Look link) e = absurd (let f : ⊥ = cc in f)
bytes_lines text none (line.OnLink on.Draw link) e = absurd (let f : ⊥ = cc in f)
bytes_lines text none (line.OnLink on.Dial link) e = absurd (let f : ⊥ = cc in f)
bytes_lines text none (line.Took link count) e = absurd (let f : ⊥ = cc in f)
bytes_lines text none (line.Mark node server up) e = absurd (let f : ⊥ = cc in f)
bytes_lines text none (line.Tick now) e = absurd (let f : ⊥ = cc in f)
bytes_lines text none line.Stop e = absurd (let f : ⊥ = cc in f)

pub took_lines : (text : List ℕ) → ((link : ℕ) (count : Option ℕ) → ¬ (IsTaking text link count)) → (l : Line) → command_of l ≡ command.Took → ¬ (IsRest text l)
took_lines text none line.ConfigFile e = absurd (let f : ⊥ = cc in f)
took_lines text none (line.ConfigConsul root) e = absurd (let f : ⊥ = cc in f)
took_lines text none line.Publish e = absurd (let f : ⊥ = cc in f)
took_lines text none (line.Arrive entry peer) e = absurd (let f : ⊥ = cc in f)
took_lines text none (line.Bytes link given) e = absurd (let f : ⊥ = cc in f)
took_lines text none (line.OnLink on.End link) e = absurd (let f : ⊥ = cc in f)
took_lines text none (line.OnLink on.Fail link) e = absurd (let f : ⊥ = cc in f)
took_lines text none (line.OnLink on.Pin link) e = absurd (let f : ⊥ = cc in f)
took_lines text none (line.OnLink on.Look link) e = absurd (let f : ⊥ = cc in f)
took_lines text none (line.OnLink on.Draw link) e = absurd (let f : ⊥ = cc in f)
took_lines text none (line.OnLink on.Dial link) e = absurd (let f : ⊥ = cc in f)
took_lines text none (line.Took link count) e = none link count
took_lines text none (line.Mark node server up) e = absurd (let f : ⊥ = cc in f)
took_lines text none (line.Tick now) e = absurd (let f : ⊥ = cc in f)
took_lines text none line.Stop e = absurd (let f : ⊥ = cc in f)

pub mark_lines : (text : List ℕ) → ((node server : ℕ) (up : Bool) → ¬ (IsMark text node server up)) → (l : Line) → command_of l ≡ command.Mark → ¬ (IsRest text l)
mark_lines text none line.ConfigFile e = absurd (let f : ⊥ = cc in f)
mark_lines text none (line.ConfigConsul root) e = absurd (let f : ⊥ = cc in f)
mark_lines text none line.Publish e = absurd (let f : ⊥ = cc in f)
mark_lines text none (line.Arrive entry peer) e = absurd (let f : ⊥ = cc in f)
mark_lines text none (line.Bytes link given) e = absurd (let f : ⊥ = cc in f)
mark_lines text none (line.OnLink on.End link) e = absurd (let f : ⊥ = cc in f)
mark_lines text none (line.OnLink on.Fail link) e = absurd (let f : ⊥ = cc in f)
mark_lines text none (line.OnLink on.Pin link) e = absurd (let f : ⊥ = cc in f)
mark_lines text none (line.OnLink on.Look link) e = absurd (let f : ⊥ = cc in f)
mark_lines text none (line.OnLink on.Draw link) e = absurd (let f : ⊥ = cc in f)
mark_lines text none (line.OnLink on.Dial link) e = absurd (let f : ⊥ = cc in f)
mark_lines text none (line.Took link count) e = absurd (let f : ⊥ = cc in f)
mark_lines text none (line.Mark node server up) e = none node server up
mark_lines text none (line.Tick now) e = absurd (let f : ⊥ = cc in f)
mark_lines text none line.Stop e = absurd (let f : ⊥ = cc in f)

pub config_lines : (text : List ℕ) → ((text ≢ codes "file") × ((root : List ℕ) → ¬ (Cuts text (codes "consul") root))) → (l : Line) → command_of l ≡ command.Config → ¬ (IsRest text l)
config_lines text none line.ConfigFile e = none.0
config_lines text none (line.ConfigConsul root) e = none.1 root.now
config_lines text none line.Publish e = absurd (let f : ⊥ = cc in f)
config_lines text none (line.Arrive entry peer) e = absurd (let f : ⊥ = cc in f)
config_lines text none (line.Bytes link given) e = absurd (let f : ⊥ = cc in f)
config_lines text none (line.OnLink on.End link) e = absurd (let f : ⊥ = cc in f)
config_lines text none (line.OnLink on.Fail link) e = absurd (let f : ⊥ = cc in f)
config_lines text none (line.OnLink on.Pin link) e = absurd (let f : ⊥ = cc in f)
config_lines text none (line.OnLink on.Look link) e = absurd (let f : ⊥ = cc in f)
config_lines text none (line.OnLink on.Draw link) e = absurd (let f : ⊥ = cc in f)
config_lines text none (line.OnLink on.Dial link) e = absurd (let f : ⊥ = cc in f)
config_lines text none (line.Took link count) e = absurd (let f : ⊥ = cc in f)
config_lines text none (line.Mark node server up) e = absurd (let f : ⊥ = cc in f)
config_lines text none (line.Tick now) e = absurd (let f : ⊥ = cc in f)
config_lines text none line.Stop e = absurd (let f : ⊥ = cc in f)

-- a link command is the command of one kind of event alone
link_lines_of : (text : List ℕ) (kind : LinkKind) → ((link : ℕ) → ¬ (IsSmallNumber link text)) → (l : Line) → command_of l ≡ link_command kind → ¬ (IsRest text l)
link_lines_of text on.End none line.ConfigFile e = absurd (let f : ⊥ = cc in f)
link_lines_of text on.End none (line.ConfigConsul root) e = absurd (let f : ⊥ = cc in f)
link_lines_of text on.End none line.Publish e = absurd (let f : ⊥ = cc in f)
link_lines_of text on.End none (line.Arrive entry peer) e = absurd (let f : ⊥ = cc in f)
link_lines_of text on.End none (line.Bytes link given) e = absurd (let f : ⊥ = cc in f)
link_lines_of text on.End none (line.OnLink on.End link) e = none link
link_lines_of text on.End none (line.OnLink on.Fail link) e = none link
link_lines_of text on.End none (line.OnLink on.Pin link) e = none link
link_lines_of text on.End none (line.OnLink on.Look link) e = none link
link_lines_of text on.End none (line.OnLink on.Draw link) e = none link
link_lines_of text on.End none (line.OnLink on.Dial link) e = none link
link_lines_of text on.End none (line.Took link count) e = absurd (let f : ⊥ = cc in f)
link_lines_of text on.End none (line.Mark node server up) e = absurd (let f : ⊥ = cc in f)
link_lines_of text on.End none (line.Tick now) e = absurd (let f : ⊥ = cc in f)
link_lines_of text on.End none line.Stop e = absurd (let f : ⊥ = cc in f)
link_lines_of text on.Fail none line.ConfigFile e = absurd (let f : ⊥ = cc in f)
link_lines_of text on.Fail none (line.ConfigConsul root) e = absurd (let f : ⊥ = cc in f)
link_lines_of text on.Fail none line.Publish e = absurd (let f : ⊥ = cc in f)
link_lines_of text on.Fail none (line.Arrive entry peer) e = absurd (let f : ⊥ = cc in f)
link_lines_of text on.Fail none (line.Bytes link given) e = absurd (let f : ⊥ = cc in f)
link_lines_of text on.Fail none (line.OnLink on.End link) e = none link
link_lines_of text on.Fail none (line.OnLink on.Fail link) e = none link
link_lines_of text on.Fail none (line.OnLink on.Pin link) e = none link
link_lines_of text on.Fail none (line.OnLink on.Look link) e = none link
link_lines_of text on.Fail none (line.OnLink on.Draw link) e = none link
link_lines_of text on.Fail none (line.OnLink on.Dial link) e = none link
link_lines_of text on.Fail none (line.Took link count) e = absurd (let f : ⊥ = cc in f)
link_lines_of text on.Fail none (line.Mark node server up) e = absurd (let f : ⊥ = cc in f)
link_lines_of text on.Fail none (line.Tick now) e = absurd (let f : ⊥ = cc in f)
link_lines_of text on.Fail none line.Stop e = absurd (let f : ⊥ = cc in f)
link_lines_of text on.Pin none line.ConfigFile e = absurd (let f : ⊥ = cc in f)
link_lines_of text on.Pin none (line.ConfigConsul root) e = absurd (let f : ⊥ = cc in f)
link_lines_of text on.Pin none line.Publish e = absurd (let f : ⊥ = cc in f)
link_lines_of text on.Pin none (line.Arrive entry peer) e = absurd (let f : ⊥ = cc in f)
link_lines_of text on.Pin none (line.Bytes link given) e = absurd (let f : ⊥ = cc in f)
link_lines_of text on.Pin none (line.OnLink on.End link) e = none link
link_lines_of text on.Pin none (line.OnLink on.Fail link) e = none link
link_lines_of text on.Pin none (line.OnLink on.Pin link) e = none link
link_lines_of text on.Pin none (line.OnLink on.Look link) e = none link
link_lines_of text on.Pin none (line.OnLink on.Draw link) e = none link
link_lines_of text on.Pin none (line.OnLink on.Dial link) e = none link
link_lines_of text on.Pin none (line.Took link count) e = absurd (let f : ⊥ = cc in f)
link_lines_of text on.Pin none (line.Mark node server up) e = absurd (let f : ⊥ = cc in f)
link_lines_of text on.Pin none (line.Tick now) e = absurd (let f : ⊥ = cc in f)
link_lines_of text on.Pin none line.Stop e = absurd (let f : ⊥ = cc in f)
link_lines_of text on.Look none line.ConfigFile e = absurd (let f : ⊥ = cc in f)
link_lines_of text on.Look none (line.ConfigConsul root) e = absurd (let f : ⊥ = cc in f)
link_lines_of text on.Look none line.Publish e = absurd (let f : ⊥ = cc in f)
link_lines_of text on.Look none (line.Arrive entry peer) e = absurd (let f : ⊥ = cc in f)
link_lines_of text on.Look none (line.Bytes link given) e = absurd (let f : ⊥ = cc in f)
link_lines_of text on.Look none (line.OnLink on.End link) e = none link
link_lines_of text on.Look none (line.OnLink on.Fail link) e = none link
link_lines_of text on.Look none (line.OnLink on.Pin link) e = none link
link_lines_of text on.Look none (line.OnLink on.Look link) e = none link
link_lines_of text on.Look none (line.OnLink on.Draw link) e = none link
link_lines_of text on.Look none (line.OnLink on.Dial link) e = none link
link_lines_of text on.Look none (line.Took link count) e = absurd (let f : ⊥ = cc in f)
link_lines_of text on.Look none (line.Mark node server up) e = absurd (let f : ⊥ = cc in f)
link_lines_of text on.Look none (line.Tick now) e = absurd (let f : ⊥ = cc in f)
link_lines_of text on.Look none line.Stop e = absurd (let f : ⊥ = cc in f)
link_lines_of text on.Draw none line.ConfigFile e = absurd (let f : ⊥ = cc in f)
link_lines_of text on.Draw none (line.ConfigConsul root) e = absurd (let f : ⊥ = cc in f)
link_lines_of text on.Draw none line.Publish e = absurd (let f : ⊥ = cc in f)
link_lines_of text on.Draw none (line.Arrive entry peer) e = absurd (let f : ⊥ = cc in f)
link_lines_of text on.Draw none (line.Bytes link given) e = absurd (let f : ⊥ = cc in f)
link_lines_of text on.Draw none (line.OnLink on.End link) e = none link
link_lines_of text on.Draw none (line.OnLink on.Fail link) e = none link
link_lines_of text on.Draw none (line.OnLink on.Pin link) e = none link
link_lines_of text on.Draw none (line.OnLink on.Look link) e = none link
link_lines_of text on.Draw none (line.OnLink on.Draw link) e = none link
link_lines_of text on.Draw none (line.OnLink on.Dial link) e = none link
link_lines_of text on.Draw none (line.Took link count) e = absurd (let f : ⊥ = cc in f)
link_lines_of text on.Draw none (line.Mark node server up) e = absurd (let f : ⊥ = cc in f)
link_lines_of text on.Draw none (line.Tick now) e = absurd (let f : ⊥ = cc in f)
link_lines_of text on.Draw none line.Stop e = absurd (let f : ⊥ = cc in f)
link_lines_of text on.Dial none line.ConfigFile e = absurd (let f : ⊥ = cc in f)
link_lines_of text on.Dial none (line.ConfigConsul root) e = absurd (let f : ⊥ = cc in f)
link_lines_of text on.Dial none line.Publish e = absurd (let f : ⊥ = cc in f)
link_lines_of text on.Dial none (line.Arrive entry peer) e = absurd (let f : ⊥ = cc in f)
link_lines_of text on.Dial none (line.Bytes link given) e = absurd (let f : ⊥ = cc in f)
link_lines_of text on.Dial none (line.OnLink on.End link) e = none link
link_lines_of text on.Dial none (line.OnLink on.Fail link) e = none link
link_lines_of text on.Dial none (line.OnLink on.Pin link) e = none link
link_lines_of text on.Dial none (line.OnLink on.Look link) e = none link
link_lines_of text on.Dial none (line.OnLink on.Draw link) e = none link
link_lines_of text on.Dial none (line.OnLink on.Dial link) e = none link
link_lines_of text on.Dial none (line.Took link count) e = absurd (let f : ⊥ = cc in f)
link_lines_of text on.Dial none (line.Mark node server up) e = absurd (let f : ⊥ = cc in f)
link_lines_of text on.Dial none (line.Tick now) e = absurd (let f : ⊥ = cc in f)
link_lines_of text on.Dial none line.Stop e = absurd (let f : ⊥ = cc in f)

pub link_lines : (text : List ℕ) (kind : LinkKind) → ((link : ℕ) → ¬ (IsSmallNumber link text)) → (l : Line) → command_of l ≡ link_command kind → ¬ (IsRest text l)
link_lines text kind none l e = link_lines_of text kind none l e

-- why there is no arrival: the text isn't cut, its word is none, or its address is none
pub no_arrival_word : (text a b : List ℕ) → Cuts text a b → (IsWord a → ⊥) → (entry : List ℕ) (peer : Ip) → ¬ (IsArrival text entry peer)
no_arrival_word text a b cut h entry peer = λ r. h (subst IsWord (cut_same text entry r.0 a b r.1 cut).0 r.2)

pub no_arrival_ip : (text a b : List ℕ) → Cuts text a b → ((ip : Ip) → ¬ (Writes b ip)) → (entry : List ℕ) (peer : Ip) → ¬ (IsArrival text entry peer)
no_arrival_ip text a b cut h entry peer = λ r. h peer (subst (λ (t : List ℕ). Writes t peer) (cut_same text entry r.0 a b r.1 cut).1 r.3)

pub no_gift : (text a b : List ℕ) → Cuts text a b → ((n : ℕ) → ¬ (IsSmallNumber n a)) → (link : ℕ) (given : List ℕ) → ¬ (IsGift text link given)
no_gift text a b cut h link given = λ r. h link (subst (λ (t : List ℕ). IsSmallNumber link t) (cut_same text r.0 given a b r.1 cut).0 r.2)

pub no_taking_link : (text a b : List ℕ) → Cuts text a b → ((n : ℕ) → ¬ (IsSmallNumber n a)) → (link : ℕ) (count : Option ℕ) → ¬ (IsTaking text link count)
no_taking_link text a b cut h link count = λ r. h link (subst (λ (t : List ℕ). IsSmallNumber link t) (cut_same text r.0 r.1 a b r.2 cut).0 r.3)

pub no_taking_count : (text a b : List ℕ) → Cuts text a b → ((count : Option ℕ) → ¬ (IsCount b count)) → (link : ℕ) (count : Option ℕ) → ¬ (IsTaking text link count)
no_taking_count text a b cut h link count = λ r. h count (subst (λ (t : List ℕ). IsCount t count) (cut_same text r.0 r.1 a b r.2 cut).1 r.4)

pub no_mark_node : (text a b : List ℕ) → Cuts text a b → ((n : ℕ) → ¬ (IsSmallNumber n a)) → (node server : ℕ) (up : Bool) → ¬ (IsMark text node server up)
no_mark_node text a b cut h node server up = λ r. h node (subst (λ (t : List ℕ). IsSmallNumber node t) (cut_same text r.0 r.1 a b r.3 cut).0 r.5)

more_is : (text a b c d : List ℕ) → Cuts text a b → Cuts text c d → (x y : List ℕ) → Cuts d x y → Cuts b x y
more_is text a b c d p q x y cut = subst (λ (t : List ℕ). Cuts t x y) (sym (cut_same text a b c d p q).1) cut

pub no_mark_cut : (text a b : List ℕ) → Cuts text a b → ((x y : List ℕ) → ¬ (Cuts b x y)) → (node server : ℕ) (up : Bool) → ¬ (IsMark text node server up)
no_mark_cut text a b cut h node server up = λ r. h r.2 (up_text up) (more_is text a b r.0 r.1 cut r.3 r.2 (up_text up) r.4)

pub no_mark_server : (text a b x y : List ℕ) → Cuts text a b → Cuts b x y → ((n : ℕ) → ¬ (IsSmallNumber n x)) → (node server : ℕ) (up : Bool) → ¬ (IsMark text node server up)
no_mark_server text a b x y cut more h node server up = λ r. h server (subst (λ (t : List ℕ). IsSmallNumber server t) (cut_same b r.2 (up_text up) x y (more_is text a b r.0 r.1 cut r.3 r.2 (up_text up) r.4) more).0 r.6)

pub no_mark_up : (text a b x y : List ℕ) → Cuts text a b → Cuts b x y → ((up : Bool) → y ≢ up_text up) → (node server : ℕ) (up : Bool) → ¬ (IsMark text node server up)
no_mark_up text a b x y cut more h node server up = λ r. h up (sym (cut_same b r.2 (up_text up) x y (more_is text a b r.0 r.1 cut r.3 r.2 (up_text up) r.4) more).1)

-- the command of a name
abbrev named : List ℕ → Option Command
named w =
    if bytes_eq w (codes "config") then Some command.Config
    else if bytes_eq w (codes "publish") then Some command.Publish
    else if bytes_eq w (codes "arrive") then Some command.Arrive
    else if bytes_eq w (codes "bytes") then Some command.Bytes
    else if bytes_eq w (codes "end") then Some command.End
    else if bytes_eq w (codes "fail") then Some command.Fail
    else if bytes_eq w (codes "pin") then Some command.Pin
    else if bytes_eq w (codes "look") then Some command.Look
    else if bytes_eq w (codes "draw") then Some command.Draw
    else if bytes_eq w (codes "dial") then Some command.Dial
    else if bytes_eq w (codes "took") then Some command.Took
    else if bytes_eq w (codes "mark") then Some command.Mark
    else if bytes_eq w (codes "tick") then Some command.Tick
    else if bytes_eq w (codes "stop") then Some command.Stop
    else None

named_name : (c : Command) → named (name_of c) ≡ Some c
named_name command.Config = refl
named_name command.Publish = refl
named_name command.Arrive = refl
named_name command.Bytes = refl
named_name command.End = refl
named_name command.Fail = refl
named_name command.Pin = refl
named_name command.Look = refl
named_name command.Draw = refl
named_name command.Dial = refl
named_name command.Took = refl
named_name command.Mark = refl
named_name command.Tick = refl
named_name command.Stop = refl

some_same : (c d : Command) → Some c ≡ Some d → c ≡ d
some_same c d e = cc

name_same : (c d : Command) → name_of c ≡ name_of d → c ≡ d
name_same c d e = some_same c d (sym (named_name c) ∙ ap named e ∙ named_name d)

plain_all : (xs : List ℕ) → list_all (λ b. not (b == 32)) xs ≡ true → All (λ b. b ≢ 32) xs
plain_all xs h = λ k d l. λ e. false≢true (sym (ap (λ b. not (b == 32)) e) ∙ (AllPass-from_list_all (λ b. not (b == 32)) xs h) k d l)

name_plain : (c : Command) → list_all (λ b. not (b == 32)) (name_of c) ≡ true
name_plain command.Config = refl
name_plain command.Publish = refl
name_plain command.Arrive = refl
name_plain command.Bytes = refl
name_plain command.End = refl
name_plain command.Fail = refl
name_plain command.Pin = refl
name_plain command.Look = refl
name_plain command.Draw = refl
name_plain command.Dial = refl
name_plain command.Took = refl
name_plain command.Mark = refl
name_plain command.Tick = refl
name_plain command.Stop = refl

-- a line of one word isn't cut
not_lone : (text a b : List ℕ) (c : Command) → Cuts text a b → text ≡ name_of c → ⊥
not_lone text a b c cut e = never_cut (name_of c) (plain_all (name_of c) (name_plain c)) a b (subst (λ (t : List ℕ). Cuts t a b) e cut)

-- a line whose first word is no command
pub no_command : (text a b : List ℕ) → Cuts text a b → ((c : Command) → a ≢ name_of c) → (l : Line) → ¬ (IsLine text l)
no_command text a b cut h l = λ is. elim is [
  | inl lone ↦ not_lone text a b (command_of l) cut lone.1
  | inr more ↦ h (command_of l) (cut_same text a b (name_of (command_of l)) more.0 cut more.1).0
]

-- a line whose first word is a command, and whose rest isn't that command's
pub no_rest : (text a b : List ℕ) (c : Command) → Cuts text a b → a ≡ name_of c → ((l : Line) → command_of l ≡ c → ¬ (IsRest b l)) → (l : Line) → ¬ (IsLine text l)
no_rest text a b c cut name h l = λ is. elim is [
  | inl lone ↦ not_lone text a b (command_of l) cut lone.1
  | inr more ↦ (let same = cut_same text a b (name_of (command_of l)) more.0 cut more.1 in
      h l (name_same (command_of l) c (sym same.0 ∙ name)) (subst (λ (t : List ℕ). IsRest t l) (sym same.1) more.2))
]

pub has_rest : (text a b : List ℕ) (c : Command) (l : Line) → Cuts text a b → a ≡ name_of c → command_of l ≡ c → IsRest b l → IsLine text l
has_rest text a b c l cut name e r = inr (b, subst (λ (t : List ℕ). Cuts text t b) (name ∙ ap name_of (sym e)) cut, r)

-- a line that isn't cut is one word, if it is any
pub only_lone : (text : List ℕ) → ((a b : List ℕ) → ¬ (Cuts text a b)) → ((l : Line) → IsLone l → text ≢ name_of (command_of l)) → (l : Line) → ¬ (IsLine text l)
only_lone text never h l = λ is. elim is [
  | inl lone ↦ h l lone.0 lone.1
  | inr more ↦ never (name_of (command_of l)) more.0 more.1
]

pub not_from : (b : Bool) → b ≡ false → IsTrue b → ⊥
not_from b is t = let f : true ≡ false = cc in absurd (false≢true (sym f))

-- `file` isn't cut
pub not_file : (text a b : List ℕ) → Cuts text a b → text ≢ codes "file"
not_file text a b cut = λ e. never_cut (codes "file") (plain_all (codes "file") refl) a b (subst (λ (t : List ℕ). Cuts t a b) e cut)

pub no_consul : (text a b : List ℕ) → Cuts text a b → a ≢ codes "consul" → (root : List ℕ) → ¬ (Cuts text (codes "consul") root)
no_consul text a b cut h root = λ other. h (cut_same text a b (codes "consul") root cut other).0

pub not_consul : (text : List ℕ) → All (λ x. x ≢ 32) text → (root : List ℕ) → ¬ (Cuts text (codes "consul") root)
not_consul text h root = never_cut text h (codes "consul") root
