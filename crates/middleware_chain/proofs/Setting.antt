-- Lines that are set and removed.
use Rattle.std.proofs.Common.{◌≡◌, ◌∙◌, ℕ, ◌<◌, ◌==◌, zero, suc, List, [], ◌∷◌, ◌++◌, Bool, true, false, not, ◌&&◌, ◌||◌, cond, refl, sym, ap, subst, inl, inr, ◌⊎◌, ⊎_elim, arith, length, codes, Contains, IsTrue, bytes_eq, nat_eq}
use Rattle.std.specs.List.{filter, fold, list_all}
use Rattle.std.specs.Str.{str_to_ascii_lowercase}
use Rattle.std.proofs.lemmas.Bool.{and_from, and_parts, cond-false, false≢true, not_from_true, or_cases}
use Rattle.std.proofs.lemmas.List.Elements.{Contains-append_cases, Contains-append_right}
use Rattle.std.proofs.lemmas.Slice.Eq.{bytes_eq-Decides}
use Rattle.httparse.specs.Grammar.{is_token_byte}
use Rattle.dyn_config.specs.Values.{is_field_name, is_field_value}
use Rattle.head_view.specs.Lines.{Line as Field, has_name}
use Rattle.http_wire.specs.Edits.{set_in, without}
use Rattle.http_wire.specs.Fields.{is_hop_by_hop}
use Rattle.middleware_stage.specs.Effects.{with_line, with_lines}
use Rattle.middleware_stage.specs.Lawful.{is_framing_name, is_settable}
use Rattle.middleware_chain.specs.Written.{AreSafeLines, ends_no_line, is_writable}
use Rattle.middleware_chain.proofs.Texts.{value_ends_no_line}

one_only : (x y : Field) → Contains (x ∷ []) y → x ≡ y
one_only x y (zero, l, at) = at
one_only x y (suc k, l, at) = absurd (omega (arith, l))

parted : (x : Field) (xs : List Field) (y : Field) → Contains (x ∷ xs) y → (x ≡ y) ⊎ Contains xs y
parted x xs y c = elim (Contains-append_cases (x ∷ []) xs y c) [ inl first ↦ inl (one_only x y first) | inr later ↦ inr later ]

there : (x : Field) (xs : List Field) (y : Field) → Contains xs y → Contains (x ∷ xs) y
there x xs y c = Contains-append_right (x ∷ []) xs y c

here : (x : Field) (xs : List Field) (y : Field) → x ≡ y → Contains (x ∷ xs) y
here x xs y e = (0, omega arith, e)

kept_by : (p : Field → Bool) (x : Field) (xs : List Field) (y : Field) (b : Bool) → (Contains (filter p xs) y → Contains xs y) → Contains (cond b (x ∷ filter p xs) (filter p xs)) y
    → Contains (x ∷ xs) y
kept_by p x xs y true later c = elim (parted x (filter p xs) y c) [ inl e ↦ here x xs y e | inr k ↦ there x xs y (later k) ]
kept_by p x xs y false later c = there x xs y (later c)

-- what a filter keeps was there
kept : (p : Field → Bool) (xs : List Field) (y : Field) → Contains (filter p xs) y → Contains xs y
kept p [] y c = c
kept p (x ∷ xs) y c = kept_by p x xs y (p x) (λ k. kept p xs y k) c

set_known_by : (name value : List ℕ) (x : Field) (xs : List Field) (y : Field) (b : Bool) → (Contains (set_in name value xs) y → ((name, value) ≡ y) ⊎ Contains xs y)
    → Contains (cond b ((name, value) ∷ without name xs) (x ∷ set_in name value xs)) y → ((name, value) ≡ y) ⊎ Contains (x ∷ xs) y
set_known_by name value x xs y true later c = elim (parted (name, value) (without name xs) y c) [
  | inl e ↦ inl e
  | inr k ↦ inr (there x xs y (kept (λ line. not (has_name name line)) xs y k))
]
set_known_by name value x xs y false later c = elim (parted x (set_in name value xs) y c) [
  | inl e ↦ inr (here x xs y e)
  | inr k ↦ elim (later k) [ inl e ↦ inl e | inr m ↦ inr (there x xs y m) ]
]

-- a line after one was set is that one, or was there
set_known : (name value : List ℕ) (xs : List Field) (y : Field) → Contains (set_in name value xs) y → ((name, value) ≡ y) ⊎ Contains xs y
set_known name value [] y c = inl (one_only (name, value) y c)
set_known name value (x ∷ xs) y c = set_known_by name value x xs y (has_name name x) (λ k. set_known name value xs y k) c

-- lines whose names differ in case alone are alike
abbrev frames : List ℕ → Bool
frames low =
    bytes_eq low (str_to_ascii_lowercase (codes "Content-Length")) || bytes_eq low (str_to_ascii_lowercase (codes "Connection"))
    || bytes_eq low (str_to_ascii_lowercase (codes "Transfer-Encoding"))

alike : (name value : List ℕ) (x : Field) → has_name name x ≡ true → is_framing_name (name, value) ≡ false → is_framing_name x ≡ false
alike name value x same free = let low : str_to_ascii_lowercase x.0 ≡ str_to_ascii_lowercase name = (bytes_eq-Decides (str_to_ascii_lowercase x.0) (str_to_ascii_lowercase name)).0 same in ap frames low ∙ free

drop_one : (p : Field → Bool) (x : Field) (rest : List Field) → p x ≡ false → rest ≡ cond (p x) (x ∷ rest) rest
drop_one p x rest e = sym (cond-false (p x) (x ∷ rest) rest e)

without_framing_by : (name value : List ℕ) (x : Field) (xs : List Field) (b : Bool) → has_name name x ≡ b → is_framing_name (name, value) ≡ false
    → filter is_framing_name (without name xs) ≡ filter is_framing_name xs
    → filter is_framing_name (cond (not b) (x ∷ without name xs) (without name xs)) ≡ filter is_framing_name (x ∷ xs)
without_framing_by name value x xs true e free later = later ∙ drop_one is_framing_name x (filter is_framing_name xs) (alike name value x e free)
without_framing_by name value x xs false e free later = ap (λ (ls : List Field). cond (is_framing_name x) (x ∷ ls) ls) later

without_framing : (name value : List ℕ) (xs : List Field) → is_framing_name (name, value) ≡ false → filter is_framing_name (without name xs) ≡ filter is_framing_name xs
without_framing name value [] free = refl
without_framing name value (x ∷ xs) free = without_framing_by name value x xs (has_name name x) refl free (without_framing name value xs free)

set_framing_by : (name value : List ℕ) (x : Field) (xs : List Field) (b : Bool) → has_name name x ≡ b → is_framing_name (name, value) ≡ false
    → filter is_framing_name (set_in name value xs) ≡ filter is_framing_name xs
    → filter is_framing_name (cond b ((name, value) ∷ without name xs) (x ∷ set_in name value xs)) ≡ filter is_framing_name (x ∷ xs)
set_framing_by name value x xs true e free later =
    sym (drop_one is_framing_name (name, value) (filter is_framing_name (without name xs)) free)
    ∙ without_framing name value xs free ∙ drop_one is_framing_name x (filter is_framing_name xs) (alike name value x e free)
set_framing_by name value x xs false e free later = ap (λ (ls : List Field). cond (is_framing_name x) (x ∷ ls) ls) later

set_framing : (name value : List ℕ) (xs : List Field) → is_framing_name (name, value) ≡ false → filter is_framing_name (set_in name value xs) ≡ filter is_framing_name xs
set_framing name value [] free = sym (drop_one is_framing_name (name, value) [] free)
set_framing name value (x ∷ xs) free = set_framing_by name value x xs (has_name name x) refl free (set_framing name value xs free)

-- nothing was changed
pub same_lines : (lines : List Field) → AreSafeLines lines lines
same_lines lines = record { known = λ line c. inl c; framing = refl }

pub then_lines : (a b c : List Field) → AreSafeLines a b → AreSafeLines b c → AreSafeLines a c
then_lines a b c first second = record {
  known = λ line in_c. elim (second.known line in_c) [ inl in_b ↦ first.known line in_b | inr w ↦ inr w ];
  framing = second.framing ∙ first.framing;
}

not_false : (b : Bool) → not b ≡ true → b ≡ false
not_false true e = absurd (false≢true e)
not_false false e = refl

writable_no_framing : (name value : List ℕ) → is_writable (name, value) ≡ true → is_framing_name (name, value) ≡ false
writable_no_framing name value w =
    let most = and_parts (is_field_name name && not (is_framing_name (name, value)) && not (is_hop_by_hop (name, value))) (ends_no_line value) w in
    let more = and_parts (is_field_name name && not (is_framing_name (name, value))) (not (is_hop_by_hop (name, value))) most.0 in
    not_false (is_framing_name (name, value)) (and_parts (is_field_name name) (not (is_framing_name (name, value))) more.0).1

-- one line was set
pub set_lines : (name value : List ℕ) (lines : List Field) → is_writable (name, value) ≡ true → AreSafeLines lines (set_in name value lines)
set_lines name value lines w = record {
  known = λ line c. elim (set_known name value lines line c) [
    | inl e ↦ inr (let P : Field → Type 0 = λ f. is_writable f ≡ true in subst P e w)
    | inr k ↦ inl k
  ];
  framing = set_framing name value lines (writable_no_framing name value w);
}

-- lines of one name were removed
without_lines : (name value : List ℕ) (lines : List Field) → is_framing_name (name, value) ≡ false → AreSafeLines lines (without name lines)
without_lines name value lines free = record { known = λ line c. inl (kept (λ f. not (has_name name f)) lines line c); framing = without_framing name value lines free }

-- what is settable
pub record Settable (line : Field) : Type 0 where
  pub name_is : is_field_name line.0 ≡ true
  pub value_is : is_field_value line.1 ≡ true
  pub no_framing : not (is_framing_name line) ≡ true
  pub no_hop : ((length line.1 == 0) || not (is_hop_by_hop line)) ≡ true

pub settable : (line : Field) → is_settable line ≡ true → Settable line
settable line s =
    let a = and_parts (is_field_name line.0 && is_field_value line.1 && not (is_framing_name line)) ((length line.1 == 0) || not (is_hop_by_hop line)) s in
    let b = and_parts (is_field_name line.0 && is_field_value line.1) (not (is_framing_name line)) a.0 in
    let c = and_parts (is_field_name line.0) (is_field_value line.1) b.0 in
    record { name_is = c.0; value_is = c.1; no_framing = b.1; no_hop = a.1 }

hop_by : (empty hop : Bool) → (empty || not hop) ≡ true → empty ≡ false → not hop ≡ true
hop_by true hop s e = absurd cc
hop_by false hop s e = s

settable_writable : (line : Field) → Settable line → (length line.1 == 0) ≡ false → is_writable line ≡ true
settable_writable line s some =
    let a = and_from (is_field_name line.0) (not (is_framing_name line)) s.name_is s.no_framing in
    let b = and_from (is_field_name line.0 && not (is_framing_name line)) (not (is_hop_by_hop line)) a (hop_by (length line.1 == 0) (is_hop_by_hop line) s.no_hop some) in
    and_from (is_field_name line.0 && not (is_framing_name line) && not (is_hop_by_hop line)) (ends_no_line line.1) b (value_ends_no_line line.1 s.value_is)

line_by : (lines : List Field) (change : Field) (b : Bool) → (length change.1 == 0) ≡ b → Settable change
    → AreSafeLines lines (cond b (without change.0 lines) (set_in change.0 change.1 lines))
line_by lines change true e s = without_lines change.0 change.1 lines (not_false (is_framing_name change) s.no_framing)
line_by lines change false e s = set_lines change.0 change.1 lines (settable_writable change s e)

-- one line was set or removed
pub line_safe : (lines : List Field) (change : Field) → is_settable change ≡ true → AreSafeLines lines (with_line lines change)
line_safe lines change s = line_by lines change (length change.1 == 0) refl (settable change s)

-- lines were
pub lines_safe : (changes lines : List Field) → list_all is_settable changes ≡ true → AreSafeLines lines (with_lines changes lines)
lines_safe [] lines all = same_lines lines
lines_safe (change ∷ changes) lines all =
    let parts = and_parts (is_settable change) (list_all is_settable changes) all in
    then_lines lines (with_line lines change) (with_lines changes (with_line lines change)) (line_safe lines change parts.0) (lines_safe changes (with_line lines change) parts.1)

prefix_name : (value : List ℕ) → (is_field_name (codes "X-Forwarded-Prefix") && not (is_framing_name (codes "X-Forwarded-Prefix", value)) && not (is_hop_by_hop (codes "X-Forwarded-Prefix", value))) ≡ true
unfolding is_token_byte
prefix_name value = refl

replaced_name : (value : List ℕ) → (is_field_name (codes "X-Replaced-Path") && not (is_framing_name (codes "X-Replaced-Path", value)) && not (is_hop_by_hop (codes "X-Replaced-Path", value))) ≡ true
unfolding is_token_byte
replaced_name value = refl

-- the lines that tell a prefix or an old path
pub prefix_writable : (value : List ℕ) → ends_no_line value ≡ true → is_writable (codes "X-Forwarded-Prefix", value) ≡ true
prefix_writable value e = and_from _ (ends_no_line value) (prefix_name value) e

pub replaced_writable : (value : List ℕ) → ends_no_line value ≡ true → is_writable (codes "X-Replaced-Path", value) ≡ true
replaced_writable value e = and_from _ (ends_no_line value) (replaced_name value) e
