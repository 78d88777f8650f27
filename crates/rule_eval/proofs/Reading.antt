-- Which texts the grammar of regex reads, from what its builder ensures.
use Rattle.std.proofs.Common.{◌≡◌, ◌≢◌, ℕ, ◌≤◌, List, Option, Some, None, IsSomeAnd, IfSome, inl, inr, chars, arith, refl, is_some}
use Rattle.regex_hir.specs.declared.hir.Hir.{Hir}
use Rattle.regex_syntax.specs.declared.error.ErrorKind.{ErrorKind}
use Rattle.regex_syntax.specs.declared.error.ErrorKind.TheVariants as kind
use Rattle.regex_syntax.specs.Grammar.{read, Names, group_count}
use Rattle.regex_syntax.specs.Brackets.{Nested}
use Rattle.regex_hir.specs.Meaning.{meaning}
use Rattle.regex_syntax.specs.Verdict.{Reads, Refuses, default_config}
use Rattle.regex.specs.Failures as failures
use Rattle.regex.specs.declared.string.regex.Regex.{Regex}
use Rattle.std.proofs.Common.{length, option_and_then, true}
use Rattle.regex.proofs.ForCallers.{is_match_alike}
use Rattle.regex.specs.Patterns.{find_str, SameCaptures, Re}
use Rattle.regex.specs.Strings.{regex_pattern}
use Rattle.std.proofs.Common.{[], ◌∷◌, ◌++◌, ◌+◌, ◌*◌, ◌==◌, cond, map, ap, ap₂, ◌∙◌, slice_range, option_map}
use Rattle.regex.proofs.ForCallers.{spans, find_all_alike}
use Rattle.regex.specs.Patterns.{Match, find_all_str}
use Rattle.regex.specs.Replace.{replaced_by, group_bytes, bytes_of}
use Rattle.regex.specs.Strings.{regex_names}
use Rattle.regex.specs.Templates.{written_after}
use Rattle.regex.specs.Writes.{both}
use Rattle.rule_eval.specs.Patterns.{IsReadable, IsBuiltFrom, FindsAsRead, ReplacesAsRead}

weaker : {A : Type 0} (o : Option A) (P Q : A → Type 0) → ((x : A) → P x → Q x) → IsSomeAnd o P → IsSomeAnd o Q
weaker None P Q f p = absurd p
weaker (Some x) P Q f p = f x p

clash : {A : Type 0} (o : Option A) (P Q : A → Type 0) → ((x : A) → P x → Q x → ⊥) → IsSomeAnd o P → IfSome o Q → ⊥
clash None P Q f p q = absurd p
clash (Some x) P Q f p q = f x p q

readable_of_reads : (text : List ℕ) (hir : Hir) (names : Names) → Reads default_config text hir names → IsReadable text
unfolding Reads
readable_of_reads text hir names r = weaker (read default_config (chars text)) _ _ (λ x h. h.0) r

pub readable_of_built : (text : List ℕ) (r : Regex) → IsBuiltFrom text r → IsReadable text
readable_of_built text r b =
    readable_of_reads text _ _ (rw (b.0, b.1) at b.2)

pub readable_of_pattern : (text : List ℕ) → failures.IsPattern default_config text → IsReadable text
readable_of_pattern text p = readable_of_reads text p.0 p.1 p.2

pub unreadable : (text : List ℕ) (k : ErrorKind) → k ≢ kind.OutOfMemory → Refuses default_config text k → IsReadable text → ⊥
unfolding Refuses
unreadable text k ne (inl e) r = ne e
unreadable text k ne (inr (inl none)) r = rw none at r
unreadable text k ne (inr (inr deep)) r = clash (read default_config (chars text)) _ _ (λ x p q. omega (arith, p, q)) r deep.1

finds_as_reads : (text : List ℕ) (hir : Hir) (names : Names) → Reads default_config text hir names → FindsAsRead text (meaning hir)
unfolding Reads
finds_as_reads text hir names r hay bytes =
    is_match_of (read default_config (chars text)) r
  where
    is_match_of : (o : Option (Nested Re × Names))
        → IsSomeAnd o (λ (found, all). (found.depth ≤ 250) × SameCaptures (meaning hir) found.value × (names ≡ all) × (group_count (meaning hir) ≤ length names))
        → is_some (find_str (meaning hir) hay 0) ≡ is_some (option_and_then (λ p. find_str p.0.value hay 0) o)
    is_match_of None h = absurd h
    is_match_of (Some x) h = is_match_alike h.1 hay bytes true 0

pub finds_as_built : (text : List ℕ) (r : Regex) → IsBuiltFrom text r → FindsAsRead text (regex_pattern r)
finds_as_built text r b = finds_as_reads text r.pattern.program.hir _ (rw (b.0, b.1) at b.2)

-- ---- replacements

-- where a match lies, and where its slots are
abbrev Seen : Type 0
Seen = ℕ × ℕ × (ℕ → Option ℕ)

-- what a group of a match spans, from that alone
abbrev seen_bytes : List ℕ → Seen → ℕ → List ℕ
seen_bytes hay s n = bytes_of hay (cond (n == 0) (Some (s.0, s.1)) (both (s.2 (2 * n)) (s.2 (2 * n + 1))))

module _ (names : Names) (template hay : List ℕ) where
  abbrev written : Match → List ℕ
  written m = written_after names (group_bytes hay m) template 0

  abbrev seen_written : Seen → List ℕ
  seen_written s = written_after names (seen_bytes hay s) template 0

  replaced_alike : (xs ys : List Match) → map spans xs ≡ map spans ys → (at : ℕ) → replaced_by written hay at xs ≡ replaced_by written hay at ys
  unfolding replaced_by
  replaced_alike [] [] e at = refl
  replaced_alike [] (y ∷ ys) e at = absurd cc
  replaced_alike (x ∷ xs) [] e at = absurd cc
  replaced_alike (x ∷ xs) (y ∷ ys) e at =
      let head : spans x ≡ spans y = cc in
      let tail : map spans xs ≡ map spans ys = cc in
      ap₂ ◌++◌ (ap (λ (s : Seen). slice_range hay at s.0 ++ seen_written s) head)
      (replaced_alike xs ys tail x.trace.end ∙ ap (λ (s : Seen). replaced_by written hay s.1 ys) head)

replaces_as_reads : (text : List ℕ) (hir : Hir) (names : Names) → Reads default_config text hir names → ReplacesAsRead text (meaning hir) names
unfolding Reads
replaces_as_reads text hir names r template hay bytes =
    replaces_of (read default_config (chars text)) r
  where
    replaces_of : (o : Option (Nested Re × Names))
        → IsSomeAnd o (λ (found, all). (found.depth ≤ 250) × SameCaptures (meaning hir) found.value × (names ≡ all) × (group_count (meaning hir) ≤ length names))
        → Some (replaced_by (λ m. written_after names (group_bytes hay m) template 0) hay 0 (find_all_str (meaning hir) hay))
        ≡ option_map (λ p. replaced_by (λ m. written_after p.1 (group_bytes hay m) template 0) hay 0 (find_all_str p.0.value hay)) o
    replaces_of None h = absurd h
    replaces_of (Some x) h =
        ap Some (replaced_alike names template hay _ _ (find_all_alike h.1 hay bytes true) 0
        ∙ ap (λ (all : Names). replaced_by (λ m. written_after all (group_bytes hay m) template 0) hay 0 (find_all_str x.0.value hay)) h.2)

pub replaces_as_built : (text : List ℕ) (r : Regex) → IsBuiltFrom text r → ReplacesAsRead text (regex_pattern r) (regex_names r)
replaces_as_built text r b = replaces_as_reads text r.pattern.program.hir _ (rw (b.0, b.1) at b.2)
