-- What a script tells a system.
use Rattle.std.proofs.Common.{◌≡◌, ◌≢◌, ℕ, ◌+◌, ◌<◌, ◌≤◌, ◌⊎◌, inl, inr, Bool, true, false, IsTrue, List, [], ◌∷◌, ◌++◌, length, Result, Ok, Err, MatchResult, refl, sym, ◌∙◌, ap, subst, arith, append_assoc, append-nil, length-append}
use Rattle.std.specs.declared.sync.Arc.{Arc}
use Rattle.std.specs.declared.alloc.Global.{Global}
use Rattle.std.specs.Arc.{arc_value}
use Rattle.generation.specs.declared.generation.Generation.{Generation}
use Rattle.system_core.specs.Answers.{Answers}
use Rattle.system_core.specs.Views.{plans_of}
use Rattle.system_core.specs.declared.event.Event.{Event}
use Rattle.system_core.specs.declared.event.Event.TheVariants as event
use Rattle.system_core.specs.declared.event.Refused.{Refused}
use Rattle.system_core.specs.declared.system.System.{System}
use Rattle.replay_cmd.specs.Script.{IsCut, fed, last, IsBlock, none, barred, IsUnbarred}
use Rattle.replay_cmd.specs.Configs.{IsGenerationOf}
use Rattle.replay_cmd.specs.Refusals.{IsFailureOf}
use Rattle.replay_cmd.specs.Replays.{Accepts, Refuses, Configured, FailsBlock, FailsConfig, HasConfigured, Step, configured, FailsStep}
use Rattle.replay_script.specs.Lines.{IsLine}
use Rattle.replay_script.specs.declared.lines.Line.TheVariants as line
use denote.Ref.{Bor}
use Rattle.replay_cmd.specs.declared.run.Run.{Run}
use Rattle.replay_cmd.specs.declared.why.Failure.{Failure}
use Rattle.replay_cmd.specs.declared.why.Failure.TheVariants as failure

pub not_true : IsTrue false → ⊥
not_true h = cc

pub refuses_by : (e : Event) (s t : System) (r : Refused) (f : Failure) → Answers s e (Err r) t → IsFailureOf r f → Refuses e s f
refuses_by e s t r (failure.Refused w) a is = (r, t, a, is)
refuses_by e s t r failure.Memory a is = tt

pub waits_by : (from to : ℕ) (r : Result (Unit {0}) Failure) (issue : Arc Generation Global) (block : List ℕ) (s t : System) → IsGenerationOf from to (length (plans_of s.clients.timeline)) block (arc_value issue)
    → MatchResult r (λ done. Accepts (event.Config issue) s t) (Refuses (event.Config issue) s) → MatchResult r (λ done. Configured from to block s t) (FailsBlock s block)
waits_by from to (Ok u) issue block s t g m = inr (issue, g, m)
waits_by from to (Err (failure.Refused w)) issue block s t g m = inr (issue, m)
waits_by from to (Err failure.Memory) issue block s t g m = tt

pub block_failed : (run : Run) (text block more : List ℕ) (f : Failure) → IsBlock text block more → FailsBlock run.system block f → FailsConfig run text f
block_failed run text block more (failure.Refused w) is fails = inr (block, more, is, fails)
block_failed run text block more failure.Memory is fails = tt

-- one line more of a block
pub block_more : (text rest behind line more block block' : List ℕ) → rest ≡ 124 ∷ behind → IsCut behind line more → block' ≡ (block ++ line) ++ 10 ∷ []
    → ((b r : List ℕ) → IsBlock rest b r → IsBlock text (block ++ b) r) → (b r : List ℕ) → IsBlock more b r → IsBlock text (block' ++ b) r
block_more text rest behind line more block block' is cut grows all b r k =
    subst (λ (x : List ℕ). IsBlock text x r) (same b)
    (all ((line ++ 10 ∷ []) ++ b) r (subst (λ (t : List ℕ). IsBlock t ((line ++ 10 ∷ []) ++ b) r) (sym is) (barred behind line more b r cut k)))
  where
    same : (b : List ℕ) → block ++ ((line ++ 10 ∷ []) ++ b) ≡ block' ++ b
    same b = sym (ap (λ (x : List ℕ). x ++ b) (grows ∙ append_assoc block line (10 ∷ [])) ∙ append_assoc block (line ++ 10 ∷ []) b)

pub block_end : (text rest block : List ℕ) → IsUnbarred rest → ((b r : List ℕ) → IsBlock rest b r → IsBlock text (block ++ b) r) → IsBlock text block rest
block_end text rest block no_bar all = subst (λ (x : List ℕ). IsBlock text x rest) (append-nil block) (all [] rest (none rest no_bar))

-- what stands behind the first line of a text that isn't empty is shorter
has_length : (xs : List ℕ) → xs ≢ [] → 0 < length xs
has_length [] some = absurd (some refl)
has_length (x ∷ xs) some = omega arith

pub cut_shorter : (text line rest : List ℕ) → text ≢ [] → IsCut text line rest → length rest < length text
cut_shorter text line rest some (fed all is) =
    let e : length text ≡ length line + length (10 ∷ rest) = ap length is ∙ length-append line (10 ∷ rest) in
    omega arith
cut_shorter text line rest some (last all is none_) = let e : length rest ≡ 0 = ap length none_ in let h : 0 < length text = has_length text some in omega arith

-- a configuration that follows its line
pub configures_by : (from to : ℕ) (old new : Run) (text l behind : List ℕ) (r : Result (Bor (List ℕ)) Failure) → IsCut text l behind → l ≢ [] → IsLine l line.ConfigFile
    → MatchResult r (λ more. HasConfigured from to old behind new more.now) (FailsConfig old behind)
    → MatchResult r (λ more. Step from to old text new more.now) (FailsStep old text)
configures_by from to old new text l behind (Ok more) cut some is h = configured l behind cut is h
configures_by from to old new text l behind (Err (failure.Refused w)) cut some is h = (l, behind, cut, some, inr (inr (is, h)))
configures_by from to old new text l behind (Err failure.Memory) cut some is h = tt
