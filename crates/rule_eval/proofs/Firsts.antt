-- The first call at fault, as a rule is compiled part by part.
use Rattle.std.proofs.Common.{◌≡◌, ℕ, ◌+◌, ◌-◌, ◌^◌, min, List, [], ◌∷◌, ◌++◌, length, true, refl, sym, ap, ◌∙◌, subst, append_assoc, length-append, arith, ap₂, Result, Ok, Err, OnOk, IfErr, IsErrAnd}
use Rattle.rule_lang.specs.declared.matcher.Matcher.{Matcher}
use Rattle.rule_lang.specs.declared.matcher.Matcher.TheVariants.{Header, HeaderRegexp, Host, HostRegexp, Method, Path, PathPrefix, PathRegexp, Query, QueryRegexp, ClientIp}
use Rattle.rule_lang.specs.declared.rule.Rule.{Rule, fold-roll-Rule}
use Rattle.rule_lang.specs.declared.rule.Rule.TheOpen.{Rule-F}
use Rattle.rule_lang.specs.declared.rule.Rule.TheVariants.{And, Or, rolls-And, rolls-Or}
use Rattle.rule_lang.specs.Trees.{Tree, both, either, tree_step, tree_of}
use Rattle.px_base.specs.Bytes.{one_more}
use Rattle.rule_eval.specs.Patterns.{IsPatternText}
use Rattle.rule_eval.specs.Calls.{Call, calls_of, has_pattern}
use Rattle.rule_eval.specs.Faults.{IsBadAddress, IsBadPattern, IsGoodPattern, IsSoundBy, AreSound, number_after, IsFirst, Tells, Blames, BlamesText, BlamesAddress}
use Rattle.rule_eval.specs.declared.compiling.CompileFault.{CompileFault}
use Rattle.rule_eval.specs.declared.compiling.CompileFault.TheVariants.{Address, Syntax, TooBig, Memory}

pub sound_append : (xs ys : List Call) → AreSound xs → AreSound ys → AreSound (xs ++ ys)
sound_append [] ys hx hy = hy
sound_append (x ∷ xs) ys hx hy = (hx.0, sound_append xs ys hx.1 hy)

first_more : (F : Call → Type 0) (xs ys : List Call) (n : ℕ) → IsFirst F xs n → IsFirst F (xs ++ ys) n
first_more F xs ys n f = record {
  before = f.before;
  at = f.at;
  after = f.after ++ ys;
  calls_are = ap (λ (l : List Call). l ++ ys) f.calls_are ∙ append_assoc f.before (f.at ∷ f.after) ys;
  sound = f.sound;
  fault = f.fault;
  number_is = f.number_is;
}

-- more calls to the right change nothing
pub tells_more : (xs ys : List Call) (old new : ℕ) (f : CompileFault) → Tells xs old new f → Tells (xs ++ ys) old new f
tells_more xs ys old new (Address n) t = (first_more _ xs ys n t.0, t.1)
tells_more xs ys old new (Syntax n) t = (first_more _ xs ys n t.0, t.1)
tells_more xs ys old new (TooBig n) t = (first_more _ xs ys n t.0, t.1)
tells_more xs ys old new Memory t = tt

-- what is told of a part, after its left side was compiled
pub tells_after : (left done right : List Call) (old mid new : ℕ) (f : CompileFault) → mid ≡ old → Tells ((left ++ done) ++ right) mid new f → Tells (left ++ (done ++ right)) old new f
tells_after left done right old mid new (Address n) still t = (subst (λ (l : List Call). IsFirst IsBadAddress l n) (append_assoc left done right) t.0, t.1 ∙ still)
tells_after left done right old mid new (Syntax n) still t = (subst (λ (l : List Call). IsFirst IsBadPattern l n) (append_assoc left done right) t.0, t.1 ∙ still)
tells_after left done right old mid new (TooBig n) still t = (subst (λ (l : List Call). IsFirst IsGoodPattern l n) (append_assoc left done right) t.0, t.1 ∙ ap one_more still)
tells_after left done right old mid new Memory still t = tt

pub tells_before : (left done right : List Call) (old new : ℕ) (f : CompileFault) → Tells (left ++ done) old new f → Tells (left ++ (done ++ right)) old new f
tells_before left done right old new f t =
    subst (λ (l : List Call). Tells l old new f) (append_assoc left done right) (tells_more (left ++ done) right old new f t)

-- what is told of one call
pub blamed : (left : List Call) (c : Call) (at old new : ℕ) (f : CompileFault) → AreSound left → at ≡ number_after left → Blames c at old new f → Tells (left ++ c ∷ []) old new f
blamed left c at old new (Address n) sound e b = (record { before = left; at = c; after = []; calls_are = refl; sound = sound; fault = b.1; number_is = b.0 ∙ e }, b.2)
blamed left c at old new (Syntax n) sound e b = (record { before = left; at = c; after = []; calls_are = refl; sound = sound; fault = b.1; number_is = b.0 ∙ e }, b.2)
blamed left c at old new (TooBig n) sound e b = (record { before = left; at = c; after = []; calls_are = refl; sound = sound; fault = b.1; number_is = b.0 ∙ e }, b.2)
blamed left c at old new Memory sound e b = tt

-- the number of the call after two lists
pub number_next : (left done : List Call) (at next : ℕ) → at ≡ number_after left → next ≡ min (at + length done) (2 ^ 32 - 1) → next ≡ number_after (left ++ done)
number_next left done at next e h = omega (arith, e, h, length-append left done)

pub sound_pattern : (m : Matcher) (value : List ℕ) → has_pattern m ≡ true → IsPatternText value → IsSoundBy m value
sound_pattern Header value e p = tt
sound_pattern HeaderRegexp value e p = p
sound_pattern Host value e p = tt
sound_pattern HostRegexp value e p = p
sound_pattern Method value e p = tt
sound_pattern Path value e p = tt
sound_pattern PathPrefix value e p = tt
sound_pattern PathRegexp value e p = p
sound_pattern Query value e p = tt
sound_pattern QueryRegexp value e p = p
sound_pattern ClientIp value e p = absurd cc

pub blames_pattern : (c : Call) (at old new : ℕ) (f : CompileFault) → has_pattern c.matcher ≡ true → BlamesText c.value at old new f → Blames c at old new f
blames_pattern c at old new (Address n) e b = absurd b
blames_pattern c at old new (Syntax n) e b = (b.0, (e, b.1), b.2)
blames_pattern c at old new (TooBig n) e b = (b.0, (e, b.1), b.2)
blames_pattern c at old new Memory e b = tt

pub blames_address : (c : Call) (at old new : ℕ) (f : CompileFault) → c.matcher ≡ ClientIp → new ≡ old → BlamesAddress c.value at f → Blames c at old new f
blames_address c at old new (Address n) e still b = (b.0, (e, b.1), still)
blames_address c at old new (Syntax n) e still b = absurd b
blames_address c at old new (TooBig n) e still b = absurd b
blames_address c at old new Memory e still b = tt

pub on_ok : {A E : Type 0} (P : Type 0) → (r : Result A E) → P → OnOk r P
on_ok P (Ok x) p = p
on_ok P (Err e) p = tt

-- an error handed on is the one that came
pub err_same : {A E : Type 0} (P : E → Type 0) → (r : Result A E) (e : E) → IsErrAnd r (λ x. x ≡ e) → P e → IfErr r P
err_same P (Ok x) e same p = absurd same
err_same P (Err x) e same p = subst P (sym same) p

-- the calls of two operands
tree_and : (l r : Rule) → tree_of (And l r) ≡ both (tree_of l) (tree_of r)
tree_and l r = ap tree_of (sym (rolls-And l r)) ∙ fold-roll-Rule Tree tree_step (Rule-F.And l r)

pub calls_and : (rule l r a b : Rule) → rule ≡ And l r → a ≡ l → b ≡ r → calls_of (tree_of rule) ≡ calls_of (tree_of a) ++ calls_of (tree_of b)
calls_and rule l r a b e ea eb =
    ap (λ (x : Rule). calls_of (tree_of x)) e ∙ ap calls_of (tree_and l r) ∙ ap₂ (λ (x : Rule) (y : Rule). calls_of (tree_of x) ++ calls_of (tree_of y)) (sym ea) (sym eb)

tree_or : (l r : Rule) → tree_of (Or l r) ≡ either (tree_of l) (tree_of r)
tree_or l r = ap tree_of (sym (rolls-Or l r)) ∙ fold-roll-Rule Tree tree_step (Rule-F.Or l r)

pub calls_or : (rule l r a b : Rule) → rule ≡ Or l r → a ≡ l → b ≡ r → calls_of (tree_of rule) ≡ calls_of (tree_of a) ++ calls_of (tree_of b)
calls_or rule l r a b e ea eb =
    ap (λ (x : Rule). calls_of (tree_of x)) e ∙ ap calls_of (tree_or l r) ∙ ap₂ (λ (x : Rule) (y : Rule). calls_of (tree_of x) ++ calls_of (tree_of y)) (sym ea) (sym eb)

-- what is told of the left operand and of the right one is told of both
pub tells_left : (all left l r : List Call) (old new : ℕ) (f : CompileFault) → all ≡ l ++ r → Tells (left ++ l) old new f → Tells (left ++ all) old new f
tells_left all left l r old new f e t = subst (λ (x : List Call). Tells (left ++ x) old new f) (sym e) (tells_before left l r old new f t)

pub tells_right : (all left l r : List Call) (at next old mid new : ℕ) (f : CompileFault) → all ≡ l ++ r → AreSound left → AreSound l → at ≡ number_after left → next ≡ min (at + length l) (2 ^ 32 - 1) → mid ≡ old
    → ((before : List Call) → AreSound before → next ≡ number_after before → Tells (before ++ r) mid new f) → Tells (left ++ all) old new f
tells_right all left l r at next old mid new f e sound done here number still told =
    subst (λ (x : List Call). Tells (left ++ x) old new f) (sym e)
    (tells_after left l r old mid new f still (told (left ++ l) (sound_append left l sound done) (number_next left l at next here number)))

pub sound_both : (all l r : List Call) → all ≡ l ++ r → AreSound l → AreSound r → AreSound all
sound_both all l r e a b = subst (λ (x : List Call). AreSound x) (sym e) (sound_append l r a b)

pub number_both : (all l r : List Call) (at next last : ℕ) → all ≡ l ++ r → next ≡ min (at + length l) (2 ^ 32 - 1) → last ≡ min (next + length r) (2 ^ 32 - 1) → last ≡ min (at + length all) (2 ^ 32 - 1)
number_both all l r at next last e a b =
    let long : length all ≡ length l + length r = ap (λ (x : List Call). length x) e ∙ length-append l r in
    omega (arith, long, a, b)
