-- The lines of links, one after another.
use Rattle.std.proofs.Common.{◌≡◌, ℕ, zero, suc, ◌+◌, ◌<◌, ◌≤◌, List, [], ◌∷◌, ◌++◌, length, drop, get_or, refl, sym, ◌∙◌, ap, subst, arith, append_assoc, append-nil, add-one, drop-cons, length-append}
use Rattle.conversation.specs.Plans.{Plan}
use Rattle.system_core.specs.declared.links.Link.{Link}
use Rattle.replay_cmd.specs.Output.{link_text, links_text}

pub links_step : (text : List ℕ) (ks : List Link) (i : ℕ) (k : Link) → i < length ks → k ≡ get_or ks i k
    → (text ++ link_text i k) ++ links_text (i + 1) (drop (i + 1) ks) ≡ text ++ links_text i (drop i ks)
links_step text ks i k within is =
    append_assoc text (link_text i k) (links_text (i + 1) (drop (i + 1) ks))
    ∙ ap (λ (xs : List Link). text ++ links_text i xs)
    (ap (λ (x : Link). x ∷ drop (i + 1) ks) is ∙ ap (λ (n : ℕ). get_or ks i k ∷ drop n ks) (add-one i) ∙ sym (drop-cons ks i k within))

pub some_plan : (ps : List Plan) (p : Plan) → 1 ≤ length (ps ++ p ∷ [])
some_plan ps p = let e : length (ps ++ p ∷ []) ≡ length ps + 1 = length-append ps (p ∷ []) in omega arith
