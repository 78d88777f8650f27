-- That each request which was noted was served by one configuration.
use Rattle.std.proofs.Common.{◌≡◌, ◌==◌, ℕ, Bool, true, false, List, [], ◌∷◌, ◌++◌, map, Some, None, sym, ◌∙◌, ap, subst}
use Rattle.std.specs.List.{AllByRecursion, Contains}
use Rattle.std.proofs.lemmas.List.Elements.{Contains-push, Contains-append_left, Contains-append_right}
use Rattle.slab.specs.Slab.{Slab}
use Rattle.link_world.specs.Log.{only_if}
use Rattle.link_world.specs.Seen.{Seen}
use Rattle.conversation.specs.Plans.{Plan}
use Rattle.desk.specs.Desks.{Desk}
use Rattle.conn_machine.specs.declared.conn.Conn.{Conn}
use Rattle.worker_loop.specs.Accounts.{Label, taken, refused, label_plan, pinned_on}
use Rattle.serve_cmd.specs.Ran.{AccountedFor, AreNone, AreNumbered}

number_more : (b : Bool) (number n : ℕ) (rest : List ℕ) → n ≡ number → AllByRecursion (λ (m : ℕ). m ≡ number) rest
    → AllByRecursion (λ (m : ℕ). m ≡ number) (only_if b (n ∷ []) ++ rest)
number_more true number n rest is all = (is, all)
number_more false number n rest is all = all

-- where each plan has this number, each pin for a request on the link has it
pinned_numbered : (number link : ℕ) (labels : List Label) → ((p : Plan) → Contains (map label_plan labels) p → p.number ≡ number)
    → AllByRecursion (λ (m : ℕ). m ≡ number) (pinned_on link labels)
pinned_numbered number link [] all = tt
pinned_numbered number link (taken l p ∷ labels) all =
    number_more (link == l) number p.number (pinned_on link labels) (all p (Contains-append_left (p ∷ []) (map label_plan labels) p (Contains-push [] p)))
    (pinned_numbered number link labels (λ q has. all q (Contains-append_right (p ∷ []) (map label_plan labels) q has)))
pinned_numbered number link (refused p ∷ labels) all = pinned_numbered number link labels (λ q has. all q (Contains-append_right (p ∷ []) (map label_plan labels) q has))

none_some : (c : Conn) → None ≡ Some c → ⊥
none_some c e = cc

-- each pin is of one configuration, and each that was noted has a pin of its own
pub all_numbered : (plans : List Plan) (number : ℕ) (before now : Seen) (last : Desk) → ((p : Plan) → Contains last.pins p → p.number ≡ number)
    → (conns : Slab Conn) × AreNone conns × AccountedFor plans before now last conns → AreNumbered number before now
all_numbered plans number before now last pinned (conns, none, a) =
    let are : last.pins ≡ map label_plan a.accounts.labels = a.accounts.all ∙ ap (λ (ps : List Plan). ps ++ map label_plan a.accounts.labels) a.unused.pins in
    record {
      ran = a.accounts.ran;
      log = a.accounts.log;
      numbered = λ link. subst (λ (ns : List ℕ). AllByRecursion (λ (m : ℕ). m ≡ number) ns) (a.accounts.others link (λ k c at e. none_some c (sym (none k) ∙ at)))
          (pinned_numbered number link a.accounts.labels (λ p has. pinned p (subst (λ (ps : List Plan). Contains ps p) (sym are) has)));
    }
