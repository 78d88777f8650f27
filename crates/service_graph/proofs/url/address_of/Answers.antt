use Rattle.std.proofs.Common.{◌≡◌, ◌++◌, ◌∷◌, ◌∙◌, ◌+◌, List, ℕ, inr, sym, subst, take, length, refl, All}
use Rattle.std.proofs.lemmas.Bool.{false≢true}
use Rattle.service_graph.proofs.Hosts.{address_cut, address_none, address_host, tail_is, pure_behind, NotClosing}
use Rattle.service_graph.proofs.url.address_of.Goals as goal

pub returns-then-not-is_ipv6 : goal.returns-then-not-is_ipv6
returns-then-not-is_ipv6 c = λ host port a.
    let text = c.args.text.now in
    let inner = c.in-Some.inner.now in
    let cut : c.requires.0 ≡ inner ++ 93 ∷ c.in-Some.after.now = sym (tail_is text c.requires.0 c.requires.1) ∙ c.in-Some.ensures.0 in
    let is = address_host text c.requires.0 inner c.in-Some.after.now c.requires.1 cut in
    false≢true (c.if-not-is_ipv6.ensures.1 (address_cut text host (take (length inner + 2) text) inner c.in-Some.after.now port is.1 is.0 c.in-Some.ensures.1 a).0)

pub returns-in-None-port_after : goal.returns-in-None-port_after
returns-in-None-port_after c = λ host port a.
    let text = c.args.text.now in
    let inner = c.in-Some.inner.now in
    let cut : c.requires.0 ≡ inner ++ 93 ∷ c.in-Some.after.now = sym (tail_is text c.requires.0 c.requires.1) ∙ c.in-Some.ensures.0 in
    let is = address_host text c.requires.0 inner c.in-Some.after.now c.requires.1 cut in
    c.in-None-port_after.ensures port (address_cut text host (take (length inner + 2) text) inner c.in-Some.after.now port is.1 is.0 c.in-Some.ensures.1 a).1

pub returns-in-Some-port_after : goal.returns-in-Some-port_after
returns-in-Some-port_after c =
    let text = c.args.text.now in
    let inner = c.in-Some.inner.now in
    let cut : c.requires.0 ≡ inner ++ 93 ∷ c.in-Some.after.now = sym (tail_is text c.requires.0 c.requires.1) ∙ c.in-Some.ensures.0 in
    let is = address_host text c.requires.0 inner c.in-Some.after.now c.requires.1 cut in
    record {
      is_host = inr (inner, is.0, c.in-Some.ensures.1, c.if-not-is_ipv6.ensures.0 refl);
      after = c.in-Some.after.now;
      text_is = is.1;
      is_port = c.in-Some-port_after.ensures;
    }

pub returns-in-None : goal.returns-in-None
returns-in-None c = λ host port a.
    let text = c.args.text.now in
    let P : List ℕ → Type 0 = λ t. All NotClosing t in
    let rest_pure = subst P (tail_is text c.requires.0 c.requires.1) c.in-None.ensures in
    address_none text host c.requires.0 port c.requires.1 (subst P (sym c.requires.1) (pure_behind c.requires.0 rest_pure)) a
