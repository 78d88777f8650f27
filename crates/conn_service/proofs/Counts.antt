-- How often links were read, and what stays where nothing moved.
use Rattle.std.proofs.Common.{◌≡◌, ◌≢◌, ◌⊎◌, ℕ, ◌+◌, ◌<◌, ◌≤◌, min, nat_eq, length, List, [], ◌∷◌, refl, sym, ◌∙◌, subst, inl, inr, arith, true, false, Bool}
use Rattle.std.specs.Prelude.{Result, Ok, Err, IfOk}
use Rattle.std.proofs.lemmas.List.{nil_from_length}
use Rattle.std.proofs.lemmas.Bool.{cases_eq}
use Rattle.std.proofs.lemmas.Bool.Decides.{nat_tests}
use Rattle.link_world.specs.Seen.{Seen}
use Rattle.link_world.specs.Lately.{Lately, ReadLately, WriteLately}
use Rattle.link_world.specs.declared.world.LinkRead.{LinkRead}
use Rattle.link_world.specs.declared.world.LinkRead.TheVariants as read
use Rattle.link_world.specs.declared.world.LinkWrite.{LinkWrite}
use Rattle.link_world.specs.declared.world.LinkWrite.TheVariants as write
use Rattle.conn_machine.specs.Reached.{KeepsServer}
use Rattle.conn_machine.specs.declared.parts.Client.{Client}
use Rattle.conn_machine.specs.declared.conn.Conn.{Conn}
use Rattle.conn_service.specs.Moments.{IsExchanging, Linked}
use Rattle.conn_service.specs.Counts.{Counted, SameWork, Stays}
use Rattle.conn_service.specs.declared.turn.Reads.{Reads}

-- where each link was read as often
pub counted_as : {r : Reads} {l m : Lately} {c d : Conn} → ((k : ℕ) → m.reads k ≡ l.reads k) → d.client ≡ c.client → KeepsServer c d → Counted r l c → Counted r m d
counted_as {r} {l} {m} {c} {d} same client server h = record {
  client = subst (λ (k : Client). r.client ≤ m.reads k.link) (sym client) (omega (arith, same c.client.link, h.client));
  client_most = h.client_most;
  server = λ ex. let k = server ex in subst (λ (n : ℕ). r.server ≤ m.reads n) (sym k.1) (omega (arith, same c.current.link, h.server k.0));
  server_most = h.server_most;
}

pub counted_same : {r : Reads} {l : Lately} {c d : Conn} → d.client ≡ c.client → KeepsServer c d → Counted r l c → Counted r l d
counted_same {r} {l} {c} {d} client server h = counted_as (λ k. refl) client server h

-- the client's link was read once more
pub counted_client : {s : Seen} {r : Reads} {l m : Lately} {c d : Conn} {result : LinkRead} → Linked s c → ReadLately l c.client.link result m → d.client ≡ c.client → KeepsServer c d
    → r.client < 64 → Counted r l c → Counted (record r { client = r.client + 1 }) m d
counted_client {s} {r} {l} {m} {c} {d} {result} linked did client server below h = record {
  client = subst (λ (k : Client). r.client + 1 ≤ m.reads k.link) (sym client) (more (l.reads c.client.link) (m.reads c.client.link) did.reads h.client);
  client_most = omega arith;
  server = λ ex. let k = server ex in subst (λ (n : ℕ). r.server ≤ m.reads n) (sym k.1) (omega (arith, (did.only.others c.current.link (linked.apart k.0)).reads, h.server k.0));
  server_most = h.server_most;
}
  where
    more : (a b : ℕ) → b ≡ min (a + 1) 18446744073709551615 → r.client ≤ a → r.client + 1 ≤ b
    more a b is le = omega (arith, is, le, below)

-- the server's link was read once more
pub counted_server : {s : Seen} {r : Reads} {l m : Lately} {c d : Conn} {result : LinkRead} {link : ℕ} → Linked s c → IsExchanging c → link ≡ c.current.link → ReadLately l link result m → d.client ≡ c.client → KeepsServer c d
    → r.server < 64 → Counted r l c → Counted (record r { server = r.server + 1 }) m d
counted_server {s} {r} {l} {m} {c} {d} {result} {link} linked ex at did client server below h = record {
  client = subst (λ (k : Client). r.client ≤ m.reads k.link) (sym client) (omega (arith, (did.only.others c.client.link (λ same. linked.apart ex (sym at ∙ sym same))).reads, h.client));
  client_most = h.client_most;
  server = λ now. let k = server now in subst (λ (n : ℕ). r.server + 1 ≤ m.reads n) (at ∙ sym k.1) (more (l.reads link) (m.reads link) did.reads (subst (λ (n : ℕ). r.server ≤ l.reads n) (sym at) (h.server ex)));
  server_most = omega arith;
}
  where
    more : (a b : ℕ) → b ≡ min (a + 1) 18446744073709551615 → r.server ≤ a → r.server + 1 ≤ b
    more a b is le = omega (arith, is, le, below)

same_reads : {l m : Lately} {link : ℕ} {result : LinkWrite} → WriteLately l link result m → (k : ℕ) → m.reads k ≡ l.reads k
same_reads {l} {m} {link} {result} did k = by (cases_eq k link)
  where
    by : (k ≡ link) ⊎ (k ≢ link) → m.reads k ≡ l.reads k
    by (inl same) = subst (λ (n : ℕ). m.reads n ≡ l.reads n) (sym same) did.reads
    by (inr ne) = (did.only.others k ne).reads

-- a link was written
pub counted_write : {r : Reads} {l m : Lately} {c d : Conn} {link : ℕ} {result : LinkWrite} → WriteLately l link result m → d.client ≡ c.client → KeepsServer c d → Counted r l c → Counted r m d
counted_write did client server h = counted_as (same_reads did) client server h

pub work_same : (c : Conn) → SameWork c c
work_same c = record { client = refl; current = refl; phase = refl; stage = refl; over = refl; input = refl; pending = refl }

pub work_then : {c d e : Conn} → SameWork c d → SameWork d e → SameWork c e
work_then {c} {d} {e} p q = record {
  client = q.client ∙ p.client;
  current = q.current ∙ p.current;
  phase = q.phase ∙ p.phase;
  stage = q.stage ∙ p.stage;
  over = q.over ∙ p.over;
  input = q.input ∙ p.input;
  pending = q.pending ∙ p.pending;
}

pub stays_work : (l : Lately) {c d : Conn} → SameWork c d → Stays l l c d
stays_work l same = record { same = same; read_quiet = λ k is. is; write_quiet = λ k is. is; reads = λ k n most le. le }

pub stays_then : {l m n : Lately} {c d e : Conn} → Stays l m c d → Stays m n d e → Stays l n c e
stays_then {l} {m} {n} {c} {d} {e} p q = record {
  same = work_then p.same q.same;
  read_quiet = λ k is. q.read_quiet k (p.read_quiet k is);
  write_quiet = λ k is. q.write_quiet k (p.write_quiet k is);
  reads = λ k j most le. q.reads k j most (p.reads k j most le);
}

-- a read that found nothing
pub stays_read : {l m : Lately} {c d : Conn} {link : ℕ} → ReadLately l link read.NotYet m → SameWork c d → Stays l m c d
stays_read {l} {m} {c} {d} {link} did same = record {
  same = same;
  read_quiet = λ k is. quiet k is (cases_eq k link);
  write_quiet = λ k is. unwritten k (cases_eq k link) ∙ is;
  reads = λ k n most le. more k n most le (cases_eq k link);
}
  where
    quiet : (k : ℕ) → l.read_quiet k ≡ true → (k ≡ link) ⊎ (k ≢ link) → m.read_quiet k ≡ true
    quiet k is (inl at) = subst (λ (n : ℕ). m.read_quiet n ≡ true) (sym at) did.read_quiet
    quiet k is (inr ne) = (did.only.others k ne).read_quiet ∙ is

    unwritten : (k : ℕ) → (k ≡ link) ⊎ (k ≢ link) → m.write_quiet k ≡ l.write_quiet k
    unwritten k (inl at) = subst (λ (n : ℕ). m.write_quiet n ≡ l.write_quiet n) (sym at) did.write_quiet
    unwritten k (inr ne) = (did.only.others k ne).write_quiet

    up : (n a b : ℕ) → b ≡ min (a + 1) 18446744073709551615 → n ≤ 64 → n ≤ a → n ≤ b
    up n a b is most le = omega (arith, is, most, le)

    more : (k n : ℕ) → n ≤ 64 → n ≤ l.reads k → (k ≡ link) ⊎ (k ≢ link) → n ≤ m.reads k
    more k n most le (inl at) = subst (λ (i : ℕ). n ≤ m.reads i) (sym at) (up n (l.reads link) (m.reads link) did.reads most (subst (λ (i : ℕ). n ≤ l.reads i) at le))
    more k n most le (inr ne) = omega (arith, (did.only.others k ne).reads, le)

-- a write that found no room
pub stays_write : {l m : Lately} {c d : Conn} {link : ℕ} → WriteLately l link write.NotYet m → SameWork c d → Stays l m c d
stays_write {l} {m} {c} {d} {link} did same = record {
  same = same;
  read_quiet = λ k is. unread k (cases_eq k link) ∙ is;
  write_quiet = λ k is. quiet k is (cases_eq k link);
  reads = λ k n most le. omega (arith, same_reads did k, le);
}
  where
    quiet : (k : ℕ) → l.write_quiet k ≡ true → (k ≡ link) ⊎ (k ≢ link) → m.write_quiet k ≡ true
    quiet k is (inl at) = subst (λ (n : ℕ). m.write_quiet n ≡ true) (sym at) did.write_quiet
    quiet k is (inr ne) = (did.only.others k ne).write_quiet ∙ is

    unread : (k : ℕ) → (k ≡ link) ⊎ (k ≢ link) → m.read_quiet k ≡ l.read_quiet k
    unread k (inl at) = subst (λ (n : ℕ). m.read_quiet n ≡ l.read_quiet n) (sym at) did.read_quiet
    unread k (inr ne) = (did.only.others k ne).read_quiet

pub empty_of : {X : Type 0} (b : Bool) (xs : List X) → b ≡ nat_eq (length xs) 0 → b ≡ true → xs ≡ []
empty_of b xs is yes_ = nil_from_length xs (zero_of (length xs) (sym is ∙ yes_))
  where
    zero_of : (n : ℕ) → nat_eq n 0 ≡ true → n ≡ 0
    zero_of n e = grind (arith, nat_tests)

pub some_of : {X : Type 0} (b : Bool) (xs : List X) → b ≡ nat_eq (length xs) 0 → b ≡ false → 0 < length xs
some_of b [] is no_ = absurd (let f : ⊥ = cc in f)
some_of b (x ∷ xs) is no_ = omega arith

pub if_ok : {T E : Type 0} {P Q : T → Type 0} (r : Result T E) → ((x : T) → P x → Q x) → IfOk r P → IfOk r Q
if_ok (Ok x) f h = f x h
if_ok (Err e) f h = tt

-- the server's link is another than the client's
pub server_other : {s : Seen} {c : Conn} {link : ℕ} → Linked s c → IsExchanging c → link ≡ c.current.link → link ≢ c.client.link
server_other linked ex at same = linked.apart ex (sym at ∙ same)
