-- The listens of words, one by one.
use Rattle.std.proofs.Common.{◌≡◌, ◌∙◌, ℕ, zero, suc, ◌<◌, ◌+◌, ◌++◌, List, [], ◌∷◌, length, get_or, take, map, refl, sym, ap, subst, arith, true, false, Option, Some, None, IsSomeAnd}
use Rattle.std.proofs.lemmas.List.{take_more}
use Rattle.std.proofs.lemmas.Bool.{false≢true}
use Rattle.ip_net.specs.declared.ip.Ip.{Ip}
use Rattle.link_world.specs.declared.plan.Listen.{Listen}
use Rattle.command_words.specs.Cuts.{Cut, cut_at}
use Rattle.command_words.specs.Values.{IsAddress}
use Rattle.command_words.specs.Commands.{IsEntry, IsListen, AreListens, entry_of, are_apart}

-- one more word and its listen
pub listens_more : (words : List (List ℕ)) (listens : List Listen) (word : List ℕ) (listen : Listen) → AreListens words listens → IsListen word listen → AreListens (words ++ word ∷ []) (listens ++ listen ∷ [])
listens_more [] [] word listen h is = (is, tt)
listens_more [] (l ∷ ls) word listen h is = absurd h
listens_more (w ∷ ws) [] word listen h is = absurd h
listens_more (w ∷ ws) (l ∷ ls) word listen h is = (h.0, listens_more ws ls word listen h.1 is)

-- none where a word is no listen
pub no_listens : (words : List (List ℕ)) (k : ℕ) (d : List ℕ) → k < length words → ((l : Listen) → ¬ (IsListen (get_or words k d) l)) → (listens : List Listen) → ¬ (AreListens words listens)
no_listens [] k d l none listens = λ is. absurd (omega arith)
no_listens (w ∷ ws) k d l none [] = λ is. is
no_listens (w ∷ ws) zero d l none (x ∷ xs) = λ is. none x is.0
no_listens (w ∷ ws) (suc k) d l none (x ∷ xs) = λ is. no_listens ws k d (omega arith) none xs is.1

-- the words before the next one, and then that one
pub listens_next : (words : List (List ℕ)) (k : ℕ) (listens new : List Listen) (word text : List ℕ) (listen : Listen) → k < length words → word ≡ get_or words k word → text ≡ word
    → AreListens (take k words) listens → IsListen text listen → new ≡ listens ++ listen ∷ [] → AreListens (take (k + 1) words) new
listens_next words k listens new word text listen l at e h is n =
    rw (take_more words k word l, n) (listens_more (take k words) listens (get_or words k word) listen h (subst (λ (w : List ℕ). IsListen w listen) (e ∙ at) is))

-- a word that is no listen
pub no_listen_at : (words : List (List ℕ)) (k : ℕ) (word text : List ℕ) → k < length words → word ≡ get_or words k word → text ≡ word → ((l : Listen) → ¬ (IsListen text l)) → (listens : List Listen) → ¬ (AreListens words listens)
no_listen_at words k word text l at e none listens =
    no_listens words k word l (λ x is. none x (subst (λ (w : List ℕ). IsListen w x) (sym (e ∙ at)) is)) listens

-- a word has one entry point
same_cut : (o : Option Cut) (a b : List ℕ) (i j : Ip) (p q : ℕ) → IsSomeAnd o (λ cut. (cut.before ≡ a) × IsEntry a × IsAddress cut.behind i p) → IsSomeAnd o (λ cut. (cut.before ≡ b) × IsEntry b × IsAddress cut.behind j q) → a ≡ b
same_cut None a b i j p q g h = absurd g
same_cut (Some cut) a b i j p q g h = sym g.0 ∙ h.0

same_entry : (word : List ℕ) (l m : Listen) → IsListen word l → IsListen word m → entry_of l ≡ entry_of m
same_entry word l m g h = same_cut (cut_at 61 word) l.entry m.entry l.ip m.ip l.port m.port g h

same_entries : (words : List (List ℕ)) (ls ms : List Listen) → AreListens words ls → AreListens words ms → map entry_of ls ≡ map entry_of ms
same_entries [] [] [] g h = refl
same_entries [] [] (m ∷ ms) g h = absurd h
same_entries [] (l ∷ ls) ms g h = absurd g
same_entries (w ∷ ws) [] ms g h = absurd g
same_entries (w ∷ ws) (l ∷ ls) [] g h = absurd h
same_entries (w ∷ ws) (l ∷ ls) (m ∷ ms) g h =
    let first : entry_of l ≡ entry_of m = same_entry w l m g.0 h.0 in
    let rest : map entry_of ls ≡ map entry_of ms = same_entries ws ls ms g.1 h.1 in
    cc

-- where an entry point stands twice, no listens of these words are apart
pub never_apart : (words : List (List ℕ)) (ls : List Listen) → AreListens words ls → are_apart (map entry_of ls) ≡ false → (ms : List Listen) → AreListens words ms → are_apart (map entry_of ms) ≡ true → ⊥
never_apart words ls g twice ms h apart = false≢true (sym twice ∙ ap are_apart (same_entries words ls ms g h) ∙ apart)
