-- What a probe's begin and end make of the servers.
use Rattle.std.proofs.Common.{◌≡◌, ℕ, zero, suc, ◌+◌, ◌-◌, ◌^◌, min, ◌<◌, ◌≤◌, Bool, true, false, List, [], ◌∷◌, ◌++◌, length, refl, sym, ap, ◌∙◌, set, get_or, map, drop, arith}
use Rattle.std.specs.Prelude.{replicate}
use Rattle.std.specs.List.{fold}
use Rattle.std.proofs.lemmas.List.{length-set, length-replicate, map-set, length-map, length-drop}
use Rattle.std.proofs.Math.Pow.{pow_mono}
use Rattle.health_state.specs.declared.verdicts.Server.{Server}
use Rattle.health_state.specs.Marks.{Mark, ups_after, flags_mask, mask_of}
use Rattle.health_state.specs.Health.{Health, begun_at, began, judged, fresh, Follows, Step, begins, ends, after, verdicts, up_mask}
use Rattle.health_state.proofs.Marking.{ups_after-push, marked}
use Rattle.health_state.proofs.Flags.{flags_mask-below}

abbrev pub is_up : Server → Bool
is_up server = server.up

-- to write the flag in place is to begin the probe
pub begun_at-write : (servers : List Server) (place : ℕ) (was : Server) → place < length servers → was ≡ get_or servers place was → set servers place (record { up = was.up; begun = true; due = was.due }) ≡ begun_at servers place
begun_at-write [] place was h e = absurd (omega arith)
begun_at-write (first ∷ rest) zero was h e = ap (λ (s : Server). let begun : Server = record s { begun = true } in begun ∷ rest) e
begun_at-write (first ∷ rest) (suc place) was h e = ap (λ ss. first ∷ ss) (begun_at-write rest place was (omega arith) e)

ups-begun_at : (servers : List Server) (place : ℕ) → map is_up (begun_at servers place) ≡ map is_up servers
ups-begun_at [] place = refl
ups-begun_at (first ∷ rest) zero = refl
ups-begun_at (first ∷ rest) (suc place) = ap (λ ups. first.up ∷ ups) (ups-begun_at rest place)

length-begun_at : (servers : List Server) (place : ℕ) → length (begun_at servers place) ≡ length servers
length-begun_at [] place = refl
length-begun_at (first ∷ rest) zero = refl
length-begun_at (first ∷ rest) (suc place) = ap suc (length-begun_at rest place)

map-replicate : (count : ℕ) (server : Server) → map is_up (replicate count server) ≡ replicate count server.up
map-replicate zero server = refl
map-replicate (suc count) server = ap (λ ups. server.up ∷ ups) (map-replicate count server)

pub Follows-fresh : (count interval start : ℕ) → Follows [] (fresh count interval start)
Follows-fresh count interval start =
    let server : Server = record { up = true; begun = false; due = start } in
    map-replicate count server ∙ ap (λ n. replicate n true) (sym (length-replicate count server))

pub Follows-began : (marks : List Mark) (health : Health) (server : ℕ) → Follows marks health → Follows marks (began health server)
Follows-began marks health server h =
    ups-begun_at health.servers server ∙ h ∙ ap (λ n. ups_after n marks) (sym (length-begun_at health.servers server))

pub Follows-judged : (marks : List Mark) (health : Health) (server : ℕ) (good : Bool) (now : ℕ) → Follows marks health → Follows (marks ++ record { server = server; good = good } ∷ []) (judged health server good now)
Follows-judged marks health server good now h =
    let verdict : Server = record { up = good; begun = false; due = min (now + health.interval) (2 ^ 64 - 1) } in
    map-set is_up health.servers server verdict
    ∙ ap (λ ups. set ups server good) h
    ∙ sym (ups_after-push (length health.servers) marks (record { server = server; good = good }))
    ∙ ap (λ n. ups_after n (marks ++ record { server = server; good = good } ∷ [])) (sym (length-set health.servers server verdict))

run : (steps : List Step) (health : Health) → map is_up (fold after health steps).servers ≡ fold marked (map is_up health.servers) (verdicts steps)
run [] health = refl
run (begins server ∷ steps) health =
    run steps (began health server) ∙ ap (λ ups. fold marked ups (verdicts steps)) (ups-begun_at health.servers server)
run (ends server good now ∷ steps) health =
    let verdict : Server = record { up = good; begun = false; due = min (now + health.interval) (2 ^ 64 - 1) } in
    run steps (judged health server good now)
    ∙ ap (λ ups. fold marked ups (verdicts steps)) (map-set is_up health.servers server verdict)

-- whatever probes begin and end, the mask is that of their verdicts
pub up_mask-run : (count interval start : ℕ) (steps : List Step) → up_mask (fold after (fresh count interval start) steps) ≡ mask_of count (verdicts steps)
up_mask-run count interval start steps =
    let server : Server = record { up = true; begun = false; due = start } in
    ap flags_mask (run steps (fresh count interval start))
    ∙ ap (λ ups. flags_mask (fold marked ups (verdicts steps))) (map-replicate count server)

-- the flags of all servers but the first leave room for one more bit
pub mask_room : (servers : List Server) (i mask : ℕ) → length servers ≤ 64 → 0 < i → mask ≡ flags_mask (map is_up (drop i servers)) → mask < 2 ^ 63
mask_room servers i mask few past e =
    let flags : List Bool = map is_up (drop i servers) in
    let count : length flags ≤ 63 = omega (arith, length-map (drop i servers) is_up, length-drop i servers) in
    omega (arith, e, flags_mask-below flags, pow_mono {i = length flags} {j = 63} count)
