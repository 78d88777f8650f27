-- What a worker's run says.
use Rattle.std.proofs.Common.{◌≡◌, ◌≢◌, ◌⊎◌, inl, inr, ℕ, ◌<◌, ◌≤◌, List, [], ◌∷◌, length, get_or, set, Option, Some, None, IfSome, IfNone, refl, sym, ◌∙◌, subst, arith}
use Rattle.std.specs.List.{Contains}
use Rattle.slab.specs.Slab.{Slab, slab_len}
use Rattle.link_world.specs.Lately.{Lately}
use Rattle.link_world.specs.Log.{Event}
use Rattle.link_world.specs.Seen.{Seen, Rose}
use Rattle.conversation.specs.Plans.{Plan}
use Rattle.desk.specs.Desks.{Desk}
use Rattle.desk.specs.Kept.{desk_of}
use Rattle.desk.specs.declared.one.OneDesk.{OneDesk}
use Rattle.conn_machine.specs.declared.conn.Conn.{Conn}
use Rattle.conn_service.specs.Went.{extended}
use Rattle.worker_loop.specs.Accounts.{Accounts}
use Rattle.worker_loop.specs.Complete.{AllComplete}
use Rattle.worker_loop.specs.Met.{Meets, AllEnded, AllClosed, AllNamed, NotesOfClients}
use Rattle.worker_loop.specs.Named.{NamesDistinct}
use Rattle.worker_loop.specs.Rounds.{Leads, LastRound, RanRounds}
use Rattle.worker_loop.specs.Runs.{Runs, EndsServed}
use Rattle.worker_loop.specs.Settled.{StoppedAfter, IsOneLost, LosesOne}
use Rattle.worker_loop.specs.declared.rounds.WorkerEnd.{WorkerEnd}
use Rattle.worker_loop.specs.declared.rounds.WorkerEnd.TheVariants.{Stopped, WorldFault, Memory}
use Rattle.publisher.specs.declared.files.Load.{Load}
use Rattle.serve_cmd.specs.Ran.{IsEnd, AreNone, AccountedFor, StoppedCalmly, UpToLast, Served, WasBegun, Ran}
use Rattle.serve_cmd.specs.Ready.{IsUnused}
use Rattle.serve_cmd.specs.Worlds.{AtFirst}
use Rattle.serve_cmd.proofs.Numbered.{all_numbered}

-- by what is said of each end
pub end_by : (before now : Seen) (end : WorkerEnd) → (end ≡ Stopped → Rose before.stops now.stops) → (end ≡ WorldFault → Rose before.waits_failed now.waits_failed) → IsEnd before now end
end_by before now Stopped stops waits = stops refl
end_by before now WorldFault stops waits = waits refl
end_by before now Memory stops waits = tt

-- What is said of the moment before the last round, by a desk whose generations stayed until then and from then on.
pub up_to_last : (is_moment : Seen → Lately → Type 0) (plans : List Plan) (published : ℕ) (first : Slab Conn) (before now : Seen) (from final : Desk) (end : WorkerEnd)
    → from.generations ≡ plans → IsUnused from → final.generations ≡ plans
    → (at : Seen) (l : Lately) → is_moment at l → (held : OneDesk) (conns : Slab Conn)
    → final.generations ≡ (desk_of held).generations → ((p : Plan) → Contains (desk_of held).pins p → p.number ≡ published)
    → LastRound (LosesOne first before now final.generations) end at now → Runs first before at (desk_of held).generations conns
    → Meets first before at conns → Accounts before at from (desk_of held) conns
    → UpToLast is_moment plans published first before now end
up_to_last is_moment plans published first before now from final end seen unused same at l moment held conns stayed pinned last runs met accounts =
    let exact : (desk_of held).generations ≡ plans = sym stayed ∙ same in
    record {
      at = at;
      lately = l;
      moment = moment;
      last = subst (λ (gs : List Plan). LastRound (LosesOne first before now gs) end at now) same last;
      conns = conns;
      runs = subst (λ (gs : List Plan). Runs first before at gs conns) exact runs;
      met = met;
      desk = held;
      exact = exact;
      pinned = pinned;
      accounted = record { from = from; generations = seen; unused = unused; accounts = accounts };
    }

-- what is said of a run of a worker that began without connections, and of its desk, whose generations stayed
pub served_by : (is_moment : Seen → Lately → Type 0) (plans : List Plan) (published : ℕ) (first : Slab Conn) (links : ℕ) (before now : Seen) (last : Desk) (end : WorkerEnd)
    → last.generations ≡ plans → ((p : Plan) → Contains last.pins p → p.number ≡ published) → links ≡ 256 → slab_len first ≤ links → AreNone first
    → (ran : List Event) × (now.log ≡ extended before.log ran) × IfSome before.log (λ log. EndsServed before now last.generations log ran)
    → (ran : List Event) × Leads before now ran × RanRounds (LosesOne first before now last.generations) end ran
    → UpToLast is_moment plans published first before now end
    → (end ≢ Memory → AllEnded first before now) → NotesOfClients first before now
    → (end ≢ Memory → AllClosed first before now) → (end ≢ Memory → AllNamed before now) → NamesDistinct before now
    → ((end ≡ Stopped) ⊎ (before.stops < now.stops) → (at : Seen) × (l : Lately) × is_moment at l
    × ((conns : Slab Conn) × StoppedAfter first before at l now last.generations conns links × AllComplete before at l now × (end ≡ Memory → IsOneLost at now conns)))
    → IsEnd before now end → (end ≢ Memory → (conns : Slab Conn) × AreNone conns × AccountedFor plans before now last conns)
    → Served is_moment plans published before now (Some last) end
served_by is_moment plans published first links before now last end same pinned many few none served rounds until met noted closed owned distinct settled cause accounted = record {
  first = first;
  none = none;
  served = subst (λ (gs : List Plan). (ran : List Event) × (now.log ≡ extended before.log ran) × IfSome before.log (λ log. EndsServed before now gs log ran)) same served;
  rounds = subst (λ (gs : List Plan). (ran : List Event) × Leads before now ran × RanRounds (LosesOne first before now gs) end ran) same rounds;
  until = until;
  met = met;
  noted = noted;
  closed = closed;
  owned = owned;
  distinct = distinct;
  settled = λ why. calm (settled why);
  cause = cause;
  desk = last;
  desk_is = refl;
  exact = same;
  pinned = pinned;
  newest = λ not_memory. all_numbered plans published before now last pinned (accounted not_memory);
  accounted = accounted;
}
  where
    calm : (at : Seen) × (l : Lately) × is_moment at l
        × ((conns : Slab Conn) × StoppedAfter first before at l now last.generations conns links × AllComplete before at l now × (end ≡ Memory → IsOneLost at now conns))
        → StoppedCalmly is_moment plans first before now end
    calm (at, l, m, (conns, stopped, complete, lost)) = record {
      at = at;
      lately = l;
      moment = m;
      conns = conns;
      stopped = subst (λ (n : ℕ). StoppedAfter first before at l now plans conns n) many
          (subst (λ (gs : List Plan). StoppedAfter first before at l now gs conns links) same stopped);
      most = subst (λ (n : ℕ). slab_len conns ≤ n) many (stopped.most few);
      complete = complete;
      lost = lost;
    }

-- what is said of a desk's generations is said of those of an equal one
pub served_same : (is_moment : Seen → Lately → Type 0) (d e : OneDesk) (published : ℕ) (before now : Seen) (last : Option Desk) (end : Option WorkerEnd) → d ≡ e
    → IfSome end (Served is_moment (desk_of d).generations published before now last) → IfSome end (Served is_moment (desk_of e).generations published before now last)
served_same is_moment d e published before now last end same served = subst (λ (x : OneDesk). IfSome end (Served is_moment (desk_of x).generations published before now last)) same served

-- a beginning, and the run of a worker by what was published, if one ran
pub ran_by : (is_moment : Seen → Lately → Type 0) (path : Option (List ℕ)) (loads_old loads_new : Option (List Load)) (from to : ℕ) (held_old held_new : Option (List ℕ)) (before now : Seen)
    (last : Option Desk) (plans : List Plan) (published said : ℕ) (end : Option WorkerEnd) → said ≡ published → WasBegun path loads_old loads_new from to held_old held_new plans published
    → IfSome end (Served is_moment plans said before now last)
    → IfSome end (λ e. Ran is_moment path loads_old loads_new from to held_old held_new before now last e said)
ran_by is_moment path loads_old loads_new from to held_old held_new before now last plans published said None same begun served = tt
ran_by is_moment path loads_old loads_new from to held_old held_new before now last plans published said (Some e) same begun served = record {
  plans = plans;
  begun = subst (λ (n : ℕ). WasBegun path loads_old loads_new from to held_old held_new plans n) (sym same) begun;
  served = served;
}

-- where no worker ran, all that is published was written
pub short_by : (path : Option (List ℕ)) (loads_old loads_new : Option (List Load)) (from to : ℕ) (held_old held_new : Option (List ℕ)) (plans : List Plan) (published said status : ℕ) (end : Option WorkerEnd)
    → said ≡ published → WasBegun path loads_old loads_new from to held_old held_new plans published
    → IfNone end (status ≡ 7 → (held_new ≡ held_old) ⊎ ((ps : List Plan) × WasBegun path loads_old loads_new from to held_old held_new ps said))
short_by path loads_old loads_new from to held_old held_new plans published said status None same begun =
    λ is. inr (plans, subst (λ (n : ℕ). WasBegun path loads_old loads_new from to held_old held_new plans n) (sym same) begun)
short_by path loads_old loads_new from to held_old held_new plans published said status (Some e) same begun = tt

-- a change of the first world, which alone was written, is a change of the worlds
pub at_first : {W : Type 0} (P : W → W → Type 0) (worlds : List W) (before now : W) → 0 < length worlds → before ≡ get_or worlds 0 before → P before now
    → AtFirst worlds (set worlds 0 now) P
at_first {W = W} P [] before now some is changed = absurd (omega (arith, some))
at_first {W = W} P (w ∷ ws) before now some is changed = (subst (λ (x : W). P x now) is changed, refl)

pub at_first_if : {W A : Type 0} (P : A → W → W → Type 0) (end : Option A) (worlds : List W) (before now : W) → 0 < length worlds → before ≡ get_or worlds 0 before
    → IfSome end (λ e. P e before now) → IfSome end (λ e. AtFirst worlds (set worlds 0 now) (P e))
at_first_if P None worlds before now some is changed = tt
at_first_if P (Some e) worlds before now some is changed = at_first (P e) worlds before now some is changed
