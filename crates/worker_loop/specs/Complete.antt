-- When each request of the connections that a run ended has its whole reply.
use Rattle.std.specs.Prelude.{◌≡◌, ◌≢◌, ◌⊎◌, ℕ, List, [], ◌∷◌, ◌++◌, IfSome, true}
use Rattle.std.specs.List.{Contains}
use Rattle.ip_net.specs.declared.ip.Ip.{Ip}
use Rattle.link_world.specs.declared.note.EndCause.{EndCause}
use Rattle.link_world.specs.declared.note.EndCause.TheVariants.{Stopped, Memory}
use Rattle.link_world.specs.Lately.{Lately}
use Rattle.link_world.specs.Log.{Event, LinkEvent, came, history_of, failures_of, notes}
use Rattle.link_world.specs.Seen.{Seen}
use Rattle.conversation.specs.Steps.{Step, history}
use Rattle.conversation.specs.Served.{end_note}
use Rattle.conversation.specs.Complete.{GaveRequests, IsComplete}
use Rattle.conn_service.specs.Went.{extended}
use Rattle.worker_loop.specs.Owned.{TellsAll, Shows}

-- The connection on this link. Its steps tell of the client's link, and of each link that was dialled for it, what the log
-- tells. Where its client gave whole valid requests, they have their whole replies.
pub record IsWellServed (cause : EndCause) (stuck failed : Type 0) (log : List Event) (link : ℕ) : Type 0 where
  pub entry : List ℕ
  pub peer : Ip
  pub steps : List Step
  pub arrived : (more : List LinkEvent) × (history link steps ≡ came entry peer ∷ more)
  pub client : TellsAll link steps log
  pub shows : Shows steps log
  pub complete : (items : List (List ℕ)) → GaveRequests peer link steps items → IsComplete cause stuck failed link entry peer steps items

-- What the note of an end says. Where memory ran out, nothing. For another cause than a stop, that the connection was well
-- served by the whole log. For a stop, that it was well served by the log up to that moment: there a client takes no more
-- where the last write to it answered NotYet.
abbrev pub EndSays : (at : Seen) → Lately → (log : List Event) → ℕ → EndCause → Type 0
EndSays at l log link cause =
    (cause ≡ Memory) ⊎ IsWellServed cause ⊥ (failures_of link log ≢ []) log link
    ⊎ ((cause ≡ Stopped) × IfSome at.log (λ had. IsWellServed Stopped (l.write_quiet link ≡ true) ⊥ had link))

-- This holds of each end that was noted since the first moment, in a run in which a stop was asked for at the second.
pub record AllComplete (base at : Seen) (l : Lately) (now : Seen) : Type 0 where
  pub ran : List Event
  pub log : now.log ≡ extended base.log ran
  pub says : IfSome base.log (λ before. (link : ℕ) (cause : EndCause) → Contains (notes (history_of link ran)) (end_note link cause)
      → EndSays at l (before ++ ran) link cause)
