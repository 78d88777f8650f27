-- What middlewares may write into a message.
use Rattle.std.specs.Prelude.{◌≡◌, ℕ, ◌==◌, ◌⊎◌, ◌↔◌, Bool, true, not, ◌&&◌, ◌||◌, nat_lt, List, Contains, Option, IsSome, IsTrue}
use Rattle.std.specs.List.{filter, list_all}
use Rattle.std.specs.Option.{ForSome}
use Rattle.dyn_config.specs.Values.{is_field_name}
use Rattle.head_view.specs.Lines.{Line as Field}
use Rattle.http_wire.specs.Fields.{is_hop_by_hop}
use Rattle.http_wire.specs.Own.{is_own_error, is_redirect}
use Rattle.http_wire.specs.declared.message.Reply.{Reply}
use Rattle.http_wire.specs.declared.message.Request.{Request}
use Rattle.middleware_stage.specs.Lawful.{is_framing_name}
use Rattle.middleware_chain.specs.declared.flow.Flow.{Flow}
use Rattle.middleware_chain.specs.declared.flow.Flow.TheVariants.{Pass, Stop}

-- neither CR nor LF
abbrev pub is_inner_byte : ℕ → Bool
is_inner_byte b = not (b == 13) && not (b == 10)

-- no line ends in the text
abbrev pub ends_no_line : List ℕ → Bool
ends_no_line text = list_all is_inner_byte text

-- a byte above a blank
abbrev pub is_word_byte : ℕ → Bool
is_word_byte b = nat_lt 32 b

abbrev pub is_one_word : List ℕ → Bool
is_one_word text = list_all is_word_byte text

-- a line that a middleware may write: its name is a field name that says nothing of framing or of one connection, and no line ends
-- in its value
abbrev pub is_writable : Field → Bool
is_writable line = is_field_name line.0 && not (is_framing_name line) && not (is_hop_by_hop line) && ends_no_line line.1

-- each line was there or may be written, and the lines of framing are those that were there
pub record AreSafeLines (lines new : List Field) : Type 0 where
  pub known : (line : Field) → Contains new line → Contains lines line ⊎ IsTrue (is_writable line)
  pub framing : filter is_framing_name new ≡ filter is_framing_name lines

-- a request that goes on: its lines are safe, no line ends in its host text where that is another, its path is one word, and all else
-- is as it was
pub record IsSafeChange (q q' : Request) : Type 0 where
  pub lines : AreSafeLines q.lines q'.lines
  pub host : (q'.host ≡ q.host) ⊎ IsTrue (ends_no_line q'.host)
  pub path : IsTrue (is_one_word q'.path)
  pub method : q'.method ≡ q.method
  pub query : q'.query ≡ q.query
  pub framing : q'.framing ≡ q.framing
  pub version : q'.version ≡ q.version
  pub keep : q'.keep ≡ q.keep

-- a reply that goes on: its lines are safe, and all else is as it was
pub record IsSafeReply (a a' : Reply) : Type 0 where
  pub lines : AreSafeLines a.lines a'.lines
  pub status : a'.status ≡ a.status
  pub reason : a'.reason ≡ a.reason
  pub framing : a'.framing ≡ a.framing

-- an own reply: its status is one that the proxy answers by itself, with a location exactly where it redirects; the location is one
-- word
pub record IsOwnStop (status : ℕ) (location : Option (List ℕ)) : Type 0 where
  pub known : IsTrue (is_redirect status || is_own_error status)
  pub located : IsTrue (is_redirect status) ↔ IsSome location
  pub word : ForSome location (λ text. IsTrue (is_one_word text))

abbrev pub IsSafe : Request → Flow → Type 0
IsSafe q (Pass q' limit) = IsSafeChange q q'
IsSafe q (Stop place status location) = IsOwnStop status location
