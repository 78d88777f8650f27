-- What a request's target and its host text say (RFC 9112 section 3.2).
use Rattle.std.specs.Prelude.{◌≡◌, ℕ, ◌+◌, ◌-◌, ◌==◌, Bool, false, not, ◌&&◌, ◌||◌, List, [], ◌∷◌, length, take, drop, codes, slice_index, Option, Some, None, if◌then◌else◌, nat_le, nat_lt}
use Rattle.std.specs.List.{list_all, position, suffix_len}
use Rattle.std.specs.Char.{is_ascii_digit}
use Rattle.std.specs.Str.{str_eq_ignore_ascii_case}
use Rattle.px_base.specs.Bytes.{without_dot}
use Rattle.http_wire.specs.Fields.{is_same}

-- the target begins with a slash
abbrev pub is_origin : List ℕ → Bool
is_origin [] = false
is_origin (b ∷ _) = b == 47

-- the target begins with the scheme, without case
abbrev pub is_absolute : List ℕ → Bool
is_absolute target = nat_le 7 (length target) && str_eq_ignore_ascii_case (take 7 target) (codes "http://")

-- the authority ends at the first slash or question mark
abbrev pub ends_authority : ℕ → Bool
ends_authority b = b == 47 || b == 63

abbrev pub behind_scheme : List ℕ → List ℕ
behind_scheme target = drop 7 target

-- what stands before that place, or all where there is none
abbrev pub before_place : Option ℕ → List ℕ → List ℕ
before_place None text = text
before_place (Some at) text = take at text

-- what stands from that place on
abbrev pub from_place : Option ℕ → List ℕ → List ℕ
from_place None text = []
from_place (Some at) text = drop at text

-- what stands behind the byte at that place, where there is one
abbrev pub behind_place : Option ℕ → List ℕ → Option (List ℕ)
behind_place None text = None
behind_place (Some at) text = Some (drop (at + 1) text)

abbrev pub authority_of : List ℕ → List ℕ
authority_of target = before_place (position ends_authority (behind_scheme target)) (behind_scheme target)

-- the target without its scheme and its authority
abbrev pub path_and_query : List ℕ → List ℕ
path_and_query target =
    if is_absolute target then from_place (position ends_authority (behind_scheme target)) (behind_scheme target) else target

abbrev pub is_question : ℕ → Bool
is_question b = b == 63

-- the path is a slash where there is none
abbrev pub or_slash : List ℕ → List ℕ
or_slash [] = 47 ∷ []
or_slash (b ∷ rest) = b ∷ rest

-- what stands before the first question mark
abbrev pub path_of : List ℕ → List ℕ
path_of target = or_slash (before_place (position is_question (path_and_query target)) (path_and_query target))

-- what stands behind the first question mark, where there is one
abbrev pub query_of : List ℕ → Option (List ℕ)
query_of target = behind_place (position is_question (path_and_query target)) (path_and_query target)

-- the host text: the authority of an absolute target, else the `Host` value
abbrev pub host_text_of : List ℕ → List ℕ → List ℕ
host_text_of target host = if is_absolute target then authority_of target else host

-- a visible byte that begins no fragment
abbrev pub is_target_byte : ℕ → Bool
is_target_byte b = nat_le 33 b && nat_le b 126 && not (b == 35)

-- the target, or the host text with it, isn't one that the proxy takes
abbrev pub is_bad_target : List ℕ → List ℕ → List ℕ → Bool
is_bad_target method target host =
    is_same method (codes "CONNECT") || not (is_origin target || is_absolute target)
    || not (list_all is_target_byte target) || not (list_all is_target_byte host)

-- how many digits the text ends in
abbrev pub last_digits : List ℕ → ℕ
last_digits text = suffix_len is_ascii_digit text

-- a colon stands before the digits at the end, of which there is one at least
abbrev pub has_port : List ℕ → Bool
has_port host =
    let digits = last_digits host in
    nat_lt 0 digits && nat_lt digits (length host) && slice_index host (length host - digits - 1) == 58

-- the port of a host text: those digits, else that of the scheme
abbrev pub port_of : List ℕ → List ℕ
port_of host = if has_port host then drop (length host - last_digits host) host else codes "80"

-- a colon stands before the digits at the end, of which there may be none
abbrev pub has_colon : List ℕ → Bool
has_colon host =
    let digits = last_digits host in
    nat_lt digits (length host) && slice_index host (length host - digits - 1) == 58

-- what stands before that colon and those digits
abbrev pub without_port : List ℕ → List ℕ
without_port host = if has_colon host then take (length host - last_digits host - 1) host else host

-- the host that rules see, of a host text
abbrev pub host_of_rules : List ℕ → List ℕ
host_of_rules host = without_dot (without_port host)
