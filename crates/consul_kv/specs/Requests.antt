-- The request for the keys below a root.
use Rattle.std.specs.Prelude.{ℕ, ◌==◌, ◌&&◌, ◌||◌, Bool, not, nat_le, List, ◌++◌, ◌-◌, length, codes, slice_index}
use Rattle.std.specs.List.{list_all}
use Rattle.std.specs.Char.{is_ascii_alphanumeric}

abbrev pub kv_request_text : (root authority : List ℕ) → List ℕ
kv_request_text root authority =
    codes "GET /v1/kv/" ++ root ++ codes "?recurse=true HTTP/1.1\r\nHost: " ++ authority ++ codes "\r\nConnection: close\r\n\r\n"

abbrev pub is_root_byte : ℕ → Bool
is_root_byte b = is_ascii_alphanumeric b || (b == 45) || (b == 95) || (b == 46) || (b == 47)

abbrev pub is_root_text : List ℕ → Bool
is_root_text root = nat_le 1 (length root) && nat_le (length root) 255 && list_all is_root_byte root

abbrev pub has_plain_ends : List ℕ → Bool
has_plain_ends root = not (slice_index root 0 == 47) && not (slice_index root (length root - 1) == 47)

-- 1 to 255 letters, digits, `-`, `_`, `.` and slashes, with a slash neither first nor last
abbrev pub is_root : List ℕ → Bool
is_root root = is_root_text root && has_plain_ends root
