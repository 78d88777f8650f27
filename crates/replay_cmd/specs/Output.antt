-- What a system has to show: what was published, what its links took, and its notes.
use Rattle.std.specs.Prelude.{ℕ, ◌+◌, ◌-◌, List, [], ◌∷◌, ◌++◌, length, codes, Option, Some, None}
use Rattle.std.specs.List.{flat_map}
use Rattle.std.specs.Fmt.{decimal}
use Rattle.link_world.specs.NoteText.{note_line}
use Rattle.replay_script.specs.Escapes.{escaped}
use Rattle.system_core.specs.Views.{plans_of}
use Rattle.system_core.specs.declared.links.Link.{Link}
use Rattle.system_core.specs.declared.links.Authority.{Authority}
use Rattle.system_core.specs.declared.system.System.{System}

-- the server that a link was dialled to
abbrev pub server_text : Authority → List ℕ
server_text to = codes " to " ++ to.host ++ codes ":" ++ decimal to.port

abbrev pub to_text : Option Authority → List ℕ
to_text None = []
to_text (Some to) = server_text to

abbrev pub link_text : ℕ → Link → List ℕ
link_text number k = codes "link " ++ decimal number ++ to_text k.to ++ codes " sent " ++ escaped k.sent.items ++ codes "\n"

-- the links, from this number up
abbrev pub links_text : ℕ → List Link → List ℕ
links_text number [] = []
links_text number (k ∷ ks) = link_text number k ++ links_text (number + 1) ks

abbrev pub output_text : System → List ℕ
output_text s =
    codes "published " ++ decimal (length (plans_of s.clients.timeline) - 1) ++ codes "\n"
    ++ links_text 0 s.links.items ++ flat_map note_line s.notes.items
