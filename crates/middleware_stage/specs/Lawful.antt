-- Which lines a middleware may set or remove.
use Rattle.std.specs.Prelude.{◌==◌, Bool, true, not, ◌&&◌, ◌||◌, length, codes}
use Rattle.std.specs.List.{list_all}
use Rattle.dyn_config.specs.Values.{is_field_name, is_field_value}
use Rattle.dyn_config.specs.declared.middleware.MiddlewareDef.{MiddlewareDef}
use Rattle.dyn_config.specs.declared.middleware.MiddlewareDef.TheVariants.{AddPrefix, StripPrefix, ReplacePath, ReplacePathRegex, Headers, IpAllowList, Chain, Buffering, RedirectScheme, RedirectRegex, Unsupported}
use Rattle.head_view.specs.Lines.{Line as Field, has_name}
use Rattle.http_wire.specs.Fields.{is_hop_by_hop}

-- the fields that say how long a message is and whether its connection goes on: the proxy's own
abbrev pub is_framing_name : Field → Bool
is_framing_name line = has_name (codes "Content-Length") line || has_name (codes "Connection") line || has_name (codes "Transfer-Encoding") line

-- a line that may be set, or removed where its value is empty: a field name, but none of framing, with a field value; one of one
-- connection alone is only removed
abbrev pub is_settable : Field → Bool
is_settable line =
    is_field_name line.0 && is_field_value line.1 && not (is_framing_name line) && (length line.1 == 0 || not (is_hop_by_hop line))

-- each line that the middleware sets or removes may be
abbrev pub has_lawful_lines : MiddlewareDef → Bool
has_lawful_lines (Headers request response _) = list_all is_settable request && list_all is_settable response
has_lawful_lines (AddPrefix _) = true
has_lawful_lines (StripPrefix _ _) = true
has_lawful_lines (ReplacePath _) = true
has_lawful_lines (ReplacePathRegex _ _) = true
has_lawful_lines (IpAllowList _ _) = true
has_lawful_lines (Chain _) = true
has_lawful_lines (Buffering _ _) = true
has_lawful_lines (RedirectScheme _ _ _) = true
has_lawful_lines (RedirectRegex _ _ _) = true
has_lawful_lines Unsupported = true
