-- What the options of a table say, and what they say where they are absent.
use Rattle.std.specs.Prelude.{ℕ, ℤ, pos, negsuc, Bool, true, false, not, ◌&&◌, ◌||◌, if◌then◌else◌, nat_le, List, [], ◌∷◌, map, filter, fold, Option, Some, None, Result, Ok, Err, is_some, unwrap_or, option_map, option_and_then, codes, bytes_eq}
use Rattle.std.specs.List.{list_any}
use Rattle.std.specs.Map.{values_of}
use Rattle.field_tree.specs.declared.fault.ValueFault.{ValueFault}
use Rattle.field_tree.specs.declared.tree.Tree.{Tree}
use Rattle.field_tree.specs.declared.values.Style.{Style}
use Rattle.field_tree.specs.declared.values.Style.TheVariants.{Typed, Texts}
use Rattle.field_tree.specs.Trees.{list_of, entries_of}
use Rattle.field_tree.specs.Values.{text_of, number_in, flag_in}
use Rattle.field_tree.specs.Times.{time_in}
use Rattle.dyn_config.specs.Values.{is_field_name, is_field_value, is_percent, is_weight, is_time, is_size, is_cookie_name, is_cookie_text, is_same_site, is_probe_path}
use Rattle.dyn_config.specs.Walk.{Entry, Row, under_key, same_key, is_known, is_less, number_cmp}
use Rattle.dyn_config.specs.Schema.{headers_rows, ip_allow_list_rows, buffering_rows}
use Rattle.dyn_config.specs.declared.router.RouterDef.{RouterDef}
use Rattle.dyn_config.specs.declared.service.Cookie.{Cookie}
use Rattle.dyn_config.specs.declared.service.Health.{Health}
use Rattle.dyn_config.specs.declared.service.ServerDef.{ServerDef}
use Rattle.dyn_config.specs.declared.service.BalancerDef.{BalancerDef}
use Rattle.dyn_config.specs.declared.service.WeightedDef.{WeightedDef}
use Rattle.dyn_config.specs.declared.service.MirroringDef.{MirroringDef}
use Rattle.dyn_config.specs.declared.service.FailoverDef.{FailoverDef}
use Rattle.dyn_config.specs.declared.service.ServiceDef.{ServiceDef}
use Rattle.dyn_config.specs.declared.service.ServiceDef.TheVariants as service
use Rattle.dyn_config.specs.declared.middleware.MiddlewareDef.{MiddlewareDef}
use Rattle.dyn_config.specs.declared.middleware.MiddlewareDef.TheVariants as middleware

-- Values of options ----------------------------------------------------------------------------------

abbrev pub value_first : List Entry → Option Tree
value_first [] = None
value_first (entry ∷ entries) = Some entry.1

-- What the first entry says.
abbrev pub first_or : {D : Type 0} → D → (List ℕ → Tree → D) → List Entry → D
first_or none read [] = none
first_or none read (entry ∷ entries) = read entry.0 entry.1

-- The value of an option of a table, its key compared without case.
abbrev pub value_under : List ℕ → Tree → Option Tree
value_under key tree = value_first (under_key key (entries_of tree))

abbrev pub has_option : List ℕ → Tree → Bool
has_option key tree = is_some (value_under key tree)

-- The value where it is there, was read and is in the range, else the default.
abbrev pub read_or : {A : Type 0} → (A → Bool) → A → Result A ValueFault → A
read_or test default (Ok value) = if test value then value else default
read_or test default (Err fault) = default

abbrev pub text_in_or : (List ℕ → Bool) → List ℕ → Option Tree → List ℕ
text_in_or test default None = default
text_in_or test default (Some tree) = read_or test default (text_of tree)

abbrev pub text_or : List ℕ → Option Tree → List ℕ
text_or default value = text_in_or (λ _. true) default value

abbrev pub number_or : (ℤ → Bool) → ℤ → Style → Option Tree → ℤ
number_or test default style None = default
number_or test default style (Some tree) = read_or test default (number_in style tree)

abbrev pub natural : (ℕ → Bool) → ℕ → ℤ → ℕ
natural test default (pos n) = if test n then n else default
natural test default (negsuc n) = default

abbrev pub natural_of : (ℕ → Bool) → ℕ → Result ℤ ValueFault → ℕ
natural_of test default (Ok number) = natural test default number
natural_of test default (Err fault) = default

abbrev pub natural_or : (ℕ → Bool) → ℕ → Style → Option Tree → ℕ
natural_or test default style None = default
natural_or test default style (Some tree) = natural_of test default (number_in style tree)

abbrev pub flag_or : Bool → Style → Option Tree → Bool
flag_or default style None = default
flag_or default style (Some tree) = read_or (λ _. true) default (flag_in style tree)

abbrev pub time_or : ℕ → Style → Option Tree → ℕ
time_or default style None = default
time_or default style (Some tree) = read_or is_time default (time_in style tree)

-- Whether a text is there that is another than this.
abbrev pub is_other : List ℕ → Option Tree → Bool
is_other text value = not (bytes_eq (text_or text value) text)

-- Lists ----------------------------------------------------------------------------------------------

abbrev pub with_number : List Entry → Entry → List Entry
with_number [] new = new ∷ []
with_number (entry ∷ entries) new =
    if is_less (number_cmp new.0 entry.0) then new ∷ entry ∷ entries else entry ∷ with_number entries new

-- The entries in the order of their numbers.
abbrev pub by_number : List Entry → List Entry
by_number entries = fold with_number [] entries

abbrev pub elements_of : Style → Tree → List Tree
elements_of Typed tree = unwrap_or (list_of tree) []
elements_of Texts tree = values_of (by_number (entries_of tree))

abbrev pub elements : Style → Option Tree → List Tree
elements style None = []
elements style (Some tree) = elements_of style tree

abbrev pub texts_under : Style → List ℕ → Tree → List (List ℕ)
texts_under style key tree = map (λ element. text_or [] (Some element)) (elements style (value_under key tree))

-- Names and values of field lines, by the bytes of their names.
abbrev pub line_of : Entry → List ℕ × List ℕ
line_of entry = (entry.0, text_or [] (Some entry.1))

abbrev pub is_line : List ℕ × List ℕ → Bool
is_line line = is_field_name line.0 && is_field_value line.1

abbrev pub entries_under : List ℕ → Tree → List Entry
entries_under key tree = unwrap_or (option_map entries_of (value_under key tree)) []

abbrev pub lines_under : List ℕ → Tree → List (List ℕ × List ℕ)
lines_under key tree = filter is_line (map line_of (entries_under key tree))

-- Routers and services -------------------------------------------------------------------------------

abbrev pub router_of : Style → Tree → RouterDef
router_of style t = record {
  entry_points = texts_under style (codes "entryPoints") t;
  rule = text_or [] (value_under (codes "rule") t);
  service = text_or [] (value_under (codes "service") t);
  middlewares = texts_under style (codes "middlewares") t;
  priority = number_or (λ _. true) (pos 0) style (value_under (codes "priority") t);
  tls = has_option (codes "tls") t;
  unsupported = is_other (codes "v3") (value_under (codes "ruleSyntax") t);
}

abbrev pub cookie_of : Style → Tree → Cookie
cookie_of style t = record {
  name = text_in_or is_cookie_name [] (value_under (codes "name") t);
  secure = flag_or false style (value_under (codes "secure") t);
  http_only = flag_or false style (value_under (codes "httpOnly") t);
  same_site = text_in_or is_same_site [] (value_under (codes "sameSite") t);
  max_age = number_or (λ _. true) (pos 0) style (value_under (codes "maxAge") t);
  path = text_in_or is_cookie_text (codes "/") (value_under (codes "path") t);
  domain = text_in_or is_cookie_text [] (value_under (codes "domain") t);
}

abbrev pub sticky_under : Style → Tree → Option Cookie
sticky_under style t = option_map (cookie_of style) (option_and_then (value_under (codes "cookie")) (value_under (codes "sticky") t))

abbrev pub health_of : Style → Tree → Health
health_of style t = record {
  path = text_in_or is_probe_path (codes "/") (value_under (codes "path") t);
  host = text_or [] (value_under (codes "hostname") t);
  port = natural_or (λ n. nat_le n 65535) 0 style (value_under (codes "port") t);
  method = text_or (codes "GET") (value_under (codes "method") t);
  headers = lines_under (codes "headers") t;
  status = natural_or (λ n. nat_le n 65535) 0 style (value_under (codes "status") t);
  interval = time_or 30000 style (value_under (codes "interval") t);
  timeout = time_or 5000 style (value_under (codes "timeout") t);
  unsupported = is_other (codes "http") (value_under (codes "scheme") t) || is_other (codes "http") (value_under (codes "mode") t);
}

abbrev pub health_under : Style → Tree → Option Health
health_under style t = option_map (health_of style) (value_under (codes "healthCheck") t)

abbrev pub weight_of : Style → Tree → ℕ
weight_of style t = natural_or is_weight 1 style (value_under (codes "weight") t)

abbrev pub server_of : Style → Tree → ServerDef
server_of style t = record { url = text_or [] (value_under (codes "url") t); weight = weight_of style t }

abbrev pub preserves_path : Style → Tree → Bool
preserves_path style t = flag_or false style (value_under (codes "preservePath") t)

abbrev pub balancer_of : Style → Tree → BalancerDef
balancer_of style t = record {
  servers = map (server_of style) (elements style (value_under (codes "servers") t));
  sticky = sticky_under style t;
  health = health_under style t;
  pass_host = flag_or true style (value_under (codes "passHostHeader") t);
  unsupported = has_option (codes "serversTransport") t || is_other (codes "wrr") (value_under (codes "strategy") t) ||
      list_any (preserves_path style) (elements style (value_under (codes "servers") t));
}

abbrev pub name_of : Tree → List ℕ
name_of t = text_or [] (value_under (codes "name") t)

abbrev pub weighted_of : Style → Tree → WeightedDef
weighted_of style t = record {
  names = map name_of (elements style (value_under (codes "services") t));
  weights = map (weight_of style) (elements style (value_under (codes "services") t));
  sticky = sticky_under style t;
}

abbrev pub percent_of : Style → Tree → ℕ
percent_of style t = natural_or is_percent 0 style (value_under (codes "percent") t)

abbrev pub mirroring_of : Style → Tree → MirroringDef
mirroring_of style t = record {
  service = text_or [] (value_under (codes "service") t);
  mirrors = map name_of (elements style (value_under (codes "mirrors") t));
  percents = map (percent_of style) (elements style (value_under (codes "mirrors") t));
  max_body = number_or is_size (negsuc 0) style (value_under (codes "maxBodySize") t);
  unsupported = not (flag_or true style (value_under (codes "mirrorBody") t));
}

abbrev pub failover_of : Tree → FailoverDef
failover_of t = record {
  service = text_or [] (value_under (codes "service") t);
  fallback = text_or [] (value_under (codes "fallback") t);
}

-- A service by the key of its one entry.
abbrev pub service_by : Style → List ℕ → Tree → ServiceDef
service_by style kind t =
    if same_key (codes "loadBalancer") kind then service.Balancer (balancer_of style t)
    else (if same_key (codes "weighted") kind then service.Weighted (weighted_of style t)
    else (if same_key (codes "mirroring") kind then service.Mirroring (mirroring_of style t)
    else (if same_key (codes "failover") kind then service.Failover (failover_of t)
    else service.Unsupported)))

abbrev pub service_in : Style → List Entry → ServiceDef
service_in style entries = first_or service.Unsupported (service_by style) entries

abbrev pub service_of : Style → Tree → ServiceDef
service_of style t = service_in style (entries_of t)

-- Middlewares ----------------------------------------------------------------------------------------

abbrev pub has_others : List Row → Tree → Bool
has_others rows t = list_any (λ entry. not (is_known rows entry.0)) (entries_of t)

abbrev pub replace_path_regex_of : Tree → MiddlewareDef
replace_path_regex_of t = middleware.ReplacePathRegex (text_or [] (value_under (codes "regex") t)) (text_or [] (value_under (codes "replacement") t))

abbrev pub headers_of : Tree → MiddlewareDef
headers_of t = middleware.Headers (lines_under (codes "customRequestHeaders") t) (lines_under (codes "customResponseHeaders") t) (has_others headers_rows t)

abbrev pub ip_allow_list_of : Style → Tree → MiddlewareDef
ip_allow_list_of style t = middleware.IpAllowList (texts_under style (codes "sourceRange") t) (has_others ip_allow_list_rows t)

abbrev pub buffering_of : Style → Tree → MiddlewareDef
buffering_of style t = middleware.Buffering (number_or (λ _. true) (pos 0) style (value_under (codes "maxRequestBodyBytes") t)) (has_others buffering_rows t)

abbrev pub redirect_scheme_of : Style → Tree → MiddlewareDef
redirect_scheme_of style t = middleware.RedirectScheme (text_or [] (value_under (codes "scheme") t)) (text_or [] (value_under (codes "port") t)) (flag_or false style (value_under (codes "permanent") t))

abbrev pub redirect_regex_of : Style → Tree → MiddlewareDef
redirect_regex_of style t = middleware.RedirectRegex (text_or [] (value_under (codes "regex") t)) (text_or [] (value_under (codes "replacement") t)) (flag_or false style (value_under (codes "permanent") t))

-- A middleware by the key of its one entry, two kinds at a time.
abbrev pub redirect_by : Style → List ℕ → Tree → MiddlewareDef
redirect_by style kind t =
    if same_key (codes "redirectScheme") kind then redirect_scheme_of style t
    else (if same_key (codes "redirectRegex") kind then redirect_regex_of style t else middleware.Unsupported)

abbrev pub other_by : Style → List ℕ → Tree → MiddlewareDef
other_by style kind t =
    if same_key (codes "chain") kind then middleware.Chain (texts_under style (codes "middlewares") t)
    else (if same_key (codes "buffering") kind then buffering_of style t else redirect_by style kind t)

abbrev pub lines_by : Style → List ℕ → Tree → MiddlewareDef
lines_by style kind t =
    if same_key (codes "headers") kind then headers_of t
    else (if same_key (codes "ipAllowList") kind then ip_allow_list_of style t else other_by style kind t)

abbrev pub rewrite_by : Style → List ℕ → Tree → MiddlewareDef
rewrite_by style kind t =
    if same_key (codes "replacePath") kind then middleware.ReplacePath (text_or [] (value_under (codes "path") t))
    else (if same_key (codes "replacePathRegex") kind then replace_path_regex_of t else lines_by style kind t)

abbrev pub middleware_by : Style → List ℕ → Tree → MiddlewareDef
middleware_by style kind t =
    if same_key (codes "addPrefix") kind then middleware.AddPrefix (text_or [] (value_under (codes "prefix") t))
    else (if same_key (codes "stripPrefix") kind then middleware.StripPrefix (texts_under style (codes "prefixes") t) (has_option (codes "forceSlash") t)
    else rewrite_by style kind t)

abbrev pub middleware_in : Style → List Entry → MiddlewareDef
middleware_in style entries = first_or middleware.Unsupported (middleware_by style) entries

abbrev pub middleware_of : Style → Tree → MiddlewareDef
middleware_of style t = middleware_in style (entries_of t)

-- The whole ------------------------------------------------------------------------------------------

-- What is declared under a key of `http`.
abbrev pub declared_under : List ℕ → Tree → List Entry
declared_under key t = unwrap_or (option_map (entries_under key) (value_under (codes "http") t)) []

abbrev pub routers_of : Style → Tree → List (List ℕ × RouterDef)
routers_of style t = map (λ entry. (entry.0, router_of style entry.1)) (declared_under (codes "routers") t)

abbrev pub services_of : Style → Tree → List (List ℕ × ServiceDef)
services_of style t = map (λ entry. (entry.0, service_of style entry.1)) (declared_under (codes "services") t)

abbrev pub middlewares_of : Style → Tree → List (List ℕ × MiddlewareDef)
middlewares_of style t = map (λ entry. (entry.0, middleware_of style entry.1)) (declared_under (codes "middlewares") t)
