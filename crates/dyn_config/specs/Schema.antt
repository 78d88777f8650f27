-- The schema: what is asked of each option of each table.
use Rattle.std.specs.Prelude.{ℕ, ℤ, pos, negsuc, Bool, true, false, nat_le, List, [], ◌∷◌, codes, None}
use Rattle.field_tree.specs.Values.{text_of, number_in, flag_in}
use Rattle.field_tree.specs.Times.{time_in}
use Rattle.dyn_config.specs.Values.{is_weight, is_percent, is_size, is_cookie_name, is_cookie_text, is_same_site, is_probe_path}
use Rattle.dyn_config.specs.Walk.{Check, Row, required, optional, fault_in, table, open_table, any_table, names, one_of, lines, list}

-- Kinds of values ------------------------------------------------------------------------------------

-- Not read: a value of any kind.
abbrev pub anything : Check
anything style tree = None

abbrev pub text_if : (List ℕ → Bool) → Check
text_if test style tree = fault_in test (text_of tree)

abbrev pub text : Check
text = text_if (λ _. true)

abbrev pub number_if : (ℤ → Bool) → Check
number_if test style tree = fault_in test (number_in style tree)

abbrev pub number : Check
number = number_if (λ _. true)

abbrev pub flag : Check
flag style tree = fault_in (λ _. true) (flag_in style tree)

abbrev pub time : Check
time style tree = fault_in (λ _. true) (time_in style tree)

abbrev pub if_natural : (ℕ → Bool) → ℤ → Bool
if_natural test (pos n) = test n
if_natural test (negsuc n) = false

abbrev pub weight : Check
weight = number_if (if_natural is_weight)

abbrev pub percent : Check
percent = number_if (if_natural is_percent)

-- A number of 16 bits.
abbrev pub short : Check
short = number_if (if_natural (λ n. nat_le n 65535))

-- A number of bytes, or -1.
abbrev pub size : Check
size = number_if is_size

-- Routers --------------------------------------------------------------------------------------------

abbrev pub router_rows : List Row
router_rows =
    optional (codes "entryPoints") (list text) ∷
    optional (codes "rule") text ∷
    optional (codes "service") text ∷
    optional (codes "middlewares") (list text) ∷
    optional (codes "priority") number ∷
    optional (codes "tls") any_table ∷
    optional (codes "ruleSyntax") text ∷
    optional (codes "observability") anything ∷ []

-- Services -------------------------------------------------------------------------------------------

abbrev pub cookie_rows : List Row
cookie_rows =
    optional (codes "name") (text_if is_cookie_name) ∷
    optional (codes "secure") flag ∷
    optional (codes "httpOnly") flag ∷
    optional (codes "sameSite") (text_if is_same_site) ∷
    optional (codes "maxAge") number ∷
    optional (codes "path") (text_if is_cookie_text) ∷
    optional (codes "domain") (text_if is_cookie_text) ∷ []

abbrev pub sticky_rows : List Row
sticky_rows = optional (codes "cookie") (table cookie_rows) ∷ []

abbrev pub health_rows : List Row
health_rows =
    required (codes "path") (text_if is_probe_path) ∷
    optional (codes "hostname") text ∷
    optional (codes "port") short ∷
    optional (codes "method") text ∷
    optional (codes "headers") lines ∷
    optional (codes "status") short ∷
    optional (codes "interval") time ∷
    optional (codes "timeout") time ∷
    optional (codes "scheme") text ∷
    optional (codes "mode") text ∷
    optional (codes "followRedirects") anything ∷
    optional (codes "unhealthyInterval") anything ∷ []

abbrev pub server_rows : List Row
server_rows =
    required (codes "url") text ∷
    optional (codes "weight") weight ∷
    optional (codes "preservePath") flag ∷ []

abbrev pub balancer_rows : List Row
balancer_rows =
    optional (codes "servers") (list (table server_rows)) ∷
    optional (codes "sticky") (table sticky_rows) ∷
    optional (codes "healthCheck") (table health_rows) ∷
    optional (codes "passHostHeader") flag ∷
    optional (codes "responseForwarding") anything ∷
    optional (codes "serversTransport") anything ∷
    optional (codes "strategy") text ∷ []

abbrev pub child_rows : List Row
child_rows =
    required (codes "name") text ∷
    optional (codes "weight") weight ∷ []

abbrev pub weighted_rows : List Row
weighted_rows =
    optional (codes "services") (list (table child_rows)) ∷
    optional (codes "sticky") (table sticky_rows) ∷
    optional (codes "healthCheck") anything ∷ []

abbrev pub mirror_rows : List Row
mirror_rows =
    required (codes "name") text ∷
    optional (codes "percent") percent ∷ []

abbrev pub mirroring_rows : List Row
mirroring_rows =
    required (codes "service") text ∷
    optional (codes "mirrors") (list (table mirror_rows)) ∷
    optional (codes "maxBodySize") size ∷
    optional (codes "mirrorBody") flag ∷
    optional (codes "healthCheck") anything ∷ []

abbrev pub failover_rows : List Row
failover_rows =
    required (codes "service") text ∷
    required (codes "fallback") text ∷
    optional (codes "healthCheck") anything ∷ []

-- The kinds of services.
abbrev pub service_rows : List Row
service_rows =
    optional (codes "loadBalancer") (table balancer_rows) ∷
    optional (codes "weighted") (table weighted_rows) ∷
    optional (codes "mirroring") (table mirroring_rows) ∷
    optional (codes "failover") (table failover_rows) ∷ []

-- Middlewares ----------------------------------------------------------------------------------------

abbrev pub add_prefix_rows : List Row
add_prefix_rows = optional (codes "prefix") text ∷ []

abbrev pub strip_prefix_rows : List Row
strip_prefix_rows =
    optional (codes "prefixes") (list text) ∷
    optional (codes "forceSlash") anything ∷ []

abbrev pub replace_path_rows : List Row
replace_path_rows = optional (codes "path") text ∷ []

abbrev pub replace_path_regex_rows : List Row
replace_path_regex_rows =
    optional (codes "regex") text ∷
    optional (codes "replacement") text ∷ []

-- It takes other options too, and so do the next two.
abbrev pub headers_rows : List Row
headers_rows =
    optional (codes "customRequestHeaders") lines ∷
    optional (codes "customResponseHeaders") lines ∷ []

abbrev pub ip_allow_list_rows : List Row
ip_allow_list_rows = optional (codes "sourceRange") (list text) ∷ []

abbrev pub buffering_rows : List Row
buffering_rows =
    optional (codes "maxRequestBodyBytes") number ∷
    optional (codes "memRequestBodyBytes") anything ∷
    optional (codes "memResponseBodyBytes") anything ∷ []

abbrev pub chain_rows : List Row
chain_rows = optional (codes "middlewares") (list text) ∷ []

abbrev pub redirect_scheme_rows : List Row
redirect_scheme_rows =
    optional (codes "scheme") text ∷
    optional (codes "port") text ∷
    optional (codes "permanent") flag ∷ []

abbrev pub redirect_regex_rows : List Row
redirect_regex_rows =
    optional (codes "regex") text ∷
    optional (codes "replacement") text ∷
    optional (codes "permanent") flag ∷ []

-- The kinds of middlewares.
abbrev pub middleware_rows : List Row
middleware_rows =
    optional (codes "addPrefix") (table add_prefix_rows) ∷
    optional (codes "stripPrefix") (table strip_prefix_rows) ∷
    optional (codes "replacePath") (table replace_path_rows) ∷
    optional (codes "replacePathRegex") (table replace_path_regex_rows) ∷
    optional (codes "headers") (open_table headers_rows) ∷
    optional (codes "ipAllowList") (open_table ip_allow_list_rows) ∷
    optional (codes "chain") (table chain_rows) ∷
    optional (codes "buffering") (open_table buffering_rows) ∷
    optional (codes "redirectScheme") (table redirect_scheme_rows) ∷
    optional (codes "redirectRegex") (table redirect_regex_rows) ∷ []

-- The whole ------------------------------------------------------------------------------------------

abbrev pub http_rows : List Row
http_rows =
    optional (codes "routers") (names 2000 (table router_rows)) ∷
    optional (codes "services") (names 500 (one_of service_rows)) ∷
    optional (codes "middlewares") (names 500 (one_of middleware_rows)) ∷
    optional (codes "serversTransports") anything ∷ []

abbrev pub top_rows : List Row
top_rows =
    optional (codes "http") (table http_rows) ∷
    optional (codes "tcp") anything ∷
    optional (codes "udp") anything ∷
    optional (codes "tls") anything ∷ []

-- What is asked of a configuration.
abbrev pub configuration : Check
configuration = table top_rows
