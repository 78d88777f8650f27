-- Definitions field by field.
use Rattle.std.proofs.Common.{◌≡◌, ℕ, ℤ, pos, negsuc, Bool, true, false, not, ◌||◌, ◌<◌, List, [], map, length, drop, get_or, Option, nat_le, sym, ap, ◌∙◌, ◌+◌}
use Rattle.std.specs.List.{list_any}
use Rattle.std.specs.Prelude.{codes}
use Rattle.field_tree.specs.declared.tree.Tree.{Tree}
use Rattle.field_tree.specs.declared.values.Style.{Style}
use Rattle.dyn_config.specs.declared.service.Cookie.{Cookie}
use Rattle.dyn_config.specs.declared.service.Health.{Health}
use Rattle.dyn_config.specs.declared.service.ServerDef.{ServerDef}
use Rattle.dyn_config.specs.Values.{is_cookie_name, is_same_site, is_cookie_text, is_probe_path, is_size}
use Rattle.dyn_config.specs.Readings.{value_under, has_option, text_in_or, text_or, number_or, natural_or, flag_or, time_or, is_other, texts_under, lines_under, elements, router_of, cookie_of, sticky_under, health_of, health_under, server_of, preserves_path, balancer_of, name_of, percent_of, mirroring_of}
use Rattle.dyn_config.specs.declared.middleware.MiddlewareDef.TheVariants as middleware
use Rattle.dyn_config.specs.Schema.{headers_rows, buffering_rows}
use Rattle.dyn_config.specs.Readings.{has_others, headers_of, buffering_of, redirect_regex_of}
use Rattle.dyn_config.proofs.Loops.{drop_at}

pub router_made : (style : Style) (t : Tree) (entry_points middlewares : List (List ℕ)) (rule service : List ℕ) (priority : ℤ) (tls unsupported : Bool)
    → entry_points ≡ texts_under style (codes "entryPoints") t → rule ≡ text_or [] (value_under (codes "rule") t) → service ≡ text_or [] (value_under (codes "service") t)
    → middlewares ≡ texts_under style (codes "middlewares") t → priority ≡ number_or (λ _. true) (pos 0) style (value_under (codes "priority") t)
    → tls ≡ has_option (codes "tls") t → unsupported ≡ is_other (codes "v3") (value_under (codes "ruleSyntax") t)
    → record { entry_points = entry_points; rule = rule; service = service; middlewares = middlewares; priority = priority; tls = tls; unsupported = unsupported } ≡ router_of style t
router_made style t entry_points middlewares rule service priority tls unsupported a b c d e f g =
    λ i. record { entry_points = a i; rule = b i; service = c i; middlewares = d i; priority = e i; tls = f i; unsupported = g i }

pub cookie_made : (style : Style) (t : Tree) (name same_site path domain : List ℕ) (secure http_only : Bool) (max_age : ℤ)
    → name ≡ text_in_or is_cookie_name [] (value_under (codes "name") t) → secure ≡ flag_or false style (value_under (codes "secure") t)
    → http_only ≡ flag_or false style (value_under (codes "httpOnly") t) → same_site ≡ text_in_or is_same_site [] (value_under (codes "sameSite") t)
    → max_age ≡ number_or (λ _. true) (pos 0) style (value_under (codes "maxAge") t) → path ≡ text_in_or is_cookie_text (codes "/") (value_under (codes "path") t)
    → domain ≡ text_in_or is_cookie_text [] (value_under (codes "domain") t)
    → record { name = name; secure = secure; http_only = http_only; same_site = same_site; max_age = max_age; path = path; domain = domain } ≡ cookie_of style t
cookie_made style t name same_site path domain secure http_only max_age a b c d e f g =
    λ i. record { name = a i; secure = b i; http_only = c i; same_site = d i; max_age = e i; path = f i; domain = g i }

pub health_made : (style : Style) (t : Tree) (path host method : List ℕ) (headers : List (List ℕ × List ℕ)) (port status interval timeout : ℕ) (unsupported : Bool)
    → path ≡ text_in_or is_probe_path (codes "/") (value_under (codes "path") t) → host ≡ text_or [] (value_under (codes "hostname") t)
    → port ≡ natural_or (λ n. nat_le n 65535) 0 style (value_under (codes "port") t) → method ≡ text_or (codes "GET") (value_under (codes "method") t)
    → headers ≡ lines_under (codes "headers") t → status ≡ natural_or (λ n. nat_le n 65535) 0 style (value_under (codes "status") t)
    → interval ≡ time_or 30000 style (value_under (codes "interval") t) → timeout ≡ time_or 5000 style (value_under (codes "timeout") t)
    → unsupported ≡ (is_other (codes "http") (value_under (codes "scheme") t) || is_other (codes "http") (value_under (codes "mode") t))
    → record { path = path; host = host; port = port; method = method; headers = headers; status = status; interval = interval; timeout = timeout; unsupported = unsupported } ≡ health_of style t
health_made style t path host method headers port status interval timeout unsupported a b c d e f g h k =
    λ i. record { path = a i; host = b i; port = c i; method = d i; headers = e i; status = f i; interval = g i; timeout = h i; unsupported = k i }

pub balancer_made : (style : Style) (t : Tree) (found : List Tree) (servers : List ServerDef) (sticky : Option Cookie) (health : Option Health) (pass_host unsupported : Bool)
    → found ≡ elements style (value_under (codes "servers") t) → servers ≡ map (server_of style) found → sticky ≡ sticky_under style t → health ≡ health_under style t
    → pass_host ≡ flag_or true style (value_under (codes "passHostHeader") t)
    → unsupported ≡ (has_option (codes "serversTransport") t || is_other (codes "wrr") (value_under (codes "strategy") t) || list_any (preserves_path style) found)
    → record { servers = servers; sticky = sticky; health = health; pass_host = pass_host; unsupported = unsupported } ≡ balancer_of style t
balancer_made style t found servers sticky health pass_host unsupported z a b c d e =
    λ i. record {
      servers = (a ∙ ap (map (server_of style)) z) i;
      sticky = b i;
      health = c i;
      pass_host = d i;
      unsupported = (e ∙ ap (λ es. has_option (codes "serversTransport") t || is_other (codes "wrr") (value_under (codes "strategy") t) || list_any (preserves_path style) es) z) i;
    }

pub mirroring_made : (style : Style) (t : Tree) (found : List Tree) (service : List ℕ) (mirrors : List (List ℕ)) (percents : List ℕ) (max_body : ℤ) (unsupported : Bool)
    → found ≡ elements style (value_under (codes "mirrors") t) → service ≡ text_or [] (value_under (codes "service") t) → mirrors ≡ map name_of found → percents ≡ map (percent_of style) found
    → max_body ≡ number_or is_size (negsuc 0) style (value_under (codes "maxBodySize") t) → unsupported ≡ not (flag_or true style (value_under (codes "mirrorBody") t))
    → record { service = service; mirrors = mirrors; percents = percents; max_body = max_body; unsupported = unsupported } ≡ mirroring_of style t
mirroring_made style t found service mirrors percents max_body unsupported z a b c d e =
    λ i. record { service = a i; mirrors = (b ∙ ap (map name_of) z) i; percents = (c ∙ ap (map (percent_of style)) z) i; max_body = d i; unsupported = e i }

-- A test of some element behind a view.
pub any_at : {X Y : Type 0} (test : Y → Bool) (view : X → Y) (xs : List X) (i : ℕ) (x : X) (all : Bool) → i < length xs → x ≡ get_or xs i x → all ≡ list_any test (map view (drop i xs)) → test (view x) ≡ true → true ≡ all
any_at test view xs i x all h e a t =
    sym (a ∙ ap (λ l. list_any test (map view l)) (drop_at xs i x h e) ∙ ap (λ b. b || list_any test (map view (drop (i + 1) xs))) t)

pub any_past : {X Y : Type 0} (test : Y → Bool) (view : X → Y) (xs : List X) (i : ℕ) (x : X) (all : Bool) → i < length xs → x ≡ get_or xs i x → all ≡ list_any test (map view (drop i xs)) → test (view x) ≡ false → all ≡ list_any test (map view (drop (i + 1) xs))
any_past test view xs i x all h e a t =
    a ∙ ap (λ l. list_any test (map view l)) (drop_at xs i x h e) ∙ ap (λ b. b || list_any test (map view (drop (i + 1) xs))) t

-- Middlewares field by field.
pub headers_made : (t : Tree) (request response : List (List ℕ × List ℕ)) (unsupported : Bool) → request ≡ lines_under (codes "customRequestHeaders") t → response ≡ lines_under (codes "customResponseHeaders") t → unsupported ≡ has_others headers_rows t → middleware.Headers request response unsupported ≡ headers_of t
headers_made t request response unsupported a b c = λ i. middleware.Headers (a i) (b i) (c i)

pub buffering_made : (style : Style) (t : Tree) (max_body : ℤ) (unsupported : Bool) → max_body ≡ number_or (λ _. true) (pos 0) style (value_under (codes "maxRequestBodyBytes") t) → unsupported ≡ has_others buffering_rows t → middleware.Buffering max_body unsupported ≡ buffering_of style t
buffering_made style t max_body unsupported a b = λ i. middleware.Buffering (a i) (b i)

pub redirect_regex_made : (style : Style) (t : Tree) (regex replacement : List ℕ) (permanent : Bool) → regex ≡ text_or [] (value_under (codes "regex") t) → replacement ≡ text_or [] (value_under (codes "replacement") t) → permanent ≡ flag_or false style (value_under (codes "permanent") t) → middleware.RedirectRegex regex replacement permanent ≡ redirect_regex_of style t
redirect_regex_made style t regex replacement permanent a b c = λ i. middleware.RedirectRegex (a i) (b i) (c i)
