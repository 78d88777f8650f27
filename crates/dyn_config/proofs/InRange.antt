-- What is read is in its range, whatever the tree.
use Rattle.std.proofs.Common.{◌≡◌, ℕ, ◌==◌, ◌&&◌, Bool, true, false, cond, if◌then◌else◌, List, [], ◌∷◌, map, length, Option, Some, None, Result, Ok, Err, ℤ, pos, negsuc, refl, sym, ap, ◌∙◌, arith}
use Rattle.std.specs.List.{list_all, filter}
use Rattle.std.specs.Option.{option_map, option_and_then}
use Rattle.std.specs.Prelude.{codes}
use Rattle.std.proofs.lemmas.List.{length-map}
use Rattle.std.proofs.lemmas.Bool.Decides.{nat_tests}
use Rattle.field_tree.specs.declared.fault.ValueFault.{ValueFault}
use Rattle.field_tree.specs.declared.tree.Tree.{Tree}
use Rattle.field_tree.specs.declared.values.Style.{Style}
use Rattle.field_tree.specs.Trees.{entries_of}
use Rattle.field_tree.specs.Values.{text_of, number_in}
use Rattle.field_tree.specs.Times.{time_in}
use Rattle.dyn_config.specs.Values.{is_weight, is_percent, is_time, is_size, is_cookie_name, is_cookie_text, is_same_site, is_probe_path, are_field_lines}
use Rattle.dyn_config.specs.Walk.{Entry, same_key}
use Rattle.dyn_config.specs.Kept.{if_some, is_cookie, is_health, is_server, is_balancer, is_weighted, is_mirroring, is_service, is_middleware}
use Rattle.dyn_config.specs.declared.service.ServiceDef.{ServiceDef}
use Rattle.dyn_config.specs.declared.middleware.MiddlewareDef.{MiddlewareDef}
use Rattle.dyn_config.specs.declared.service.ServiceDef.TheVariants as service
use Rattle.dyn_config.specs.declared.middleware.MiddlewareDef.TheVariants as middleware
use Rattle.dyn_config.specs.Readings.{failover_of, value_under, read_or, text_in_or, number_or, natural_of, natural_or, time_or, elements, line_of, is_line, entries_under, lines_under, cookie_of, sticky_under, health_of, weight_of, server_of, balancer_of, name_of, weighted_of, percent_of, mirroring_of, service_by, service_in, service_of, middleware_by, middleware_in, middleware_of}

both : (a b : Bool) → a ≡ true → b ≡ true → (a && b) ≡ true
both a b x y = ap (λ t. t && b) x ∙ y

three : (a b c : Bool) → a ≡ true → b ≡ true → c ≡ true → (a && b && c) ≡ true
three a b c x y z = both (a && b) c (both a b x y) z

four : (a b c d : Bool) → a ≡ true → b ≡ true → c ≡ true → d ≡ true → (a && b && c && d) ≡ true
four a b c d x y z w = both (a && b && c) d (three a b c x y z) w

read_passes : {A : Type 0} (test : A → Bool) (default : A) (r : Result A ValueFault) → test default ≡ true → test (read_or test default r) ≡ true
read_passes test default (Err fault) d = d
read_passes test default (Ok value) d = by_test (test value) refl
  where
    by_test : (b : Bool) → test value ≡ b → test (if b then value else default) ≡ true
    by_test true t = t
    by_test false t = d

text_passes : (test : List ℕ → Bool) (default : List ℕ) (o : Option Tree) → test default ≡ true → test (text_in_or test default o) ≡ true
text_passes test default None d = d
text_passes test default (Some tree) d = read_passes test default (text_of tree) d

number_passes : (test : ℤ → Bool) (default : ℤ) (style : Style) (o : Option Tree) → test default ≡ true → test (number_or test default style o) ≡ true
number_passes test default style None d = d
number_passes test default style (Some tree) d = read_passes test default (number_in style tree) d

time_passes : (default : ℕ) (style : Style) (o : Option Tree) → is_time default ≡ true → is_time (time_or default style o) ≡ true
time_passes default style None d = d
time_passes default style (Some tree) d = read_passes is_time default (time_in style tree) d

natural_passes : (test : ℕ → Bool) (default : ℕ) (style : Style) (o : Option Tree) → test default ≡ true → test (natural_or test default style o) ≡ true
natural_passes test default style None d = d
natural_passes test default style (Some tree) d = by_number (number_in style tree)
  where
    by_test : (n : ℕ) (b : Bool) → test n ≡ b → test (if b then n else default) ≡ true
    by_test n true t = t
    by_test n false t = d

    by_number : (r : Result ℤ ValueFault) → test (natural_of test default r) ≡ true
    by_number (Err fault) = d
    by_number (Ok (pos n)) = by_test n (test n) refl
    by_number (Ok (negsuc n)) = d

all_pass : {A : Type 0} (test : A → Bool) (xs : List A) → ((x : A) → test x ≡ true) → list_all test xs ≡ true
all_pass test [] h = refl
all_pass test (x ∷ xs) h = both (test x) (list_all test xs) (h x) (all_pass test xs h)

mapped_pass : {A B : Type 0} (test : B → Bool) (f : A → B) (xs : List A) → ((x : A) → test (f x) ≡ true) → list_all test (map f xs) ≡ true
mapped_pass test f [] h = refl
mapped_pass test f (x ∷ xs) h = both (test (f x)) (list_all test (map f xs)) (h x) (mapped_pass test f xs h)

kept_pass : {A : Type 0} (test : A → Bool) (xs : List A) → list_all test (filter test xs) ≡ true
kept_pass test [] = refl
kept_pass test (x ∷ xs) = by_test (test x) refl (kept_pass test xs)
  where
    by_test : (b : Bool) → test x ≡ b → list_all test (filter test xs) ≡ true → list_all test (cond b (x ∷ filter test xs) (filter test xs)) ≡ true
    by_test true t r = both (test x) (list_all test (filter test xs)) t r
    by_test false t r = r

lines_pass : (key : List ℕ) (t : Tree) → are_field_lines (lines_under key t) ≡ true
lines_pass key t = kept_pass is_line (map line_of (entries_under key t))

cookie_passes : (style : Style) (t : Tree) → is_cookie (cookie_of style t) ≡ true
cookie_passes style t = four _ _ _ _
    (text_passes is_cookie_name [] (value_under (codes "name") t) refl)
    (text_passes is_same_site [] (value_under (codes "sameSite") t) refl)
    (text_passes is_cookie_text (codes "/") (value_under (codes "path") t) refl)
    (text_passes is_cookie_text [] (value_under (codes "domain") t) refl)

health_passes : (style : Style) (t : Tree) → is_health (health_of style t) ≡ true
health_passes style t = four _ _ _ _
    (text_passes is_probe_path (codes "/") (value_under (codes "path") t) refl)
    (lines_pass (codes "headers") t)
    (time_passes 30000 style (value_under (codes "interval") t) refl)
    (time_passes 5000 style (value_under (codes "timeout") t) refl)

option_passes : {A B : Type 0} (test : B → Bool) (f : A → B) (o : Option A) → ((x : A) → test (f x) ≡ true) → if_some test (option_map f o) ≡ true
option_passes test f None h = refl
option_passes test f (Some x) h = h x

sticky_passes : (style : Style) (t : Tree) → if_some is_cookie (sticky_under style t) ≡ true
sticky_passes style t = option_passes is_cookie (cookie_of style) (option_and_then (value_under (codes "cookie")) (value_under (codes "sticky") t)) (cookie_passes style)

weight_passes : (style : Style) (t : Tree) → is_weight (weight_of style t) ≡ true
weight_passes style t = natural_passes is_weight 1 style (value_under (codes "weight") t) refl

percent_passes : (style : Style) (t : Tree) → is_percent (percent_of style t) ≡ true
percent_passes style t = natural_passes is_percent 0 style (value_under (codes "percent") t) refl

balancer_passes : (style : Style) (t : Tree) → is_balancer (balancer_of style t) ≡ true
balancer_passes style t = three _ _ _
    (mapped_pass is_server (server_of style) (elements style (value_under (codes "servers") t)) (weight_passes style))
    (sticky_passes style t)
    (option_passes is_health (health_of style) (value_under (codes "healthCheck") t) (health_passes style))

same_test : (m n : ℕ) → m ≡ n → (m == n) ≡ true
same_test m n e = grind (arith, nat_tests)

level : {A B C : Type 0} (f : A → B) (g : A → C) (xs : List A) → (length (map f xs) == length (map g xs)) ≡ true
level f g xs = same_test (length (map f xs)) (length (map g xs)) (length-map xs f ∙ sym (length-map xs g))

weighted_passes : (style : Style) (t : Tree) → is_weighted (weighted_of style t) ≡ true
weighted_passes style t =
    let found = elements style (value_under (codes "services") t) in
    three _ _ _ (level name_of (weight_of style) found) (mapped_pass is_weight (weight_of style) found (weight_passes style)) (sticky_passes style t)

mirroring_passes : (style : Style) (t : Tree) → is_mirroring (mirroring_of style t) ≡ true
mirroring_passes style t =
    let found = elements style (value_under (codes "mirrors") t) in
    three _ _ _ (level name_of (percent_of style) found) (mapped_pass is_percent (percent_of style) found (percent_passes style))
    (number_passes is_size (negsuc 0) style (value_under (codes "maxBodySize") t) refl)

chosen : {A : Type 0} (test : A → Bool) (b : Bool) (x y : A) → test x ≡ true → test y ≡ true → test (if b then x else y) ≡ true
chosen test true x y p q = p
chosen test false x y p q = q

service_passes : (style : Style) (kind : List ℕ) (t : Tree) → is_service (service_by style kind t) ≡ true
service_passes style kind t =
    chosen is_service (same_key (codes "loadBalancer") kind) _ _ (balancer_passes style t)
    (chosen is_service (same_key (codes "weighted") kind) _ _ (weighted_passes style t)
    (chosen is_service (same_key (codes "mirroring") kind) _ _ (mirroring_passes style t)
    (chosen is_service (same_key (codes "failover") kind) (service.Failover (failover_of t)) service.Unsupported refl refl)))

middleware_passes : (style : Style) (kind : List ℕ) (t : Tree) → is_middleware (middleware_by style kind t) ≡ true
middleware_passes style kind t =
    chosen is_middleware (same_key (codes "addPrefix") kind) _ _ refl
    (chosen is_middleware (same_key (codes "stripPrefix") kind) _ _ refl
    (chosen is_middleware (same_key (codes "replacePath") kind) _ _ refl
    (chosen is_middleware (same_key (codes "replacePathRegex") kind) _ _ refl
    (chosen is_middleware (same_key (codes "headers") kind) _ _ (both _ _ (lines_pass (codes "customRequestHeaders") t) (lines_pass (codes "customResponseHeaders") t))
    (chosen is_middleware (same_key (codes "ipAllowList") kind) _ _ refl
    (chosen is_middleware (same_key (codes "chain") kind) _ _ refl
    (chosen is_middleware (same_key (codes "buffering") kind) _ _ refl
    (chosen is_middleware (same_key (codes "redirectScheme") kind) _ _ refl
    (chosen is_middleware (same_key (codes "redirectRegex") kind) _ middleware.Unsupported refl refl)))))))))

pub services_in_range : (style : Style) (entries : List Entry) → list_all (λ (entry : List ℕ × ServiceDef). is_service entry.1) (map (λ (entry : Entry). (entry.0, service_of style entry.1)) entries) ≡ true
services_in_range style entries = mapped_pass (λ (entry : List ℕ × ServiceDef). is_service entry.1) (λ (entry : Entry). (entry.0, service_of style entry.1)) entries (λ entry. of_entries (entries_of entry.1))
  where
    of_entries : (es : List Entry) → is_service (service_in style es) ≡ true
    of_entries [] = refl
    of_entries (e ∷ es) = service_passes style e.0 e.1

pub middlewares_in_range : (style : Style) (entries : List Entry) → list_all (λ (entry : List ℕ × MiddlewareDef). is_middleware entry.1) (map (λ (entry : Entry). (entry.0, middleware_of style entry.1)) entries) ≡ true
middlewares_in_range style entries = mapped_pass (λ (entry : List ℕ × MiddlewareDef). is_middleware entry.1) (λ (entry : Entry). (entry.0, middleware_of style entry.1)) entries (λ entry. of_entries (entries_of entry.1))
  where
    of_entries : (es : List Entry) → is_middleware (middleware_in style es) ≡ true
    of_entries [] = refl
    of_entries (e ∷ es) = middleware_passes style e.0 e.1
