-- Definitions of which `==` is true are the same.
use Rattle.std.proofs.Common.{◌≡◌, ◌↔◌, ℕ, Bool, true, false, ◌&&◌, ◌==◌, List, [], ◌∷◌, Option, None, Some, IsTrue, inl, inr, refl, ap, ap₂, subst, bytes_eq, int_eq}
use denote.Struct.Field.{Field}
use denote.Enum.Declared.{Choice, intoss}
use denote.Enum.Compared.{Each, by}
use Rattle.std.specs.Cmp.{signed_Decides, unsigned_Decides, booleans_Decides}
use Rattle.std.specs.Cmp.Lexicographic.{pointwise}
use Rattle.std.proofs.lemmas.Bool.{false≢true}
use Rattle.std.proofs.lemmas.Slice.Eq.{bytes_eq-Decides, slice_eq-Decides}
use Rattle.dyn_config.proofs.Twins.{and_left, and_right, both_true}
use Rattle.dyn_config.specs.declared.router.RouterDef.{RouterDef}
use Rattle.dyn_config.specs.declared.service.Cookie.{Cookie}
use Rattle.dyn_config.specs.declared.service.Health.{Health}
use Rattle.dyn_config.specs.declared.service.ServerDef.{ServerDef}
use Rattle.dyn_config.specs.declared.service.ServiceDef.{ServiceDef}
use Rattle.dyn_config.specs.declared.middleware.MiddlewareDef.{MiddlewareDef}
use Rattle.dyn_config.specs.contracts.service.ServiceDef as service_type
use Rattle.dyn_config.specs.contracts.service.Cookie.{the_row as cookie_row}
use Rattle.dyn_config.specs.contracts.service.Health.{the_row as health_row}
use Rattle.std.specs.contracts.prelude.OptionPartialEq.TheImpl as option_eq
use Rattle.dyn_config.specs.contracts.middleware.MiddlewareDef as middleware_type
use Rattle.dyn_config.specs.contracts.router.RouterDefPartialEq.TheImpl as router_eq
use Rattle.dyn_config.specs.contracts.service.CookiePartialEq.TheImpl as cookie_eq
use Rattle.dyn_config.specs.contracts.service.HealthPartialEq.TheImpl as health_eq
use Rattle.dyn_config.specs.contracts.service.ServerDefPartialEq.TheImpl as server_eq
use Rattle.dyn_config.specs.contracts.service.BalancerDefPartialEq.TheImpl as balancer_eq
use Rattle.dyn_config.specs.contracts.service.WeightedDefPartialEq.TheImpl as weighted_eq
use Rattle.dyn_config.specs.contracts.service.MirroringDefPartialEq.TheImpl as mirroring_eq
use Rattle.dyn_config.specs.contracts.service.FailoverDefPartialEq.TheImpl as failover_eq
use Rattle.dyn_config.specs.contracts.service.ServiceDefPartialEq.TheImpl as service_eq
use Rattle.dyn_config.specs.contracts.middleware.MiddlewareDefPartialEq.TheImpl as middleware_eq
use Rattle.dyn_config.specs.contracts.router.RouterDefEq.TheImpl.Laws as router_laws
use Rattle.dyn_config.specs.contracts.service.ServiceDefEq.TheImpl.Laws as service_laws
use Rattle.dyn_config.specs.contracts.middleware.MiddlewareDefEq.TheImpl.Laws as middleware_laws

-- Values that pass the test are the same.
abbrev Tells : {X : Type 0} → (X → X → Bool) → Type 0
Tells {X} test = (a b : X) → test a b ≡ true → a ≡ b

tells_bytes : Tells bytes_eq
tells_bytes a b = (bytes_eq-Decides a b).0

tells_number : Tells (λ (x y : ℕ). x == y)
tells_number a b = (unsigned_Decides a b).0

tells_signed : Tells int_eq
tells_signed a b = (signed_Decides a b).0

tells_flag : (a b : Bool) → Rattle.std.specs.Bool.beq a b ≡ true → a ≡ b
tells_flag a b = (booleans_Decides a b).0

tells_list : {X : Type 0} (test : X → X → Bool) → Tells test → Tells (pointwise test)
tells_list test t [] [] h = refl
tells_list test t [] (y ∷ ys) h = absurd (false≢true h)
tells_list test t (x ∷ xs) [] h = absurd (false≢true h)
tells_list test t (x ∷ xs) (y ∷ ys) h =
    ap₂ (λ z zs. z ∷ zs) (t x y (and_left (test x y) (pointwise test xs ys) h)) (tells_list test t xs ys (and_right (test x y) (pointwise test xs ys) h))

abbrev pair_eq : {A B : Type 0} → (A → A → Bool) → (B → B → Bool) → A × B → A × B → Bool
pair_eq test other x y = test x.0 y.0 && other x.1 y.1

tells_pair : {A B : Type 0} (test : A → A → Bool) (other : B → B → Bool) → Tells test → Tells other → Tells (pair_eq test other)
tells_pair test other t u x y h = λ i. (t x.0 y.0 (and_left (test x.0 y.0) (other x.1 y.1) h) i, u x.1 y.1 (and_right (test x.0 y.0) (other x.1 y.1) h) i)

tells_texts : Tells (pointwise bytes_eq)
tells_texts = tells_list bytes_eq tells_bytes

tells_lines : Tells (pointwise (pair_eq bytes_eq bytes_eq))
tells_lines = tells_list (pair_eq bytes_eq bytes_eq) (tells_pair bytes_eq bytes_eq tells_bytes tells_bytes)

-- Structs ---------------------------------------------------------------------------------------------

tells_router : Tells router_eq.ghosts.eq
tells_router a b h =
    let h1 = and_right _ _ h in
    let h2 = and_right _ _ h1 in
    let h3 = and_right _ _ h2 in
    let h4 = and_right _ _ h3 in
    let h5 = and_right _ _ h4 in
    let h6 = and_right _ _ h5 in
    λ i. record {
      entry_points = tells_texts a.entry_points b.entry_points (and_left _ _ h) i;
      rule = tells_bytes a.rule b.rule (and_left _ _ h1) i;
      service = tells_bytes a.service b.service (and_left _ _ h2) i;
      middlewares = tells_texts a.middlewares b.middlewares (and_left _ _ h3) i;
      priority = tells_signed a.priority b.priority (and_left _ _ h4) i;
      tls = tells_flag a.tls b.tls (and_left _ _ h5) i;
      unsupported = tells_flag a.unsupported b.unsupported h6 i;
    }

tells_cookie : Tells cookie_eq.ghosts.eq
tells_cookie a b h =
    let h1 = and_right _ _ h in
    let h2 = and_right _ _ h1 in
    let h3 = and_right _ _ h2 in
    let h4 = and_right _ _ h3 in
    let h5 = and_right _ _ h4 in
    let h6 = and_right _ _ h5 in
    λ i. record {
      name = tells_bytes a.name b.name (and_left _ _ h) i;
      secure = tells_flag a.secure b.secure (and_left _ _ h1) i;
      http_only = tells_flag a.http_only b.http_only (and_left _ _ h2) i;
      same_site = tells_bytes a.same_site b.same_site (and_left _ _ h3) i;
      max_age = tells_signed a.max_age b.max_age (and_left _ _ h4) i;
      path = tells_bytes a.path b.path (and_left _ _ h5) i;
      domain = tells_bytes a.domain b.domain h6 i;
    }

tells_health : Tells health_eq.ghosts.eq
tells_health a b h =
    let h1 = and_right _ _ h in
    let h2 = and_right _ _ h1 in
    let h3 = and_right _ _ h2 in
    let h4 = and_right _ _ h3 in
    let h5 = and_right _ _ h4 in
    let h6 = and_right _ _ h5 in
    let h7 = and_right _ _ h6 in
    let h8 = and_right _ _ h7 in
    λ i. record {
      path = tells_bytes a.path b.path (and_left _ _ h) i;
      host = tells_bytes a.host b.host (and_left _ _ h1) i;
      port = tells_number a.port b.port (and_left _ _ h2) i;
      method = tells_bytes a.method b.method (and_left _ _ h3) i;
      headers = tells_lines a.headers b.headers (and_left _ _ h4) i;
      status = tells_number a.status b.status (and_left _ _ h5) i;
      interval = tells_number a.interval b.interval (and_left _ _ h6) i;
      timeout = tells_number a.timeout b.timeout (and_left _ _ h7) i;
      unsupported = tells_flag a.unsupported b.unsupported h8 i;
    }

tells_server : Tells server_eq.ghosts.eq
tells_server a b h = λ i. record { url = tells_bytes a.url b.url (and_left _ _ h) i; weight = tells_number a.weight b.weight (and_right _ _ h) i }

-- Optional parts stand in the middle of a test.
balancer_sticky : (xs ys : List ServerDef) (s t : Option Cookie) (h k : Option Health) (p q u v : Bool)
    → balancer_eq.ghosts.eq (record { servers = xs; sticky = s; health = h; pass_host = p; unsupported = u }) (record { servers = ys; sticky = t; health = k; pass_host = q; unsupported = v }) ≡ true → s ≡ t
balancer_sticky xs ys None None h k p q u v e = refl
balancer_sticky xs ys None (Some t) h k p q u v e = absurd (false≢true (and_right _ _ e))
balancer_sticky xs ys (Some s) None h k p q u v e = absurd (false≢true (and_right _ _ e))
balancer_sticky xs ys (Some s) (Some t) h k p q u v e = let e1 = and_right _ _ e in ap Some (tells_cookie s t (and_left _ _ e1))

balancer_health : (xs ys : List ServerDef) (s t : Option Cookie) (h k : Option Health) (p q u v : Bool)
    → balancer_eq.ghosts.eq (record { servers = xs; sticky = s; health = h; pass_host = p; unsupported = u }) (record { servers = ys; sticky = t; health = k; pass_host = q; unsupported = v }) ≡ true → h ≡ k
balancer_health xs ys s t None None p q u v e = refl
balancer_health xs ys s t None (Some k) p q u v e = let e1 = and_right _ _ e in absurd (false≢true (and_right _ _ e1))
balancer_health xs ys s t (Some h) None p q u v e = let e1 = and_right _ _ e in absurd (false≢true (and_right _ _ e1))
balancer_health xs ys s t (Some h) (Some k) p q u v e = let e1 = and_right _ _ e in let e2 = and_right _ _ e1 in ap Some (tells_health h k (and_left _ _ e2))

tells_balancer : Tells balancer_eq.ghosts.eq
tells_balancer a b h =
    let h1 = and_right (pointwise server_eq.ghosts.eq a.servers b.servers) _ h in
    let h2 = and_right ((option_eq.ghosts cookie_row cookie_eq.ghosts cookie_eq.dict).eq a.sticky b.sticky) _ h1 in
    let h3 = and_right ((option_eq.ghosts health_row health_eq.ghosts health_eq.dict).eq a.health b.health) _ h2 in
    let h4 = and_right _ _ h3 in
    λ i. record {
      servers = tells_list server_eq.ghosts.eq tells_server a.servers b.servers (and_left _ _ h) i;
      sticky = balancer_sticky a.servers b.servers a.sticky b.sticky a.health b.health a.pass_host b.pass_host a.unsupported b.unsupported h i;
      health = balancer_health a.servers b.servers a.sticky b.sticky a.health b.health a.pass_host b.pass_host a.unsupported b.unsupported h i;
      pass_host = tells_flag a.pass_host b.pass_host (and_left _ _ h3) i;
      unsupported = tells_flag a.unsupported b.unsupported h4 i;
    }

weighted_sticky : (xs ys : List (List ℕ)) (ms ns : List ℕ) (s t : Option Cookie)
    → weighted_eq.ghosts.eq (record { names = xs; weights = ms; sticky = s }) (record { names = ys; weights = ns; sticky = t }) ≡ true → s ≡ t
weighted_sticky xs ys ms ns None None e = refl
weighted_sticky xs ys ms ns None (Some t) e = absurd (false≢true (and_right _ _ (and_right _ _ e)))
weighted_sticky xs ys ms ns (Some s) None e = absurd (false≢true (and_right _ _ (and_right _ _ e)))
weighted_sticky xs ys ms ns (Some s) (Some t) e = ap Some (tells_cookie s t (and_right _ _ (and_right _ _ e)))

tells_weighted : Tells weighted_eq.ghosts.eq
tells_weighted a b h = λ i. record {
  names = tells_texts a.names b.names (and_left _ _ h) i;
  weights = tells_bytes a.weights b.weights (and_left _ _ (and_right _ _ h)) i;
  sticky = weighted_sticky a.names b.names a.weights b.weights a.sticky b.sticky h i;
}

tells_mirroring : Tells mirroring_eq.ghosts.eq
tells_mirroring a b h =
    let h1 = and_right _ _ h in
    let h2 = and_right _ _ h1 in
    let h3 = and_right _ _ h2 in
    let h4 = and_right _ _ h3 in
    λ i. record {
      service = tells_bytes a.service b.service (and_left _ _ h) i;
      mirrors = tells_texts a.mirrors b.mirrors (and_left _ _ h1) i;
      percents = tells_bytes a.percents b.percents (and_left _ _ h2) i;
      max_body = tells_signed a.max_body b.max_body (and_left _ _ h3) i;
      unsupported = tells_flag a.unsupported b.unsupported h4 i;
    }

tells_failover : Tells failover_eq.ghosts.eq
tells_failover a b h = λ i. record { service = tells_bytes a.service b.service (and_left _ _ h) i; fallback = tells_bytes a.fallback b.fallback (and_right _ _ h) i }

-- Enums -----------------------------------------------------------------------------------------------

-- Each variant's test tells.
abbrev AllTell : (variants : List (List Field)) → Each Bool variants → Type 0
AllTell [] tests = Unit {0}
AllTell (fields ∷ variants) tests = Tells tests.0 × AllTell variants tests.1

choices_same : (variants : List (List Field)) (tests : Each Bool variants) → AllTell variants tests → (a b : Choice variants) → by false false variants tests a b ≡ true → a ≡ b
choices_same [] tests all a b h = absurd a
choices_same (fields ∷ variants) tests all (inl x) (inl y) h = ap inl (all.0 x y h)
choices_same (fields ∷ variants) tests all (inl x) (inr y) h = absurd (false≢true h)
choices_same (fields ∷ variants) tests all (inr x) (inl y) h = absurd (false≢true h)
choices_same (fields ∷ variants) tests all (inr x) (inr y) h = ap inr (choices_same variants tests.1 all.1 x y h)

-- A variant with no field, and with one.
abbrev none : Unit {0} → Unit {0} → Bool
none x y = true

tells_none : Tells none
tells_none x y h = refl

abbrev one : {A : Type 0} → (A → A → Bool) → A × Unit {0} → A × Unit {0} → Bool
one test x y = test x.0 y.0

tells_one : {A : Type 0} (test : A → A → Bool) → Tells test → Tells (one test)
tells_one test t x y h = λ i. (t x.0 y.0 h i, tt)

abbrev service_tests : Each Bool service_type.the_parts
service_tests = (one balancer_eq.ghosts.eq, (one weighted_eq.ghosts.eq, (one mirroring_eq.ghosts.eq, (one failover_eq.ghosts.eq, (none, tt)))))

tells_service : Tells service_eq.ghosts.eq
tells_service a b h =
    service_type.the_type.to_one a b (ap (intoss service_type.the_parts)
    (choices_same service_type.the_parts service_tests
    (tells_one balancer_eq.ghosts.eq tells_balancer, (tells_one weighted_eq.ghosts.eq tells_weighted, (tells_one mirroring_eq.ghosts.eq tells_mirroring, (tells_one failover_eq.ghosts.eq tells_failover, (tells_none, tt)))))
    (service_type.as_values a) (service_type.as_values b) h))

abbrev flag_eq : Bool → Bool → Bool
flag_eq = Rattle.std.specs.Bool.beq

abbrev texts_eq : List (List ℕ) → List (List ℕ) → Bool
texts_eq = pointwise bytes_eq

abbrev lines_eq : List (List ℕ × List ℕ) → List (List ℕ × List ℕ) → Bool
lines_eq = pointwise (pair_eq bytes_eq bytes_eq)

abbrev middleware_tests : Each Bool middleware_type.the_parts
middleware_tests = (
  one bytes_eq,
  (
    pair_eq texts_eq (one flag_eq),
    (
      one bytes_eq,
      (
        pair_eq bytes_eq (one bytes_eq),
        (
          pair_eq lines_eq (pair_eq lines_eq (one flag_eq)),
          (
            pair_eq texts_eq (one flag_eq),
            (
              one texts_eq,
              (
                pair_eq int_eq (one flag_eq),
                (
                  pair_eq bytes_eq (pair_eq bytes_eq (one flag_eq)),
                  (
                    pair_eq bytes_eq (pair_eq bytes_eq (one flag_eq)),
                    (none, tt),
                  ),
                ),
              ),
            ),
          ),
        ),
      ),
    ),
  ),
)

tells_text_flag : Tells (pair_eq bytes_eq (pair_eq bytes_eq (one flag_eq)))
tells_text_flag = tells_pair bytes_eq (pair_eq bytes_eq (one flag_eq)) tells_bytes (tells_pair bytes_eq (one flag_eq) tells_bytes (tells_one flag_eq tells_flag))

tells_list_flag : Tells (pair_eq texts_eq (one flag_eq))
tells_list_flag = tells_pair texts_eq (one flag_eq) tells_texts (tells_one flag_eq tells_flag)

tells_middleware : Tells middleware_eq.ghosts.eq
tells_middleware a b h =
    middleware_type.the_type.to_one a b (ap (intoss middleware_type.the_parts)
    (choices_same middleware_type.the_parts middleware_tests (
      tells_one bytes_eq tells_bytes,
      (
        tells_list_flag,
        (
          tells_one bytes_eq tells_bytes,
          (
            tells_pair bytes_eq (one bytes_eq) tells_bytes (tells_one bytes_eq tells_bytes),
            (
              tells_pair lines_eq (pair_eq lines_eq (one flag_eq)) tells_lines (tells_pair lines_eq (one flag_eq) tells_lines (tells_one flag_eq tells_flag)),
              (
                tells_list_flag,
                (
                  tells_one texts_eq tells_texts,
                  (
                    tells_pair int_eq (one flag_eq) tells_signed (tells_one flag_eq tells_flag),
                    (
                      tells_text_flag,
                      (
                        tells_text_flag,
                        (tells_none, tt),
                      ),
                    ),
                  ),
                ),
              ),
            ),
          ),
        ),
      ),
    )
    (middleware_type.as_values a) (middleware_type.as_values b) h))

-- Lists of them ---------------------------------------------------------------------------------------

-- What `==` of two lists under names says, where the definitions' tells and is true of one and the same.
list_told : {D : Type 0} (test : D → D → Bool) → Tells test → ((d : D) → test d d ≡ true)
    → (xs ys : List (List ℕ × D)) (r : Bool) → r ≡ pointwise (pair_eq bytes_eq test) xs ys → IsTrue r ↔ (xs ≡ ys)
list_told {D} test t itself xs ys r e =
    slice_eq-Decides (λ (a b : List ℕ × D). (
      tells_pair bytes_eq test tells_bytes t a b,
      λ same. subst (λ (c : List ℕ × D). pair_eq bytes_eq test a c ≡ true) same (both_true (bytes_eq a.0 a.0) (test a.1 a.1) ((bytes_eq-Decides a.0 a.0).1 refl) (itself a.1)),
    )) xs ys r e

pub routers_told : (xs ys : List (List ℕ × RouterDef)) (r : Bool) → r ≡ pointwise (pair_eq bytes_eq router_eq.ghosts.eq) xs ys → IsTrue r ↔ (xs ≡ ys)
routers_told = list_told router_eq.ghosts.eq tells_router (λ d. router_laws.laws-law.refl d)

pub services_told : (xs ys : List (List ℕ × ServiceDef)) (r : Bool) → r ≡ pointwise (pair_eq bytes_eq service_eq.ghosts.eq) xs ys → IsTrue r ↔ (xs ≡ ys)
services_told = list_told service_eq.ghosts.eq tells_service (λ d. service_laws.laws-law.refl d)

pub middlewares_told : (xs ys : List (List ℕ × MiddlewareDef)) (r : Bool) → r ≡ pointwise (pair_eq bytes_eq middleware_eq.ghosts.eq) xs ys → IsTrue r ↔ (xs ≡ ys)
middlewares_told = list_told middleware_eq.ghosts.eq tells_middleware (λ d. middleware_laws.laws-law.refl d)
