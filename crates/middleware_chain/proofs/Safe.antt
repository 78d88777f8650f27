-- What a chain writes is safe.
use Rattle.std.proofs.Common.{◌≡◌, ◌∙◌, ℕ, ◌+◌, ◌==◌, List, [], ◌∷◌, ◌++◌, Bool, true, false, not, ◌&&◌, ◌||◌, cond, refl, sym, ap, subst, inl, inr, ◌⊎◌, ◌↔◌, codes, length, drop, nat_eq, map, Option, Some, None, IsTrue, IsSome, bytes_eq}
use Rattle.std.specs.List.{find, fold, list_all, starts_with}
use Rattle.std.specs.Option.{ForSome}
use Rattle.std.proofs.lemmas.Bool.{and_parts, and_from, false≢true}
use Rattle.std.proofs.lemmas.Bool.Decides.{Decides-eqb}
use Rattle.std.proofs.lemmas.Slice.Eq.{starts_is}
use Rattle.dyn_config.specs.declared.middleware.MiddlewareDef.{MiddlewareDef}
use Rattle.dyn_config.specs.declared.middleware.MiddlewareDef.TheVariants.{AddPrefix, StripPrefix, ReplacePath, ReplacePathRegex, Headers, IpAllowList, Chain, Buffering, RedirectScheme, RedirectRegex, Unsupported}
use Rattle.head_view.specs.Lines.{Line as Field, has_name}
use Rattle.http_wire.specs.Edits.{set_in}
use Rattle.http_wire.specs.Own.{is_own_error, is_redirect}
use Rattle.http_wire.specs.declared.message.Reply.{Reply}
use Rattle.http_wire.specs.declared.message.Request.{Request}
use Rattle.ip_net.specs.declared.ip.Ip.{Ip}
use Rattle.middleware_stage.specs.Effects.{IsPassed, IsRedirected, IsReplied, IsStopped, first_prefix, replaced, replaced_by, replaced_by_regex, stripped, with_header, with_headers, with_line, with_lines, with_prefix, without_prefix}
use Rattle.middleware_stage.specs.Lawful.{has_lawful_lines, is_settable}
use Rattle.middleware_stage.specs.Paths.{location_text, new_path}
use Rattle.middleware_stage.specs.Redirects.{by_regex, by_scheme, redirect_status, rewritten}
use Rattle.middleware_stage.specs.declared.stage.Stage.{Stage}
use Rattle.middleware_stage.proofs.Lawful.{stage_lawful}
use Rattle.middleware_chain.specs.Folds.{BackThrough, PassesOn, StopsAt, Through, ThroughFrom, least}
use Rattle.middleware_chain.specs.Stages.{built_at, def_at, def_of, defs_at}
use Rattle.middleware_chain.specs.Written.{AreSafeLines, IsOwnStop, IsSafe, IsSafeChange, IsSafeReply, ends_no_line, is_one_word}
use Rattle.middleware_chain.specs.declared.flow.Flow.{Flow}
use Rattle.middleware_chain.specs.declared.flow.Flow.TheVariants.{Pass, Stop}
use Rattle.middleware_chain.specs.declared.part.Part.{Part}
use Rattle.middleware_chain.proofs.Setting.{line_safe, lines_safe, prefix_writable, replaced_writable, same_lines, set_lines, settable, then_lines}
use Rattle.middleware_chain.proofs.Texts.{front_word, location_word, new_path_word, value_ends_no_line, word_ends_no_line}

-- the request as it was
unchanged : (q : Request) → is_one_word q.path ≡ true → IsSafeChange q q
unchanged q word = record { lines = same_lines q.lines; host = inl refl; path = word; method = refl; query = refl; framing = refl; version = refl; keep = refl }

then_host : (a b c : List ℕ) → (b ≡ a) ⊎ (ends_no_line b ≡ true) → (c ≡ b) ⊎ (ends_no_line c ≡ true) → (c ≡ a) ⊎ (ends_no_line c ≡ true)
then_host a b c first (inr w) = inr w
then_host a b c (inl e) (inl f) = inl (f ∙ e)
then_host a b c (inr w) (inl f) = inr (ap ends_no_line f ∙ w)

then_safe : (q r s : Request) → IsSafeChange q r → IsSafeChange r s → IsSafeChange q s
then_safe q r s first second = record {
  lines = then_lines q.lines r.lines s.lines first.lines second.lines;
  host = then_host q.host r.host s.host first.host second.host;
  path = second.path;
  method = second.method ∙ first.method;
  query = second.query ∙ first.query;
  framing = second.framing ∙ first.framing;
  version = second.version ∙ first.version;
  keep = second.keep ∙ first.keep;
}

changed : (q : Request) (path : List ℕ) (lines : List Field) → is_one_word path ≡ true → AreSafeLines q.lines lines → IsSafeChange q (record q { path = path; lines = lines })
changed q path lines word safe = record { lines = safe; host = inl refl; path = word; method = refl; query = refl; framing = refl; version = refl; keep = refl }

prefix_safe : (prefix : List ℕ) (q : Request) → IsSafeChange q (with_prefix prefix q)
prefix_safe prefix q = changed q (new_path (prefix ++ q.path)) q.lines (new_path_word (prefix ++ q.path)) (same_lines q.lines)

found_by : (path p : List ℕ) (ps : List (List ℕ)) (x : List ℕ) (b : Bool) → starts_with nat_eq path p ≡ b
    → (find (λ prefix. starts_with nat_eq path prefix) ps ≡ Some x → starts_with nat_eq path x ≡ true)
    → cond b (Some p) (find (λ prefix. starts_with nat_eq path prefix) ps) ≡ Some x → starts_with nat_eq path x ≡ true
found_by path p ps x true e later h = let same : p ≡ x = cc in ap (starts_with nat_eq path) (sym same) ∙ e
found_by path p ps x false e later h = later h

found_prefix : (path : List ℕ) (ps : List (List ℕ)) (x : List ℕ) → find (λ prefix. starts_with nat_eq path prefix) ps ≡ Some x → starts_with nat_eq path x ≡ true
found_prefix path [] x h = absurd cc
found_prefix path (p ∷ ps) x h = found_by path p ps x (starts_with nat_eq path p) refl (λ k. found_prefix path ps x k) h

stripped_by : (q : Request) (o : Option (List ℕ)) → is_one_word q.path ≡ true → ((x : List ℕ) → o ≡ Some x → starts_with nat_eq q.path x ≡ true) → IsSafeChange q (without_prefix o q)
stripped_by q None word starts = unchanged q word
stripped_by q (Some prefix) word starts =
    let e : q.path ≡ prefix ++ drop (length prefix) q.path = (starts_is Decides-eqb q.path prefix (starts_with nat_eq q.path prefix) refl).0 (starts prefix refl) in
    let front = front_word q.path prefix (drop (length prefix) q.path) e word in
    changed q (new_path (drop (length prefix) q.path)) (set_in (codes "X-Forwarded-Prefix") prefix q.lines) (new_path_word (drop (length prefix) q.path))
    (set_lines (codes "X-Forwarded-Prefix") prefix q.lines (prefix_writable prefix (word_ends_no_line prefix front)))

stripped_safe : (prefixes : List (List ℕ)) (q : Request) → is_one_word q.path ≡ true → IsSafeChange q (stripped prefixes q)
stripped_safe prefixes q word = stripped_by q (first_prefix prefixes q) word (λ x h. found_prefix q.path prefixes x h)

replaced_safe : (path : List ℕ) (q : Request) → is_one_word q.path ≡ true → IsSafeChange q (replaced path q)
replaced_safe path q word =
    changed q (new_path path) (set_in (codes "X-Replaced-Path") q.path q.lines) (new_path_word path)
    (set_lines (codes "X-Replaced-Path") q.path q.lines (replaced_writable q.path (word_ends_no_line q.path word)))

replaced_by_safe : (o : Option (List ℕ)) (q : Request) → is_one_word q.path ≡ true → IsSafeChange q (replaced_by o q)
replaced_by_safe None q word = unchanged q word
replaced_by_safe (Some path) q word = replaced_safe path q word

hosted : (q : Request) (host : List ℕ) → ends_no_line host ≡ true → is_one_word q.path ≡ true → IsSafeChange q (record q { host = host })
hosted q host ends word = record { lines = same_lines q.lines; host = inr ends; path = word; method = refl; query = refl; framing = refl; version = refl; keep = refl }

lined : (q : Request) (lines : List Field) → AreSafeLines q.lines lines → is_one_word q.path ≡ true → IsSafeChange q (record q { lines = lines })
lined q lines safe word = record { lines = safe; host = inl refl; path = word; method = refl; query = refl; framing = refl; version = refl; keep = refl }

header_by : (q : Request) (change : Field) (b : Bool) → is_settable change ≡ true → is_one_word q.path ≡ true
    → IsSafeChange q (cond b (record q { host = change.1 }) (record q { lines = with_line q.lines change }))
header_by q change true s word = hosted q change.1 (value_ends_no_line change.1 (settable change s).value_is) word
header_by q change false s word = lined q (with_line q.lines change) (line_safe q.lines change s) word

header_safe : (q : Request) (change : Field) → is_settable change ≡ true → is_one_word q.path ≡ true → IsSafeChange q (with_header q change)
header_safe q change s word = header_by q change (has_name (codes "Host") change) s word

headers_safe : (changes : List Field) (q : Request) → list_all is_settable changes ≡ true → is_one_word q.path ≡ true → IsSafeChange q (with_headers changes q)
headers_safe [] q all word = unchanged q word
headers_safe (change ∷ changes) q all word =
    let parts = and_parts (is_settable change) (list_all is_settable changes) all in
    let first = header_safe q change parts.0 word in
    then_safe q (with_header q change) (with_headers changes (with_header q change)) first (headers_safe changes (with_header q change) parts.1 first.path)

moved : (q a b : Request) → a ≡ b → IsSafeChange q b → IsSafeChange q a
moved q a b e safe = let P : Request → Type 0 = λ r. IsSafeChange q r in subst P (sym e) safe

-- a request that a middleware passes on
passed_safe : (def : MiddlewareDef) (q next : Request) (peer : Ip) (own : Option ℕ) → has_lawful_lines def ≡ true → is_one_word q.path ≡ true → IsPassed def q peer next own
    → IsSafeChange q next
passed_safe (AddPrefix prefix) q next peer own lawful word p = moved q next _ p.0 (prefix_safe prefix q)
passed_safe (StripPrefix prefixes unsupported) q next peer own lawful word p = moved q next _ p.0 (stripped_safe prefixes q word)
passed_safe (ReplacePath path) q next peer own lawful word p = moved q next _ p.0 (replaced_safe path q word)
passed_safe (ReplacePathRegex regex replacement) q next peer own lawful word p = moved q next _ p.0 (replaced_by_safe (rewritten regex replacement q.path) q word)
passed_safe (Headers request response unsupported) q next peer own lawful word p =
    moved q next _ p.0 (headers_safe request q (and_parts (list_all is_settable request) (list_all is_settable response) lawful).0 word)
passed_safe (IpAllowList ranges unsupported) q next peer own lawful word p = moved q next _ p.1 (unchanged q word)
passed_safe (Chain names) q next peer own lawful word p = absurd p
passed_safe (Buffering max_body unsupported) q next peer own lawful word p = moved q next _ p.1 (unchanged q word)
passed_safe (RedirectScheme scheme port permanent) q next peer own lawful word p = moved q next _ p.1 (unchanged q word)
passed_safe (RedirectRegex regex replacement permanent) q next peer own lawful word p = moved q next _ p.1 (unchanged q word)
passed_safe Unsupported q next peer own lawful word p = absurd p

-- a status without a location
error_stop : (status code : ℕ) (location : Option (List ℕ)) → status ≡ code → location ≡ None → IsOwnStop code None → IsOwnStop status location
error_stop status code location e l stop =
    let P : ℕ → Type 0 = λ s. IsOwnStop s location in
    let Q : Option (List ℕ) → Type 0 = λ o. IsOwnStop code o in
    subst P (sym e) (subst Q (sym l) stop)

none_some : (x : List ℕ) → None ≡ Some x → ⊥
none_some x e = cc

some_is : (a b : List ℕ) → Some a ≡ Some b → a ≡ b
some_is a b e = cc

stop_403 : IsOwnStop 403 None
stop_403 = record { known = refl; located = ((λ t. absurd (false≢true t)), (λ s. absurd (false≢true s))); word = λ x e. absurd (none_some x e) }

stop_413 : IsOwnStop 413 None
stop_413 = record { known = refl; located = ((λ t. absurd (false≢true t)), (λ s. absurd (false≢true s))); word = λ x e. absurd (none_some x e) }

redirects : (get permanent : Bool) (location : List ℕ) → is_one_word location ≡ true → IsOwnStop (cond get (cond permanent 301 302) (cond permanent 308 307)) (Some location)
redirects true true location word = record { known = refl; located = ((λ t. refl), (λ s. refl)); word = λ x e. ap is_one_word (sym (some_is location x e)) ∙ word }
redirects true false location word = record { known = refl; located = ((λ t. refl), (λ s. refl)); word = λ x e. ap is_one_word (sym (some_is location x e)) ∙ word }
redirects false true location word = record { known = refl; located = ((λ t. refl), (λ s. refl)); word = λ x e. ap is_one_word (sym (some_is location x e)) ∙ word }
redirects false false location word = record { known = refl; located = ((λ t. refl), (λ s. refl)); word = λ x e. ap is_one_word (sym (some_is location x e)) ∙ word }

redirect_stop : (o : Option (List ℕ)) (permanent : Bool) (q : Request) (status : ℕ) (location : Option (List ℕ)) → IsRedirected o permanent q status location → IsOwnStop status location
redirect_stop None permanent q status location r = absurd r
redirect_stop (Some target) permanent q status location r =
    let P : ℕ → Type 0 = λ s. IsOwnStop s location in
    let Q : Option (List ℕ) → Type 0 = λ o. IsOwnStop (redirect_status permanent q.method) o in
    subst P (sym r.0) (subst Q (sym r.1) (redirects (bytes_eq q.method (codes "GET")) permanent (location_text target) (location_word target)))

-- a request that it stops
stopped_safe : (def : MiddlewareDef) (q : Request) (peer : Ip) (status : ℕ) (location : Option (List ℕ)) → IsStopped def q peer status location → IsOwnStop status location
stopped_safe (AddPrefix prefix) q peer status location s = absurd s
stopped_safe (StripPrefix prefixes unsupported) q peer status location s = absurd s
stopped_safe (ReplacePath path) q peer status location s = absurd s
stopped_safe (ReplacePathRegex regex replacement) q peer status location s = absurd s
stopped_safe (Headers request response unsupported) q peer status location s = absurd s
stopped_safe (IpAllowList ranges unsupported) q peer status location s = error_stop status 403 location s.1 s.2 stop_403
stopped_safe (Chain names) q peer status location s = absurd s
stopped_safe (Buffering max_body unsupported) q peer status location s = error_stop status 413 location s.1 s.2 stop_413
stopped_safe (RedirectScheme scheme port permanent) q peer status location s = redirect_stop (by_scheme scheme port q) permanent q status location s
stopped_safe (RedirectRegex regex replacement permanent) q peer status location s = redirect_stop (by_regex regex replacement q) permanent q status location s
stopped_safe Unsupported q peer status location s = absurd s

stops_safe : (n : ℕ) (def : MiddlewareDef) (q r : Request) (peer : Ip) (flow : Flow) → StopsAt n def r peer flow → IsSafe q flow
stops_safe n def q r peer (Pass q' limit) s = absurd s
stops_safe n def q r peer (Stop place status location) (here, stops) = stopped_safe def r peer status location stops

-- the requests q and r: what came, and what the middlewares before these made of it
through_safe : (defs : List MiddlewareDef) (n : ℕ) (limit : Option ℕ) (q r : Request) (peer : Ip) (flow : Flow) → list_all has_lawful_lines defs ≡ true → IsSafeChange q r
    → ThroughFrom n limit defs r peer flow → IsSafe q flow
through_safe [] n limit q r peer flow lawful safe t = let P : Flow → Type 0 = λ f. IsSafe q f in subst P (sym t) safe
through_safe (def ∷ defs) n limit q r peer flow lawful safe (inl s) = stops_safe n def q r peer flow s
through_safe (def ∷ defs) n limit q r peer flow lawful safe (inr p) =
    let parts = and_parts (has_lawful_lines def) (list_all has_lawful_lines defs) lawful in
    through_safe defs (n + 1) (least limit p.own) q p.next peer flow parts.1
    (then_safe q r p.next safe (passed_safe def r p.next peer p.own parts.0 safe.path p.passed)) p.rest

lawful_by : (o : Option Stage) → has_lawful_lines (def_of o) ≡ true
lawful_by None = refl
lawful_by (Some stage) = stage_lawful stage

lawful_at : (parts : List Part) (places : List ℕ) → list_all has_lawful_lines (defs_at parts places) ≡ true
lawful_at parts [] = refl
lawful_at parts (place ∷ places) = and_from (has_lawful_lines (def_at parts place)) (list_all has_lawful_lines (defs_at parts places)) (lawful_by (built_at parts place)) (lawful_at parts places)

pub flow_safe : (parts : List Part) (places : List ℕ) (q : Request) (peer : Ip) (flow : Flow) → Through (defs_at parts places) q peer flow → IsTrue (is_one_word q.path) → IsSafe q flow
flow_safe parts places q peer flow t word = through_safe (defs_at parts places) 0 None q q peer flow (lawful_at parts places) (unchanged q word) t

same_reply : (a : Reply) → IsSafeReply a a
same_reply a = record { lines = same_lines a.lines; status = refl; reason = refl; framing = refl }

then_reply : (a b c : Reply) → IsSafeReply a b → IsSafeReply b c → IsSafeReply a c
then_reply a b c first second = record {
  lines = then_lines a.lines b.lines c.lines first.lines second.lines;
  status = second.status ∙ first.status;
  reason = second.reason ∙ first.reason;
  framing = second.framing ∙ first.framing;
}

as_it_was : (a b : Reply) → b ≡ a → IsSafeReply a b
as_it_was a b e = let P : Reply → Type 0 = λ r. IsSafeReply a r in subst P (sym e) (same_reply a)

lined_reply : (a : Reply) (changes : List Field) → list_all is_settable changes ≡ true → IsSafeReply a (record a { lines = with_lines changes a.lines })
lined_reply a changes all = record { lines = lines_safe changes a.lines all; status = refl; reason = refl; framing = refl }

replied_safe : (def : MiddlewareDef) (a b : Reply) → has_lawful_lines def ≡ true → IsReplied def a b → IsSafeReply a b
replied_safe (AddPrefix prefix) a b lawful r = as_it_was a b r
replied_safe (StripPrefix prefixes unsupported) a b lawful r = as_it_was a b r
replied_safe (ReplacePath path) a b lawful r = as_it_was a b r
replied_safe (ReplacePathRegex regex replacement) a b lawful r = as_it_was a b r
replied_safe (Headers request response unsupported) a b lawful r =
    let P : Reply → Type 0 = λ x. IsSafeReply a x in
    subst P (sym r) (lined_reply a response (and_parts (list_all is_settable request) (list_all is_settable response) lawful).1)
replied_safe (IpAllowList ranges unsupported) a b lawful r = as_it_was a b r
replied_safe (Chain names) a b lawful r = absurd r
replied_safe (Buffering max_body unsupported) a b lawful r = as_it_was a b r
replied_safe (RedirectScheme scheme port permanent) a b lawful r = as_it_was a b r
replied_safe (RedirectRegex regex replacement permanent) a b lawful r = as_it_was a b r
replied_safe Unsupported a b lawful r = absurd r

back_safe : (defs : List MiddlewareDef) (a b : Reply) → list_all has_lawful_lines defs ≡ true → BackThrough defs a b → IsSafeReply a b
back_safe [] a b lawful t = as_it_was a b t
back_safe (def ∷ defs) a b lawful (between, before, last) =
    let parts = and_parts (has_lawful_lines def) (list_all has_lawful_lines defs) lawful in
    then_reply a between b (back_safe defs a between parts.1 before) (replied_safe def between b parts.0 last)

pub reply_safe : (parts : List Part) (places : List ℕ) (a b : Reply) → BackThrough (defs_at parts places) a b → IsSafeReply a b
reply_safe parts places a b t = back_safe (defs_at parts places) a b (lawful_at parts places) t
