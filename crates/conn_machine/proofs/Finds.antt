-- What a scan finds is a request, or one that is refused.
use Rattle.std.proofs.Common.{◌≡◌, ◌⊎◌, inl, inr, ℕ, ◌+◌, ◌<◌, ◌≤◌, List, [], ◌++◌, length, map, take, drop, Option, Some, None, true, Result, Ok, Err, refl, sym, ◌∙◌, ap, subst, arith}
use Rattle.std.specs.Prelude.{IfOk, IfSome}
use Rattle.std.specs.declared.alloc.AllocError.{AllocError}
use Rattle.std.proofs.lemmas.List.{append-nil, length-append, length-take}
use Rattle.std.proofs.Math.Seq.{take-append_seam, take-length}
use Rattle.httparse.specs.Grammar.{RequestHead, NeverHasRequest, print_request}
use Rattle.httparse.specs.Spans.{span_bytes, name_and_value}
use Rattle.httparse.proofs.GrammarLemmas.{request_unique}
use Rattle.httparse.specs.declared.spans.HeaderSpan.{HeaderSpan}
use Rattle.ip_net.specs.declared.ip.Ip.{Ip}
use Rattle.head_view.specs.Lines.{lines_at, line_feeds}
use Rattle.head_view.specs.Scans.{AreHeadSpans, IsHeadAt, HasHead, FindsHead}
use Rattle.head_view.specs.Views.{view_lines}
use Rattle.head_view.specs.declared.views.RequestView.{RequestView}
use Rattle.head_view.specs.declared.scan.Scan.TheVariants.{Whole}
use Rattle.head_view.specs.declared.scan.HeadSpans.{HeadSpans}
use Rattle.http_wire.specs.Requests.{TakesRequest, IsHeadFault}
use Rattle.http_wire.specs.Targets.{host_of_rules}
use Rattle.http_wire.specs.declared.message.Request.{Request as HttpRequest}
use Rattle.http_wire.specs.declared.requests.HeadFault.{HeadFault}
use Rattle.http_wire.specs.declared.requests.HeadFault.TheVariants as fault
use Rattle.http_wire.specs.declared.requests.RequestRefused.{RequestRefused}
use Rattle.http_wire.specs.declared.requests.RequestRefused.TheVariants as refused
use Rattle.link_world.specs.declared.note.Cause.TheVariants as causes
use Rattle.link_world.specs.declared.note.HeadName.TheVariants as name
use Rattle.conversation.specs.Asks.{asks, faulty, unserved, broken, large, IsHead, IsServed, IsItem, Makes, fields_of, name_of, judged, query_bytes}
use Rattle.conversation.specs.Plans.{IsWinner}
use Rattle.rule_eval.specs.Truth.{Asked as Judged, asked_of}
use Rattle.router_table.specs.Winner.{ServesAs, is_enabled_state}
use Rattle.router_table.specs.declared.row.RouterState.{RouterState}
use Rattle.router_table.specs.declared.row.RouterState.TheVariants.{Enabled, Disabled}
use Rattle.generation.specs.Meaning.{plan_of, IsEnabledAt}
use Rattle.generation.specs.declared.generation.Generation.{Generation}
use Rattle.conn_machine.specs.Parts.{Fits, IsFound, FindsRow}
use Rattle.conn_machine.specs.declared.parts.Asked.{Asked}
use Rattle.conn_machine.specs.declared.parts.Asked.TheVariants.{Request, Refused}
use Rattle.conn_machine.specs.declared.heads.Found.TheVariants as found

-- the spans' bytes are a head
is_head : (buf : List ℕ) (room : List HeaderSpan) (s : HeadSpans) (h : RequestHead) → IsHeadAt buf room s h → length h.fields ≤ 100 → length buf ≤ 16384
    → IsHead (take s.len buf) h
is_head buf room s h at few short = record {
  reads = (at.reads.0, front ∙ sym (append-nil (print_request h)));
  short = grind (arith, length-take s.len buf);
  few = few;
}
  where
    front : take s.len buf ≡ print_request h
    front = ap (λ (n : ℕ). take n buf) at.len ∙ ap (λ (l : List ℕ). take (length (print_request h)) l) at.reads.1 ∙ take-append_seam (print_request h) (drop s.len buf)

within : (buf : List ℕ) (room : List HeaderSpan) (s : HeadSpans) (h : RequestHead) → IsHeadAt buf room s h → s.len ≤ length buf
within buf room s h at =
    let e : length buf ≡ length (print_request h ++ drop s.len buf) = ap (length {A = ℕ}) at.reads.1 in
    let l : length (print_request h ++ drop s.len buf) ≡ length (print_request h) + length (drop s.len buf) = length-append (print_request h) (drop s.len buf) in
    let n : s.len ≡ length (print_request h) = at.len in
    omega arith

takes_at : (buf : List ℕ) (room : List HeaderSpan) (s : HeadSpans) (h : RequestHead) (peer : Ip) (r : Result HttpRequest RequestRefused) → IsHeadAt buf room s h
    → TakesRequest (span_bytes buf s.method) (span_bytes buf s.target) s.version (lines_at buf (take s.lines room)) peer r
    → TakesRequest h.method h.target h.minor (fields_of h) peer r
takes_at buf room s h peer r at t = rw (← at.method, ← at.path, ← at.version, ← at.fields) t

-- a request
pub found_served : (buf : List ℕ) (room : List HeaderSpan) (s : HeadSpans) (peer : Ip) (r : HttpRequest) (asked : Asked)
    → AreHeadSpans 100 buf room s → length buf ≤ 16384
    → TakesRequest (span_bytes buf s.method) (span_bytes buf s.target) s.version (lines_at buf (take s.lines room)) peer (Ok r)
    → (IsServed r × (asked ≡ Request r)) ⊎ ((¬ (IsServed r)) × (asked ≡ Refused (causes.Head name.BadCoding)))
    → IsFound peer buf (found.Head asked s.len)
found_served buf room s peer r asked spans short t which =
    let h : RequestHead = spans.0 in
    let item : IsHead (take s.len buf) h = is_head buf room s h spans.1 spans.2 short in
    let makes : Makes peer h r = takes_at buf room s h peer (Ok r) spans.1 t in
    elim which [
      | inl yes_ ↦ (within buf room s h spans.1, asks r, (h, item, makes, yes_.0), subst (λ (a : Asked). Fits a (asks r)) (sym yes_.1) refl)
      | inr no_ ↦ (within buf room s h spans.1, unserved r, (h, item, makes, no_.0), subst (λ (a : Asked). Fits a (unserved r)) (sym no_.1) refl)
    ]

fits_any : (f : HeadFault) → Fits (Refused (causes.Head (name_of f))) (faulty f)
fits_any fault.BadHead = refl
fits_any fault.NoHost = refl
fits_any fault.TwoHosts = refl
fits_any fault.BadLength = refl
fits_any fault.BothLengths = refl
fits_any fault.BadCoding = refl
fits_any fault.BadTarget = refl
fits_any fault.BadEscape = refl

-- a head with a fault
pub found_faulty : (buf : List ℕ) (room : List HeaderSpan) (s : HeadSpans) (peer : Ip) (e : RequestRefused) (f : HeadFault) (asked : Asked)
    → AreHeadSpans 100 buf room s → length buf ≤ 16384
    → TakesRequest (span_bytes buf s.method) (span_bytes buf s.target) s.version (lines_at buf (take s.lines room)) peer (Err e)
    → e ≡ refused.Head f → asked ≡ Refused (causes.Head (name_of f))
    → IsFound peer buf (found.Head asked s.len)
found_faulty buf room s peer e f asked spans short t e_is is =
    let h : RequestHead = spans.0 in
    let item : IsHead (take s.len buf) h = is_head buf room s h spans.1 spans.2 short in
    let fault_is : IsHeadFault h.method h.target h.minor (fields_of h) f = takes_at buf room s h peer (Err (refused.Head f)) spans.1 (subst (λ (x : RequestRefused). TakesRequest (span_bytes buf s.method) (span_bytes buf s.target) s.version (lines_at buf (take s.lines room)) peer (Err x)) e_is t) in
    (within buf room s h spans.1, faulty f, (h, item, fault_is), subst (λ (a : Asked). Fits a (faulty f)) (sym is) (fits_any f))

-- all of the bytes are refused
whole : (buf : List ℕ) (P : List ℕ → Type 0) → P buf → P (take (length buf) buf)
whole buf P h = subst P (sym (take-length buf)) h

pub found_bad : (buf : List ℕ) (peer : Ip) (asked : Asked) (n : ℕ) → n ≡ length buf → asked ≡ Refused (causes.Head name.BadHead) → NeverHasRequest buf
    → IsFound peer buf (found.Head asked n)
found_bad buf peer asked n all is never =
    subst (λ (m : ℕ). IsFound peer buf (found.Head asked m)) (sym all)
    (omega arith, broken, whole buf (λ (l : List ℕ). IsItem peer l broken) never, subst (λ (a : Asked). Fits a broken) (sym is) refl)

pub found_large : (buf : List ℕ) (peer : Ip) (n : ℕ) → n ≡ length buf → ¬ (HasHead 100 buf) → length buf ≤ 16384 → (16384 ≤ length buf) ⊎ (100 < line_feeds buf)
    → IsFound peer buf (found.Head (Refused causes.HeadTooLarge) n)
found_large buf peer n all none short why =
    subst (λ (m : ℕ). IsFound peer buf (found.Head (Refused causes.HeadTooLarge) m)) (sym all)
    (omega arith, large, whole buf (λ (l : List ℕ). IsItem peer l large) (none, short, full), refl)
  where
    full : (length buf ≡ 16384) ⊎ (100 < line_feeds buf)
    full = elim why [ inl long ↦ inl (omega arith) | inr many ↦ inr many ]

-- a view of the head that a scan found, with what was made of its target, shows what rules judge of the request
pub judged_as : (item : List ℕ) (room : List HeaderSpan) (s : HeadSpans) (r : HttpRequest) (v : RequestView) → FindsHead 100 item room (Whole s)
    → ((h : RequestHead) → IsHeadAt item room s h → (v.method.now ≡ h.method) × (view_lines v ≡ map name_and_value h.fields))
    → v.host.now ≡ host_of_rules r.host → v.path.now ≡ r.path → v.query.now ≡ query_bytes r.query
    → (h : RequestHead) → IsHead item h → judged h r ≡ asked_of v
judged_as item room s r v finds shows host path query h head =
    let at : IsHeadAt item room s h = finds h [] head.reads head.few in
    let shown : (v.method.now ≡ h.method) × (view_lines v ≡ map name_and_value h.fields) = shows h at in
    rw (← shown.0, ← shown.1, ← host, ← path, ← query) refl

-- so the row that is found by the view is the one by whatever head the bytes are
pub found_row : (g : Generation) (item entry : List ℕ) (peer : Ip) (r : HttpRequest) (v : RequestView) (row : Result (Option ℕ) AllocError)
    → ((h : RequestHead) → IsHead item h → judged h r ≡ asked_of v)
    → IfOk row (IsWinner (plan_of g) entry (asked_of v) peer)
    → IfOk row (FindsRow (plan_of g) item entry peer r)
found_row g item entry peer r v (Ok row) same is = λ h head. subst (λ (a : Judged). IsWinner (plan_of g) entry a peer row) (sym (same h head)) is
found_row g item entry peer r v (Err e) same is = tt

-- the same at equal parts
pub found_at : (g g' : Generation) (item entry : List ℕ) (peer : Ip) (r r' : HttpRequest) (won won' : Option ℕ) → g ≡ g' → r ≡ r' → won ≡ won'
    → FindsRow (plan_of g) item entry peer r won → FindsRow (plan_of g') item entry peer r' won'
found_at g g' item entry peer r r' won won' same request is f = λ h head.
    subst (λ (x : HttpRequest). IsWinner (plan_of g') entry (judged h x) peer won') request
    (subst (λ (o : Option ℕ). IsWinner (plan_of g') entry (judged h r) peer o) is (subst (λ (x : Generation). IsWinner (plan_of x) entry (judged h r) peer won) same (f h head)))

-- a head of fewer lines is one of at most so many
pub spans_most : {few most : ℕ} {buf : List ℕ} {room : List HeaderSpan} {s : HeadSpans} → few ≤ most → AreHeadSpans few buf room s → AreHeadSpans most buf room s
spans_most {few} {most} le h = let n : length h.0.fields ≤ few = h.2 in let m : length h.0.fields ≤ most = omega arith in (h.0, h.1, m)

-- bytes begin with at most one head, so the one that was found is each
pub finds_only : {buf : List ℕ} {room : List HeaderSpan} {s : HeadSpans} → AreHeadSpans 100 buf room s → FindsHead 100 buf room (Whole s)
finds_only {buf} {room} {s} found h rest reads few =
    subst (λ (k : RequestHead). IsHeadAt buf room s k) (sym (request_unique buf h found.0 rest (drop s.len buf) reads found.1.reads).0) found.1

takes_enabled : (entry : List ℕ) (asked : Judged) (peer : Ip) (state : RouterState) → ServesAs entry asked peer state → is_enabled_state state ≡ true
takes_enabled entry asked peer (Enabled service chain by) serves = refl
takes_enabled entry asked peer (Disabled f) serves = absurd serves

-- a winner is enabled
pub found_enabled : (g : Generation) (entry : List ℕ) (asked : Judged) (peer : Ip) (row : Result (Option ℕ) AllocError) → IfOk row (IsWinner (plan_of g) entry asked peer)
    → IfOk row (λ (won : Option ℕ). IfSome won (IsEnabledAt (plan_of g).rows))
found_enabled g entry asked peer (Ok (Some n)) is = (is.row, is.at, takes_enabled entry asked peer is.row.state is.serves)
found_enabled g entry asked peer (Ok None) is = tt
found_enabled g entry asked peer (Err e) is = tt
