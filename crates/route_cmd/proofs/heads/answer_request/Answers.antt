use Rattle.std.proofs.Common.{◌∙◌, List, take, codes, refl, sym, subst, arith}
use Rattle.std.proofs.lemmas.Bool.{false≢true}
use Rattle.std.proofs.lemmas.Result.{IfOk-weaker}
use Rattle.httparse.specs.Spans.{span_bytes}
use Rattle.head_view.specs.Lines.{Line, lines_at, values_of}
use Rattle.rule_eval.specs.Truth.{Asked, asked_of}
use Rattle.route_cmd.specs.Output.{Routed, later, trailing, routed}
use Rattle.route_cmd.specs.Parts.{IsLaterBy}
use Rattle.route_cmd.proofs.Going.{winner_enabled}
use Rattle.route_cmd.proofs.Parted.{faultless, later_is, not_later, taken_is, asked_is, some_behind, none_behind, parts_of}
use Rattle.route_cmd.proofs.heads.answer_request.Goals as goal

pub returns-then-is_later-clause-told : goal.returns-then-is_later-clause-told
returns-then-is_later-clause-told c =
    let s = c.args.spans.now in
    let buf = c.args.input.now in
    let room = c.args.room.now in
    let q = c.args.request in
    let fs = lines_at buf (take s.lines room) in
    let P : List Line → Type 0 = λ x. IsLaterBy q.framing (values_of (codes "Connection") x) q.version q.method in
    let by : P fs = subst P c.view_of-view.ensures.lines (c.if-is_later.ensures.0 refl) in
    IfOk-weaker c.make_answer.result _ _ (λ a e h at.
    later (faultless h (span_bytes buf s.method) (span_bytes buf s.target) s.version fs (parts_of buf room s h at) c.requires.sound c.requires.escapes)
    (later_is h (span_bytes buf s.method) (span_bytes buf s.target) s.version fs c.args.peer q (parts_of buf room s h at) c.requires.request by) e.0 e.1) c.make_answer.ensures

pub returns-then-spans-input-clause-told : goal.returns-then-spans-input-clause-told
returns-then-spans-input-clause-told c =
    let s = c.args.spans.now in
    let buf = c.args.input.now in
    let room = c.args.room.now in
    let q = c.args.request in
    let fs = lines_at buf (take s.lines room) in
    let P : List Line → Type 0 = λ x. IsLaterBy q.framing (values_of (codes "Connection") x) q.version q.method in
    let none : ¬ (P fs) = λ l. false≢true (c.if-is_later.ensures.1 (subst P (sym c.view_of-view.ensures.lines) l)) in
    IfOk-weaker c.make_answer-then-spans-input.result _ _ (λ a e h at.
    trailing (faultless h (span_bytes buf s.method) (span_bytes buf s.target) s.version fs (parts_of buf room s h at) c.requires.sound c.requires.escapes)
    (not_later h (span_bytes buf s.method) (span_bytes buf s.target) s.version fs c.args.peer q (parts_of buf room s h at) c.requires.request none)
    (some_behind s.len buf c.if-spans-input.true) e.0 e.1) c.make_answer-then-spans-input.ensures

pub route_line-requires-clause-enabled : goal.route_line-requires-clause-enabled
route_line-requires-clause-enabled c =
    winner_enabled c.args.config.now.table.rows c.args.entry.now (asked_of c.view_of-view.result) c.args.peer c.in_ok-winner.winner c.in_ok-winner.ensures.winner

pub returns-clause-told : goal.returns-clause-told
returns-clause-told c = λ h at.
    let s = c.args.spans.now in
    let buf = c.args.input.now in
    let room = c.args.room.now in
    let q = c.args.request in
    let config = c.args.config.now in
    let v = c.view_of-view.result in
    let fs = lines_at buf (take s.lines room) in
    let P : List Line → Type 0 = λ x. IsLaterBy q.framing (values_of (codes "Connection") x) q.version q.method in
    let none : ¬ (P fs) = λ l. false≢true (c.if-is_later.ensures.1 (subst P (sym c.view_of-view.ensures.lines) l)) in
    let R : Asked → Type 0 = λ asked. Routed config.merged config.table.rows c.args.entry.now asked q c.args.peer c.in_ok-text.text.items in
    routed (faultless h (span_bytes buf s.method) (span_bytes buf s.target) s.version fs (parts_of buf room s h at) c.requires.sound c.requires.escapes)
    (not_later h (span_bytes buf s.method) (span_bytes buf s.target) s.version fs c.args.peer q (parts_of buf room s h at) c.requires.request none)
    (none_behind s.len buf c.if-spans-input.false)
    q
    (taken_is h (span_bytes buf s.method) (span_bytes buf s.target) s.version fs c.args.peer q (parts_of buf room s h at) c.requires.request)
    (subst R (c.view_of-view.ensures.asked ∙ asked_is h (span_bytes buf s.method) (span_bytes buf s.target) s.version fs c.args.peer q (parts_of buf room s h at) c.requires.request)
    (c.in_ok-text.ensures c.args.entry.now (asked_of v) c.in_ok-winner.ensures.winner))
    refl

pub returns-then-spans-input-clause-apart : goal.returns-then-spans-input-clause-apart
returns-then-spans-input-clause-apart c =
    IfOk-weaker c.make_answer-then-spans-input.result _ _ (λ a h. (λ e. omega (arith, h.0, e), λ e. omega (arith, h.0, e))) c.make_answer-then-spans-input.ensures
