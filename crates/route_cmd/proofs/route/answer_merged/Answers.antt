use Rattle.std.proofs.Common.{◌∙◌, List, ℕ, ap, subst, sym}
use Rattle.std.specs.List.{list_all}
use Rattle.std.proofs.lemmas.Bool.{false≢true}
use Rattle.std.proofs.lemmas.Result.{IfOk-weaker}
use Rattle.dyn_config.specs.declared.merged.Entry.{Entry}
use Rattle.dyn_config.specs.declared.merged.Merged.{Merged}
use Rattle.dyn_config.specs.declared.service.ServiceDef.{ServiceDef}
use Rattle.runtime_config.specs.Runtime.{IsRuntime}
use Rattle.route_cmd.specs.Output.{InputOutput, later, running}
use Rattle.route_cmd.specs.Services.{HaveOneServer, is_of_one_server}
use Rattle.route_cmd.proofs.Stopped.{stops_form}
use Rattle.route_cmd.proofs.route.answer_merged.Goals as goal

pub returns-then-not-have_one_server-clause-told : goal.returns-then-not-have_one_server-clause-told
returns-then-not-have_one_server-clause-told g c =
    let told = c.if-not-have_one_server.ensures ∙ ap (λ (es : List (Entry ServiceDef)). list_all is_of_one_server es) c.as_slice.ensures in
    later (λ form. false≢true (told ∙ form)) c.in_ok-make_answer.ensures.0 c.in_ok-make_answer.ensures.1

pub answer_source-requires-clause-runtime : goal.answer_source-requires-clause-runtime
answer_source-requires-clause-runtime g c =
    let P : Merged → Type 0 = λ m. IsRuntime m c.in_ok-config.config in
    subst P (sym c.in_ok-config.ensures.built.merged_is) c.in_ok-config.ensures.built

pub answer_source-requires-clause-form : goal.answer_source-requires-clause-form
answer_source-requires-clause-form g c =
    let told = c.if-not-have_one_server.ensures ∙ ap (λ (es : List (Entry ServiceDef)). list_all is_of_one_server es) c.as_slice.ensures in
    subst HaveOneServer (sym c.in_ok-config.ensures.built.merged_is) (sym told)

pub returns-clause-told : goal.returns-clause-told
returns-clause-told g c =
    let told = c.if-not-have_one_server.ensures ∙ ap (λ (es : List (Entry ServiceDef)). list_all is_of_one_server es) c.as_slice.ensures in
    let r = c.in_ok-config.config in
    IfOk-weaker c.answer_source.result _ _ (λ a h.
    let P : Merged → Type 0 = λ m. InputOutput m r.table.rows c.args.entry.now c.args.peer (g.Q.Source.left c.args.input.now) a.status a.text.items in
    running r (sym told) c.in_ok-config.ensures.built c.in_ok-config.ensures.counted
    (subst P c.in_ok-config.ensures.built.merged_is h)) c.answer_source.ensures.told

pub returns-clause-stop : goal.returns-clause-stop
returns-clause-stop g c =
    let told = c.if-not-have_one_server.ensures ∙ ap (λ (es : List (Entry ServiceDef)). list_all is_of_one_server es) c.as_slice.ensures in
    stops_form c.answer_source.result c.args.merged _ (sym told) c.answer_source.ensures.stop
