use Rattle.std.proofs.Common.{map, refl, sym, subst}
use Rattle.std.specs.Prelude.{Some}
use Rattle.link_world.specs.Lately.{Lately}
use Rattle.link_world.specs.Seen.{Seen}
use Rattle.desk.specs.Issues.{published_plan, published_in}
use Rattle.desk.specs.Kept.{desk_of, newest_plan}
use Rattle.desk.specs.declared.one.OneDesk.{OneDesk}
use Rattle.serve_cmd.specs.Ran.{IsMoment, Served}
use Rattle.serve_cmd.proofs.Ends.{end_by, up_to_last, served_by}
use Rattle.serve_cmd.proofs.serving.run_first.Goals as goal

pub returns-clause-served : goal.returns-clause-served
returns-clause-served g c =
    let is_moment : Seen → Lately → Type 0 = IsMoment g.W.World.seen g.W.World.lately in
    let d : OneDesk = c.args.desk.desk in
    let e : OneDesk = c.run_worker-end.new.shared.desk in
    let before : Seen = g.W.World.seen c.args.world.now in
    let now : Seen = g.W.World.seen c.run_worker-end.new.world in
    let worker = c.in_ok-worker.worker in
    let same = c.into_desk.ensures.all (desk_of d).generations (newest_plan d) c.run_worker-end.ensures.grew (map published_plan (published_in d.timeline.earlier.items), refl) c.args.desk.last in
    let u = c.run_worker-end.ensures.until in
    let h : OneDesk = u.1.desk in
    let stayed = c.into_desk.ensures.all (desk_of h).generations (newest_plan h) u.4 (map published_plan (published_in h.timeline.earlier.items), refl) u.1.last in
    subst (λ (x : OneDesk). Served is_moment (desk_of d).generations g.row.LAST before now (Some (desk_of x)) c.run_worker-end.result) (sym c.into_desk.ensures.desk)
    (served_by is_moment (desk_of d).generations g.row.LAST worker.conns worker.links before now (desk_of e) c.run_worker-end.result same c.into_desk.ensures.pinned c.in_ok-worker.ensures.links c.in_ok-worker.ensures.most c.in_ok-worker.ensures.empty
    c.run_worker-end.ensures.served c.run_worker-end.ensures.rounds
    (up_to_last is_moment (desk_of d).generations g.row.LAST worker.conns before now (desk_of d) (desk_of e) c.run_worker-end.result refl c.requires same
    (g.W.World.seen u.0) (g.W.World.lately u.0) (u.0, refl, refl) h u.2 stayed u.1.pinned u.3 u.5 u.6 (u.7 before (desk_of d) (c.in_ok-worker.ensures.accounts before (desk_of d))))
    c.run_worker-end.ensures.met c.run_worker-end.ensures.noted
    c.run_worker-end.ensures.closed c.run_worker-end.ensures.owned c.run_worker-end.ensures.distinct
    (λ why. let s = c.run_worker-end.ensures.settled why in (g.W.World.seen s.0, g.W.World.lately s.0, (s.0, refl, refl), (s.1, s.2, s.3, s.4)))
    (end_by before now c.run_worker-end.result c.run_worker-end.ensures.stopped c.run_worker-end.ensures.fault)
    (λ not_memory. (
      c.run_worker-end.new.worker.conns,
      c.run_worker-end.ensures.ended,
      record {
        from = desk_of d;
        generations = refl;
        unused = c.requires;
        accounts = c.run_worker-end.ensures.accounts before (desk_of d) not_memory (c.in_ok-worker.ensures.accounts before (desk_of d));
      },
    )))
