use Rattle.command_base.proofs.PddlDecides.{as_read}
use Rattle.mbp_top.proofs.RunLaws.{comes_to_plan, comes_to_verdict, no_plan_is_written, plan_is_written}
use Rattle.mbp_top.proofs.top.run.Goals as goal

pub returns-clause-plan_solves : goal.returns-clause-plan_solves
returns-clause-plan_solves g c asked says zero =
    let w = plan_is_written g.S.Shelf.held g.S.Shelf.faults g.S.Shelf.fetched _ c.carry_out.ensures asked says zero in
    (w.domain, w.problem, w.text, as_read _ _ _ _ _ w.both, w.good, w.written)

pub returns-clause-plan_shortest : goal.returns-clause-plan_shortest
returns-clause-plan_shortest g c asked says zero =
    let w = plan_is_written g.S.Shelf.held g.S.Shelf.faults g.S.Shelf.fetched _ c.carry_out.ensures asked says zero in
    (w.domain, w.problem, w.text, as_read _ _ _ _ _ w.both, w.short, w.written)

pub returns-clause-plan_printed : goal.returns-clause-plan_printed
returns-clause-plan_printed g c asked says zero =
    let w = plan_is_written g.S.Shelf.held g.S.Shelf.faults g.S.Shelf.fetched _ c.carry_out.ensures asked says zero in
    (w.domain, w.problem, w.text, as_read _ _ _ _ _ w.both, w.printed, w.written)

pub returns-clause-no_plan : goal.returns-clause-no_plan
returns-clause-no_plan g c asked says one =
    let w = no_plan_is_written g.S.Shelf.held g.S.Shelf.faults g.S.Shelf.fetched _ c.carry_out.ensures asked says one in
    (w.domain, w.problem, w.text, as_read _ _ _ _ _ w.both, w.none, w.is_text, w.written)

pub returns-clause-plan_complete : goal.returns-clause-plan_complete
returns-clause-plan_complete g c =
    comes_to_plan g.S.Shelf.held g.S.Shelf.faults g.S.Shelf.fetched _ c.carry_out.ensures c.texts_are_read_one_way.ensures

pub returns-clause-check_exact : goal.returns-clause-check_exact
returns-clause-check_exact g c =
    comes_to_verdict g.S.Shelf.held g.S.Shelf.faults g.S.Shelf.fetched _ c.carry_out.ensures c.texts_are_read_one_way.ensures c.yes_is_solution.ensures
