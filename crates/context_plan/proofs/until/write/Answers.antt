use Rattle.plan_theory.specs.UntilChains.{until_contexts}
use Rattle.plan_theory.specs.UntilPrinted.{until_rules}
use Rattle.context_plan.proofs.PlanSteps.{plan_is}
use Rattle.context_plan.specs.Scenes.{board_of, sys_of}
use Rattle.plan_rules.specs.Rules.{context_rule_of}
use Rattle.slot_board.proofs.BoardSlots.{went, passed}
use Rattle.std.proofs.Common.{◌++◌, ◌+◌, ◌≡◌, arith, ap, ◌∙◌, map}
use Rattle.std.proofs.lemmas.Result.{err_from_is_err_and}
use Rattle.context_plan.proofs.until.write.Goals as goal

pub list_all-requires-clause-ready : goal.list_all-requires-clause-ready
list_all-requires-clause-ready c =
    let start = c.requires.ready.0 in
    let chain = c.requires.ready.1 in
    let n = c.requires.ready.2 in
    let h = c.requires.ready.3 in
    (start, chain, n, h)

pub returns-in_err-list_all-clause-left : goal.returns-in_err-list_all-clause-left
returns-in_err-list_all-clause-left c start chain n h =
    let p = err_from_is_err_and c.from_residual.result c.from_residual.ensures.1 in
    passed (board_of start) c.list_all.new.enc c.list_all.new.board.slots.items _ _ c.list_all.result c.from_residual.result _ c.in_err-list_all.was p (c.list_all.ensures start chain n h)

pub returns-clause-left : goal.returns-clause-left
returns-clause-left c start chain n h =
    let l = went (board_of start) c.list_all.new.enc c.list_all.new.board.slots.items _ c.list_all.result _ c.in_ok-list_all.was (c.list_all.ensures start chain n h) in
    l.table.takers.ready.at

pub returns-clause-plan : goal.returns-clause-plan
returns-clause-plan c start chain n h =
    let l = went (board_of start) c.list_all.new.enc c.list_all.new.board.slots.items _ c.list_all.result _ c.in_ok-list_all.was (c.list_all.ensures start chain n h) in
    plan_is start.task chain _ (omega (arith, h.stages, n, c.requires.few)) h.covered (let e : c.args.stages + 1 ≡ until_contexts chain = omega (arith, h.stages, n) in e)
    (l.listed ∙ ap (λ rules. map context_rule_of rules ++ until_rules (sys_of start) chain) c.new-rules.ensures.items)
