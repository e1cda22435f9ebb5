use Rattle.std.proofs.Common.{ℕ, List, subst, sym, refl}
use Rattle.std.proofs.lemmas.Result.{err_from_is_err_and}
use Rattle.std.proofs.lemmas.List.Elements.{All-nil}
use Rattle.plan_rules.specs.Plans.{IsContextRuleOf}
use Rattle.plan_rules.specs.declared.rules.AutoRule.{AutoRule}
use Rattle.task_core.specs.Tasks.{fluent_count}
use Rattle.slot_board.proofs.Endings.{passed_on}
use Rattle.fair_plan.specs.Boards.{actions_of}
use Rattle.fair_plan.specs.Goals.{contexts_of}
use Rattle.fair_plan.specs.Rounds.{AreRules}
use Rattle.fair_plan.proofs.Boards.{actions_same, done}
use Rattle.fair_plan.proofs.PlanSteps.{contexts_fit}
use Rattle.fair_plan.proofs.plan.write_plan.Goals as goal

pub take_goal-requires-clause-ready : goal.take_goal-requires-clause-ready
take_goal-requires-clause-ready c = c.requires.ready

pub returns-in_err-take_goal : goal.returns-in_err-take_goal
returns-in_err-take_goal c origin there count =
    passed_on origin.start c.take_goal.new.enc c.take_goal.new.board.slots.items _ _ c.take_goal.result c.from_residual.result _ c.in_err-take_goal.was (err_from_is_err_and c.from_residual.result c.from_residual.ensures.1) (c.take_goal.ensures origin there)

pub list_goal-requires-clause-ready : goal.list_goal-requires-clause-ready
list_goal-requires-clause-ready c =
    let r = c.requires.ready in
    let d0 = done r.0 (c.take_goal.new.enc, c.take_goal.new.board.slots.items) _ c.take_goal.result _ c.in_ok-take_goal.was (c.take_goal.ensures r.0 r.1) in
    (r.0, d0.0, r.2)

pub list_goal-requires-clause-actions : goal.list_goal-requires-clause-actions
list_goal-requires-clause-actions c =
    let r = c.requires.ready in
    let d0 = done r.0 (c.take_goal.new.enc, c.take_goal.new.board.slots.items) _ c.take_goal.result _ c.in_ok-take_goal.was (c.take_goal.ensures r.0 r.1) in
    actions_same r.0 (c.args.enc.now, c.args.board.now.slots.items) (c.take_goal.new.enc, c.take_goal.new.board.slots.items) r.1 d0.0 c.args.sizes.actions c.requires.actions

pub returns-in_err-list_goal : goal.returns-in_err-list_goal
returns-in_err-list_goal c origin there count =
    let d0 = done origin (c.take_goal.new.enc, c.take_goal.new.board.slots.items) _ c.take_goal.result _ c.in_ok-take_goal.was (c.take_goal.ensures origin there) in
    passed_on origin.start c.list_goal.new.enc c.list_goal.new.board.slots.items _ _ c.list_goal.result c.from_residual-in_err-list_goal.result _ c.in_err-list_goal.was (err_from_is_err_and c.from_residual-in_err-list_goal.result c.from_residual-in_err-list_goal.ensures.1) (c.list_goal.ensures origin d0.0)

pub returns : goal.returns
returns c origin there count =
    let d0 = done origin (c.take_goal.new.enc, c.take_goal.new.board.slots.items) _ c.take_goal.result _ c.in_ok-take_goal.was (c.take_goal.ensures origin there) in
    let d1 = done origin (c.list_goal.new.enc, c.list_goal.new.board.slots.items) _ c.list_goal.result _ c.in_ok-list_goal.was (c.list_goal.ensures origin d0.0) in
    let none : AreRules origin (contexts_of c.args.goal.now) c.new-rules.result.items = subst (λ (rules : List AutoRule). AreRules origin (contexts_of c.args.goal.now) rules) (sym c.new-rules.ensures.items) (All-nil (IsContextRuleOf (fluent_count origin.start.task) (actions_of origin) (contexts_of c.args.goal.now))) in
    let each = d1.1 (contexts_of c.args.goal.now) refl none in (
      d1.0,
      record {
        number = (contexts_fit c.args.enc.now.sets.vars c.args.goal.now c.contexts_of.result c.requires.goal c.contexts_of.ensures);
        each = subst (λ (n : ℕ). AreRules origin n c.list_goal.new.rules.items) (sym c.contexts_of.ensures) each;
      },
    )
