-- The goal's states first, then step by step.
use Rattle.std.proofs.Common.{◌≡◌, ◌∙◌, ◌++◌, ◌+◌, [], ◌∷◌, arith, get_or, length, subst, sym, take}
use Rattle.std.proofs.lemmas.List.{take_all, take_more}
use Rattle.std.proofs.lemmas.Result.{err_from_is_err_and}
use Rattle.slot_board.proofs.BoardSlots.{goal_live, made_at, passed, same_actions, went}
use Rattle.reach_plan.proofs.PlaceFits.{goal_copy_fits, goal_fits, may_step}
use Rattle.reach_plan.specs.Searches.{HasProgress}
use Rattle.reach_plan.specs.Steps.{after_steps, at_goal, goal_layer, untaken}
use Rattle.slot_board.specs.declared.steps.Step.{Step}
use Rattle.slot_board.specs.declared.steps.Step.TheVariants.{Grow}
use Rattle.reach_plan.proofs.SearchSteps.{after_one_more, at_first, copied_next, step_passes}
use Rattle.reach_plan.proofs.retrace.retrace.Goals as goal

pub copy-requires-clause-working : goal.copy-requires-clause-working
copy-requires-clause-working c = let r = c.requires.ready in (r.0, r.1.at)

pub copy-requires-clause-live : goal.copy-requires-clause-live
copy-requires-clause-live c = let r = c.requires.ready in goal_live r.0 c.args.enc.now c.args.board.now.slots.items c.unwrap-goal.result r.1.at (sym c.goal.ensures ∙ c.unwrap-goal.ensures)

pub returns-in_err-copy : goal.returns-in_err-copy
returns-in_err-copy c start ready may =
    let p = err_from_is_err_and c.from_residual.result c.from_residual.ensures.1 in
    passed start c.copy.new.enc c.copy.new.self.slots.items _ _ c.copy.result c.from_residual.result _ c.in_err-copy.was p (c.copy.ensures start ready.at (goal_fits c.args.class start c.args.enc.now c.unwrap-goal.result c.args.takers may.wide (made_at start c.args.enc.now c.args.board.now.slots.items ready.at) (sym c.goal.ensures ∙ c.unwrap-goal.ensures)))

pub copy_of-requires-clause-working : goal.copy_of-requires-clause-working
copy_of-requires-clause-working c =
    let r = c.requires.ready in
    (r.0, (went r.0 c.copy.new.enc c.copy.new.self.slots.items _ c.copy.result _ c.in_ok-copy.was (c.copy.ensures r.0 r.1.at (goal_fits c.args.class r.0 c.args.enc.now c.unwrap-goal.result c.args.takers r.2.wide (made_at r.0 c.args.enc.now c.args.board.now.slots.items r.1.at) (sym c.goal.ensures ∙ c.unwrap-goal.ensures)))).at)

pub copy_of-requires-clause-place : goal.copy_of-requires-clause-place
copy_of-requires-clause-place c =
    let r = c.requires.ready in
    let now : length c.copy.new.self.slots.items ≡ r.0.places = (went r.0 c.copy.new.enc c.copy.new.self.slots.items _ c.copy.result _ c.in_ok-copy.was (c.copy.ensures r.0 r.1.at (goal_fits c.args.class r.0 c.args.enc.now c.unwrap-goal.result c.args.takers r.2.wide (made_at r.0 c.args.enc.now c.args.board.now.slots.items r.1.at) (sym c.goal.ensures ∙ c.unwrap-goal.ensures)))).at.long in
    let was : length c.args.board.now.slots.items ≡ r.0.places = r.1.at.long in
    omega (arith, c.requires.places)

pub copy_of-requires-clause-from : goal.copy_of-requires-clause-from
copy_of-requires-clause-from c =
    let r = c.requires.ready in
    let now : length c.copy.new.self.slots.items ≡ r.0.places = (went r.0 c.copy.new.enc c.copy.new.self.slots.items _ c.copy.result _ c.in_ok-copy.was (c.copy.ensures r.0 r.1.at (goal_fits c.args.class r.0 c.args.enc.now c.unwrap-goal.result c.args.takers r.2.wide (made_at r.0 c.args.enc.now c.args.board.now.slots.items r.1.at) (sym c.goal.ensures ∙ c.unwrap-goal.ensures)))).at.long in
    let was : length c.args.board.now.slots.items ≡ r.0.places = r.1.at.long in
    omega (arith, c.requires.places)

pub returns-in_err-copy_of : goal.returns-in_err-copy_of
returns-in_err-copy_of c start ready may =
    let p = err_from_is_err_and c.from_residual-in_err-copy_of.result c.from_residual-in_err-copy_of.ensures.1 in
    let m = went start c.copy.new.enc c.copy.new.self.slots.items _ c.copy.result _ c.in_ok-copy.was (c.copy.ensures start ready.at (goal_fits c.args.class start c.args.enc.now c.unwrap-goal.result c.args.takers may.wide (made_at start c.args.enc.now c.args.board.now.slots.items ready.at) (sym c.goal.ensures ∙ c.unwrap-goal.ensures))) in
    passed start c.copy_of.new.enc c.copy_of.new.self.slots.items _ _ c.copy_of.result c.from_residual-in_err-copy_of.result _ c.in_err-copy_of.was p (c.copy_of.ensures start m.at (goal_copy_fits c.args.class start c.args.enc.now c.copy.new.enc c.args.board.now.slots.items c.copy.new.self.slots.items c.unwrap-goal.result c.args.takers (c.args.takers + 1) may.wide (made_at start c.args.enc.now c.args.board.now.slots.items ready.at) (sym c.goal.ensures ∙ c.unwrap-goal.ensures) m))

pub loop-step-init : goal.loop-step-init
loop-step-init c start ready may =
    let m = went start c.copy.new.enc c.copy.new.self.slots.items _ c.copy.result _ c.in_ok-copy.was (c.copy.ensures start ready.at (goal_fits c.args.class start c.args.enc.now c.unwrap-goal.result c.args.takers may.wide (made_at start c.args.enc.now c.args.board.now.slots.items ready.at) (sym c.goal.ensures ∙ c.unwrap-goal.ensures))) in
    let w = went start c.copy_of.new.enc c.copy_of.new.self.slots.items _ c.copy_of.result _ c.in_ok-copy_of.was (c.copy_of.ensures start m.at (goal_copy_fits c.args.class start c.args.enc.now c.copy.new.enc c.args.board.now.slots.items c.copy.new.self.slots.items c.unwrap-goal.result c.args.takers (c.args.takers + 1) may.wide (made_at start c.args.enc.now c.args.board.now.slots.items ready.at) (sym c.goal.ensures ∙ c.unwrap-goal.ensures) m)) in
    let long : length c.copy.new.self.slots.items ≡ c.args.takers + 4 = let now : length c.copy.new.self.slots.items ≡ start.places = m.at.long in let was : length c.args.board.now.slots.items ≡ start.places = ready.at.long in omega (arith, c.requires.places) in
    copied_next start c.copy.new.enc c.copy_of.new.enc c.copy.new.self.slots.items c.copy_of.new.self.slots.items c.args.takers (goal_layer start.task) untaken long
    (at_first start c.args.enc.now c.copy.new.enc c.args.board.now.slots.items c.copy.new.self.slots.items c.args.takers c.unwrap-goal.result c.requires.places ready (sym c.goal.ensures ∙ c.unwrap-goal.ensures) m) w

pub retrace_step-requires-clause-ready : goal.retrace_step-requires-clause-ready
retrace_step-requires-clause-ready c = let r = c.requires.ready in (r.0, _, c.loop-step.invariant r.0 r.1 r.2, may_step c.args.class r.0 c.args.takers c.args.steps.now c.loop-step.step-index (Grow (record { 0 = 0 })) c.loop-step-test.true r.2)

pub retrace_step-requires-clause-places : goal.retrace_step-requires-clause-places
retrace_step-requires-clause-places c =
    let r = c.requires.ready in
    let now : length c.loop-step.board.slots.items ≡ r.0.places = (c.loop-step.invariant r.0 r.1 r.2).by_layer.at.long in
    let was : length c.args.board.now.slots.items ≡ r.0.places = r.1.at.long in
    omega (arith, c.requires.places)

pub retrace_step-requires-clause-step : goal.retrace_step-requires-clause-step
retrace_step-requires-clause-step c = step_passes c.args.takers c.args.steps.now c.loop-step.step-index (Grow (record { 0 = 0 })) c.requires.steps c.loop-step-test.true

pub retrace_step-requires-clause-actions : goal.retrace_step-requires-clause-actions
retrace_step-requires-clause-actions c =
    let r = c.requires.ready in
    let e : length c.loop-step.enc.actions ≡ length c.args.enc.now.actions = same_actions r.0 c.args.enc.now c.loop-step.enc c.args.board.now.slots.items c.loop-step.board.slots.items r.1.at (c.loop-step.invariant r.0 r.1 r.2).by_layer.at in
    omega (arith, c.requires.actions)

pub returns-in_err-retrace_step : goal.returns-in_err-retrace_step
returns-in_err-retrace_step c start ready may =
    let p = err_from_is_err_and c.from_residual-in_err-retrace_step.result c.from_residual-in_err-retrace_step.ensures.1 in
    passed start c.retrace_step.new.enc c.retrace_step.new.board.slots.items _ _ c.retrace_step.result c.from_residual-in_err-retrace_step.result _ c.in_err-retrace_step.was p (c.retrace_step.ensures start _ (c.loop-step.invariant start ready may) (may_step c.args.class start c.args.takers c.args.steps.now c.loop-step.step-index (Grow (record { 0 = 0 })) c.loop-step-test.true may))

pub loop-step-preserved : goal.loop-step-preserved
loop-step-preserved c start ready may =
    let step : Step = get_or c.args.steps.now c.loop-step.step-index (Grow (record { 0 = 0 })) in
    let more : take (c.loop-step.step-index + 1) c.args.steps.now ≡ take c.loop-step.step-index c.args.steps.now ++ step ∷ [] = take_more c.args.steps.now c.loop-step.step-index (Grow (record { 0 = 0 })) c.loop-step-test.true in
    subst (HasProgress start c.retrace_step.new.enc c.retrace_step.new.board.slots.items c.args.takers) (after_one_more c.args.class start.task (at_goal start.task) _ _ step more)
    (went start c.retrace_step.new.enc c.retrace_step.new.board.slots.items _ c.retrace_step.result _ c.in_ok-retrace_step.was (c.retrace_step.ensures start _ (c.loop-step.invariant start ready may) (may_step c.args.class start c.args.takers c.args.steps.now c.loop-step.step-index (Grow (record { 0 = 0 })) c.loop-step-test.true may)))

pub returns : goal.returns
returns c start ready may =
    subst (λ steps. HasProgress start c.loop-step.enc c.loop-step.board.slots.items c.args.takers (after_steps c.args.class start.task (at_goal start.task) steps))
    (take_all c.loop-step.step-index c.args.steps.now (omega (arith, c.loop-step-test.false))) (c.loop-step.invariant start ready may)
