-- By the kind of the step.
use Rattle.std.proofs.Common.{◌≡◌, subst, sym, true}
use Rattle.std.proofs.lemmas.Bool.{ltb-true}
use Rattle.slot_board.proofs.BoardSlots.{left_with}
use Rattle.slot_board.specs.Board.{Left}
use Rattle.reach_plan.proofs.PlaceFits.{fits_small, step_advances}
use Rattle.reach_plan.specs.Searches.{HasProgress, MayStep}
use Rattle.reach_plan.specs.Steps.{after_step, is_step_of}
use Rattle.slot_board.specs.declared.steps.Step.{Step}
use Rattle.reach_plan.proofs.SearchSteps.{advanced}
use Rattle.reach_plan.proofs.retrace.retrace_step.Goals as goal

pub grow_and_take-requires-clause-ready : goal.grow_and_take-requires-clause-ready
grow_and_take-requires-clause-ready c =
    let r = c.requires.ready in
    (r.0, r.1, r.2, subst (λ (step : Step). MayStep c.args.class r.0 c.args.takers r.1 step) c.in-Grow.is r.3)

pub grow_and_take-requires-clause-action : goal.grow_and_take-requires-clause-action
grow_and_take-requires-clause-action c = ltb-true c.in-Grow.a.0 c.args.takers (subst (λ (step : Step). is_step_of c.args.takers step ≡ true) c.in-Grow.is c.requires.step)

pub returns-in-Grow : goal.returns-in-Grow
returns-in-Grow c start here ready may =
    subst (λ (step : Step). Left start c.grow_and_take.new.enc c.grow_and_take.new.board.slots.items (HasProgress start c.grow_and_take.new.enc c.grow_and_take.new.board.slots.items c.args.takers (after_step c.args.class start.task here step)) c.grow_and_take.result) (sym c.in-Grow.is)
    (c.grow_and_take.ensures start here ready (subst (λ (step : Step). MayStep c.args.class start c.args.takers here step) c.in-Grow.is may))

pub copy_of-requires-clause-working : goal.copy_of-requires-clause-working
copy_of-requires-clause-working c = let r = c.requires.ready in (r.0, r.2.by_layer.at)

pub returns-in-Advance : goal.returns-in-Advance
returns-in-Advance c start here ready may =
    subst (λ (step : Step). Left start c.copy_of.new.enc c.copy_of.new.self.slots.items (HasProgress start c.copy_of.new.enc c.copy_of.new.self.slots.items c.args.takers (after_step c.args.class start.task here step)) c.copy_of.result) (sym c.in-Advance.is)
    (left_with start c.copy_of.new.enc c.copy_of.new.self.slots.items _ _ c.copy_of.result
    (λ m. advanced start c.args.enc.now c.copy_of.new.enc c.args.board.now.slots.items c.copy_of.new.self.slots.items c.args.takers here.layer here.taken here.next c.requires.places ready m)
    (c.copy_of.ensures start ready.by_layer.at (fits_small start c.args.takers _ here.next ready.holds_next (step_advances c.args.class start c.args.takers here (subst (λ (step : Step). MayStep c.args.class start c.args.takers here step) c.in-Advance.is may)))))
