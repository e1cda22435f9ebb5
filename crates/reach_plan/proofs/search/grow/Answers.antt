-- A copy of the layer first, then each action.
use Rattle.std.proofs.Common.{◌≡◌, arith, length, subst}
use Rattle.std.proofs.lemmas.Result.{err_from_is_err_and}
use Rattle.slot_board.proofs.BoardSlots.{made_at, passed, same_actions, went}
use Rattle.task_core.specs.Tasks.{action_count}
use Rattle.reach_plan.specs.Steps.{untaken}
use Rattle.reach_plan.specs.Searches.{HasGrown}
use Rattle.reach_plan.proofs.PlaceFits.{layer_copy_fits}
use Rattle.reach_plan.proofs.SearchSteps.{grown_first}
use Rattle.reach_plan.proofs.search.grow.Goals as goal

pub copy_of-requires-clause-working : goal.copy_of-requires-clause-working
copy_of-requires-clause-working c = let r = c.requires.ready in (r.0, r.4.by_layer.at)

pub returns-in_err-copy_of : goal.returns-in_err-copy_of
returns-in_err-copy_of c start k f h ready =
    let p = err_from_is_err_and c.from_residual.result c.from_residual.ensures.1 in
    passed start c.copy_of.new.enc c.copy_of.new.self.slots.items _ _ c.copy_of.result c.from_residual.result _ c.in_err-copy_of.was p (c.copy_of.ensures start ready.by_layer.at (layer_copy_fits c.args.aim.class start c.args.enc.now c.args.board.now.slots.items 0 1 f untaken h ready.by_layer ready.known))

pub loop-a-init : goal.loop-a-init
loop-a-init c start k f h ready =
    grown_first c.args.aim.class start c.args.enc.now c.copy_of.new.enc c.args.board.now.slots.items c.copy_of.new.self.slots.items f h c.args.steps.now.items c.args.spent.now.items c.requires.places ready
    (went start c.copy_of.new.enc c.copy_of.new.self.slots.items _ c.copy_of.result _ c.in_ok-copy_of.was (c.copy_of.ensures start ready.by_layer.at (layer_copy_fits c.args.aim.class start c.args.enc.now c.args.board.now.slots.items 0 1 f untaken h ready.by_layer ready.known)))

pub grow_by-requires-clause-ready : goal.grow_by-requires-clause-ready
grow_by-requires-clause-ready c = let r = c.requires.ready in (r.0, r.1, r.2, r.3, c.loop-a.invariant r.0 r.1 r.2 r.3 r.4)

pub grow_by-requires-clause-places : goal.grow_by-requires-clause-places
grow_by-requires-clause-places c =
    let r = c.requires.ready in
    let now : length c.loop-a.board.slots.items ≡ r.0.places = (c.loop-a.invariant r.0 r.1 r.2 r.3 r.4).by_next.by_layer.at.long in
    let was : length c.args.board.now.slots.items ≡ r.0.places = r.4.by_layer.at.long in
    omega (arith, c.requires.places)

pub grow_by-requires-clause-action : goal.grow_by-requires-clause-action
grow_by-requires-clause-action c =
    let r = c.requires.ready in
    let e : length c.loop-a.enc.actions ≡ length c.args.enc.now.actions = same_actions r.0 c.args.enc.now c.loop-a.enc c.args.board.now.slots.items c.loop-a.board.slots.items r.4.by_layer.at (c.loop-a.invariant r.0 r.1 r.2 r.3 r.4).by_next.by_layer.at in
    omega (arith, c.requires.actions)

pub grow_by-requires-clause-long : goal.grow_by-requires-clause-long
grow_by-requires-clause-long c =
    let r = c.requires.ready in
    let has = c.loop-a.invariant r.0 r.1 r.2 r.3 r.4 in
    let marks : length c.loop-a.spent.items ≡ action_count r.0.task = has.are_spent.long in
    let all : length c.loop-a.enc.actions ≡ action_count r.0.task = (made_at r.0 c.loop-a.enc c.loop-a.board.slots.items has.by_next.by_layer.at).actions in
    omega arith

pub returns-in_err-grow_by : goal.returns-in_err-grow_by
returns-in_err-grow_by c start k f h ready =
    let p = err_from_is_err_and c.from_residual-in_err-grow_by.result c.from_residual-in_err-grow_by.ensures.1 in
    passed start c.grow_by.new.enc c.grow_by.new.board.slots.items _ _ c.grow_by.result c.from_residual-in_err-grow_by.result _ c.in_err-grow_by.was p (c.grow_by.ensures start k f h (c.loop-a.invariant start k f h ready))

pub loop-a-preserved : goal.loop-a-preserved
loop-a-preserved c start k f h ready =
    went start c.grow_by.new.enc c.grow_by.new.board.slots.items _ c.grow_by.result _ c.in_ok-grow_by.was (c.grow_by.ensures start k f h (c.loop-a.invariant start k f h ready))

pub returns : goal.returns
returns c start k f h ready =
    let e : c.loop-a.a ≡ c.args.aim.actions = omega arith in
    subst (λ m. HasGrown c.args.aim.class start c.loop-a.enc c.loop-a.board.slots.items k f h m c.loop-a.steps.items c.loop-a.spent.items) e (c.loop-a.invariant start k f h ready)
