use Rattle.std.proofs.Common.{◌≡◌, ◌+◌, arith, length}
use Rattle.std.proofs.lemmas.Result.{err_from_is_err_and}
use Rattle.slot_board.proofs.BoardSlots.{passed}
use Rattle.fair_plan.proofs.Boards.{actions_are, actions_same, done, le_length}
use Rattle.fair_plan.specs.Boards.{actions_of}
use Rattle.fair_plan.proofs.TakerSteps.{takers_fit}
use Rattle.std.proofs.Common.{◌∙◌}
use Rattle.fair_plan.proofs.RuleSteps.{context_is}
use Rattle.fair_plan.proofs.rules.list_next.Goals as goal

pub turn_to-requires-clause-ready : goal.turn_to-requires-clause-ready
turn_to-requires-clause-ready c = c.requires.ready

pub returns-in_err-turn_to : goal.returns-in_err-turn_to
returns-in_err-turn_to c origin there =
    passed origin.start c.turn_to.new.enc c.turn_to.new.board.slots.items _ _ c.turn_to.result c.from_residual.result _ c.in_err-turn_to.was (err_from_is_err_and c.from_residual.result c.from_residual.ensures.1) (c.turn_to.ensures origin there)

pub loop-a-init : goal.loop-a-init
loop-a-init c origin there =
    let d0 = done origin (c.turn_to.new.enc, c.turn_to.new.board.slots.items) _ c.turn_to.result _ c.in_ok-turn_to.was (c.turn_to.ensures origin there) in
    (d0.0, λ contexts fit are. are)

pub list_turned-requires-clause-ready : goal.list_turned-requires-clause-ready
list_turned-requires-clause-ready c = let r = c.requires.ready in (r.0, (c.loop-a.invariant r.0 r.1).0)

pub list_turned-requires-clause-action : goal.list_turned-requires-clause-action
list_turned-requires-clause-action c =
    let r = c.requires.ready in
    let e = actions_same r.0 (c.args.enc.now, c.args.board.now.slots.items) (c.loop-a.enc, c.loop-a.board.slots.items) r.1 (c.loop-a.invariant r.0 r.1).0 c.args.sizes.actions c.requires.actions in
    omega (arith, e)

pub list_turned-requires-clause-places : goal.list_turned-requires-clause-places
list_turned-requires-clause-places c =
    let r = c.requires.ready in
    let e = actions_same r.0 (c.args.enc.now, c.args.board.now.slots.items) (c.loop-a.enc, c.loop-a.board.slots.items) r.1 (c.loop-a.invariant r.0 r.1).0 c.args.sizes.actions c.requires.actions in
    let n : c.args.sizes.actions ≡ actions_of r.0 = c.requires.actions ∙ actions_are r.0 (c.args.enc.now, c.args.board.now.slots.items) r.1 in
    let few = takers_fit r.0 c.args.sizes.count c.args.sizes.actions c.args.leap.next r.2 n c.requires.next in
    le_length r.0 (c.loop-a.enc, c.loop-a.board.slots.items) (c.loop-a.invariant r.0 r.1).0 (c.takers_at-takers.result + length c.loop-a.enc.actions) (omega (arith, e, c.takers_at-takers.ensures))

pub returns-in_err-list_turned : goal.returns-in_err-list_turned
returns-in_err-list_turned c origin there =
    passed origin.start c.list_turned.new.enc c.list_turned.new.board.slots.items _ _ c.list_turned.result c.from_residual-in_err-list_turned.result _ c.in_err-list_turned.was (err_from_is_err_and c.from_residual-in_err-list_turned.result c.from_residual-in_err-list_turned.ensures.1)
    (c.list_turned.ensures origin (c.loop-a.invariant origin there).0)

pub loop-a-preserved : goal.loop-a-preserved
loop-a-preserved c origin there =
    let k = c.loop-a.invariant origin there in
    let more = done origin (c.list_turned.new.enc, c.list_turned.new.board.slots.items) _ c.list_turned.result _ c.in_ok-list_turned.was (c.list_turned.ensures origin k.0) in
    (more.0, λ contexts fit are. more.1 contexts (context_is contexts c.args.sizes.count c.args.leap.stage fit (omega (arith, c.requires.stage, c.requires.next)), context_is contexts c.args.sizes.count c.args.leap.next fit c.requires.next) (k.1 contexts fit are))

pub returns : goal.returns
returns c origin there = let k = c.loop-a.invariant origin there in k
