use Rattle.std.proofs.Common.{◌≡◌, ◌+◌, arith, length}
use Rattle.std.proofs.lemmas.Result.{err_from_is_err_and}
use Rattle.slot_board.proofs.BoardSlots.{passed}
use Rattle.fair_plan.proofs.Boards.{actions_are, actions_same, done, in_at, le_length}
use Rattle.fair_plan.specs.Boards.{actions_of}
use Rattle.fair_plan.proofs.TakerSteps.{takers_fit}
use Rattle.std.proofs.Common.{◌∙◌}
use Rattle.fair_plan.proofs.Goals.{met_in}
use Rattle.fair_plan.proofs.rules.list_visit.Goals as goal

pub loop-a-init : goal.loop-a-init
loop-a-init c origin there =
    (there, λ contexts fit are. are)

pub list_taken-requires-clause-ready : goal.list_taken-requires-clause-ready
list_taken-requires-clause-ready c = let r = c.requires.ready in (r.0, (c.loop-a.invariant r.0 r.1).0)

pub list_taken-requires-clause-action : goal.list_taken-requires-clause-action
list_taken-requires-clause-action c =
    let r = c.requires.ready in
    let e = actions_same r.0 (c.args.enc.now, c.args.board.now.slots.items) (c.loop-a.enc, c.loop-a.board.slots.items) r.1 (c.loop-a.invariant r.0 r.1).0 c.args.sizes.actions c.requires.actions in
    omega (arith, e)

pub list_taken-requires-clause-places : goal.list_taken-requires-clause-places
list_taken-requires-clause-places c =
    let r = c.requires.ready in
    let e = actions_same r.0 (c.args.enc.now, c.args.board.now.slots.items) (c.loop-a.enc, c.loop-a.board.slots.items) r.1 (c.loop-a.invariant r.0 r.1).0 c.args.sizes.actions c.requires.actions in
    let n : c.args.sizes.actions ≡ actions_of r.0 = c.requires.actions ∙ actions_are r.0 (c.args.enc.now, c.args.board.now.slots.items) r.1 in
    let few = takers_fit r.0 c.args.sizes.count c.args.sizes.actions c.args.visit r.2 n (omega (arith, c.requires.visit)) in
    le_length r.0 (c.loop-a.enc, c.loop-a.board.slots.items) (c.loop-a.invariant r.0 r.1).0 (c.takers_at.result + length c.loop-a.enc.actions) (omega (arith, e, c.takers_at.ensures))

pub list_taken-requires-clause-met : goal.list_taken-requires-clause-met
list_taken-requires-clause-met c =
    let r = c.requires.ready in
    let n : c.args.sizes.actions ≡ actions_of r.0 = c.requires.actions ∙ actions_are r.0 (c.args.enc.now, c.args.board.now.slots.items) r.1 in
    let is = r.2 in
    let w = met_in r.0 c.args.visit (omega (arith, is, c.requires.visit)) in
    in_at r.0 c.loop-a.enc c.loop-a.board.slots.items (c.loop-a.invariant r.0 r.1).0.at c.met_at.result (omega (arith, c.met_at.ensures, is))

pub returns-in_err-list_taken : goal.returns-in_err-list_taken
returns-in_err-list_taken c origin there =
    passed origin.start c.list_taken.new.enc c.list_taken.new.board.slots.items _ _ c.list_taken.result c.from_residual.result _ c.in_err-list_taken.was (err_from_is_err_and c.from_residual.result c.from_residual.ensures.1)
    (c.list_taken.ensures origin (c.loop-a.invariant origin there).0)

pub loop-a-preserved : goal.loop-a-preserved
loop-a-preserved c origin there =
    let k = c.loop-a.invariant origin there in
    let more = done origin (c.list_taken.new.enc, c.list_taken.new.board.slots.items) _ c.list_taken.result _ c.in_ok-list_taken.was (c.list_taken.ensures origin k.0) in
    (more.0, λ contexts fit are. more.1 contexts (record { first = omega arith; last = omega (arith, c.requires.visit) }, record { first = c.next_visit-next.ensures.first; last = omega (arith, c.next_visit-next.ensures.last) }) (k.1 contexts fit are))

pub returns : goal.returns
returns c origin there = let k = c.loop-a.invariant origin there in k
