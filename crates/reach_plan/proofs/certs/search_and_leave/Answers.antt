-- The search first, then the states outside its last layer.
use Rattle.std.proofs.Common.{◌≡◌, ℕ, ◌+◌, ◌<◌, arith, length, subst}
use Rattle.std.proofs.lemmas.Result.{err_from_is_err_and}
use Rattle.slot_board.proofs.BoardSlots.{went}
use Rattle.slot_board.proofs.Endings.{passed_on}
use Rattle.reach_plan.specs.Searches.{SearchLeft}
use Rattle.reach_plan.proofs.CertSteps.{cubes_left}
use Rattle.reach_plan.proofs.certs.search_and_leave.Goals as goal

pub search_back-requires-clause-ready : goal.search_back-requires-clause-ready
search_back-requires-clause-ready c = let r = c.requires.ready in (r.0, r.1, r.2)

pub returns-in_err-search_back : goal.returns-in_err-search_back
returns-in_err-search_back c start has wide rough =
    let p = err_from_is_err_and c.from_residual.result c.from_residual.ensures.1 in
    passed_on start c.search_back.new.enc c.search_back.new.board.slots.items _ _ c.search_back.result c.from_residual.result _ c.in_err-search_back.was p (c.search_back.ensures start has wide)

pub returns-then-branch : goal.returns-then-branch
returns-then-branch c start has wide rough =
    let left = subst (SearchLeft c.args.class start c.search_back.new.enc c.search_back.new.board.slots.items c.search_back.new.steps.items) c.if-branch.true (c.in_ok-search_back.ensures start has wide) in
    record { at = left.at; are_left = (left.leads.layers, left.leads.last) }

pub leave_out-requires-clause-ready : goal.leave_out-requires-clause-ready
leave_out-requires-clause-ready c =
    let r = c.requires.ready in
    (c.args.class, r.0, subst (SearchLeft c.args.class r.0 c.search_back.new.enc c.search_back.new.board.slots.items c.search_back.new.steps.items) c.if-branch.false (c.in_ok-search_back.ensures r.0 r.1 r.2), r.2, r.3)

pub leave_out-requires-clause-places : goal.leave_out-requires-clause-places
leave_out-requires-clause-places c =
    let r = c.requires.ready in
    let found = subst (SearchLeft c.args.class r.0 c.search_back.new.enc c.search_back.new.board.slots.items c.search_back.new.steps.items) c.if-branch.false (c.in_ok-search_back.ensures r.0 r.1 r.2) in
    let now : length c.search_back.new.board.slots.items ≡ r.0.places = found.at.long in
    let was : length c.args.board.now.slots.items ≡ r.0.places = r.1.at.long in
    omega (arith, c.requires.places)

pub returns-in_err-leave_out : goal.returns-in_err-leave_out
returns-in_err-leave_out c start has wide rough =
    let p = err_from_is_err_and c.from_residual-in_err-leave_out.result c.from_residual-in_err-leave_out.ensures.1 in
    let found = subst (SearchLeft c.args.class start c.search_back.new.enc c.search_back.new.board.slots.items c.search_back.new.steps.items) c.if-branch.false (c.in_ok-search_back.ensures start has wide) in
    passed_on start c.leave_out.new.enc c.leave_out.new.board.slots.items _ _ c.leave_out.result c.from_residual-in_err-leave_out.result _ c.in_err-leave_out.was p (c.leave_out.ensures c.args.class start found wide rough)

pub only_cubes-requires-clause-working : goal.only_cubes-requires-clause-working
only_cubes-requires-clause-working c =
    let r = c.requires.ready in
    let found = subst (SearchLeft c.args.class r.0 c.search_back.new.enc c.search_back.new.board.slots.items c.search_back.new.steps.items) c.if-branch.false (c.in_ok-search_back.ensures r.0 r.1 r.2) in
    let rest = went r.0 c.leave_out.new.enc c.leave_out.new.board.slots.items _ c.leave_out.result _ c.in_ok-leave_out.was (c.leave_out.ensures c.args.class r.0 found r.2 r.3) in
    (r.0, rest.at)

pub returns : goal.returns
returns c start has wide rough =
    let found = subst (SearchLeft c.args.class start c.search_back.new.enc c.search_back.new.board.slots.items c.search_back.new.steps.items) c.if-branch.false (c.in_ok-search_back.ensures start has wide) in
    let rest = went start c.leave_out.new.enc c.leave_out.new.board.slots.items _ c.leave_out.result _ c.in_ok-leave_out.was (c.leave_out.ensures c.args.class start found wide rough) in
    cubes_left c.args.class start c.leave_out.new.enc c.leave_out.new.board.slots.items c.in_ok-cubes.cubes rest c.in_ok-cubes.ensures.cubes
