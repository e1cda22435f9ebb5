use Rattle.std.proofs.Common.{◌≡◌, arith, length, subst}
use Rattle.std.proofs.lemmas.Result.{err_from_is_err_and}
use Rattle.slot_board.proofs.BoardSlots.{same_actions, went}
use Rattle.slot_board.proofs.Endings.{found_of, passed_on}
use Rattle.judge_sets.specs.Places.{HasHere, HasOut}
use Rattle.judge_sets.proofs.ShrinkSteps.{loses_no, lost_none}
use Rattle.judge_sets.proofs.fixpoints.shrink_by.Goals as goal

pub find_here-requires-clause-ready : goal.find_here-requires-clause-ready
find_here-requires-clause-ready c = let r = c.requires.ready in (r.0, r.1, r.2, r.3)

pub returns-in_err-find_here : goal.returns-in_err-find_here
returns-in_err-find_here c scene from set has =
    passed_on scene.start c.find_here.new.enc c.find_here.new.board.slots.items _ _ c.find_here.result c.from_residual.result _ c.in_err-find_here.was (err_from_is_err_and c.from_residual.result c.from_residual.ensures.1) (c.find_here.ensures scene from set has)

pub returns-then-not-branch : goal.returns-then-not-branch
returns-then-not-branch c scene from set has =
    let rest = found_of scene.start c.find_here.new.enc c.find_here.new.board.slots.items _ c.find_here.result _ c.in_ok-find_here.was (c.find_here.ensures scene from set has) in
    loses_no scene c.find_here.new.enc c.find_here.new.board.slots.items from set c.args.a.0 rest.has
    (lost_none scene set c.args.a.0 (rest.none (let h = c.if-not-branch.true in cc)))

pub find_lost-requires-clause-ready : goal.find_lost-requires-clause-ready
find_lost-requires-clause-ready c =
    let r = c.requires.ready in
    let rest = found_of r.0.start c.find_here.new.enc c.find_here.new.board.slots.items _ c.find_here.result _ c.in_ok-find_here.was (c.find_here.ensures r.0 r.1 r.2 r.3) in
    (r.0, r.1, r.2, subst (HasHere r.0 c.find_here.new.enc c.find_here.new.board.slots.items r.1 r.2 c.args.a.0) (let h = c.if-not-branch.false in cc) rest)

pub find_lost-requires-clause-action : goal.find_lost-requires-clause-action
find_lost-requires-clause-action c =
    let r = c.requires.ready in
    let rest = found_of r.0.start c.find_here.new.enc c.find_here.new.board.slots.items _ c.find_here.result _ c.in_ok-find_here.was (c.find_here.ensures r.0 r.1 r.2 r.3) in
    let e : length c.find_here.new.enc.actions ≡ length c.args.enc.now.actions = same_actions r.0.start c.args.enc.now c.find_here.new.enc c.args.board.now.slots.items c.find_here.new.board.slots.items r.3.by_steps.there.at rest.has.by_steps.there.at in
    omega (arith, c.requires.action)

pub returns-in_err-find_lost : goal.returns-in_err-find_lost
returns-in_err-find_lost c scene from set has =
    let rest = subst (HasHere scene c.find_here.new.enc c.find_here.new.board.slots.items from set c.args.a.0) (let h = c.if-not-branch.false in cc)
    (found_of scene.start c.find_here.new.enc c.find_here.new.board.slots.items _ c.find_here.result _ c.in_ok-find_here.was (c.find_here.ensures scene from set has)) in
    passed_on scene.start c.find_lost.new.enc c.find_lost.new.board.slots.items _ _ c.find_lost.result c.from_residual-in_err-find_lost.result _ c.in_err-find_lost.was (err_from_is_err_and c.from_residual-in_err-find_lost.result c.from_residual-in_err-find_lost.ensures.1) (c.find_lost.ensures scene from set rest)

pub returns-then-not-branch-2 : goal.returns-then-not-branch-2
returns-then-not-branch-2 c scene from set has =
    let rest = subst (HasHere scene c.find_here.new.enc c.find_here.new.board.slots.items from set c.args.a.0) (let h = c.if-not-branch.false in cc)
    (found_of scene.start c.find_here.new.enc c.find_here.new.board.slots.items _ c.find_here.result _ c.in_ok-find_here.was (c.find_here.ensures scene from set has)) in
    let hits = found_of scene.start c.find_lost.new.enc c.find_lost.new.board.slots.items _ c.find_lost.result _ c.in_ok-find_lost.was (c.find_lost.ensures scene from set rest) in
    loses_no scene c.find_lost.new.enc c.find_lost.new.board.slots.items from set c.args.a.0 hits.has (hits.none (let h = c.if-not-branch-2.true in cc))

pub drop_lost-requires-clause-ready : goal.drop_lost-requires-clause-ready
drop_lost-requires-clause-ready c =
    let r = c.requires.ready in
    let rest = subst (HasHere r.0 c.find_here.new.enc c.find_here.new.board.slots.items r.1 r.2 c.args.a.0) (let h = c.if-not-branch.false in cc)
    (found_of r.0.start c.find_here.new.enc c.find_here.new.board.slots.items _ c.find_here.result _ c.in_ok-find_here.was (c.find_here.ensures r.0 r.1 r.2 r.3)) in
    let hits = found_of r.0.start c.find_lost.new.enc c.find_lost.new.board.slots.items _ c.find_lost.result _ c.in_ok-find_lost.was (c.find_lost.ensures r.0 r.1 r.2 rest) in
    (r.0, r.1, r.2, subst (HasOut r.0 c.find_lost.new.enc c.find_lost.new.board.slots.items r.1 r.2 c.args.a.0) (let h = c.if-not-branch-2.false in cc) hits)

pub drop_lost-requires-clause-action : goal.drop_lost-requires-clause-action
drop_lost-requires-clause-action c =
    let r = c.requires.ready in
    let rest = subst (HasHere r.0 c.find_here.new.enc c.find_here.new.board.slots.items r.1 r.2 c.args.a.0) (let h = c.if-not-branch.false in cc)
    (found_of r.0.start c.find_here.new.enc c.find_here.new.board.slots.items _ c.find_here.result _ c.in_ok-find_here.was (c.find_here.ensures r.0 r.1 r.2 r.3)) in
    let hits = found_of r.0.start c.find_lost.new.enc c.find_lost.new.board.slots.items _ c.find_lost.result _ c.in_ok-find_lost.was (c.find_lost.ensures r.0 r.1 r.2 rest) in
    let e : length c.find_lost.new.enc.actions ≡ length c.args.enc.now.actions = same_actions r.0.start c.args.enc.now c.find_lost.new.enc c.args.board.now.slots.items c.find_lost.new.board.slots.items r.3.by_steps.there.at hits.has.by_steps.there.at in
    omega (arith, c.requires.action)

pub returns-in_err-drop_lost : goal.returns-in_err-drop_lost
returns-in_err-drop_lost c scene from set has =
    let rest = subst (HasHere scene c.find_here.new.enc c.find_here.new.board.slots.items from set c.args.a.0) (let h = c.if-not-branch.false in cc)
    (found_of scene.start c.find_here.new.enc c.find_here.new.board.slots.items _ c.find_here.result _ c.in_ok-find_here.was (c.find_here.ensures scene from set has)) in
    let hits = subst (HasOut scene c.find_lost.new.enc c.find_lost.new.board.slots.items from set c.args.a.0) (let h = c.if-not-branch-2.false in cc)
    (found_of scene.start c.find_lost.new.enc c.find_lost.new.board.slots.items _ c.find_lost.result _ c.in_ok-find_lost.was (c.find_lost.ensures scene from set rest)) in
    passed_on scene.start c.drop_lost.new.enc c.drop_lost.new.board.slots.items _ _ c.drop_lost.result c.from_residual-in_err-drop_lost.result _ c.in_err-drop_lost.was (err_from_is_err_and c.from_residual-in_err-drop_lost.result c.from_residual-in_err-drop_lost.ensures.1) (c.drop_lost.ensures scene from set hits)

pub returns : goal.returns
returns c scene from set has =
    let rest = subst (HasHere scene c.find_here.new.enc c.find_here.new.board.slots.items from set c.args.a.0) (let h = c.if-not-branch.false in cc)
    (found_of scene.start c.find_here.new.enc c.find_here.new.board.slots.items _ c.find_here.result _ c.in_ok-find_here.was (c.find_here.ensures scene from set has)) in
    let hits = subst (HasOut scene c.find_lost.new.enc c.find_lost.new.board.slots.items from set c.args.a.0) (let h = c.if-not-branch-2.false in cc)
    (found_of scene.start c.find_lost.new.enc c.find_lost.new.board.slots.items _ c.find_lost.result _ c.in_ok-find_lost.was (c.find_lost.ensures scene from set rest)) in
    went scene.start c.drop_lost.new.enc c.drop_lost.new.board.slots.items _ c.drop_lost.result _ c.in_ok-drop_lost.was (c.drop_lost.ensures scene from set hits)
