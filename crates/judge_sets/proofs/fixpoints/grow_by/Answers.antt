use Rattle.std.proofs.Common.{◌≡◌, arith, length, subst}
use Rattle.std.proofs.lemmas.Result.{err_from_is_err_and}
use Rattle.slot_board.proofs.BoardSlots.{same_actions, went}
use Rattle.slot_board.proofs.Endings.{found_of, passed_on}
use Rattle.judge_sets.specs.Places.{HasHits, HasRest}
use Rattle.judge_sets.proofs.GrowSteps.{gains_no, hits_none}
use Rattle.judge_sets.proofs.fixpoints.grow_by.Goals as goal

pub find_rest-requires-clause-ready : goal.find_rest-requires-clause-ready
find_rest-requires-clause-ready c = let r = c.requires.ready in (r.0, c.args.outcomes, r.1, r.2)

pub returns-in_err-find_rest : goal.returns-in_err-find_rest
returns-in_err-find_rest c scene set has =
    passed_on scene.start c.find_rest.new.enc c.find_rest.new.board.slots.items _ _ c.find_rest.result c.from_residual.result _ c.in_err-find_rest.was (err_from_is_err_and c.from_residual.result c.from_residual.ensures.1) (c.find_rest.ensures scene c.args.outcomes set has)

pub returns-then-not-branch : goal.returns-then-not-branch
returns-then-not-branch c scene set has =
    let rest = found_of scene.start c.find_rest.new.enc c.find_rest.new.board.slots.items _ c.find_rest.result _ c.in_ok-find_rest.was (c.find_rest.ensures scene c.args.outcomes set has) in
    gains_no scene c.args.outcomes c.find_rest.new.enc c.find_rest.new.board.slots.items set c.args.a.0 rest.has
    (hits_none scene c.args.outcomes set c.args.a.0 (rest.none (let h = c.if-not-branch.true in cc)))

pub find_hits-requires-clause-ready : goal.find_hits-requires-clause-ready
find_hits-requires-clause-ready c =
    let r = c.requires.ready in
    let rest = found_of r.0.start c.find_rest.new.enc c.find_rest.new.board.slots.items _ c.find_rest.result _ c.in_ok-find_rest.was (c.find_rest.ensures r.0 c.args.outcomes r.1 r.2) in
    (r.0, r.1, subst (HasRest r.0 c.args.outcomes c.find_rest.new.enc c.find_rest.new.board.slots.items r.1 c.args.a.0) (let h = c.if-not-branch.false in cc) rest)

pub find_hits-requires-clause-action : goal.find_hits-requires-clause-action
find_hits-requires-clause-action c =
    let r = c.requires.ready in
    let rest = found_of r.0.start c.find_rest.new.enc c.find_rest.new.board.slots.items _ c.find_rest.result _ c.in_ok-find_rest.was (c.find_rest.ensures r.0 c.args.outcomes r.1 r.2) in
    let e : length c.find_rest.new.enc.actions ≡ length c.args.enc.now.actions = same_actions r.0.start c.args.enc.now c.find_rest.new.enc c.args.board.now.slots.items c.find_rest.new.board.slots.items r.2.by_steps.there.at rest.has.by_steps.there.at in
    omega (arith, c.requires.action)

pub returns-in_err-find_hits : goal.returns-in_err-find_hits
returns-in_err-find_hits c scene set has =
    let rest = subst (HasRest scene c.args.outcomes c.find_rest.new.enc c.find_rest.new.board.slots.items set c.args.a.0) (let h = c.if-not-branch.false in cc)
    (found_of scene.start c.find_rest.new.enc c.find_rest.new.board.slots.items _ c.find_rest.result _ c.in_ok-find_rest.was (c.find_rest.ensures scene c.args.outcomes set has)) in
    passed_on scene.start c.find_hits.new.enc c.find_hits.new.board.slots.items _ _ c.find_hits.result c.from_residual-in_err-find_hits.result _ c.in_err-find_hits.was (err_from_is_err_and c.from_residual-in_err-find_hits.result c.from_residual-in_err-find_hits.ensures.1) (c.find_hits.ensures scene set rest)

pub returns-then-not-branch-2 : goal.returns-then-not-branch-2
returns-then-not-branch-2 c scene set has =
    let rest = subst (HasRest scene c.args.outcomes c.find_rest.new.enc c.find_rest.new.board.slots.items set c.args.a.0) (let h = c.if-not-branch.false in cc)
    (found_of scene.start c.find_rest.new.enc c.find_rest.new.board.slots.items _ c.find_rest.result _ c.in_ok-find_rest.was (c.find_rest.ensures scene c.args.outcomes set has)) in
    let hits = found_of scene.start c.find_hits.new.enc c.find_hits.new.board.slots.items _ c.find_hits.result _ c.in_ok-find_hits.was (c.find_hits.ensures scene set rest) in
    gains_no scene c.args.outcomes c.find_hits.new.enc c.find_hits.new.board.slots.items set c.args.a.0 hits.has (hits.none (let h = c.if-not-branch-2.true in cc))

pub join_hits-requires-clause-ready : goal.join_hits-requires-clause-ready
join_hits-requires-clause-ready c =
    let r = c.requires.ready in
    let rest = subst (HasRest r.0 c.args.outcomes c.find_rest.new.enc c.find_rest.new.board.slots.items r.1 c.args.a.0) (let h = c.if-not-branch.false in cc)
    (found_of r.0.start c.find_rest.new.enc c.find_rest.new.board.slots.items _ c.find_rest.result _ c.in_ok-find_rest.was (c.find_rest.ensures r.0 c.args.outcomes r.1 r.2)) in
    let hits = found_of r.0.start c.find_hits.new.enc c.find_hits.new.board.slots.items _ c.find_hits.result _ c.in_ok-find_hits.was (c.find_hits.ensures r.0 r.1 rest) in
    (r.0, c.args.outcomes, r.1, subst (HasHits r.0 c.args.outcomes c.find_hits.new.enc c.find_hits.new.board.slots.items r.1 c.args.a.0) (let h = c.if-not-branch-2.false in cc) hits)

pub join_hits-requires-clause-action : goal.join_hits-requires-clause-action
join_hits-requires-clause-action c =
    let r = c.requires.ready in
    let rest = subst (HasRest r.0 c.args.outcomes c.find_rest.new.enc c.find_rest.new.board.slots.items r.1 c.args.a.0) (let h = c.if-not-branch.false in cc)
    (found_of r.0.start c.find_rest.new.enc c.find_rest.new.board.slots.items _ c.find_rest.result _ c.in_ok-find_rest.was (c.find_rest.ensures r.0 c.args.outcomes r.1 r.2)) in
    let hits = found_of r.0.start c.find_hits.new.enc c.find_hits.new.board.slots.items _ c.find_hits.result _ c.in_ok-find_hits.was (c.find_hits.ensures r.0 r.1 rest) in
    let e : length c.find_hits.new.enc.actions ≡ length c.args.enc.now.actions = same_actions r.0.start c.args.enc.now c.find_hits.new.enc c.args.board.now.slots.items c.find_hits.new.board.slots.items r.2.by_steps.there.at hits.has.by_steps.there.at in
    omega (arith, c.requires.action)

pub returns-in_err-join_hits : goal.returns-in_err-join_hits
returns-in_err-join_hits c scene set has =
    let rest = subst (HasRest scene c.args.outcomes c.find_rest.new.enc c.find_rest.new.board.slots.items set c.args.a.0) (let h = c.if-not-branch.false in cc)
    (found_of scene.start c.find_rest.new.enc c.find_rest.new.board.slots.items _ c.find_rest.result _ c.in_ok-find_rest.was (c.find_rest.ensures scene c.args.outcomes set has)) in
    let hits = subst (HasHits scene c.args.outcomes c.find_hits.new.enc c.find_hits.new.board.slots.items set c.args.a.0) (let h = c.if-not-branch-2.false in cc)
    (found_of scene.start c.find_hits.new.enc c.find_hits.new.board.slots.items _ c.find_hits.result _ c.in_ok-find_hits.was (c.find_hits.ensures scene set rest)) in
    passed_on scene.start c.join_hits.new.enc c.join_hits.new.board.slots.items _ _ c.join_hits.result c.from_residual-in_err-join_hits.result _ c.in_err-join_hits.was (err_from_is_err_and c.from_residual-in_err-join_hits.result c.from_residual-in_err-join_hits.ensures.1) (c.join_hits.ensures scene c.args.outcomes set hits)

pub returns : goal.returns
returns c scene set has =
    let rest = subst (HasRest scene c.args.outcomes c.find_rest.new.enc c.find_rest.new.board.slots.items set c.args.a.0) (let h = c.if-not-branch.false in cc)
    (found_of scene.start c.find_rest.new.enc c.find_rest.new.board.slots.items _ c.find_rest.result _ c.in_ok-find_rest.was (c.find_rest.ensures scene c.args.outcomes set has)) in
    let hits = subst (HasHits scene c.args.outcomes c.find_hits.new.enc c.find_hits.new.board.slots.items set c.args.a.0) (let h = c.if-not-branch-2.false in cc)
    (found_of scene.start c.find_hits.new.enc c.find_hits.new.board.slots.items _ c.find_hits.result _ c.in_ok-find_hits.was (c.find_hits.ensures scene set rest)) in
    went scene.start c.join_hits.new.enc c.join_hits.new.board.slots.items _ c.join_hits.result _ c.in_ok-join_hits.was (c.join_hits.ensures scene c.args.outcomes set hits)
