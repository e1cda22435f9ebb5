use Rattle.std.proofs.lemmas.Result.{err_from_is_err_and}
use Rattle.std.proofs.Common.{suc, ◌≡◌, ◌+◌, arith, length, ◌∙◌}
use Rattle.task_core.specs.Tasks.{action_count, system_of}
use Rattle.plan_theory.specs.PairRounds.{round}
use Rattle.slot_board.proofs.BoardSlots.{left_with, same_actions, went, passed}
use Rattle.cyclic_plan.proofs.Kept.{follows_on}
use Rattle.cyclic_plan.proofs.Premises.{copy_near}
use Rattle.cyclic_plan.proofs.Narrowing.{dropped_none, round_kept, round_of_kept}
use Rattle.cyclic_plan.proofs.rounds.next_round.Goals as goal

pub copy_of-requires-clause-working : goal.copy_of-requires-clause-working
copy_of-requires-clause-working c = (c.requires.ready.0, c.requires.ready.2.round.at)

pub copy_of-requires-clause-place : goal.copy_of-requires-clause-place
copy_of-requires-clause-place c = let e : length c.args.board.now.slots.items ≡ 7 + action_count c.requires.ready.0.task + action_count c.requires.ready.0.task = c.requires.ready.2.round.at.long ∙ c.requires.ready.2.round.places in omega arith

pub copy_of-requires-clause-from : goal.copy_of-requires-clause-from
copy_of-requires-clause-from c = let e : length c.args.board.now.slots.items ≡ 7 + action_count c.requires.ready.0.task + action_count c.requires.ready.0.task = c.requires.ready.2.round.at.long ∙ c.requires.ready.2.round.places in omega arith

pub drop_pairs-requires-clause-ready : goal.drop_pairs-requires-clause-ready
drop_pairs-requires-clause-ready c =
    let r = c.requires.ready in
    let now = c.copy_of.new.enc in
    let slots = c.copy_of.new.self.slots.items in
    let m = went r.0 now slots _ c.copy_of.result _ c.in_ok-copy_of.was (c.copy_of.ensures r.0 r.2.round.at (copy_near r.0 c.args.enc.now c.args.board.now.slots.items _ _ r.2.round 1)) in
    (r.0, r.1, dropped_none r.0 c.args.enc.now now c.args.board.now.slots.items slots r.1 r.2 m)

pub drop_pairs-requires-clause-actions : goal.drop_pairs-requires-clause-actions
drop_pairs-requires-clause-actions c =
    let r = c.requires.ready in
    let now = c.copy_of.new.enc in
    let slots = c.copy_of.new.self.slots.items in
    let m = went r.0 now slots _ c.copy_of.result _ c.in_ok-copy_of.was (c.copy_of.ensures r.0 r.2.round.at (copy_near r.0 c.args.enc.now c.args.board.now.slots.items _ _ r.2.round 1)) in
    let e : length now.actions ≡ length c.args.enc.now.actions = same_actions r.0 c.args.enc.now now c.args.board.now.slots.items slots r.2.round.at m.at in
    omega (arith, c.requires.actions)

pub spread-requires-clause-ready : goal.spread-requires-clause-ready
spread-requires-clause-ready c =
    let r = c.requires.ready in
    let now = c.copy_of.new.enc in
    let slots = c.copy_of.new.self.slots.items in
    let m = went r.0 now slots _ c.copy_of.result _ c.in_ok-copy_of.was (c.copy_of.ensures r.0 r.2.round.at (copy_near r.0 c.args.enc.now c.args.board.now.slots.items _ _ r.2.round 1)) in
    let d = went r.0 c.drop_pairs.new.enc c.drop_pairs.new.board.slots.items _ c.drop_pairs.result _ c.in_ok-drop_pairs.was (c.drop_pairs.ensures.left r.0 r.1 (dropped_none r.0 c.args.enc.now now c.args.board.now.slots.items slots r.1 r.2 m)) in
    (r.0, round (system_of r.0.task) (suc r.1), round (system_of r.0.task) (suc r.1), round_of_kept r.0 c.drop_pairs.new.enc c.drop_pairs.new.board.slots.items r.1 d)

pub spread-requires-clause-actions : goal.spread-requires-clause-actions
spread-requires-clause-actions c =
    let r = c.requires.ready in
    let now = c.copy_of.new.enc in
    let slots = c.copy_of.new.self.slots.items in
    let m = went r.0 now slots _ c.copy_of.result _ c.in_ok-copy_of.was (c.copy_of.ensures r.0 r.2.round.at (copy_near r.0 c.args.enc.now c.args.board.now.slots.items _ _ r.2.round 1)) in
    let d = went r.0 c.drop_pairs.new.enc c.drop_pairs.new.board.slots.items _ c.drop_pairs.result _ c.in_ok-drop_pairs.was (c.drop_pairs.ensures.left r.0 r.1 (dropped_none r.0 c.args.enc.now now c.args.board.now.slots.items slots r.1 r.2 m)) in
    let e : length c.drop_pairs.new.enc.actions ≡ length c.args.enc.now.actions = same_actions r.0 c.args.enc.now c.drop_pairs.new.enc c.args.board.now.slots.items c.drop_pairs.new.board.slots.items r.2.round.at d.round.at in
    omega (arith, c.requires.actions)

pub returns : goal.returns
returns c start r ready =
    let now = c.copy_of.new.enc in
    let slots = c.copy_of.new.self.slots.items in
    let m = went start now slots _ c.copy_of.result _ c.in_ok-copy_of.was (c.copy_of.ensures start ready.round.at (copy_near start c.args.enc.now c.args.board.now.slots.items _ _ ready.round 1)) in
    let d = went start c.drop_pairs.new.enc c.drop_pairs.new.board.slots.items _ c.drop_pairs.result _ c.in_ok-drop_pairs.was (c.drop_pairs.ensures.left start r (dropped_none start c.args.enc.now now c.args.board.now.slots.items slots r ready m)) in
    left_with start c.spread.new.enc c.spread.new.board.slots.items _ _ c.spread.result (λ found. (found.0, λ follows. found.1))
    (c.spread.ensures start (round (system_of start.task) (suc r)) (round (system_of start.task) (suc r)) (round_of_kept start c.drop_pairs.new.enc c.drop_pairs.new.board.slots.items r d))

pub returns-then-not-branch : goal.returns-then-not-branch
returns-then-not-branch c start r ready =
    let now = c.copy_of.new.enc in
    let slots = c.copy_of.new.self.slots.items in
    let m = went start now slots _ c.copy_of.result _ c.in_ok-copy_of.was (c.copy_of.ensures start ready.round.at (copy_near start c.args.enc.now c.args.board.now.slots.items _ _ ready.round 1)) in
    let first = dropped_none start c.args.enc.now now c.args.board.now.slots.items slots r ready m in
    let d = went start c.drop_pairs.new.enc c.drop_pairs.new.board.slots.items _ c.drop_pairs.result _ c.in_ok-drop_pairs.was (c.drop_pairs.ensures.left start r first) in
    let none = c.in_ok-drop_pairs.ensures.lost start r first (let h = c.if-not-branch.true in cc) in
    (round_kept start c.drop_pairs.new.enc c.drop_pairs.new.board.slots.items r d none, λ follows. follows_on start r none 0 0 c.args.steps.now.items follows)

pub returns-in_err-copy_of : goal.returns-in_err-copy_of
returns-in_err-copy_of c start r ready =
    let p = err_from_is_err_and c.from_residual.result c.from_residual.ensures.1 in
    passed start c.copy_of.new.enc c.copy_of.new.self.slots.items _ _ c.copy_of.result c.from_residual.result _ c.in_err-copy_of.was p (c.copy_of.ensures start ready.round.at (copy_near start c.args.enc.now c.args.board.now.slots.items _ _ ready.round 1))

pub returns-in_err-drop_pairs : goal.returns-in_err-drop_pairs
returns-in_err-drop_pairs c start r ready =
    let p = err_from_is_err_and c.from_residual-in_err-drop_pairs.result c.from_residual-in_err-drop_pairs.ensures.1 in
    let m = went start c.copy_of.new.enc c.copy_of.new.self.slots.items _ c.copy_of.result _ c.in_ok-copy_of.was (c.copy_of.ensures start ready.round.at (copy_near start c.args.enc.now c.args.board.now.slots.items _ _ ready.round 1)) in
    passed start c.drop_pairs.new.enc c.drop_pairs.new.board.slots.items _ _ c.drop_pairs.result c.from_residual-in_err-drop_pairs.result _ c.in_err-drop_pairs.was p
    (c.drop_pairs.ensures.left start r (dropped_none start c.args.enc.now c.copy_of.new.enc c.args.board.now.slots.items c.copy_of.new.self.slots.items r ready m))
