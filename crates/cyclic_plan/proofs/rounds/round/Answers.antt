use Rattle.std.proofs.Common.{◌≡◌, arith, length}
use Rattle.std.proofs.lemmas.Result.{err_from_is_err_and}
use Rattle.task_core.specs.Vectors.{value_of}
use Rattle.slot_board.specs.Board.{set_at}
use Rattle.cyclic_plan.specs.Stages.{none_taken}
use Rattle.slot_board.proofs.BoardSlots.{passed, same_actions, went}
use Rattle.cyclic_plan.proofs.RoundsMade.{some_near}
use Rattle.cyclic_plan.proofs.rounds.round.Goals as goal

pub keep_pairs-requires-clause-ready : goal.keep_pairs-requires-clause-ready
keep_pairs-requires-clause-ready c = let r = c.requires.ready in (r.0, r.1, none_taken, r.2)

pub returns-in_err-keep_pairs : goal.returns-in_err-keep_pairs
returns-in_err-keep_pairs c start left ready =
    let p = err_from_is_err_and c.from_residual.result c.from_residual.ensures.1 in
    passed start c.keep_pairs.new.enc c.keep_pairs.new.board.slots.items _ _ c.keep_pairs.result c.from_residual.result _ c.in_err-keep_pairs.was p (c.keep_pairs.ensures start left none_taken ready)

pub spread-requires-clause-ready : goal.spread-requires-clause-ready
spread-requires-clause-ready c =
    let r = c.requires.ready in
    let now = c.keep_pairs.new.enc in
    let slots = c.keep_pairs.new.board.slots.items in
    let h = went r.0 now slots _ c.keep_pairs.result _ c.in_ok-keep_pairs.was (c.keep_pairs.ensures r.0 r.1 none_taken r.2) in
    (r.0, r.1, (λ v. set_at now.sets slots 3 (value_of v)), some_near r.0 now slots r.1 none_taken h)

pub spread-requires-clause-actions : goal.spread-requires-clause-actions
spread-requires-clause-actions c =
    let r = c.requires.ready in
    let now = c.keep_pairs.new.enc in
    let slots = c.keep_pairs.new.board.slots.items in
    let h = went r.0 now slots _ c.keep_pairs.result _ c.in_ok-keep_pairs.was (c.keep_pairs.ensures r.0 r.1 none_taken r.2) in
    let e : length now.actions ≡ length c.args.enc.now.actions = same_actions r.0 c.args.enc.now now c.args.board.now.slots.items slots r.2.at h.round.at in
    omega (arith, c.requires.actions)

pub returns : goal.returns
returns c start left ready =
    let mid = c.keep_pairs.new.enc in
    let slots = c.keep_pairs.new.board.slots.items in
    let h = went start mid slots _ c.keep_pairs.result _ c.in_ok-keep_pairs.was (c.keep_pairs.ensures start left none_taken ready) in
    c.spread.ensures start left (λ v. set_at mid.sets slots 3 (value_of v)) (some_near start mid slots left none_taken h)
