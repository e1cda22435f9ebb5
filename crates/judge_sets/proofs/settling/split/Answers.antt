use Rattle.slot_board.specs.Board.{set_at}
use Rattle.slot_board.proofs.BoardSlots.{action_within, left_with}
use Rattle.judge_sets.proofs.SettleSteps.{split_can, split_made}
use Rattle.judge_sets.proofs.StepFacts.{shown}
use Rattle.judge_sets.proofs.settling.split.Goals as goal

pub make_all-requires : goal.make_all-requires
make_all-requires c =
    let r = c.requires.ready in
    let enc = c.args.enc.now in
    let slots = c.args.board.now.slots.items in (
      r.0.start,
      set_at enc.sets slots,
      shown r.0 enc slots r.1.there,
      split_can r.0 c.exec-exec.result c.args.a.0 c.taken_at-taken.result enc slots r.1 (action_within r.0.start enc slots c.args.a.0 r.1.there.at c.requires.action) c.exec-exec.ensures c.taken_at-taken.ensures,
    )

pub returns : goal.returns
returns c scene has =
    let enc = c.args.enc.now in
    let slots = c.args.board.now.slots.items in
    let low = action_within scene.start enc slots c.args.a.0 has.there.at c.requires.action in
    left_with scene.start c.make_all.new.enc c.make_all.new.board.slots.items _ _ c.make_all.result
    (λ shows. split_made scene c.exec-exec.result c.args.a.0 c.taken_at-taken.result enc slots has low c.exec-exec.ensures c.taken_at-taken.ensures c.make_all.new.enc c.make_all.new.board.slots.items shows)
    (c.make_all.ensures scene.start (set_at enc.sets slots) (shown scene enc slots has.there) (split_can scene c.exec-exec.result c.args.a.0 c.taken_at-taken.result enc slots has low c.exec-exec.ensures c.taken_at-taken.ensures))
