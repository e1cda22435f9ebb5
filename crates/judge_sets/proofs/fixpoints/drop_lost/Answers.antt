use Rattle.slot_board.specs.Board.{set_at}
use Rattle.slot_board.proofs.BoardSlots.{action_within, left_with}
use Rattle.judge_sets.proofs.ShrinkSteps.{drop_can, drop_made}
use Rattle.judge_sets.proofs.StepFacts.{shown}
use Rattle.judge_sets.proofs.fixpoints.drop_lost.Goals as goal

pub make_all-requires : goal.make_all-requires
make_all-requires c =
    let r = c.requires.ready in
    let enc = c.args.enc.now in
    let slots = c.args.board.now.slots.items in
    let low = action_within r.0.start enc slots c.args.a.0 r.3.has.by_steps.there.at c.requires.action in
    (r.0.start, set_at enc.sets slots, shown r.0 enc slots r.3.has.by_steps.there, drop_can r.0 r.1 r.2 c.args.a.0 enc slots r.3 low)

pub returns : goal.returns
returns c scene from set by =
    let enc = c.args.enc.now in
    let slots = c.args.board.now.slots.items in
    let low = action_within scene.start enc slots c.args.a.0 by.has.by_steps.there.at c.requires.action in
    left_with scene.start c.make_all.new.enc c.make_all.new.board.slots.items _ _ c.make_all.result
    (λ shows. drop_made scene from set c.args.a.0 enc slots by low c.make_all.new.enc c.make_all.new.board.slots.items shows)
    (c.make_all.ensures scene.start (set_at enc.sets slots) (shown scene enc slots by.has.by_steps.there) (drop_can scene from set c.args.a.0 enc slots by low))
