use Rattle.slot_board.specs.Board.{set_at}
use Rattle.slot_board.proofs.BoardSlots.{left_with}
use Rattle.judge_sets.proofs.ReadSteps.{literal_can, literal_made}
use Rattle.judge_sets.proofs.StepFacts.{shown}
use Rattle.judge_sets.proofs.reading.put_literal.Goals as goal

pub make_all-requires : goal.make_all-requires
make_all-requires c =
    let r = c.requires in
    let enc = c.args.enc.now in
    let slots = c.args.board.now.slots.items in
    (r.0.start, set_at enc.sets slots, shown r.0 enc slots r.3.read.there, literal_can r.0 r.1 r.2 c.args.lit c.sign_of-sign.result enc slots r.3 c.sign_of-sign.ensures r.4 r.5)

pub returns : goal.returns
returns c scene before done has low small =
    let enc = c.args.enc.now in
    let slots = c.args.board.now.slots.items in
    left_with scene.start c.make_all.new.enc c.make_all.new.board.slots.items _ _ c.make_all.result
    (λ shows. literal_made scene before done c.args.lit c.sign_of-sign.result enc slots has c.sign_of-sign.ensures c.make_all.new.enc c.make_all.new.board.slots.items shows)
    (c.make_all.ensures scene.start (set_at enc.sets slots) (shown scene enc slots has.read.there) (literal_can scene before done c.args.lit c.sign_of-sign.result enc slots has c.sign_of-sign.ensures low small))
