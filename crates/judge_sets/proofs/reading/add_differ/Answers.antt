use Rattle.slot_board.specs.Board.{set_at}
use Rattle.slot_board.proofs.BoardSlots.{left_with}
use Rattle.judge_sets.proofs.ReadSteps.{differ_can, differ_made}
use Rattle.judge_sets.proofs.StepFacts.{shown}
use Rattle.judge_sets.proofs.reading.add_differ.Goals as goal

pub make_all-requires : goal.make_all-requires
make_all-requires c =
    let r = c.requires in
    let enc = c.args.enc.now in
    let slots = c.args.board.now.slots.items in
    (r.0.start, set_at enc.sets slots, shown r.0 enc slots r.3.read.there, differ_can r.0 r.1 r.2 c.args.a.0 c.taken_at-taken.result r.4 r.5 c.taken_at-taken.ensures enc slots r.3)

pub returns : goal.returns
returns c scene before rule has next same =
    let enc = c.args.enc.now in
    let slots = c.args.board.now.slots.items in
    left_with scene.start c.make_all.new.enc c.make_all.new.board.slots.items _ _ c.make_all.result
    (λ shows. differ_made scene before rule c.args.a.0 c.taken_at-taken.result next same c.taken_at-taken.ensures enc slots has c.make_all.new.enc c.make_all.new.board.slots.items shows)
    (c.make_all.ensures scene.start (set_at enc.sets slots) (shown scene enc slots has.read.there) (differ_can scene before rule c.args.a.0 c.taken_at-taken.result next same c.taken_at-taken.ensures enc slots has))
