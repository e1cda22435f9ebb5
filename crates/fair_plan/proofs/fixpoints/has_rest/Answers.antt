use Rattle.std.proofs.Common.{arith}
use Rattle.std.proofs.lemmas.Result.{err_from_is_err_and}
use Rattle.slot_board.specs.Board.{Scene}
use Rattle.slot_board.proofs.Endings.{passed_on}
use Rattle.fair_plan.proofs.Boards.{action_in, done, low_in}
use Rattle.fair_plan.proofs.Growth.{rest_can, rest_looked}
use Rattle.fair_plan.proofs.fixpoints.has_rest.Goals as goal

pub make-requires : goal.make-requires
make-requires c =
    let r = c.requires.ready in
    let below = action_in r.0 (c.args.enc.now, c.args.board.now.slots.items) r.1 c.args.a.0 c.requires.action in
    (r.0, r.1, rest_can r.0 c.args.a c.pairs_at-pairs.result c.pairs_at-pairs.ensures below)

pub returns-in_err-make : goal.returns-in_err-make
returns-in_err-make c origin there =
    let below = action_in origin (c.args.enc.now, c.args.board.now.slots.items) there c.args.a.0 c.requires.action in
    passed_on origin.start c.make.new.enc c.make.new.board.slots.items _ _ c.make.result c.from_residual.result _ c.in_err-make.was (err_from_is_err_and c.from_residual.result c.from_residual.ensures.1)
    (c.make.ensures origin there (rest_can origin c.args.a c.pairs_at-pairs.result c.pairs_at-pairs.ensures below))

pub is_empty-requires-clause-working : goal.is_empty-requires-clause-working
is_empty-requires-clause-working c =
    let r = c.requires.ready in
    let below = action_in r.0 (c.args.enc.now, c.args.board.now.slots.items) r.1 c.args.a.0 c.requires.action in
    let d0 = done r.0 (c.make.new.enc, c.make.new.board.slots.items) _ c.make.result _ c.in_ok-make.was (c.make.ensures r.0 r.1 (rest_can r.0 c.args.a c.pairs_at-pairs.result c.pairs_at-pairs.ensures below)) in
    (r.0.start, d0.0.at)

pub is_empty-requires-clause-place : goal.is_empty-requires-clause-place
is_empty-requires-clause-place c =
    let r = c.requires.ready in
    let below = action_in r.0 (c.args.enc.now, c.args.board.now.slots.items) r.1 c.args.a.0 c.requires.action in
    let d0 = done r.0 (c.make.new.enc, c.make.new.board.slots.items) _ c.make.result _ c.in_ok-make.was (c.make.ensures r.0 r.1 (rest_can r.0 c.args.a c.pairs_at-pairs.result c.pairs_at-pairs.ensures below)) in
    low_in r.0 c.make.new.enc c.make.new.board.slots.items d0.0.at 0 (omega arith)

pub returns : goal.returns
returns c origin there =
    let x : Scene = (c.args.enc.now, c.args.board.now.slots.items) in
    let y : Scene = (c.make.new.enc, c.make.new.board.slots.items) in
    let below = action_in origin x there c.args.a.0 c.requires.action in
    let d0 = done origin y _ c.make.result _ c.in_ok-make.was (c.make.ensures origin there (rest_can origin c.args.a c.pairs_at-pairs.result c.pairs_at-pairs.ensures below)) in
    rest_looked origin c.args.a c.pairs_at-pairs.result c.pairs_at-pairs.ensures below x y c.is_empty.result d0.0 c.is_empty.ensures d0.1
