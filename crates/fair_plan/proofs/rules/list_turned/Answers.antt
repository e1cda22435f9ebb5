use Rattle.std.proofs.Common.{arith}
use Rattle.std.proofs.lemmas.Result.{err_from_is_err_and}
use Rattle.slot_board.proofs.BoardSlots.{passed}
use Rattle.fair_plan.proofs.Boards.{action_in, done, low}
use Rattle.fair_plan.proofs.TakerSteps.{takers_in}
use Rattle.fair_plan.proofs.RuleSteps.{listed_left, rules_more}
use Rattle.fair_plan.specs.Boards.{states_in}
use Rattle.fair_plan.proofs.rules.list_turned.Goals as goal

pub make-requires : goal.make-requires
make-requires c =
    let r = c.requires.ready in
    (r.0, r.1, ((low r.0 0 (omega arith), low r.0 7 (omega arith), takers_in r.0 (c.args.enc.now, c.args.board.now.slots.items) r.1 c.args.takers c.args.turn.action.0 c.requires.places c.requires.action), tt))

pub returns-in_err-make : goal.returns-in_err-make
returns-in_err-make c origin there =
    passed origin.start c.make.new.enc c.make.new.board.slots.items _ _ c.make.result c.from_residual.result _ c.in_err-make.was (err_from_is_err_and c.from_residual.result c.from_residual.ensures.1)
    (c.make.ensures origin there ((low origin 0 (omega arith), low origin 7 (omega arith), takers_in origin (c.args.enc.now, c.args.board.now.slots.items) there c.args.takers c.args.turn.action.0 c.requires.places c.requires.action), tt))

pub list_part-requires : goal.list_part-requires
list_part-requires c =
    let r = c.requires.ready in
    let d0 = done r.0 (c.make.new.enc, c.make.new.board.slots.items) _ c.make.result _ c.in_ok-make.was (c.make.ensures r.0 r.1 ((low r.0 0 (omega arith), low r.0 7 (omega arith), takers_in r.0 (c.args.enc.now, c.args.board.now.slots.items) r.1 c.args.takers c.args.turn.action.0 c.requires.places c.requires.action), tt)) in
    (r.0, d0.0)

pub returns : goal.returns
returns c origin there =
    let d0 = done origin (c.make.new.enc, c.make.new.board.slots.items) _ c.make.result _ c.in_ok-make.was (c.make.ensures origin there ((low origin 0 (omega arith), low origin 7 (omega arith), takers_in origin (c.args.enc.now, c.args.board.now.slots.items) there c.args.takers c.args.turn.action.0 c.requires.places c.requires.action), tt)) in
    listed_left origin (c.make.new.enc, c.make.new.board.slots.items) _ _ c.list_part.result d0.0 c.list_part.ensures.never_full c.list_part.ensures.listed (λ e contexts fit are. rules_more origin contexts (c.make.new.enc, c.make.new.board.slots.items) c.args.turn.context c.args.turn.next c.args.turn.action.0 (states_in (c.make.new.enc, c.make.new.board.slots.items) 0) c.args.rules.now.items c.list_part.new.rules.items d0.0 fit.0 fit.1 (action_in origin (c.args.enc.now, c.args.board.now.slots.items) there c.args.turn.action.0 c.requires.action) are e)
