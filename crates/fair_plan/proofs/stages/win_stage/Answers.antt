use Rattle.std.proofs.Common.{◌≡◌, ◌+◌, ◌<◌, arith, length}
use Rattle.std.proofs.lemmas.Result.{err_from_is_err_and}
use Rattle.slot_board.specs.Board.{Scene}
use Rattle.slot_board.proofs.BoardSlots.{passed}
use Rattle.ctl_syntax.specs.GoalValues.{stage_sets}
use Rattle.fair_theory.specs.FairSets.{stage_asks}
use Rattle.fair_plan.specs.Boards.{actions_of, states_in}
use Rattle.fair_plan.proofs.Boards.{actions_are, done, in_start, le_length, leaves_with}
use Rattle.fair_plan.proofs.Goals.{kept_can, stage_begins, stage_won}
use Rattle.fair_plan.proofs.stages.win_stage.Goals as goal

pub returns-in_err-aim_at : goal.returns-in_err-aim_at
returns-in_err-aim_at c origin keep rest there won =
    passed origin.start c.aim_at.new.enc c.aim_at.new.board.slots.items _ _ c.aim_at.result c.from_residual.result _ c.in_err-aim_at.was (err_from_is_err_and c.from_residual.result c.from_residual.ensures.1) (c.aim_at.ensures origin there)

pub find_largest-requires-clause-ready : goal.find_largest-requires-clause-ready
find_largest-requires-clause-ready c =
    let r = c.requires.ready in
    let x : Scene = (c.args.enc.now, c.args.board.now.slots.items) in
    let m : Scene = (c.aim_at.new.enc, c.aim_at.new.board.slots.items) in
    let aim = done r.0 m _ c.aim_at.result _ c.in_ok-aim_at.was (c.aim_at.ensures r.0 r.1) in
    (r.0, stage_asks (stage_sets c.args.stage.now) (states_in x c.args.at.next), aim.0, stage_begins r.0 (stage_sets c.args.stage.now) x m c.args.at.next c.args.at.met aim.1)

pub find_largest-requires-clause-actions : goal.find_largest-requires-clause-actions
find_largest-requires-clause-actions c =
    let r = c.requires.ready in
    let x : Scene = (c.args.enc.now, c.args.board.now.slots.items) in
    let m : Scene = (c.aim_at.new.enc, c.aim_at.new.board.slots.items) in
    let aim = done r.0 m _ c.aim_at.result _ c.in_ok-aim_at.was (c.aim_at.ensures r.0 r.1) in
    let e : length c.args.enc.now.actions ≡ actions_of r.0 = actions_are r.0 x r.1 in
    let f : length c.aim_at.new.enc.actions ≡ actions_of r.0 = actions_are r.0 m aim.0 in
    omega (arith, c.requires.actions)

pub find_largest-requires-clause-targets : goal.find_largest-requires-clause-targets
find_largest-requires-clause-targets c =
    let r = c.requires.ready in
    let m : Scene = (c.aim_at.new.enc, c.aim_at.new.board.slots.items) in
    let aim = done r.0 m _ c.aim_at.result _ c.in_ok-aim_at.was (c.aim_at.ensures r.0 r.1) in
    let within = in_start r.0 (c.args.enc.now, c.args.board.now.slots.items) r.1 c.args.at.met c.requires.place in
    le_length r.0 m aim.0 (c.args.at.met + 1) (omega arith)

pub returns-in_err-find_largest : goal.returns-in_err-find_largest
returns-in_err-find_largest c origin keep rest there won =
    let x : Scene = (c.args.enc.now, c.args.board.now.slots.items) in
    let m : Scene = (c.aim_at.new.enc, c.aim_at.new.board.slots.items) in
    let aim = done origin m _ c.aim_at.result _ c.in_ok-aim_at.was (c.aim_at.ensures origin there) in
    passed origin.start c.find_largest.new.enc c.find_largest.new.board.slots.items _ _ c.find_largest.result c.from_residual-in_err-find_largest.result _ c.in_err-find_largest.was (err_from_is_err_and c.from_residual-in_err-find_largest.result c.from_residual-in_err-find_largest.ensures.1)
    (c.find_largest.ensures origin (stage_asks (stage_sets c.args.stage.now) (states_in x c.args.at.next)) aim.0 (stage_begins origin (stage_sets c.args.stage.now) x m c.args.at.next c.args.at.met aim.1))

pub make-requires : goal.make-requires
make-requires c =
    let r = c.requires.ready in
    let x : Scene = (c.args.enc.now, c.args.board.now.slots.items) in
    let m : Scene = (c.aim_at.new.enc, c.aim_at.new.board.slots.items) in
    let aim = done r.0 m _ c.aim_at.result _ c.in_ok-aim_at.was (c.aim_at.ensures r.0 r.1) in
    let found = done r.0 (c.find_largest.new.enc, c.find_largest.new.board.slots.items) _ c.find_largest.result _ c.in_ok-find_largest.was
    (c.find_largest.ensures r.0 (stage_asks (stage_sets c.args.stage.now) (states_in x c.args.at.next)) aim.0 (stage_begins r.0 (stage_sets c.args.stage.now) x m c.args.at.next c.args.at.met aim.1)) in
    let within = in_start r.0 x r.1 c.args.at.met c.requires.place in
    (r.0, found.0, kept_can r.0 c.args.at.win (omega (arith, c.requires.later, c.requires.own)))

pub returns : goal.returns
returns c origin keep rest there won =
    let x : Scene = (c.args.enc.now, c.args.board.now.slots.items) in
    let m : Scene = (c.aim_at.new.enc, c.aim_at.new.board.slots.items) in
    let p : Scene = (c.find_largest.new.enc, c.find_largest.new.board.slots.items) in
    let y : Scene = (c.make.new.enc, c.make.new.board.slots.items) in
    let aim = done origin m _ c.aim_at.result _ c.in_ok-aim_at.was (c.aim_at.ensures origin there) in
    let found = done origin p _ c.find_largest.result _ c.in_ok-find_largest.was
    (c.find_largest.ensures origin (stage_asks (stage_sets c.args.stage.now) (states_in x c.args.at.next)) aim.0 (stage_begins origin (stage_sets c.args.stage.now) x m c.args.at.next c.args.at.met aim.1)) in
    let met = in_start origin x there c.args.at.met c.requires.place in
    let within = (let l : c.args.at.win < origin.start.places = omega (arith, c.requires.later, c.requires.own) in l) in
    leaves_with origin y _ _ c.make.result (λ now after. stage_won origin (stage_sets c.args.stage.now) keep rest x p y c.args.at.next c.args.at.win within won found.1 after)
    (c.make.ensures origin found.0 (kept_can origin c.args.at.win within))
