use Rattle.std.proofs.Common.{◌≡◌, ◌+◌, ◌≤◌, arith, length}
use Rattle.std.proofs.lemmas.Result.{err_from_is_err_and}
use Rattle.slot_board.specs.Board.{Scene}
use Rattle.slot_board.proofs.BoardSlots.{passed}
use Rattle.fair_plan.specs.Boards.{actions_of}
use Rattle.fair_plan.proofs.Boards.{actions_are, done, le_length, le_start, leaves_with}
use Rattle.fair_plan.proofs.Rounds.{round_made, targets_now}
use Rattle.fair_plan.specs.Places.{pairs_end}
use Rattle.fair_plan.proofs.fixpoints.keep_round.Goals as goal

pub returns-in_err-begin_round : goal.returns-in_err-begin_round
returns-in_err-begin_round c origin asked there same long on =
    passed origin.start c.begin_round.new.enc c.begin_round.new.board.slots.items _ _ c.begin_round.result c.from_residual.result _ c.in_err-begin_round.was (err_from_is_err_and c.from_residual.result c.from_residual.ensures.1)
    (c.begin_round.ensures origin there)

pub keep_staying-requires : goal.keep_staying-requires
keep_staying-requires c =
    let r = c.requires.ready in
    let begun = done r.0 (c.begin_round.new.enc, c.begin_round.new.board.slots.items) _ c.begin_round.result _ c.in_ok-begin_round.was (c.begin_round.ensures r.0 r.1) in
    (r.0, begun.0)

pub returns-in_err-keep_staying : goal.returns-in_err-keep_staying
returns-in_err-keep_staying c origin asked there same long on =
    let begun = done origin (c.begin_round.new.enc, c.begin_round.new.board.slots.items) _ c.begin_round.result _ c.in_ok-begin_round.was (c.begin_round.ensures origin there) in
    passed origin.start c.keep_staying.new.enc c.keep_staying.new.board.slots.items _ _ c.keep_staying.result c.from_residual-in_err-keep_staying.result _ c.in_err-keep_staying.was (err_from_is_err_and c.from_residual-in_err-keep_staying.result c.from_residual-in_err-keep_staying.ensures.1)
    (c.keep_staying.ensures origin begun.0)

pub come_to_all-requires-clause-ready : goal.come_to_all-requires-clause-ready
come_to_all-requires-clause-ready c =
    let r = c.requires.ready in
    let begun = done r.0 (c.begin_round.new.enc, c.begin_round.new.board.slots.items) _ c.begin_round.result _ c.in_ok-begin_round.was (c.begin_round.ensures r.0 r.1) in
    let kept = done r.0 (c.keep_staying.new.enc, c.keep_staying.new.board.slots.items) _ c.keep_staying.result _ c.in_ok-keep_staying.was (c.keep_staying.ensures r.0 begun.0) in
    (r.0, kept.0)

pub come_to_all-requires-clause-actions : goal.come_to_all-requires-clause-actions
come_to_all-requires-clause-actions c =
    let r = c.requires.ready in
    let begun = done r.0 (c.begin_round.new.enc, c.begin_round.new.board.slots.items) _ c.begin_round.result _ c.in_ok-begin_round.was (c.begin_round.ensures r.0 r.1) in
    let kept = done r.0 (c.keep_staying.new.enc, c.keep_staying.new.board.slots.items) _ c.keep_staying.result _ c.in_ok-keep_staying.was (c.keep_staying.ensures r.0 begun.0) in
    let e : length c.args.enc.now.actions ≡ actions_of r.0 = actions_are r.0 (c.args.enc.now, c.args.board.now.slots.items) r.1 in
    let f : length c.keep_staying.new.enc.actions ≡ actions_of r.0 = actions_are r.0 (c.keep_staying.new.enc, c.keep_staying.new.board.slots.items) kept.0 in
    omega (arith, c.requires.actions)

pub come_to_all-requires-clause-targets : goal.come_to_all-requires-clause-targets
come_to_all-requires-clause-targets c =
    let r = c.requires.ready in
    let begun = done r.0 (c.begin_round.new.enc, c.begin_round.new.board.slots.items) _ c.begin_round.result _ c.in_ok-begin_round.was (c.begin_round.ensures r.0 r.1) in
    let kept = done r.0 (c.keep_staying.new.enc, c.keep_staying.new.board.slots.items) _ c.keep_staying.result _ c.in_ok-keep_staying.was (c.keep_staying.ensures r.0 begun.0) in
    le_length r.0 (c.keep_staying.new.enc, c.keep_staying.new.board.slots.items) kept.0 (c.args.wanted.first + c.args.wanted.count) (le_start r.0 (c.args.enc.now, c.args.board.now.slots.items) r.1 (c.args.wanted.first + c.args.wanted.count) c.requires.targets)

pub returns : goal.returns
returns c origin asked there same long on =
    let x : Scene = (c.args.enc.now, c.args.board.now.slots.items) in
    let m : Scene = (c.begin_round.new.enc, c.begin_round.new.board.slots.items) in
    let n : Scene = (c.keep_staying.new.enc, c.keep_staying.new.board.slots.items) in
    let y : Scene = (c.come_to_all.new.enc, c.come_to_all.new.board.slots.items) in
    let begun = done origin m _ c.begin_round.result _ c.in_ok-begin_round.was (c.begin_round.ensures origin there) in
    let kept = done origin n _ c.keep_staying.result _ c.in_ok-keep_staying.was (c.keep_staying.ensures origin begun.0) in
    let e : length c.args.enc.now.actions ≡ actions_of origin = actions_are origin x there in
    let high : pairs_end (actions_of origin) ≤ c.args.wanted.first = omega (arith, c.requires.actions, c.requires.high) in
    let within = le_start origin x there (c.args.wanted.first + c.args.wanted.count) c.requires.targets in
    leaves_with origin y _ _ c.come_to_all.result
    (λ now came. round_made origin asked c.args.wanted.stays c.args.wanted.first c.args.wanted.count x m n y high within there same long on begun.1 kept.1 came)
    (c.come_to_all.ensures origin asked kept.0 (targets_now origin asked c.args.wanted.stays c.args.wanted.first c.args.wanted.count x m n y high within there same long on begun.1 kept.1))
