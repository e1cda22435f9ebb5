use Rattle.std.proofs.Common.{◌≡◌, arith, length, subst, sym}
use Rattle.std.specs.Prelude.{IsSome}
use Rattle.std.proofs.lemmas.Result.{err_from_is_err_and}
use Rattle.slot_board.proofs.BoardSlots.{same_actions, went}
use Rattle.slot_board.proofs.Endings.{found_of, passed_on}
use Rattle.judge_sets.proofs.JudgeSteps.{same_goal}
use Rattle.judge_sets.proofs.verdict.judge.Goals as goal

pub read_none-requires : goal.read_none-requires
read_none-requires c =
    let r = c.requires.ready in
    (r.0, r.1)

pub returns-in_err-read_none : goal.returns-in_err-read_none
returns-in_err-read_none c scene has are =
    passed_on scene.start c.read_none.new.enc c.read_none.new.board.slots.items _ _ c.read_none.result c.from_residual.result _ c.in_err-read_none.was (err_from_is_err_and c.from_residual.result c.from_residual.ensures.1) (c.read_none.ensures scene has)

pub read_rules-requires : goal.read_rules-requires
read_rules-requires c =
    let r = c.requires.ready in
    let none = went r.0.start c.read_none.new.enc c.read_none.new.board.slots.items _ c.read_none.result _ c.in_ok-read_none.was (c.read_none.ensures r.0 r.1) in
    (r.0, none, r.2)

pub returns-in_err-each_counts : goal.returns-in_err-each_counts
returns-in_err-each_counts c scene has are =
    let none = went scene.start c.read_none.new.enc c.read_none.new.board.slots.items _ c.read_none.result _ c.in_ok-read_none.was (c.read_none.ensures scene has) in
    passed_on scene.start c.read_rules.new.enc c.read_rules.new.board.slots.items _ _ c.read_rules.result c.from_residual-in_err-each_counts.result _ c.in_err-each_counts.was (err_from_is_err_and c.from_residual-in_err-each_counts.result c.from_residual-in_err-each_counts.ensures.1) (c.read_rules.ensures scene none are)

pub settle-requires-clause-ready : goal.settle-requires-clause-ready
settle-requires-clause-ready c =
    let r = c.requires.ready in
    let none = went r.0.start c.read_none.new.enc c.read_none.new.board.slots.items _ c.read_none.result _ c.in_ok-read_none.was (c.read_none.ensures r.0 r.1) in
    let read = found_of r.0.start c.read_rules.new.enc c.read_rules.new.board.slots.items _ c.read_rules.result _ c.in_ok-each_counts.was (c.read_rules.ensures r.0 none r.2) in
    (r.0, read.0)

pub settle-requires-clause-goal : goal.settle-requires-clause-goal
settle-requires-clause-goal c =
    let r = c.requires.ready in
    let none = went r.0.start c.read_none.new.enc c.read_none.new.board.slots.items _ c.read_none.result _ c.in_ok-read_none.was (c.read_none.ensures r.0 r.1) in
    let read = found_of r.0.start c.read_rules.new.enc c.read_rules.new.board.slots.items _ c.read_rules.result _ c.in_ok-each_counts.was (c.read_rules.ensures r.0 none r.2) in
    subst (λ g. IsSome g) (sym (same_goal r.0.start c.args.enc.now c.read_rules.new.enc c.args.board.now.slots.items c.read_rules.new.board.slots.items r.1.at read.0.there.at)) c.requires.goal

pub settle-requires-clause-actions : goal.settle-requires-clause-actions
settle-requires-clause-actions c =
    let r = c.requires.ready in
    let none = went r.0.start c.read_none.new.enc c.read_none.new.board.slots.items _ c.read_none.result _ c.in_ok-read_none.was (c.read_none.ensures r.0 r.1) in
    let read = found_of r.0.start c.read_rules.new.enc c.read_rules.new.board.slots.items _ c.read_rules.result _ c.in_ok-each_counts.was (c.read_rules.ensures r.0 none r.2) in
    let e : length c.read_rules.new.enc.actions ≡ length c.args.enc.now.actions = same_actions r.0.start c.args.enc.now c.read_rules.new.enc c.args.board.now.slots.items c.read_rules.new.board.slots.items r.1.at read.0.there.at in
    omega (arith, c.requires.actions)

pub returns-in_err-settle : goal.returns-in_err-settle
returns-in_err-settle c scene has are =
    let none = went scene.start c.read_none.new.enc c.read_none.new.board.slots.items _ c.read_none.result _ c.in_ok-read_none.was (c.read_none.ensures scene has) in
    let read = found_of scene.start c.read_rules.new.enc c.read_rules.new.board.slots.items _ c.read_rules.result _ c.in_ok-each_counts.was (c.read_rules.ensures scene none are) in
    passed_on scene.start c.settle.new.enc c.settle.new.board.slots.items _ _ c.settle.result c.from_residual-in_err-settle.result _ c.in_err-settle.was (err_from_is_err_and c.from_residual-in_err-settle.result c.from_residual-in_err-settle.ensures.1) (c.settle.ensures scene read.0)

pub solves-requires-clause-ready : goal.solves-requires-clause-ready
solves-requires-clause-ready c =
    let r = c.requires.ready in
    let none = went r.0.start c.read_none.new.enc c.read_none.new.board.slots.items _ c.read_none.result _ c.in_ok-read_none.was (c.read_none.ensures r.0 r.1) in
    let read = found_of r.0.start c.read_rules.new.enc c.read_rules.new.board.slots.items _ c.read_rules.result _ c.in_ok-each_counts.was (c.read_rules.ensures r.0 none r.2) in
    let part = went r.0.start c.settle.new.enc c.settle.new.board.slots.items _ c.settle.result _ c.in_ok-settle.was (c.settle.ensures r.0 read.0) in
    (r.0, part)

pub solves-requires-clause-actions : goal.solves-requires-clause-actions
solves-requires-clause-actions c =
    let r = c.requires.ready in
    let none = went r.0.start c.read_none.new.enc c.read_none.new.board.slots.items _ c.read_none.result _ c.in_ok-read_none.was (c.read_none.ensures r.0 r.1) in
    let read = found_of r.0.start c.read_rules.new.enc c.read_rules.new.board.slots.items _ c.read_rules.result _ c.in_ok-each_counts.was (c.read_rules.ensures r.0 none r.2) in
    let part = went r.0.start c.settle.new.enc c.settle.new.board.slots.items _ c.settle.result _ c.in_ok-settle.was (c.settle.ensures r.0 read.0) in
    let e : length c.settle.new.enc.actions ≡ length c.args.enc.now.actions = same_actions r.0.start c.args.enc.now c.settle.new.enc c.args.board.now.slots.items c.settle.new.board.slots.items r.1.at part.there.at in
    omega (arith, c.requires.actions)

pub returns-in_err-solves : goal.returns-in_err-solves
returns-in_err-solves c scene has are =
    let none = went scene.start c.read_none.new.enc c.read_none.new.board.slots.items _ c.read_none.result _ c.in_ok-read_none.was (c.read_none.ensures scene has) in
    let read = found_of scene.start c.read_rules.new.enc c.read_rules.new.board.slots.items _ c.read_rules.result _ c.in_ok-each_counts.was (c.read_rules.ensures scene none are) in
    let part = went scene.start c.settle.new.enc c.settle.new.board.slots.items _ c.settle.result _ c.in_ok-settle.was (c.settle.ensures scene read.0) in
    passed_on scene.start c.solves.new.enc c.solves.new.board.slots.items _ _ c.solves.result c.from_residual-in_err-solves.result _ c.in_err-solves.was (err_from_is_err_and c.from_residual-in_err-solves.result c.from_residual-in_err-solves.ensures.1) (c.solves.ensures scene part)

pub agrees-requires-clause-ready : goal.agrees-requires-clause-ready
agrees-requires-clause-ready c =
    let r = c.requires.ready in
    let none = went r.0.start c.read_none.new.enc c.read_none.new.board.slots.items _ c.read_none.result _ c.in_ok-read_none.was (c.read_none.ensures r.0 r.1) in
    let read = found_of r.0.start c.read_rules.new.enc c.read_rules.new.board.slots.items _ c.read_rules.result _ c.in_ok-each_counts.was (c.read_rules.ensures r.0 none r.2) in
    let part = went r.0.start c.settle.new.enc c.settle.new.board.slots.items _ c.settle.result _ c.in_ok-settle.was (c.settle.ensures r.0 read.0) in
    let solved = found_of r.0.start c.solves.new.enc c.solves.new.board.slots.items _ c.solves.result _ c.in_ok-solves.was (c.solves.ensures r.0 part) in
    (r.0, solved.0)

pub agrees-requires-clause-actions : goal.agrees-requires-clause-actions
agrees-requires-clause-actions c =
    let r = c.requires.ready in
    let none = went r.0.start c.read_none.new.enc c.read_none.new.board.slots.items _ c.read_none.result _ c.in_ok-read_none.was (c.read_none.ensures r.0 r.1) in
    let read = found_of r.0.start c.read_rules.new.enc c.read_rules.new.board.slots.items _ c.read_rules.result _ c.in_ok-each_counts.was (c.read_rules.ensures r.0 none r.2) in
    let part = went r.0.start c.settle.new.enc c.settle.new.board.slots.items _ c.settle.result _ c.in_ok-settle.was (c.settle.ensures r.0 read.0) in
    let solved = found_of r.0.start c.solves.new.enc c.solves.new.board.slots.items _ c.solves.result _ c.in_ok-solves.was (c.solves.ensures r.0 part) in
    let e : length c.solves.new.enc.actions ≡ length c.args.enc.now.actions = same_actions r.0.start c.args.enc.now c.solves.new.enc c.args.board.now.slots.items c.solves.new.board.slots.items r.1.at solved.0.there.at in
    omega (arith, c.requires.actions)

pub returns-in_err-agrees : goal.returns-in_err-agrees
returns-in_err-agrees c scene has are =
    let none = went scene.start c.read_none.new.enc c.read_none.new.board.slots.items _ c.read_none.result _ c.in_ok-read_none.was (c.read_none.ensures scene has) in
    let read = found_of scene.start c.read_rules.new.enc c.read_rules.new.board.slots.items _ c.read_rules.result _ c.in_ok-each_counts.was (c.read_rules.ensures scene none are) in
    let part = went scene.start c.settle.new.enc c.settle.new.board.slots.items _ c.settle.result _ c.in_ok-settle.was (c.settle.ensures scene read.0) in
    let solved = found_of scene.start c.solves.new.enc c.solves.new.board.slots.items _ c.solves.result _ c.in_ok-solves.was (c.solves.ensures scene part) in
    passed_on scene.start c.agrees.new.enc c.agrees.new.board.slots.items _ _ c.agrees.result c.from_residual-in_err-agrees.result _ c.in_err-agrees.was (err_from_is_err_and c.from_residual-in_err-agrees.result c.from_residual-in_err-agrees.ensures.1) (c.agrees.ensures scene solved.0)

pub returns : goal.returns
returns c scene has are =
    let none = went scene.start c.read_none.new.enc c.read_none.new.board.slots.items _ c.read_none.result _ c.in_ok-read_none.was (c.read_none.ensures scene has) in
    let read = found_of scene.start c.read_rules.new.enc c.read_rules.new.board.slots.items _ c.read_rules.result _ c.in_ok-each_counts.was (c.read_rules.ensures scene none are) in
    let part = went scene.start c.settle.new.enc c.settle.new.board.slots.items _ c.settle.result _ c.in_ok-settle.was (c.settle.ensures scene read.0) in
    let solved = found_of scene.start c.solves.new.enc c.solves.new.board.slots.items _ c.solves.result _ c.in_ok-solves.was (c.solves.ensures scene part) in
    let agreed = found_of scene.start c.agrees.new.enc c.agrees.new.board.slots.items _ c.agrees.result _ c.in_ok-agrees.was (c.agrees.ensures scene solved.0) in
    (agreed.0, record { solves = solved.1; agrees = agreed.1; each_counts = read.1 })
