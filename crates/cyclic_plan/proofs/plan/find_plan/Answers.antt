use Rattle.std.proofs.Common.{◌+◌, ◌^◌}
use Rattle.std.proofs.lemmas.Result.{err_from_is_err_and}
use Rattle.list_laws.proofs.Options.{some_has}
use Rattle.task_core.specs.Tasks.{fluent_count}
use Rattle.encode_task.proofs.PartLemmas.{same_refusal_of}
use Rattle.cyclic_plan.proofs.Answered.{any_start}
use Rattle.cyclic_plan.proofs.Fitting.{all_wide}
use Rattle.cyclic_plan.proofs.plan.find_plan.Goals as goal

pub close_as_plan-requires-clause-ready : goal.close_as_plan-requires-clause-ready
close_as_plan-requires-clause-ready c =
    (any_start c.args.task.now c.args.enc.now c.requires.made, some_has _ _ c.in-Some.board c.in-Some.is (c.in_ok-board.ensures.table c.requires.made (2 ^ fluent_count c.args.task.now + 1) (all_wide c.args.task.now)))

pub returns-in_err-plan-in-Some-clause-slots : goal.returns-in_err-plan-in-Some-clause-slots
returns-in_err-plan-in-Some-clause-slots c =
    let start = any_start c.args.task.now c.args.enc.now c.requires.made in
    c.close_as_plan.ensures.slots start (some_has _ _ c.in-Some.board c.in-Some.is (c.in_ok-board.ensures.table c.requires.made (2 ^ fluent_count c.args.task.now + 1) (all_wide c.args.task.now)))

pub returns-in_ok-plan-in-Some-clause-slots : goal.returns-in_ok-plan-in-Some-clause-slots
returns-in_ok-plan-in-Some-clause-slots c =
    let start = any_start c.args.task.now c.args.enc.now c.requires.made in
    c.close_as_plan.ensures.slots start (some_has _ _ c.in-Some.board c.in-Some.is (c.in_ok-board.ensures.table c.requires.made (2 ^ fluent_count c.args.task.now + 1) (all_wide c.args.task.now)))

pub returns-in_ok-plan-in-Some-clause-answer : goal.returns-in_ok-plan-in-Some-clause-answer
returns-in_ok-plan-in-Some-clause-answer c =
    let start = any_start c.args.task.now c.args.enc.now c.requires.made in
    c.in_ok-plan-in-Some.ensures.plan start (some_has _ _ c.in-Some.board c.in-Some.is (c.in_ok-board.ensures.table c.requires.made (2 ^ fluent_count c.args.task.now + 1) (all_wide c.args.task.now)))

pub returns-in_err-board-clause-full : goal.returns-in_err-board-clause-full
returns-in_err-board-clause-full c full width wide =
    let p = err_from_is_err_and c.from_residual.result c.from_residual.ensures.1 in
    c.cyclic_takers.ensures.full (same_refusal_of c.cyclic_takers.result c.from_residual.result _ c.in_err-board.was p full) width wide
