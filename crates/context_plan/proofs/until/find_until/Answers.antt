use Rattle.list_laws.proofs.Options.{some_has}
use Rattle.context_plan.proofs.FitSteps.{widest}
use Rattle.task_core.specs.Tasks.{fluent_count}
use Rattle.std.proofs.Common.{◌≡◌, ◌+◌, ◌^◌, arith, length}
use Rattle.std.proofs.lemmas.Result.{err_from_is_err_and}
use Rattle.context_plan.specs.Chains.{until_sets}
use Rattle.context_plan.specs.Tables.{start_of}
use Rattle.context_plan.proofs.PlanSteps.{room_of}
use Rattle.context_plan.proofs.until.find_until.Goals as goal

pub close_as_plan-requires-clause-ready : goal.close_as_plan-requires-clause-ready
close_as_plan-requires-clause-ready c =
    let wide = widest c.args.task.now c.args.chain.now in
    let start = start_of c.args.task.now c.args.enc.now c.requires.made (length c.args.chain.now.stages.items) (2 ^ fluent_count c.args.task.now + 1) wide.fluents in
    let table = some_has _ _ c.in-Some.board c.in-Some.is (c.in_ok-board.ensures.table c.requires.made (2 ^ fluent_count c.args.task.now + 1) wide) in
    let n : length c.args.chain.now.stages.items ≡ c.len-stages.result = omega (arith, c.len-stages.ensures) in
    (start, (until_sets c.args.chain.now), n, table)

pub returns-in_err-plan-in-Some-clause-slots : goal.returns-in_err-plan-in-Some-clause-slots
returns-in_err-plan-in-Some-clause-slots c =
    let wide = widest c.args.task.now c.args.chain.now in
    let start = start_of c.args.task.now c.args.enc.now c.requires.made (length c.args.chain.now.stages.items) (2 ^ fluent_count c.args.task.now + 1) wide.fluents in
    let table = some_has _ _ c.in-Some.board c.in-Some.is (c.in_ok-board.ensures.table c.requires.made (2 ^ fluent_count c.args.task.now + 1) wide) in
    let n : length c.args.chain.now.stages.items ≡ c.len-stages.result = omega (arith, c.len-stages.ensures) in
    c.close_as_plan.ensures.slots start (until_sets c.args.chain.now) n table

pub returns-in_ok-plan-in-Some-clause-slots : goal.returns-in_ok-plan-in-Some-clause-slots
returns-in_ok-plan-in-Some-clause-slots c =
    let wide = widest c.args.task.now c.args.chain.now in
    let start = start_of c.args.task.now c.args.enc.now c.requires.made (length c.args.chain.now.stages.items) (2 ^ fluent_count c.args.task.now + 1) wide.fluents in
    let table = some_has _ _ c.in-Some.board c.in-Some.is (c.in_ok-board.ensures.table c.requires.made (2 ^ fluent_count c.args.task.now + 1) wide) in
    let n : length c.args.chain.now.stages.items ≡ c.len-stages.result = omega (arith, c.len-stages.ensures) in
    c.close_as_plan.ensures.slots start (until_sets c.args.chain.now) n table

pub returns-in_err-plan-in-Some-clause-same_slots : goal.returns-in_err-plan-in-Some-clause-same_slots
returns-in_err-plan-in-Some-clause-same_slots c =
    let wide = widest c.args.task.now c.args.chain.now in
    let start = start_of c.args.task.now c.args.enc.now c.requires.made (length c.args.chain.now.stages.items) (2 ^ fluent_count c.args.task.now + 1) wide.fluents in
    let table = some_has _ _ c.in-Some.board c.in-Some.is (c.in_ok-board.ensures.table c.requires.made (2 ^ fluent_count c.args.task.now + 1) wide) in
    let n : length c.args.chain.now.stages.items ≡ c.len-stages.result = omega (arith, c.len-stages.ensures) in
    c.close_as_plan.ensures.same_slots start (until_sets c.args.chain.now) n table

pub returns-in_ok-plan-in-Some-clause-same_slots : goal.returns-in_ok-plan-in-Some-clause-same_slots
returns-in_ok-plan-in-Some-clause-same_slots c =
    let wide = widest c.args.task.now c.args.chain.now in
    let start = start_of c.args.task.now c.args.enc.now c.requires.made (length c.args.chain.now.stages.items) (2 ^ fluent_count c.args.task.now + 1) wide.fluents in
    let table = some_has _ _ c.in-Some.board c.in-Some.is (c.in_ok-board.ensures.table c.requires.made (2 ^ fluent_count c.args.task.now + 1) wide) in
    let n : length c.args.chain.now.stages.items ≡ c.len-stages.result = omega (arith, c.len-stages.ensures) in
    c.close_as_plan.ensures.same_slots start (until_sets c.args.chain.now) n table

pub returns-in_ok-plan-in-Some-clause-answer : goal.returns-in_ok-plan-in-Some-clause-answer
returns-in_ok-plan-in-Some-clause-answer c =
    let wide = widest c.args.task.now c.args.chain.now in
    let start = start_of c.args.task.now c.args.enc.now c.requires.made (length c.args.chain.now.stages.items) (2 ^ fluent_count c.args.task.now + 1) wide.fluents in
    let table = some_has _ _ c.in-Some.board c.in-Some.is (c.in_ok-board.ensures.table c.requires.made (2 ^ fluent_count c.args.task.now + 1) wide) in
    let n : length c.args.chain.now.stages.items ≡ c.len-stages.result = omega (arith, c.len-stages.ensures) in
    c.in_ok-plan-in-Some.ensures.plan start (until_sets c.args.chain.now) n table

pub returns-in_err-plan-in-Some-clause-full : goal.returns-in_err-plan-in-Some-clause-full
returns-in_err-plan-in-Some-clause-full c full w wide =
    let start = start_of c.args.task.now c.args.enc.now c.requires.made (length c.args.chain.now.stages.items) w wide.fluents in
    let table = some_has _ _ c.in-Some.board c.in-Some.is (c.in_ok-board.ensures.table c.requires.made w wide) in
    let n : length c.args.chain.now.stages.items ≡ c.len-stages.result = omega (arith, c.len-stages.ensures) in
    let p = err_from_is_err_and c.from_residual-in_err-plan-in-Some.result c.from_residual-in_err-plan-in-Some.ensures.1 in
    room_of start c.close_as_plan.new.enc (c.close_as_plan.ensures.full start (until_sets c.args.chain.now) n table (let a = c.in_err-plan-in-Some.was in let b = p.1 in let d = p.2 in let f = full in cc))

pub returns-in_err-board-clause-full : goal.returns-in_err-board-clause-full
returns-in_err-board-clause-full c full w wide =
    let p = err_from_is_err_and c.from_residual.result c.from_residual.ensures.1 in
    c.until_takers.ensures.full (let a = c.in_err-board.was in let b = p.1 in let d = p.2 in let f = full in cc) w wide
