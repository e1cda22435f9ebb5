use Rattle.std.proofs.Common.{◌≡◌, ◌∙◌, false, true, sym, ap}
use Rattle.plan_rules.specs.Advices.{advised_by}
use Rattle.plan_rules.specs.Denoted.{can_execute}
use Rattle.task_core.specs.States.{vector}
use Rattle.task_core.specs.Tasks.{fluent_count, system_of}
use Rattle.task_core.specs.declared.literals.ActionId.{ActionId}
use Rattle.trace.specs.Indexed.{run_rule_value}
use Rattle.trace.specs.Turns.{numbers_left}
use Rattle.trace.proofs.Turned.{full_up, refused}
use Rattle.trace.proofs.turns.follow.Goals as goal

pub returns-then-not-is_executable-clause-turn : goal.returns-then-not-is_executable-clause-turn
returns-then-not-is_executable-clause-turn c = λ words.
    let at = c.args.at.now in
    let sys = system_of c.args.task.now in
    let s = vector (fluent_count c.args.task.now) at.state.now in
    let left = numbers_left at.word words in
    let rule = run_rule_value c.args.chosen.now.rule in
    let same : can_execute sys s c.counting_by-counting.result.action.0 ≡ can_execute sys s rule.action = ap (λ (a : ActionId). can_execute sys s a.0) c.counting_by-counting.ensures.action in
    let can : can_execute sys s rule.action ≡ false = sym (c.is_executable.ensures.value ∙ same) ∙ c.if-not-is_executable.true in
    (left, refused sys at.full at.number s left (advised_by rule) can)

pub returns-then-at-clause-turn : goal.returns-then-at-clause-turn
returns-then-at-clause-turn c = λ words.
    let at = c.args.at.now in
    let sys = system_of c.args.task.now in
    let s = vector (fluent_count c.args.task.now) at.state.now in
    let left = numbers_left at.word words in
    let rule = run_rule_value c.args.chosen.now.rule in
    let same : can_execute sys s c.counting_by-counting.result.action.0 ≡ can_execute sys s rule.action = ap (λ (a : ActionId). can_execute sys s a.0) c.counting_by-counting.ensures.action in
    let can : can_execute sys s rule.action ≡ true = sym (c.is_executable.ensures.value ∙ same) ∙ c.if-not-is_executable.false in
    (left, full_up sys at.full at.number s left (advised_by rule) can c.if-at.true)
