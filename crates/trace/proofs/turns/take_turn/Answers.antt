use Rattle.task_core.specs.States.{vector}
use Rattle.task_core.specs.Tasks.{fluent_count, system_of}
use Rattle.trace.specs.Indexed.{rules_in, run_rule_value}
use Rattle.trace.specs.Turns.{numbers_left}
use Rattle.trace.proofs.Turned.{by_rule, no_context, no_rule}
use Rattle.trace.proofs.turns.take_turn.Goals as goal

pub returns-in_default-clause-turn : goal.returns-in_default-clause-turn
returns-in_default-clause-turn c = λ words.
    let at = c.args.at.now in
    let left = numbers_left at.word words in
    (left, no_context (system_of c.args.task.now) (rules_in c.args.rules.now) at.full at.number (vector (fluent_count c.args.task.now) at.state.now) at.context left c.in_default.is)

pub returns-in-None-clause-turn : goal.returns-in-None-clause-turn
returns-in-None-clause-turn c = λ words.
    let at = c.args.at.now in
    let left = numbers_left at.word words in
    (left, no_rule (system_of c.args.task.now) (rules_in c.args.rules.now) at.full at.number (vector (fluent_count c.args.task.now) at.state.now) at.context c.in-Some.context left c.in-Some.is c.in-None.ensures.none)

pub returns-in-Some-rule_in-clause-turn : goal.returns-in-Some-rule_in-clause-turn
returns-in-Some-rule_in-clause-turn c = λ words.
    let at = c.args.at.now in
    let chosen = c.in-Some-rule_in.chosen in
    by_rule (fluent_count c.args.task.now) c.follow.result words (system_of c.args.task.now) (rules_in c.args.rules.now) at.full at.number (vector (fluent_count c.args.task.now) at.state.now) at.context c.in-Some.context
    (numbers_left at.word words) chosen.number (run_rule_value chosen.rule) c.in-Some.is c.in-Some-rule_in.ensures.counts (c.follow.ensures.turn words)
