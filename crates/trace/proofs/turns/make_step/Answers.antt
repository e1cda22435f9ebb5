use Rattle.std.proofs.Common.{◌≡◌, ℕ, ap, refl, subst, sym}
use Rattle.plan_rules.specs.Advices.{onward_value}
use Rattle.plan_rules.specs.Denoted.{next_context}
use Rattle.plan_witness.specs.Runs.{IsCounting}
use Rattle.task_core.specs.States.{vector}
use Rattle.task_core.specs.Tasks.{fluent_count, system_of}
use Rattle.task_core.specs.declared.literals.ActionId.{ActionId}
use Rattle.trace.specs.Indexed.{run_rule_value}
use Rattle.trace.proofs.Turned.{strays}
use Rattle.trace.proofs.turns.make_step.Goals as goal

pub returns-in_default-clause-turn : goal.returns-in_default-clause-turn
returns-in_default-clause-turn c = λ words.
    let at = c.args.at.now in
    let rule = c.args.chosen.now.rule in
    let counting = c.counting_by-counting.result in
    let same : counting.action.0 ≡ rule.action.0 = ap (λ (a : ActionId). a.0) c.counting_by-counting.ensures.action in (
      words,
      strays (system_of c.args.task.now) at.number (vector (fluent_count c.args.task.now) at.state.now) rule.action.0 (next_context (onward_value rule.onward)) c.args.word words counting.action.0 c.outcome_count-outcomes.result
          same c.in_default.ensures.value c.outcome_count-outcomes.ensures,
    )

pub returns-clause-ruled : goal.returns-clause-ruled
returns-clause-ruled c = λ rules context counts.
    let s = vector (fluent_count c.args.task.now) c.args.at.now.state.now in
    let rule = run_rule_value c.args.chosen.now.rule in
    record {
      counts = record {
        context = context;
        there = refl;
        rule = rule;
        counts = subst (λ (k : ℕ). IsCounting rules (record { state = s; context = context }) k rule) (sym c.counting_by-counting.ensures.rule) counts;
        acts = sym (ap (λ (a : ActionId). a.0) c.counting_by-counting.ensures.action);
      };
      onward = c.context_in.ensures;
    }
