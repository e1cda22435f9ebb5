use Rattle.std.proofs.Common.{get_or, map, refl}
use Rattle.std.proofs.lemmas.Option.{slice_get-get_or}
use Rattle.task_core.specs.Tasks.{system_of}
use Rattle.plan_rules.specs.Rules.{context_rule_of}
use Rattle.plan_witness.proofs.Counting.{by_counting, no_rule}
use Rattle.plan_witness.proofs.Taken.{get_mapped}
use Rattle.plan_witness.proofs.steps.context_step.Goals as goal

pub counting_number-number-requires-clause-some : goal.counting_number-number-requires-clause-some
counting_number-number-requires-clause-some c = λ none. no_rule (system_of c.args.task.now) (map context_rule_of c.args.rules.now) _ _ none c.requires.follows

pub outcome_between-outcome-requires-clause-some : goal.outcome_between-outcome-requires-clause-some
outcome_between-outcome-requires-clause-some c =
    let r = get_or c.args.rules.now c.counting_number-number.result c.index-rules-number.result in
    let counts = c.counting_number-number.ensures.counts in
    let at = get_mapped context_rule_of c.args.rules.now c.counting_number-number.result r (slice_get-get_or c.args.rules.now c.counting_number-number.result c.index-rules-number.result c.counting_number-number.ensures.within) in
    (by_counting (system_of c.args.task.now) (map context_rule_of c.args.rules.now) _ _ c.counting_number-number.result counts.0 (context_rule_of r) counts.1 at c.requires.follows).by.outcome

pub returns : goal.returns
returns c =
    let r = get_or c.args.rules.now c.counting_number-number.result c.index-rules-number.result in
    let counts = c.counting_number-number.ensures.counts in
    let at = get_mapped context_rule_of c.args.rules.now c.counting_number-number.result r (slice_get-get_or c.args.rules.now c.counting_number-number.result c.index-rules-number.result c.counting_number-number.ensures.within) in
    let b = by_counting (system_of c.args.task.now) (map context_rule_of c.args.rules.now) _ _ c.counting_number-number.result counts.0 (context_rule_of r) counts.1 at c.requires.follows in
    record {
      rule = context_rule_of r;
      counts = b.counts;
      acts = refl;
      outcome = record { below = c.outcome_between-outcome.ensures.below; leads = c.outcome_between-outcome.ensures.leads };
      onward = b.by.onward;
    }
