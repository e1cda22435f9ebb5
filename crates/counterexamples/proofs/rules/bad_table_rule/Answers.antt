use Rattle.std.proofs.Common.{◌≡◌, get_or, map, slice_get, Some, sym, ap, ◌∙◌, subst}
use Rattle.std.proofs.lemmas.Option.{same_Some, slice_get-get_or}
use Rattle.task_core.specs.States.{vector}
use Rattle.task_core.specs.Systems.{Exec}
use Rattle.task_core.specs.Tasks.{fluent_count, system_of}
use Rattle.plan_rules.specs.Rules.{PlanRule, rule_of}
use Rattle.plan_witness.proofs.Taken.{get_mapped}
use Rattle.counterexamples.proofs.rules.bad_table_rule.Goals as goal

pub returns-clause-counts : goal.returns-clause-counts
returns-clause-counts c =
    let number = c.in_ok-number.number in
    let r = get_or c.args.rules.now number c.index-rules-number.result in
    let b = c.in_ok-number.ensures.bad in
    let at : slice_get (map rule_of c.args.rules.now) number ≡ Some (rule_of r) = get_mapped rule_of c.args.rules.now number r (slice_get-get_or c.args.rules.now number c.index-rules-number.result c.in_ok-number.ensures.below) in
    let same : b.rule ≡ rule_of r = same_Some b.rule (rule_of r) (sym b.numbered ∙ at) in
    record { rule = b.rule; numbered = b.numbered; matched = b.matched; acts = ap (λ (x : PlanRule). x.action) same }

pub returns-clause-refused : goal.returns-clause-refused
returns-clause-refused c =
    let number = c.in_ok-number.number in
    let r = get_or c.args.rules.now number c.index-rules-number.result in
    let b = c.in_ok-number.ensures.bad in
    let at : slice_get (map rule_of c.args.rules.now) number ≡ Some (rule_of r) = get_mapped rule_of c.args.rules.now number r (slice_get-get_or c.args.rules.now number c.index-rules-number.result c.in_ok-number.ensures.below) in
    subst (λ (x : PlanRule). Exec (system_of c.args.task.now) (vector (fluent_count c.args.task.now) c.args.state.now) x.action → ⊥) (same_Some b.rule (rule_of r) (sym b.numbered ∙ at)) b.refused
