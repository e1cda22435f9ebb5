use Rattle.std.proofs.Common.{◌≡◌, ◌↔◌, get_or, map, true, subst}
use Rattle.std.proofs.lemmas.Option.{slice_get-get_or}
use Rattle.task_core.specs.States.{vector}
use Rattle.task_core.specs.Tasks.{fluent_count, system_of}
use Rattle.plan_rules.specs.Rules.{context_rule_of}
use Rattle.plan_rules.specs.declared.rules.AutoRule.{AutoRule}
use Rattle.plan_witness.specs.Ends.{LosesOutcome}
use Rattle.plan_witness.proofs.Counting.{stuck_by, stuck_nowhere}
use Rattle.plan_witness.proofs.Taken.{get_mapped}
use Rattle.plan_witness.proofs.stuck.is_without_next.Goals as goal

pub returns-in-Some : goal.returns-in-Some
returns-in-Some c =
    let r = get_or c.args.rules.now c.in-Some.number c.index-rules-number.result in
    let at = get_mapped context_rule_of c.args.rules.now c.in-Some.number r (slice_get-get_or c.args.rules.now c.in-Some.number c.index-rules-number.result c.in-Some.ensures.within) in
    stuck_by (system_of c.args.task.now) (map context_rule_of c.args.rules.now) _ c.in-Some.number c.in-Some.ensures.counts.0 (context_rule_of r) c.loses_outcome.result c.in-Some.ensures.counts.1 at
    (subst (λ (rule : AutoRule). (c.loses_outcome.result ≡ true) ↔ LosesOutcome (system_of c.args.task.now) (context_rule_of rule) (vector (fluent_count c.args.task.now) c.args.state.now)) c.index-rules-number.is c.loses_outcome.ensures)

pub returns-in-None : goal.returns-in-None
returns-in-None c = stuck_nowhere (system_of c.args.task.now) (map context_rule_of c.args.rules.now) _ c.in-None.ensures.none
