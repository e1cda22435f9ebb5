use Rattle.std.proofs.Common.{◌∙◌, ap, map, Some, sym}
use Rattle.std.proofs.lemmas.Option.{slice_get-get_or}
use Rattle.task_core.specs.ContextPlans.{Configuration}
use Rattle.task_core.specs.States.{vector}
use Rattle.task_core.specs.Tasks.{fluent_count, system_of}
use Rattle.plan_rules.specs.Rules.{context_rule_of}
use Rattle.plan_witness.proofs.Taken.{get_mapped}
use Rattle.counterexamples.proofs.Stuck.{loses, loses_by}
use Rattle.counterexamples.proofs.endings.unfinished_by.Goals as goal

pub lost_number-outcome-requires-clause-loses : goal.lost_number-outcome-requires-clause-loses
lost_number-outcome-requires-clause-loses c =
    let x : Configuration = record { state = vector (fluent_count c.args.task.now) c.args.state.now; context = c.args.context } in
    let rules = c.args.rules.now in
    let number = c.in-Some.number in
    let r = c.index-rules-number.result in
    let at = get_mapped context_rule_of rules number r (slice_get-get_or rules number r c.in-Some.ensures.within ∙ ap Some (sym c.index-rules-number.is)) in
    loses (system_of c.args.task.now) (map context_rule_of rules) x number c.in-Some.ensures.counts.0 (context_rule_of r) c.in-Some.ensures.counts.1 at c.requires.aim

pub returns-in-Some : goal.returns-in-Some
returns-in-Some c =
    let x : Configuration = record { state = vector (fluent_count c.args.task.now) c.args.state.now; context = c.args.context } in
    let rules = c.args.rules.now in
    let number = c.in-Some.number in
    let r = c.index-rules-number.result in
    let at = get_mapped context_rule_of rules number r (slice_get-get_or rules number r c.in-Some.ensures.within ∙ ap Some (sym c.index-rules-number.is)) in
    λ contexts. loses_by (system_of c.args.task.now) (map context_rule_of rules) x number c.lost_number-outcome.result c.in-Some.ensures.counts.0 (context_rule_of r) c.in-Some.ensures.counts.1 at c.lost_number-outcome.ensures
