use Rattle.std.proofs.Common.{get_or, map}
use Rattle.std.proofs.lemmas.Option.{slice_get-get_or}
use Rattle.task_core.specs.Tasks.{system_of}
use Rattle.plan_rules.specs.Rules.{context_rule_of}
use Rattle.plan_witness.proofs.Counting.{bad_action, no_action}
use Rattle.plan_witness.proofs.Taken.{get_mapped}
use Rattle.plan_witness.proofs.reasons.has_bad_action.Goals as goal

pub returns-in-Some : goal.returns-in-Some
returns-in-Some c =
    let r = get_or c.args.rules.now c.in-Some.number c.index-rules-number.result in
    let at = get_mapped context_rule_of c.args.rules.now c.in-Some.number r (slice_get-get_or c.args.rules.now c.in-Some.number c.index-rules-number.result c.in-Some.ensures.within) in
    bad_action (system_of c.args.task.now) (map context_rule_of c.args.rules.now) _ c.in-Some.number c.in-Some.ensures.counts.0 (context_rule_of r) c.is_exec.result c.in-Some.ensures.counts.1 at c.is_exec.ensures.executable

pub returns-in-None : goal.returns-in-None
returns-in-None c = no_action (system_of c.args.task.now) (map context_rule_of c.args.rules.now) _ c.in-None.ensures.none
