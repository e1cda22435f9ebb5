use Rattle.std.proofs.Common.{◌↔◌, ◌∙◌, ap, map, not, subst, sym}
use Rattle.std.specs.Prelude.{IsTrue}
use Rattle.std.proofs.lemmas.Bool.{false≢true}
use Rattle.task_core.specs.States.{vector}
use Rattle.task_core.specs.Systems.{Exec}
use Rattle.task_core.specs.Tasks.{fluent_count, system_of}
use Rattle.plan_rules.specs.Rules.{context_rule_of}
use Rattle.plan_witness.proofs.Counting.{bad_action}
use Rattle.counterexamples.proofs.rules.bad_context_rule.Goals as goal

pub returns-then-is_exec-clause-none : goal.returns-then-is_exec-clause-none
returns-then-is_exec-clause-none c =
    let sys = system_of c.args.task.now in
    let v = vector (fluent_count c.args.task.now) c.args.state.now in
    let k = c.in_ok-chosen.ensures.counts in
    let exec : IsTrue c.is_exec.result ↔ Exec sys v k.rule.action = subst (λ a. IsTrue c.is_exec.result ↔ Exec sys v a) (sym k.acts) c.is_exec.ensures.executable in
    λ h. false≢true (ap not (sym c.if-is_exec.true)
    ∙ (bad_action sys (map context_rule_of c.args.rules.now) (record { state = v; context = c.args.context }) c.in_ok-chosen.chosen.number k.rule k.rule c.is_exec.result k.counts k.counts.numbered exec).1 h)
