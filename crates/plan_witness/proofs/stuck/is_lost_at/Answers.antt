use Rattle.std.proofs.Common.{None, Some, sym, ap, ◌∙◌}
use Rattle.std.proofs.lemmas.Bool.{cond-false, cond-true, false≢true}
use Rattle.std.proofs.lemmas.Option.{none-some, same_Some}
use Rattle.task_core.specs.States.{vector}
use Rattle.task_core.specs.Tasks.{fluent_count, in_space}
use Rattle.plan_rules.specs.Denoted.{next_context}
use Rattle.plan_rules.specs.Rules.{next_of}
use Rattle.plan_witness.proofs.stuck.is_lost_at.Goals as goal

pub returns-then-not-in_space : goal.returns-then-not-in_space
returns-then-not-in_space c =
    let v = vector (fluent_count c.args.task.now) c.step-after.result in
    let none = c.step-after.ensures.numbered c.requires.executable ∙ cond-false (in_space c.args.task.now v) (Some v) None (sym c.in_space.ensures.value ∙ c.if-not-in_space.true) in (
      (λ e. absurd (false≢true e)),
      (λ l. absurd (none-some l.after (sym none ∙ l.leads))),
    )

pub returns : goal.returns
returns c =
    let v = vector (fluent_count c.args.task.now) c.step-after.result in
    let some = c.step-after.ensures.numbered c.requires.executable ∙ cond-true (in_space c.args.task.now v) (Some v) None (sym c.in_space.ensures.value ∙ c.if-not-in_space.false) in (
      (λ e. record { after = v; leads = some; lost = c.has_no_next.ensures.0 e }),
      (λ l. c.has_no_next.ensures.1 (ap (next_context (next_of c.args.rule.now.next)) (same_Some v l.after (sym some ∙ l.leads)) ∙ l.lost)),
    )
