-- Verdicts go over from one property of configurations to another.
use Rattle.std.proofs.Common.{◌↔◌}
use Rattle.plan_check.specs.ContextVerdicts.{HasContextReason, IsContextVerdict, IsFreeOfContextReason}
use Rattle.plan_check.specs.declared.verdicts.Reason.{Reason}
use Rattle.plan_check.specs.declared.verdicts.Reason.TheVariants.{Unexecutable, Stuck, Terminal, Cycle, Unreachable, Formula}
use Rattle.plan_check.specs.declared.verdicts.Verdict.{Verdict}
use Rattle.plan_check.specs.declared.verdicts.Verdict.TheVariants.{Yes, No}
use Rattle.task_core.specs.ContextPlans.{Configuration, ContextPlan}
use Rattle.task_core.specs.Systems.{System}

-- a verdict for one property of configurations is that for another that holds at the same ones
module _ (sys : System) (plan : ContextPlan) (G H : Configuration → Type 0) (same : (x : Configuration) → G x ↔ H x) where
  free_carried : (reason : Reason) → IsFreeOfContextReason sys plan G reason → IsFreeOfContextReason sys plan H reason
  free_carried Unexecutable free = free
  free_carried Stuck free = free
  free_carried Terminal free = free
  free_carried Cycle free = free
  free_carried Unreachable free = free
  free_carried Formula free = λ x initial. (same x).0 (free x initial)

  reason_carried : (reason : Reason) → HasContextReason sys plan G reason → HasContextReason sys plan H reason
  reason_carried Unexecutable has = has
  reason_carried Stuck has = has
  reason_carried Terminal has = has
  reason_carried Cycle has = has
  reason_carried Unreachable has = has
  reason_carried Formula has = record { start = has.start; initial = has.initial; misses = λ h. has.misses ((same has.start).1 h) }

  pub verdict_carried : (verdict : Verdict) → IsContextVerdict sys plan G verdict → IsContextVerdict sys plan H verdict
  verdict_carried (Yes bound) is = record { free = λ reason. free_carried reason (is.free reason); unbounded = is.unbounded }
  verdict_carried (No reason) is = record { has = reason_carried reason is.has; first = λ earlier before. free_carried earlier (is.first earlier before) }
