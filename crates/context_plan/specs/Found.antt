-- What a search for a plan with contexts found.
use Rattle.std.specs.Prelude.{⊤}
use Rattle.plan_rules.specs.declared.rules.AutoPlan.{AutoPlan}
use Rattle.context_plan.specs.declared.found.FoundAuto.{FoundAuto}
use Rattle.context_plan.specs.declared.found.FoundAuto.TheVariants.{NoPlan, Plan}

-- P holds of the plan, if there is one
abbrev pub IfPlan : FoundAuto → (AutoPlan → Type 0) → Type 0
IfPlan (Plan plan) P = P plan
IfPlan NoPlan P = ⊤

-- Q holds, if there is no plan
abbrev pub IfNoPlan : FoundAuto → Type 0 → Type 0
IfNoPlan (Plan plan) Q = ⊤
IfNoPlan NoPlan Q = Q
