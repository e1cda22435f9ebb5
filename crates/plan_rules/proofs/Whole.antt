-- What is said of a whole text, from what is said of its forms.
use Rattle.std.proofs.Common.{◌≡◌, ℕ, ◌+◌, List, [], ◌∷◌, length, ap, ◌∙◌, inr}
use Rattle.std.specs.Prelude.{Some, Result, Ok, Err, IfOk, IfErr}
use Rattle.sexpr_text.specs.declared.faults.ReadErr.{ReadErr}
use Rattle.sexpr_text.specs.declared.faults.ReadErr.TheVariants.{Fault, Memory}
use Rattle.sexpr_text.specs.Flaws.{first_listed, fault_of_passes}
use Rattle.sexpr_text.specs.Forest.{Forest}
use Rattle.sexpr_text.specs.Formed.{IsRising}
use Rattle.sexpr_text.specs.Passes.{IfFault}
use Rattle.sexpr_text.specs.Spelling.{SpellsTrees}
use Rattle.sexpr_text.proofs.FlawLaws.{passes-none, passes-end, passes-first}
use Rattle.task_core.specs.Names.{Name}
use Rattle.plan_rules.specs.declared.rules.PlanRead.{PlanRead}
use Rattle.plan_rules.specs.Plans.{IsPlainPlanOf}
use Rattle.plan_rules.specs.Readings.{text_flaws, plan_read, SpellsPlanAt, HasPlanFault}
use Rattle.plan_rules.specs.Rules.{plain_of}
use Rattle.plan_rules.proofs.InOrder.{text_flaws-in_order}
use Rattle.plan_rules.proofs.InTask.{read-in_task}

-- what the readers of forms say
pub record IsReadFrom (fluents actions : List Name) (trees : Forest) (r : Result PlanRead ReadErr) : Type 0 where
  pub sound : IfOk r (λ _. text_flaws fluents actions trees ≡ [])
  pub read : IfOk r (λ x. plan_read fluents actions trees ≡ Some (plain_of x.plan, x.place))
  pub fault : IfErr r (λ e. IfFault e (λ f. first_listed (text_flaws fluents actions trees) ≡ Some f))

pub whole-read : (fluents actions : List Name) (bytes : List ℕ) (trees : Forest) (r : Result PlanRead ReadErr) → SpellsTrees bytes trees → IsReadFrom fluents actions trees r
    → IfOk r (λ x. SpellsPlanAt fluents actions bytes (plain_of x.plan) x.place)
whole-read fluents actions bytes trees (Err e) s h = tt
whole-read fluents actions bytes trees (Ok x) s h =
    (trees, s, ap (λ flaws. fault_of_passes (flaws ∷ [])) h.sound ∙ (passes-none [] ∙ passes-end), h.read)

pub whole-in_task : (fluents actions : List Name) (trees : Forest) (r : Result PlanRead ReadErr) → IsReadFrom fluents actions trees r
    → IfOk r (λ x. IsPlainPlanOf (length fluents) (length actions) (plain_of x.plan))
whole-in_task fluents actions trees (Err e) h = tt
whole-in_task fluents actions trees (Ok x) h = read-in_task fluents actions trees (plain_of x.plan) x.place h.sound h.read

pub whole-fault : (fluents actions : List Name) (bytes : List ℕ) (size : ℕ) (trees : Forest) (r : Result PlanRead ReadErr) → SpellsTrees bytes trees → IsRising 0 size trees → IsReadFrom fluents actions trees r
    → IfErr r (λ e. IfFault e (HasPlanFault fluents actions bytes))
whole-fault fluents actions bytes size trees (Ok x) s g h = tt
whole-fault fluents actions bytes size trees (Err Memory) s g h = tt
whole-fault fluents actions bytes size trees (Err (Fault f)) s g h =
    inr (trees, s, passes-first 0 (size + 1) (text_flaws fluents actions trees) [] f (text_flaws-in_order fluents actions size trees g) h.fault)
