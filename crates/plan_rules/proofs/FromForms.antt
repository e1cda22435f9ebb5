-- The reader of a text's forms, with the names of a task.
use Rattle.std.proofs.Common.{◌≡◌, List, length, subst}
use Rattle.std.specs.Prelude.{Result, IfOk}
use Rattle.std.proofs.lemmas.List.{length-map}
use Rattle.sexpr_text.specs.declared.faults.ReadErr.{ReadErr}
use Rattle.sexpr_text.specs.declared.forms.Form.{Form}
use Rattle.sexpr_text.specs.Forest.{forest_of}
use Rattle.task_core.specs.Names.{Name, name_bytes, name_of}
use Rattle.task_core.specs.Tasks.{fluent_names, action_names, fluent_count, action_count}
use Rattle.task_core.specs.declared.tasks.Task.{Task}
use Rattle.plan_rules.specs.declared.rules.PlanRead.{PlanRead}
use Rattle.plan_rules.specs.Plans.{IsPlanOf}
use Rattle.plan_rules.proofs.Whole.{IsReadFrom, whole-in_task}

pub with_names : (fs gs acts bs : List Name) (xs ys : List Form) (r : Result PlanRead ReadErr) → fs ≡ gs → acts ≡ bs → xs ≡ ys
    → IsReadFrom fs acts (forest_of xs) r → IsReadFrom gs bs (forest_of ys) r
with_names fs gs acts bs xs ys r e f g h =
    subst (λ (ns : List Name). IsReadFrom ns bs (forest_of ys) r) e
    (subst (λ (ns : List Name). IsReadFrom fs ns (forest_of ys) r) f
    (subst (λ (zs : List Form). IsReadFrom fs acts (forest_of zs) r) g h))

pub in_task : (task : Task) (xs : List Form) (r : Result PlanRead ReadErr) → IsReadFrom (fluent_names task) (action_names task) (forest_of xs) r
    → IfOk r (λ x. IsPlanOf (fluent_count task) (action_count task) x.plan)
in_task task xs r h =
    subst (λ n. IfOk r (λ x. IsPlanOf n (action_count task) x.plan)) (length-map task.fluents.items name_bytes)
    (subst (λ n. IfOk r (λ x. IsPlanOf (length (fluent_names task)) n x.plan)) (length-map task.actions.items name_of)
    (whole-in_task (fluent_names task) (action_names task) (forest_of xs) r h))
