-- What was found, or wasn't, and labels that are read as they were made.
use Rattle.std.proofs.Common.{◌≡◌, ◌<◌, ℕ, Bool, List, Option, None, sym, subst}
use Rattle.std.specs.Prelude.{IfNone}
use Rattle.ctl_syntax.specs.Goals.{CtlTree}
use Rattle.plan_check.specs.Labels.{ShowsGoal, mark_at}
use Rattle.task_core.specs.Tasks.{fluent_count}
use Rattle.task_core.specs.declared.conditions.Cond.{Cond}
use Rattle.goal_witness.specs.Scenes.{size_in}
use Rattle.plan_witness.specs.declared.scenes.Scene.{Scene}

pub none_of : {T : Type 0} (o : Option T) (A : Type 0) → o ≡ None → IfNone o A → A
none_of o A is h = subst (λ (p : Option _). IfNone p A) is h

pub shows_as : (scene : Scene) (goal : CtlTree Cond) (marks read : List Bool) → read ≡ marks → ShowsGoal (fluent_count scene.task.now) scene.graph.now goal marks → ShowsGoal (fluent_count scene.task.now) scene.graph.now goal read
shows_as scene goal marks read is = subst (λ ms. ShowsGoal (fluent_count scene.task.now) scene.graph.now goal ms) (sym is)

pub same_as : (scene : Scene) (marks read : List Bool) (b : Bool) → read ≡ marks → ((i : ℕ) → i < size_in scene → mark_at marks i ≡ b) → (i : ℕ) → i < size_in scene → mark_at read i ≡ b
same_as scene marks read b is = subst (λ ms. (i : ℕ) → i < size_in scene → mark_at ms i ≡ b) (sym is)
