-- The tests by which layers and plans are defined: whether vectors are the same, and whether an
-- action is the one that was chosen; and that an action with an outcome can be executed.
use Rattle.std.proofs.Common.{◌≡◌, ℕ, true, Option, None, Some, refl, sym, ap, ◌∙◌, subst}
use Rattle.std.specs.List.{Contains}
use Rattle.std.proofs.lemmas.Bool.{false≢true, eqb-true, eq-eqb}
use Rattle.task_core.specs.Vectors.{Vector}
use Rattle.task_core.specs.Systems.{System, Exec, HasOutcome}
use Rattle.plan_theory.specs.LayerPlans.{is_action}
use Rattle.list_laws.proofs.Elements.{Contains-nil}
pub use Rattle.task_core.proofs.Vectors.{same_vector_refl as same_vector-itself, same_value_equal as same_value-true, same_vector_equal as same_vector-true}

-- an action with an outcome can be executed
pub HasOutcome-Exec : (sys : System) (s : Vector) (a : ℕ) (t : Vector) → HasOutcome sys s a t → Exec sys s a
HasOutcome-Exec sys s a t o e = Contains-nil t (subst (λ ts. Contains ts t) e o)

-- whether the action is a
pub is_action-Some : (a : ℕ) (o : Option ℕ) → is_action a o ≡ true → o ≡ Some a
is_action-Some a None h = absurd (false≢true h)
is_action-Some a (Some b) h = ap Some (sym (eqb-true a b h))

pub is_action-from : (a : ℕ) (o : Option ℕ) → o ≡ Some a → is_action a o ≡ true
is_action-from a o e = ap (is_action a) e ∙ eq-eqb a a refl
