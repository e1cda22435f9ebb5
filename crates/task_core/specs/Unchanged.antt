-- Private: uncertain entries that change no state, since all of their literals hold in each.
use Rattle.std.specs.Prelude.{◌≡◌, Bool, false, List, [], ◌∷◌, ◌++◌}
use Rattle.std.specs.List.{list_all, list_any}
use Rattle.task_core.specs.Initial.{Entry}
use Rattle.task_core.specs.States.{truth}
use Rattle.task_core.specs.Vectors.{Vector, same_value, same_vector}
use Rattle.task_core.specs.declared.literals.Lit.{Lit}
use Rattle.task_core.specs.declared.states.State.{State}

-- whether a literal holds in a state, and in each of some
abbrev pub lit_holds : State → Lit → Bool
lit_holds state lit = same_value lit.positive (truth state lit.fluent.0)

abbrev pub holds_in_each : List State → Lit → Bool
holds_in_each states lit = list_all (λ state. lit_holds state lit) states

-- whether an entry changes none of some states
abbrev pub changes_none : List State → Entry → Bool
changes_none states entry = list_all (list_all (holds_in_each states)) entry

-- no state is listed twice, nor is one of those before
abbrev pub AreOnce : List Vector → List Vector → Type 0
AreOnce before [] = Unit {0}
AreOnce before (v ∷ vs) =
    (list_any (same_vector v) before ≡ false) × AreOnce (before ++ v ∷ []) vs
