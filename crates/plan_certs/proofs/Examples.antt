-- Small systems, and certificates that there is no plan for them.
use Rattle.std.proofs.Common.{◌≡◌, ℕ, zero, suc, ◌<◌, true, false, List, [], ◌∷◌, get_or, refl, subst, arith}
use Rattle.std.specs.Prelude.{slice_get}
use Rattle.task_core.specs.Cubes.{literal}
use Rattle.task_core.specs.Systems.{System}
use Rattle.task_core.specs.Vectors.{Vector}
use Rattle.task_core.specs.declared.classes.Class.TheVariants.{Weak, Strong, Cyclic}
use Rattle.plan_certs.specs.Certificates.{CubeSet, HasNoWayOut, HoldsNoGoal, IsAccepted, PlainCertificate, holds_state, is_no_way_out, some_holds}
use Rattle.list_laws.proofs.Elements.{Contains-head}
use Rattle.plan_theory.proofs.WeakExamples.{coin as flipped_coin}

-- Cubes: the empty one matches each state, and one that contradicts itself none; a set without
-- cubes is empty.
every_state : holds_state ([] ∷ []) (true ∷ []) ≡ true
every_state = refl

contradicting : holds_state ((literal 0 true ∷ literal 0 false ∷ []) ∷ []) (true ∷ []) ≡ false
contradicting = refl

no_cube : holds_state [] (true ∷ []) ≡ false
no_cube = refl

-- A coin that shows its face down, and the goal that it shows it up. It is flipped, after which it
-- shows either face.
abbrev flips : Vector → ℕ → List Vector
flips v zero = (true ∷ []) ∷ (false ∷ []) ∷ []
flips v (suc a) = []

abbrev coin : System
coin = record flipped_coin { next = flips; after = λ v a. slice_get (flips v a) }

-- the states where it shows its face down: since it may fall as before, a flip is no sure way out,
-- but it is a way out for a weak plan, and for a strong cyclic one
abbrev down : CubeSet
down = (literal 0 false ∷ []) ∷ []

down-strong : is_no_way_out Strong (down ∷ []) 0 (flips (false ∷ []) 0) ≡ true
down-strong = refl

down-weak : is_no_way_out Weak (down ∷ []) 0 (flips (false ∷ []) 0) ≡ false
down-weak = refl

down-cyclic : is_no_way_out Cyclic (down ∷ []) 0 (flips (false ∷ []) 0) ≡ false
down-cyclic = refl

-- so there is no strong plan, and this certificate of it is accepted
abbrev no_strong_plan : PlainCertificate
no_strong_plan = record { class = Strong; sets = down ∷ [] }

down-no_goal : HoldsNoGoal coin no_strong_plan
down-no_goal s h = by_place h.0 h.1 h.2
  where
    by_place : (k : ℕ) → k < 1 → get_or ((true ∷ []) ∷ []) k s ≡ s → some_holds (down ∷ []) s ≡ false
    by_place zero l e = subst (λ v. some_holds (down ∷ []) v ≡ false) e refl
    by_place (suc k) l e = absurd (omega arith)

down-actions : HasNoWayOut coin no_strong_plan
down-actions zero s zero acts = refl
down-actions zero s (suc a) acts = absurd (acts.executable refl)
down-actions (suc i) s a acts = let within : suc i < 1 = acts.set in absurd (omega arith)

no_strong_plan-accepted : IsAccepted coin no_strong_plan
no_strong_plan-accepted = record {
  start = false ∷ [];
  initial = record { initial = Contains-head (false ∷ []) []; held = refl };
  goal = down-no_goal;
  actions = down-actions;
}

-- A bridge that may break under who walks on it: over fluents `over` and `broken`, the only action
-- leads from this side over it, or breaks it. So there is no strong cyclic plan: from the broken
-- bridge, the first set, nothing leads on, and from this side, the second, the action may lead
-- there. In the other order the action would be a way out of the set of this side.
abbrev broken : CubeSet
broken = (literal 1 true ∷ []) ∷ []

abbrev this_side : CubeSet
this_side = (literal 0 false ∷ literal 1 false ∷ []) ∷ []

abbrev walk : List Vector
walk = (true ∷ false ∷ []) ∷ (false ∷ true ∷ []) ∷ []

bridge-cyclic : is_no_way_out Cyclic (broken ∷ this_side ∷ []) 1 walk ≡ true
bridge-cyclic = refl

bridge-turned : is_no_way_out Cyclic (this_side ∷ broken ∷ []) 0 walk ≡ false
bridge-turned = refl
