-- Small systems, their largest sets of pairs, and the strong cyclic plans that are printed for
-- them.
use Rattle.std.proofs.Common.{◌≡◌, ℕ, zero, suc, Bool, true, false, List, [], ◌∷◌, None, Some, refl}
use Rattle.std.specs.Prelude.{if◌then◌else◌, ◌==◌, slice_get}
use Rattle.task_core.specs.Vectors.{Vector}
use Rattle.task_core.specs.Systems.{System}
use Rattle.task_core.specs.Cubes.{literal}
use Rattle.plan_theory.proofs.WeakExamples.{coin}
use Rattle.plan_theory.specs.LargestSets.{covers}
use Rattle.plan_theory.specs.CyclicPlans.{cyclic_rules, progress_action}
use Rattle.plan_theory.specs.PairRounds.{kept, progress, round}

-- Of the coin both states are left after one round, as before it: no flip leads elsewhere, and from
-- each state the goal may be reached.
coin-left : round coin 1 (false ∷ []) ≡ true
coin-left = refl

coin-covered : covers coin (kept coin (round coin 1)) ≡ true
coin-covered = refl

-- a pair of the goal isn't kept, though it leads nowhere else
coin-goal : kept coin (round coin 1) (true ∷ []) 0 ≡ false
coin-goal = refl

coin-rules : cyclic_rules coin (kept coin (round coin 1)) ≡ record { cube = literal 0 false ∷ []; action = 0 } ∷ []
coin-rules = refl

-- A wheel that only spins: its one action leads from the state back to it, so that the goal isn't
-- reached. Nothing but the goal state is left.
abbrev spins : Vector → ℕ → List Vector
spins v zero = v ∷ []
spins v (suc a) = []

abbrev wheel : System
wheel = record coin { next = spins }

wheel-left : round wheel 1 (false ∷ []) ≡ false
wheel-left = refl

wheel-uncovered : covers wheel (kept wheel (round wheel 1)) ≡ false
wheel-uncovered = refl

-- Two fluents, goal and dead: action 0 does nothing, action 1 reaches the goal or is dead, action 2
-- reaches the goal or does nothing. In dead states nothing can be executed.
abbrev tries : Bool → Bool → ℕ → List Vector
tries g true a = []
tries g false zero = (g ∷ false ∷ []) ∷ []
tries g false (suc zero) = (true ∷ false ∷ []) ∷ (g ∷ true ∷ []) ∷ []
tries g false (suc (suc zero)) = (true ∷ false ∷ []) ∷ (g ∷ false ∷ []) ∷ []
tries g false (suc (suc (suc a))) = []

abbrev risks : Vector → ℕ → List Vector
risks (g ∷ dead ∷ []) a = tries g dead a
risks _ a = []

abbrev hazard : System
hazard = record { fluents = 2; in_space = λ v. true; actions = 3; outcomes = λ a. if a == 0 then 1 else 2; initial = (false ∷ false ∷ []) ∷ []; goal = Some ((true ∷ false ∷ []) ∷ (true ∷ true ∷ []) ∷ []); next = risks; after = λ v a. slice_get (risks v a) }

-- the first round takes the dead state out, the second one the pair that may lead there
hazard-dead : round hazard 1 (false ∷ true ∷ []) ≡ false
hazard-dead = refl

hazard-risky : kept hazard (round hazard 0) (false ∷ false ∷ []) 1 ≡ true
hazard-risky = refl

hazard-safe : kept hazard (round hazard 1) (false ∷ false ∷ []) 1 ≡ false
hazard-safe = refl

-- action 0 stays in the set too, but makes no progress: the state takes action 2
hazard-idle : kept hazard (round hazard 1) (false ∷ false ∷ []) 0 ≡ true
hazard-idle = refl

hazard-action : progress_action hazard (kept hazard (round hazard 1)) (false ∷ false ∷ []) ≡ Some 2
hazard-action = refl

hazard-done : progress_action hazard (kept hazard (round hazard 1)) (true ∷ false ∷ []) ≡ None
hazard-done = refl

hazard-near : progress hazard (kept hazard (round hazard 1)) 1 (false ∷ false ∷ []) ≡ true
hazard-near = refl
