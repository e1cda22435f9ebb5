-- Small systems, and the weak plans that are printed for them.
use Rattle.std.proofs.Common.{◌≡◌, ℕ, zero, suc, Bool, true, false, List, [], ◌∷◌, None, Some, refl}
use Rattle.std.specs.Prelude.{if◌then◌else◌, ◌==◌, slice_get}
use Rattle.task_core.specs.Vectors.{Vector}
use Rattle.task_core.specs.Systems.{System}
use Rattle.task_core.specs.Cubes.{literal}
use Rattle.plan_theory.specs.Layers.{covers, rank_within}
use Rattle.plan_theory.specs.LayerPlans.{chosen_action, printed_rules}
use Rattle.task_core.specs.declared.classes.Class.TheVariants.{Strong, Weak}

-- A coin that is flipped until it shows its face up: one action with two outcomes, up and as
-- before.
abbrev pub flips : Vector → ℕ → List Vector
flips v zero = (true ∷ []) ∷ v ∷ []
flips v (suc a) = []

abbrev pub coin : System
coin = record { fluents = 1; in_space = λ v. true; actions = 1; outcomes = λ a. 2; initial = (false ∷ []) ∷ []; goal = Some ((true ∷ []) ∷ []); next = flips; after = λ v a. slice_get (flips v a) }

coin-uncovered : covers Weak coin 0 ≡ false
coin-uncovered = refl

coin-covered : covers Weak coin 1 ≡ true
coin-covered = refl

coin-rank : rank_within Weak coin 1 (false ∷ []) ≡ Some 1
coin-rank = refl

-- where the coin shows its other face, flip it; where it shows the wanted one, do nothing
coin-rules : printed_rules Weak coin 1 ≡ record { cube = literal 0 false ∷ []; action = 0 } ∷ []
coin-rules = refl

-- a goal that holds at once has no rules
coin_done : System
coin_done = record coin { initial = (true ∷ []) ∷ [] }

coin_done-covered : covers Weak coin_done 0 ≡ true
unfolding coin_done
coin_done-covered = refl

coin_done-rules : printed_rules Weak coin_done 0 ≡ []
unfolding coin_done
coin_done-rules = refl

-- Two switches f and g, and the goal that both are on: action 0 does nothing, action 1 turns f on
-- or does nothing, action 2 turns g on, action 3 turns g on too.
abbrev switched : Bool → Bool → ℕ → List Vector
switched f g zero = (f ∷ g ∷ []) ∷ []
switched f g (suc zero) = (true ∷ g ∷ []) ∷ (f ∷ g ∷ []) ∷ []
switched f g (suc (suc zero)) = (f ∷ true ∷ []) ∷ []
switched f g (suc (suc (suc zero))) = (f ∷ true ∷ []) ∷ []
switched f g (suc (suc (suc (suc a)))) = []

abbrev sets : Vector → ℕ → List Vector
sets (f ∷ g ∷ []) a = switched f g a
sets _ a = []

abbrev switches : System
switches = record { fluents = 2; in_space = λ v. true; actions = 4; outcomes = λ a. if a == 1 then 2 else 1; initial = (false ∷ false ∷ []) ∷ []; goal = Some ((true ∷ true ∷ []) ∷ []); next = sets; after = λ v a. slice_get (sets v a) }

switches-uncovered : covers Weak switches 1 ≡ false
switches-uncovered = refl

switches-covered : covers Weak switches 2 ≡ true
switches-covered = refl

-- with both off, either switch leads on, and the least-numbered action is taken: so it is wherever
-- f is off
switches-rules : printed_rules Weak switches 2 ≡ record { cube = literal 0 false ∷ []; action = 1 } ∷ record { cube = literal 0 true ∷ literal 1 false ∷ []; action = 2 } ∷ []
switches-rules = refl

switches-chosen : chosen_action Weak switches 2 (true ∷ true ∷ []) ≡ None
switches-chosen = refl

-- no flip is sure to turn the coin up, so for strong plans no layer holds the initial state;
-- setting a switch is sure
coin-unsure : covers Strong coin 3 ≡ false
coin-unsure = refl

switches-sure : rank_within Strong switches 2 (true ∷ false ∷ []) ≡ Some 1
switches-sure = refl
