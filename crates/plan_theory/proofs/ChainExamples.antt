-- Until-chains whose guards ask for nothing: a light that is to be on and then to stay on, and the plan
-- that is printed for it.
use Rattle.std.proofs.Common.{◌≡◌, ℕ, zero, suc, true, false, List, [], ◌∷◌, None, Some, refl}
use Rattle.std.specs.Prelude.{not, slice_get}
use Rattle.task_core.specs.Cubes.{SetOfVectors, literal}
use Rattle.task_core.specs.Systems.{System}
use Rattle.task_core.specs.Vectors.{Vector}
use Rattle.plan_rules.specs.Rules.{always}
use Rattle.plan_theory.specs.GuardedSets.{guarded_near}
use Rattle.plan_theory.specs.Safe.{safe_set}
use Rattle.plan_theory.specs.UntilChains.{SetStage, UntilSets, covers_until, until_advance, until_win_at}
use Rattle.plan_theory.specs.UntilPrinted.{until_action, until_rules}

-- action 0 presses the switch: a light that is off goes on, and one that is on goes off or stays
-- on. Action 1 waits
abbrev presses : Vector → ℕ → List Vector
presses (false ∷ []) zero = (true ∷ []) ∷ []
presses (true ∷ []) zero = (false ∷ []) ∷ (true ∷ []) ∷ []
presses v (suc zero) = v ∷ []
presses v a = []

abbrev light : System
light = record { fluents = 1; in_space = λ v. true; actions = 2; outcomes = λ a. 2; initial = (false ∷ []) ∷ []; goal = None; next = presses; after = λ v a. slice_get (presses v a) }

abbrev is_on : SetOfVectors
is_on (true ∷ rest) = true
is_on v = false

-- a stage whose guard asks for nothing
abbrev everywhere : SetOfVectors
everywhere v = true

abbrev freely : SetOfVectors → SetStage
freely set = record { guard = everywhere; target = set }

-- on every path at last the light is on, and from then on it always is
abbrev on_for_good : UntilSets
on_for_good = record { stages = freely is_on ∷ []; keep = is_on }

-- it is kept on from where it is on, by waiting
kept_on : safe_set light is_on (true ∷ []) ≡ true
kept_on = refl

not_kept : safe_set light is_on (false ∷ []) ≡ false
not_kept = refl

-- context 2 has the state in which it is on, context 1 both
second-on : until_win_at light on_for_good 2 (true ∷ []) ≡ true
second-on = refl

second-off : until_win_at light on_for_good 2 (false ∷ []) ≡ false
second-off = refl

first-on : until_win_at light on_for_good 1 (true ∷ []) ≡ true
first-on = refl

first-off : until_win_at light on_for_good 1 (false ∷ []) ≡ true
first-off = refl

covered : covers_until light on_for_good ≡ true
covered = refl

-- off, the light is for stage 1; on, that stage is met
turns-off : until_advance light on_for_good 1 (false ∷ []) ≡ 1
turns-off = refl

turns-on : until_advance light on_for_good 1 (true ∷ []) ≡ 2
turns-on = refl

-- off, it is switched on; on, the least-numbered action might switch it off
switch : until_action light on_for_good 1 (false ∷ []) ≡ Some 0
switch = refl

wait : until_action light on_for_good 2 (true ∷ []) ≡ Some 1
wait = refl

rules : until_rules light on_for_good ≡ record { context = 1; cube = literal 0 false ∷ []; action = 0; next = always 1 }
    ∷ record { context = 1; cube = literal 0 true ∷ []; action = 1; next = always 2 }
    ∷ record { context = 2; cube = literal 0 true ∷ []; action = 1; next = always 2 } ∷ []
rules = refl

-- two stages that are met in one state are passed at once
abbrev on_twice : UntilSets
on_twice = record { stages = freely is_on ∷ freely is_on ∷ []; keep = is_on }

passes-on : until_advance light on_twice 1 (true ∷ []) ≡ 3
passes-on = refl

passes-off : until_advance light on_twice 1 (false ∷ []) ≡ 1
passes-off = refl

-- without stages the set is to be kept from the start
abbrev always_on : UntilSets
always_on = record { stages = []; keep = is_on }

always-uncovered : covers_until light always_on ≡ false
always-uncovered = refl

always-rules : until_rules light always_on ≡ record { context = 1; cube = literal 0 true ∷ []; action = 1; next = always 1 } ∷ []
always-rules = refl

-- a light that is on can't be switched off for certain: on and then off can't be had from anywhere
abbrev is_off : SetOfVectors
is_off v = not (is_on v)

abbrev off_again : UntilSets
off_again = record { stages = freely is_on ∷ freely is_off ∷ []; keep = λ v. true }

then-off : until_win_at light off_again 2 (false ∷ []) ≡ true
then-off = refl

not-from-on : until_win_at light off_again 2 (true ∷ []) ≡ false
not-from-on = refl

off-uncovered : covers_until light off_again ≡ false
off-uncovered = refl

-- off, it is one step from being on
one-step : guarded_near light everywhere is_on 1 (false ∷ []) ≡ true
one-step = refl

no-step : guarded_near light everywhere is_on 0 (false ∷ []) ≡ false
no-step = refl
