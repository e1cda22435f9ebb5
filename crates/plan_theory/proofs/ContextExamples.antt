-- Until-chains and patrol goals of two small systems, and the plans that are printed for them.
use Rattle.std.proofs.Common.{◌≡◌, ℕ, zero, suc, true, false, List, [], ◌∷◌, None, refl}
use Rattle.std.specs.Prelude.{not, ◌&&◌, slice_get}
use Rattle.task_core.specs.Cubes.{SetOfVectors, literal}
use Rattle.task_core.specs.Systems.{System}
use Rattle.task_core.specs.Vectors.{Vector}
use Rattle.plan_rules.specs.Rules.{always}
use Rattle.plan_theory.specs.UntilChains.{UntilSets, covers_until, until_win_at}
use Rattle.plan_theory.specs.UntilPrinted.{until_rules}
use Rattle.plan_theory.specs.Patrols.{covers_patrol, patrol_round, patrol_set, visit_set}
use Rattle.plan_theory.specs.PatrolPrinted.{patrol_next, patrol_nexts, patrol_rules}

-- the values of two fluents p and q. Action 0 makes p or q true, whichever it likes; action 1 makes
-- p true where q is
abbrev twice : Vector → ℕ → List Vector
twice (p ∷ q ∷ []) zero = (true ∷ q ∷ []) ∷ (p ∷ true ∷ []) ∷ []
twice (p ∷ true ∷ []) (suc zero) = (true ∷ true ∷ []) ∷ []
twice v a = []

abbrev two : System
two = record { fluents = 2; in_space = λ v. true; actions = 2; outcomes = λ a. 2; initial = (false ∷ false ∷ []) ∷ []; goal = None; next = twice; after = λ v a. slice_get (twice v a) }

abbrev has_p : SetOfVectors
has_p (true ∷ rest) = true
has_p v = false

abbrev has_q : SetOfVectors
has_q (p ∷ true ∷ rest) = true
has_q v = false

-- p comes about, and never q before: action 0 may make q true first
abbrev without_q : UntilSets
without_q = record { stages = (record { guard = λ v. not (has_q v); target = has_p }) ∷ []; keep = λ v. true }

not_without_q : covers_until two without_q ≡ false
not_without_q = refl

-- p comes about, and never both before it: where q came first, action 1 brings p
abbrev without_both : UntilSets
without_both = record { stages = (record { guard = λ v. not (has_p v && has_q v); target = has_p }) ∷ []; keep = λ v. true }

covered : covers_until two without_both ≡ true
covered = refl

until_plan : until_rules two without_both
    ≡ record { context = 1; cube = literal 0 false ∷ literal 1 false ∷ []; action = 0; next = always 1 }
    ∷ record { context = 1; cube = literal 0 false ∷ literal 1 true ∷ []; action = 1; next = always 1 }
    ∷ record { context = 1; cube = literal 0 true ∷ []; action = 0; next = always 2 }
    ∷ record { context = 2; cube = []; action = 0; next = always 2 } ∷ []
until_plan = refl

-- the guard isn't asked where p holds already
met_outside_guard : until_win_at two (record { stages = (record { guard = λ v. false; target = has_p }) ∷ []; keep = λ v. true }) 1 (true ∷ false ∷ []) ≡ true
met_outside_guard = refl

-- a switch: action 0 turns it on, action 1 off
abbrev turns : Vector → ℕ → List Vector
turns (p ∷ []) zero = (true ∷ []) ∷ []
turns (p ∷ []) (suc zero) = (false ∷ []) ∷ []
turns v a = []

abbrev switch : System
switch = record { fluents = 1; in_space = λ v. true; actions = 2; outcomes = λ a. 1; initial = (false ∷ []) ∷ []; goal = None; next = turns; after = λ v a. slice_get (turns v a) }

-- it is on again and again, and off again and again
abbrev on_and_off : List SetOfVectors
on_and_off = has_p ∷ (λ v. not (has_p v)) ∷ []

patrol_covered : covers_patrol switch on_and_off ≡ true
patrol_covered = refl

context_plan : patrol_rules switch on_and_off
    ≡ record { context = 1; cube = literal 0 false ∷ []; action = 0; next = always 1 }
    ∷ record { context = 1; cube = literal 0 true ∷ []; action = 0; next = always 2 }
    ∷ record { context = 2; cube = literal 0 false ∷ []; action = 0; next = always 1 }
    ∷ record { context = 2; cube = literal 0 true ∷ []; action = 1; next = always 2 } ∷ []
context_plan = refl

-- with one visit, the states of the visit and the others go on in one context
one_visit : patrol_rules switch (has_p ∷ []) ≡ record { context = 1; cube = []; action = 0; next = always 1 } ∷ []
one_visit = refl

-- after the last of three contexts comes the first, which stands first in the order
last_of_three : patrol_nexts 3 3 ≡ 1 ∷ 3 ∷ []
last_of_three = refl

second_of_three : patrol_nexts 3 2 ≡ 2 ∷ 3 ∷ []
second_of_three = refl

begins_again : patrol_next (has_p ∷ has_p ∷ has_p ∷ []) 3 (true ∷ []) ≡ 1
begins_again = refl

-- a switch that can only be turned on: off can be visited once, and never again
abbrev turns_on : Vector → ℕ → List Vector
turns_on (p ∷ []) zero = (true ∷ []) ∷ []
turns_on v a = []

abbrev stuck : System
stuck = record switch { actions = 1; next = turns_on; after = λ v a. slice_get (turns_on v a) }

off_once : visit_set stuck (patrol_round stuck on_and_off 0) (λ v. not (has_p v)) (false ∷ []) ≡ true
off_once = refl

left_at_first : patrol_round stuck on_and_off 1 (false ∷ []) ≡ true
left_at_first = refl

not_again : patrol_set stuck on_and_off (false ∷ []) ≡ false
not_again = refl
