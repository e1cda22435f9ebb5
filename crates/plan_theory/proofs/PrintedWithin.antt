-- The printed rules speak of the system's fluents and actions alone.
use Rattle.std.proofs.Common.{ℕ, zero, suc, ◌+◌, ◌<◌, ◌≤◌, Bool, true, false, List, [], ◌∷◌, map, arith}
use Rattle.std.specs.List.{All, flat_map, range_with_len}
use Rattle.std.proofs.lemmas.Bool.{cond_both}
use Rattle.std.proofs.lemmas.List.Elements.{All-nil, All-cons, All-head, All-tail, All-append, All-map, All-weaker}
use Rattle.task_core.specs.declared.literals.Lit.{Lit}
use Rattle.task_core.specs.Systems.{System}
use Rattle.task_core.specs.Cubes.{Cube, SetOfVectors, literal, half, is_empty_set, is_whole_set, ignores_first, cubes_from}
use Rattle.plan_rules.specs.Rules.{PlanRule}
use Rattle.plan_theory.specs.Layers.{action_numbers}
use Rattle.plan_theory.specs.LayerPlans.{takers, rules_of_action, printed_rules}
use Rattle.task_core.specs.declared.classes.Class.{Class}

abbrev IsBelow : ℕ → Lit → Type 0
IsBelow m lit = lit.fluent.0 < m

-- every literal's fluent is below m
abbrev pub CubeIsBelow : ℕ → Cube → Type 0
CubeIsBelow m = All (IsBelow m)

with_literal_below : (first m : ℕ) (b : Bool) (cubes : List Cube) → first < m → All (CubeIsBelow m) cubes → All (CubeIsBelow m) (map (λ cube. literal first b ∷ cube) cubes)
with_literal_below first m b cubes lt below =
    All-map (CubeIsBelow m) (λ cube. literal first b ∷ cube) cubes
    (All-weaker (CubeIsBelow m) (λ cube. CubeIsBelow m (literal first b ∷ cube)) (λ cube h. All-cons (IsBelow m) (literal first b) cube lt h) cubes below)

pub cubes_below : (first n m : ℕ) (set : SetOfVectors) → first + n ≤ m → All (CubeIsBelow m) (cubes_from first n set)
cubes_below first zero m set le =
    cond_both (set []) _ _ (All (CubeIsBelow m))
    (λ e. All-cons (CubeIsBelow m) [] [] (All-nil (IsBelow m)) (All-nil (CubeIsBelow m)))
    (λ e. All-nil (CubeIsBelow m))
cubes_below first (suc n) m set le =
    let lows : All (CubeIsBelow m) (cubes_from (first + 1) n (half false set)) = cubes_below (first + 1) n m (half false set) (omega arith) in
    let highs : All (CubeIsBelow m) (cubes_from (first + 1) n (half true set)) = cubes_below (first + 1) n m (half true set) (omega arith) in
    let lt : first < m = omega arith in
    cond_both (is_empty_set (suc n) set) _ _ (All (CubeIsBelow m)) (λ e. All-nil (CubeIsBelow m))
    (λ e. cond_both (is_whole_set (suc n) set) _ _ (All (CubeIsBelow m)) (λ e. All-cons (CubeIsBelow m) [] [] (All-nil (IsBelow m)) (All-nil (CubeIsBelow m)))
    (λ e. cond_both (ignores_first n set) _ _ (All (CubeIsBelow m)) (λ e. lows)
    (λ e. All-append (CubeIsBelow m) _ _ (with_literal_below first m false _ lt lows) (with_literal_below first m true _ lt highs))))

pub range_below : (a n m : ℕ) → a + n ≤ m → All (λ k. k < m) (range_with_len a n)
range_below a zero m le = All-nil (λ k. k < m)
range_below a (suc n) m le = All-cons (λ k. k < m) a (range_with_len (a + 1) n) (omega arith) (range_below (a + 1) n m (omega arith))

pub All-flat_map : {X Y : Type 0} (Q : X → Type 0) (P : Y → Type 0) (f : X → List Y) (xs : List X) → All Q xs → ((x : X) → Q x → All P (f x)) → All P (flat_map f xs)
All-flat_map Q P f [] all each = All-nil P
All-flat_map Q P f (x ∷ xs) all each =
    All-append P (f x) (flat_map f xs) (each x (All-head Q x xs all)) (All-flat_map Q P f xs (All-tail Q x xs all) each)

-- what holds of every rule of the system's fluents and actions holds of the printed rules
pub printed_within : (class : Class) (sys : System) (K : ℕ) (P : PlanRule → Type 0) → ((cube : Cube) (a : ℕ) → CubeIsBelow sys.fluents cube → a < sys.actions → P (record { cube = cube; action = a })) → All P (printed_rules class sys K)
printed_within class sys K P each =
    All-flat_map (λ a. a < sys.actions) P (rules_of_action class sys K) (action_numbers sys) (range_below 0 sys.actions sys.actions (omega arith))
    (λ a lt. All-map P (λ (cube : Cube). record { cube = cube; action = a }) (cubes_from 0 sys.fluents (takers class sys K a))
    (All-weaker (CubeIsBelow sys.fluents) (λ (cube : Cube). P (record { cube = cube; action = a })) (λ cube below. each cube a below lt) (cubes_from 0 sys.fluents (takers class sys K a))
    (cubes_below 0 sys.fluents sys.fluents (takers class sys K a) (omega arith))))
