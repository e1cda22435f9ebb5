-- The first values of a list of truth values as a state, and sets that these values alone tell.
use Rattle.std.proofs.Common.{◌≡◌, ℕ, zero, suc, ◌+◌, Bool, true, false, cond, not, [], ◌∷◌, ◌++◌, map, length, refl, sym, ap, ◌∙◌}
use Rattle.std.specs.List.{list_any}
use Rattle.std.proofs.Math.Path.{fun_ext}
use Rattle.std.proofs.lemmas.List.FromFn.{length-map-range_with_len}
use Rattle.list_laws.proofs.Elements.{list_all-agree, list_any-agree, list_any-false, list_any-witness}
use Rattle.dd_nodes.specs.NodeList.{Values}
use Rattle.dd_nodes.specs.Subfunctions.{DependsOnly, Function}
use Rattle.dd_sets.specs.LiveSets.{nothing}
use Rattle.task_core.specs.Cubes.{SetOfVectors, cubes_from, half, ignores_first, is_empty_set, is_whole_set, literal}
use Rattle.task_core.specs.Vectors.{Vector, all_vectors, same_value, value_of}
use Rattle.task_core.proofs.Vectors.{all_vectors_has, all_vectors_length}
use Rattle.encode_task.specs.TaskSets.{first_values}
use Rattle.encode_task.proofs.ShownLemmas.{first_are, value_computed}

pub length_first : (n : ℕ) (values : Values) → length (first_values n values) ≡ n
length_first n values = length-map-range_with_len values 0 n

-- a state's values are its own
pub own_values : (n : ℕ) (v : Vector) → length v ≡ n → first_values n (value_of v) ≡ v
own_values n v long = first_are n (value_of v) v long (λ g within. refl)

-- a set that depends on the first n values alone has the values of a state where it has the state's
pub at_state : (n : ℕ) (f : Function) → DependsOnly 0 n f → (values : Values) → f values ≡ f (value_of (first_values n values))
at_state n f only values = only values (value_of (first_values n values)) (λ u low within. sym (value_computed values n u within))

-- such sets that hold the same states are one
pub same_functions : (n : ℕ) (f g : Function) → DependsOnly 0 n f → DependsOnly 0 n g → ((v : Vector) → length v ≡ n → f (value_of v) ≡ g (value_of v)) → f ≡ g
same_functions n f g only_f only_g same = fun_ext (λ values.
    at_state n f only_f values ∙ same (first_values n values) (length_first n values) ∙ sym (at_state n g only_g values))

-- such a set is empty, or has a state
pub none_there : (n : ℕ) (set : Function) → DependsOnly 0 n set → list_any (λ v. set (value_of v)) (all_vectors n) ≡ false → set ≡ nothing
none_there n set only none = fun_ext (λ values.
    at_state n set only values
    ∙ list_any-false (λ v. set (value_of v)) (all_vectors n) (first_values n values) none (all_vectors_has n (first_values n values) (length_first n values)))

pub some_there : (n : ℕ) (set : Function) → DependsOnly 0 n set → (set ≡ nothing → ⊥) → (v : Vector) × (length v ≡ n) × (set (value_of v) ≡ true)
some_there n set only some = by_test (list_any (λ v. set (value_of v)) (all_vectors n)) refl
  where
    by_test : (b : Bool) → list_any (λ v. set (value_of v)) (all_vectors n) ≡ b → (v : Vector) × (length v ≡ n) × (set (value_of v) ≡ true)
    by_test true e = let w = list_any-witness (λ v. set (value_of v)) (all_vectors n) e in (w.0, all_vectors_length n w.0 w.1, w.2)
    by_test false e = absurd (some (none_there n set only e))

-- sets that hold the same states have the same cubes
pub cubes_agree : (n first : ℕ) (f g : SetOfVectors) → ((v : Vector) → length v ≡ n → f v ≡ g v) → cubes_from first n f ≡ cubes_from first n g
cubes_agree zero first f g same = ap (λ b. cond b ([] ∷ []) []) (same [] refl)
cubes_agree (suc n) first f g same =
    let empty : is_empty_set (suc n) f ≡ is_empty_set (suc n) g = ap not (list_any-agree f g (all_vectors (suc n)) (λ v among. same v (all_vectors_length (suc n) v among))) in
    let whole : is_whole_set (suc n) f ≡ is_whole_set (suc n) g = list_all-agree f g (all_vectors (suc n)) (λ v among. same v (all_vectors_length (suc n) v among)) in
    let ignores : ignores_first n f ≡ ignores_first n g = list_all-agree (λ v. same_value (f (false ∷ v)) (f (true ∷ v))) (λ v. same_value (g (false ∷ v)) (g (true ∷ v))) (all_vectors n)
    (λ v among. let long : length v ≡ n = all_vectors_length n v among in (λ j. same_value (same (false ∷ v) (ap suc long) j) (same (true ∷ v) (ap suc long) j))) in
    let low : cubes_from (first + 1) n (half false f) ≡ cubes_from (first + 1) n (half false g) = cubes_agree n (first + 1) (half false f) (half false g) (λ v long. same (false ∷ v) (ap suc long)) in
    let high : cubes_from (first + 1) n (half true f) ≡ cubes_from (first + 1) n (half true g) = cubes_agree n (first + 1) (half true f) (half true g) (λ v long. same (true ∷ v) (ap suc long)) in
    (λ j. cond (empty j) [] (cond (whole j) ([] ∷ []) (cond (ignores j) (low j) (map (λ cube. literal first false ∷ cube) (low j) ++ map (λ cube. literal first true ∷ cube) (high j)))))
