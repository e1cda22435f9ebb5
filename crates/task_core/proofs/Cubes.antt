-- The cubes of a set match exactly its members.
use Rattle.std.proofs.Common.{◌≡◌, ℕ, suc, ◌+◌, Bool, true, false, ◌&&◌, ◌||◌, cond, List, [], ◌∷◌, ◌++◌, map, length, refl, sym, ◌∙◌, ap, subst, arith, append_assoc, length-append}
use Rattle.std.specs.List.{list_any}
use Rattle.std.proofs.lemmas.List.Folds.{list_any-append}
use Rattle.std.proofs.lemmas.Bool.{not-true}
use Rattle.task_core.specs.Vectors.{Vector, value_of, all_vectors, same_value}
use Rattle.task_core.specs.Cubes.{Cube, SetOfVectors, literal, matches, half, is_empty_set, is_whole_set, ignores_first, cubes_from, cubes_of}
use Rattle.task_core.proofs.Vectors.{same_value_equal, list_all_contains, list_any_contains, all_vectors_contains}

-- the value at the place just past a front
value_past : (pre : Vector) (x : Bool) (v : Vector) → value_of (pre ++ (x ∷ v)) (length pre) ≡ x
value_past [] x v = refl
value_past (y ∷ pre) x v = value_past pre x v

-- some cube with one literal before it matches where the literal and some cube do
any_with_literal : (u : Vector) (f : ℕ) (b : Bool) (cubes : List Cube) → list_any (λ cube. matches cube u) (map (λ cube. literal f b ∷ cube) cubes) ≡ (same_value (value_of u f) b && list_any (λ cube. matches cube u) cubes)
any_with_literal u f b [] = elim (same_value (value_of u f) b) as (λ s. false ≡ (s && false)) [ true ↦ refl | false ↦ refl ]
any_with_literal u f b (cube ∷ cubes) =
    let rest = any_with_literal u f b cubes in
    rw rest (elim (same_value (value_of u f) b)
    as (λ s. ((s && matches cube u) || (s && list_any (λ c. matches c u) cubes)) ≡ (s && (matches cube u || list_any (λ c. matches c u) cubes)))
    [ true ↦ refl | false ↦ refl ])

-- a set that passes the test for the empty set holds no vector of that length, and so on
empty_at : (set : SetOfVectors) (v : Vector) → is_empty_set (length v) set ≡ true → set v ≡ false
empty_at set v e = list_any_contains set (all_vectors (length v)) v (not-true _ e) (all_vectors_contains v)

whole_at : (set : SetOfVectors) (v : Vector) → is_whole_set (length v) set ≡ true → set v ≡ true
whole_at set v e = list_all_contains set (all_vectors (length v)) v e (all_vectors_contains v)

ignores_at : (set : SetOfVectors) (x : Bool) (v : Vector) → ignores_first (length v) set ≡ true → set (false ∷ v) ≡ set (x ∷ v)
ignores_at set false v e = refl
ignores_at set true v e =
    same_value_equal _ _ (list_all_contains (λ w. same_value (set (false ∷ w)) (set (true ∷ w))) (all_vectors (length v)) v e (all_vectors_contains v))

abbrev Matched : ℕ → ℕ → SetOfVectors → Vector → Bool
Matched first n set u = list_any (λ cube. matches cube u) (cubes_from first n set)

both_halves : (a b : Bool) (p : Bool) (x : Bool) → (x ≡ false → a ≡ p) → (x ≡ true → b ≡ p) → ((same_value x false && a) || (same_value x true && b)) ≡ p
both_halves true b p false h k = h refl
both_halves false b p false h k = h refl
both_halves a b p true h k = k refl

-- the cubes of a set that isn't empty, and of one that depends on the first fluent
abbrev split_first : ℕ → ℕ → SetOfVectors → List Cube
split_first first n set =
    map (λ cube. literal first false ∷ cube) (cubes_from (first + 1) n (half false set))
    ++ map (λ cube. literal first true ∷ cube) (cubes_from (first + 1) n (half true set))

abbrev unless_empty : ℕ → ℕ → SetOfVectors → List Cube
unless_empty first n set =
    cond (is_whole_set (suc n) set) ([] ∷ [])
    (cond (ignores_first n set) (cubes_from (first + 1) n (half false set)) (split_first first n set))

-- the cubes over the rest of the fluents match the rest of a vector
abbrev RestMatches : Vector → Type 0
RestMatches v = (pre : Vector) (first : ℕ) (set : SetOfVectors) → length pre ≡ first → Matched first (length v) set (pre ++ v) ≡ set v

-- the rest's law behind a front that has one more value
rest_at : (x : Bool) (v pre : Vector) (first : ℕ) (set : SetOfVectors) → length pre ≡ first → RestMatches v → Matched (first + 1) (length v) set (pre ++ (x ∷ v)) ≡ set v
rest_at x v pre first set e rest =
    let longer : length (pre ++ (x ∷ [])) ≡ first + 1 = rw (length-append pre (x ∷ [])) (omega arith) in
    subst (λ u. Matched (first + 1) (length v) set u ≡ set v) (append_assoc pre (x ∷ []) v) (rest (pre ++ (x ∷ [])) (first + 1) set longer)

split_match : (x : Bool) (v pre : Vector) (first : ℕ) (set : SetOfVectors) → length pre ≡ first → RestMatches v → list_any (λ cube. matches cube (pre ++ (x ∷ v))) (split_first first (length v) set) ≡ set (x ∷ v)
split_match x v pre first set e rest =
    let u = pre ++ (x ∷ v) in
    let at : value_of u first ≡ x = subst (λ k. value_of u k ≡ x) e (value_past pre x v) in
    let low = cubes_from (first + 1) (length v) (half false set) in
    let high = cubes_from (first + 1) (length v) (half true set) in
    let low_is : list_any (λ cube. matches cube u) (map (λ cube. literal first false ∷ cube) low) ≡ (same_value x false && list_any (λ cube. matches cube u) low) =
    subst (λ y. list_any (λ cube. matches cube u) (map (λ cube. literal first false ∷ cube) low) ≡ (same_value y false && list_any (λ cube. matches cube u) low)) at (any_with_literal u first false low) in
    let high_is : list_any (λ cube. matches cube u) (map (λ cube. literal first true ∷ cube) high) ≡ (same_value x true && list_any (λ cube. matches cube u) high) =
    subst (λ y. list_any (λ cube. matches cube u) (map (λ cube. literal first true ∷ cube) high) ≡ (same_value y true && list_any (λ cube. matches cube u) high)) at (any_with_literal u first true high) in
    let joined = list_any-append (λ cube. matches cube u) (map (λ cube. literal first false ∷ cube) low) (map (λ cube. literal first true ∷ cube) high) in
    let halves : ((same_value x false && list_any (λ cube. matches cube u) low) || (same_value x true && list_any (λ cube. matches cube u) high)) ≡ set (x ∷ v) =
    both_halves (list_any (λ cube. matches cube u) low) (list_any (λ cube. matches cube u) high) (set (x ∷ v)) x
    (λ h. rest_at x v pre first (half false set) e rest ∙ ap (λ y. set (y ∷ v)) (sym h))
    (λ h. rest_at x v pre first (half true set) e rest ∙ ap (λ y. set (y ∷ v)) (sym h)) in
    joined ∙ ap (λ b. b || list_any (λ cube. matches cube u) (map (λ cube. literal first true ∷ cube) high)) low_is
    ∙ ap (λ b. (same_value x false && list_any (λ cube. matches cube u) low) || b) high_is ∙ halves

unless_empty_match : (x : Bool) (v pre : Vector) (first : ℕ) (set : SetOfVectors) → length pre ≡ first → RestMatches v → list_any (λ cube. matches cube (pre ++ (x ∷ v))) (unless_empty first (length v) set) ≡ set (x ∷ v)
unless_empty_match x v pre first set e rest =
    let u = pre ++ (x ∷ v) in
    elim (is_whole_set (suc (length v)) set)
    as (λ b. (is_whole_set (suc (length v)) set ≡ b) → list_any (λ cube. matches cube u) (cond b ([] ∷ []) (cond (ignores_first (length v) set) (cubes_from (first + 1) (length v) (half false set)) (split_first first (length v) set))) ≡ set (x ∷ v)) [
      | true ↦ λ h. sym (whole_at set (x ∷ v) h)
      | false ↦ λ _.
          elim (ignores_first (length v) set)
          as (λ b. (ignores_first (length v) set ≡ b) → list_any (λ cube. matches cube u) (cond b (cubes_from (first + 1) (length v) (half false set)) (split_first first (length v) set)) ≡ set (x ∷ v)) [
            | true ↦ λ h. rest_at x v pre first (half false set) e rest ∙ ignores_at set x v h
            | false ↦ λ _. split_match x v pre first set e rest
          ] refl
    ] refl

cubes_match : (v pre : Vector) (first : ℕ) (set : SetOfVectors) → length pre ≡ first → Matched first (length v) set (pre ++ v) ≡ set v
cubes_match [] pre first set e =
    elim (set []) as (λ s. list_any (λ cube. matches cube (pre ++ [])) (cond s ([] ∷ []) []) ≡ s) [ true ↦ refl | false ↦ refl ]
cubes_match (x ∷ v) pre first set e =
    elim (is_empty_set (suc (length v)) set)
    as (λ b. (is_empty_set (suc (length v)) set ≡ b) → list_any (λ cube. matches cube (pre ++ (x ∷ v))) (cond b [] (unless_empty first (length v) set)) ≡ set (x ∷ v)) [
      | true ↦ λ h. sym (empty_at set (x ∷ v) h)
      | false ↦ λ _. unless_empty_match x v pre first set e (cubes_match v)
    ] refl

-- the cubes over the n fluents from the given one on match, behind a front of the values before it,
-- exactly the set's members
pub cubes_from_match : (first n : ℕ) (set : SetOfVectors) (pre v : Vector) → length pre ≡ first → length v ≡ n → list_any (λ cube. matches cube (pre ++ v)) (cubes_from first n set) ≡ set v
cubes_from_match first n set pre v e l = subst (λ k. Matched first k set (pre ++ v) ≡ set v) l (cubes_match v pre first set e)

pub cubes_of_match : (n : ℕ) (set : SetOfVectors) (v : Vector) → length v ≡ n → list_any (λ cube. matches cube v) (cubes_of n set) ≡ set v
cubes_of_match n set v l = cubes_from_match 0 n set [] v refl l
