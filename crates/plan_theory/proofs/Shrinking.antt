-- Sets of states that shrink step by step stand still within as many steps as there are states.
use Rattle.std.proofs.Common.{◌≡◌, ◌≢◌, ℕ, zero, suc, ◌+◌, ◌<◌, ◌≤◌, ◌^◌, Bool, true, false, cond, List, [], ◌∷◌, length, map, refl, sym, ap, ◌∙◌, arith}
use Rattle.std.specs.List.{count_by}
use Rattle.std.proofs.lemmas.Bool.{false≢true}
use Rattle.std.proofs.lemmas.List.Sums.{count_by-le-length, sum_by-cons, sum_by-le-sum_by}
use Rattle.task_core.specs.Cubes.{SetOfVectors}
use Rattle.task_core.specs.Vectors.{Vector, all_vectors, same_vector}
use Rattle.task_core.proofs.Vectors.{length-all_vectors}
use Rattle.plan_theory.proofs.Cubes.{all_vectors-agree}
use Rattle.plan_theory.proofs.Weak.{same_vector-itself, same_vector-true}

one_if-le : (b c : Bool) → (c ≡ true → b ≡ true) → cond c 1 0 ≤ cond b 1 0
one_if-le true true down = omega arith
one_if-le true false down = omega arith
one_if-le false true down = absurd (false≢true (down refl))
one_if-le false false down = omega arith

-- a part of a set has no more of some states, and fewer where it isn't the whole set there
module _ (f g : SetOfVectors) (part : (v : Vector) → g v ≡ true → f v ≡ true) where
  no_more : (xs : List Vector) → count_by g xs ≤ count_by f xs
  no_more xs = sum_by-le-sum_by (λ v. cond (g v) 1 0) (λ v. cond (f v) 1 0) xs (λ v. one_if-le (f v) (g v) (part v))

  fewer : (xs : List Vector) → map g xs ≢ map f xs → count_by g xs < count_by f xs
  fewer [] differ = absurd (differ refl)
  fewer (x ∷ xs) differ =
      go (f x) (g x) refl refl (no_more xs) (fewer xs)
      (sum_by-cons (λ v. cond (g v) 1 0) x xs) (sum_by-cons (λ v. cond (f v) 1 0) x xs)
    where
      same_here : f x ≡ g x → map g xs ≡ map f xs → map g (x ∷ xs) ≡ map f (x ∷ xs)
      same_here e same = ap (λ y. y ∷ map g xs) (sym e) ∙ ap (λ ys. f x ∷ ys) same

      go : (b c : Bool) → f x ≡ b → g x ≡ c → count_by g xs ≤ count_by f xs → (map g xs ≢ map f xs → count_by g xs < count_by f xs)
          → count_by g (x ∷ xs) ≡ cond c 1 0 + count_by g xs → count_by f (x ∷ xs) ≡ cond b 1 0 + count_by f xs → count_by g (x ∷ xs) < count_by f (x ∷ xs)
      go true true h e le less first second = let lt = less (λ same. differ (same_here (h ∙ sym e) same)) in omega arith
      go true false h e le less first second = omega arith
      go false true h e le less first second = absurd (false≢true (sym h ∙ part x e))
      go false false h e le less first second = let lt = less (λ same. differ (same_here (h ∙ sym e) same)) in omega arith

module _ (n : ℕ) (sets : ℕ → SetOfVectors) (shrinks : (k : ℕ) (v : Vector) → sets (suc k) v ≡ true → sets k v ≡ true) where
  abbrev values : ℕ → List Bool
  values k = map (sets k) (all_vectors n)

  abbrev Still : ℕ → Type 0
  Still k = (v : Vector) → length v ≡ n → sets (suc k) v ≡ sets k v

  still_at : (k : ℕ) → same_vector (values (suc k)) (values k) ≡ true → Still k
  still_at k e v is = all_vectors-agree (sets (suc k)) (sets k) n (same_vector-true (values (suc k)) (values k) e) v is

  fewer_at : (k : ℕ) → same_vector (values (suc k)) (values k) ≡ false → count_by (sets (suc k)) (all_vectors n) < count_by (sets k) (all_vectors n)
  fewer_at k e =
      fewer (sets k) (sets (suc k)) (shrinks k) (all_vectors n)
      (λ same. false≢true (sym e ∙ (ap (λ ys. same_vector (values (suc k)) ys) (sym same) ∙ same_vector-itself (values (suc k)))))

  stands : (fuel k : ℕ) → count_by (sets k) (all_vectors n) ≤ fuel → (j : ℕ) × (j ≤ k + fuel) × Still j
  stands zero k few = go (same_vector (values (suc k)) (values k)) refl
    where
      go : (b : Bool) → same_vector (values (suc k)) (values k) ≡ b → (j : ℕ) × (j ≤ k + 0) × Still j
      go true e = (k, omega arith, still_at k e)
      go false e = let less = fewer_at k e in absurd (omega arith)
  stands (suc fuel) k few = go (same_vector (values (suc k)) (values k)) refl (stands fuel (suc k))
    where
      go : (b : Bool) → same_vector (values (suc k)) (values k) ≡ b → (count_by (sets (suc k)) (all_vectors n) ≤ fuel → (j : ℕ) × (j ≤ suc k + fuel) × Still j) → (j : ℕ) × (j ≤ k + suc fuel) × Still j
      go true e rest = (k, omega arith, still_at k e)
      go false e rest = let less = fewer_at k e in let w = rest (omega arith) in (w.0, (let l = w.1 in omega arith), w.2)

  pub stands_still : (j : ℕ) × (j ≤ 2 ^ n) × ((v : Vector) → length v ≡ n → sets (suc j) v ≡ sets j v)
  stands_still =
      let few = count_by-le-length (sets 0) (all_vectors n) in
      let many = length-all_vectors n in
      let w = stands (2 ^ n) 0 (omega arith) in
      (w.0, (let l = w.1 in omega arith), w.2)
