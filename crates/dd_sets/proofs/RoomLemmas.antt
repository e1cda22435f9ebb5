-- How many functions a reduced list may have: each is told apart from the others by the truth
-- values that it gives.
use Rattle.std.proofs.Common.{◌≡◌, ℕ, zero, suc, ◌+◌, ◌^◌, ◌<◌, ◌≤◌, Bool, true, false, ◌&&◌, List, [], ◌∷◌, length, map, refl, sym, ap, ◌∙◌, arith}
use Rattle.std.specs.List.{list_any, list_all}
use mathlib.Core.Bool.{beq}
use Rattle.std.proofs.lemmas.Bool.{and_parts, and_from, or_from, false_from_ne_true}
use Rattle.std.proofs.lemmas.List.{length-map}
use Rattle.dd_nodes.specs.declared.node.Node.{Node}
use Rattle.dd_nodes.specs.NodeList.{IsReduced, function}
use Rattle.dd_nodes.specs.Subfunctions.{Function, fixed, lists, agree}
use Rattle.dd_nodes.proofs.Agreement.{beq-eq, eq-beq, lists_any}
use Rattle.dd_nodes.proofs.Counting.{count, count_within, Apart, covered, pigeonhole}
use Rattle.dd_nodes.proofs.NodeCount.{one_number}
use Rattle.dd_ops.proofs.GrowthBounds.{length-lists}

-- whether two lists of truth values are the same
same : List Bool → List Bool → Bool
same [] [] = true
same [] (y ∷ ys) = false
same (x ∷ xs) [] = false
same (x ∷ xs) (y ∷ ys) = beq x y && same xs ys

same_self : (xs : List Bool) → same xs xs ≡ true
unfolding same
same_self [] = refl
same_self (x ∷ xs) = and_from (beq x x) (same xs xs) (eq-beq x x refl) (same_self xs)

same_eq : (xs ys : List Bool) → same xs ys ≡ true → xs ≡ ys
unfolding same
same_eq [] [] e = refl
same_eq [] (y ∷ ys) e = absurd (cc)
same_eq (x ∷ xs) [] e = absurd (cc)
same_eq (x ∷ xs) (y ∷ ys) e =
    let parts = and_parts (beq x y) (same xs ys) e in
    ap (λ z. z ∷ xs) (beq-eq x y parts.0) ∙ ap (λ zs. y ∷ zs) (same_eq xs ys parts.1)

same_map : {X : Type 0} (p q : X → Bool) (xs : List X) → same (map p xs) (map q xs) ≡ list_all (λ x. beq (p x) (q x)) xs
unfolding same
same_map p q [] = refl
same_map p q (x ∷ xs) = ap (λ b. beq (p x) (q x) && b) (same_map p q xs)

-- the truth values that a function gives
values_of : ℕ → Function → List Bool
values_of vars f = map (λ first. fixed first f (λ _. false)) (lists vars)

same_values : (vars : ℕ) (f g : Function) → same (values_of vars f) (values_of vars g) ≡ agree vars f g
unfolding values_of
same_values vars f g = same_map (λ first. fixed first f (λ _. false)) (λ first. fixed first g (λ _. false)) (lists vars)

module _ (vars : ℕ) (nodes : List Node) (reduced : IsReduced vars nodes) where
  -- the truth values of the functions of k numbers from a number on
  all_values : ℕ → ℕ → List (List Bool)
  all_values start zero = []
  all_values start (suc k) = values_of vars (function nodes start) ∷ all_values (suc start) k

  length_all : (start k : ℕ) → length (all_values start k) ≡ k
  unfolding all_values
  length_all start zero = refl
  length_all start (suc k) = ap suc (length_all (suc start) k)

  none_same : (m start k : ℕ) → m < start → start + k ≤ length nodes + 2 → list_any (same (values_of vars (function nodes m))) (all_values start k) ≡ false
  unfolding all_values
  none_same m start zero before within = refl
  none_same m start (suc k) before within = or_from (same (values_of vars (function nodes m)) (values_of vars (function nodes start)))
      (list_any (same (values_of vars (function nodes m))) (all_values (suc start) k))
      (false_from_ne_true (same (values_of vars (function nodes m)) (values_of vars (function nodes start)))
      (λ e. let equal : m ≡ start = one_number nodes vars reduced m start (omega arith) (omega arith) (sym (same_values vars (function nodes m) (function nodes start)) ∙ e) in omega arith))
      (none_same m (suc start) k (omega arith) (omega arith))

  all_apart : (start k : ℕ) → start + k ≤ length nodes + 2 → Apart same (all_values start k)
  unfolding all_values
  all_apart start zero within = tt
  all_apart start (suc k) within = (none_same start (suc start) k (omega arith) (omega arith), all_apart (suc start) k (omega arith))

  all_covered : (start k : ℕ) → covered same (lists (2 ^ vars)) (all_values start k) ≡ true
  unfolding all_values values_of
  all_covered start zero = refl
  all_covered start (suc k) = and_from (list_any (same (values_of vars (function nodes start))) (lists (2 ^ vars))) (covered same (lists (2 ^ vars)) (all_values (suc start) k))
      (lists_any (same (values_of vars (function nodes start))) (2 ^ vars) (values_of vars (function nodes start))
      (length-map (lists vars) (λ first. fixed first (function nodes start) (λ _. false)) ∙ length-lists vars)
      (same_self (values_of vars (function nodes start))))
      (all_covered (suc start) k)

  -- with the constants there are no more numbers than functions of truth values
  pub numbers_fit : length nodes + 2 ≤ 2 ^ (2 ^ vars)
  numbers_fit =
      let ys : List (List Bool) = lists (2 ^ vars) in
      let most : length (all_values 0 (length nodes + 2)) ≤ count same (lists (2 ^ vars)) =
      pigeonhole same
      (λ a b e. ap (λ z. same z a) (sym (same_eq a b e)) ∙ same_self a)
      (λ a b c e d. ap (λ z. same z c) (same_eq a b e) ∙ d)
      (lists (2 ^ vars)) (all_values 0 (length nodes + 2)) (all_apart 0 (length nodes + 2) (omega arith)) (all_covered 0 (length nodes + 2)) in
      omega (arith, most, length_all 0 (length nodes + 2), count_within same (lists (2 ^ vars)), length-lists (2 ^ vars))
