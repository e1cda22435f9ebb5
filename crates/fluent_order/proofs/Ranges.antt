-- Ranges, and orders of as many numbers.
use Rattle.std.proofs.Common.{◌≡◌, ◌∙◌, ℕ, List, [], ◌∷◌, ◌++◌, ◌+◌, length, sym, ap, arith, subst}
use Rattle.std.specs.List.{range_with_len}
use Rattle.std.specs.List.Sorted.{IsPermutation}
use Rattle.std.proofs.lemmas.List.FromFn.{length-range_with_len, map-range_with_len_more}
use Rattle.std.proofs.lemmas.List.Sorted.{length_permutation}
use Rattle.std.proofs.lemmas.List.{map-id}
use Rattle.fluent_order.specs.Orders.{IsOrderOf}

-- one number more
pub range_more : (n : ℕ) → range_with_len 0 n ++ n ∷ [] ≡ range_with_len 0 (n + 1)
range_more n =
    sym (sym (map-id (range_with_len 0 (n + 1))) ∙ (map-range_with_len_more (λ k. k) 0 n n (omega arith) ∙ ap (λ (xs : List ℕ). xs ++ n ∷ []) (map-id (range_with_len 0 n))))

-- an order of n numbers has n places
pub order_length : (n : ℕ) (places : List ℕ) → IsOrderOf n places → length places ≡ n
order_length n places order = length_permutation (range_with_len 0 n) places order ∙ length-range_with_len 0 n

-- a permutation of a range is an order
pub order_of : (n : ℕ) (numbers places : List ℕ) → numbers ≡ range_with_len 0 n → IsPermutation numbers places → IsOrderOf n places
order_of n numbers places is moved = subst (λ (xs : List ℕ). IsPermutation xs places) is moved

-- an order of as many numbers as another one has places
pub order_of_order : (n : ℕ) (first second : List ℕ) → IsOrderOf n first → IsOrderOf (length first) second → IsOrderOf n second
order_of_order n first second order next = subst (λ (k : ℕ). IsOrderOf k second) (order_length n first order) next
