-- How large `grow` is at most.
use Rattle.std.proofs.Common.{◌≡◌, ℕ, zero, suc, ◌+◌, ◌*◌, ◌^◌, ◌<◌, ◌≤◌, Bool, true, false, not, List, [], ◌∷◌, ◌++◌, length, map, filter, flat_map, slice_index_or, refl, sym, ap, ◌∙◌, inl, inr, ◌⊎◌, ⊎_elim, arith, length-append, append-nil}
use Rattle.std.specs.List.{list_any, list_all}
use native.Mathlib.Nat.{pow-succ'}
use Rattle.std.proofs.lemmas.Bool.{cases_Bool, cases_lt, cond-true, cond-false, not_from_true, not_from_false, both_ways, or_parts, and_parts, and_from}
use Rattle.std.proofs.lemmas.List.{length-map, map-append}
use Rattle.std.proofs.lemmas.List.Elements.{filter-append}
use Rattle.std.proofs.lemmas.List.Concat.{flat_map-append}
use Rattle.list_laws.proofs.Elements.{list_all-from}
use Rattle.dd_nodes.specs.declared.node.Node.{Node}
use Rattle.dd_nodes.specs.NodeList.{Values, function}
use Rattle.dd_nodes.specs.Subfunctions.{Function, with_first, fixed, lists, lists_up_to, agree, subfunctions, nodes_beside, functions}
use Rattle.dd_nodes.proofs.NodeLemmas.{function_false, function_true}
use Rattle.dd_ops.specs.Operations.{variable}
use Rattle.dd_ops.specs.Growth.{grow}
use Rattle.dd_nodes.proofs.Counting.{count, count-append, count_within, count-there, count-new, count-nil}
use Rattle.dd_nodes.proofs.Agreement.{agree_from, agree_same, agree_turn, agree_chain, lists_from}
use Rattle.dd_nodes.proofs.NodeCount.{count_is}
use Rattle.dd_nodes.proofs.Reaching.{within_at, past_at}
use Rattle.dd_ops.proofs.GrowthCount.{functions_some}

-- how many lists of truth values there are
pub length-lists : (n : ℕ) → length (lists n) ≡ 2 ^ n
unfolding lists
length-lists zero = refl
length-lists (suc n) = omega (
  arith,
  length-append (map (λ rest. false ∷ rest) (lists n)) (map (λ rest. true ∷ rest) (lists n)),
  length-map (lists n) (λ (rest : List Bool). false ∷ rest),
  length-map (lists n) (λ (rest : List Bool). true ∷ rest),
  length-lists n,
  pow-succ' 2 n,
)

pub length-lists_up_to : (n : ℕ) → length (lists_up_to n) + 1 ≡ 2 * 2 ^ n
unfolding lists_up_to
length-lists_up_to zero = refl
length-lists_up_to (suc n) = omega (arith, length-append (lists_up_to n) (lists (suc n)), length-lists (suc n), length-lists_up_to n, pow-succ' 2 n)

pub length-filter_within : {X : Type 0} (keep : X → Bool) (xs : List X) → length (filter keep xs) ≤ length xs
length-filter_within keep [] = omega arith
length-filter_within keep (x ∷ xs) =
    let rest : length (filter keep xs) ≤ length xs = length-filter_within keep xs in
    ⊎_elim
    (λ (kept : keep x ≡ true). let e : length (filter keep (x ∷ xs)) ≡ suc (length (filter keep xs)) = ap length (cond-true (keep x) (x ∷ filter keep xs) (filter keep xs) kept) in omega arith)
    (λ (left : keep x ≡ false). let e : length (filter keep (x ∷ xs)) ≡ length (filter keep xs) = ap length (cond-false (keep x) (x ∷ filter keep xs) (filter keep xs) left) in omega arith)
    (cases_Bool (keep x))

-- of two lists that fix the first variables the one that is no longer does not count
shorter_at : (a b : List Bool) (v : ℕ) (d : Bool) → length b ≤ length a → slice_index_or a v (slice_index_or b v d) ≡ slice_index_or a v d
shorter_at a [] v d shorter = refl
shorter_at [] (y ∷ b) v d shorter = absurd (omega arith)
shorter_at (x ∷ a) (y ∷ b) zero d shorter = refl
shorter_at (x ∷ a) (y ∷ b) (suc v) d shorter = shorter_at a b v d (omega arith)

module _ (vars : ℕ) (before : List Node) where
  -- whether a function is that of a number
  known : Function → Bool
  known g = list_any (agree vars g) (functions before)

  new : List Function → List Function
  new fs = filter (λ g. not (list_any (agree vars g) (functions before))) fs

  grow_is : (pieces : List Function) → grow vars before pieces ≡ count (agree vars) (new (flat_map (subfunctions vars) pieces))
  unfolding nodes_beside new
  grow_is pieces = count_is vars (new (flat_map (subfunctions vars) pieces))

  new-append : (fs gs : List Function) → new (fs ++ gs) ≡ new fs ++ new gs
  unfolding new
  new-append fs gs = filter-append (λ g. not (list_any (agree vars g) (functions before))) fs gs

  -- what is known does not count
  new-known : {X : Type 0} (h : X → Function) (xs : List X) → list_all (λ x. known (h x)) xs ≡ true → new (map h xs) ≡ []
  unfolding new known
  new-known h [] all = refl
  new-known h (x ∷ xs) all =
      let parts = and_parts (known (h x)) (list_all (λ x. known (h x)) xs) all in
      cond-false (not (known (h x))) (h x ∷ new (map h xs)) (new (map h xs)) (not_from_true (known (h x)) parts.0) ∙ new-known h xs parts.1

  -- a function with one value is known
  known_constant : (g : Function) (b : Bool) → ((first : List Bool) → length first ≡ vars → fixed first g (λ _. false) ≡ b) → known g ≡ true
  unfolding known
  known_constant g true same = functions_some before (agree vars g) (length before + 2) 1 (omega arith)
      (agree_from vars g (function before 1) (λ first long. same first long ∙ sym (function_true before (with_first first (λ _. false)))))
  known_constant g false same = functions_some before (agree vars g) (length before + 2) 0 (omega arith)
      (agree_from vars g (function before 0) (λ first long. same first long ∙ sym (function_false before (with_first first (λ _. false)))))

  -- a function all of whose variables are fixed is known
  known_fixed : (f : Function) (first : List Bool) → length first ≡ vars → known (fixed first f) ≡ true
  known_fixed f first long = known_constant (fixed first f) (fixed first f (λ _. false))
      (λ second long_second. ap f (λ i v. shorter_at first second v false (omega arith) i))

  count_new : (fs : List Function) → count (agree vars) (new fs) ≤ length fs
  unfolding new
  count_new fs = omega (arith, count_within (agree vars) (new fs), length-filter_within (λ g. not (list_any (agree vars g) (functions before))) fs)

  -- what a function becomes counts only with fewer variables fixed than there are
  new_fixed : (n : ℕ) (h : List Bool → Function) → ((first : List Bool) → length first ≡ n → known (h first) ≡ true)
      → count (agree vars) (new (map h (lists_up_to n))) + 1 ≤ 2 ^ n
  unfolding lists_up_to lists
  new_fixed zero h whole = omega (arith, count-nil (agree vars), ap (count (agree vars)) (new-known h ([] ∷ []) (and_from (known (h [])) true (whole [] refl) refl)))
  new_fixed (suc n) h whole =
      let none : new (map h (lists (suc n))) ≡ [] = new-known h (lists (suc n)) (lists_from (λ first. known (h first)) (suc n) whole) in
      let shape : new (map h (lists_up_to (suc n))) ≡ new (map h (lists_up_to n)) =
      ap new (map-append h (lists_up_to n) (lists (suc n)))
      ∙ new-append (map h (lists_up_to n)) (map h (lists (suc n)))
      ∙ ap (λ l. new (map h (lists_up_to n)) ++ l) none
      ∙ append-nil (new (map h (lists_up_to n))) in
      omega (arith, ap (count (agree vars)) shape, count_new (map h (lists_up_to n)), length-map (lists_up_to n) h, length-lists_up_to n, pow-succ' 2 n)

  -- one piece needs fewer nodes than there are states
  pub grow_piece : (piece : Function) → grow vars before (piece ∷ []) < 2 ^ vars
  grow_piece piece =
      let shape : flat_map (subfunctions vars) (piece ∷ []) ≡ subfunctions vars piece = append-nil (subfunctions vars piece) in
      let same : grow vars before (piece ∷ []) ≡ count (agree vars) (new (subfunctions vars piece)) = grow_is (piece ∷ []) ∙ ap (λ l. count (agree vars) (new l)) shape in
      omega (arith, same, new_fixed vars (λ first. fixed first piece) (known_fixed piece))

  -- the pieces of two lists
  pub grow-append : (fs gs : List Function) → grow vars before (fs ++ gs) ≤ grow vars before fs + grow vars before gs
  grow-append fs gs =
      let shape : new (flat_map (subfunctions vars) (fs ++ gs)) ≡ new (flat_map (subfunctions vars) fs) ++ new (flat_map (subfunctions vars) gs) =
      ap new (flat_map-append (subfunctions vars) fs gs) ∙ new-append (flat_map (subfunctions vars) fs) (flat_map (subfunctions vars) gs) in
      omega (
        arith,
        grow_is (fs ++ gs),
        grow_is fs,
        grow_is gs,
        ap (count (agree vars)) shape,
        count-append (agree vars) (new (flat_map (subfunctions vars) fs)) (new (flat_map (subfunctions vars) gs)),
      )

  pub grow-nil : grow vars before [] ≡ 0
  unfolding new
  grow-nil = grow_is [] ∙ count-nil (agree vars)

  -- so many pieces that each grow by at most a bound
  pub grow_each : {X : Type 0} (h : X → Function) (bound : ℕ) → ((x : X) → grow vars before (h x ∷ []) ≤ bound) → (xs : List X) → grow vars before (map h xs) ≤ length xs * bound
  grow_each h bound each [] = omega (arith, grow-nil)
  grow_each h bound each (x ∷ xs) = omega (arith, grow-append (h x ∷ []) (map h xs), each x, grow_each h bound each xs)

module _ (vars : ℕ) (before : List Node) where
  -- functions that are known or agree with one function count once at most
  known_or_one : (h : List Bool → Function) (g : Function) → ((first : List Bool) → (known vars before (h first) ≡ true) ⊎ (agree vars (h first) g ≡ true))
      → (firsts : List (List Bool)) → count (agree vars) (new vars before (map h firsts)) ≤ 1
  unfolding new known
  known_or_one h g each [] = omega (arith, count-nil (agree vars))
  known_or_one h g each (x ∷ xs) =
      let rest : count (agree vars) (new vars before (map h xs)) ≤ 1 = known_or_one h g each xs in
      ⊎_elim
      (λ (was : known vars before (h x) ≡ true).
      let shape : new vars before (map h (x ∷ xs)) ≡ new vars before (map h xs) = cond-false (not (known vars before (h x))) (h x ∷ new vars before (map h xs)) (new vars before (map h xs)) (not_from_true (known vars before (h x)) was) in
      omega (arith, ap (count (agree vars)) shape))
      (λ (is_new : known vars before (h x) ≡ false).
      let shape : new vars before (map h (x ∷ xs)) ≡ h x ∷ new vars before (map h xs) = cond-true (not (known vars before (h x))) (h x ∷ new vars before (map h xs)) (new vars before (map h xs)) (not_from_false (known vars before (h x)) is_new) in
      let here : agree vars (h x) g ≡ true = ⊎_elim (λ (was : known vars before (h x) ≡ true). absurd (both_ways (known vars before (h x)) is_new was)) (λ (same : agree vars (h x) g ≡ true). same) (each x) in
      ⊎_elim
      (λ (there : list_any (agree vars (h x)) (new vars before (map h xs)) ≡ true). omega (arith, ap (count (agree vars)) shape, count-there (agree vars) (h x) (new vars before (map h xs)) there))
      (λ (apart : list_any (agree vars (h x)) (new vars before (map h xs)) ≡ false).
      omega (arith, ap (count (agree vars)) shape, count-new (agree vars) (h x) (new vars before (map h xs)) apart, no_other (h x) here xs apart))
      (cases_Bool (list_any (agree vars (h x)) (new vars before (map h xs)))))
      (cases_Bool (known vars before (h x)))
    where
      no_other : (y : Function) → agree vars y g ≡ true → (xs : List (List Bool)) → list_any (agree vars y) (new vars before (map h xs)) ≡ false → count (agree vars) (new vars before (map h xs)) ≡ 0
      no_other y here [] apart = count-nil (agree vars)
      no_other y here (x ∷ xs) apart = ⊎_elim
          (λ (was : known vars before (h x) ≡ true).
          let shape : new vars before (map h (x ∷ xs)) ≡ new vars before (map h xs) = cond-false (not (known vars before (h x))) (h x ∷ new vars before (map h xs)) (new vars before (map h xs)) (not_from_true (known vars before (h x)) was) in
          ap (count (agree vars)) shape ∙ no_other y here xs (ap (list_any (agree vars y)) (sym shape) ∙ apart))
          (λ (is_new : known vars before (h x) ≡ false).
          let shape : new vars before (map h (x ∷ xs)) ≡ h x ∷ new vars before (map h xs) = cond-true (not (known vars before (h x))) (h x ∷ new vars before (map h xs)) (new vars before (map h xs)) (not_from_false (known vars before (h x)) is_new) in
          let same : agree vars (h x) g ≡ true = ⊎_elim (λ (was : known vars before (h x) ≡ true). absurd (both_ways (known vars before (h x)) is_new was)) (λ (same : agree vars (h x) g ≡ true). same) (each x) in
          absurd (both_ways (agree vars y (h x))
          (or_parts (agree vars y (h x)) (list_any (agree vars y) (new vars before (map h xs))) (ap (list_any (agree vars y)) (sym shape) ∙ apart)).0
          (agree_chain vars y g (h x) here (agree_turn vars (h x) g same))))
          (cases_Bool (known vars before (h x)))

  grow_only : (piece : Function) → grow vars before (piece ∷ []) ≡ count (agree vars) (new vars before (subfunctions vars piece))
  grow_only piece = grow_is vars before (piece ∷ []) ∙ ap (λ l. count (agree vars) (new vars before l)) (append-nil (subfunctions vars piece))

  -- a variable is one node
  pub grow_variable : (v : ℕ) → grow vars before (variable v ∷ []) ≤ 1
  grow_variable v = omega (arith, grow_only (variable v), known_or_one (λ first. fixed first (variable v)) (variable v) each (lists_up_to vars))
    where
      each : (first : List Bool) → (known vars before (fixed first (variable v)) ≡ true) ⊎ (agree vars (fixed first (variable v)) (variable v) ≡ true)
      each first = ⊎_elim
          (λ (within : v < length first). inl (known_constant vars before (fixed first (variable v)) (slice_index_or first v false)
          (λ second _. within_at first v (with_first second (λ _. false) v) false within)))
          (λ (past : length first ≤ v). inr (agree_same vars (fixed first (variable v)) (variable v) (λ values. past_at first v (values v) past)))
          (cases_lt v (length first))

  -- a constant is none
  pub grow_constant : (g : Function) (b : Bool) → ((values : Values) → g values ≡ b) → grow vars before (g ∷ []) ≡ 0
  grow_constant g b same =
      grow_only g
      ∙ ap (count (agree vars)) (new-known vars before (λ first. fixed first g) (lists_up_to vars)
      (list_all-from (λ first. known vars before (fixed first g)) (lists_up_to vars)
      (λ first _. known_constant vars before (fixed first g) b (λ second _. same (with_first first (with_first second (λ _. false)))))))
      ∙ count-nil (agree vars)
