-- Lists that have numbers, and one list more.
use Rattle.std.proofs.Common.{◌≡◌, ℕ, zero, suc, ◌+◌, ◌<◌, ◌≤◌, ◌==◌, Bool, true, false, cond, List, [], ◌∷◌, ◌++◌, length, take, drop, Some, slice_get, slice_set, Contains, ◌⊎◌, ⊎_elim, inl, inr, refl, sym, ap, subst, ◌∙◌, arith}
use Rattle.std.proofs.lemmas.Bool.{cases_Bool, cond-true, cond-false, eqb-true, eq-eqb, ne_eqb}
use Rattle.std.proofs.lemmas.List.{take-append-le, drop_at, length-append, take_all}
use Rattle.std.proofs.lemmas.Option.{none-some, same_Some}
use Rattle.dd_cache.specs.declared.key.Key.{Key}
use Rattle.dd_nodes.specs.declared.node.Node.{Node}
use Rattle.dd_nodes.specs.declared.node.Ref.{Ref}
use Rattle.dd_ops.specs.Answers.{AreNumbers, IsReplaced}
use Rattle.dd_ops.specs.Known.{AreKnown, IsKnownAs, IsKnownAt, IsPut, part_of}
use Rattle.dd_ops.specs.declared.known.KnownList.{KnownList}

-- what stands at a place after a write
pub get_set : {X : Type 0} (xs : List X) (i j : ℕ) (x y : X) → slice_get (slice_set xs i x) j ≡ Some y → ((j ≡ i) × (y ≡ x)) ⊎ (slice_get xs j ≡ Some y)
get_set [] i j x y at = absurd (none-some y at)
get_set (z ∷ zs) zero zero x y at = inl (refl, sym (same_Some x y at))
get_set (z ∷ zs) zero (suc j) x y at = inr at
get_set (z ∷ zs) (suc i) zero x y at = inr at
get_set (z ∷ zs) (suc i) (suc j) x y at = ⊎_elim
    (λ (same : (j ≡ i) × (y ≡ x)). inl (ap suc same.0, same.1))
    (λ (other : slice_get zs j ≡ Some y). inr other)
    (get_set zs i j x y at)

-- the part of a list among the entries stays where more are appended
part_stays : (list : KnownList) (xs ys : List (ℕ × Ref)) → list.end ≤ length xs → part_of list (xs ++ ys) ≡ part_of list xs
part_stays list xs ys within = ap (drop list.start) (take-append-le list.end xs ys within)

-- and what was appended last is the last part
part_new : (list : KnownList) (xs ys : List (ℕ × Ref)) → list.start ≡ length xs → list.end ≡ length xs + length ys → part_of list (xs ++ ys) ≡ ys
part_new list xs ys start end =
    ap (drop list.start) (take_all list.end (xs ++ ys) (omega (arith, end, length-append xs ys)))
    ∙ drop_at xs ys list.start (sym start)

module _ (nodes : List Node) (places : List KnownList) (entries : List (ℕ × Ref)) (pairs : List (Key × ℕ)) where
  -- a list that stands at a place has its number
  pub found_known : (next : ℕ) (map : List (ℕ × Ref)) (number : ℕ) → AreKnown nodes places entries pairs next → IsKnownAt places entries map number → IsKnownAs nodes places entries pairs next map number
  found_known next map number known at = let place = known.placed at.0 at.1 at.2 in record {
    known = known;
    means = ap known.meaning at.4 ∙ place.2 ∙ at.3;
    below = omega (arith, at.4, place.0);
  }

  -- a new number means a new list
  module _ (own : ℕ) (known : AreKnown nodes places entries pairs own) (map : List (ℕ × Ref)) where
    also : ℕ → List (ℕ × Ref)
    also n = cond (n == own) map (known.meaning n)

    also_new : also own ≡ map
    unfolding also
    also_new = cond-true (own == own) map (known.meaning own) (eq-eqb own own refl)

    also_old : (n : ℕ) → n < own → also n ≡ known.meaning n
    unfolding also
    also_old n less = cond-false (n == own) map (known.meaning n) (ne_eqb n own (λ (same : n ≡ own). absurd (omega (arith, same, less))))

    also_numbers : AreNumbers nodes map → (n : ℕ) → AreNumbers nodes (also n)
    unfolding also
    also_numbers numbers n = ⊎_elim
        (λ (same : (n == own) ≡ true). subst (AreNumbers nodes) (sym (cond-true (n == own) map (known.meaning n) same)) numbers)
        (λ (other : (n == own) ≡ false). subst (AreNumbers nodes) (sym (cond-false (n == own) map (known.meaning n) other)) (known.numbers n))
        (cases_Bool (n == own))

    placed_old : (k : ℕ) (list : KnownList) → slice_get places k ≡ Some list → (list.number < own + 1) × (list.end ≤ length entries) × (also list.number ≡ part_of list entries)
    placed_old k list at = let was = known.placed k list at in (omega (arith, was.0), was.1, also_old list.number was.0 ∙ was.2)

    placed_more : (k : ℕ) (list : KnownList) → slice_get places k ≡ Some list → (list.number < own + 1) × (list.end ≤ length (entries ++ map)) × (also list.number ≡ part_of list (entries ++ map))
    placed_more k list at =
        let was = placed_old k list at in
        let long : length (entries ++ map) ≡ length entries + length map = length-append entries map in
        (was.0, omega (arith, was.1, long), was.2 ∙ sym (part_stays list entries map was.1))

    placed_new : (list : KnownList) → list.number ≡ own → list.start ≡ length entries → list.end ≡ length entries + length map
        → (list.number < own + 1) × (list.end ≤ length (entries ++ map)) × (also list.number ≡ part_of list (entries ++ map))
    placed_new list number start end =
        let long : length (entries ++ map) ≡ length entries + length map = length-append entries map in
        (omega (arith, number), omega (arith, end, long), ap also number ∙ also_new ∙ sym (part_new list entries map start end))

    also_replaced : (n f r : ℕ) → n < own → IsReplaced nodes (known.meaning n) f r → IsReplaced nodes (also n) f r
    also_replaced n f r less was = subst (λ (m : List (ℕ × Ref)). IsReplaced nodes m f r) (sym (also_old n less)) was

    known_with : (new_places : List KnownList) (new_entries : List (ℕ × Ref)) → AreNumbers nodes map
        → ((k : ℕ) (list : KnownList) → slice_get new_places k ≡ Some list → (list.number < own + 1) × (list.end ≤ length new_entries) × (also list.number ≡ part_of list new_entries))
        → IsKnownAs nodes new_places new_entries pairs (own + 1) map own
    known_with new_places new_entries numbers placed = record {
      known = record {
        meaning = also;
        some = omega arith;
        numbers = also_numbers numbers;
        placed = placed;
        replaced = λ n f r has. let was = known.replaced n f r has in (omega (arith, was.0), also_replaced n f r was.0 was.1);
      };
      means = also_new;
      below = omega arith;
    }

    pub put_known : (place : ℕ) (new_places : List KnownList) (new_entries : List (ℕ × Ref)) → AreNumbers nodes map
        → IsPut place own map places entries new_places new_entries → IsKnownAs nodes new_places new_entries pairs (own + 1) map own
    put_known place new_places new_entries numbers put = known_with new_places new_entries numbers (λ k list at. ⊎_elim
        (λ (same : (new_places ≡ places) × (new_entries ≡ entries)).
        subst (λ (all : List (ℕ × Ref)). (list.number < own + 1) × (list.end ≤ length all) × (also list.number ≡ part_of list all)) (sym same.1)
        (placed_old k list (subst (λ (ps : List KnownList). slice_get ps k ≡ Some list) same.0 at)))
        (⊎_elim
        (λ (more : (new_places ≡ places) × (new_entries ≡ entries ++ map)).
        subst (λ (all : List (ℕ × Ref)). (list.number < own + 1) × (list.end ≤ length all) × (also list.number ≡ part_of list all)) (sym more.1)
        (placed_more k list (subst (λ (ps : List KnownList). slice_get ps k ≡ Some list) more.0 at)))
        (λ (written : (new_places ≡ slice_set places place (record { number = own; start = length entries; end = length entries + length map })) × (new_entries ≡ entries ++ map)).
        subst (λ (all : List (ℕ × Ref)). (list.number < own + 1) × (list.end ≤ length all) × (also list.number ≡ part_of list all)) (sym written.1)
        (⊎_elim
        (λ (here : (k ≡ place) × (list ≡ record { number = own; start = length entries; end = length entries + length map })).
        placed_new list (ap (λ (l : KnownList). l.number) here.1) (ap (λ (l : KnownList). l.start) here.1) (ap (λ (l : KnownList). l.end) here.1))
        (λ (other : slice_get places k ≡ Some list). placed_more k list other)
        (get_set places place k (record { number = own; start = length entries; end = length entries + length map }) list
        (subst (λ (ps : List KnownList). slice_get ps k ≡ Some list) written.0 at)))))
        put)
