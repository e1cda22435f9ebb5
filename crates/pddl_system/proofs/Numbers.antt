-- Bindings, atoms and fluents differ, so that each fluent has its place as its number.
use Rattle.std.proofs.Common.{◌≡◌, ℕ, zero, suc, ◌+◌, ◌<◌, Bool, true, false, inl, inr, not, cond, List, [], ◌∷◌, map, length, get_or, Some, None, refl, sym, ◌∙◌, ap, subst, arith, eqb, ltb}
use Rattle.std.specs.Prelude.{slice_get, replicate}
use Rattle.std.specs.List.{enumerate_from, position_or_len, range_with_len}
use Rattle.std.proofs.lemmas.Bool.{and_parts, and_from, eqb-true, eq-eqb, ne_eqb, lt-ltb, false≢true}
use Rattle.std.proofs.lemmas.List.{map-id}
use Rattle.std.proofs.lemmas.Option.{none-some, same_Some, slice_get_within}
use Rattle.std.proofs.lemmas.Slice.Eq.{bytes_eq-Decides}
use Rattle.std.specs.Str.{bytes_eq}
use Rattle.pddl_ast.specs.declared.trees.Predicate.{Predicate}
use Rattle.pddl_ast.specs.Trees.{AtomTree, DomainTree, ProblemTree}
use Rattle.pddl_system.specs.Fluents.{fluents, is_fluent}
use Rattle.pddl_system.specs.GroundAtoms.{all_atoms, atoms_of_predicate, same_atom}
use Rattle.pddl_system.specs.Objects.{all_objects, bindings}
use Rattle.pddl_system.specs.States.{fluent_number}
use Rattle.pddl_system.proofs.Members.{Among, Apart, Among-flat_map, Among-flat_map_from, Among-in_range, Among-map, Among-map_from, Among-slice_get, Apart-filter, Apart-flat_map, Apart-map, Apart-range, numbers_are}

-- atoms that pass the test are the same
pub same_atom-equal : (a b : AtomTree) → same_atom a b ≡ true → a ≡ b
same_atom-equal a b h =
    let parts = and_parts (eqb a.predicate b.predicate) (bytes_eq a.objects b.objects) h in
    let predicates = eqb-true a.predicate b.predicate parts.0 in
    let objects = (bytes_eq-Decides a.objects b.objects).0 parts.1 in
    λ i. record { predicate = predicates i; objects = objects i }

pub same_atom-refl : (a : AtomTree) → same_atom a a ≡ true
same_atom-refl a =
    and_from (eqb a.predicate a.predicate) (bytes_eq a.objects a.objects)
    (eq-eqb a.predicate a.predicate refl) ((bytes_eq-Decides a.objects a.objects).1 refl)

pub same_atom-sym : (a b : AtomTree) → same_atom a b ≡ same_atom b a
same_atom-sym a b = by_test (same_atom a b) (same_atom b a) refl refl
  where
    by_test : (s t : Bool) → same_atom a b ≡ s → same_atom b a ≡ t → same_atom a b ≡ same_atom b a
    by_test true t e k = e ∙ sym (subst (λ x. same_atom x a ≡ true) (same_atom-equal a b e) (same_atom-refl a))
    by_test false true e k = subst (λ x. same_atom a x ≡ true) (sym (same_atom-equal b a k)) (same_atom-refl a) ∙ sym k
    by_test false false e k = e ∙ sym k

-- bindings differ where the objects of each type do
pub bindings_apart : (objects : ℕ → List ℕ) → ((t : ℕ) → Apart (objects t)) → (types : List ℕ) → Apart (bindings objects types)
bindings_apart objects apart [] = ((λ h. h), tt)
bindings_apart objects apart (t ∷ ts) =
    Apart-flat_map (λ o. map (λ rest. o ∷ rest) (bindings objects ts)) (λ o. o) (λ chosen. get_or chosen 0 0) (objects t)
    (λ o chosen k l. let from = Among-map_from (λ rest. o ∷ rest) chosen (bindings objects ts) l in ap (λ c. get_or c 0 0) (sym from.2))
    (λ o k. Apart-map (λ rest. o ∷ rest) (bindings objects ts) (λ x y _ _ e. ap (λ c. rest_of c) e) (bindings_apart objects apart ts))
    (subst Apart (sym (map-id (objects t))) (apart t))
  where
    rest_of : List ℕ → List ℕ
    rest_of [] = []
    rest_of (x ∷ xs) = xs

-- what is chosen is an object of some type
pub chosen_from : (objects : ℕ → List ℕ) (types chosen : List ℕ) → Among chosen (bindings objects types) → (x : ℕ) → Among x chosen → (t : ℕ) × Among x (objects t)
chosen_from objects [] chosen (inl is) x h = absurd (subst (λ c. Among x c) (sym is) h)
chosen_from objects [] chosen (inr k) x h = absurd k
chosen_from objects (t ∷ ts) chosen k x h =
    let one = Among-flat_map_from (λ o. map (λ rest. o ∷ rest) (bindings objects ts)) chosen (objects t) k in
    let two = Among-map_from (λ rest. one.0 ∷ rest) chosen (bindings objects ts) one.2 in
    elim (subst (λ c. Among x c) (sym two.2) h) as (λ _. (u : ℕ) × Among x (objects u)) [
      | inl is ↦ (t, subst (λ z. Among z (objects t)) is one.1)
      | inr g ↦ chosen_from objects ts two.0 two.1 x g
    ]

pub length-chosen : (objects : ℕ → List ℕ) (types chosen : List ℕ) → Among chosen (bindings objects types) → length chosen ≡ length types
length-chosen objects [] chosen (inl is) = ap length (sym is)
length-chosen objects [] chosen (inr k) = absurd k
length-chosen objects (t ∷ ts) chosen k =
    let one = Among-flat_map_from (λ o. map (λ rest. o ∷ rest) (bindings objects ts)) chosen (objects t) k in
    let two = Among-map_from (λ rest. one.0 ∷ rest) chosen (bindings objects ts) one.2 in
    ap length (sym two.2) ∙ ap suc (length-chosen objects ts two.0 two.1)

-- all lists of n numbers below a count are chosen
pub all_chosen : (count n : ℕ) (chosen : List ℕ) → length chosen ≡ n → ((x : ℕ) → Among x chosen → x < count) → Among chosen (bindings (λ _. range_with_len 0 count) (replicate n 0))
all_chosen count zero [] is below = inl refl
all_chosen count zero (x ∷ chosen) is below = absurd (omega arith)
all_chosen count (suc n) [] is below = absurd (omega arith)
all_chosen count (suc n) (x ∷ chosen) is below =
    let low = below x (inl refl) in
    Among-flat_map (λ o. map (λ rest. o ∷ rest) (bindings (λ _. range_with_len 0 count) (replicate n 0))) x (x ∷ chosen) (range_with_len 0 count)
    (Among-in_range x 0 count (omega arith) (omega arith))
    (Among-map (λ rest. x ∷ rest) chosen (bindings (λ _. range_with_len 0 count) (replicate n 0)) (all_chosen count n chosen (omega arith) (λ y k. below y (inr k))))

-- all atoms differ
pub atoms_apart : (predicates : List Predicate) (n : ℕ) → Apart (all_atoms predicates n)
atoms_apart predicates n =
    Apart-flat_map (λ (entry : ℕ × Predicate). atoms_of_predicate n entry.0 entry.1.arity) (λ (entry : ℕ × Predicate). entry.0) (λ (a : AtomTree). a.predicate) (enumerate_from 0 predicates)
    (λ entry a k l. ap (λ (b : AtomTree). b.predicate) (sym (Among-map_from _ a (choices entry.1.arity) l).2))
    (λ entry k. Apart-map (λ objects. record { predicate = entry.0; objects = objects }) (choices entry.1.arity)
    (λ x y _ _ e. ap (λ (b : AtomTree). b.objects) e) (bindings_apart (λ _. range_with_len 0 n) (λ _. Apart-range 0 n) (replicate entry.1.arity 0)))
    (subst Apart (sym (numbers_are 0 predicates)) (Apart-range 0 (length predicates)))
  where
    choices : ℕ → List (List ℕ)
    choices arity = bindings (λ _. range_with_len 0 n) (replicate arity 0)

pub fluents_apart : (d : DomainTree) (p : ProblemTree) → Apart (fluents d p)
fluents_apart d p = Apart-filter (is_fluent d p) (all_atoms d.predicates (length (all_objects d p))) (atoms_apart d.predicates (length (all_objects d p)))

-- the first place where an atom is: at the k-th of different atoms it is k for that atom alone
eqb-suc : (n k : ℕ) → eqb (1 + n) (suc k) ≡ eqb n k
eqb-suc n k = by_test (eqb n k) refl
  where
    by_test : (b : Bool) → eqb n k ≡ b → eqb (1 + n) (suc k) ≡ eqb n k
    by_test true e = eq-eqb (1 + n) (suc k) (let same = eqb-true n k e in omega arith) ∙ sym e
    by_test false e = ne_eqb (1 + n) (suc k) (λ h. false≢true (sym e ∙ eq-eqb n k (omega arith))) ∙ sym e

pub place_is : (xs : List AtomTree) → Apart xs → (k : ℕ) (y : AtomTree) → slice_get xs k ≡ Some y → (b : AtomTree) → eqb (position_or_len (same_atom b) xs) k ≡ same_atom y b
place_is [] apart k y h b = absurd (none-some y h)
place_is (x ∷ xs) apart zero y h b = by_test (same_atom b x) refl
  where
    here : x ≡ y
    here = same_Some x y h

    by_test : (t : Bool) → same_atom b x ≡ t → eqb (cond (not (same_atom b x)) (1 + position_or_len (same_atom b) xs) 0) 0 ≡ same_atom y b
    by_test true e = rw e (sym (ap (λ z. same_atom z b) (sym here) ∙ same_atom-sym x b ∙ e))
    by_test false e = rw e (ne_eqb (1 + position_or_len (same_atom b) xs) 0 (λ k. omega arith) ∙ sym (ap (λ z. same_atom z b) (sym here) ∙ same_atom-sym x b ∙ e))
place_is (x ∷ xs) apart (suc k) y h b = by_test (same_atom b x) refl (place_is xs apart.1 k y h b)
  where
    by_test : (t : Bool) → same_atom b x ≡ t → eqb (position_or_len (same_atom b) xs) k ≡ same_atom y b → eqb (cond (not (same_atom b x)) (1 + position_or_len (same_atom b) xs) 0) (suc k) ≡ same_atom y b
    by_test true e rest = rw e (ne_eqb 0 (suc k) (λ h. omega arith) ∙ sym (other (same_atom y b) refl))
      where
        other : (s : Bool) → same_atom y b ≡ s → same_atom y b ≡ false
        other true g =
            let equal : y ≡ x = same_atom-equal y b g ∙ same_atom-equal b x e in
            absurd (apart.0 (subst (λ z. Among z xs) equal (Among-slice_get xs k y h)))
        other false g = g
    by_test false e rest = rw e (eqb-suc (position_or_len (same_atom b) xs) k ∙ rest)

-- so the k-th has the number k
pub number_is : (xs : List AtomTree) → Apart xs → (k : ℕ) (y : AtomTree) → slice_get xs k ≡ Some y → fluent_number xs y ≡ Some k
number_is xs apart k y h =
    let first : position_or_len (same_atom y) xs ≡ k = eqb-true (position_or_len (same_atom y) xs) k (place_is xs apart k y h y ∙ same_atom-refl y) in
    ap (λ n. cond (ltb n (length xs)) (Some n) None) first
    ∙ ap (λ b. cond b (Some k) None) (lt-ltb k (length xs) (slice_get_within xs k y h))
