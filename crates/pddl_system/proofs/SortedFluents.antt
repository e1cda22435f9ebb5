-- The fluents are the atoms that are named, each once and in order.
use Rattle.std.proofs.Common.{◌≡◌, ℕ, Bool, true, ◌||◌, inl, inr, List, [], ◌∷◌, map, length, refl, sym, ◌∙◌, ap, subst}
use Rattle.std.specs.Prelude.{replicate}
use Rattle.std.specs.Cmp.{IsTotalOrder}
use Rattle.std.specs.Cmp.Lexicographic.{on_texts, slice_cmp}
use Rattle.std.specs.Ordering.{nat_cmp, ordering_then}
use Rattle.std.specs.declared.cmp.Ordering.TheVariants.{Less}
use Rattle.std.specs.List.{enumerate_from, flat_map, list_any, range_with_len}
use Rattle.std.proofs.lemmas.Bool.{or_cases}
use Rattle.std.proofs.lemmas.List.Folds.{list_any-append}
use Rattle.pddl_ast.specs.declared.trees.Predicate.{Predicate}
use Rattle.pddl_ast.specs.Fits.{FitsDomain, FitsProblem, FitsSchema, known_in}
use Rattle.pddl_ast.specs.Trees.{AtomTree, LiteralTree, DomainTree, ProblemTree}
use Rattle.pddl_system.specs.Fluents.{atoms_changed, changed_by, fluents, is_fluent, named_atoms, named_by, named_by_effect}
use Rattle.pddl_system.specs.GroundAtoms.{all_atoms, atoms_of_predicate, is_among, same_atom}
use Rattle.pddl_system.specs.Instances.{Instance, kept_instances}
use Rattle.pddl_system.specs.Laws.{FluentsAreSorted, NamedAtomsAreNoMore, NamedAtomsInOrderAreFluents, NamedAtomsMakeFluents}
use Rattle.pddl_system.specs.Objects.{all_objects, bindings}
use Rattle.pddl_system.specs.Orders.{atom_order}
use Rattle.pddl_system.specs.Outcomes.{ChangeTree, outcomes_of, possible_changes}
use Rattle.pddl_system.specs.Settings.{setting}
use Rattle.pddl_system.proofs.Lists.{list_any-flat_map}
use Rattle.pddl_system.proofs.Members.{Among, All-Among, Among-filter_from, Among-flat_map_from, Among-from_list_any, Among-map_from, Apart-few, Apart-from_AllPairs, list_any-from_Among, numbers_are}
use Rattle.pddl_system.proofs.NamedAtoms.{named_atoms_are_changed}
use Rattle.pddl_system.proofs.NameLaws.{schema_listed}
use Rattle.pddl_system.proofs.Numbers.{same_atom-equal, same_atom-refl}
use Rattle.pddl_system.proofs.Rising.{InOrder-from_sorted, Rising, Rising-bindings, Rising-filter, Rising-flat_map, Rising-from_map, Rising-map, Rising-range, number_same, same_in_order, sorted_from_Rising}
use Rattle.pddl_system.proofs.TaskParts.{changed_is_fluent, named_is_fluent}

-- the order of atoms is total
atoms_are_ordered : IsTotalOrder atom_order
atoms_are_ordered = on_texts (λ (a : AtomTree). a.predicate ∷ a.objects)

-- all atoms rise

choices : ℕ → ℕ → List (List ℕ)
choices n arity = bindings (λ _. range_with_len 0 n) (replicate arity 0)

atom_of_number : ℕ → List ℕ → AtomTree
atom_of_number q objects = record { predicate = q; objects = objects }

of_one_predicate : (n q arity : ℕ) → Rising atom_order (atoms_of_predicate n q arity)
unfolding choices atom_of_number
of_one_predicate n q arity =
    Rising-map (slice_cmp nat_cmp) atom_order (atom_of_number q)
    (λ x y less. ap (λ r. ordering_then r (slice_cmp nat_cmp x y)) (number_same q) ∙ less)
    (choices n arity) (Rising-bindings (λ _. range_with_len 0 n) (λ _. Rising-range 0 n) (replicate arity 0))

predicate_of : (n q arity : ℕ) (a : AtomTree) → Among a (atoms_of_predicate n q arity) → q ≡ a.predicate
unfolding choices atom_of_number
predicate_of n q arity a h = ap (λ (b : AtomTree). b.predicate) (Among-map_from (atom_of_number q) a (choices n arity) h).2

atoms_rise : (predicates : List Predicate) (n : ℕ) → Rising atom_order (all_atoms predicates n)
atoms_rise predicates n =
    Rising-flat_map (λ (e f : ℕ × Predicate). nat_cmp e.0 f.0) atom_order (λ (e : ℕ × Predicate). atoms_of_predicate n e.0 e.1.arity)
    (λ e. of_one_predicate n e.0 e.1.arity)
    (λ e f a b less k l.
    ap (λ r. ordering_then r (slice_cmp nat_cmp a.objects b.objects))
    (subst (λ m. nat_cmp m b.predicate ≡ Less) (predicate_of n e.0 e.1.arity a k) (subst (λ m. nat_cmp e.0 m ≡ Less) (predicate_of n f.0 f.1.arity b l) less)))
    (enumerate_from 0 predicates)
    (Rising-from_map nat_cmp (λ (e : ℕ × Predicate). e.0) (enumerate_from 0 predicates) (subst (Rising nat_cmp) (sym (numbers_are 0 predicates)) (Rising-range 0 (length predicates))))

fluents_rise : (d : DomainTree) (p : ProblemTree) → Rising atom_order (fluents d p)
fluents_rise d p = Rising-filter atom_order (is_fluent d p) (all_atoms d.predicates (length (all_objects d p))) (atoms_rise d.predicates (length (all_objects d p)))

pub fluents_are_sorted : FluentsAreSorted
fluents_are_sorted d p = sorted_from_Rising atom_order atoms_are_ordered (fluents d p) (fluents_rise d p)

-- what is named is what is a fluent

same_tests : {X : Type 0} (p q : X → Bool) (xs : List X) → ((x : X) → Among x xs → p x ≡ q x) → list_any p xs ≡ list_any q xs
same_tests p q [] same = refl
same_tests p q (x ∷ xs) same =
    ap (λ b. b || list_any p xs) (same x (inl refl)) ∙ ap (λ b. q x || b) (same_tests p q xs (λ y k. same y (inr k)))

pub named_atoms_make_fluents : NamedAtomsMakeFluents
named_atoms_make_fluents d p a fits =
    list_any-append (same_atom a) (flat_map (λ (i : Instance). named_by_effect (setting d p) i.schema.effect i.objects) (kept_instances d p)) (flat_map named_by p.entries)
    ∙ ap (λ b. b || is_among (flat_map named_by p.entries) a) by_effects
    ∙ ap (λ b. list_any (λ i. is_among (changed_by (setting d p) i) a) (kept_instances d p) || b) (list_any-flat_map (same_atom a) named_by p.entries)
  where
    of_instance : (i : Instance) → Among i (kept_instances d p) → is_among (named_by_effect (setting d p) i.schema.effect i.objects) a ≡ is_among (changed_by (setting d p) i) a
    of_instance i h =
        let schema = All-Among (FitsSchema (known_in d)) i.schema d.actions fits.actions (schema_listed d p i h) in
        sym (named_atoms_are_changed (known_in d) (length i.schema.parameters) (setting d p) i a schema.effect)

    by_effects : is_among (flat_map (λ (i : Instance). named_by_effect (setting d p) i.schema.effect i.objects) (kept_instances d p)) a ≡ list_any (λ i. is_among (changed_by (setting d p) i) a) (kept_instances d p)
    by_effects =
        list_any-flat_map (same_atom a) (λ (i : Instance). named_by_effect (setting d p) i.schema.effect i.objects) (kept_instances d p)
        ∙ same_tests _ _ (kept_instances d p) of_instance

module _ (d : DomainTree) (p : ProblemTree) (fits_d : FitsDomain d) (fits_p : FitsProblem d p) where
  is_listed : (a : AtomTree) → is_fluent d p a ≡ true → Among a (fluents d p)
  is_listed a h =
      elim (or_cases (list_any (λ i. is_among (changed_by (setting d p) i) a) (kept_instances d p)) (list_any (λ entry. is_among (named_by entry) a) p.entries) h) as (λ _. Among a (fluents d p)) [
        | inl k ↦
            let i = Among-from_list_any (λ j. is_among (changed_by (setting d p) j) a) (kept_instances d p) k in
            let b = Among-from_list_any (same_atom a) (changed_by (setting d p) i.0) i.2 in
            let o = Among-flat_map_from (λ u. atoms_changed (possible_changes (setting d p) u)) b.0 (outcomes_of (setting d p) i.0) b.1 in
            let t = Among-map_from (λ (c : ChangeTree). c.atom) b.0 (possible_changes (setting d p) o.0) o.2 in
            subst (λ x. Among x (fluents d p)) (t.2 ∙ sym (same_atom-equal a b.0 b.2)) (changed_is_fluent d p fits_d fits_p i.0 i.1 o.0 o.1 t.0 t.1)
        | inr k ↦
            let entry = Among-from_list_any (λ e. is_among (named_by e) a) p.entries k in
            let b = Among-from_list_any (same_atom a) (named_by entry.0) entry.2 in
            let ls = Among-flat_map_from (map (λ (l : LiteralTree). l.atom)) b.0 entry.0 b.1 in
            let l = Among-map_from (λ (x : LiteralTree). x.atom) b.0 ls.0 ls.2 in
            subst (λ x. Among x (fluents d p)) (l.2 ∙ sym (same_atom-equal a b.0 b.2)) (named_is_fluent d p fits_d fits_p entry.0 entry.1 ls.0 ls.1 l.0 l.1)
      ]

  named_is_listed : (a : AtomTree) → is_among (named_atoms d p) a ≡ true → Among a (fluents d p)
  named_is_listed a h = is_listed a (sym (named_atoms_make_fluents d p a fits_d) ∙ h)

  listed_is_named : (a : AtomTree) → Among a (fluents d p) → is_among (named_atoms d p) a ≡ true
  listed_is_named a h =
      named_atoms_make_fluents d p a fits_d ∙ (Among-filter_from (is_fluent d p) a (all_atoms d.predicates (length (all_objects d p))) h).1

  among_is : (a : AtomTree) (atoms : List AtomTree) → Among a atoms → is_among atoms a ≡ true
  among_is a atoms h = list_any-from_Among (same_atom a) a atoms h (same_atom-refl a)

  is_among_it : (a : AtomTree) (atoms : List AtomTree) → is_among atoms a ≡ true → Among a atoms
  is_among_it a atoms h =
      let found = Among-from_list_any (same_atom a) atoms h in
      subst (λ x. Among x atoms) (sym (same_atom-equal a found.0 found.2)) found.1

pub named_atoms_in_order_are_fluents : NamedAtomsInOrderAreFluents
named_atoms_in_order_are_fluents d p atoms fits_d fits_p sorted distinct same =
    same_in_order atom_order atoms_are_ordered atoms (fluents d p) (InOrder-from_sorted atom_order atoms_are_ordered atoms sorted) (Apart-from_AllPairs atoms distinct) (fluents_rise d p)
    (λ a h. named_is_listed d p fits_d fits_p a (sym (same a) ∙ among_is d p fits_d fits_p a atoms h))
    (λ a h. is_among_it d p fits_d fits_p a atoms (same a ∙ listed_is_named d p fits_d fits_p a h))

pub named_atoms_are_no_more : NamedAtomsAreNoMore
named_atoms_are_no_more d p atoms fits_d fits_p distinct named =
    Apart-few atoms (fluents d p) (Apart-from_AllPairs atoms distinct)
    (λ a h. named_is_listed d p fits_d fits_p a (named a (among_is d p fits_d fits_p a atoms h)))
