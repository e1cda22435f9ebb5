-- An atom of a rigid predicate is no fluent.
use Rattle.std.proofs.Common.{◌≡◌, ℕ, ◌+◌, Bool, true, false, ◌&&◌, ◌||◌, not, cond, List, [], ◌∷◌, ◌++◌, map, length, Some, None, refl, sym, ◌∙◌, ap, subst, arith, ◌==◌}
use Rattle.std.specs.List.{list_any, position_or_len}
use Rattle.std.proofs.lemmas.Bool.{and_left, and_right, eqb-false, ne_eqb, not-true, or_parts, or_from, le-ltb, false≢true}
use Rattle.std.proofs.lemmas.List.Folds.{list_any-append}
use Rattle.std.specs.Str.{bytes_eq}
use Rattle.task_core.proofs.Vectors.{list_any-map}
use Rattle.pddl_ast.specs.Trees.{AtomTree, LiteralTree, SchemaTree, DomainTree, ProblemTree, EffectTree, EffectTrees, add, delete, both, one_of, only_when, each, no_effect, effect_then}
use Rattle.pddl_system.specs.Fluents.{changed_by, fluents, is_fluent, named_by}
use Rattle.pddl_system.specs.GroundAtoms.{all_atoms, atom_of, is_among, same_atom}
use Rattle.pddl_system.specs.Instances.{Instance, instances_of, is_kept, kept_instances, kept_of}
use Rattle.pddl_system.specs.Objects.{all_objects, bindings}
use Rattle.pddl_system.specs.Outcomes.{OutcomeTree, outcomes, outcomes_of_both, outcomes_of_either, products, product_of_all}
use Rattle.pddl_system.specs.Settings.{Setting, changes, entry_names, is_rigid_in, setting, some_changes}
use Rattle.pddl_system.specs.States.{fluent_number}
use Rattle.pddl_system.specs.ThreeValues.{may_hold, value}
use Rattle.pddl_system.proofs.Lists.{list_any-flat_map, list_any-never, list_any-weaker, list_any-filter}
use Rattle.pddl_system.proofs.Members.{Among-filter_from, Among-from_list_any}
use Rattle.pddl_system.proofs.NamedAtoms.{touches, touches-append, under_same}
use Rattle.pddl_system.proofs.Numbers.{same_atom-equal}
use Rattle.pddl_system.proofs.Soundness.{RigidIsNoFluent}

-- an effect that doesn't change the predicate touches no atom of it

module _ (at : Setting) (a : AtomTree) where
  untouched-products : (xs ys : List OutcomeTree) → list_any (touches at a) xs ≡ false → list_any (touches at a) ys ≡ false → list_any (touches at a) (products xs ys) ≡ false
  untouched-products xs ys hx hy =
      list_any-flat_map (touches at a) (λ x. map (λ y. x ++ y) ys) xs ∙ list_any-weaker (touches at a) _ of_one xs hx
    where
      of_one : (x : OutcomeTree) → touches at a x ≡ false → list_any (touches at a) (map (λ y. x ++ y) ys) ≡ false
      of_one x h =
          list_any-map (touches at a) (λ y. x ++ y) ys
          ∙ list_any-weaker (touches at a) (λ y. touches at a (x ++ y)) (λ y k. touches-append at a x y ∙ or_from (touches at a x) (touches at a y) h k) ys hy

  untouched-product : {X : Type 0} (f : X → List OutcomeTree) → ((x : X) → list_any (touches at a) (f x) ≡ false) → (xs : List X) → list_any (touches at a) (product_of_all (map f xs)) ≡ false
  untouched-product f h [] = refl
  untouched-product f h (x ∷ xs) = untouched-products (f x) (product_of_all (map f xs)) (h x) (untouched-product f h xs)

  other_predicate : (q : ℕ) → (q == a.predicate) ≡ false → (a.predicate == q) ≡ false
  other_predicate q h = ne_eqb a.predicate q (λ e. eqb-false q a.predicate h (sym e))

  other_atom : (b : AtomTree) → (b.predicate == a.predicate) ≡ false → same_atom a b ≡ false
  other_atom b h = and_left (a.predicate == b.predicate) (bytes_eq a.objects b.objects) (other_predicate b.predicate h)

  mutual
    untouched : (e : EffectTree) (scope : List ℕ) → changes a.predicate e ≡ false → list_any (touches at a) (outcomes at.objects e scope) ≡ false
    untouched (add q terms) scope h = ap (λ b. b || false || false) (other_atom (atom_of scope q terms) h)
    untouched (delete q terms) scope h = ap (λ b. b || false || false) (other_atom (atom_of scope q terms) h)
    untouched (both parts) scope h = untouched_both parts scope h
    untouched (one_of parts) scope h = untouched_either parts scope h
    untouched (only_when formula part) scope h =
        under_same at a (record { formula = formula; scope = scope }) (outcomes at.objects part scope)
        ∙ and_right (may_hold (value at formula scope)) (list_any (touches at a) (outcomes at.objects part scope)) (untouched part scope h)
    untouched (each types part) scope h =
        untouched-product (λ chosen. outcomes at.objects part (scope ++ chosen)) (λ chosen. untouched part (scope ++ chosen) h) (bindings at.objects types)

    untouched_both : (es : EffectTrees) (scope : List ℕ) → some_changes a.predicate es ≡ false → list_any (touches at a) (outcomes_of_both at.objects es scope) ≡ false
    untouched_both no_effect scope h = refl
    untouched_both (effect_then e es) scope h =
        let parts = or_parts (changes a.predicate e) (some_changes a.predicate es) h in
        untouched-products (outcomes at.objects e scope) (outcomes_of_both at.objects es scope) (untouched e scope parts.0) (untouched_both es scope parts.1)

    untouched_either : (es : EffectTrees) (scope : List ℕ) → some_changes a.predicate es ≡ false → list_any (touches at a) (outcomes_of_either at.objects es scope) ≡ false
    untouched_either no_effect scope h = refl
    untouched_either (effect_then e es) scope h =
        let parts = or_parts (changes a.predicate e) (some_changes a.predicate es) h in
        list_any-append (touches at a) (outcomes at.objects e scope) (outcomes_of_either at.objects es scope)
        ∙ or_from (list_any (touches at a) (outcomes at.objects e scope)) (list_any (touches at a) (outcomes_of_either at.objects es scope)) (untouched e scope parts.0) (untouched_either es scope parts.1)

  unchanged_by : (i : Instance) → changes a.predicate i.schema.effect ≡ false → is_among (changed_by at i) a ≡ false
  unchanged_by i h =
      list_any-flat_map (same_atom a) _ (outcomes at.objects i.schema.effect i.objects) ∙ untouched i.schema.effect i.objects h

  unchanged_by_kept : (s : SchemaTree) → changes a.predicate s.effect ≡ false → list_any (λ i. is_among (changed_by at i) a) (kept_of at s) ≡ false
  unchanged_by_kept s h =
      list_any-filter (is_kept at) (λ i. is_among (changed_by at i) a) (instances_of at s)
      ∙ list_any-map (λ i. is_kept at i && is_among (changed_by at i) a) (λ objects. record { schema = s; objects = objects }) (bindings at.objects s.parameters)
      ∙ list_any-never _ (λ objects. of_one (record { schema = s; objects = objects }) h) (bindings at.objects s.parameters)
    where
      of_one : (i : Instance) → changes a.predicate i.schema.effect ≡ false → (is_kept at i && is_among (changed_by at i) a) ≡ false
      of_one i k = and_right (is_kept at i) (is_among (changed_by at i) a) (unchanged_by i k)

  unnamed_by : (entry : List (List LiteralTree)) → entry_names a.predicate entry ≡ false → is_among (named_by entry) a ≡ false
  unnamed_by entry h =
      list_any-flat_map (same_atom a) (map (λ (l : LiteralTree). l.atom)) entry
      ∙ list_any-weaker (list_any (λ (l : LiteralTree). l.atom.predicate == a.predicate)) _ of_one entry h
    where
      of_one : (ls : List LiteralTree) → list_any (λ (l : LiteralTree). l.atom.predicate == a.predicate) ls ≡ false → is_among (map (λ (l : LiteralTree). l.atom) ls) a ≡ false
      of_one ls k =
          list_any-map (same_atom a) (λ (l : LiteralTree). l.atom) ls
          ∙ list_any-weaker (λ (l : LiteralTree). l.atom.predicate == a.predicate) (λ (l : LiteralTree). same_atom a l.atom) (λ l. other_atom l.atom) ls k

module _ (d : DomainTree) (p : ProblemTree) where
  rigid_is_not_changed : (a : AtomTree) → is_rigid_in d p a.predicate ≡ true → is_fluent d p a ≡ false
  rigid_is_not_changed a h =
      let parts = or_parts (list_any (λ (s : SchemaTree). changes a.predicate s.effect) d.actions) (list_any (entry_names a.predicate) p.entries) (not-true _ h) in
      or_from (list_any (λ i. is_among (changed_by (setting d p) i) a) (kept_instances d p)) (list_any (λ entry. is_among (named_by entry) a) p.entries)
      (list_any-flat_map (λ i. is_among (changed_by (setting d p) i) a) (kept_of (setting d p)) d.actions
      ∙ list_any-weaker (λ (s : SchemaTree). changes a.predicate s.effect) _ (unchanged_by_kept (setting d p) a) d.actions parts.0)
      (list_any-weaker (entry_names a.predicate) (λ entry. is_among (named_by entry) a) (unnamed_by (setting d p) a) p.entries parts.1)

  not_among_fluents : (a : AtomTree) → is_fluent d p a ≡ false → list_any (same_atom a) (fluents d p) ≡ false
  not_among_fluents a h = by_test (list_any (same_atom a) (fluents d p)) refl
    where
      by_test : (b : Bool) → list_any (same_atom a) (fluents d p) ≡ b → list_any (same_atom a) (fluents d p) ≡ false
      by_test false e = e
      by_test true e =
          let found = Among-from_list_any (same_atom a) (fluents d p) e in
          let changed = (Among-filter_from (is_fluent d p) found.0 (all_atoms d.predicates (length (all_objects d p))) found.1).1 in
          let same = same_atom-equal a found.0 found.2 in
          absurd (false≢true (sym h ∙ subst (λ z. is_fluent d p z ≡ true) (sym same) changed))

  no_place : (a : AtomTree) (xs : List AtomTree) → list_any (same_atom a) xs ≡ false → position_or_len (same_atom a) xs ≡ length xs
  no_place a [] h = refl
  no_place a (x ∷ xs) h =
      let parts = or_parts (same_atom a x) (list_any (same_atom a) xs) h in
      ap (λ b. cond (not b) (1 + position_or_len (same_atom a) xs) 0) parts.0
      ∙ (let rest = no_place a xs parts.1 in omega arith)

  no_number : (a : AtomTree) (xs : List AtomTree) → list_any (same_atom a) xs ≡ false → fluent_number xs a ≡ None
  no_number a xs h =
      let last = no_place a xs h in
      ap (λ b. cond b (Some (position_or_len (same_atom a) xs)) None) (le-ltb (position_or_len (same_atom a) xs) (length xs) (omega arith))

  pub rigid_is_no_fluent : RigidIsNoFluent (setting d p) (fluents d p)
  rigid_is_no_fluent a h = no_number a (fluents d p) (not_among_fluents a (rigid_is_not_changed a h))
