-- What drafts name, and what they become over fluents.
use Rattle.list_laws.proofs.Elements.{list_all-more}
use Rattle.std.proofs.Common.{◌≡◌, Bool, true, List, [], ◌∷◌, ◌++◌, map, refl, ap, sym, ◌∙◌}
use Rattle.std.specs.List.{flat_map, list_all}
use Rattle.std.proofs.lemmas.Grind.{flat_map-append}
use Rattle.std.proofs.lemmas.List.{append_assoc, append-nil, map-append}
use Rattle.pddl_ast.specs.Trees.{AtomTree}
use Rattle.pddl_system.specs.Fluents.{atoms_changed, changed_by}
use Rattle.pddl_system.specs.Instances.{Instance as InstanceTree}
use Rattle.pddl_system.specs.Outcomes.{ChangeTree, OutcomeTree, outcomes_of, possible_changes}
use Rattle.pddl_system.specs.Settings.{Setting}
use Rattle.pddl_system.specs.Tasks.{change_of, changed_if, outcome_of}
use Rattle.pddl_system.specs.Values.{change_has_literals, change_value}
use Rattle.ctl_syntax.specs.Conditions.{CondTree, condition_value}
use Rattle.task_core.specs.declared.literals.Lit.{Lit}
use Rattle.task_core.specs.declared.actions.Change.{Change}
use Rattle.ground_task.specs.Built.{literal_made, part_made}
use Rattle.ground_task.specs.Drafts.{change_tree, conditional, draft_atoms, draft_tree, draft_trees, guard_trees, part_atoms, part_tree}
use Rattle.ground_task.specs.declared.drafts.Guard.{Guard}
use Rattle.ground_task.specs.declared.drafts.OutcomeDraft.{OutcomeDraft}
use Rattle.ground_task.specs.declared.drafts.PartDraft.{PartDraft}

pub map_twice : {X Y Z : Type 0} (f : Y → Z) (g : X → Y) (xs : List X) → map f (map g xs) ≡ map (λ x. f (g x)) xs
map_twice f g [] = refl
map_twice f g (x ∷ xs) = ap (λ l. f (g x) ∷ l) (map_twice f g xs)

flat_map_twice : {X Y Z : Type 0} (f : Y → List Z) (g : X → Y) (xs : List X) → flat_map f (map g xs) ≡ flat_map (λ x. f (g x)) xs
flat_map_twice f g [] = refl
flat_map_twice f g (x ∷ xs) = ap (λ l. f (g x) ++ l) (flat_map_twice f g xs)

map_of_flat : {X Y Z : Type 0} (f : Y → Z) (g : X → List Y) (h : X → List Z) → ((x : X) → map f (g x) ≡ h x) → (xs : List X) → map f (flat_map g xs) ≡ flat_map h xs
map_of_flat f g h same [] = refl
map_of_flat f g h same (x ∷ xs) =
    map-append f (g x) (flat_map g xs) ∙ ap (λ l. l ++ map f (flat_map g xs)) (same x) ∙ ap (λ l. h x ++ l) (map_of_flat f g h same xs)

flat_same : {X Y : Type 0} (f g : X → List Y) → ((x : X) → f x ≡ g x) → (xs : List X) → flat_map f xs ≡ flat_map g xs
flat_same f g same [] = refl
flat_same f g same (x ∷ xs) = ap (λ l. l ++ flat_map f xs) (same x) ∙ ap (λ l. g x ++ l) (flat_same f g same xs)

-- the atoms
atoms_of_part : (p : PartDraft) → atoms_changed (part_tree p) ≡ part_atoms p
atoms_of_part p =
    map_twice (λ (c : ChangeTree). c.atom) (conditional (guard_trees p.guards.items)) (map change_tree p.changes.items)
    ∙ map_twice (λ (c : AtomTree × Bool). c.0) change_tree p.changes.items

atoms_of_draft : (o : OutcomeDraft) → draft_atoms o ≡ atoms_changed (draft_tree o)
atoms_of_draft o = sym (map_of_flat (λ (c : ChangeTree). c.atom) part_tree part_atoms atoms_of_part o.parts.items)

pub atoms_are_changed : (at : Setting) (i : InstanceTree) (os : List OutcomeDraft) → draft_trees os ≡ map (possible_changes at) (outcomes_of at i) → flat_map draft_atoms os ≡ changed_by at i
atoms_are_changed at i os are =
    flat_same draft_atoms (λ o. atoms_changed (draft_tree o)) atoms_of_draft os
    ∙ sym (flat_map_twice atoms_changed draft_tree os)
    ∙ ap (flat_map atoms_changed) are
    ∙ flat_map_twice atoms_changed (possible_changes at) (outcomes_of at i)

-- the changes over fluents
part_over : (at : Setting) (fluents : List AtomTree) (p : PartDraft) → map (change_of at fluents) (part_tree p) ≡ part_made at fluents p
part_over at fluents p = map_twice (change_of at fluents) (conditional (guard_trees p.guards.items)) (map change_tree p.changes.items)

pub draft_over : (at : Setting) (fluents : List AtomTree) (ps : List PartDraft) → flat_map (part_made at fluents) ps ≡ map (change_of at fluents) (flat_map part_tree ps)
draft_over at fluents ps = sym (map_of_flat (change_of at fluents) part_tree (part_made at fluents) (part_over at fluents) ps)

pub possible_over : (at : Setting) (fluents : List AtomTree) (os : List OutcomeTree) → map (map (change_of at fluents)) (map (possible_changes at) os) ≡ map (outcome_of at fluents) os
possible_over at fluents os = map_twice (map (change_of at fluents)) (possible_changes at) os

-- a change of all literals of a part, under its condition
pub change_is_part : (at : Setting) (fluents : List AtomTree) (p : PartDraft) (c : Change) → condition_value c.cond ≡ changed_if at fluents (guard_trees p.guards.items)
    → c.lits.items ≡ map (literal_made fluents) (map change_tree p.changes.items) → change_value c ≡ part_made at fluents p
change_is_part at fluents p c condition literals =
    ap (λ k. map (λ (lit : Lit). (k, lit)) c.lits.items) condition
    ∙ ap (map (λ (lit : Lit). (changed_if at fluents (guard_trees p.guards.items), lit))) literals
    ∙ map_twice (λ (lit : Lit). (changed_if at fluents (guard_trees p.guards.items), lit)) (literal_made fluents) (map change_tree p.changes.items)

-- one change more
pub one_change_more : (changes : List Change) (c : Change) (made : List (CondTree × Lit)) → change_value c ≡ made → flat_map change_value (changes ++ c ∷ []) ≡ flat_map change_value changes ++ made
one_change_more changes c made is =
    flat_map-append change_value changes (c ∷ [])
    ∙ ap (λ l. flat_map change_value changes ++ l) (append-nil (change_value c) ∙ is)

-- and the change has a literal where the part has one
pub one_saying_more : (changes : List Change) (c : Change) → list_all change_has_literals changes ≡ true → change_has_literals c ≡ true → list_all change_has_literals (changes ++ c ∷ []) ≡ true
one_saying_more changes c all this = list_all-more change_has_literals changes c all this

-- parts that are put together
pub merged_trees : (g h : List Guard) (all a b : List (AtomTree × Bool)) → g ≡ [] → h ≡ [] → all ≡ a ++ b
    → map (conditional (guard_trees g)) all ≡ map (conditional (guard_trees g)) a ++ map (conditional (guard_trees h)) b
merged_trees g h all a b first second both =
    ap (map (conditional (guard_trees g))) both
    ∙ map-append (conditional (guard_trees g)) a b
    ∙ ap (λ l. map (conditional (guard_trees g)) a ++ map (conditional (guard_trees l)) b) (first ∙ sym second)

pub last_part : (old front : List PartDraft) (last new : PartDraft) (more : List ChangeTree) → old ≡ front ++ last ∷ [] → part_tree new ≡ part_tree last ++ more
    → flat_map part_tree (front ++ new ∷ []) ≡ flat_map part_tree old ++ more
last_part old front last new more is longer =
    flat_map-append part_tree front (new ∷ [])
    ∙ ap (λ l. flat_map part_tree front ++ l) (append-nil (part_tree new) ∙ longer)
    ∙ sym (append_assoc (flat_map part_tree front) (part_tree last) more)
    ∙ ap (λ l. l ++ more) (sym (ap (flat_map part_tree) is ∙ flat_map-append part_tree front (last ∷ []) ∙ ap (λ l. flat_map part_tree front ++ l) (append-nil (part_tree last))))
