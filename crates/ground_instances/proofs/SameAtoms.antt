-- The derived `==` of atoms is that of their trees.
use Rattle.std.proofs.Common.{◌++◌, ◌&&◌, cond, inl, inr, ◌≡◌, Bool, true, false, ◌||◌, List, [], ◌∷◌, map, refl, ap, sym, ◌∙◌}
use Rattle.std.specs.List.{list_any}
use Rattle.std.specs.Str.{bytes_eq}
use Rattle.std.specs.Prelude.{◌==◌}
use Rattle.std.proofs.lemmas.Bool.{eqb-true, cases_Bool}
use Rattle.std.proofs.lemmas.List.{map-append}
use Rattle.std.proofs.lemmas.List.Folds.{list_any-append}
use Rattle.std.proofs.lemmas.Slice.Eq.{bytes_eq-Decides}
use Rattle.indexmap.specs.IndexSet.{insert_key}
use Rattle.pddl_ast.specs.Trees.{AtomTree}
use Rattle.ground_instances.specs.declared.atoms.Atom.{Atom}
use Rattle.ground_instances.specs.contracts.atoms.AtomPartialEq.TheImpl.{eq-value}
use Rattle.ground_instances.specs.Atoms.{atom_tree}
use Rattle.pddl_system.specs.GroundAtoms.{same_atom, is_among}
use Rattle.list_laws.proofs.Booleans.{or_false}

abbrev pub atom_eq : Atom → Atom → Bool
atom_eq = eq-value.it

pub same : (a b : Atom) → atom_eq a b ≡ same_atom (atom_tree a) (atom_tree b)
same a b = refl

pub among_trees : (a : Atom) (keys : List Atom) → list_any (atom_eq a) keys ≡ is_among (map atom_tree keys) (atom_tree a)
among_trees a [] = refl
among_trees a (b ∷ keys) = ap (λ v. v || list_any (atom_eq a) keys) (same a b) ∙ ap (λ v. same_atom (atom_tree a) (atom_tree b) || v) (among_trees a keys)

both-true : (b c : Bool) → (b && c) ≡ true → (b ≡ true) × (c ≡ true)
both-true true c e = (refl, e)
both-true false c e = absurd (let x : false ≡ true = e in cc)

same_atom-is : (a b : AtomTree) → same_atom a b ≡ true → a ≡ b
same_atom-is a b e =
    let parts = both-true (a.predicate == b.predicate) (bytes_eq a.objects b.objects) e in
    let p : a.predicate ≡ b.predicate = eqb-true a.predicate b.predicate parts.0 in
    let o : a.objects ≡ b.objects = (bytes_eq-Decides a.objects b.objects).0 parts.1 in
    λ i. record { predicate = p i; objects = o i }

or-last : (b c : Bool) → (c ≡ true → b ≡ true) → (b || c) ≡ b
or-last true c h = refl
or-last false true h = sym (h refl)
or-last false false h = refl

or-assoc : (b c d : Bool) → ((b || c) || d) ≡ (b || (c || d))
or-assoc true c d = refl
or-assoc false c d = refl

-- which atoms are among the keys where one is inserted
inserted : (keys : List Atom) (atom : Atom) (a : AtomTree) → is_among (map atom_tree (insert_key atom_eq keys atom)) a ≡ (is_among (map atom_tree keys) a || same_atom a (atom_tree atom))
inserted keys atom a = elim (cases_Bool (list_any (atom_eq atom) keys)) [
  | inl there ↦
      ap (λ b. is_among (map atom_tree (cond b keys (keys ++ atom ∷ []))) a) there
      ∙ sym (or-last (is_among (map atom_tree keys) a) (same_atom a (atom_tree atom))
      (λ e. ap (is_among (map atom_tree keys)) (same_atom-is a (atom_tree atom) e) ∙ sym (among_trees atom keys) ∙ there))
  | inr absent ↦
      ap (λ b. is_among (map atom_tree (cond b keys (keys ++ atom ∷ []))) a) absent
      ∙ ap (λ xs. is_among xs a) (map-append atom_tree keys (atom ∷ []))
      ∙ list_any-append (same_atom a) (map atom_tree keys) (atom_tree atom ∷ [])
      ∙ ap (λ b. is_among (map atom_tree keys) a || b) (or_false (same_atom a (atom_tree atom)))
]

-- one fact more
pub fact_step : (keys new : List Atom) (atom : Atom) (t a : AtomTree) (rest : List AtomTree) (whole : Bool) → new ≡ insert_key atom_eq keys atom → atom_tree atom ≡ t
    → (is_among (map atom_tree keys) a || is_among (t ∷ rest) a) ≡ whole → (is_among (map atom_tree new) a || is_among rest a) ≡ whole
fact_step keys new atom t a rest whole put is before =
    ap (λ ks. is_among (map atom_tree ks) a || is_among rest a) put
    ∙ ap (λ b. b || is_among rest a) (inserted keys atom a)
    ∙ or-assoc (is_among (map atom_tree keys) a) (same_atom a (atom_tree atom)) (is_among rest a)
    ∙ ap (λ u. is_among (map atom_tree keys) a || (same_atom a u || is_among rest a)) is
    ∙ before
