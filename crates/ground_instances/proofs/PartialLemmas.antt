-- What is known where some variables are free: with none it is the value, and what is known to be true or false is so whatever the free ones stand for.
use Rattle.std.proofs.Common.{◌≡◌, ◌⊎◌, inl, inr, ℕ, zero, suc, ◌+◌, ◌<◌, ◌≤◌, Bool, true, false, ◌&&◌, ◌||◌, List, [], ◌∷◌, ◌++◌, length, get_or, map, Some, None, refl, ap, sym, ◌∙◌, arith, append_assoc}
use Rattle.std.specs.Prelude.{◌==◌, nat_le, nat_lt, if◌then◌else◌}
use Rattle.std.specs.List.{list_any}
use Rattle.std.proofs.lemmas.Bool.{cases_lt, le-leb, le-ltb, lt-ltb}
use Rattle.std.proofs.lemmas.List.{get_or_append_left}
use Rattle.pddl_ast.specs.Trees.{AtomTree, FormulaTree, FormulaTrees, atom, equal, all, any, negation, implication, exists, forall, no_formula, formula_then}
use Rattle.pddl_ast.specs.declared.trees.Term.{Term}
use Rattle.pddl_ast.specs.declared.trees.Term.TheVariants.{Variable, Object}
use Rattle.pddl_system.specs.GroundAtoms.{atom_of}
use Rattle.pddl_system.specs.Objects.{bindings, object_of}
use Rattle.pddl_system.specs.Settings.{Setting}
use Rattle.pddl_system.specs.ThreeValues.{Value as Known, value, values, value_and, value_or, value_not, value_of_all, value_of_any}
use Rattle.ground_instances.specs.declared.values.Free.{Free}
use Rattle.ground_instances.specs.Partial.{has_free, is_free, partial_value, partial_values}
use Rattle.ground_instances.proofs.SettledLemmas.{and_false, or_is}

-- where no variable is free
abbrev pub none : Free
none = record { first = 0; end = 0 }

map_same : {X Y : Type 0} (f g : X → Y) (xs : List X) → ((x : X) → f x ≡ g x) → map f xs ≡ map g xs
map_same f g [] h = refl
map_same f g (x ∷ xs) h = ap (λ y. y ∷ map f xs) (h x) ∙ ap (λ ys. g x ∷ ys) (map_same f g xs h)

none_has : (k : ℕ) → has_free none k ≡ false
none_has k = ap (λ b. b && nat_lt k 0) (le-leb 0 k (omega arith)) ∙ le-ltb k 0 (omega arith)

none_is : (t : Term) → is_free none t ≡ false
none_is (Variable k) = none_has k
none_is (Object o) = refl

none_of : (ts : List Term) → list_any (is_free none) ts ≡ false
none_of [] = refl
none_of (t ∷ ts) = ap (λ b. b || list_any (is_free none) ts) (none_is t) ∙ none_of ts

mutual
  pub known_value_is : (at : Setting) (f : FormulaTree) (scope : List ℕ) → partial_value at f scope none ≡ value at f scope
  known_value_is at (atom q ts) scope =
      ap (λ b. if at.is_rigid q then (if b then None else Some (at.is_fact (atom_of scope q ts))) else None) (none_of ts)
  known_value_is at (equal left right) scope =
      ap (λ b. if b || is_free none right then None else Some (object_of scope left == object_of scope right)) (none_is left)
      ∙ ap (λ b. if b then None else Some (object_of scope left == object_of scope right)) (none_is right)
  known_value_is at (all parts) scope = ap value_of_all (known_values_are at parts scope)
  known_value_is at (any parts) scope = ap value_of_any (known_values_are at parts scope)
  known_value_is at (negation part) scope = ap value_not (known_value_is at part scope)
  known_value_is at (implication left right) scope =
      ap (λ v. value_or (value_not v) (partial_value at right scope none)) (known_value_is at left scope)
      ∙ ap (value_or (value_not (value at left scope))) (known_value_is at right scope)
  known_value_is at (exists types part) scope =
      ap value_of_any (map_same (λ objects. partial_value at part (scope ++ objects) none) (λ objects. value at part (scope ++ objects))
      (bindings at.objects types) (λ objects. known_value_is at part (scope ++ objects)))
  known_value_is at (forall types part) scope =
      ap value_of_all (map_same (λ objects. partial_value at part (scope ++ objects) none) (λ objects. value at part (scope ++ objects))
      (bindings at.objects types) (λ objects. known_value_is at part (scope ++ objects)))

  known_values_are : (at : Setting) (fs : FormulaTrees) (scope : List ℕ) → partial_values at fs scope none ≡ values at fs scope
  known_values_are at no_formula scope = refl
  known_values_are at (formula_then f fs) scope =
      ap (λ v. v ∷ partial_values at fs scope none) (known_value_is at f scope) ∙ ap (λ vs. value at f scope ∷ vs) (known_values_are at fs scope)

-- what is known, if it is, is so
abbrev Sure : Known → Known → Type 0
Sure p x = (b : Bool) → p ≡ Some b → x ≡ Some b

sure_never : (x : Known) → Sure None x
sure_never x b e = cc

sure_and : (p q x y : Known) → Sure p x → Sure q y → Sure (value_and p q) (value_and x y)
sure_and (Some false) q x y s t b e = ap (λ v. value_and v y) (s false refl) ∙ e
sure_and (Some true) q x y s t b e = ap (λ v. value_and v y) (s true refl) ∙ t b e
sure_and None (Some false) x y s t b e = ap (value_and x) (t false refl) ∙ and_false x ∙ e
sure_and None (Some true) x y s t b e = sure_never (value_and x y) b e
sure_and None None x y s t b e = sure_never (value_and x y) b e

sure_not : (p x : Known) → Sure p x → Sure (value_not p) (value_not x)
sure_not None x s b e = sure_never (value_not x) b e
sure_not (Some v) x s b e = ap value_not (s v refl) ∙ e

sure_or : (p q x y : Known) → Sure p x → Sure q y → Sure (value_or p q) (value_or x y)
sure_or p q x y s t b e =
    or_is x y
    ∙ sure_not (value_and (value_not p) (value_not q)) (value_and (value_not x) (value_not y))
    (sure_and (value_not p) (value_not q) (value_not x) (value_not y) (sure_not p x s) (sure_not q y t)) b (sym (or_is p q) ∙ e)

sure_each_all : (f g : List ℕ → Known) (rows : List (List ℕ)) → ((row : List ℕ) → Sure (f row) (g row)) → Sure (value_of_all (map f rows)) (value_of_all (map g rows))
sure_each_all f g [] s = λ b e. e
sure_each_all f g (row ∷ rows) s = sure_and (f row) (value_of_all (map f rows)) (g row) (value_of_all (map g rows)) (s row) (sure_each_all f g rows s)

sure_each_any : (f g : List ℕ → Known) (rows : List (List ℕ)) → ((row : List ℕ) → Sure (f row) (g row)) → Sure (value_of_any (map f rows)) (value_of_any (map g rows))
sure_each_any f g [] s = λ b e. e
sure_each_any f g (row ∷ rows) s = sure_or (f row) (value_of_any (map f rows)) (g row) (value_of_any (map g rows)) (s row) (sure_each_any f g rows s)

-- two scopes that differ in the free variables alone
past_gap : (g h b : List ℕ) (k : ℕ) → length g ≡ length h → length g ≤ k → get_or (g ++ b) k 0 ≡ get_or (h ++ b) k 0
past_gap [] [] b k same past = refl
past_gap [] (y ∷ h) b k same past = absurd (omega arith)
past_gap (x ∷ g) [] b k same past = absurd (omega arith)
past_gap (x ∷ g) (y ∷ h) b zero same past = absurd (omega arith)
past_gap (x ∷ g) (y ∷ h) b (suc k) same past = past_gap g h b k (omega arith) (omega arith)

past_all : (p g h b : List ℕ) (k : ℕ) → length g ≡ length h → length p + length g ≤ k → get_or (p ++ (g ++ b)) k 0 ≡ get_or (p ++ (h ++ b)) k 0
past_all [] g h b k same past = past_gap g h b k same (omega arith)
past_all (x ∷ p) g h b zero same past = absurd (omega arith)
past_all (x ∷ p) g h b (suc k) same past = past_all p g h b k same (omega arith)

-- a variable that isn't free has its place before or after the gap
abbrev Around : Free → List ℕ → List ℕ → Type 0
Around free p g = (k : ℕ) → has_free free k ≡ false → (k < length p) ⊎ (length p + length g ≤ k)

same_place : (p g h b : List ℕ) (k : ℕ) → length g ≡ length h → (k < length p) ⊎ (length p + length g ≤ k) → get_or (p ++ (g ++ b)) k 0 ≡ get_or (p ++ (h ++ b)) k 0
same_place p g h b k same (inl before) = get_or_append_left p (g ++ b) 0 k before ∙ sym (get_or_append_left p (h ++ b) 0 k before)
same_place p g h b k same (inr past) = past_all p g h b k same past

same_object : (free : Free) (p g h b : List ℕ) (t : Term) → Around free p g → length g ≡ length h → is_free free t ≡ false
    → object_of (p ++ (h ++ b)) t ≡ object_of (p ++ (g ++ b)) t
same_object free p g h b (Variable k) around same e = sym (same_place p g h b k same (around k e))
same_object free p g h b (Object o) around same e = refl

first_no : (a b : Bool) → (a || b) ≡ false → a ≡ false
first_no true b e = e
first_no false b e = refl

second_no : (a b : Bool) → (a || b) ≡ false → b ≡ false
second_no true b e = cc
second_no false b e = e

same_objects : (free : Free) (p g h b : List ℕ) (ts : List Term) → Around free p g → length g ≡ length h → list_any (is_free free) ts ≡ false
    → map (object_of (p ++ (h ++ b))) ts ≡ map (object_of (p ++ (g ++ b))) ts
same_objects free p g h b [] around same e = refl
same_objects free p g h b (t ∷ ts) around same e =
    ap (λ o. o ∷ map (object_of (p ++ (h ++ b))) ts) (same_object free p g h b t around same (first_no (is_free free t) (list_any (is_free free) ts) e))
    ∙ ap (λ l. object_of (p ++ (g ++ b)) t ∷ l) (same_objects free p g h b ts around same (second_no (is_free free t) (list_any (is_free free) ts) e))

same_atoms : (free : Free) (p g h b : List ℕ) (q : ℕ) (ts : List Term) → Around free p g → length g ≡ length h → list_any (is_free free) ts ≡ false
    → atom_of (p ++ (h ++ b)) q ts ≡ atom_of (p ++ (g ++ b)) q ts
same_atoms free p g h b q ts around same e = ap (λ l. let a : AtomTree = record { predicate = q; objects = l } in a) (same_objects free p g h b ts around same e)

regroup : (p g b o : List ℕ) → (p ++ (g ++ b)) ++ o ≡ p ++ (g ++ (b ++ o))
regroup p g b o = append_assoc p (g ++ b) o ∙ ap (λ xs. p ++ xs) (append_assoc g b o)

mutual
  pub sure_value : (at : Setting) (free : Free) (f : FormulaTree) (p g h b : List ℕ) → Around free p g → length g ≡ length h
      → Sure (partial_value at f (p ++ (g ++ b)) free) (value at f (p ++ (h ++ b)))
  sure_value at free (atom q ts) p g h b around same = rigid (at.is_rigid q)
    where
      named : (c : Bool) → list_any (is_free free) ts ≡ c
          → Sure (if c then None else Some (at.is_fact (atom_of (p ++ (g ++ b)) q ts))) (Some (at.is_fact (atom_of (p ++ (h ++ b)) q ts)))
      named true e = sure_never (Some (at.is_fact (atom_of (p ++ (h ++ b)) q ts)))
      named false e = λ v is. ap (λ a. Some (at.is_fact a)) (same_atoms free p g h b q ts around same e) ∙ is

      rigid : (c : Bool) → Sure (if c then (if list_any (is_free free) ts then None else Some (at.is_fact (atom_of (p ++ (g ++ b)) q ts))) else None)
          (if c then Some (at.is_fact (atom_of (p ++ (h ++ b)) q ts)) else None)
      rigid true = named (list_any (is_free free) ts) refl
      rigid false = λ v is. is
  sure_value at free (equal left right) p g h b around same = named (is_free free left || is_free free right) refl
    where
      named : (c : Bool) → (is_free free left || is_free free right) ≡ c
          → Sure (if c then None else Some (object_of (p ++ (g ++ b)) left == object_of (p ++ (g ++ b)) right)) (Some (object_of (p ++ (h ++ b)) left == object_of (p ++ (h ++ b)) right))
      named true e = sure_never (Some (object_of (p ++ (h ++ b)) left == object_of (p ++ (h ++ b)) right))
      named false e = λ v is.
          ap (λ o. Some (o == object_of (p ++ (h ++ b)) right)) (same_object free p g h b left around same (first_no (is_free free left) (is_free free right) e))
          ∙ ap (λ o. Some (object_of (p ++ (g ++ b)) left == o)) (same_object free p g h b right around same (second_no (is_free free left) (is_free free right) e))
          ∙ is
  sure_value at free (all parts) p g h b around same = sure_all at free parts p g h b around same
  sure_value at free (any parts) p g h b around same = sure_any at free parts p g h b around same
  sure_value at free (negation part) p g h b around same =
      sure_not (partial_value at part (p ++ (g ++ b)) free) (value at part (p ++ (h ++ b))) (sure_value at free part p g h b around same)
  sure_value at free (implication left right) p g h b around same =
      sure_or (value_not (partial_value at left (p ++ (g ++ b)) free)) (partial_value at right (p ++ (g ++ b)) free)
      (value_not (value at left (p ++ (h ++ b)))) (value at right (p ++ (h ++ b)))
      (sure_not (partial_value at left (p ++ (g ++ b)) free) (value at left (p ++ (h ++ b))) (sure_value at free left p g h b around same))
      (sure_value at free right p g h b around same)
  sure_value at free (exists types part) p g h b around same =
      sure_each_any (λ objects. partial_value at part ((p ++ (g ++ b)) ++ objects) free) (λ objects. value at part ((p ++ (h ++ b)) ++ objects)) (bindings at.objects types)
      (λ objects v e. ap (value at part) (regroup p h b objects)
      ∙ sure_value at free part p g h (b ++ objects) around same v (ap (λ scope. partial_value at part scope free) (sym (regroup p g b objects)) ∙ e))
  sure_value at free (forall types part) p g h b around same =
      sure_each_all (λ objects. partial_value at part ((p ++ (g ++ b)) ++ objects) free) (λ objects. value at part ((p ++ (h ++ b)) ++ objects)) (bindings at.objects types)
      (λ objects v e. ap (value at part) (regroup p h b objects)
      ∙ sure_value at free part p g h (b ++ objects) around same v (ap (λ scope. partial_value at part scope free) (sym (regroup p g b objects)) ∙ e))

  sure_all : (at : Setting) (free : Free) (fs : FormulaTrees) (p g h b : List ℕ) → Around free p g → length g ≡ length h
      → Sure (value_of_all (partial_values at fs (p ++ (g ++ b)) free)) (value_of_all (values at fs (p ++ (h ++ b))))
  sure_all at free no_formula p g h b around same = λ v e. e
  sure_all at free (formula_then f fs) p g h b around same =
      sure_and (partial_value at f (p ++ (g ++ b)) free) (value_of_all (partial_values at fs (p ++ (g ++ b)) free))
      (value at f (p ++ (h ++ b))) (value_of_all (values at fs (p ++ (h ++ b))))
      (sure_value at free f p g h b around same) (sure_all at free fs p g h b around same)

  sure_any : (at : Setting) (free : Free) (fs : FormulaTrees) (p g h b : List ℕ) → Around free p g → length g ≡ length h
      → Sure (value_of_any (partial_values at fs (p ++ (g ++ b)) free)) (value_of_any (values at fs (p ++ (h ++ b))))
  sure_any at free no_formula p g h b around same = λ v e. e
  sure_any at free (formula_then f fs) p g h b around same =
      sure_or (partial_value at f (p ++ (g ++ b)) free) (value_of_any (partial_values at fs (p ++ (g ++ b)) free))
      (value at f (p ++ (h ++ b))) (value_of_any (values at fs (p ++ (h ++ b))))
      (sure_value at free f p g h b around same) (sure_any at free fs p g h b around same)

-- the variables from the number of those that stand for objects on are free, up to a number
pub gap : (free : Free) (p g : List ℕ) → free.first ≡ length p → free.end ≡ length p + length g → Around free p g
gap free p g first end k e = elim (cases_lt k (length p)) [
  | inl before ↦ inl before
  | inr after ↦ elim (cases_lt k (length p + length g)) [
    | inl within ↦
        let a : nat_le free.first k ≡ true = le-leb free.first k (omega (arith, first, after)) in
        let b : nat_lt k free.end ≡ true = lt-ltb k free.end (omega (arith, end, within)) in
        absurd (let x : true ≡ false = sym (ap (λ c. c && nat_lt k free.end) a ∙ b) ∙ e in cc)
    | inr past ↦ inr past
  ]
]
