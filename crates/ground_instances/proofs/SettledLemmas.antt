-- What is settled of a formula is its value, whatever variables come after those that are bound.
use Rattle.std.proofs.Common.{◌≡◌, ℕ, Bool, true, false, not, ◌&&◌, ◌||◌, List, [], ◌∷◌, ◌++◌, length, map, Option, Some, None, refl, ap, sym, ◌∙◌, append_assoc, append-nil}
use Rattle.std.specs.Prelude.{◌==◌, nat_lt, if◌then◌else◌}
use Rattle.std.specs.List.{list_all, list_any}
use Rattle.std.proofs.Math.Dec.{eqb-suc-zero}
use Rattle.std.proofs.lemmas.Bool.{ltb-true}
use Rattle.std.proofs.lemmas.List.{get_or_append_left}
use Rattle.pddl_ast.specs.Trees.{AtomTree, FormulaTree, FormulaTrees, atom, equal, all, any, negation, implication, exists, forall, no_formula, formula_then}
use Rattle.pddl_ast.specs.declared.trees.Term.{Term}
use Rattle.pddl_ast.specs.declared.trees.Term.TheVariants.{Variable, Object}
use Rattle.pddl_system.specs.GroundAtoms.{atom_of}
use Rattle.pddl_system.specs.Objects.{bindings, object_of}
use Rattle.pddl_system.specs.Settings.{Setting}
use Rattle.pddl_system.specs.Sizes.{binding_count}
use Rattle.pddl_system.specs.ThreeValues.{Value as Known, value_and, value_or, value_not, value_of_all, value_of_any}
use Rattle.ground_instances.specs.declared.values.Free.{Free}
use Rattle.ground_instances.specs.Partial.{has_free, is_free, partial_value, partial_values, value_of_equal}
use Rattle.ground_instances.specs.Settled.{is_bound, settled, settled_values, settled_and, settled_or, settled_not, settled_all, settled_any, settled_each}
use Rattle.ground_instances.proofs.Numbered.{length_bindings}

-- what is settled, if anything is, is the value
abbrev Tells : Option Known → Known → Type 0
Tells a x = (w : Known) → a ≡ Some w → x ≡ w

same : (a b : Known) → Some a ≡ Some b → a ≡ b
same a b e = cc

never : (w x : Known) → None ≡ Some w → x ≡ w
never w x e = cc

tells_some : (a : Known) → Tells (Some a) a
tells_some a w e = same a w e

pub and_false : (x : Known) → value_and x (Some false) ≡ Some false
and_false (Some true) = refl
and_false (Some false) = refl
and_false None = refl

tells_and : (a b : Option Known) (x y : Known) → Tells a x → Tells b y → Tells (settled_and a b) (value_and x y)
tells_and None None x y ta tb w e = never w (value_and x y) e
tells_and None (Some None) x y ta tb w e = never w (value_and x y) e
tells_and None (Some (Some true)) x y ta tb w e = never w (value_and x y) e
tells_and None (Some (Some false)) x y ta tb w e = ap (value_and x) (tb (Some false) refl) ∙ and_false x ∙ same (Some false) w e
tells_and (Some (Some false)) b x y ta tb w e = ap (λ v. value_and v y) (ta (Some false) refl) ∙ same (Some false) w e
tells_and (Some (Some true)) b x y ta tb w e = ap (λ v. value_and v y) (ta (Some true) refl) ∙ tb w e
tells_and (Some None) None x y ta tb w e = never w (value_and x y) e
tells_and (Some None) (Some v) x y ta tb w e = ap (λ u. value_and u y) (ta None refl) ∙ ap (value_and None) (tb v refl) ∙ same (value_and None v) w e

tells_not : (a : Option Known) (x : Known) → Tells a x → Tells (settled_not a) (value_not x)
tells_not None x ta w e = never w (value_not x) e
tells_not (Some v) x ta w e = ap value_not (ta v refl) ∙ same (value_not v) w e

pub or_is : (x y : Known) → value_or x y ≡ value_not (value_and (value_not x) (value_not y))
or_is (Some true) y = refl
or_is (Some false) (Some true) = refl
or_is (Some false) (Some false) = refl
or_is (Some false) None = refl
or_is None (Some true) = refl
or_is None (Some false) = refl
or_is None None = refl

tells_or : (a b : Option Known) (x y : Known) → Tells a x → Tells b y → Tells (settled_or a b) (value_or x y)
tells_or a b x y ta tb w e =
    or_is x y
    ∙ tells_not (settled_and (settled_not a) (settled_not b)) (value_and (value_not x) (value_not y))
    (tells_and (settled_not a) (settled_not b) (value_not x) (value_not y) (tells_not a x ta) (tells_not b y tb)) w e

-- more of a list of parts
pub settled_and-assoc : (u v w : Option Known) → settled_and (settled_and u v) w ≡ settled_and u (settled_and v w)
settled_and-assoc (Some (Some false)) v w = refl
settled_and-assoc (Some (Some true)) v w = refl
settled_and-assoc None None None = refl
settled_and-assoc None None (Some None) = refl
settled_and-assoc None None (Some (Some true)) = refl
settled_and-assoc None None (Some (Some false)) = refl
settled_and-assoc None (Some None) None = refl
settled_and-assoc None (Some None) (Some None) = refl
settled_and-assoc None (Some None) (Some (Some true)) = refl
settled_and-assoc None (Some None) (Some (Some false)) = refl
settled_and-assoc None (Some (Some true)) w = refl
settled_and-assoc None (Some (Some false)) w = refl
settled_and-assoc (Some None) None None = refl
settled_and-assoc (Some None) None (Some None) = refl
settled_and-assoc (Some None) None (Some (Some true)) = refl
settled_and-assoc (Some None) None (Some (Some false)) = refl
settled_and-assoc (Some None) (Some None) None = refl
settled_and-assoc (Some None) (Some None) (Some None) = refl
settled_and-assoc (Some None) (Some None) (Some (Some true)) = refl
settled_and-assoc (Some None) (Some None) (Some (Some false)) = refl
settled_and-assoc (Some None) (Some (Some true)) w = refl
settled_and-assoc (Some None) (Some (Some false)) w = refl

not_not : (v : Option Known) → settled_not (settled_not v) ≡ v
not_not None = refl
not_not (Some None) = refl
not_not (Some (Some true)) = refl
not_not (Some (Some false)) = refl

pub settled_or-assoc : (u v w : Option Known) → settled_or (settled_or u v) w ≡ settled_or u (settled_or v w)
settled_or-assoc u v w =
    ap (λ x. settled_not (settled_and x (settled_not w))) (not_not (settled_and (settled_not u) (settled_not v)))
    ∙ ap settled_not (settled_and-assoc (settled_not u) (settled_not v) (settled_not w))
    ∙ ap (λ x. settled_not (settled_and (settled_not u) x)) (sym (not_not (settled_and (settled_not v) (settled_not w))))

pub settled_and-all : (v : Option Known) → settled_and v (Some (Some true)) ≡ v
settled_and-all None = refl
settled_and-all (Some None) = refl
settled_and-all (Some (Some true)) = refl
settled_and-all (Some (Some false)) = refl

pub settled_or-none : (v : Option Known) → settled_or v (Some (Some false)) ≡ v
settled_or-none v = ap settled_not (settled_and-all (settled_not v)) ∙ not_not v

-- a quantifier whose part has one value for all bindings
any_same : {X : Type 0} (f : X → Known) (w : Known) (xs : List X) → ((x : X) → f x ≡ w) → value_of_any (map f xs) ≡ (if length xs == 0 then Some false else w)
any_same f w [] is = refl
any_same f w (x ∷ xs) is =
    ap (λ v. value_or v (value_of_any (map f xs))) (is x) ∙ ap (value_or w) (any_same f w xs is) ∙ last w (length xs == 0)
    ∙ sym (ap (λ b. if b then Some false else w) (eqb-suc-zero (length xs)))
  where
    last : (v : Known) (b : Bool) → value_or v (if b then Some false else v) ≡ v
    last (Some true) b = refl
    last (Some false) true = refl
    last (Some false) false = refl
    last None true = refl
    last None false = refl

all_same : {X : Type 0} (f : X → Known) (w : Known) (xs : List X) → ((x : X) → f x ≡ w) → value_of_all (map f xs) ≡ (if length xs == 0 then Some true else w)
all_same f w [] is = refl
all_same f w (x ∷ xs) is =
    ap (λ v. value_and v (value_of_all (map f xs))) (is x) ∙ ap (value_and w) (all_same f w xs is) ∙ last w (length xs == 0)
    ∙ sym (ap (λ b. if b then Some true else w) (eqb-suc-zero (length xs)))
  where
    last : (v : Known) (b : Bool) → value_and v (if b then Some true else v) ≡ v
    last (Some false) b = refl
    last (Some true) true = refl
    last (Some true) false = refl
    last None true = refl
    last None false = refl

-- terms
pub first_of : (a b : Bool) → (a && b) ≡ true → a ≡ true
first_of true b e = refl
first_of false b e = e

pub second_of : (a b : Bool) → (a && b) ≡ true → b ≡ true
second_of true b e = e
second_of false b e = cc

false_of : (b : Bool) → not b ≡ true → b ≡ false
false_of true e = let x : false ≡ true = e in cc
false_of false e = refl

object_is : (free : Free) (scope more : List ℕ) (t : Term) → is_bound free (length scope) t ≡ true → object_of (scope ++ more) t ≡ object_of scope t
object_is free scope more (Variable k) e =
    get_or_append_left scope more 0 k (ltb-true k (length scope) (first_of (nat_lt k (length scope)) (not (has_free free k)) e))
object_is free scope more (Object o) e = refl

not_free : (free : Free) (n : ℕ) (t : Term) → is_bound free n t ≡ true → is_free free t ≡ false
not_free free n (Variable k) e = false_of (has_free free k) (second_of (nat_lt k n) (not (has_free free k)) e)
not_free free n (Object o) e = refl

none_free : (free : Free) (n : ℕ) (ts : List Term) → list_all (is_bound free n) ts ≡ true → list_any (is_free free) ts ≡ false
none_free free n [] e = refl
none_free free n (t ∷ ts) e =
    ap (λ b. b || list_any (is_free free) ts) (not_free free n t (first_of (is_bound free n t) (list_all (is_bound free n) ts) e))
    ∙ none_free free n ts (second_of (is_bound free n t) (list_all (is_bound free n) ts) e)

objects_are : (free : Free) (scope more : List ℕ) (ts : List Term) → list_all (is_bound free (length scope)) ts ≡ true → map (object_of (scope ++ more)) ts ≡ map (object_of scope) ts
objects_are free scope more [] e = refl
objects_are free scope more (t ∷ ts) e =
    ap (λ o. o ∷ map (object_of (scope ++ more)) ts) (object_is free scope more t (first_of (is_bound free (length scope) t) (list_all (is_bound free (length scope)) ts) e))
    ∙ ap (λ l. object_of scope t ∷ l) (objects_are free scope more ts (second_of (is_bound free (length scope) t) (list_all (is_bound free (length scope)) ts) e))

atom_is : (free : Free) (scope more : List ℕ) (q : ℕ) (ts : List Term) → list_all (is_bound free (length scope)) ts ≡ true → atom_of (scope ++ more) q ts ≡ atom_of scope q ts
atom_is free scope more q ts e = ap (λ l. let a : AtomTree = record { predicate = q; objects = l } in a) (objects_are free scope more ts e)

mutual
  pub tells_value : (at : Setting) (free : Free) (f : FormulaTree) (scope more : List ℕ) → Tells (settled at f scope free) (partial_value at f (scope ++ more) free)
  tells_value at free (atom q ts) scope more = rigid (at.is_rigid q)
    where
      bound : (b : Bool) → list_all (is_bound free (length scope)) ts ≡ b
          → Tells (if b then Some (Some (at.is_fact (atom_of scope q ts))) else None) (if list_any (is_free free) ts then None else Some (at.is_fact (atom_of (scope ++ more) q ts)))
      bound true e w is =
          ap (λ b. if b then None else Some (at.is_fact (atom_of (scope ++ more) q ts))) (none_free free (length scope) ts e)
          ∙ ap (λ a. Some (at.is_fact a)) (atom_is free scope more q ts e) ∙ same (Some (at.is_fact (atom_of scope q ts))) w is
      bound false e w is = never w (if list_any (is_free free) ts then None else Some (at.is_fact (atom_of (scope ++ more) q ts))) is

      rigid : (b : Bool)
          → Tells (if b then (if list_all (is_bound free (length scope)) ts then Some (Some (at.is_fact (atom_of scope q ts))) else None) else Some None)
          (if b then (if list_any (is_free free) ts then None else Some (at.is_fact (atom_of (scope ++ more) q ts))) else None)
      rigid true = bound (list_all (is_bound free (length scope)) ts) refl
      rigid false = tells_some None
  tells_value at free (equal left right) scope more = both (is_bound free (length scope) left && is_bound free (length scope) right) refl
    where
      both : (b : Bool) → (is_bound free (length scope) left && is_bound free (length scope) right) ≡ b
          → Tells (if b then Some (Some (object_of scope left == object_of scope right)) else None) (value_of_equal left right (scope ++ more) free)
      both true e w is =
          let l = first_of (is_bound free (length scope) left) (is_bound free (length scope) right) e in
          let r = second_of (is_bound free (length scope) left) (is_bound free (length scope) right) e in
          ap (λ b. if b || is_free free right then None else Some (object_of (scope ++ more) left == object_of (scope ++ more) right)) (not_free free (length scope) left l)
          ∙ ap (λ b. if b then None else Some (object_of (scope ++ more) left == object_of (scope ++ more) right)) (not_free free (length scope) right r)
          ∙ ap (λ o. Some (o == object_of (scope ++ more) right)) (object_is free scope more left l)
          ∙ ap (λ o. Some (object_of scope left == o)) (object_is free scope more right r)
          ∙ same (Some (object_of scope left == object_of scope right)) w is
      both false e w is = never w (value_of_equal left right (scope ++ more) free) is
  tells_value at free (all parts) scope more = tells_all at free parts scope more
  tells_value at free (any parts) scope more = tells_any at free parts scope more
  tells_value at free (negation part) scope more = tells_not (settled at part scope free) (partial_value at part (scope ++ more) free) (tells_value at free part scope more)
  tells_value at free (implication left right) scope more =
      tells_or (settled_not (settled at left scope free)) (settled at right scope free) (value_not (partial_value at left (scope ++ more) free)) (partial_value at right (scope ++ more) free)
      (tells_not (settled at left scope free) (partial_value at left (scope ++ more) free) (tells_value at free left scope more)) (tells_value at free right scope more)
  tells_value at free (exists types part) scope more = go (settled at part scope free) (λ objects. tells_value at free part scope (more ++ objects))
    where
      go : (s : Option Known) → ((objects : List ℕ) → Tells s (partial_value at part (scope ++ (more ++ objects)) free))
          → Tells (settled_each (binding_count at.objects types) false s) (value_of_any (map (λ objects. partial_value at part ((scope ++ more) ++ objects) free) (bindings at.objects types)))
      go None tells w is = never w (value_of_any (map (λ objects. partial_value at part ((scope ++ more) ++ objects) free) (bindings at.objects types))) is
      go (Some v) tells w is =
          any_same (λ objects. partial_value at part ((scope ++ more) ++ objects) free) v (bindings at.objects types) (λ objects. ap (λ s. partial_value at part s free) (append_assoc scope more objects) ∙ tells objects v refl)
          ∙ ap (λ n. if n == 0 then Some false else v) (length_bindings at.objects types)
          ∙ same (if binding_count at.objects types == 0 then Some false else v) w is
  tells_value at free (forall types part) scope more = go (settled at part scope free) (λ objects. tells_value at free part scope (more ++ objects))
    where
      go : (s : Option Known) → ((objects : List ℕ) → Tells s (partial_value at part (scope ++ (more ++ objects)) free))
          → Tells (settled_each (binding_count at.objects types) true s) (value_of_all (map (λ objects. partial_value at part ((scope ++ more) ++ objects) free) (bindings at.objects types)))
      go None tells w is = never w (value_of_all (map (λ objects. partial_value at part ((scope ++ more) ++ objects) free) (bindings at.objects types))) is
      go (Some v) tells w is =
          all_same (λ objects. partial_value at part ((scope ++ more) ++ objects) free) v (bindings at.objects types) (λ objects. ap (λ s. partial_value at part s free) (append_assoc scope more objects) ∙ tells objects v refl)
          ∙ ap (λ n. if n == 0 then Some true else v) (length_bindings at.objects types)
          ∙ same (if binding_count at.objects types == 0 then Some true else v) w is

  tells_all : (at : Setting) (free : Free) (fs : FormulaTrees) (scope more : List ℕ) → Tells (settled_all (settled_values at fs scope free)) (value_of_all (partial_values at fs (scope ++ more) free))
  tells_all at free no_formula scope more = tells_some (Some true)
  tells_all at free (formula_then f fs) scope more =
      tells_and (settled at f scope free) (settled_all (settled_values at fs scope free)) (partial_value at f (scope ++ more) free) (value_of_all (partial_values at fs (scope ++ more) free))
      (tells_value at free f scope more) (tells_all at free fs scope more)

  tells_any : (at : Setting) (free : Free) (fs : FormulaTrees) (scope more : List ℕ) → Tells (settled_any (settled_values at fs scope free)) (value_of_any (partial_values at fs (scope ++ more) free))
  tells_any at free no_formula scope more = tells_some (Some false)
  tells_any at free (formula_then f fs) scope more =
      tells_or (settled at f scope free) (settled_any (settled_values at fs scope free)) (partial_value at f (scope ++ more) free) (value_of_any (partial_values at fs (scope ++ more) free))
      (tells_value at free f scope more) (tells_any at free fs scope more)

-- what is settled of a formula is what is known of it
pub settled_is : (at : Setting) (free : Free) (f : FormulaTree) (scope : List ℕ) (v : Known) → Some v ≡ settled at f scope free → v ≡ partial_value at f scope free
settled_is at free f scope v is = sym (ap (λ s. partial_value at f s free) (sym (append-nil scope)) ∙ tells_value at free f scope [] v (sym is))
