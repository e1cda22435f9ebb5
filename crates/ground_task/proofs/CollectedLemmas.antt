-- What is collected: nothing else than what is named, and all of it where there aren't too many.
use Rattle.std.proofs.Common.{◌≡◌, ◌≤◌, Bool, true, false, ◌||◌, List, [], ◌∷◌, ◌++◌, length, refl, ap, sym, ◌∙◌, arith, if◌then◌else◌}
use Rattle.std.specs.Prelude.{nat_lt}
use Rattle.std.proofs.lemmas.Bool.{le-ltb, ltb-false}
use Rattle.std.proofs.lemmas.List.{length-append}
use Rattle.std.proofs.lemmas.List.Folds.{list_any-append}
use Rattle.pddl_ast.specs.Trees.{AtomTree}
use Rattle.pddl_system.specs.GroundAtoms.{is_among, same_atom}
use Rattle.pddl_system.proofs.Numbers.{same_atom-equal}
use Rattle.ground_task.specs.Collecting.{collected, with_atom}
use Rattle.list_laws.proofs.Booleans.{or_false}

or_assoc : (x y z : Bool) → (x || y || z) ≡ (x || (y || z))
or_assoc true y z = refl
or_assoc false y z = refl

among_pushed : (t : List AtomTree) (x a : AtomTree) → is_among (t ++ x ∷ []) a ≡ (is_among t a || same_atom a x)
among_pushed t x a = list_any-append (same_atom a) t (x ∷ []) ∙ ap (λ b. is_among t a || b) (or_false (same_atom a x))

-- an atom that is there already names nothing new
already : (t : List AtomTree) (x a : AtomTree) → is_among t x ≡ true → is_among t a ≡ (is_among t a || same_atom a x)
already t x a there = pick (same_atom a x) refl
  where
    pick : (b : Bool) → same_atom a x ≡ b → is_among t a ≡ (is_among t a || b)
    pick false is = sym (or_false (is_among t a))
    pick true is =
        let e : is_among t a ≡ true = ap (is_among t) (same_atom-equal a x is) ∙ there in
        e ∙ sym (ap (λ b. b || true) e)

-- one atom, where there aren't too many yet
one_more : (t : List AtomTree) (x a : AtomTree) → nat_lt 256 (length t) ≡ false → is_among (with_atom t x) a ≡ (is_among t a || same_atom a x)
one_more t x a few =
    ap (λ b. is_among (if b || is_among t x then t else t ++ x ∷ []) a) few
    ∙ pick (is_among t x) refl
  where
    pick : (b : Bool) → is_among t x ≡ b → is_among (if b then t else t ++ x ∷ []) a ≡ (is_among t a || same_atom a x)
    pick true is = already t x a is
    pick false is = among_pushed t x a

-- no atom comes but from those that are named
no_other : (t : List AtomTree) (x a : AtomTree) → is_among (with_atom t x) a ≡ true → (is_among t a || same_atom a x) ≡ true
no_other t x a there = pick (nat_lt 256 (length t) || is_among t x) there
  where
    pick : (b : Bool) → is_among (if b then t else t ++ x ∷ []) a ≡ true → (is_among t a || same_atom a x) ≡ true
    pick true h = ap (λ b. b || same_atom a x) h
    pick false h = sym (among_pushed t x a) ∙ h

or_more : (b c : Bool) → b ≡ true → (b || c) ≡ true
or_more b c h = ap (λ x. x || c) h

or_last : (b c : Bool) → c ≡ true → (b || c) ≡ true
or_last true c h = refl
or_last false c h = h

pub collected_named : (t atoms : List AtomTree) (a : AtomTree) → is_among (collected t atoms) a ≡ true → (is_among t a || is_among atoms a) ≡ true
collected_named t [] a h = or_more (is_among t a) false h
collected_named t (x ∷ atoms) a h =
    sym (or_assoc (is_among t a) (same_atom a x) (is_among atoms a)) ∙ pick (is_among (with_atom t x) a) refl (collected_named (with_atom t x) atoms a h)
  where
    pick : (b : Bool) → is_among (with_atom t x) a ≡ b → (b || is_among atoms a) ≡ true → (is_among t a || same_atom a x || is_among atoms a) ≡ true
    pick true is rest = or_more (is_among t a || same_atom a x) (is_among atoms a) (no_other t x a is)
    pick false is rest = or_last (is_among t a || same_atom a x) (is_among atoms a) rest

one_longer : (t : List AtomTree) (x : AtomTree) → length t ≤ length (with_atom t x)
one_longer t x = pick (nat_lt 256 (length t) || is_among t x)
  where
    pick : (b : Bool) → length t ≤ length (if b then t else t ++ x ∷ [])
    pick true = omega arith
    pick false = omega (arith, length-append t (x ∷ []))

longer : (t atoms : List AtomTree) → length t ≤ length (collected t atoms)
longer t [] = omega arith
longer t (x ∷ atoms) = omega (arith, one_longer t x, longer (with_atom t x) atoms)

pub still_few : (t atoms : List AtomTree) → nat_lt 256 (length (collected t atoms)) ≡ false → nat_lt 256 (length t) ≡ false
still_few t atoms few =
    let small : length (collected t atoms) ≤ 256 = ltb-false 256 (length (collected t atoms)) few in
    le-ltb 256 (length t) (omega (arith, longer t atoms))

-- all atoms are there, where there aren't too many
pub collected_all : (t atoms : List AtomTree) (a : AtomTree) → nat_lt 256 (length (collected t atoms)) ≡ false → is_among (collected t atoms) a ≡ (is_among t a || is_among atoms a)
collected_all t [] a few = sym (or_false (is_among t a))
collected_all t (x ∷ atoms) a few =
    collected_all (with_atom t x) atoms a few
    ∙ ap (λ b. b || is_among atoms a) (one_more t x a (still_few t (x ∷ atoms) few))
    ∙ or_assoc (is_among t a) (same_atom a x) (is_among atoms a)
