-- The flaws of a pass: the first of them, and lists of flaws in the order of the text.
use Rattle.std.proofs.Common.{◌≡◌, ℕ, suc, ◌<◌, ◌≤◌, true, List, [], ◌∷◌, ◌++◌, refl, ap, ◌∙◌, arith}
use Rattle.std.specs.Prelude.{nat_lt, Some, None, if◌then◌else◌}
use Rattle.std.specs.Option.{option_map}
use Rattle.std.proofs.lemmas.Bool.Decides.{nat_tests}
use Rattle.sexpr_text.specs.declared.faults.InputFault.{InputFault}
use Rattle.sexpr_text.specs.Flaws.{Flaw, comes_first, earlier_of, first_of, fault_of_passes, first_listed, IsInOrder}

-- a flaw at a lesser offset comes first
pub lesser_offset-first : (f g : Flaw) → f.offset < g.offset → comes_first f g ≡ true
lesser_offset-first f g h = let e : nat_lt f.offset g.offset ≡ true = grind (arith, nat_tests) in rw e refl

-- lists from a lower bound on, or up to a greater one
pub in_order-from : (lo low hi : ℕ) (fs : List Flaw) → lo ≤ low → IsInOrder low hi fs → IsInOrder lo hi fs
in_order-from lo low hi [] h g = omega arith
in_order-from lo low hi (f ∷ fs) h g = let k : low ≤ f.offset = g.0 in (omega arith, g.1)

pub in_order-up_to : (lo hi high : ℕ) (fs : List Flaw) → hi ≤ high → IsInOrder lo hi fs → IsInOrder lo high fs
in_order-up_to lo hi high [] h g = omega arith
in_order-up_to lo hi high (f ∷ fs) h g = (g.0, in_order-up_to (suc f.offset) hi high fs h g.1)

pub in_order-bounds : (lo hi : ℕ) (fs : List Flaw) → IsInOrder lo hi fs → lo ≤ hi
in_order-bounds lo hi [] h = h
in_order-bounds lo hi (f ∷ fs) h = let a : lo ≤ f.offset = h.0 in let b : suc f.offset ≤ hi = in_order-bounds (suc f.offset) hi fs h.1 in omega arith

-- two lists, one after the other
pub in_order-append : (lo mid hi : ℕ) (fs gs : List Flaw) → IsInOrder lo mid fs → IsInOrder mid hi gs → IsInOrder lo hi (fs ++ gs)
in_order-append lo mid hi [] gs h g = in_order-from lo mid hi gs h g
in_order-append lo mid hi (f ∷ fs) gs h g = (h.0, in_order-append (suc f.offset) mid hi fs gs h.1 g)

-- in order, the first of a list is the one that it begins with
first-in_order : (f : Flaw) (fs : List Flaw) (hi : ℕ) → IsInOrder (suc f.offset) hi fs → earlier_of f (first_of fs) ≡ f
unfolding first_of
first-in_order f [] hi h = refl
first-in_order f (g ∷ gs) hi h =
    let e : first_of (g ∷ gs) ≡ Some g = ap Some (first-in_order g gs hi h.1) in
    let k : suc f.offset ≤ g.offset = h.0 in
    let t : comes_first f g ≡ true = lesser_offset-first f g (omega arith) in
    ap (earlier_of f) e ∙ ap (λ b. if b then f else g) t

pub in_order-first_of : (lo hi : ℕ) (fs : List Flaw) → IsInOrder lo hi fs → option_map (λ (f : Flaw). f.fault) (first_of fs) ≡ first_listed fs
unfolding first_of
in_order-first_of lo hi [] h = refl
in_order-first_of lo hi (f ∷ fs) h = ap (λ (g : Flaw). Some g.fault) (first-in_order f fs hi h.1)

-- the pass after passes without flaws, and the first pass that has one
pub passes-none : (passes : List (List Flaw)) → fault_of_passes ([] ∷ passes) ≡ fault_of_passes passes
unfolding fault_of_passes
passes-none passes = refl

pub passes-end : fault_of_passes [] ≡ None
unfolding fault_of_passes
passes-end = refl

pub passes-first : (lo hi : ℕ) (fs : List Flaw) (passes : List (List Flaw)) (fault : InputFault) → IsInOrder lo hi fs
    → first_listed fs ≡ Some fault → fault_of_passes (fs ∷ passes) ≡ Some fault
unfolding fault_of_passes
passes-first lo hi [] passes fault h e = cc
passes-first lo hi (f ∷ fs) passes fault h e = in_order-first_of lo hi (f ∷ fs) h ∙ e

-- the first of two lists
pub listed-later : (fs gs : List Flaw) → fs ≡ [] → first_listed (fs ++ gs) ≡ first_listed gs
listed-later [] gs h = refl
listed-later (f ∷ fs) gs h = cc

pub listed-earlier : (fs gs : List Flaw) (fault : InputFault) → first_listed fs ≡ Some fault → first_listed (fs ++ gs) ≡ Some fault
listed-earlier [] gs fault h = cc
listed-earlier (f ∷ fs) gs fault h = h
