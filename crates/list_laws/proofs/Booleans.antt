-- Equations of truth values that std doesn't have.
use Rattle.std.proofs.Common.{◌≡◌, Bool, true, false, ◌&&◌, ◌||◌, not, refl, sym, ap, ◌∙◌}
use Rattle.std.proofs.lemmas.Bool.{false≢true, true≢false}

pub or_false : (b : Bool) → (b || false) ≡ b
or_false true = refl
or_false false = refl

pub or_true : (b : Bool) → (b || true) ≡ true
or_true true = refl
or_true false = refl

pub or_assoc : (a b c : Bool) → ((a || b) || c) ≡ (a || (b || c))
or_assoc true b c = refl
or_assoc false b c = refl

pub and_true : (b : Bool) → (b && true) ≡ b
and_true true = refl
and_true false = refl

pub and_false : (b : Bool) → (b && false) ≡ false
and_false true = refl
and_false false = refl

pub and_assoc : (a b c : Bool) → ((a && b) && c) ≡ (a && (b && c))
and_assoc true b c = refl
and_assoc false b c = refl

pub and_not : (b : Bool) → (b && not b) ≡ false
and_not true = refl
and_not false = refl

-- one of the parts of "and"
pub and_first : (x y : Bool) → (x && y) ≡ true → x ≡ true
and_first true y e = refl
and_first false y e = e

pub and_second : (x y : Bool) → (x && y) ≡ true → y ≡ true
and_second true y e = e
and_second false y e = cc

-- truth values that follow from one another are equal
pub same_truth : (x y : Bool) → (x ≡ true → y ≡ true) → (y ≡ true → x ≡ true) → x ≡ y
same_truth true y there back = sym (there refl)
same_truth false true there back = back refl
same_truth false false there back = refl

-- what follows from x adds nothing to it
pub or_same : (x y : Bool) → (y ≡ true → x ≡ true) → x ≡ (x || y)
or_same true y up = refl
or_same false true up = up refl
or_same false false up = refl

pub true_and_false : (b : Bool) → b ≡ true → b ≡ false → ⊥
true_and_false b t f = cc

-- the same equations, from the shorter side
pub or_none : (b : Bool) → b ≡ (b || false)
or_none b = sym (or_false b)

pub and_one : (b : Bool) → b ≡ (b && true)
and_one b = sym (and_true b)

-- what is true, or false, under "not"
pub not_true : (b : Bool) → not b ≡ true → b ≡ false
not_true true e = sym e
not_true false e = refl

pub not_false : (b : Bool) → not b ≡ false → b ≡ true
not_false true e = refl
not_false false e = sym e

pub same_not : (a b : Bool) → not a ≡ not b → a ≡ b
same_not true true e = refl
same_not true false e = absurd (false≢true e)
same_not false true e = absurd (true≢false e)
same_not false false e = refl

pub not_up : (a b : Bool) → (a ≡ true → b ≡ true) → not b ≡ true → not a ≡ true
not_up true b more out = absurd (false≢true (sym (ap not (more refl)) ∙ out))
not_up false b more out = refl

-- a part that is true, or one that is false, adds nothing
pub and_yes : (b c : Bool) → c ≡ true → (b && c) ≡ b
and_yes true c e = e
and_yes false c e = refl

pub or_never : (x y : Bool) → false ≡ y → x ≡ (x || y)
or_never true y e = refl
or_never false y e = e

-- where something leads to, "all" and "any" say the same of what always has some
pub both_lead : (e any all : Bool) → (all ≡ true → e ≡ true → any ≡ true) → (any ≡ true → e ≡ true) → (e && all) ≡ (any && all)
both_lead true true all there back = refl
both_lead true false true there back = absurd (false≢true (there refl refl))
both_lead true false false there back = refl
both_lead false true all there back = absurd (false≢true (back refl))
both_lead false false all there back = refl
