-- What a condition can be in a set, it can be in any set that has more.
use Rattle.std.proofs.Common.{◌≡◌, ℕ, Bool, true, false, not, ◌&&◌, ◌||◌, List, [], ◌∷◌, map, refl, sym, ◌∙◌, ap, subst}
use Rattle.std.specs.List.{list_all, list_any}
use Rattle.std.proofs.lemmas.Bool.{and_parts, and_from, or_parts, false≢true}
use Rattle.task_core.specs.Conditions.{holds, holds_step}
use Rattle.task_core.specs.declared.conditions.Cond.{Cond}
use Rattle.task_core.specs.declared.conditions.Cond.TheOpen.{Cond-F, Yes, No, Is, Not, All, Any}
use Rattle.task_core.specs.declared.conditions.Cond.TheViews.{roll-Cond}
use Rattle.task_core.specs.declared.conditions.Cond.TheFolds.{map-Cond, fold-roll-Cond, ind-Cond}
use Rattle.task_core.proofs.Agreement.{holds_roll}
use Rattle.relaxed_reach.specs.Literals.{LiteralSet, can_be, can_step}
use Rattle.relaxed_reach.specs.Relaxed.{IsPartOf}

-- one layer
pub can_roll : (x : Cond-F Cond) (set : LiteralSet) (b : Bool) → can_be (roll-Cond x) set b ≡ can_step (map-Cond Cond (LiteralSet → Bool → Bool) can_be x) set b
can_roll x set b = ap (λ p. p set b) (fold-roll-Cond (LiteralSet → Bool → Bool) can_step x)

-- what is shown of each condition by induction
abbrev Grows : Cond → Type 0
Grows c = (set other : LiteralSet) → IsPartOf set other → (b : Bool) → can_be c set b ≡ true → can_be c other b ≡ true

abbrev Shown : Type 0
Shown = (c : Cond) × Grows c

all_grow : (parts : List Shown) (set other : LiteralSet) (b : Bool) → IsPartOf set other
    → list_all (λ part. part set b) (map can_be (map (λ e. e.0) parts)) ≡ true → list_all (λ part. part other b) (map can_be (map (λ e. e.0) parts)) ≡ true
all_grow [] set other b part h = refl
all_grow (e ∷ parts) set other b part h =
    let hs = and_parts _ _ h in
    and_from _ _ (e.1 set other part b hs.0) (all_grow parts set other b part hs.1)

pub or_map : (a b c d : Bool) → (a ≡ true → c ≡ true) → (b ≡ true → d ≡ true) → (a || b) ≡ true → (c || d) ≡ true
or_map true b c d f g h = ap (λ x. x || d) (f refl)
or_map false b true d f g h = refl
or_map false b false d f g h = g h

any_grow : (parts : List Shown) (set other : LiteralSet) (b : Bool) → IsPartOf set other
    → list_any (λ part. part set b) (map can_be (map (λ e. e.0) parts)) ≡ true → list_any (λ part. part other b) (map can_be (map (λ e. e.0) parts)) ≡ true
any_grow [] set other b part h = h
any_grow (e ∷ parts) set other b part h =
    or_map (can_be e.0 set b) (list_any (λ part. part set b) (map can_be (map (λ e. e.0) parts))) (can_be e.0 other b) (list_any (λ part. part other b) (map can_be (map (λ e. e.0) parts)))
    (e.1 set other part b) (any_grow parts set other b part) h

abbrev first_of : Cond-F Shown → Cond-F Cond
first_of = map-Cond Shown Cond (λ e. e.0)

layer_grows : (y : Cond-F Shown) (set other : LiteralSet) → IsPartOf set other → (b : Bool)
    → can_step (map-Cond Cond (LiteralSet → Bool → Bool) can_be (first_of y)) set b ≡ true → can_step (map-Cond Cond (LiteralSet → Bool → Bool) can_be (first_of y)) other b ≡ true
layer_grows Yes set other part b h = h
layer_grows No set other part b h = h
layer_grows (Is f) set other part b h = part f.0 b h
layer_grows (Not p) set other part b h = p.value.1 set other part (not b) h
layer_grows (All parts) set other part true h = all_grow parts.items set other true part h
layer_grows (All parts) set other part false h = any_grow parts.items set other false part h
layer_grows (Any parts) set other part true h = any_grow parts.items set other true part h
layer_grows (Any parts) set other part false h = all_grow parts.items set other false part h

roll_grows : (y : Cond-F Shown) → Grows (roll-Cond (first_of y))
roll_grows y set other part b h =
    can_roll (first_of y) other b ∙ layer_grows y set other part b (sym (can_roll (first_of y) set b) ∙ h)

pub can_be_grows : (c : Cond) → Grows c
can_be_grows = ind-Cond Grows (λ x y is. subst (λ z. Grows (roll-Cond z)) is (roll_grows y))

-- a condition can have the truth value that it has, where the set has the values of the fluents
abbrev IsSound : Cond → Type 0
IsSound c = (set : LiteralSet) (value : ℕ → Bool) → ((f : ℕ) → set f (value f) ≡ true) → can_be c set (holds c value) ≡ true

abbrev Proved : Type 0
Proved = (c : Cond) × IsSound c

as_is : (b c : Bool) (p : Bool → Bool) → p b ≡ true → b ≡ c → p c ≡ true
as_is b c p h e = subst (λ x. p x ≡ true) e h

all_true : (parts : List Proved) (set : LiteralSet) (value : ℕ → Bool) → ((f : ℕ) → set f (value f) ≡ true)
    → list_all (λ part. part value) (map holds (map (λ e. e.0) parts)) ≡ true → list_all (λ part. part set true) (map can_be (map (λ e. e.0) parts)) ≡ true
all_true [] set value has h = refl
all_true (e ∷ parts) set value has h =
    let hs = and_parts _ _ h in
    and_from _ _ (as_is (holds e.0 value) true (can_be e.0 set) (e.1 set value has) hs.0) (all_true parts set value has hs.1)

one_false : (a b c d : Bool) → (a ≡ false → c ≡ true) → (b ≡ false → d ≡ true) → (a && b) ≡ false → (c || d) ≡ true
one_false true b true d f g h = refl
one_false true b false d f g h = g h
one_false false b c d f g h = ap (λ x. x || d) (f refl)

some_false : (parts : List Proved) (set : LiteralSet) (value : ℕ → Bool) → ((f : ℕ) → set f (value f) ≡ true)
    → list_all (λ part. part value) (map holds (map (λ e. e.0) parts)) ≡ false → list_any (λ part. part set false) (map can_be (map (λ e. e.0) parts)) ≡ true
some_false [] set value has h = absurd (false≢true (sym h))
some_false (e ∷ parts) set value has h =
    one_false (holds e.0 value) (list_all (λ part. part value) (map holds (map (λ e. e.0) parts))) (can_be e.0 set false) (list_any (λ part. part set false) (map can_be (map (λ e. e.0) parts)))
    (λ is. as_is (holds e.0 value) false (can_be e.0 set) (e.1 set value has) is) (some_false parts set value has) h

some_true : (parts : List Proved) (set : LiteralSet) (value : ℕ → Bool) → ((f : ℕ) → set f (value f) ≡ true)
    → list_any (λ part. part value) (map holds (map (λ e. e.0) parts)) ≡ true → list_any (λ part. part set true) (map can_be (map (λ e. e.0) parts)) ≡ true
some_true [] set value has h = h
some_true (e ∷ parts) set value has h =
    or_map (holds e.0 value) (list_any (λ part. part value) (map holds (map (λ e. e.0) parts))) (can_be e.0 set true) (list_any (λ part. part set true) (map can_be (map (λ e. e.0) parts)))
    (as_is (holds e.0 value) true (can_be e.0 set) (e.1 set value has)) (some_true parts set value has) h

all_false : (parts : List Proved) (set : LiteralSet) (value : ℕ → Bool) → ((f : ℕ) → set f (value f) ≡ true)
    → list_any (λ part. part value) (map holds (map (λ e. e.0) parts)) ≡ false → list_all (λ part. part set false) (map can_be (map (λ e. e.0) parts)) ≡ true
all_false [] set value has h = refl
all_false (e ∷ parts) set value has h =
    let hs = or_parts (holds e.0 value) (list_any (λ part. part value) (map holds (map (λ e. e.0) parts))) h in
    and_from _ _ (as_is (holds e.0 value) false (can_be e.0 set) (e.1 set value has) hs.0) (all_false parts set value has hs.1)

abbrev cond_of : Cond-F Proved → Cond-F Cond
cond_of = map-Cond Proved Cond (λ e. e.0)

layer_sound : (y : Cond-F Proved) (set : LiteralSet) (value : ℕ → Bool) → ((f : ℕ) → set f (value f) ≡ true)
    → (b : Bool) → holds_step (map-Cond Cond ((ℕ → Bool) → Bool) holds (cond_of y)) value ≡ b
    → can_step (map-Cond Cond (LiteralSet → Bool → Bool) can_be (cond_of y)) set b ≡ true
layer_sound Yes set value has b h = sym h
layer_sound No set value has true h = absurd (false≢true h)
layer_sound No set value has false h = refl
layer_sound (Is f) set value has b h = subst (λ x. set f.0 x ≡ true) h (has f.0)
layer_sound (Not p) set value has b h = subst (λ x. can_be p.value.0 set x ≡ true) (not_not (holds p.value.0 value) ∙ ap not h) (p.value.1 set value has)
  where
    not_not : (x : Bool) → x ≡ not (not x)
    not_not true = refl
    not_not false = refl
layer_sound (All parts) set value has true h = all_true parts.items set value has h
layer_sound (All parts) set value has false h = some_false parts.items set value has h
layer_sound (Any parts) set value has true h = some_true parts.items set value has h
layer_sound (Any parts) set value has false h = all_false parts.items set value has h

roll_sound : (y : Cond-F Proved) → IsSound (roll-Cond (cond_of y))
roll_sound y set value has =
    can_roll (cond_of y) set (holds (roll-Cond (cond_of y)) value)
    ∙ layer_sound y set value has (holds (roll-Cond (cond_of y)) value) (sym (holds_roll (cond_of y) value))

pub can_be_sound : (c : Cond) → IsSound c
can_be_sound = ind-Cond IsSound (λ x y is. subst (λ z. IsSound (roll-Cond z)) is (roll_sound y))
