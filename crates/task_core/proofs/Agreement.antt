-- A condition speaks of its own fluents alone: values that agree on them give it one truth.
use Rattle.std.proofs.Common.{◌≡◌, ℕ, ◌<◌, ◌≤◌, Bool, true, not, ◌&&◌, ◌||◌, List, [], ◌∷◌, map, refl, sym, ◌∙◌, ap, subst, arith}
use Rattle.std.specs.List.{list_all, list_any}
use Rattle.std.proofs.lemmas.Bool.{and_parts, and_from, ltb-true, lt-ltb}
use Rattle.task_core.specs.Conditions.{holds, holds_step, ids_below, below_step}
use Rattle.task_core.specs.declared.conditions.Cond.{Cond}
use Rattle.task_core.specs.declared.conditions.Cond.TheOpen.{Cond-F, Yes, No, Is, Not, All, Any}
use Rattle.task_core.specs.declared.conditions.Cond.TheViews.{roll-Cond}
use Rattle.task_core.specs.declared.conditions.Cond.TheFolds.{map-Cond, fold-roll-Cond, ind-Cond}

-- one layer
pub holds_roll : (x : Cond-F Cond) (g : ℕ → Bool) → holds (roll-Cond x) g ≡ holds_step (map-Cond Cond ((ℕ → Bool) → Bool) holds x) g
holds_roll x g = ap (λ p. p g) (fold-roll-Cond ((ℕ → Bool) → Bool) holds_step x)

pub below_roll : (n : ℕ) (x : Cond-F Cond) → ids_below n (roll-Cond x) ≡ below_step n (map-Cond Cond Bool (ids_below n) x)
below_roll n x = fold-roll-Cond Bool (below_step n) x

-- what is shown of each condition by induction
abbrev Agrees : Cond → Type 0
Agrees c = (n : ℕ) (g h : ℕ → Bool) → ids_below n c ≡ true → ((f : ℕ) → f < n → g f ≡ h f) → holds c g ≡ holds c h

abbrev Shown : Type 0
Shown = (c : Cond) × Agrees c

all_agree : (parts : List Shown) (n : ℕ) (g h : ℕ → Bool) → list_all (λ part. part) (map (ids_below n) (map (λ e. e.0) parts)) ≡ true → ((f : ℕ) → f < n → g f ≡ h f) → list_all (λ part. part g) (map holds (map (λ e. e.0) parts)) ≡ list_all (λ part. part h) (map holds (map (λ e. e.0) parts))
all_agree [] n g h below same = refl
all_agree (e ∷ parts) n g h below same =
    let belows = and_parts _ _ below in
    let head = e.1 n g h belows.0 same in
    let rest = all_agree parts n g h belows.1 same in
    ap (λ b. b && list_all (λ part. part g) (map holds (map (λ e. e.0) parts))) head ∙ ap (λ b. holds e.0 h && b) rest

any_agree : (parts : List Shown) (n : ℕ) (g h : ℕ → Bool) → list_all (λ part. part) (map (ids_below n) (map (λ e. e.0) parts)) ≡ true → ((f : ℕ) → f < n → g f ≡ h f) → list_any (λ part. part g) (map holds (map (λ e. e.0) parts)) ≡ list_any (λ part. part h) (map holds (map (λ e. e.0) parts))
any_agree [] n g h below same = refl
any_agree (e ∷ parts) n g h below same =
    let belows = and_parts _ _ below in
    let head = e.1 n g h belows.0 same in
    let rest = any_agree parts n g h belows.1 same in
    ap (λ b. b || list_any (λ part. part g) (map holds (map (λ e. e.0) parts))) head ∙ ap (λ b. holds e.0 h || b) rest

abbrev first_of : Cond-F Shown → Cond-F Cond
first_of = map-Cond Shown Cond (λ e. e.0)

layer_agrees : (y : Cond-F Shown) (n : ℕ) (g h : ℕ → Bool) → below_step n (map-Cond Cond Bool (ids_below n) (first_of y)) ≡ true → ((f : ℕ) → f < n → g f ≡ h f) → holds_step (map-Cond Cond ((ℕ → Bool) → Bool) holds (first_of y)) g ≡ holds_step (map-Cond Cond ((ℕ → Bool) → Bool) holds (first_of y)) h
layer_agrees Yes n g h below same = refl
layer_agrees No n g h below same = refl
layer_agrees (Is f) n g h below same = same f.0 (ltb-true f.0 n below)
layer_agrees (Not part) n g h below same = ap not (part.value.1 n g h below same)
layer_agrees (All parts) n g h below same = all_agree parts.items n g h below same
layer_agrees (Any parts) n g h below same = any_agree parts.items n g h below same

roll_agrees : (y : Cond-F Shown) → Agrees (roll-Cond (first_of y))
roll_agrees y n g h below same =
    holds_roll (first_of y) g
    ∙ layer_agrees y n g h (sym (below_roll n (first_of y)) ∙ below) same
    ∙ sym (holds_roll (first_of y) h)

-- values that agree below n give one truth to a condition whose fluents are below n
pub holds_agree : (c : Cond) → Agrees c
holds_agree = ind-Cond Agrees (λ x y is. subst (λ z. Agrees (roll-Cond z)) is (roll_agrees y))

-- a condition whose fluents are below n has them below any greater number
abbrev Widens : Cond → Type 0
Widens c = (n m : ℕ) → n ≤ m → ids_below n c ≡ true → ids_below m c ≡ true

abbrev Widened : Type 0
Widened = (c : Cond) × Widens c

parts_widen : (parts : List Widened) (n m : ℕ) → n ≤ m → list_all (λ part. part) (map (ids_below n) (map (λ e. e.0) parts)) ≡ true → list_all (λ part. part) (map (ids_below m) (map (λ e. e.0) parts)) ≡ true
parts_widen [] n m le below = refl
parts_widen (e ∷ parts) n m le below =
    let belows = and_parts _ _ below in
    and_from _ _ (e.1 n m le belows.0) (parts_widen parts n m le belows.1)

abbrev first_widened : Cond-F Widened → Cond-F Cond
first_widened = map-Cond Widened Cond (λ e. e.0)

layer_widens : (y : Cond-F Widened) (n m : ℕ) → n ≤ m → below_step n (map-Cond Cond Bool (ids_below n) (first_widened y)) ≡ true → below_step m (map-Cond Cond Bool (ids_below m) (first_widened y)) ≡ true
layer_widens Yes n m le below = refl
layer_widens No n m le below = refl
layer_widens (Is f) n m le below = let h = ltb-true f.0 n below in lt-ltb f.0 m (omega arith)
layer_widens (Not part) n m le below = part.value.1 n m le below
layer_widens (All parts) n m le below = parts_widen parts.items n m le below
layer_widens (Any parts) n m le below = parts_widen parts.items n m le below

roll_widens : (y : Cond-F Widened) → Widens (roll-Cond (first_widened y))
roll_widens y n m le below =
    below_roll m (first_widened y) ∙ layer_widens y n m le (sym (below_roll n (first_widened y)) ∙ below)

pub ids_below_widen : (c : Cond) → Widens c
ids_below_widen = ind-Cond Widens (λ x y is. subst (λ z. Widens (roll-Cond z)) is (roll_widens y))
