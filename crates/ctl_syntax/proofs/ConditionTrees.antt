-- What a condition's tree says of the condition: where it holds, which fluents it names, and how
-- deep it is.
use Rattle.std.proofs.Common.{◌≡◌, ℕ, ◌+◌, Bool, true, false, not, ◌&&◌, ◌||◌, List, [], ◌∷◌, map, refl, sym, ◌∙◌, ap, subst}
use Rattle.std.specs.Prelude.{nat_lt, max, Vec}
use Rattle.std.specs.declared.alloc.Global.{Global}
use Rattle.std.specs.List.{list_all, list_any}
use Rattle.task_core.specs.Conditions.{below_step, depth, depth_step, greatest, holds, holds_step, ids_below}
use Rattle.task_core.specs.declared.conditions.Cond.{Cond}
use Rattle.task_core.specs.declared.conditions.Cond.TheOpen as Open
use Rattle.task_core.specs.declared.conditions.Cond.TheOpen.{Cond-F, Yes, No, Is, Not, All, Any}
use Rattle.task_core.specs.declared.conditions.Cond.TheVariants as Shut
use Rattle.task_core.specs.declared.conditions.Cond.TheViews.{roll-Cond}
use Rattle.task_core.specs.declared.conditions.Cond.TheFolds.{map-Cond, fold-roll-Cond, ind-Cond}
use Rattle.task_core.proofs.Agreement.{below_roll, holds_roll}
use Rattle.ctl_syntax.specs.Conditions.{CondTree, CondTrees, yes_always, no_never, is_fluent_true, not_so, all_of, any_of, no_condition, condition_then, condition_row, condition_step, condition_value}

-- whether a condition tree holds where the fluents have these values
abbrev mutual
  pub tree_holds : CondTree → (ℕ → Bool) → Bool
  tree_holds yes_always value = true
  tree_holds no_never value = false
  tree_holds (is_fluent_true f) value = value f
  tree_holds (not_so part) value = not (tree_holds part value)
  tree_holds (all_of parts) value = trees_hold parts value
  tree_holds (any_of parts) value = one_holds parts value

  pub trees_hold : CondTrees → (ℕ → Bool) → Bool
  trees_hold no_condition value = true
  trees_hold (condition_then c cs) value = tree_holds c value && trees_hold cs value

  pub one_holds : CondTrees → (ℕ → Bool) → Bool
  one_holds no_condition value = false
  one_holds (condition_then c cs) value = tree_holds c value || one_holds cs value

-- whether every fluent that it names is below n
abbrev mutual
  pub tree_below : ℕ → CondTree → Bool
  tree_below n yes_always = true
  tree_below n no_never = true
  tree_below n (is_fluent_true f) = nat_lt f n
  tree_below n (not_so part) = tree_below n part
  tree_below n (all_of parts) = trees_below n parts
  tree_below n (any_of parts) = trees_below n parts

  pub trees_below : ℕ → CondTrees → Bool
  trees_below n no_condition = true
  trees_below n (condition_then c cs) = tree_below n c && trees_below n cs

-- how deep it is
abbrev mutual
  pub tree_depth : CondTree → ℕ
  tree_depth yes_always = 1
  tree_depth no_never = 1
  tree_depth (is_fluent_true f) = 1
  tree_depth (not_so part) = tree_depth part
  tree_depth (all_of parts) = 1 + trees_depth parts
  tree_depth (any_of parts) = 1 + trees_depth parts

  pub trees_depth : CondTrees → ℕ
  trees_depth no_condition = 0
  trees_depth (condition_then c cs) = max (tree_depth c) (trees_depth cs)

-- one layer
pub value_roll : (x : Cond-F Cond) → condition_value (roll-Cond x) ≡ condition_step (map-Cond Cond CondTree condition_value x)
value_roll x = fold-roll-Cond CondTree condition_step x

pub tree_of_All : (v : Vec Cond Global) → condition_value (Shut.All v) ≡ all_of (condition_row (map condition_value v.items))
tree_of_All v = ap condition_value (sym (Shut.rolls-All v)) ∙ value_roll (Open.All v)

-- a condition holds where its tree does

abbrev Agrees : Cond → Type 0
Agrees c = (value : ℕ → Bool) → holds c value ≡ tree_holds (condition_value c) value

abbrev Shown : Type 0
Shown = (c : Cond) × Agrees c

abbrev conditions : List Shown → List Cond
conditions = map (λ (e : Shown). e.0)

all_agree : (parts : List Shown) (value : ℕ → Bool) → list_all (λ part. part value) (map holds (conditions parts)) ≡ trees_hold (condition_row (map condition_value (conditions parts))) value
all_agree [] value = refl
all_agree (e ∷ parts) value =
    ap (λ b. b && list_all (λ part. part value) (map holds (conditions parts))) (e.1 value)
    ∙ ap (λ b. tree_holds (condition_value e.0) value && b) (all_agree parts value)

any_agree : (parts : List Shown) (value : ℕ → Bool) → list_any (λ part. part value) (map holds (conditions parts)) ≡ one_holds (condition_row (map condition_value (conditions parts))) value
any_agree [] value = refl
any_agree (e ∷ parts) value =
    ap (λ b. b || list_any (λ part. part value) (map holds (conditions parts))) (e.1 value)
    ∙ ap (λ b. tree_holds (condition_value e.0) value || b) (any_agree parts value)

abbrev first_of : Cond-F Shown → Cond-F Cond
first_of = map-Cond Shown Cond (λ e. e.0)

layer_agrees : (y : Cond-F Shown) (value : ℕ → Bool) → holds_step (map-Cond Cond ((ℕ → Bool) → Bool) holds (first_of y)) value ≡ tree_holds (condition_step (map-Cond Cond CondTree condition_value (first_of y))) value
layer_agrees Yes value = refl
layer_agrees No value = refl
layer_agrees (Is f) value = refl
layer_agrees (Not part) value = ap not (part.value.1 value)
layer_agrees (All parts) value = all_agree parts.items value
layer_agrees (Any parts) value = any_agree parts.items value

roll_agrees : (y : Cond-F Shown) → Agrees (roll-Cond (first_of y))
roll_agrees y value =
    holds_roll (first_of y) value
    ∙ layer_agrees y value
    ∙ ap (λ tree. tree_holds tree value) (sym (value_roll (first_of y)))

pub holds_is : (c : Cond) → Agrees c
holds_is = ind-Cond Agrees (λ x y is. subst (λ z. Agrees (roll-Cond z)) is (roll_agrees y))

-- it names the fluents that its tree names

module _ (n : ℕ) where
  abbrev Below : Cond → Type 0
  Below c = ids_below n c ≡ tree_below n (condition_value c)

  abbrev ShownBelow : Type 0
  ShownBelow = (c : Cond) × Below c

  parts_below : (parts : List ShownBelow) → list_all (λ part. part) (map (ids_below n) (map (λ (e : ShownBelow). e.0) parts)) ≡ trees_below n (condition_row (map condition_value (map (λ (e : ShownBelow). e.0) parts)))
  parts_below [] = refl
  parts_below (e ∷ parts) =
      ap (λ b. b && list_all (λ part. part) (map (ids_below n) (map (λ (e : ShownBelow). e.0) parts))) e.1
      ∙ ap (λ b. tree_below n (condition_value e.0) && b) (parts_below parts)

  abbrev first_below : Cond-F ShownBelow → Cond-F Cond
  first_below = map-Cond ShownBelow Cond (λ e. e.0)

  layer_below : (y : Cond-F ShownBelow) → below_step n (map-Cond Cond Bool (ids_below n) (first_below y)) ≡ tree_below n (condition_step (map-Cond Cond CondTree condition_value (first_below y)))
  layer_below Yes = refl
  layer_below No = refl
  layer_below (Is f) = refl
  layer_below (Not part) = part.value.1
  layer_below (All parts) = parts_below parts.items
  layer_below (Any parts) = parts_below parts.items

  roll_below : (y : Cond-F ShownBelow) → Below (roll-Cond (first_below y))
  roll_below y = below_roll n (first_below y) ∙ layer_below y ∙ ap (tree_below n) (sym (value_roll (first_below y)))

  pub below_is : (c : Cond) → ids_below n c ≡ tree_below n (condition_value c)
  below_is = ind-Cond Below (λ x y is. subst (λ z. Below (roll-Cond z)) is (roll_below y))

-- and it is as deep as its tree

abbrev Deep : Cond → Type 0
Deep c = depth c ≡ tree_depth (condition_value c)

abbrev ShownDeep : Type 0
ShownDeep = (c : Cond) × Deep c

parts_deep : (parts : List ShownDeep) → greatest (map depth (map (λ (e : ShownDeep). e.0) parts)) ≡ trees_depth (condition_row (map condition_value (map (λ (e : ShownDeep). e.0) parts)))
parts_deep [] = refl
parts_deep (e ∷ parts) =
    ap (λ m. max m (greatest (map depth (map (λ (e : ShownDeep). e.0) parts)))) e.1
    ∙ ap (λ m. max (tree_depth (condition_value e.0)) m) (parts_deep parts)

abbrev first_deep : Cond-F ShownDeep → Cond-F Cond
first_deep = map-Cond ShownDeep Cond (λ e. e.0)

layer_deep : (y : Cond-F ShownDeep) → depth_step (map-Cond Cond ℕ depth (first_deep y)) ≡ tree_depth (condition_step (map-Cond Cond CondTree condition_value (first_deep y)))
layer_deep Yes = refl
layer_deep No = refl
layer_deep (Is f) = refl
layer_deep (Not part) = part.value.1
layer_deep (All parts) = ap (λ m. 1 + m) (parts_deep parts.items)
layer_deep (Any parts) = ap (λ m. 1 + m) (parts_deep parts.items)

roll_deep : (y : Cond-F ShownDeep) → Deep (roll-Cond (first_deep y))
roll_deep y = fold-roll-Cond ℕ depth_step (first_deep y) ∙ layer_deep y ∙ ap tree_depth (sym (value_roll (first_deep y)))

pub depth_is : (c : Cond) → depth c ≡ tree_depth (condition_value c)
depth_is = ind-Cond Deep (λ x y is. subst (λ z. Deep (roll-Cond z)) is (roll_deep y))
