-- Conjunctions of conditions: whose fluents they name, how deep they are, and where they hold.
use Rattle.std.proofs.Common.{◌≡◌, ◌↔◌, ℕ, ◌+◌, ◌≤◌, Bool, true, List, [], ◌∷◌, map, refl, sym, ◌∙◌, ap, subst, arith}
use Rattle.std.proofs.lemmas.Bool.{and_from, and_parts}
use Rattle.task_core.specs.Conditions.{depth, holds, ids_below}
use Rattle.task_core.specs.declared.conditions.Cond.{Cond}
use Rattle.ctl_syntax.specs.Conditions.{CondTree, all_conditions, condition_row, condition_value}
use Rattle.ctl_syntax.proofs.Alike.{EachOf}
use Rattle.ctl_syntax.proofs.ConditionTrees.{below_is, depth_is, holds_is, tree_below, tree_depth, tree_holds, trees_below, trees_depth, trees_hold}

all_below : (n : ℕ) (ps : List Cond) → EachOf (λ (p : Cond). ids_below n p ≡ true) ps → trees_below n (condition_row (map condition_value ps)) ≡ true
all_below n [] each = refl
all_below n (p ∷ ps) each =
    and_from (tree_below n (condition_value p)) (trees_below n (condition_row (map condition_value ps))) (sym (below_is n p) ∙ each.0) (all_below n ps each.1)

pub stage_below : (n : ℕ) (cond : Cond) (ps : List Cond) → condition_value cond ≡ all_conditions ps → EachOf (λ (p : Cond). ids_below n p ≡ true) ps → ids_below n cond ≡ true
stage_below n cond ps is each = below_is n cond ∙ ap (tree_below n) is ∙ all_below n ps each

all_deep : (n : ℕ) (ps : List Cond) → EachOf (λ (p : Cond). depth p ≤ n) ps → trees_depth (condition_row (map condition_value ps)) ≤ n
all_deep n [] each = omega arith
all_deep n (p ∷ ps) each =
    let here : tree_depth (condition_value p) ≤ n = subst (λ m. m ≤ n) (depth_is p) each.0 in
    let later = all_deep n ps each.1 in
    omega (arith, here, later)

pub stage_deep : (n : ℕ) (cond : Cond) (ps : List Cond) → condition_value cond ≡ all_conditions ps → EachOf (λ (p : Cond). depth p ≤ n) ps → depth cond ≤ n + 1
stage_deep n cond ps is each =
    let e : depth cond ≡ 1 + trees_depth (condition_row (map condition_value ps)) = depth_is cond ∙ ap tree_depth is in
    let most = all_deep n ps each in
    omega (arith, e, most)

all_hold : (value : ℕ → Bool) (ps : List Cond) → EachOf (λ (p : Cond). holds p value ≡ true) ps ↔ (trees_hold (condition_row (map condition_value ps)) value ≡ true)
all_hold value [] = (λ e. refl, λ e. tt)
all_hold value (p ∷ ps) = (
  λ e. and_from (tree_holds (condition_value p) value) (trees_hold (condition_row (map condition_value ps)) value) (sym (holds_is p value) ∙ e.0) ((all_hold value ps).0 e.1),
  λ e. let both = and_parts (tree_holds (condition_value p) value) (trees_hold (condition_row (map condition_value ps)) value) e in
      (holds_is p value ∙ both.0, (all_hold value ps).1 both.1),
)

pub stage_holds : (value : ℕ → Bool) (cond : Cond) (ps : List Cond) → condition_value cond ≡ all_conditions ps → EachOf (λ (p : Cond). holds p value ≡ true) ps ↔ (holds cond value ≡ true)
stage_holds value cond ps is =
    let e : holds cond value ≡ trees_hold (condition_row (map condition_value ps)) value = holds_is cond value ∙ ap (λ (t : CondTree). tree_holds t value) is in
    (λ all. e ∙ (all_hold value ps).0 all, λ one. (all_hold value ps).1 (sym e ∙ one))

pub same_holds : (value : ℕ → Bool) (c d : Cond) → condition_value c ≡ condition_value d → holds c value ≡ holds d value
same_holds value c d is = holds_is c value ∙ ap (λ (t : CondTree). tree_holds t value) is ∙ sym (holds_is d value)
