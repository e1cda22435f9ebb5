-- How deep each kind of condition is: one equation a kind; and the greatest of some numbers.
use Rattle.std.proofs.Common.{◌≡◌, ℕ, ◌+◌, List, [], ◌∷◌, ◌++◌, map, max, sym, ap, ◌∙◌, arith}
use Rattle.std.specs.Prelude.{Vec, Box}
use Rattle.std.specs.declared.alloc.Global.{Global}
use Rattle.task_core.specs.Conditions.{depth, depth_step, greatest}
use Rattle.task_core.specs.declared.literals.FluentId.{FluentId}
use Rattle.task_core.specs.declared.conditions.Cond.{Cond}
use Rattle.task_core.specs.declared.conditions.Cond.TheOpen.{Cond-F}
use Rattle.task_core.specs.declared.conditions.Cond.TheOpen as Open
use Rattle.task_core.specs.declared.conditions.Cond.TheViews.{roll-Cond}
use Rattle.task_core.specs.declared.conditions.Cond.TheFolds.{map-Cond, fold-roll-Cond}
use Rattle.task_core.specs.declared.conditions.Cond.TheVariants.{Yes, No, Is, Not, All, Any, rolls-Yes, rolls-No, rolls-Is, rolls-Not, rolls-All, rolls-Any}

depth_roll : (x : Cond-F Cond) → depth (roll-Cond x) ≡ depth_step (map-Cond Cond ℕ depth x)
depth_roll x = fold-roll-Cond ℕ depth_step x

pub depth_Yes : depth Yes ≡ 1
depth_Yes = ap depth (sym rolls-Yes) ∙ depth_roll Open.Yes

pub depth_No : depth No ≡ 1
depth_No = ap depth (sym rolls-No) ∙ depth_roll Open.No

pub depth_Is : (f : FluentId) → depth (Is f) ≡ 1
depth_Is f = ap depth (sym (rolls-Is f)) ∙ depth_roll (Open.Is f)

pub depth_Not : (part : Box Cond Global) → depth (Not part) ≡ depth part.value
depth_Not part = ap depth (sym (rolls-Not part)) ∙ depth_roll (Open.Not part)

pub depth_All : (parts : Vec Cond Global) → depth (All parts) ≡ 1 + greatest (map depth parts.items)
depth_All parts = ap depth (sym (rolls-All parts)) ∙ depth_roll (Open.All parts)

pub depth_Any : (parts : Vec Cond Global) → depth (Any parts) ≡ 1 + greatest (map depth parts.items)
depth_Any parts = ap depth (sym (rolls-Any parts)) ∙ depth_roll (Open.Any parts)

pub greatest_more : (xs : List ℕ) (x : ℕ) → greatest (xs ++ x ∷ []) ≡ max (greatest xs) x
greatest_more [] x = omega arith
greatest_more (y ∷ ys) x = let h = greatest_more ys x in omega (arith, h)
