-- The tree that each kind of formula and effect stands for: one equation a kind.
use Rattle.std.proofs.Common.{◌≡◌, ℕ, sym, ◌∙◌, ap}
use Rattle.std.specs.Prelude.{Vec, Box}
use Rattle.std.specs.declared.alloc.Global.{Global}
use Rattle.pddl_ast.specs.declared.trees.Formula.{Formula}
use Rattle.pddl_ast.specs.declared.trees.Formula.TheOpen as Open
use Rattle.pddl_ast.specs.declared.trees.Formula.TheFolds.{fold-roll-Formula}
use Rattle.pddl_ast.specs.declared.trees.Formula.TheVariants.{Exists, Forall, rolls-Exists, rolls-Forall}
use Rattle.pddl_ast.specs.declared.trees.Effect.{Effect}
use Rattle.pddl_ast.specs.declared.trees.Effect.TheOpen as OpenEffect
use Rattle.pddl_ast.specs.declared.trees.Effect.TheFolds.{fold-roll-Effect}
use Rattle.pddl_ast.specs.declared.trees.Effect.TheVariants.{Each, rolls-Each}
use Rattle.pddl_ast.specs.Trees.{FormulaTree, exists, forall, EffectTree, each}
use Rattle.pddl_ast.specs.Values.{formula_step, formula_value, effect_step, effect_value}

pub value_Exists : (types : Vec ℕ Global) (part : Box Formula Global) → formula_value (Exists types part) ≡ exists types.items (formula_value part.value)
value_Exists types part = ap formula_value (sym (rolls-Exists types part)) ∙ fold-roll-Formula FormulaTree formula_step (Open.Exists types part)

pub value_Forall : (types : Vec ℕ Global) (part : Box Formula Global) → formula_value (Forall types part) ≡ forall types.items (formula_value part.value)
value_Forall types part = ap formula_value (sym (rolls-Forall types part)) ∙ fold-roll-Formula FormulaTree formula_step (Open.Forall types part)

pub value_Each : (types : Vec ℕ Global) (part : Box Effect Global) → effect_value (Each types part) ≡ each types.items (effect_value part.value)
value_Each types part = ap effect_value (sym (rolls-Each types part)) ∙ fold-roll-Effect EffectTree effect_step (OpenEffect.Each types part)
