-- Effects layer by layer.
use Rattle.std.proofs.Common.{◌≡◌, ℕ, List, ap, map, sym, ◌∙◌}
use Rattle.std.specs.Prelude.{Vec, Box}
use Rattle.std.specs.declared.alloc.Global.{Global}
use Rattle.pddl_ast.specs.Trees.{EffectTree, add, delete, both, one_of, only_when, each, effect_row}
use Rattle.pddl_ast.specs.Values.{effect_step, effect_value, formula_value}
use Rattle.smallvec.specs.SmallVec.{SmallVec}
use Rattle.pddl_ast.specs.declared.trees.Term.{Term}
use Rattle.pddl_ast.specs.declared.trees.Formula.{Formula}
use Rattle.pddl_ast.specs.declared.trees.Effect.{Effect}
use Rattle.pddl_ast.specs.declared.trees.Effect.TheOpen as Open
use Rattle.pddl_ast.specs.declared.trees.Effect.TheVariants as Shut
use Rattle.pddl_ast.specs.declared.trees.Effect.TheFolds.{fold-roll-Effect}

effect_Add : (p : ℕ) (terms : SmallVec Term) → effect_value (Shut.Add p terms) ≡ add p terms.items
effect_Add p terms = ap effect_value (sym (Shut.rolls-Add p terms)) ∙ fold-roll-Effect EffectTree effect_step (Open.Add p terms)

effect_Delete : (p : ℕ) (terms : SmallVec Term) → effect_value (Shut.Delete p terms) ≡ delete p terms.items
effect_Delete p terms = ap effect_value (sym (Shut.rolls-Delete p terms)) ∙ fold-roll-Effect EffectTree effect_step (Open.Delete p terms)

effect_Both : (parts : Vec Effect Global) → effect_value (Shut.Both parts) ≡ both (effect_row (map effect_value parts.items))
effect_Both parts = ap effect_value (sym (Shut.rolls-Both parts)) ∙ fold-roll-Effect EffectTree effect_step (Open.Both parts)

effect_OneOf : (parts : Vec Effect Global) → effect_value (Shut.OneOf parts) ≡ one_of (effect_row (map effect_value parts.items))
effect_OneOf parts = ap effect_value (sym (Shut.rolls-OneOf parts)) ∙ fold-roll-Effect EffectTree effect_step (Open.OneOf parts)

effect_When : (f : Formula) (part : Box Effect Global) → effect_value (Shut.When f part) ≡ only_when (formula_value f) (effect_value part.value)
effect_When f part = ap effect_value (sym (Shut.rolls-When f part)) ∙ fold-roll-Effect EffectTree effect_step (Open.When f part)

effect_Each : (types : Vec ℕ Global) (part : Box Effect Global) → effect_value (Shut.Each types part) ≡ each types.items (effect_value part.value)
effect_Each types part = ap effect_value (sym (Shut.rolls-Each types part)) ∙ fold-roll-Effect EffectTree effect_step (Open.Each types part)

-- the tree of an effect of a known kind, whose parts may be given by other names
pub is_Add : (e : Effect) (p : ℕ) (terms : SmallVec Term) (given : List Term) → e ≡ Shut.Add p terms → given ≡ terms.items → effect_value e ≡ add p given
is_Add e p terms given is same = ap effect_value is ∙ effect_Add p terms ∙ ap (add p) (sym same)

pub is_Delete : (e : Effect) (p : ℕ) (terms : SmallVec Term) (given : List Term) → e ≡ Shut.Delete p terms → given ≡ terms.items → effect_value e ≡ delete p given
is_Delete e p terms given is same = ap effect_value is ∙ effect_Delete p terms ∙ ap (delete p) (sym same)

pub is_Both : (e : Effect) (parts : Vec Effect Global) (given : List Effect) → e ≡ Shut.Both parts → given ≡ parts.items → effect_value e ≡ both (effect_row (map effect_value given))
is_Both e parts given is same = ap effect_value is ∙ effect_Both parts ∙ ap (λ es. both (effect_row (map effect_value es))) (sym same)

pub is_OneOf : (e : Effect) (parts : Vec Effect Global) (given : List Effect) → e ≡ Shut.OneOf parts → given ≡ parts.items → effect_value e ≡ one_of (effect_row (map effect_value given))
is_OneOf e parts given is same = ap effect_value is ∙ effect_OneOf parts ∙ ap (λ es. one_of (effect_row (map effect_value es))) (sym same)

pub is_When : (e : Effect) (f : Formula) (part : Box Effect Global) (inner : Effect) → e ≡ Shut.When f part → inner ≡ part.value → effect_value e ≡ only_when (formula_value f) (effect_value inner)
is_When e f part inner is same = ap effect_value is ∙ effect_When f part ∙ ap (λ x. only_when (formula_value f) (effect_value x)) (sym same)

pub is_Each : (e : Effect) (types : Vec ℕ Global) (part : Box Effect Global) (given : List ℕ) (inner : Effect) → e ≡ Shut.Each types part → given ≡ types.items → inner ≡ part.value → effect_value e ≡ each given (effect_value inner)
is_Each e types part given inner is listed same =
    ap effect_value is ∙ effect_Each types part ∙ ap (λ x. each types.items (effect_value x)) (sym same) ∙ ap (λ ts. each ts (effect_value inner)) (sym listed)
