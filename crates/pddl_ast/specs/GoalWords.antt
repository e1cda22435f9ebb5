-- What words mean at the head of a list in a goal in computation tree logic.
use Rattle.std.specs.Prelude.{Bool, true, false, ℕ, if◌then◌else◌, List, codes}
use Rattle.std.specs.Str.{bytes_eq}
use Rattle.pddl_ast.specs.declared.trees.UnaryOperator.TheVariants.{Ax, Ex, Af, Ef, Ag, Eg}
use Rattle.pddl_ast.specs.declared.trees.BinaryOperator.TheVariants.{Au, Eu, Aw, Ew}
use Rattle.pddl_ast.specs.declared.goal_words.GoalWord.{GoalWord}
use Rattle.pddl_ast.specs.declared.goal_words.GoalWord.TheVariants.{Unary, Binary, And, Or, Not}
use Rattle.pddl_ast.specs.declared.goal_words.GoalWord.TheVariants.{Imply, Quantifier, Plain}

-- the ten operators, the words under which operators may stand, and the quantifiers. Every other
-- word begins a formula
unfoldable pub goal_word : List ℕ → GoalWord
goal_word w =
    if bytes_eq w (codes "ax") then Unary Ax
    else if bytes_eq w (codes "ex") then Unary Ex
    else if bytes_eq w (codes "af") then Unary Af
    else if bytes_eq w (codes "ef") then Unary Ef
    else if bytes_eq w (codes "ag") then Unary Ag
    else if bytes_eq w (codes "eg") then Unary Eg
    else if bytes_eq w (codes "au") then Binary Au
    else if bytes_eq w (codes "eu") then Binary Eu
    else if bytes_eq w (codes "aw") then Binary Aw
    else if bytes_eq w (codes "ew") then Binary Ew
    else if bytes_eq w (codes "and") then And
    else if bytes_eq w (codes "or") then Or
    else if bytes_eq w (codes "not") then Not
    else if bytes_eq w (codes "imply") then Imply
    else if bytes_eq w (codes "exists") then Quantifier
    else if bytes_eq w (codes "forall") then Quantifier
    else Plain

-- whether a meaning is an operator's
abbrev pub names_operator : GoalWord → Bool
names_operator (Unary operator) = true
names_operator (Binary operator) = true
names_operator _ = false

-- whether a word is an operator
abbrev pub is_operator : List ℕ → Bool
is_operator w = names_operator (goal_word w)
