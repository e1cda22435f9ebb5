-- How the variables in scope are held, so that what a name means is found without a walk through
-- them: beside the variables, for each name that has been in scope, the number of the variable that
-- it means now.
use Rattle.std.specs.Prelude.{◌≡◌, ℕ, List, [], ◌∷◌, Option, None, map, reverse}
use Rattle.std.specs.Option.{unwrap_or}
use Rattle.std.specs.Str.{bytes_eq}
use Rattle.std.specs.Map.{lookup}
use Rattle.std.specs.declared.vec.Vec.{Vec}
use Rattle.std.specs.declared.alloc.Global.{Global}
use Rattle.pddl_ast.specs.Known.{number_from_inside, variable_number}
use Rattle.pddl_ast.specs.declared.scope.Variable.{Variable}

-- what a table says that names mean
abbrev pub Table : Type 0
Table = List (Vec ℕ Global × Option ℕ)

-- what the table holds of a name, where it holds something
abbrev pub table_entry : Table → List ℕ → Option (Option ℕ)
table_entry table name = lookup (λ (k : Vec ℕ Global). bytes_eq name k.items) table

-- the number of the variable that a name means, where it means one
abbrev pub meaning : Table → List ℕ → Option ℕ
meaning table name = unwrap_or (table_entry table name) None

-- the names of variables
abbrev pub names_in : List Variable → List (List ℕ)
names_in variables = map (λ v. v.name) variables

-- each variable knows what its name means outside it. Here the innermost is first
abbrev pub KnowHidden : List Variable → Type 0
KnowHidden [] = Unit {0}
KnowHidden (inner ∷ outer) =
    (inner.hidden ≡ number_from_inside (names_in outer) inner.name) × KnowHidden outer

-- the table says of each name what it means, and can say so again when variables leave
pub record Tells (variables : List Variable) (table : Table) : Type 0 where
  pub hidden : KnowHidden (reverse variables)
  pub means : (name : List ℕ) → meaning table name ≡ variable_number (names_in variables) name
