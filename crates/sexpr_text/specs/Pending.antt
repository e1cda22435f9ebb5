-- What the reader holds between two bytes: the groups that are open, and the forms read so far.
use Rattle.std.specs.Prelude.{ℕ, List, map}
use Rattle.sexpr_text.specs.declared.forms.Place.{Place}
use Rattle.sexpr_text.specs.declared.nest.Open.{Open}
use Rattle.sexpr_text.specs.declared.nest.Nest.{Nest}
use Rattle.sexpr_text.specs.Forest.{Forest, forest_of}

-- an open parenthesis, with the trees that stand before it in its list
pub record Pending : Type 0 where
  pub start : ℕ
  pub place : Place
  pub before : Forest

abbrev pub pending_of : Open → Pending
pending_of o = record { start = o.start; place = o.place; before = forest_of o.before.items }

-- the open parentheses, the outermost first
abbrev pub pending_in : Nest → List Pending
pending_in nest = map pending_of nest.pending.items

-- the trees since the innermost open parenthesis, or since the start
abbrev pub trees_in : Nest → Forest
trees_in nest = forest_of nest.parts.items
