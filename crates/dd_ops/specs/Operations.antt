-- The operations on functions of truth values.
use Rattle.std.specs.Prelude.{ℕ, ◌==◌, Bool, not, ◌&&◌, ◌||◌, List, Option, if◌then◌else◌}
use Rattle.std.specs.Prelude.{option_map, find}
use Rattle.std.specs.Option.{option_map_or}
use Rattle.dd_nodes.specs.declared.node.Node.{Node}
use Rattle.dd_nodes.specs.declared.node.Ref.{Ref}
use Rattle.dd_nodes.specs.NodeList.{Values, with_value, function}
use Rattle.dd_nodes.specs.Subfunctions.{Function}

-- the value of a variable
abbrev pub variable : ℕ → Function
variable v values = values v

abbrev pub not_of : Function → Function
not_of f values = not (f values)

abbrev pub and_of : Function → Function → Function
and_of f g values = f values && g values

abbrev pub or_of : Function → Function → Function
or_of f g values = f values || g values

-- f and not g
abbrev pub minus_of : Function → Function → Function
minus_of f g values = f values && not (g values)

-- g where f is true, and h where it is false
abbrev pub ite_of : Function → Function → Function → Function
ite_of f g h values = if f values then g values else h values

-- f with variable v fixed
abbrev pub cofactor_of : Function → ℕ → Bool → Function
cofactor_of f v b values = f (with_value values v b)

-- the number that a list gives a variable, if it lists the variable; of two entries for a variable
-- the first counts
abbrev pub listed : List (ℕ × Ref) → ℕ → Option Ref
listed map v = option_map (λ entry. entry.1) (find (λ entry. entry.0 == v) map)

-- the values in which each listed variable has the value of its function
abbrev pub replaced : List Node → List (ℕ × Ref) → Values → Values
replaced nodes map values v =
    option_map_or (λ g. function nodes g.0 values) (listed map v) (values v)

-- f with all listed variables replaced at once
abbrev pub subst_of : List Node → List (ℕ × Ref) → Function → Function
subst_of nodes map f values = f (replaced nodes map values)
