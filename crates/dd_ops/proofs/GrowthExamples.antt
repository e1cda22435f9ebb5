-- The definitions at work on functions of two variables.
use Rattle.std.proofs.Common.{◌≡◌, ◌==◌, true, false, List, [], ◌∷◌, refl, if◌then◌else◌}
use Rattle.dd_nodes.specs.declared.node.Node.{Node}
use Rattle.dd_nodes.specs.NodeList.{walk, function}
use Rattle.dd_nodes.specs.Subfunctions.{Function, lists, lists_up_to, count_different, nodes_beside, functions_below}
use Rattle.dd_ops.specs.Operations.{variable, and_of, or_of}
use Rattle.dd_ops.specs.Growth.{grow, depends_on, subst_pieces}

both : Function
both = and_of (variable 0) (variable 1)

either : Function
either = or_of (variable 0) (variable 1)

-- two nodes: number 2 is variable 1, and number 3 is variable 0 and variable 1
nodes_of_both : List Node
nodes_of_both = record { var = 1; lo = record { 0 = 0 }; hi = record { 0 = 1 } } ∷ record { var = 0; lo = record { 0 = 0 }; hi = record { 0 = 2 } } ∷ []

-- an empty table grows by two nodes for `both`; one that has them grows by one for `either`, and by
-- none for variable 1
grow_from_empty : grow 2 [] (both ∷ []) ≡ 2
unfolding both lists lists_up_to count_different nodes_beside function walk functions_below
grow_from_empty = refl

grow_by_one : grow 2 nodes_of_both (either ∷ []) ≡ 1
unfolding either nodes_of_both lists lists_up_to count_different nodes_beside function walk functions_below
grow_by_one = refl

grow_by_none : grow 2 nodes_of_both (variable 1 ∷ []) ≡ 0
unfolding nodes_of_both lists lists_up_to count_different nodes_beside function walk functions_below
grow_by_none = refl

depends_on_both : depends_on 2 both 1 ≡ true
unfolding both lists
depends_on_both = refl

depends_on_other : depends_on 2 (variable 1) 0 ≡ false
unfolding lists
depends_on_other = refl

-- variable 1 for variable 0 in `both` is variable 1: one node
grow_of_one_variable : grow 2 [] (subst_pieces 2 both (λ v. v == 0) (λ values v. if v == 0 then values 1 else values v)) ≡ 1
unfolding both subst_pieces lists lists_up_to count_different nodes_beside function walk functions_below
grow_of_one_variable = refl

-- both variables exchanged: `both`, variable 1 and, for number 2, variable 0
grow_of_exchange : grow 2 [] (subst_pieces 2 both (λ _. true) (λ values v. if v == 0 then values 1 else values 0)) ≡ 3
unfolding both subst_pieces lists lists_up_to count_different nodes_beside function walk functions_below
grow_of_exchange = refl
