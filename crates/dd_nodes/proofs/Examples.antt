-- The definitions at work on small diagrams.
use Rattle.std.proofs.Common.{◌≡◌, Bool, true, false, ◌&&◌, ◌||◌, cond, List, [], ◌∷◌, Some, None, slice_index_or, refl, not}
use Rattle.dd_nodes.specs.declared.node.Node.{Node}
use Rattle.dd_nodes.specs.NodeList.{Values, node_at, walk, function, values_of_bits}
use Rattle.dd_nodes.specs.Subfunctions.{Function, fixed, lists, lists_up_to, agree, count_different, nodes_beside, nodes, functions_below, functions}

-- two nodes: number 2 is variable 1, and number 3 is variable 0 and variable 1
both : List Node
both = record { var = 1; lo = record { 0 = 0 }; hi = record { 0 = 1 } } ∷ record { var = 0; lo = record { 0 = 0 }; hi = record { 0 = 2 } } ∷ []

-- these values for the first variables, and false for the others
listed : List Bool → Values
listed values v = slice_index_or values v false

at_constant : node_at both 1 ≡ None
unfolding both
at_constant = refl

at_node : node_at both 2 ≡ Some (record { var = 1; lo = record { 0 = 0 }; hi = record { 0 = 1 } })
unfolding both
at_node = refl

both_true : function both 3 (listed (true ∷ true ∷ [])) ≡ true
unfolding both function walk listed
both_true = refl

first_false : function both 3 (listed (false ∷ true ∷ [])) ≡ false
unfolding both function walk listed
first_false = refl

second_alone : function both 2 (listed (false ∷ true ∷ [])) ≡ true
unfolding both function walk listed
second_alone = refl

-- bit 1 of the first word is set, and bit 0 of the third
bit_of_first_word : values_of_bits (2 ∷ 0 ∷ 1 ∷ 0 ∷ []) 1 ≡ true
bit_of_first_word = refl

bit_of_third_word : values_of_bits (2 ∷ 0 ∷ 1 ∷ 0 ∷ []) 128 ≡ true
bit_of_third_word = refl

clear_bit : values_of_bits (2 ∷ 0 ∷ 1 ∷ 0 ∷ []) 129 ≡ false
clear_bit = refl

-- the lists of two truth values
two_values : lists 2 ≡ (false ∷ false ∷ []) ∷ (false ∷ true ∷ []) ∷ (true ∷ false ∷ []) ∷ (true ∷ true ∷ []) ∷ []
unfolding lists
two_values = refl

-- variable 0 and variable 1, fixed at true for variable 0, is variable 1
and_function : Function
and_function values = values 0 && values 1

and_fixed : agree 2 (fixed (true ∷ []) and_function) (λ values. values 1) ≡ true
unfolding lists and_function
and_fixed = refl

-- its diagram has two nodes, the constants have none, and exclusive or over three variables has
-- five
nodes_of_and : nodes 2 (and_function ∷ []) ≡ 2
unfolding lists lists_up_to count_different nodes_beside and_function
nodes_of_and = refl

nodes_of_constant : nodes 2 ((λ _. true) ∷ []) ≡ 0
unfolding lists lists_up_to count_different nodes_beside
nodes_of_constant = refl

exclusive_or : Bool → Bool → Bool
exclusive_or a b = cond a (not b) b

nodes_of_parity : nodes 3 ((λ values. exclusive_or (values 0) (exclusive_or (values 1) (values 2))) ∷ []) ≡ 5
unfolding lists lists_up_to count_different nodes_beside exclusive_or
nodes_of_parity = refl

-- the nodes that two functions share are counted once
nodes_of_two : nodes 2 (and_function ∷ (λ values. values 1) ∷ []) ≡ 2
unfolding lists lists_up_to count_different nodes_beside and_function
nodes_of_two = refl

-- beside the functions of `both`, variable 0 or variable 1 needs one node more
nodes_of_or : nodes_beside 2 (functions both) ((λ values. values 0 || values 1) ∷ []) ≡ 1
unfolding lists lists_up_to count_different nodes_beside both function walk functions_below
nodes_of_or = refl
