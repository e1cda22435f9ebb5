-- How many nodes the reduced diagrams of some functions have, counted by functions and not by
-- nodes.
use Rattle.std.specs.Prelude.{◌≡◌, ℕ, zero, suc, ◌+◌, ◌<◌, ◌≤◌, Bool, true, false, not}
use Rattle.std.specs.Prelude.{if◌then◌else◌, List, [], ◌∷◌, ◌++◌, length, map, flat_map, filter}
use Rattle.std.specs.Prelude.{slice_index_or}
use Rattle.std.specs.List.{list_any, list_all}
use mathlib.Core.Bool.{beq}
use Rattle.dd_nodes.specs.declared.node.Node.{Node}
use Rattle.dd_nodes.specs.NodeList.{Values, function}

-- a function of truth values
abbrev pub Function : Type 0
Function = Values → Bool

-- these values for the first variables, and the others from `values`
abbrev pub with_first : List Bool → Values → Values
with_first first values v = slice_index_or first v (values v)

-- what a function becomes when its first variables are fixed at these values
abbrev pub fixed : List Bool → Function → Function
fixed first f values = f (with_first first values)

-- g is a subfunction of f: f with the variables below k fixed, for some k and some values
pub record IsSubfunction (vars : ℕ) (f g : Function) : Type 0 where
  pub first : List Bool
  pub few : length first ≤ vars
  pub fixes : (values : Values) → g values ≡ fixed first f values

-- a function depends on no variables but those from low on and below vars
abbrev pub DependsOnly : ℕ → ℕ → Function → Type 0
DependsOnly low vars f = (s t : Values) → ((u : ℕ) → low ≤ u → u < vars → s u ≡ t u) → f s ≡ f t

-- all lists of n truth values
unfoldable pub lists : ℕ → List (List Bool)
lists zero = [] ∷ []
lists (suc n) = map (λ rest. false ∷ rest) (lists n) ++ map (λ rest. true ∷ rest) (lists n)

-- all lists of at most n truth values
unfoldable pub lists_up_to : ℕ → List (List Bool)
lists_up_to zero = [] ∷ []
lists_up_to (suc n) = lists_up_to n ++ lists (suc n)

-- the subfunctions of a function, some more than once
abbrev pub subfunctions : ℕ → Function → List Function
subfunctions vars f = map (λ first. fixed first f) (lists_up_to vars)

-- whether two functions agree at each list of truth values for the first `vars` variables, all
-- later variables being false. Functions of the first `vars` variables alone agree exactly where
-- they are equal, as those of the numbers of a reduced list do
abbrev pub agree : ℕ → Function → Function → Bool
agree vars f g =
    list_all (λ first. beq (fixed first f (λ _. false)) (fixed first g (λ _. false))) (lists vars)

-- how many different functions a list has
unfoldable pub count_different : ℕ → List Function → ℕ
count_different vars [] = 0
count_different vars (f ∷ fs) =
    if list_any (agree vars f) fs then count_different vars fs else count_different vars fs + 1

-- how many different subfunctions some functions have, those aside that agree with a known function
unfoldable pub nodes_beside : ℕ → List Function → List Function → ℕ
nodes_beside vars known fs =
    count_different vars
    (filter (λ g. not (list_any (agree vars g) known)) (flat_map (subfunctions vars) fs))

-- the two constant functions
abbrev pub constants : List Function
constants = (λ _. false) ∷ (λ _. true) ∷ []

-- how many nodes the reduced diagram of some functions has: the number of their different
-- subfunctions, constants aside
abbrev pub nodes : ℕ → List Function → ℕ
nodes vars fs = nodes_beside vars constants fs

-- the functions of the numbers below n
unfoldable pub functions_below : List Node → ℕ → List Function
functions_below list zero = []
functions_below list (suc n) = functions_below list n ++ function list n ∷ []

-- the functions of all numbers of a list, the constants first
abbrev pub functions : List Node → List Function
functions list = functions_below list (length list + 2)
