-- Paths of a relation. The nodes are of any kind X, and `Step x y` says that y follows x.
use Rattle.std.specs.Prelude.{List, [], ◌∷◌, ⊤}

-- x and then the nodes of the list are a path: each follows the one before. It has as many steps as
-- the list has nodes
abbrev pub IsPath : {X : Type 0} → (X → X → Type 0) → X → List X → Type 0
IsPath Step x [] = ⊤
IsPath Step x (y ∷ rest) = Step x y × IsPath Step y rest

-- the last node of that path
abbrev pub last_of : {X : Type 0} → X → List X → X
last_of x [] = x
last_of x (y ∷ rest) = last_of y rest
