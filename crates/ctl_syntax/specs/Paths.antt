-- What the operators of computation tree logic ask of paths (Pistore, Traverso 2001). The nodes are
-- of any kind X; `Step x y` says that y follows x. A path has one step fewer than nodes.
use Rattle.std.specs.Prelude.{◌≡◌, ◌⊎◌, ◌<◌, ℕ, List, ◌∷◌, length, slice_get, Some}
use Rattle.task_core.specs.Paths.{IsPath}

-- some place of the path has H, and each earlier place has G
pub record Meets {X : Type 0} (G H : X → Type 0) (path : List X) : Type 0 where
  pub place : ℕ
  pub node : X
  pub is : slice_get path place ≡ Some node
  pub has : H node
  pub before : (k : ℕ) (y : X) → k < place → slice_get path k ≡ Some y → G y

-- each place of the path has G
pub record Keeps {X : Type 0} (G : X → Type 0) (path : List X) : Type 0 where
  pub each : (k : ℕ) (y : X) → slice_get path k ≡ Some y → G y

-- some node that follows x has G
pub record SomeNext {X : Type 0} (Step : X → X → Type 0) (G : X → Type 0) (x : X) : Type 0 where
  pub node : X
  pub follows : Step x node
  pub has : G node

-- there is a number n such that every path of n steps from x meets G until H
pub record EveryPathMeets {X : Type 0} (Step : X → X → Type 0) (G H : X → Type 0)
    (x : X) : Type 0 where
  pub steps : ℕ
  pub meets : (rest : List X) → length rest ≡ steps → IsPath Step x rest → Meets G H (x ∷ rest)

-- some path from x meets G until H
pub record SomePathMeets {X : Type 0} (Step : X → X → Type 0) (G H : X → Type 0)
    (x : X) : Type 0 where
  pub rest : List X
  pub path : IsPath Step x rest
  pub meets : Meets G H (x ∷ rest)

-- the path meets G until H, or keeps G
abbrev pub MeetsOrKeeps : {X : Type 0} → (X → Type 0) → (X → Type 0) → List X → Type 0
MeetsOrKeeps G H path = Meets G H path ⊎ Keeps G path

-- for every n every path of n steps from x meets G until H or keeps G
abbrev pub EveryPathKeeps : {X : Type 0} → (X → X → Type 0) → (X → Type 0) → (X → Type 0) → X
    → Type 0
EveryPathKeeps {X} Step G H x =
    (n : ℕ) (rest : List X) → length rest ≡ n → IsPath Step x rest → MeetsOrKeeps G H (x ∷ rest)

-- a path of n steps from x meets G until H or keeps G
pub record PathKeeps {X : Type 0} (Step : X → X → Type 0) (G H : X → Type 0) (x : X)
    (n : ℕ) : Type 0 where
  pub rest : List X
  pub long : length rest ≡ n
  pub path : IsPath Step x rest
  pub keeps : MeetsOrKeeps G H (x ∷ rest)

-- for every n some path of n steps from x meets G until H or keeps G
abbrev pub SomePathKeeps : {X : Type 0} → (X → X → Type 0) → (X → Type 0) → (X → Type 0) → X
    → Type 0
SomePathKeeps Step G H x = (n : ℕ) → PathKeeps Step G H x n
