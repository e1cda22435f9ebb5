-- Paths of a relation: one step more at their end, two of them put together, and what stays along
-- them.
use Rattle.std.proofs.Common.{◌≡◌, List, [], ◌∷◌, ◌++◌, refl}
use Rattle.task_core.specs.Paths.{IsPath, last_of}

module _ {X : Type 0} (Step : X → X → Type 0) where
  pub path_onward : (x : X) (rest : List X) (y : X) → IsPath Step x rest → Step (last_of x rest) y → IsPath Step x (rest ++ y ∷ [])
  path_onward x [] y path step = (step, tt)
  path_onward x (z ∷ rest) y path step = (path.0, path_onward z rest y path.1 step)

  pub path_append : (x : X) (xs ys : List X) → IsPath Step x xs → IsPath Step (last_of x xs) ys → IsPath Step x (xs ++ ys)
  path_append x [] ys first second = second
  path_append x (z ∷ xs) ys first second = (first.0, path_append z xs ys first.1 second)

  -- what holds of the first node, and stays along a step, holds of the last one
  pub path_keeps : (P : X → Type 0) → ((x y : X) → P x → Step x y → P y) → (x : X) (rest : List X) → P x → IsPath Step x rest → P (last_of x rest)
  path_keeps P next x [] here path = here
  path_keeps P next x (y ∷ rest) here path = path_keeps P next y rest (next x y here path.0) path.1

pub last_onward : {X : Type 0} (x : X) (rest : List X) (y : X) → last_of x (rest ++ y ∷ []) ≡ y
last_onward x [] y = refl
last_onward x (z ∷ rest) y = last_onward z rest y

pub last_append : {X : Type 0} (x : X) (xs ys : List X) → last_of x (xs ++ ys) ≡ last_of (last_of x xs) ys
last_append x [] ys = refl
last_append x (z ∷ xs) ys = last_append z xs ys
