-- The marked elements of a list.
use Rattle.std.proofs.Common.{◌≡◌, ℕ, zero, suc, ◌<◌, Bool, true, false, List, [], ◌∷◌, length, get_or, map, refl, ap, subst, arith, ⊎_elim}
use Rattle.std.specs.List.{Contains}
use Rattle.std.proofs.lemmas.Bool.{false≢true}
use Rattle.list_laws.proofs.Elements.{Contains-cases, Contains-cons, Contains-head, Contains-nil}
use Rattle.controller_rules.specs.Serving.{marked}
use Rattle.apart_rules.proofs.Lists.{Pairwise}

-- they are among the elements
pub marked-among : {X : Type 0} (marks : List Bool) (xs : List X) (x : X) → Contains (marked marks xs) x → Contains xs x
marked-among [] xs x c = absurd (Contains-nil x c)
marked-among (mark ∷ marks) [] x c = absurd (Contains-nil x c)
marked-among (true ∷ marks) (y ∷ ys) x c = ⊎_elim
    (λ e. subst (Contains (y ∷ ys)) e (Contains-head y ys))
    (λ d. Contains-cons y ys x (marked-among marks ys x d))
    (Contains-cases y (marked marks ys) x c)
marked-among (false ∷ marks) (y ∷ ys) x c = Contains-cons y ys x (marked-among marks ys x c)

-- an element whose mark is set
pub marked-at : {X : Type 0} (marks : List Bool) (xs : List X) (k : ℕ) (d : X) → k < length xs → get_or marks k false ≡ true → Contains (marked marks xs) (get_or xs k d)
marked-at [] xs k d below is = absurd (false≢true is)
marked-at (mark ∷ marks) [] k d below is = absurd (omega arith)
marked-at (true ∷ marks) (y ∷ ys) zero d below is = Contains-head y (marked marks ys)
marked-at (false ∷ marks) (y ∷ ys) zero d below is = absurd (false≢true is)
marked-at (true ∷ marks) (y ∷ ys) (suc k) d below is = Contains-cons y (marked marks ys) (get_or ys k d) (marked-at marks ys k d (omega arith) is)
marked-at (false ∷ marks) (y ∷ ys) (suc k) d below is = marked-at marks ys k d (omega arith) is

-- the mark of each of them
pub record HasMark {X : Type 0} (marks : List Bool) (xs : List X) (x : X) : Type 0 where
  pub place : ℕ
  pub below : place < length xs
  pub mark : get_or marks place false ≡ true
  pub is : get_or xs place x ≡ x

later : {X : Type 0} (mark : Bool) (marks : List Bool) (y : X) (ys : List X) (x : X) → HasMark marks ys x → HasMark (mark ∷ marks) (y ∷ ys) x
later mark marks y ys x h = let l = h.below in record { place = suc h.place; below = omega arith; mark = h.mark; is = h.is }

pub marked-from : {X : Type 0} (marks : List Bool) (xs : List X) (x : X) → Contains (marked marks xs) x → HasMark marks xs x
marked-from [] xs x c = absurd (Contains-nil x c)
marked-from (mark ∷ marks) [] x c = absurd (Contains-nil x c)
marked-from (true ∷ marks) (y ∷ ys) x c = ⊎_elim
    (λ e. record { place = zero; below = omega arith; mark = refl; is = e })
    (λ d. later true marks y ys x (marked-from marks ys x d))
    (Contains-cases y (marked marks ys) x c)
marked-from (false ∷ marks) (y ∷ ys) x c = later false marks y ys x (marked-from marks ys x c)

pub pairwise-marked : {X : Type 0} (R : X → X → Type 0) (marks : List Bool) (xs : List X) → Pairwise R xs → Pairwise R (marked marks xs)
pairwise-marked R [] xs all = tt
pairwise-marked R (mark ∷ marks) [] all = tt
pairwise-marked R (true ∷ marks) (x ∷ xs) all = (λ y c. all.0 y (marked-among marks xs y c), pairwise-marked R marks xs all.1)
pairwise-marked R (false ∷ marks) (x ∷ xs) all = pairwise-marked R marks xs all.1

pub map-marked : {X Y : Type 0} (f : X → Y) (marks : List Bool) (xs : List X) → map f (marked marks xs) ≡ marked marks (map f xs)
map-marked f [] xs = refl
map-marked f (mark ∷ marks) [] = refl
map-marked f (true ∷ marks) (x ∷ xs) = ap (λ ys. f x ∷ ys) (map-marked f marks xs)
map-marked f (false ∷ marks) (x ∷ xs) = map-marked f marks xs
