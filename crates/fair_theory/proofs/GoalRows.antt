-- The row of some goals in which other propositions stand.
use Rattle.std.proofs.Common.{◌≡◌, List, [], ◌∷◌, map, refl, ap}
use Rattle.ctl_syntax.specs.Goals.{CtlTree, all, ag, goal_row, goal_then, map_plain, map_plain_of}

rows : {P R : Type 0} (f : P → R) (gs : List (CtlTree P)) → map_plain_of f (goal_row gs) ≡ goal_row (map (map_plain f) gs)
rows f [] = refl
rows f (g ∷ gs) = ap (goal_then (map_plain f g)) (rows f gs)

pub kept_rows : {P R : Type 0} (f : P → R) (gs : List (CtlTree P)) → map_plain f (ag (all (goal_row gs))) ≡ ag (all (goal_row (map (map_plain f) gs)))
kept_rows f gs = ap (λ row. ag (all row)) (rows f gs)
