-- Goals in computation tree logic as plain trees. What they say of a single node, without
-- operators, is a proposition of any kind P.
use Rattle.std.specs.Prelude.{List, [], ◌∷◌, ⊤}

-- a goal, and a list of goals. An operator's letter a or e says "on every path" or "on some path",
-- and the letters x, f, g, u and w are next, finally, globally, until and weak until
mutual
  pub data CtlTree (P : Type 0) : Type 0 where
    plain : P → CtlTree P
    negation : CtlTree P → CtlTree P
    all : CtlTrees P → CtlTree P
    any : CtlTrees P → CtlTree P
    implication : CtlTree P → CtlTree P → CtlTree P
    ax : CtlTree P → CtlTree P
    ex : CtlTree P → CtlTree P
    af : CtlTree P → CtlTree P
    ef : CtlTree P → CtlTree P
    ag : CtlTree P → CtlTree P
    eg : CtlTree P → CtlTree P
    au : CtlTree P → CtlTree P → CtlTree P
    eu : CtlTree P → CtlTree P → CtlTree P
    aw : CtlTree P → CtlTree P → CtlTree P
    ew : CtlTree P → CtlTree P → CtlTree P

  pub data CtlTrees (P : Type 0) : Type 0 where
    no_goal : CtlTrees P
    goal_then : CtlTree P → CtlTrees P → CtlTrees P

abbrev pub goal_row : {P : Type 0} → List (CtlTree P) → CtlTrees P
goal_row [] = no_goal
goal_row (g ∷ gs) = goal_then g (goal_row gs)

abbrev mutual
  -- each plain part of the goal has the property
  pub EachPlain : {P : Type 0} → (P → Type 0) → CtlTree P → Type 0
  EachPlain Q (plain p) = Q p
  EachPlain Q (negation g) = EachPlain Q g
  EachPlain Q (all gs) = EachPlainOf Q gs
  EachPlain Q (any gs) = EachPlainOf Q gs
  EachPlain Q (implication g h) = EachPlain Q g × EachPlain Q h
  EachPlain Q (ax g) = EachPlain Q g
  EachPlain Q (ex g) = EachPlain Q g
  EachPlain Q (af g) = EachPlain Q g
  EachPlain Q (ef g) = EachPlain Q g
  EachPlain Q (ag g) = EachPlain Q g
  EachPlain Q (eg g) = EachPlain Q g
  EachPlain Q (au g h) = EachPlain Q g × EachPlain Q h
  EachPlain Q (eu g h) = EachPlain Q g × EachPlain Q h
  EachPlain Q (aw g h) = EachPlain Q g × EachPlain Q h
  EachPlain Q (ew g h) = EachPlain Q g × EachPlain Q h

  -- each plain part of each of the goals has it
  pub EachPlainOf : {P : Type 0} → (P → Type 0) → CtlTrees P → Type 0
  EachPlainOf Q no_goal = ⊤
  EachPlainOf Q (goal_then g gs) = EachPlain Q g × EachPlainOf Q gs

abbrev mutual
  -- the goal in which f p stands in the place of each plain part p
  pub map_plain : {P R : Type 0} → (P → R) → CtlTree P → CtlTree R
  map_plain f (plain p) = plain (f p)
  map_plain f (negation g) = negation (map_plain f g)
  map_plain f (all gs) = all (map_plain_of f gs)
  map_plain f (any gs) = any (map_plain_of f gs)
  map_plain f (implication g h) = implication (map_plain f g) (map_plain f h)
  map_plain f (ax g) = ax (map_plain f g)
  map_plain f (ex g) = ex (map_plain f g)
  map_plain f (af g) = af (map_plain f g)
  map_plain f (ef g) = ef (map_plain f g)
  map_plain f (ag g) = ag (map_plain f g)
  map_plain f (eg g) = eg (map_plain f g)
  map_plain f (au g h) = au (map_plain f g) (map_plain f h)
  map_plain f (eu g h) = eu (map_plain f g) (map_plain f h)
  map_plain f (aw g h) = aw (map_plain f g) (map_plain f h)
  map_plain f (ew g h) = ew (map_plain f g) (map_plain f h)

  pub map_plain_of : {P R : Type 0} → (P → R) → CtlTrees P → CtlTrees R
  map_plain_of f no_goal = no_goal
  map_plain_of f (goal_then g gs) = goal_then (map_plain f g) (map_plain_of f gs)
