-- Where a goal in computation tree logic is true (Pistore, Traverso 2001; the operators are those
-- of Clarke and Emerson). Truth goes by paths of finitely many steps: "until" on every path asks
-- for one number of steps that serves all paths, and "weak until" speaks of every number of steps.
-- Where each node has finitely many followers and at least one, this is truth over infinite paths.
use Rattle.std.specs.Prelude.{◌⊎◌, ⊤}
use Rattle.ctl_syntax.specs.Goals.{CtlTree, CtlTrees, plain, negation, all, any, implication, ax}
use Rattle.ctl_syntax.specs.Goals.{ex, af, ef, ag, eg, au, eu, aw, ew, no_goal, goal_then}
use Rattle.ctl_syntax.specs.Paths.{SomeNext, EveryPathMeets, SomePathMeets, EveryPathKeeps}
use Rattle.ctl_syntax.specs.Paths.{SomePathKeeps}

-- every node, and none, has it
abbrev pub Anything : {X : Type 0} → X → Type 0
Anything x = ⊤

abbrev pub Nothing : {X : Type 0} → X → Type 0
Nothing x = ⊥

abbrev mutual
  -- the goal is true at a node. `Step x y` says that y follows x, and `Has p x` that the
  -- proposition p holds of x
  pub Satisfies : {P X : Type 0} → (X → X → Type 0) → (P → X → Type 0) → CtlTree P → X → Type 0
  Satisfies Step Has (plain p) x = Has p x
  Satisfies Step Has (negation g) x = Satisfies Step Has g x → ⊥
  Satisfies Step Has (all gs) x = SatisfiesAll Step Has gs x
  Satisfies Step Has (any gs) x = SatisfiesAny Step Has gs x
  Satisfies Step Has (implication g h) x = Satisfies Step Has g x → Satisfies Step Has h x
  Satisfies {P} {X} Step Has (ax g) x = (y : X) → Step x y → Satisfies Step Has g y
  Satisfies Step Has (ex g) x = SomeNext Step (Satisfies Step Has g) x
  Satisfies Step Has (af g) x = EveryPathMeets Step Anything (Satisfies Step Has g) x
  Satisfies Step Has (ef g) x = SomePathMeets Step Anything (Satisfies Step Has g) x
  Satisfies Step Has (ag g) x = EveryPathKeeps Step (Satisfies Step Has g) Nothing x
  Satisfies Step Has (eg g) x = SomePathKeeps Step (Satisfies Step Has g) Nothing x
  Satisfies Step Has (au g h) x =
      EveryPathMeets Step (Satisfies Step Has g) (Satisfies Step Has h) x
  Satisfies Step Has (eu g h) x = SomePathMeets Step (Satisfies Step Has g) (Satisfies Step Has h) x
  Satisfies Step Has (aw g h) x =
      EveryPathKeeps Step (Satisfies Step Has g) (Satisfies Step Has h) x
  Satisfies Step Has (ew g h) x = SomePathKeeps Step (Satisfies Step Has g) (Satisfies Step Has h) x

  -- each of the goals is true
  pub SatisfiesAll : {P X : Type 0} → (X → X → Type 0) → (P → X → Type 0) → CtlTrees P → X → Type 0
  SatisfiesAll Step Has no_goal x = ⊤
  SatisfiesAll Step Has (goal_then g gs) x = Satisfies Step Has g x × SatisfiesAll Step Has gs x

  -- some of the goals is true
  pub SatisfiesAny : {P X : Type 0} → (X → X → Type 0) → (P → X → Type 0) → CtlTrees P → X → Type 0
  SatisfiesAny Step Has no_goal x = ⊥
  SatisfiesAny Step Has (goal_then g gs) x = Satisfies Step Has g x ⊎ SatisfiesAny Step Has gs x
