-- Until-chains: reach one stage after another, staying in a guard until each is reached, and then
-- keep a condition for ever. An until-chain is
--   (ag q), that q holds from now on,
--   (af p) or (au g p), that p comes about, or
--   (af (and p1 .. pk rest)) or (au g (and p1 .. pk rest)) with k at least 1, that p1 to pk come
--   about at once, where the until-chain after them is true.
-- The g, p and q are without operators. Until that comes about, g holds; `af` asks for nothing until
-- then. An until-chain without guards is a chain.
use Rattle.std.specs.Prelude.{List, [], ◌∷◌, Option, None, Some, map}
use Rattle.std.specs.Option.{option_map}
use Rattle.ctl_syntax.specs.Goals.{CtlTree, CtlTrees, plain, all, af, ag, au, no_goal, goal_then}

-- a stage: the proposition that holds until it is reached, none after `af`, and the propositions
-- that it asks for at once
pub record PlainStage (P : Type 0) : Type 0 where
  pub guard : Option P
  pub targets : List P

-- the parts of an until-chain: its stages, in order, and the proposition that is kept; none is kept
-- where the goal ends with `(af p)` or `(au g p)`
pub record PlainUntil (P : Type 0) : Type 0 where
  pub stages : List (PlainStage P)
  pub keep : Option P

-- the propositions that a stage asks for, and the parts of the until-chain after them
pub record TargetsThen (P : Type 0) : Type 0 where
  pub targets : List P
  pub rest : PlainUntil P

-- a stage without propositions so far
abbrev pub no_targets : {P : Type 0} → PlainUntil P → TargetsThen P
no_targets chain = record { targets = []; rest = chain }

-- one proposition more before the others of the stage
abbrev pub with_target : {P : Type 0} → P → TargetsThen P → TargetsThen P
with_target p first = record { targets = p ∷ first.targets; rest = first.rest }

-- the until-chain that begins with a stage of this guard, and of this proposition and those after
-- it
abbrev pub guarded : {P : Type 0} → Option P → P → TargetsThen P → PlainUntil P
guarded guard p first = record {
  stages = (record { guard = guard; targets = p ∷ first.targets }) ∷ first.rest.stages;
  keep = first.rest.keep;
}

-- the until-chain of a stage alone
abbrev pub last_guarded : {P : Type 0} → Option P → P → PlainUntil P
last_guarded guard p =
    record { stages = (record { guard = guard; targets = p ∷ [] }) ∷ []; keep = None }

abbrev mutual
  -- the parts of a goal, where it is an until-chain
  pub until_of : {P : Type 0} → CtlTree P → Option (PlainUntil P)
  until_of (ag (plain q)) = Some (record { stages = []; keep = Some q })
  until_of (af g) = reached_of None g
  until_of (au (plain guard) g) = reached_of (Some guard) g
  until_of _ = None

  -- the parts of an until-chain of which this comes about, with this guard until then
  pub reached_of : {P : Type 0} → Option P → CtlTree P → Option (PlainUntil P)
  reached_of guard (plain p) = Some (last_guarded guard p)
  reached_of guard (all (goal_then (plain p) gs)) = option_map (guarded guard p) (targets_of gs)
  reached_of guard _ = None

  -- the parts of a row of any number of propositions and then an until-chain
  pub targets_of : {P : Type 0} → CtlTrees P → Option (TargetsThen P)
  targets_of (goal_then g no_goal) = option_map no_targets (until_of g)
  targets_of (goal_then (plain p) gs) = option_map (with_target p) (targets_of gs)
  targets_of _ = None

-- the until-chain in which f p stands in the place of each proposition p
abbrev pub map_stage : {P R : Type 0} → (P → R) → PlainStage P → PlainStage R
map_stage f stage = record { guard = option_map f stage.guard; targets = map f stage.targets }

abbrev pub map_until : {P R : Type 0} → (P → R) → PlainUntil P → PlainUntil R
map_until f chain = record { stages = map (map_stage f) chain.stages; keep = option_map f chain.keep }

-- a stage with one proposition for each of its parts: what holds until it is reached, and what it
-- asks for
pub record GuardedStage (P : Type 0) : Type 0 where
  pub guard : P
  pub target : P

-- the goal of such stages, and of a proposition to keep
abbrev pub until_tree : {P : Type 0} → List (GuardedStage P) → P → CtlTree P
until_tree [] q = ag (plain q)
until_tree (stage ∷ stages) q =
    au (plain stage.guard)
    (all (goal_then (plain stage.target) (goal_then (until_tree stages q) no_goal)))
