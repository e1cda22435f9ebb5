-- The goals that plans with contexts are looked for: until-chains and patrol goals.
use Rattle.std.specs.Prelude.{List, Option, map}
use Rattle.std.specs.Option.{option_map, option_or}
use Rattle.ctl_syntax.specs.Goals.{CtlTree}
use Rattle.ctl_syntax.specs.Patrols.{patrol_of}
use Rattle.ctl_syntax.specs.UntilChains.{PlainUntil, map_until, until_of}

-- the parts of an until-chain, or the propositions of a patrol goal
pub data PlainGoal (P : Type 0) : Type 0 where
  plain_until : PlainUntil P → PlainGoal P
  plain_patrol : List P → PlainGoal P

-- the parts of a goal, where it is an until-chain or a patrol goal. None is both
abbrev pub plain_goal : {P : Type 0} → CtlTree P → Option (PlainGoal P)
plain_goal goal = option_or (option_map plain_until (until_of goal)) (option_map plain_patrol (patrol_of goal))

-- the parts in which f p stands in the place of each proposition p
abbrev pub map_goal : {P R : Type 0} → (P → R) → PlainGoal P → PlainGoal R
map_goal f (plain_until chain) = plain_until (map_until f chain)
map_goal f (plain_patrol ps) = plain_patrol (map f ps)
