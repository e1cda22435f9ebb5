-- Private: which rules were listed.
use Rattle.std.specs.Prelude.{◌≡◌, ℕ, suc, ◌-◌, List, ◌++◌}
use Rattle.std.specs.List.{flat_map, range_with_len}
use Rattle.plan_theory.specs.ContextRules.{next_rules}
use Rattle.plan_theory.specs.UntilChains.{UntilSets}
use Rattle.plan_theory.specs.UntilPrinted.{until_states}
use Rattle.plan_rules.specs.Rules.{ContextRule}
use Rattle.slot_board.specs.Board.{Scene}
use Rattle.context_plan.specs.Scenes.{Start, sys_of}
use Rattle.context_plan.specs.Tables.{HasTable, HasTurning}

-- rules of a context and a next one, which are counted from 0, were added, and the states that turn to
-- it stand at their place
pub record ListsTurning (start : Start) (x : Scene) (chain : UntilSets)
    (before after : List ContextRule) (c j : ℕ) (more : List ContextRule) : Type 0 where
  pub turning : HasTurning start x chain c j
  pub listed : after ≡ before ++ more

-- the rules of a context up to a next context, which are counted from 0, were added
pub record ListsStages (start : Start) (x : Scene) (chain : UntilSets)
    (before after : List ContextRule) (c j : ℕ) : Type 0 where
  pub table : HasTable start x chain
  pub listed : after ≡ before ++ flat_map (next_rules (sys_of start) (until_states (sys_of start) chain) (suc c))
      (range_with_len (suc c) (j - c))

-- the rules of some contexts were added
pub record Lists (start : Start) (x : Scene) (chain : UntilSets)
    (before after more : List ContextRule) : Type 0 where
  pub table : HasTable start x chain
  pub listed : after ≡ before ++ more
