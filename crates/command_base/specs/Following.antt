-- How much is followed at most: initial states, and what a plan may reach.
use Rattle.std.specs.Prelude.{ℕ, ◌<◌, ◌≤◌, length, map, take}
use Rattle.pddl_ast.specs.Trees.{DomainTree, ProblemTree}
use Rattle.pddl_system.specs.Fluents.{fluents}
use Rattle.pddl_system.specs.Settings.{setting}
use Rattle.pddl_system.specs.Systems.{entry_over, facts_of}
use Rattle.task_core.specs.Initial.{after_entries}

-- how many initial states, and how many configurations, are followed at most
abbrev pub most_followed : ℕ
most_followed = 262144

-- there are more than so many different states after some of the first uncertain entries, none and
-- all of them included
pub record HasTooManyStates (domain : DomainTree) (problem : ProblemTree) : Type 0 where
  pub entries : ℕ
  pub first : entries ≤ length problem.entries
  pub more : most_followed < length (after_entries (length (fluents domain problem))
      (facts_of (setting domain problem) (fluents domain problem))
      (take entries (map (entry_over (fluents domain problem)) problem.entries)))
