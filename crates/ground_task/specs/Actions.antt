-- Private: the parts of a task over a setting and fluents.
use Rattle.std.specs.Prelude.{List, map}
use Rattle.pddl_ast.specs.Trees.{AtomTree, DomainTree, ProblemTree}
use Rattle.pddl_system.specs.Instances.{Instance as InstanceTree}
use Rattle.pddl_system.specs.Outcomes.{OutcomeTree, outcomes_of}
use Rattle.pddl_system.specs.Settings.{Setting}
use Rattle.pddl_system.specs.Systems.{instance_name}
use Rattle.pddl_system.specs.Tasks.{ActionTree, change_of, condition_of, outcome_of}

-- the action of an instance
abbrev pub action_in : Setting → List AtomTree → DomainTree → ProblemTree → InstanceTree
    → ActionTree
action_in at fluents d p i = record {
  name = instance_name d p i;
  exec = condition_of at fluents i.schema.precondition i.objects;
  outcomes = map (outcome_of at fluents) (outcomes_of at i);
}

-- the action of an instance with these outcomes, all of whose changes may come about
abbrev pub action_over : Setting → List AtomTree → DomainTree → ProblemTree → InstanceTree
    → List OutcomeTree → ActionTree
action_over at fluents d p i outcomes = record {
  name = instance_name d p i;
  exec = condition_of at fluents i.schema.precondition i.objects;
  outcomes = map (map (change_of at fluents)) outcomes;
}
