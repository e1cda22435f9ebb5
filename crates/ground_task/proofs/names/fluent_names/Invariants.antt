use Rattle.std.proofs.Common.{◌≡◌, ◌++◌, drop, map}
use Rattle.pddl_ast.specs.Values.{domain_value, problem_value}
use Rattle.pddl_system.specs.Systems.{atom_name}
use Rattle.task_core.specs.Names.{name_bytes}
use Rattle.ground_task.proofs.names.fluent_names.Given as goal

abbrev pub invariant-loop-place : goal.invariant-loop-place
invariant-loop-place l =
    map name_bytes l.names.items ++ map (atom_name (domain_value l.naming.domain.now) (problem_value l.naming.problem.now)) (drop l.place l.fluents)
    ≡ map (atom_name (domain_value l.naming.domain.now) (problem_value l.naming.problem.now)) l.fluents
