use Rattle.std.proofs.Common.{◌≡◌, ◌||◌, drop, map}
use Rattle.pddl_ast.specs.Trees.{AtomTree}
use Rattle.pddl_ast.specs.Values.{atom_value, problem_value}
use Rattle.pddl_system.specs.GroundAtoms.{is_among}
use Rattle.ground_instances.specs.Atoms.{atom_tree}
use Rattle.ground_instances.proofs.changed.fact_set.Given as goal

abbrev pub invariant-loop-fact : goal.invariant-loop-fact
invariant-loop-fact l = (a : AtomTree)
    → (is_among (map atom_tree l.facts.keys) a || is_among (map atom_value (drop l.fact-index l.fact-items)) a)
    ≡ is_among (problem_value l.problem).facts a
