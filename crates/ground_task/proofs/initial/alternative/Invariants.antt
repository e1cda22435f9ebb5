use Rattle.std.proofs.Common.{◌≡◌, ◌++◌, drop, map}
use Rattle.pddl_system.specs.Systems.{literal_of}
use Rattle.ground_task.specs.Collecting.{literals_value}
use Rattle.ground_task.proofs.initial.alternative.Given as goal

abbrev pub invariant-loop-listed : goal.invariant-loop-listed
invariant-loop-listed l =
    l.lits.items ++ map (literal_of l.fluents) (literals_value (drop l.listed-index l.literals)) ≡ map (literal_of l.fluents) (literals_value l.literals)
