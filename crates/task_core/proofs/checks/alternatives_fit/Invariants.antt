-- The loop goes on while each part so far passes.
use Rattle.std.proofs.Common.{◌≡◌, drop}
use Rattle.std.specs.List.{list_all}
use Rattle.task_core.specs.Initial.{entry_of, lit_within}
use Rattle.task_core.proofs.checks.alternatives_fit.Given as goal

abbrev pub invariant-loop-alternative : goal.invariant-loop-alternative
invariant-loop-alternative l = list_all (list_all (lit_within l.fluents)) (entry_of (drop l.alternative-index l.alternatives)) ≡ list_all (list_all (lit_within l.fluents)) (entry_of l.alternatives)
