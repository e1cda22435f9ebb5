-- The loop goes on while each part so far passes.
use Rattle.std.proofs.Common.{◌≡◌, drop}
use Rattle.std.specs.List.{list_all}
use Rattle.task_core.specs.Initial.{lit_within}
use Rattle.task_core.proofs.checks.lits_fit.Given as goal

abbrev pub invariant-loop-lit : goal.invariant-loop-lit
invariant-loop-lit l = list_all (lit_within l.fluents) (drop l.lit-index l.lits) ≡ list_all (lit_within l.fluents) l.lits
