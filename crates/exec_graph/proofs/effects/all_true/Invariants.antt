-- The fluents so far are true, and no others.
use Rattle.std.proofs.Common.{◌≡◌, ◌<◌, ℕ, true}
use Rattle.task_core.specs.States.{IsWithin, truth}
use Rattle.exec_graph.proofs.effects.all_true.Given as goal

abbrev pub invariant-loop-fluent : goal.invariant-loop-fluent
invariant-loop-fluent l = record {
  within : IsWithin l.fluent l.state;
  all : (f : ℕ) → f < l.fluent → truth l.state f ≡ true;
}
