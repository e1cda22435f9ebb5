-- The loop goes on while each part so far passes.
use Rattle.std.proofs.Common.{◌≡◌, ℕ, ◌≤◌, ◌<◌, false}
use Rattle.task_core.specs.States.{truth}
use Rattle.task_core.proofs.checks.facts_fit.Given as goal

abbrev pub invariant-loop-f : goal.invariant-loop-f
invariant-loop-f l = (f : ℕ) → l.fluents ≤ f → f < l.f → truth l.facts f ≡ false
