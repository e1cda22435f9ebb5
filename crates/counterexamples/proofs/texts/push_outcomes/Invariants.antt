-- The text so far, and the numbers that are left, are together the whole.
use Rattle.std.proofs.Common.{◌≡◌, ◌++◌, ℕ, drop, string_bytes}
use Rattle.counterexamples.specs.Texts.{outcomes_text}
use Rattle.plan_witness.specs.Values.{steps_value}
use Rattle.counterexamples.proofs.texts.push_outcomes.Given as goal

abbrev pub invariant-loop-step : goal.invariant-loop-step
invariant-loop-step l = (n : ℕ) →
    string_bytes l.out ++ outcomes_text (steps_value n (drop l.step-index l.steps))
    ≡ string_bytes l.fn.out ++ outcomes_text (steps_value n l.steps)
