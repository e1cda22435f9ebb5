-- The steps so far, and those of the parts that are left, are together all.
use Rattle.std.proofs.Common.{◌≡◌, ◌++◌, ℕ, drop}
use Rattle.plan_witness.specs.Values.{steps_value}
use Rattle.goal_witness.specs.Links.{back_steps, links_value}
use Rattle.goal_witness.proofs.witnesses.push_backs.Given as goal

abbrev pub invariant-loop-link : goal.invariant-loop-link
invariant-loop-link l =
    (n : ℕ) → steps_value n l.steps.items ++ back_steps (links_value n (drop l.link-index l.links)) ≡ steps_value n l.fn.steps.items ++ back_steps (links_value n l.links)
