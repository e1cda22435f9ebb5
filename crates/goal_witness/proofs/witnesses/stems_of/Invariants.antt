-- The steps so far, and those of the parts that are left, are together all.
use Rattle.std.proofs.Common.{◌≡◌, ◌++◌, ℕ, drop}
use Rattle.plan_witness.specs.Values.{steps_value}
use Rattle.goal_witness.specs.Links.{links_value, stem_steps}
use Rattle.goal_witness.proofs.witnesses.stems_of.Given as goal

abbrev pub invariant-loop-link : goal.invariant-loop-link
invariant-loop-link l = (n : ℕ) → steps_value n l.steps.items ++ stem_steps (links_value n (drop l.link-index l.links)) ≡ stem_steps (links_value n l.links)
