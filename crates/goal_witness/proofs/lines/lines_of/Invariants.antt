-- What the parts so far say, and what those that are left say, are together the whole; so are their steps.
use Rattle.std.proofs.Common.{◌≡◌, ◌+◌, ◌++◌, ℕ, drop, length, map}
use Rattle.goal_witness.specs.Lines.{line_value, lines_from}
use Rattle.goal_witness.specs.Links.{back_steps, links_value, stem_steps}
use Rattle.goal_witness.proofs.lines.lines_of.Given as goal

abbrev pub invariant-loop-link : goal.invariant-loop-link
invariant-loop-link l = record {
  said : (n : ℕ) → map line_value l.lines.items ++ lines_from l.from (links_value n (drop l.link-index l.links)) ≡ lines_from 0 (links_value n l.links);
  few : (n : ℕ) → l.from + (length (stem_steps (links_value n (drop l.link-index l.links))) + length (back_steps (links_value n (drop l.link-index l.links))))
      ≡ length (stem_steps (links_value n l.links)) + length (back_steps (links_value n l.links));
}
