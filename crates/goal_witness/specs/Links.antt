-- What the parts of a witness say as plain data, over n fluents.
use Rattle.std.specs.Prelude.{ℕ, ◌+◌, List, [], length, map}
use Rattle.std.specs.List.{flat_map}
use Rattle.ctl_syntax.specs.Values.{ctl_value}
use Rattle.plan_witness.specs.Runs.{PlainStep}
use Rattle.plan_witness.specs.Values.{steps_value}
use Rattle.goal_witness.specs.Failures.{How, PlainLink, by_lasso, by_way, is_false}
use Rattle.goal_witness.specs.declared.links.How.{How as CodeHow}
use Rattle.goal_witness.specs.declared.links.How.TheVariants.{False, Lasso, Way}
use Rattle.goal_witness.specs.declared.links.Link.{Link}

abbrev pub how_value : ℕ → CodeHow → How
how_value n False = is_false
how_value n (Way steps) = by_way (steps_value n steps.items)
how_value n (Lasso stem back) = by_lasso (steps_value n stem.items) (steps_value n back.items)

abbrev pub link_value : ℕ → Link → PlainLink
link_value n link = record { part = ctl_value link.part.now; how = how_value n link.how }

abbrev pub links_value : ℕ → List Link → List PlainLink
links_value n = map (link_value n)

-- the steps that a part has, and those of them that lead back
abbrev pub stem_in : How → List PlainStep
stem_in is_false = []
stem_in (by_way steps) = steps
stem_in (by_lasso stem back) = stem

abbrev pub back_in : How → List PlainStep
back_in is_false = []
back_in (by_way steps) = []
back_in (by_lasso stem back) = back

-- the steps of some parts, one after another, and those that lead back at the end
abbrev pub stem_steps : List PlainLink → List PlainStep
stem_steps = flat_map (λ (link : PlainLink). stem_in link.how)

abbrev pub back_steps : List PlainLink → List PlainStep
back_steps = flat_map (λ (link : PlainLink). back_in link.how)

-- how many steps a part has
abbrev pub step_count : How → ℕ
step_count how = length (stem_in how) + length (back_in how)
