use Rattle.std.proofs.Common.{◌≡◌}
use Rattle.sexpr_text.specs.Forest.{forest_of}
use Rattle.pddl_ast.specs.Atoms.{count}
use Rattle.pddl_domain.specs.ActionParts.{parts_value}
use Rattle.pddl_domain.specs.Actions as specs
use Rattle.pddl_domain.proofs.actions.read_parts.Given as goal

abbrev pub invariant-loop-parts : goal.invariant-loop-parts
invariant-loop-parts l = record {
  flaws : specs.keys_flaws specs.no_parts (forest_of l.row) ≡ specs.keys_flaws (parts_value l.parts) (forest_of l.rest);
  read : specs.parts_after specs.no_parts (forest_of l.row) ≡ specs.parts_after (parts_value l.parts) (forest_of l.rest);
}

abbrev pub decreases-loop-parts : goal.decreases-loop-parts
decreases-loop-parts l = count (forest_of l.rest)
