use Rattle.std.proofs.Common.{◌≡◌, ◌++◌, [], map, drop}
use Rattle.sexpr_text.specs.Forest.{forest_of}
use Rattle.pddl_ast.specs.Environment.{known_value}
use Rattle.pddl_ast.specs.Values.{schema_value}
use Rattle.pddl_domain.specs.ActionParts.{actions_flaws, all_actions}
use Rattle.pddl_domain.proofs.schemas.read_actions.Given as goal

abbrev pub invariant-loop-form : goal.invariant-loop-form
invariant-loop-form l = record {
  flaws : actions_flaws (known_value l.known) [] (forest_of l.sections)
      ≡ actions_flaws (known_value l.known) l.declared.names (forest_of (drop l.form-index l.sections));
  read : all_actions (known_value l.known) (forest_of l.sections)
      ≡ map schema_value l.declared.actions.items ++ all_actions (known_value l.known) (forest_of (drop l.form-index l.sections));
}
