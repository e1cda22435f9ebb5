use Rattle.std.proofs.Common.{◌≡◌, drop}
use Rattle.sexpr_text.specs.Forest.{forest_of}
use Rattle.pddl_ast.specs.TypedLists.{typed_groups}
use Rattle.pddl_domain.specs.Types as specs
use Rattle.pddl_domain.proofs.types.check_loops.Given as goal

abbrev pub invariant-loop-form : goal.invariant-loop-form
invariant-loop-form l =
    specs.loop_flaws (forest_of l.list)
    ≡ specs.loop_flaws_from (specs.type_names (typed_groups (forest_of l.list))) (specs.type_parents (typed_groups (forest_of l.list))) l.after_dash (forest_of (drop l.form-index l.list))
