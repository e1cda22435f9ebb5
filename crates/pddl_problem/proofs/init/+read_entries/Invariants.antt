use Rattle.std.proofs.Common.{◌≡◌, ◌++◌, drop}
use Rattle.sexpr_text.specs.Forest.{forest_of}
use Rattle.pddl_ast.specs.Environment.{known_value}
use Rattle.pddl_problem.specs.Init.{init_flaws, init_facts, init_entries}
use Rattle.pddl_problem.specs.Values.{facts_in, entries_in}
use Rattle.pddl_problem.proofs.Sizes.{size_of}
use Rattle.pddl_problem.proofs.init.+read_entries.Given as goal

abbrev pub decreases-read_entries : goal.decreases-read_entries
decreases-read_entries l = size_of (forest_of l.row.now)

abbrev pub invariant-loop-form : goal.invariant-loop-form
invariant-loop-form l =
    (init_flaws (known_value l.known) (forest_of l.row) ≡ init_flaws (known_value l.known) (forest_of (drop l.form-index l.row)))
    × (facts_in l.initial.initial' ++ init_facts (known_value l.known) (forest_of l.row)
    ≡ facts_in l.initial' ++ init_facts (known_value l.known) (forest_of (drop l.form-index l.row)))
    × (entries_in l.initial.initial' ++ init_entries (known_value l.known) (forest_of l.row)
    ≡ entries_in l.initial' ++ init_entries (known_value l.known) (forest_of (drop l.form-index l.row)))
