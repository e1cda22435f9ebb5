use Rattle.std.proofs.Common.{◌≡◌, ◌++◌, drop}
use Rattle.sexpr_text.specs.Forest.{forest_of}
use Rattle.pddl_ast.specs.Atoms as atoms
use Rattle.pddl_ast.specs.Environment.{known_value}
use Rattle.pddl_ast.proofs.atoms.read_terms.Given as goal

abbrev pub invariant-loop-form : goal.invariant-loop-form
invariant-loop-form l =
    (atoms.terms_flaws (known_value l.known) l.scope (forest_of l.row) ≡ atoms.terms_flaws (known_value l.known) l.scope (forest_of (drop l.form-index l.row)))
    × (atoms.terms_of (known_value l.known) l.scope (forest_of l.row)
    ≡ l.terms.items ++ atoms.terms_of (known_value l.known) l.scope (forest_of (drop l.form-index l.row)))
