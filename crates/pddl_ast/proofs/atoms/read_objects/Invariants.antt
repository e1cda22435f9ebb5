use Rattle.std.proofs.Common.{◌≡◌, ◌++◌, drop}
use Rattle.sexpr_text.specs.Forest.{forest_of}
use Rattle.pddl_ast.specs.Atoms as atoms
use Rattle.pddl_ast.specs.Environment.{known_value}
use Rattle.pddl_ast.proofs.atoms.read_objects.Given as goal

abbrev pub invariant-loop-form : goal.invariant-loop-form
invariant-loop-form l =
    (atoms.objects_flaws (known_value l.known) (forest_of l.row) ≡ atoms.objects_flaws (known_value l.known) (forest_of (drop l.form-index l.row)))
    × (atoms.numbers (atoms.object_number (known_value l.known)) (forest_of l.row)
    ≡ l.objects.items ++ atoms.numbers (atoms.object_number (known_value l.known)) (forest_of (drop l.form-index l.row)))
