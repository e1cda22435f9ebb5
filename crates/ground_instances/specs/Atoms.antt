-- The plain tree that an atom stands for.
use Rattle.pddl_ast.specs.Trees.{AtomTree}
use Rattle.ground_instances.specs.declared.atoms.Atom.{Atom}

abbrev pub atom_tree : Atom → AtomTree
atom_tree a = record { predicate = a.predicate; objects = a.objects.items }
