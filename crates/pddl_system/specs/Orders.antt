-- The order of atoms.
use Rattle.std.specs.Cmp.Lexicographic.{slice_cmp}
use Rattle.std.specs.Ordering.{nat_cmp, ordering_then}
use Rattle.std.specs.declared.cmp.Ordering.{Ordering}
use Rattle.pddl_ast.specs.Trees.{AtomTree}

-- the order in which fluents are listed: by predicate as declared, and then by objects, the first
-- object that differs decides
abbrev pub atom_order : AtomTree → AtomTree → Ordering
atom_order a b =
    ordering_then (nat_cmp a.predicate b.predicate) (slice_cmp nat_cmp a.objects b.objects)
