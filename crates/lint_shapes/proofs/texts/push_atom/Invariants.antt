-- The text so far, and the terms that are left, are together the whole.
use Rattle.std.proofs.Common.{◌≡◌, ◌++◌, drop}
use Rattle.std.specs.Prelude.{codes}
use Rattle.std.specs.List.{flat_map}
use Rattle.lint_shapes.specs.Texts.{name_at, names_of, term_text}
use Rattle.lint_shapes.proofs.texts.push_atom.Given as goal

abbrev pub invariant-loop-term : goal.invariant-loop-term
invariant-loop-term l = l.out.items ++ flat_map (term_text (names_of l.domain)) (drop l.term-index l.terms)
    ≡ l.fn.out.items ++ codes "(" ++ name_at (names_of l.domain).predicates l.predicate ++ flat_map (term_text (names_of l.domain)) l.terms
