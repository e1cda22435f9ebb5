-- The text so far, and the variables that are left, are together the whole.
use Rattle.std.proofs.Common.{◌≡◌, ◌++◌, drop, suc}
use Rattle.lint_shapes.specs.Texts.{later_text, names_of}
use Rattle.lint_shapes.proofs.texts.push_later.Given as goal

abbrev pub invariant-loop-type_id : goal.invariant-loop-type_id
invariant-loop-type_id l = l.out.items ++ later_text (names_of l.domain) (suc l.number) (drop l.type_id-index l.types)
    ≡ l.fn.out.items ++ later_text (names_of l.domain) (suc l.before) l.types
