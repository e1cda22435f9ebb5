use Rattle.std.proofs.Common.{◌≡◌, drop}
use Rattle.sexpr_text.specs.Forest.{forest_of}
use Rattle.sexpr_text.specs.Parts as parts
use Rattle.sexpr_text.proofs.parts.first_definition.Given as goal

abbrev pub invariant-loop-form : goal.invariant-loop-form
invariant-loop-form l =
    parts.first_group_with (parts.is_definition l.kind) (forest_of l.row) ≡ parts.first_group_with (parts.is_definition l.kind) (forest_of (drop l.form-index l.row))
