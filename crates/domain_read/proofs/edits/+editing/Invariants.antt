use Rattle.std.proofs.Common.{◌≡◌, ◌+◌, ◌*◌, drop}
use Rattle.sexpr_text.specs.Forest.{forest_of}
use Rattle.domain_read.specs.Edits as edits
use Rattle.pddl_ast.proofs.Weights.{weight as size}
use Rattle.domain_read.proofs.edits.+editing.Given as goal

abbrev pub invariant-edit_row-loop-form : goal.invariant-edit_row-loop-form
invariant-edit_row-loop-form l =
    edits.all_edited (edits.edits l.fn.role (forest_of l.row)) l.fn.text
    ≡ edits.all_edited (edits.edits l.current (forest_of (drop l.form-index l.row))) l.text

abbrev pub decreases-edit_row : goal.decreases-edit_row
decreases-edit_row l = 2 * size (forest_of l.row.now)

abbrev pub decreases-edit_group : goal.decreases-edit_group
decreases-edit_group l = 2 * size (forest_of l.parts.now) + 1
