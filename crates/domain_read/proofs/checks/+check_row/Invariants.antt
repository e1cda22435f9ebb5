use Rattle.std.proofs.Common.{◌≡◌, ◌≤◌, drop}
use Rattle.sexpr_text.specs.Forest.{forest_of}
use Rattle.domain_read.specs.Faults as faults
use Rattle.domain_read.specs.Weights as weights
use Rattle.pddl_ast.proofs.Weights.{weight as size}
use Rattle.domain_read.proofs.checks.+check_row.Given as goal

abbrev pub invariant-loop-form : goal.invariant-loop-form
invariant-loop-form l =
    (1 ≤ l.multiple) × (l.multiple ≤ weights.most_under)
    × (faults.choice_flaws l.room 1 l.fn.role (forest_of l.row)
    ≡ faults.choice_flaws l.room l.multiple l.current (forest_of (drop l.form-index l.row)))

abbrev pub decreases-check_row : goal.decreases-check_row
decreases-check_row l = size (forest_of l.row.now)
