use Rattle.std.proofs.Common.{◌≡◌, ◌++◌, drop, map}
use Rattle.ctl_syntax.specs.Conditions.{condition_value}
use Rattle.ctl_syntax.proofs.copies.+copying.Given as goal

abbrev pub invariant-copied_conditions-loop-cond : goal.invariant-copied_conditions-loop-cond
invariant-copied_conditions-loop-cond l =
    map condition_value l.copies.items ++ map condition_value (drop l.cond-index l.conds) ≡ map condition_value l.conds
