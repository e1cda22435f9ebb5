use Rattle.std.proofs.Common.{◌≡◌, drop}
use Rattle.sexpr_text.specs.Forest.{forest_of}
use Rattle.domain_read.specs.Roles as roles
use Rattle.domain_read.proofs.roles.is_declared_in.Given as goal

abbrev pub invariant-loop-form : goal.invariant-loop-form
invariant-loop-form l =
    roles.is_declared_in (forest_of l.sections) ≡ roles.is_declared_in (forest_of (drop l.form-index l.sections))
