use Rattle.std.proofs.Common.{◌≡◌, Some, sym, subst}
use Rattle.std.proofs.lemmas.Result.{err_from_is_err_and}
use Rattle.sexpr_text.specs.Flaws.{first_listed}
use Rattle.sexpr_text.specs.Forest.{Forest, forest_of}
use Rattle.sexpr_text.specs.Passes.{IfFault}
use Rattle.pddl_domain.specs.Actions.{keys_flaws, no_parts}
use Rattle.pddl_domain.specs.Actions.{action_name_flaws, shape_flaws}
use Rattle.pddl_domain.proofs.PassLemmas.{fault-earlier}
use Rattle.pddl_domain.proofs.schemas.read_shape.Goals as goal

pub returns-in_err-add_name-in-Word-clause-fault : goal.returns-in_err-add_name-in-Word-clause-fault
returns-in_err-add_name-in-Word-clause-fault c =
    let x = c.in_err-add_name-in-Word in
    let w = c.in-Word in
    let P : Forest → Type 0 = λ row.
    IfFault x.field-0.0 (λ f. first_listed (shape_flaws c.args.names.now c.args.span row) ≡ Some f) in
    let p = err_from_is_err_and c.from_residual.result c.from_residual.ensures.1 in
    rw (p.1, p.2)
    (subst P (sym w.ensures)
    (fault-earlier (action_name_flaws c.args.names.now w.span w.name.now) (keys_flaws no_parts (forest_of w.rest.now)) x.field-0.0
    x.ensures.fault))
