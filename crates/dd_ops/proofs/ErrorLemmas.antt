-- The error that a `?` passes on.
use Rattle.std.proofs.Common.{◌≡◌, Result, Err, IsErrOf, IsErrAnd, subst, ap, ◌∙◌}
use Rattle.std.proofs.lemmas.Result.{err_from_is_err_and}
use Rattle.dd_nodes.specs.declared.node.Ref.{Ref}
use Rattle.dd_nodes.specs.declared.node.DdErr.{DdErr}

-- what is returned is the error that came
pub passed_on : (r : Result Ref DdErr) (e d : DdErr) → IsErrAnd r (λ y. y ≡ e) → IsErrOf r d → IsErrOf {T = Ref} (Err e) d
passed_on r e d passes is =
    let p = err_from_is_err_and r passes in
    subst (λ (q : Result Ref DdErr). IsErrOf q d) (p.1 ∙ ap Err p.2) is
