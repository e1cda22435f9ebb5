use Rattle.std.proofs.Common.{◌<◌, ◌∙◌, subst, ap, sym, length}
use Rattle.task_core.specs.States.{ShowsVectors, vector}
use Rattle.task_core.specs.Initial.{add_state}
use Rattle.task_core.proofs.StateLists.{shows_added, length_shown}
use Rattle.task_core.proofs.initial.add.Goals as goal

pub returns-in-Ok-clause-list : goal.returns-in-Ok-clause-list
returns-in-Ok-clause-list c = λ n vs within shows.
    subst (λ keys. ShowsVectors n keys (add_state vs (vector n c.args.state))) (sym c.in-Ok.ensures.keys)
    (shows_added n c.args.found.now.keys vs c.args.state within shows)

pub returns-in-Ok-2-clause-too_many : goal.returns-in-Ok-2-clause-too_many
returns-in-Ok-2-clause-too_many c = λ _ n vs within shows.
    let added = shows_added n c.args.found.now.keys vs c.args.state within shows in
    let count = c.len.ensures.len ∙ ap length c.in-Ok-2.ensures.keys ∙ length_shown n _ _ added in
    subst (λ k. c.args.limit < k) count c.if-len-limit.false
