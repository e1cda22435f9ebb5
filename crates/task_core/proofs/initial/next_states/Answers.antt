use Rattle.std.proofs.Common.{ap, sym, subst, ◌∙◌}
use Rattle.std.proofs.lemmas.Result.{IfOk-weaker}
use Rattle.task_core.specs.Initial.{entry_of}
use Rattle.task_core.specs.Unchanged.{changes_none}
use Rattle.task_core.specs.States.{ShowsVectors}
use Rattle.task_core.proofs.Unchanged.{unchanged}
use Rattle.task_core.proofs.initial.next_states.Goals as goal

pub returns-then-changes_none-clause-list : goal.returns-then-changes_none-clause-list
returns-then-changes_none-clause-list c = λ n vs fits differ shows.
    unchanged n c.args.states.items vs (entry_of c.args.entry.now)
    (ap (λ ss. changes_none ss (entry_of c.args.entry.now)) (sym c.deref.ensures.value) ∙ sym c.changes_none.ensures ∙ c.if-changes_none.true)
    fits differ shows

pub returns-clause-list : goal.returns-clause-list
returns-clause-list c =
    IfOk-weaker c.states_after.result _ _
    (λ after made n vs fits differ shows. made n vs fits (subst (λ ss. ShowsVectors n ss vs) (sym c.deref-2.ensures.value) shows))
    c.states_after.ensures.list

pub returns-clause-too_many : goal.returns-clause-too_many
returns-clause-too_many c = λ err n vs fits shows.
    c.states_after.ensures.too_many err n vs fits (subst (λ ss. ShowsVectors n ss vs) (sym c.deref-2.ensures.value) shows)
