use Rattle.std.proofs.Common.{◌≡◌, ◌≤◌, ◌+◌, ap, sym, ◌∙◌, length, subst, arith, slice_get, Some}
use Rattle.std.proofs.lemmas.List.{length-map}
use Rattle.std.proofs.lemmas.Result.{err_from_is_err_and}
use Rattle.task_core.proofs.StateLists.{same_error}
use Rattle.task_core.specs.Tasks.{fluent_count, system_of}
use Rattle.plan_rules.specs.Rules.{plain_of}
use Rattle.exec_graph.specs.Rows.{row_count}
use Rattle.exec_graph.specs.Moves.{IsBeforeVisit, IsPlaceWithin, configuration_of}
use Rattle.exec_graph.proofs.Listed.{All-number}
use Rattle.exec_graph.proofs.Listing.{before_next}
use Rattle.exec_graph.proofs.Visits.{visit_made, visit_too_many}
use Rattle.exec_graph.proofs.exploration.Draft.visit_next.Goals as goal

pub visit-requires-clause-within : goal.visit-requires-clause-within
visit-requires-clause-within c =
    let n = fluent_count c.args.indexed.now.task.now in
    let keys = c.args.self.now.moves.places.keys in
    All-number (IsPlaceWithin n) keys c.len-number.result c.index.result.now c.requires.within.within c.index.ensures

pub visit-requires-clause-before : goal.visit-requires-clause-before
visit-requires-clause-before c =
    let n = fluent_count c.args.indexed.now.task.now in
    subst (λ k. IsBeforeVisit n (k + 1) c.args.self.now.moves) (sym c.len-number.ensures) c.requires.within

pub note-requires-clause-small : goal.note-requires-clause-small
note-requires-clause-small c = λ k l.
    let n = fluent_count c.args.indexed.now.task.now in
    let moves = c.visit.new.self in
    let below = c.in_ok-visit.ensures.moves.listed.below k l in
    let count = length-map moves.places.keys (configuration_of n) in
    omega (arith, below, count, c.in_ok-check_count.ensures.few)

pub returns-in_err-check_count-clause-too_large : goal.returns-in_err-check_count-clause-too_large
returns-in_err-check_count-clause-too_large c =
    let p = err_from_is_err_and c.from_residual-in_err-check_count.result c.from_residual-in_err-check_count.ensures.1 in
    let n = fluent_count c.args.indexed.now.task.now in
    let keys = c.args.self.now.moves.places.keys in
    let at : slice_get keys (row_count c.args.self.now.next) ≡ Some c.index.result.now = subst (λ k. slice_get keys k ≡ Some c.index.result.now) c.len-number.ensures c.index.ensures in
    rw (p.1, p.2) (λ is.
    visit_too_many n (system_of c.args.indexed.now.task.now) (plain_of c.args.indexed.now.plan.now) c.args.self.now c.index.result.now c.visit.new.self at
    c.in_ok-visit.ensures.value c.in_ok-visit.ensures.grown 262144 (c.in_err-check_count.ensures.too_large (same_error _ _ is)))

pub returns-clause-visit : goal.returns-clause-visit
returns-clause-visit c =
    let n = fluent_count c.args.indexed.now.task.now in
    let keys = c.args.self.now.moves.places.keys in
    let at : slice_get keys (row_count c.args.self.now.next) ≡ Some c.index.result.now = subst (λ k. slice_get keys k ≡ Some c.index.result.now) c.len-number.ensures c.index.ensures in
    visit_made n (system_of c.args.indexed.now.task.now) (plain_of c.args.indexed.now.plan.now) c.args.self.now c.index.result.now c.visit.new.self at
    c.in_ok-visit.ensures.value c.in_ok-visit.ensures.grown c.in_ok-visit.ensures.moves.listed.below c.note.new.self c.in_ok-note.ensures.moves
    c.in_ok-note.ensures.next c.in_ok-note.ensures.unexecutable c.in_ok-note.ensures.stuck

pub returns-clause-within : goal.returns-clause-within
returns-clause-within c =
    let n = fluent_count c.args.indexed.now.task.now in
    let next = before_next n (c.len-number.result + 1) c.visit.new.self c.in_ok-visit.ensures.moves c.in_ok-visit.ensures.visit in
    let count : c.len-number.result + 1 ≡ row_count c.note.new.self.next = ap (λ k. k + 1) c.len-number.ensures ∙ sym c.in_ok-note.ensures.count in
    subst (λ m. IsBeforeVisit n (row_count c.note.new.self.next + 1) m) (sym c.in_ok-note.ensures.moves)
    (subst (λ k. IsBeforeVisit n (k + 1) c.visit.new.self) count next)

pub returns-clause-few : goal.returns-clause-few
returns-clause-few c = subst (λ m. length m.places.keys ≤ 262144) (sym c.in_ok-note.ensures.moves) c.in_ok-check_count.ensures.few
