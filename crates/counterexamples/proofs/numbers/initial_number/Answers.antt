use Rattle.std.proofs.Common.{◌≡◌, ◌∙◌, ap, map, slice_get, subst, sym}
use Rattle.std.specs.List.{All}
use Rattle.task_core.specs.States.{IsWithin, vector}
use Rattle.task_core.specs.Tasks.{fluent_count, initial_states}
use Rattle.counterexamples.specs.Places.{place_in}
use Rattle.counterexamples.proofs.Placed.{stands}
use Rattle.counterexamples.proofs.numbers.initial_number.Goals as goal

pub returns-in-Ok : goal.returns-in-Ok
returns-in-Ok c =
    let n = fluent_count c.args.task.now in
    let v = vector n c.args.state.now in
    let listed : map (vector n) c.deref.result.now ≡ initial_states c.args.task.now = ap (map (vector n)) c.deref.ensures.value ∙ c.in-Ok.ensures.list in
    let place = c.place_of.ensures n (subst (All (IsWithin n)) (sym c.deref.ensures.value) c.in-Ok.ensures.within) c.requires.within in
    ap (slice_get (initial_states c.args.task.now)) (place ∙ ap (λ vs. place_in vs v) listed) ∙ stands (initial_states c.args.task.now) v c.requires.initial
