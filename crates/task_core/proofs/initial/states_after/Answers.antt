use Rattle.std.proofs.Common.{arith, sym, [], subst, length, map, take, take_all, ◌+◌, ◌<◌, ◌≤◌}
use Rattle.std.specs.List.{fold}
use Rattle.std.proofs.lemmas.Result.{err_from_is_err_and}
use Rattle.task_core.specs.States.{ShowsVectors, vector}
use Rattle.task_core.specs.Initial.{add_state, applied, after_entry, entry_of}
use Rattle.task_core.proofs.StateLists.{made, one_state, states_grow, same_error, shown_at, length_shown, alternatives_within}
use Rattle.task_core.proofs.initial.states_after.Goals as goal

pub returns-in_err-add_alternatives-clause-too_many : goal.returns-in_err-add_alternatives-clause-too_many
returns-in_err-add_alternatives-clause-too_many c =
    let p = err_from_is_err_and c.from_residual-in_err-add_alternatives.result c.from_residual-in_err-add_alternatives.ensures.1 in
    let entry = entry_of c.args.entry.now in
    let i = c.loop-state.state-index in
    let s = c.state-item.result in
    rw (p.1, p.2) (λ is n vs all shows.
    let at = shown_at n c.args.states.now vs i s shows c.loop-state-test.true c.state-item.is in
    let so_far = fold add_state [] (made n entry (take i vs)) in
    let more : c.args.limit < length (fold add_state so_far (map (applied n (vector n s)) entry)) =
    c.in_err-add_alternatives.ensures.too_many (same_error _ _ is) n so_far (alternatives_within n entry all) at.2 (c.loop-state.invariant.shown n vs all shows) in
    let more_now = subst (λ ys. c.args.limit < length ys) (sym (one_state n entry vs i (vector n s) at.0 at.1)) more in
    let front = states_grow n entry vs (i + 1) in
    let goal_is : c.args.limit < length (fold add_state [] (made n entry vs)) = omega (arith, more_now, front) in
    goal_is)

pub loop-state-preserved : goal.loop-state-preserved
loop-state-preserved c =
    let entry = entry_of c.args.entry.now in
    let i = c.loop-state.state-index in
    let s = c.state-item.result in
    record {
      few = c.in_ok-add_alternatives.ensures.few;
      shown = λ n vs all shows.
          let at = shown_at n c.args.states.now vs i s shows c.loop-state-test.true c.state-item.is in
          let so_far = fold add_state [] (made n entry (take i vs)) in
          subst (λ ys. ShowsVectors n c.add_alternatives.new.found.keys ys) (sym (one_state n entry vs i (vector n s) at.0 at.1))
          (c.in_ok-add_alternatives.ensures.list n so_far (alternatives_within n entry all) at.2 (c.loop-state.invariant.shown n vs all shows));
    }

pub returns-clause-list : goal.returns-clause-list
returns-clause-list c = λ n vs all shows.
    let entry = entry_of c.args.entry.now in
    let i = c.loop-state.state-index in
    let few : length vs ≤ i = omega (arith, length_shown n c.args.states.now vs shows, c.loop-state-test.false) in
    let found = subst (λ ys. ShowsVectors n c.loop-state.found.keys (fold add_state [] (made n entry ys))) (take_all i vs few) (c.loop-state.invariant.shown n vs all shows) in
    subst (λ ks. ShowsVectors n ks (after_entry n vs entry)) (sym c.in_ok-list_of.ensures) found
