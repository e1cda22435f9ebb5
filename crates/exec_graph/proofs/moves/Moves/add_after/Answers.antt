use Rattle.std.proofs.Common.{◌≡◌, cond, [], slice_index_or, OnOk, sym, ◌∙◌, ap, subst}
use Rattle.std.proofs.lemmas.Option.{get_or_from_slice_get}
use Rattle.task_core.specs.States.{vector}
use Rattle.task_core.specs.Tasks.{fluent_count, in_space, states_after}
use Rattle.plan_rules.specs.Advices.{onward_value}
use Rattle.exec_graph.specs.Counting.{with_if_state}
use Rattle.exec_graph.specs.Moves.{configuration_of, found_by, moves_value, nowhere, with_configuration}
use Rattle.exec_graph.proofs.KnownPlaces.{here_is}
use Rattle.exec_graph.proofs.KnownSteps.{known_move, known_state}
use Rattle.exec_graph.proofs.moves.Moves.add_after.Goals as goal

pub returns-in-Some-clause-value : goal.returns-in-Some-clause-value
returns-in-Some-clause-value c =
    let task = c.args.here.now.task.now in
    let n = fluent_count task in
    let s = c.args.here.now.state.now in
    let a = c.args.rule.now.action.0 in
    let k = c.args.outcome in
    let before = c.args.self.now in
    let m = moves_value n before in
    let onward = onward_value c.args.rule.now.onward in
    let ts = states_after task (vector n s) a in
    let number = c.in-Some.number in
    let h = c.in-Some.ensures in
    let x = configuration_of n h.place in
    let here = here_is n before number h.place h.is in
    let at = get_or_from_slice_get ts k (vector n h.place.state) [] (known_state task a k number s onward before.places.keys c.args.effects.now c.requires.effects c.requires.within h) in
    let same : cond (in_space task (slice_index_or (found_by n before) number nowhere).state) (with_configuration m (slice_index_or (found_by n before) number nowhere)) m
    ≡ with_if_state (in_space task) onward m (slice_index_or ts k []) =
    ap (λ y. cond (in_space task y.state) (with_configuration m y) m) here ∙ known_move (in_space task) onward m (slice_index_or ts k []) x h.next at in
    subst (λ w. OnOk c.add_known.result (moves_value n c.add_known.new.self ≡ w)) same c.add_known.ensures.value

pub returns-in-None-clause-value : goal.returns-in-None-clause-value
returns-in-None-clause-value c =
    let task = c.args.here.now.task.now in
    let n = fluent_count task in
    let m = moves_value n c.args.self.now in
    let ts = states_after task (vector n c.args.here.now.state.now) c.args.rule.now.action.0 in
    let t = vector n c.step-after.result in
    let at : slice_index_or ts c.args.outcome [] ≡ t = get_or_from_slice_get ts c.args.outcome t [] c.step-after.ensures.after in
    subst (λ w. OnOk c.add_if_state.result (moves_value n c.add_if_state.new.self ≡ with_if_state (in_space task) (onward_value c.args.rule.now.onward) m w)) (sym at)
    c.add_if_state.ensures.value
