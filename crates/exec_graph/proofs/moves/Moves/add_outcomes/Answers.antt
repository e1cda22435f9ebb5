use Rattle.std.proofs.Common.{◌≡◌, ◌<◌, [], length, slice_index_or, arith, sym, ◌∙◌, ap, subst}
use Rattle.task_core.specs.Actions.{after}
use Rattle.task_core.specs.States.{vector}
use Rattle.task_core.specs.Tasks.{fluent_count, in_space, outcomes_at, states_after}
use Rattle.std.proofs.lemmas.List.{length-map}
use Rattle.std.proofs.lemmas.List.Sums.{fold_more}
use Rattle.exec_graph.specs.Counting.{with_if_state}
use Rattle.exec_graph.specs.Effects.{AreEffects}
use Rattle.plan_rules.specs.Advices.{onward_value}
use Rattle.exec_graph.specs.Moves.{moves_value}
use Rattle.exec_graph.proofs.Executes.{fold_all}
use Rattle.exec_graph.proofs.Grown.{grown_on}
use Rattle.exec_graph.proofs.moves.Moves.add_outcomes.Goals as goal

pub add_after-requires-clause-effects : goal.add_after-requires-clause-effects
add_after-requires-clause-effects c =
    subst (AreEffects c.args.here.now.task.now c.args.rule.now.action.0) (sym c.of-effects.ensures) (c.requires.effects c.args.rule.now.action.0)

pub loop-outcome-preserved : goal.loop-outcome-preserved
loop-outcome-preserved c =
    let task = c.args.here.now.task.now in
    let n = fluent_count task in
    let v = vector n c.args.here.now.state.now in
    let a = c.args.rule.now.action.0 in
    let f = with_if_state (in_space task) (onward_value c.args.rule.now.onward) in
    let outcomes = states_after task v a in
    let i = c.loop-outcome.outcome in
    let count = length-map (outcomes_at task a) (λ o. after n o v) in
    let below : i < length outcomes = omega (arith, count, c.loop-outcome-test.true, c.outcome_count-outcome-end.ensures) in
    record {
      value = c.in_ok-add_after.ensures.value
          ∙ ap (λ m. f m (slice_index_or outcomes i [])) c.loop-outcome.invariant.value
          ∙ sym (fold_more f (moves_value n c.args.self.now) outcomes i [] below);
      moves = c.in_ok-add_after.ensures.moves;
      grown = grown_on n c.args.self.now c.loop-outcome.self c.add_after.new.self c.loop-outcome.invariant.grown c.in_ok-add_after.ensures.grown;
    }

pub returns-clause-value : goal.returns-clause-value
returns-clause-value c =
    let n = fluent_count c.args.here.now.task.now in
    c.loop-outcome.invariant.value
    ∙ fold_all (onward_value c.args.rule.now.onward) (moves_value n c.args.self.now) c.args.here.now.task.now (vector n c.args.here.now.state.now) c.args.rule.now.action.0 c.loop-outcome.outcome c.requires.executable
    (let e : c.loop-outcome.outcome ≡ c.outcome_count-outcome-end.result = omega arith in e ∙ c.outcome_count-outcome-end.ensures)
