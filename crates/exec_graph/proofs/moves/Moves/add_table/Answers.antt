use Rattle.std.proofs.Common.{arith, map}
use Rattle.plan_rules.specs.Rules.{rule_of}
use Rattle.task_core.specs.States.{vector}
use Rattle.task_core.specs.Tasks.{fluent_count, system_of}
use Rattle.exec_graph.specs.Moves.{moves_value}
use Rattle.exec_graph.proofs.Skipped.{all_moves, begun_moves, more_moves, rule_at}
use Rattle.exec_graph.proofs.Grown.{grown_none, grown_on}
use Rattle.exec_graph.proofs.Taken.{none_taken}
use Rattle.std.proofs.lemmas.List.{length-map}
use Rattle.std.proofs.Common.{◌≡◌, ◌≤◌, length}
use Rattle.exec_graph.proofs.moves.Moves.add_table.Goals as goal

pub loop-place-init : goal.loop-place-init
loop-place-init c =
    let n = fluent_count c.args.here.now.task.now in
    let sys = system_of c.args.here.now.task.now in
    let v = vector n c.args.here.now.state.now in
    let listed = map rule_of c.args.rules.now in
    let count : length listed ≡ length c.args.rules.now = length-map c.args.rules.now rule_of in
    let first = c.next_rule-place.ensures in
    let begun = c.requires.none in
    record {
      value = begun_moves sys v listed (moves_value n c.args.self.now) c.next_rule-place.result begun (omega (arith, first.within, count)) first.none_before;
      place = first.within;
      moves = c.requires.moves;
      grown = grown_none n c.args.self.now;
      count = c.in_ok-taken.ensures.count;
      taken = none_taken sys v (moves_value n c.args.self.now) c.in_ok-taken.taken.items
          (λ a l. c.in_ok-taken.ensures.none a (omega (arith, l, c.in_ok-taken.ensures.count)));
    }

pub loop-place-preserved : goal.loop-place-preserved
loop-place-preserved c =
    let n = fluent_count c.args.here.now.task.now in
    let sys = system_of c.args.here.now.task.now in
    let v = vector n c.args.here.now.state.now in
    let listed = map rule_of c.args.rules.now in
    let count : length listed ≡ length c.args.rules.now = length-map c.args.rules.now rule_of in
    let k = c.loop-place.place in
    let next = c.next_rule-place-in-loop-place.ensures in
    let rule = c.index-rules-place.result in
    record {
      value = more_moves sys v listed (moves_value n c.loop-place.self) (moves_value n c.add_matching.new.self) k c.next_rule-place-in-loop-place.result (rule_of rule)
          (rule_at c.args.rules.now k rule c.loop-place-test.true c.index-rules-place.is) c.loop-place.invariant.value c.in_ok-add_matching.ensures.value
          next.from (omega (arith, next.within, count)) next.none_before;
      place = next.within;
      moves = c.in_ok-add_matching.ensures.moves;
      grown = grown_on n c.args.self.now c.loop-place.self c.add_matching.new.self c.loop-place.invariant.grown c.in_ok-add_matching.ensures.grown;
      count = c.in_ok-add_matching.ensures.count;
      taken = c.in_ok-add_matching.ensures.taken;
    }

pub returns-clause-value : goal.returns-clause-value
returns-clause-value c =
    let n = fluent_count c.args.here.now.task.now in
    let listed = map rule_of c.args.rules.now in
    let count : length listed ≡ length c.args.rules.now = length-map c.args.rules.now rule_of in
    let past : length listed ≤ c.loop-place.place = omega (arith, c.loop-place-test.false, count) in
    all_moves (system_of c.args.here.now.task.now) (vector n c.args.here.now.state.now) listed (moves_value n c.loop-place.self) c.loop-place.place past c.loop-place.invariant.value
