use Rattle.std.proofs.Common.{◌<◌, length, slice_set, true, false, refl, sym, ◌∙◌, arith}
use Rattle.std.proofs.lemmas.List.{get_or_read}
use Rattle.task_core.specs.States.{vector}
use Rattle.task_core.specs.Tasks.{fluent_count, system_of}
use Rattle.plan_rules.specs.Rules.{rule_of}
use Rattle.exec_graph.specs.Moves.{moves_value}
use Rattle.exec_graph.proofs.Taken.{table_same, taken_more}
use Rattle.exec_graph.proofs.moves.Moves.add_matching.Goals as goal

pub returns-then-index-clause-value : goal.returns-then-index-clause-value
returns-then-index-clause-value c =
    let n = fluent_count c.args.here.now.task.now in
    let taken = c.args.taken.now.items in
    let action = c.args.rule.now.action.0 in
    let below = c.requires.in_task.action in
    let within : action < length taken = omega (arith, c.requires.count) in
    sym (table_same (system_of c.args.here.now.task.now) (vector n c.args.here.now.state.now) (moves_value n c.args.self.now) (rule_of c.args.rule.now)
    (c.requires.taken action (sym (get_or_read taken action c.index.result.now within c.index.ensures false) ∙ c.if-index.true)))

pub returns-clause-taken : goal.returns-clause-taken
returns-clause-taken c =
    let n = fluent_count c.args.here.now.task.now in
    let taken = c.args.taken.now.items in
    taken_more (system_of c.args.here.now.task.now) (vector n c.args.here.now.state.now) (moves_value n c.args.self.now) (moves_value n c.add_rule.new.self) (rule_of c.args.rule.now) taken
    (slice_set taken c.args.rule.now.action.0 true) c.in_ok-add_rule.ensures.value refl c.requires.taken
