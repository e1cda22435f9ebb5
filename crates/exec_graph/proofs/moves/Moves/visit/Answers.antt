use Rattle.std.proofs.Common.{◌∙◌}
use Rattle.task_core.specs.Tasks.{fluent_count}
use Rattle.exec_graph.proofs.Grown.{grown_first}
use Rattle.exec_graph.proofs.moves.Moves.visit.Goals as goal

pub add_all-requires-clause-moves : goal.add_all-requires-clause-moves
add_all-requires-clause-moves c = c.begin.ensures.moves (fluent_count c.args.indexed.now.task.now) c.requires.before

pub returns-clause-visit : goal.returns-clause-visit
returns-clause-visit c = c.in_ok-add_all.ensures.grown.visit ∙ c.begin.ensures.visit

pub returns-clause-grown : goal.returns-clause-grown
returns-clause-grown c =
    let n = fluent_count c.args.indexed.now.task.now in
    grown_first n c.args.self.now c.begin.new.self c.add_all.new.self c.begin.ensures.places (c.begin.ensures.value n) c.in_ok-add_all.ensures.grown
