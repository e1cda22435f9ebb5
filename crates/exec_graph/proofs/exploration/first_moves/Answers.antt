use Rattle.std.proofs.Common.{[], map, sym, ap, ◌∙◌, subst}
use Rattle.task_core.specs.Tasks.{fluent_count}
use Rattle.exec_graph.specs.Drafts.{beginnings}
use Rattle.exec_graph.specs.Moves.{configuration_of}
use Rattle.exec_graph.proofs.Listed.{AreDifferent, all_added_differ, none_differ}
use Rattle.exec_graph.proofs.exploration.first_moves.Goals as goal

pub returns-clause-list : goal.returns-clause-list
returns-clause-list c =
    let n = fluent_count c.args.task.now in
    ap (λ ps. map (configuration_of n) ps.keys) c.in_ok-moves.ensures.places ∙ c.in_ok-places.ensures.list n c.requires

pub returns-clause-before : goal.returns-clause-before
returns-clause-before c =
    let n = fluent_count c.args.task.now in
    let list = c.in_ok-places.ensures.list n c.requires in
    c.in_ok-moves.ensures.before n (c.in_ok-places.ensures.within n c.requires)
    (subst AreDifferent (sym list) (all_added_differ [] (beginnings n c.args.states.now) none_differ))
