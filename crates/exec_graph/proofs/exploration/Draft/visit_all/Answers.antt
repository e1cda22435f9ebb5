use Rattle.std.proofs.Common.{arith}
use Rattle.std.proofs.lemmas.List.{length-map}
use Rattle.std.proofs.lemmas.Result.{err_from_is_err_and}
use Rattle.task_core.specs.Tasks.{fluent_count, system_of}
use Rattle.task_core.proofs.TaskSystem.{is_system}
use Rattle.plan_rules.specs.Rules.{plain_of}
use Rattle.exec_graph.specs.Drafts.{draft_value}
use Rattle.exec_graph.specs.Moves.{configuration_of}
use Rattle.exec_graph.specs.Rows.{row_count, row_of}
use Rattle.exec_graph.proofs.RowFacts.{firsts_length}
use Rattle.exec_graph.proofs.Searching.{searched_visit, too_many_reached}
use Rattle.exec_graph.proofs.exploration.Draft.visit_all.Goals as goal

pub loop-alloc-preserved : goal.loop-alloc-preserved
loop-alloc-preserved c =
    let n = fluent_count c.args.indexed.now.task.now in
    record {
      rows = c.in_ok-visit_next.ensures.rows;
      searched = searched_visit (system_of c.args.indexed.now.task.now) (plain_of c.args.indexed.now.plan.now) (is_system c.args.indexed.now.task.now)
          (draft_value n c.loop-alloc.self) (draft_value n c.visit_next.new.self) c.loop-alloc.invariant.searched c.in_ok-visit_next.ensures.visit;
      within = c.in_ok-visit_next.ensures.within;
      few = c.in_ok-visit_next.ensures.few;
    }

pub returns-in_err-visit_next-clause-too_large : goal.returns-in_err-visit_next-clause-too_large
returns-in_err-visit_next-clause-too_large c =
    let p = err_from_is_err_and c.from_residual.result c.from_residual.ensures.1 in
    rw (p.1, p.2) (λ is.
    too_many_reached (system_of c.args.indexed.now.task.now) (plain_of c.args.indexed.now.plan.now) (is_system c.args.indexed.now.task.now) 262144
    (draft_value (fluent_count c.args.indexed.now.task.now) c.loop-alloc.self) c.loop-alloc.invariant.searched (c.in_err-visit_next.ensures.too_large is))

pub returns-clause-whole : goal.returns-clause-whole
returns-clause-whole c =
    let draft = c.loop-alloc.self in
    let fewer = c.loop-alloc.invariant.searched.fewer in
    omega (arith, firsts_length (row_of draft.next) (row_count draft.next), length-map draft.moves.places.keys (configuration_of (fluent_count c.args.indexed.now.task.now)), c.len.ensures, c.len-in-loop-alloc.ensures.len)
