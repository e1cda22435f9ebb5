-- The draft stays a searched one; one configuration more is visited each time.
use Rattle.std.proofs.Common.{◌≤◌, ◌-◌, length}
use Rattle.task_core.specs.Tasks.{fluent_count, system_of}
use Rattle.plan_rules.specs.Rules.{plain_of}
use Rattle.exec_graph.specs.Rows.{AreRows, row_count}
use Rattle.exec_graph.specs.Drafts.{IsDraftWithin, IsSearched, draft_value}
use Rattle.exec_graph.proofs.exploration.Draft.visit_all.Given as goal

abbrev pub invariant-loop-alloc : goal.invariant-loop-alloc
invariant-loop-alloc l = record {
  rows : AreRows l.self.next;
  searched : IsSearched (system_of l.indexed.task.now) (plain_of l.indexed.plan.now) (draft_value (fluent_count l.indexed.task.now) l.self);
  within : IsDraftWithin (fluent_count l.indexed.task.now) l.self;
  few : length l.self.moves.places.keys ≤ 262144;
}

abbrev pub decreases-loop-alloc : goal.decreases-loop-alloc
decreases-loop-alloc l = 262144 - row_count l.self.next
