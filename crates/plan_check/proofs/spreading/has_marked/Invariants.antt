use Rattle.std.proofs.Common.{◌≡◌, ◌+◌, ◌≤◌, drop, length}
use Rattle.exec_graph.specs.Values.{followers_at}
use Rattle.plan_check.specs.Labels.{is_led, mark_at}
use Rattle.plan_check.specs.declared.spreading.Need.TheVariants.{One}
use Rattle.plan_check.proofs.spreading.has_marked.Given as goal

abbrev pub invariant-loop-k : goal.invariant-loop-k
invariant-loop-k g l = record {
  led : is_led One (mark_at l.marks) (drop l.k (followers_at l.graph l.number)) ≡ is_led One (mark_at l.marks) (followers_at l.graph l.number);
  steps : l.steps ≡ l.initial.steps + l.k;
  inside : l.k ≤ length (followers_at l.graph l.number);
}
