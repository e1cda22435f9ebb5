use Rattle.std.proofs.Common.{◌≡◌, ℕ, ◌<◌, ◌⊎◌, length}
use Rattle.ground_instances.specs.Groups.{Begins}
use Rattle.ground_instances.proofs.GroupLemmas.{OnTheWay, unseen}
use Rattle.ground_instances.proofs.groups.go_up.Given as goal

abbrev pub invariant-loop-seen : goal.invariant-loop-seen
invariant-loop-seen l = record {
  known : l.kind < length l.parents;
  way : OnTheWay l.parents l.seen l.below l.kind l.before;
  begun : ((l.kind ≡ l.type_id) × (l.before ≡ l.type_id)) ⊎ Begins l.seen l.below l.type_id;
  kept : (t : ℕ) → Begins l.fn.seen l.fn.below t → Begins l.seen l.below t;
}

abbrev pub decreases-loop-seen : goal.decreases-loop-seen
decreases-loop-seen l = unseen l.seen
