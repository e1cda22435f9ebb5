use Rattle.std.proofs.Common.{◌≡◌, ℕ, [], length}
use Rattle.ground_instances.specs.Entering.{list_of}
use Rattle.ground_instances.proofs.objects.lists_by_top.Given as goal

abbrev pub invariant-loop : goal.invariant-loop
invariant-loop l = record {
  lists : length l.lists.items ≡ l.index;
  empty : (t : ℕ) → list_of l.lists.items t ≡ [];
}
