use Rattle.std.proofs.Common.{◌≡◌, ℕ, ◌<◌, ◌++◌, drop, get_or, length, map}
use Rattle.ground_instances.specs.Entering.{AreBelow, entered, list_of}
use Rattle.ground_instances.proofs.objects.enter_all.Given as goal

abbrev pub invariant-loop-object : goal.invariant-loop-object
invariant-loop-object l = record {
  lists : length l.lists.items ≡ length l.parents;
  below : AreBelow l.object l.lists.items;
  entered : (t : ℕ) → t < length l.parents
      → list_of l.lists.items t ++ entered l.parents (drop l.object (map (λ d. get_or l.tops d 0) l.types)) l.object t
      ≡ list_of l.fn.lists.items t ++ entered l.parents (map (λ d. get_or l.tops d 0) l.types) 0 t;
}
