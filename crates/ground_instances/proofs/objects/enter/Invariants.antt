use Rattle.std.proofs.Common.{◌≡◌, ℕ, suc, ◌<◌, ◌++◌, length}
use Rattle.pddl_ast.specs.Fits.{ancestor}
use Rattle.ground_instances.specs.Entering.{list_of}
use Rattle.ground_instances.proofs.EnteringLemmas.{reaches, if_so}
use Rattle.ground_instances.proofs.objects.enter.Given as goal

abbrev pub invariant-loop : goal.invariant-loop
invariant-loop l = record {
  kind : l.kind ≡ ancestor l.parents l.counter l.type_id;
  known : l.kind < length l.parents;
  lists : length l.lists.items ≡ length l.parents;
  entered : (t : ℕ) → t < length l.parents → list_of l.lists.items t ≡ list_of l.fn.lists.items t ++ if_so (reaches l.parents l.type_id t (suc l.counter)) l.object;
}
