-- The outcomes so far are taken into account.
use Rattle.std.proofs.Common.{◌≡◌, [], ◌∷◌}
use Rattle.dd_sets.specs.Frames.{Owns}
use Rattle.dd_sets.specs.LiveSets.{IsSets, set_of}
use Rattle.encode_task.specs.Made.{MadeOf}
use Rattle.task_core.specs.declared.tasks.Task.{Task}
use Rattle.preimage.proofs.OutcomeLemmas.{side_after}
use Rattle.preimage.proofs.preimages.all_on_side.Given as goal

abbrev pub invariant-loop-o : goal.invariant-loop-o
invariant-loop-o l = record {
  sound : IsSets l.enc.sets;
  same : l.enc ≡ record l.fn.enc { sets = l.enc.sets };
  owns : (task : Task) → MadeOf task l.fn.enc → Owns l.fn.enc.sets l.enc.sets ((l.rest.0, side_after l.fn.side task l.fn.a.0 (set_of l.fn.enc.sets l.fn.x.0) l.o) ∷ []);
}
