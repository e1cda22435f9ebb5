-- The table of a search that found no room holds the sets of the task alone, and as many nodes as it may.
use Rattle.std.proofs.Common.{◌≡◌, ℕ, [], Contains, ◌∙◌, sym, subst, arith, inl, inr}
use Rattle.dd_nodes.specs.Subfunctions.{Function}
use Rattle.dd_sets.specs.Frames.{Owns}
use Rattle.dd_sets.specs.LiveSets.{IsLive, IsSets}
use Rattle.dd_sets.specs.Rooms.{IsAtLimit}
use Rattle.encode_task.specs.KeptSets.{kept_sets}
use Rattle.encode_task.specs.Made.{MadeOf}
use Rattle.encode_task.specs.Slots.{Encoded}
use Rattle.task_core.specs.Tasks.{initial_states}
use Rattle.task_core.specs.declared.tasks.Task.{Task}
use Rattle.task_sets.specs.FullTables.{AreEncoded, IsFilled, IsFullTry, IsTightToEncode}

-- the sets of a task that are kept without others are still encoded
encoded_after : (nodes : ℕ) (t : Task) (before after : Encoded) → AreEncoded nodes t before → MadeOf t after → Owns before.sets after.sets [] → AreEncoded nodes t after
encoded_after nodes t before after encoded made owns = record {
  made = made;
  limit = owns.kept.limit ∙ encoded.limit;
  order = owns.kept.order ∙ encoded.order;
  few = omega (arith, owns.count, encoded.few);
  are_kept = λ slot live.
      let was : IsLive before.sets slot = sym (owns.live slot) ∙ live in
      subst (λ (set : Function). Contains (kept_sets t) set) (sym (owns.kept.sets slot was)) (encoded.are_kept slot was);
}

-- and where the search found no room, the table is at its limit
pub filled_after : (nodes : ℕ) (t : Task) (before after : Encoded) → AreEncoded nodes t before → MadeOf t after → Owns before.sets after.sets [] → IsSets after.sets → IsAtLimit after.sets
    → IsFilled nodes t
filled_after nodes t before after encoded made owns sound at_limit = record {
  enc = after;
  encoded = encoded_after nodes t before after encoded made owns;
  sound = sound;
  at_limit = at_limit;
}

-- without an initial state the sets of the task alone had no room
pub not_begun : (nodes : ℕ) (t : Task) (LacksRoom : Encoded → Encoded → Type 0) → IsFullTry nodes t LacksRoom → initial_states t ≡ [] → IsTightToEncode nodes t
not_begun nodes t LacksRoom (inl tight) none = tight
not_begun nodes t LacksRoom (inr searched) none = absurd (searched.some none)
