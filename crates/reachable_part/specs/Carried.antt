-- Tables of the larger system and of its reachable part that mean the same there.
use Rattle.std.specs.Prelude.{ℕ, ◌==◌, Bool, false, [], map, length, slice_get, slice_index_or, if◌then◌else◌}
use Rattle.std.specs.List.{Contains, filter, flat_map, range_with_len}
use Rattle.std.specs.Option.{option_map_or}
use Rattle.task_core.specs.Systems.{System, IsVector}
use Rattle.task_core.specs.Tables.{Table}
use Rattle.task_core.specs.Vectors.{Vector, same_vector}
use Rattle.reachable_part.specs.Parts.{Part, IsActionAt}

-- wherever the smaller system can be, both tables have the same actions
pub record IsCarried (small : System) (part : Part) (narrow wide : Table) : Type 0 where
  pub to : (w : Vector) (i : ℕ) → IsVector small w → Contains narrow (w, i)
      → (a : ℕ) × IsActionAt part i a × Contains wide (part.widened w, a)
  pub from : (w : Vector) (a : ℕ) → IsVector small w → Contains wide (part.widened w, a)
      → (i : ℕ) × IsActionAt part i a × Contains narrow (w, i)

-- a table of the smaller system, over the larger one
abbrev pub wide_pair : Part → Vector × ℕ → Vector × ℕ
wide_pair part pair = (part.widened pair.0, slice_index_or part.actions pair.1 0)

abbrev pub wide_table : Part → Table → Table
wide_table part narrow = map (wide_pair part) narrow

-- whether action i of the smaller system is action a
abbrev pub is_action_at : Part → ℕ → ℕ → Bool
is_action_at part a i = option_map_or (λ b. b == a) (slice_get part.actions i) false

-- a pair of the larger system, over the smaller one; none where no vector of it stands for the state
abbrev pub narrow_pairs : Part → Vector × ℕ → Table
narrow_pairs part pair = if same_vector (part.widened (part.narrowed pair.0)) pair.0
    then map (λ i. (part.narrowed pair.0, i))
    (filter (is_action_at part pair.1) (range_with_len 0 (length part.actions)))
    else []

-- the part of a table of the larger system that the smaller one has
abbrev pub narrow_table : Part → Table → Table
narrow_table part wide = flat_map (narrow_pairs part) wide
