use Rattle.std.specs.Prelude.{◌≡◌, ◌<◌, ℕ, [], map, slice_index_or, if◌then◌else◌, nat_lt, true}
use Rattle.task_core.specs.Cubes.{matches}
use Rattle.task_core.specs.Vectors.{Vector}
use Rattle.cube_index.specs.Agreement.{AreTests, agrees_with_all}
use Rattle.cube_index.proofs.blocks.Block.new.Given as goal

-- each cube so far agrees where it matches, and the places after them agree anyhow
abbrev pub invariant-loop-place : goal.invariant-loop-place
invariant-loop-place l = record {
  tests : AreTests l.block.tests.items;
  answers : (v : Vector) (k : ℕ) → k < 64
      → agrees_with_all v k l.block.tests.items
      ≡ (if nat_lt k l.place then matches (slice_index_or (map (λ cube. cube.now) l.cubes) k []) v else true);
}
