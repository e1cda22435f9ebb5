use Rattle.std.specs.Prelude.{◌≡◌, ◌<◌, ◌*◌, ℕ, [], All, length, map, slice_index_or}
use Rattle.task_core.specs.Cubes.{matches}
use Rattle.task_core.specs.Vectors.{Vector}
use Rattle.cube_index.specs.Agreement.{AreTests, answer}
use Rattle.cube_index.specs.Index.{tests_of}
use Rattle.cube_index.proofs.index.CubeIndex.new.Given as goal

-- the blocks so far answer for their cubes
abbrev pub invariant-loop-number : goal.invariant-loop-number
invariant-loop-number l = record {
  tests : All (λ block. AreTests block.tests.items) l.blocks.items;
  long : length l.blocks.items ≡ l.number;
  answers : (v : Vector) (k : ℕ) → k < 64 * l.number → k < length (map (λ cube. cube.now) l.cubes)
      → answer v (tests_of l.blocks.items) k ≡ matches (slice_index_or (map (λ cube. cube.now) l.cubes) k []) v;
}
