use Rattle.std.specs.Prelude.{◌≡◌, ◌<◌, ◌&&◌, ℕ, take}
use Rattle.task_core.specs.Cubes.{matches}
use Rattle.task_core.specs.Vectors.{Vector}
use Rattle.cube_index.specs.Agreement.{AreTests, agrees_with_all, wanted_at}
use Rattle.cube_index.proofs.blocks.Block.add.Given as goal

-- the cube's literals so far are wanted
abbrev pub invariant-loop-lit : goal.invariant-loop-lit
invariant-loop-lit l = record {
  tests : AreTests l.self.tests.items;
  narrowed : (v : Vector) (k : ℕ) → k < 64
      → agrees_with_all v k l.self.tests.items
      ≡ (agrees_with_all v k l.fn.self.tests.items && wanted_at l.place k (matches (take l.lit-index l.cube) v));
}
