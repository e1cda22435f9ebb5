use Rattle.std.specs.Prelude.{◌≡◌, ◌<◌, ◌&&◌, ℕ, take}
use Rattle.cube_index.specs.Agreement.{agrees_with_all, has_bit}
use Rattle.cube_index.specs.Index.{values_of}
use Rattle.cube_index.proofs.blocks.Block.matching.Given as goal

-- the bits that are left agree with the tests so far
abbrev pub invariant-loop-test : goal.invariant-loop-test
invariant-loop-test l =
    (k : ℕ) → k < 64
    → has_bit l.left k ≡ (has_bit l.places k && agrees_with_all (values_of l.state) k (take l.test-index l.self.tests.items))
