use Rattle.std.specs.Prelude.{◌≡◌, ◌<◌, ◌≤◌, ◌*◌, ℕ, false, slice_index_or}
use Rattle.cube_index.specs.Index.{answers, values_of}
use Rattle.cube_index.proofs.index.CubeIndex.next_match.Given as goal

-- the blocks so far have no match
abbrev pub invariant-loop-number : goal.invariant-loop-number
invariant-loop-number l =
    (k : ℕ) → l.from ≤ k → k < 64 * l.number → k < l.end
    → slice_index_or (answers l.self (values_of l.state)) k false ≡ false
