use Rattle.std.proofs.Common.{◌≡◌, drop}
use Rattle.std.specs.List.{list_any}
use Rattle.cert_check.specs.Sets.{is_opposite}
use Rattle.cert_check.proofs.judging.has_opposite.Given as goal

-- none so far is opposite
abbrev pub invariant-loop-other : goal.invariant-loop-other
invariant-loop-other l = list_any (is_opposite l.lit) (drop l.other-index l.cube) ≡ list_any (is_opposite l.lit) l.cube
