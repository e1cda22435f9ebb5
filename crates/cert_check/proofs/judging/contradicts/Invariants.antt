use Rattle.std.proofs.Common.{◌≡◌, drop}
use Rattle.std.specs.List.{list_any}
use Rattle.cert_check.specs.Sets.{contradicts, is_opposite}
use Rattle.cert_check.proofs.judging.contradicts.Given as goal

-- none so far has an opposite
abbrev pub invariant-loop-lit : goal.invariant-loop-lit
invariant-loop-lit l = list_any (λ lit. list_any (is_opposite lit) l.cube) (drop l.lit-index l.cube) ≡ contradicts l.cube
