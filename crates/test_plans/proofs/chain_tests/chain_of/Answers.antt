use Rattle.std.proofs.Common.{arith}
use Rattle.test_plans.proofs.chain_tests.chain_of.Goals as goal

pub returns : goal.returns
returns c = record {
  few = omega (arith, c.in_ok-stages.ensures.long, c.requires.few);
  names = record { stages = c.in_ok-stages.ensures.names; keep = c.requires.keep.names };
  shallow = record { stages = c.in_ok-stages.ensures.shallow; keep = c.requires.keep.shallow };
}
