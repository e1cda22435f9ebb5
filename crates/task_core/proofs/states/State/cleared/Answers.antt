use Rattle.std.proofs.Common.{◌<◌, ◌/◌, length, arith}
use Rattle.task_core.proofs.Bits.{clear_bit_same, clear_bit_other}
use Rattle.task_core.proofs.states.State.cleared.Goals as goal

pub returns-clause-changed : goal.returns-clause-changed
returns-clause-changed c =
    let h : c.args.f.0 / 64 < length c.args.self.now.bits = omega arith in
    clear_bit_same c.args.self.now.bits c.args.f.0 h

pub returns-clause-others : goal.returns-clause-others
returns-clause-others c =
    let h : c.args.f.0 / 64 < length c.args.self.now.bits = omega arith in
    λ g ne. clear_bit_other c.args.self.now.bits c.args.f.0 g h ne
