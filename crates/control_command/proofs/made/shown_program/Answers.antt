use Rattle.std.proofs.Common.{refl}
use Rattle.control_command.proofs.made.shown_program.Goals as goal

pub returns : goal.returns
returns c = λ text. record {
  bytes = c.in_ok-program.program.items;
  shown_as = c.in_ok-program.ensures.text;
  shown = refl;
}
