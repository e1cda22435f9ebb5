use Rattle.std.proofs.Common.{refl}
use Rattle.control_command.proofs.made.shown_document.Goals as goal

pub returns : goal.returns
returns c = λ text. record { bytes = c.in_ok-document.document.items; shown_as = c.in_ok-document.ensures; shown = refl }
