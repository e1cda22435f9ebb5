-- No slot is listed.
use Rattle.std.proofs.Common.{not, sym, ap, ◌∙◌, is_some}
use Rattle.std.proofs.Math.Bool.{not-not}
use Rattle.encode_task.proofs.left_alone.leaves.Goals as goal

pub returns : goal.returns
returns c = sym (not-not c.is_none.result) ∙ ap not (sym c.is_none.ensures) ∙ ap (λ s. not (is_some s)) c.slot_for.ensures
