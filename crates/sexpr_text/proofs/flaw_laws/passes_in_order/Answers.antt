use Rattle.sexpr_text.proofs.FlawLaws.{passes-end, passes-none, passes-first}
use Rattle.sexpr_text.proofs.flaw_laws.passes_in_order.Goals as goal

pub returns : goal.returns
returns c = record { none = passes-end; later = passes-none; first = passes-first }
