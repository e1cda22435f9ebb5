use Rattle.sexpr_text.proofs.FlawLaws.{in_order-first_of, in_order-from, in_order-up_to, in_order-append}
use Rattle.sexpr_text.proofs.flaw_laws.listed_in_order.Goals as goal

pub returns : goal.returns
returns c = record { first = in_order-first_of; from = in_order-from; up_to = in_order-up_to; joined = in_order-append }
