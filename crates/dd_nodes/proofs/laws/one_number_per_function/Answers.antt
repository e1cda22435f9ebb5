-- The law is the induction of `Canonicity`.
use Rattle.std.proofs.Common.{ap}
use Rattle.dd_nodes.specs.NodeList.{function}
use Rattle.dd_nodes.proofs.Canonicity.{canonical}
use Rattle.dd_nodes.proofs.laws.one_number_per_function.Goals as goal

pub returns : goal.returns
returns c vars nodes reduced m n number_m number_n =
    ((λ same. canonical vars nodes reduced m n number_m number_n (λ values. ap (λ f. f values) same)), (λ equal. ap (function nodes) equal))
