use Rattle.pulgazer_top.proofs.NodeNumbers.{nodes_are}
use Rattle.pulgazer_top.proofs.requests.nodes_in.Goals as goal

pub returns-in-Some-clause-said : goal.returns-in-Some-clause-said
returns-in-Some-clause-said c = nodes_are c.args.word.now c.in-Some.nodes c.in-Some.ensures.0 c.in-Some.ensures.1
