use Rattle.std.proofs.Common.{◌∙◌}
use Rattle.dead_ends.proofs.Straying.{any_same}
use Rattle.dead_ends.proofs.strays.is_among.Goals as goal

pub returns : goal.returns
returns c = λ n within each. c.is_listed.ensures ∙ any_same n c.args.state.now c.args.states.now within each
