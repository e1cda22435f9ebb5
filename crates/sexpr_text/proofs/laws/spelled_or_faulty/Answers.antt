use Rattle.sexpr_text.proofs.OneAnswer.{spelled_or_faulty}
use Rattle.sexpr_text.proofs.laws.spelled_or_faulty.Goals as goal

pub returns : goal.returns
returns c = spelled_or_faulty
