use Rattle.std.proofs.Common.{length}
use Rattle.pulgazer_top.proofs.requests.+operand_mistake.Given as goal

abbrev pub decreases-operand_mistake : goal.decreases-operand_mistake
decreases-operand_mistake l = length l.operands.now
