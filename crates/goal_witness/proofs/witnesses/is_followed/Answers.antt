use Rattle.std.proofs.Common.{sym, ap, not, ◌∙◌}
use Rattle.std.proofs.lemmas.Bool.{false≢true}
use Rattle.list_laws.proofs.Booleans.{not_true}
use Rattle.goal_witness.proofs.witnesses.is_followed.Goals as goal

pub returns-then-unexecutable-clause-all : goal.returns-then-unexecutable-clause-all
returns-then-unexecutable-clause-all c = λ u s. absurd (false≢true (sym u ∙ (sym (c.unexecutable.ensures 0) ∙ c.if-unexecutable.true)))

pub returns-clause-unexecutable : goal.returns-clause-unexecutable
returns-clause-unexecutable c = λ t. sym (c.unexecutable.ensures 0) ∙ c.if-unexecutable.false

pub returns-clause-stuck : goal.returns-clause-stuck
returns-clause-stuck c = λ t. sym (c.stuck.ensures 0) ∙ not_true c.stuck.result t

pub returns-clause-all : goal.returns-clause-all
returns-clause-all c = λ u s. ap not (c.stuck.ensures 0 ∙ s)
