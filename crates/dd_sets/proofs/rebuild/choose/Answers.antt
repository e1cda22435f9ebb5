-- The variable's number, and then the choice.
use Rattle.std.proofs.Common.{◌≡◌, IfOk, subst}
use Rattle.dd_nodes.specs.declared.node.Ref.{Ref}
use Rattle.dd_nodes.specs.NodeList.{function}
use Rattle.dd_nodes.specs.Subfunctions.{Function}
use Rattle.dd_ops.specs.Operations.{ite_of}
use Rattle.dd_sets.proofs.RebuildLemmas.{keeps_answer, keeps_chain}
use Rattle.dd_sets.proofs.rebuild.choose.Goals as goal

pub returns-in_err-test-clause-kept : goal.returns-in_err-test-clause-kept
returns-in_err-test-clause-kept c = keeps_answer _ _ _ _ c.var.ensures.answers

pub returns-clause-kept : goal.returns-clause-kept
returns-clause-kept c = keeps_chain _ _ _ (keeps_answer _ _ _ _ c.var.ensures.answers) (keeps_answer _ _ _ _ c.ite.ensures.answers)

pub returns-clause-value : goal.returns-clause-value
returns-clause-value c =
    subst (λ (f : Function). IfOk c.ite.result (λ (r : Ref). function c.ite.new.self.nodes r.0 ≡ f))
    (λ i. ite_of (c.in_ok-test.ensures.answers.value i) (c.var.ensures.answers.earlier c.args.hi.0 c.requires.hi i) (c.var.ensures.answers.earlier c.args.lo.0 c.requires.lo i))
    c.ite.ensures.answers.value
