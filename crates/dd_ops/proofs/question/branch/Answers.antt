-- A node's child where it tests the variable, and else the number itself.
use Rattle.std.proofs.Common.{◌≡◌, ◌∙◌, sym, subst, ap, ◌≤◌, ℕ, Some, Bool, arith}
use Rattle.std.proofs.lemmas.Option.{none-some, same_Some}
use Rattle.dd_nodes.specs.declared.node.Node.{Node}
use Rattle.dd_nodes.specs.NodeList.{node_at}
use Rattle.dd_ops.specs.Answers.{IsBranch}
use Rattle.dd_ops.proofs.QuestionLemmas.{branch_hi, branch_lo, branch_own}
use Rattle.dd_ops.proofs.question.branch.Goals as goal

pub returns-then-value : goal.returns-then-value
returns-then-value c vars nodes reduced number is from =
    subst (λ (v : ℕ). IsBranch nodes v c.args.value c.args.f.0 c.in-Some.node.hi.0) c.if-node-var.true
    (subst (λ (b : Bool). IsBranch nodes c.in-Some.node.var b c.args.f.0 c.in-Some.node.hi.0) (sym c.if-value.true)
    (branch_hi nodes vars reduced c.args.f.0 c.in-Some.node (sym is ∙ c.in-Some.is)))

pub returns-else-value : goal.returns-else-value
returns-else-value c vars nodes reduced number is from =
    subst (λ (v : ℕ). IsBranch nodes v c.args.value c.args.f.0 c.in-Some.node.lo.0) c.if-node-var.true
    (subst (λ (b : Bool). IsBranch nodes c.in-Some.node.var b c.args.f.0 c.in-Some.node.lo.0) (sym c.if-value.false)
    (branch_lo nodes vars reduced c.args.f.0 c.in-Some.node (sym is ∙ c.in-Some.is)))

pub returns-in_default : goal.returns-in_default
returns-in_default c vars nodes reduced number is from = branch_own nodes vars reduced c.args.var c.args.value c.args.f.0 number
    (λ (node : Node) (there : node_at nodes c.args.f.0 ≡ Some node).
    let low : c.args.var ≤ node.var = from node there in
    let one : c.in-Some.node ≡ node = same_Some c.in-Some.node node (sym c.in-Some.is ∙ is ∙ there) in
    let equal : c.in-Some.node.var ≡ node.var = ap (λ (k : Node). k.var) one in
    let other = c.if-node-var.false in
    omega arith)

pub returns-in_default-2 : goal.returns-in_default-2
returns-in_default-2 c vars nodes reduced number is from = branch_own nodes vars reduced c.args.var c.args.value c.args.f.0 number
    (λ (node : Node) (there : node_at nodes c.args.f.0 ≡ Some node). absurd (none-some node (sym c.in_default.is ∙ is ∙ there)))
