use Rattle.std.proofs.Common.{◌≡◌, ◌↔◌, ◌<◌, ℕ, Bool, List, length, sym, ap, ◌∙◌, subst, rules}
use Rattle.std.specs.Prelude.{Vec}
use Rattle.std.specs.declared.alloc.Global.{Global}
use Rattle.std.proofs.lemmas.Result.{IfOk-weaker}
use Rattle.exec_graph.specs.Values.{followers_at, graph_size}
use Rattle.plan_check.specs.Labels.{IsNegated}
use Rattle.plan_check.specs.Walks.{IsMarked, LeadsToMarked}
use Rattle.plan_witness.proofs.Meanings.{none_lead}
use Rattle.plan_witness.proofs.unreachable.not_leading.Goals as goal

pub returns-clause-marked : goal.returns-clause-marked
returns-clause-marked g c =
    let n = graph_size c.args.graph.now in
    let next = followers_at c.args.graph.now in
    let ends = c.args.ends.now in
    let lead = c.deref.result.now in
    let copied : c.in_ok-lead.lead.items ≡ ends = search rules in
    let leads = subst (λ (ms : List Bool). (i : ℕ) → i < n → IsMarked ms i ↔ LeadsToMarked next ends i) (sym c.deref.ensures.value)
    (subst (λ (es : List Bool). (i : ℕ) → i < n → IsMarked c.mark_leading.new.marks.items i ↔ LeadsToMarked next es i) copied c.in_ok-mark_leading.ensures.leading) in
    IfOk-weaker c.negated.result (λ (others : Vec Bool Global). IsNegated (length lead) lead others.items) (λ (others : Vec Bool Global). (i : ℕ) → i < n → IsMarked others.items i ↔ (LeadsToMarked next ends i → ⊥))
    (λ others is. none_lead n next ends lead others.items (ap length c.deref.ensures.value ∙ c.in_ok-mark_leading.ensures.count) leads is) c.negated.ensures
