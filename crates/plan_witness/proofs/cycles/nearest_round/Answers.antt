use Rattle.std.proofs.Common.{◌≡◌, ◌<◌, ◌≤◌, ℕ, Option, sym, ◌∙◌, subst, arith, ⊎_elim}
use Rattle.std.specs.Option.{MatchOption}
use Rattle.std.proofs.lemmas.Bool.{cases_eq, false≢true}
use Rattle.exec_graph.specs.Values.{followers_at, graph_size}
use Rattle.plan_witness.specs.Ways.{IsOnRound, at, far}
use Rattle.plan_witness.proofs.Ranks.{found_kept}
use Rattle.plan_witness.proofs.cycles.nearest_round.Goals as goal
use Rattle.plan_witness.proofs.cycles.nearest_round.Goals.{then-branch, else-branch}

pub loop-i-preserved : goal.loop-i-preserved
loop-i-preserved g c =
    let n = graph_size c.args.graph.now in
    let next = followers_at c.args.graph.now in
    let lengths = c.args.ways.now.lengths.items in
    let i = c.loop-i.i in
    let before = c.loop-i.invariant in
    let on = c.in_ok-comes_back.ensures in
    elim c.if-branch.branch [
      | then-branch w ↦
          let here : c.if-branch.least ≡ at lengths i = w.least-is ∙ w.length_at-least.ensures in
          let less : at lengths i < c.loop-i.least = omega (arith, c.length_at.ensures, c.if-length_at-least.false) in
          let most = before.at_most in
          record {
            least = λ j l round.
                ⊎_elim
                (λ (e : j ≡ i). subst (λ (k : ℕ). c.if-branch.least ≤ at lengths k) (sym e) (omega (arith, here)))
                (λ (other : j ≡ i → ⊥). let old = before.least j (omega (arith, l, other)) round in omega (arith, here, less, old))
                (cases_eq j i);
            at_most = omega (arith, here, less, most);
            found =
                subst (λ (o : Option ℕ). MatchOption o (c.if-branch.least ≡ far) (λ k. (at lengths k ≡ c.if-branch.least) × IsOnRound next k × (k < n) × (c.if-branch.least < far))) (sym w.nearest-is)
                (sym here, on.0 w.if-branch.true, omega (arith, c.loop-i-test.true, c.len-i-end.ensures.len), omega (arith, here, less, most));
          }
      | else-branch w ↦
          record {
            least = λ j l round.
                ⊎_elim
                (λ (e : j ≡ i). absurd (false≢true (sym w.if-branch.false ∙ on.1 (subst (IsOnRound next) e round))))
                (λ (other : j ≡ i → ⊥). subst (λ (m : ℕ). m ≤ at lengths j) (sym w.least-is) (before.least j (omega (arith, l, other)) round))
                (cases_eq j i);
            at_most = subst (λ (m : ℕ). m ≤ far) (sym w.least-is) before.at_most;
            found = found_kept lengths (IsOnRound next) n c.if-branch.nearest c.loop-i.nearest c.if-branch.least c.loop-i.least w.nearest-is w.least-is before.found;
          }
    ]
