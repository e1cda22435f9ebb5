use Rattle.std.proofs.Common.{◌≡◌, ◌<◌, ◌+◌, ◌++◌, ◌∷◌, [], false, nat_lt, length, get_or, sym, ap, ◌∙◌, subst}
use borrow.Author.Count.{below_more}
use Rattle.std.proofs.lemmas.List.{get_or_append_left, get_or_push, length_push}
use Rattle.plan_witness.proofs.runs.starts_of.Goals as goal

pub loop-i-preserved : goal.loop-i-preserved
loop-i-preserved c =
    let old = c.loop-i.marks.items in
    let x = c.initial.result in
    let i = c.loop-i.i in
    let inv = c.loop-i.invariant in
    let items = c.in_ok-push.ensures.items in
    record {
      count = ap length items ∙ (length_push old x ∙ ap (λ k. k + 1) inv.count);
      marked = λ k l.
          ap (λ xs. get_or xs k false) items
          ∙ below_more (λ j. get_or (old ++ x ∷ []) j false ≡ nat_lt j c.args.graph.now.initials) i
          (λ j b. get_or_append_left old (x ∷ []) false j (subst (λ n. j < n) (sym inv.count) b) ∙ inv.marked j b)
          (get_or_push old x false i inv.count ∙ c.initial.ensures 0)
          k l;
    }
