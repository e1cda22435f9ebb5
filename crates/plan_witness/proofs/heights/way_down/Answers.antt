use Rattle.std.proofs.Common.{◌∷◌, [], ℕ, length, sym, subst, ap, ◌∙◌, arith}
use Rattle.std.specs.List.{Contains}
use Rattle.std.proofs.lemmas.List.{length_push}
use Rattle.exec_graph.specs.Values.{followers_at}
use Rattle.plan_check.proofs.WalkFacts.{last_append, walk_append}
use Rattle.plan_check.specs.Walks.{IsWalk, last_number}
use Rattle.plan_witness.proofs.heights.way_down.Goals as goal

pub down-preserved : goal.down-preserved
down-preserved g c =
    let next = followers_at c.args.graph.now in
    let start = c.args.start in
    let old = c.down.numbers.items in
    let j = c.one_below-number.result in
    let i = c.down.invariant in
    let below = c.one_below-number.ensures in
    let follows : Contains (next (last_number start old)) j = subst (λ (k : ℕ). Contains (next k) j) (sym i.ends) below.follows in
    let pushed = c.in_ok-push.ensures.items in
    record {
      below = c.requires.inside c.down.number j i.below below.follows;
      walk = subst (IsWalk next start) (sym pushed) (walk_append next start old (j ∷ []) i.walk (follows, tt));
      ends = ap (last_number start) pushed ∙ last_append start old (j ∷ []);
      long = let grown = ap length pushed ∙ length_push old j in let lower = below.lower in let long = i.long in omega (arith, grown, lower, long);
    }
