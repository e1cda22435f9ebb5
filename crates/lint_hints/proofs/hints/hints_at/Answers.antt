use Rattle.std.proofs.Common.{refl}
use Rattle.lint_hints.proofs.hints.hints_at.Goals as goal

pub returns : goal.returns
returns c =
    let judged = c.in_ok-is_judged.ensures c.if-not-branch.false in
    record {
      place = refl;
      sentences = c.in_ok-sentences.ensures;
      invariant = rw c.new-invariant.ensures.items at c.in_ok-push_invariant.ensures;
      judged = rw c.deref.ensures.value at judged;
    }
