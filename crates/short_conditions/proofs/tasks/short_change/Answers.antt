use Rattle.std.proofs.Common.{◌∙◌}
use Rattle.short_conditions.proofs.ReplaceLemmas.{change_replaces, is_short}
use Rattle.short_conditions.proofs.tasks.short_change.Goals as goal

pub returns : goal.returns
returns c =
    let e = c.in_ok-cond.ensures in
    change_replaces c.args.change.now _ (is_short c.args.change.now.cond c.in_ok-cond.cond e.same e.fluents e.depth) (c.in_ok-lits.ensures ∙ c.deref.ensures.value)
