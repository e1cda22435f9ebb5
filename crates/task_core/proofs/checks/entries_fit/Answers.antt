use Rattle.std.proofs.Common.{ap, sym, ◌∙◌}
use Rattle.std.specs.Prelude.{Vec}
use Rattle.std.specs.declared.alloc.Global.{Global}
use Rattle.std.specs.List.{list_all}
use Rattle.std.proofs.lemmas.List.Folds.{list_all-map}
use Rattle.task_core.specs.Initial.{entry_of, entry_within}
use Rattle.task_core.specs.declared.actions.Alternative.{Alternative}
use Rattle.task_core.proofs.checks.entries_fit.Goals as goal

pub loop-entry-init : goal.loop-entry-init
loop-entry-init c =
    let n = c.args.fluents in
    ap (list_all (λ (entry : Vec Alternative Global). entry_within n (entry_of entry.items))) c.deref-entry-items.ensures.value
    ∙ sym (list_all-map (entry_within n) (λ (entry : Vec Alternative Global). entry_of entry.items) c.args.init.now.entries.items)
