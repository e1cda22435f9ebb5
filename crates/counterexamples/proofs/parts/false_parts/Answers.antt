use Rattle.std.proofs.Common.{◌≡◌, ◌++◌, List, map, sym, ap, ◌∙◌, subst}
use Rattle.std.specs.List.{All}
use Rattle.list_laws.proofs.Elements.{All-unmap}
use Rattle.task_core.specs.declared.conditions.Cond.{Cond}
use Rattle.counterexamples.specs.Parts.{IsFalsePart}
use Rattle.counterexamples.proofs.parts.false_parts.Goals as goal

pub returns-clause-each : goal.returns-clause-each
returns-clause-each c =
    let h = c.in_ok-add_false_parts.ensures in
    let same = h.added ∙ ap (λ xs. map (λ part. part.now) xs ++ h.more) c.new-parts.ensures.items in
    All-unmap (IsFalsePart c.args.cond.now c.args.state.now) (λ part. part.now) c.add_false_parts.new.parts.items
    (subst (λ (parts : List Cond). All (IsFalsePart c.args.cond.now c.args.state.now) parts) (sym same) h.each)
