use Rattle.std.proofs.Common.{◌≡◌, ◌&&◌, ap, ◌∙◌}
use Rattle.task_core.specs.Vectors.{value_of, same_value}
use Rattle.task_core.specs.declared.literals.FluentId.{FluentId}
use Rattle.cube_index.specs.declared.blocks.Test.{Test}
use Rattle.cube_index.specs.Agreement.{agrees, wanted_at}
use Rattle.cube_index.proofs.TestLists.{list_all_set}
use Rattle.cube_index.proofs.blocks.Block.want.Goals as goal

pub returns-in-Some-clause-narrowed : goal.returns-in-Some-clause-narrowed
returns-in-Some-clause-narrowed c = λ v k h.
    let lit = c.args.lit in
    let old : Test = c.index.result.now in
    let fluent : old.fluent ≡ lit.fluent = ap (λ (t : Test). t.fluent) c.index.ensures ∙ c.in-Some.ensures.fluent old in
    list_all_set (agrees v k) c.args.self.now.tests.items c.in-Some.number c.wanting.result old
    (wanted_at c.args.place k (same_value (value_of v lit.fluent.0) lit.positive)) c.in-Some.ensures.within
    (c.wanting.ensures.narrowed v k h
    ∙ ap (λ (f : FluentId). agrees v k old && wanted_at c.args.place k (same_value (value_of v f.0) lit.positive)) fluent
    ∙ ap (λ (t : Test). agrees v k t && wanted_at c.args.place k (same_value (value_of v lit.fluent.0) lit.positive)) c.index.ensures)
