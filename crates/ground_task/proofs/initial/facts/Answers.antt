use Rattle.std.proofs.Common.{◌<◌, false, length, ap, ◌∙◌, sym, arith}
use Rattle.std.proofs.lemmas.List.{get_or-map}
use Rattle.ground_instances.specs.Atoms.{atom_tree}
use Rattle.ground_instances.specs.Tables.{setting_in}
use Rattle.pddl_system.specs.Systems.{facts_of}
use Rattle.task_core.specs.States.{truth}
use Rattle.task_core.specs.Vectors.{value_of}
use Rattle.ground_task.proofs.FactLemmas.{below_more}
use Rattle.ground_task.proofs.initial.facts.Goals as goal

pub loop-place-preserved : goal.loop-place-preserved
loop-place-preserved c =
    let at = setting_in c.args.setting.now in
    let a = atom_tree c.atom.result.now in
    let k = c.loop-place.place in
    let there : k < length c.args.fluents.now = omega (arith, c.len-place-end.ensures.count, c.loop-place-test.true) in
    below_more (truth c.loop-place.state) (truth c.with-state.result) (value_of (facts_of at c.args.fluents.now)) k c.loop-place.invariant
    (c.with-state.ensures.changed ∙ c.is_fact-value.ensures ∙ ap at.is_fact (c.atom.ensures a) ∙ sym (get_or-map at.is_fact c.args.fluents.now k a false there))
    c.with-state.ensures.others
