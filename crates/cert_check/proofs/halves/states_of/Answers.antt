-- The lists among the states.
use Rattle.std.proofs.Common.{ap, map, subst, ◌∙◌, ◌≡◌}
use Rattle.dd_nodes.specs.Subfunctions.{Function}
use Rattle.dd_ops.specs.Operations.{and_of}
use Rattle.dd_sets.specs.Frames.{OwnsAnswer}
use Rattle.dd_sets.specs.LiveSets.{LiveSets, set_of}
use Rattle.encode_task.specs.TaskSets.{space_set}
use Rattle.plan_certs.specs.Named.{cube_of}
use Rattle.plan_certs.specs.Named.{set_of as cubes_in}
use Rattle.cert_check.specs.Sets.{some_cube, states_in}
use Rattle.cert_check.proofs.HalfLemmas.{states_among}
use Rattle.cert_check.proofs.halves.states_of.Goals as goal

pub returns-clause-answer : goal.returns-clause-answer
returns-clause-answer c task made =
    let sets = c.args.enc.now.sets in
    let eq : and_of (some_cube (map cube_of c.deref.result.now)) (set_of sets c.space-space.result.0) ≡ states_in task (cubes_in c.args.set.now) =
    (λ i. and_of (some_cube (map cube_of (c.deref.ensures.value i))) (set_of sets (c.space-space.ensures i).0))
    ∙ ap (and_of (some_cube (cubes_in c.args.set.now))) made.space.holds
    ∙ states_among (cubes_in c.args.set.now) (space_set task) in
    subst (λ (f : Function). OwnsAnswer sets c.lists_in-states.new.sets f c.lists_in-states.result) eq
    (subst (λ (s : LiveSets). OwnsAnswer s c.lists_in-states.new.sets (and_of (some_cube (map cube_of c.deref.result.now)) (set_of s c.space-space.result.0)) c.lists_in-states.result) c.sets_mut.ensures.value c.lists_in-states.ensures)
