use Rattle.std.proofs.Common.{sym, subst}
use Rattle.list_laws.proofs.Options.{some_has}
use Rattle.exec_graph.specs.Values.{followers_at}
use Rattle.plan_check.specs.Walks.{IsWalk}
use Rattle.plan_witness.specs.Values.{steps_value}
use Rattle.task_core.specs.Tasks.{fluent_count}
use Rattle.goal_witness.specs.Walks.{IsAlong}
use Rattle.goal_witness.specs.Zones.{HasNoRound, IsZoneLasso, kept}
use Rattle.goal_witness.specs.declared.rounds.WayBack.{WayBack}
use Rattle.goal_witness.proofs.Found.{none_of}
use Rattle.goal_witness.proofs.Searched.{back_least, end_below, found_lasso, no_lasso_found, stem_least, zone}
use Rattle.goal_witness.proofs.runs.lasso_without.Goals as goal

pub lasso_from-requires-clause-zone : goal.lasso_from-requires-clause-zone
lasso_from-requires-clause-zone g c =
    zone c.args.scene.now c.requires.scene c.args.right.now c.in_ok-inside.inside.items c.requires.right c.in_ok-inside.ensures c.args.number c.requires.number c.requires.lacks c.deref.result.now c.deref.ensures.value

pub steps_of-requires-clause-walk : goal.steps_of-requires-clause-walk
steps_of-requires-clause-walk g c =
    let scene = c.args.scene.now in
    let read = c.deref.result.now in
    let found = c.in-Some.lasso in
    let lasso = some_has c.in_ok-lasso.field-0 (λ (w : WayBack). IsZoneLasso (kept (followers_at scene.graph.now) read) c.args.number w.stem.numbers.items w.stem.end w.back.start w.back.numbers.items) found c.in-Some.is c.in_ok-lasso.ensures.some in
    let least = stem_least scene c.requires.scene c.args.right.now c.in_ok-inside.inside.items c.requires.right c.in_ok-inside.ensures c.args.number c.requires.number c.requires.lacks read c.deref.ensures.value
    found.stem.numbers.items found.stem.end found.back.start found.back.numbers.items lasso in
    subst (IsWalk (followers_at scene.graph.now) c.args.number) (sym c.deref-in-Some.ensures.value) least.walk.walk

pub steps_back-requires-clause-end : goal.steps_back-requires-clause-end
steps_back-requires-clause-end g c =
    let scene = c.args.scene.now in
    let read = c.deref.result.now in
    let found = c.in-Some.lasso in
    let lasso = some_has c.in_ok-lasso.field-0 (λ (w : WayBack). IsZoneLasso (kept (followers_at scene.graph.now) read) c.args.number w.stem.numbers.items w.stem.end w.back.start w.back.numbers.items) found c.in-Some.is c.in_ok-lasso.ensures.some in
    end_below scene c.requires.scene c.args.right.now c.in_ok-inside.inside.items c.requires.right c.in_ok-inside.ensures c.args.number c.requires.number c.requires.lacks read c.deref.ensures.value
    found.stem.numbers.items found.stem.end found.back.start found.back.numbers.items lasso

pub steps_back-requires-clause-walk : goal.steps_back-requires-clause-walk
steps_back-requires-clause-walk g c =
    let scene = c.args.scene.now in
    let read = c.deref.result.now in
    let found = c.in-Some.lasso in
    let lasso = some_has c.in_ok-lasso.field-0 (λ (w : WayBack). IsZoneLasso (kept (followers_at scene.graph.now) read) c.args.number w.stem.numbers.items w.stem.end w.back.start w.back.numbers.items) found c.in-Some.is c.in_ok-lasso.ensures.some in
    (back_least scene c.requires.scene c.args.right.now c.in_ok-inside.inside.items c.requires.right c.in_ok-inside.ensures c.args.number c.requires.number c.requires.lacks read c.deref.ensures.value
    found.stem.numbers.items found.stem.end found.back.start found.back.numbers.items lasso).walk.walk

pub returns-in-Some-clause-some : goal.returns-in-Some-clause-some
returns-in-Some-clause-some g c =
    let scene = c.args.scene.now in
    let n = fluent_count scene.task.now in
    let read = c.deref.result.now in
    let found = c.in-Some.lasso in
    let lasso = some_has c.in_ok-lasso.field-0 (λ (w : WayBack). IsZoneLasso (kept (followers_at scene.graph.now) read) c.args.number w.stem.numbers.items w.stem.end w.back.start w.back.numbers.items) found c.in-Some.is c.in_ok-lasso.ensures.some in
    found_lasso scene c.requires.scene c.args.right.now c.in_ok-inside.inside.items c.requires.right c.in_ok-inside.ensures c.args.number c.requires.number c.requires.lacks read c.deref.ensures.value
    found.stem.numbers.items found.stem.end found.back.start found.back.numbers.items lasso
    (steps_value n c.in_ok-stem-in-Some.stem.items) (steps_value n c.in_ok-back-in-Some.back.items)
    (subst (λ ns. IsAlong scene c.args.number ns (steps_value n c.in_ok-stem-in-Some.stem.items)) c.deref-in-Some.ensures.value c.in_ok-stem-in-Some.ensures)
    c.in_ok-back-in-Some.ensures

pub returns-clause-none : goal.returns-clause-none
returns-clause-none g c =
    let scene = c.args.scene.now in
    let read = c.deref.result.now in
    no_lasso_found scene c.requires.scene c.args.right.now c.in_ok-inside.inside.items c.requires.right c.in_ok-inside.ensures c.args.number c.requires.number c.requires.lacks read c.deref.ensures.value
    (none_of c.in_ok-lasso.field-0 (HasNoRound (kept (followers_at scene.graph.now) read) c.args.number) c.in-None.is c.in_ok-lasso.ensures.none)
