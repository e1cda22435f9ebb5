use Rattle.std.proofs.Common.{◌≡◌, ◌<◌, ◌∙◌, [], ◌∷◌, ap, arith, get_or, length, refl, subst, sym}
use Rattle.std.proofs.lemmas.Result.{err_from_is_err_and}
use Rattle.task_core.specs.Cubes.{Cube}
use Rattle.task_core.specs.Tasks.{fluent_count}
use Rattle.encode_task.specs.TaskSets.{cube_set}
use Rattle.slot_board.proofs.Endings.{found_of, passed_on}
use Rattle.cert_check.specs.Sizes.{CubesFit}
use Rattle.cert_check.specs.Sets.{meets}
use Rattle.cert_check.proofs.CubeLoops.{cube_fits, cubes_ended, cubes_found, cubes_more}
use Rattle.cert_check.proofs.judging.some_matches_left.Goals as goal

pub loop-cube-init : goal.loop-cube-init
loop-cube-init c start f g b left fits = (left, refl)

pub matches_left-requires : goal.matches_left-requires
matches_left-requires c =
    let r = c.requires in
    let within : c.loop-cube.cube-index < length c.args.set.now.cubes.items = omega (arith, c.loop-cube-test.true, ap length c.deref-cube-items.ensures.value) in
    let is : c.cube-item.result ≡ get_or c.args.set.now.cubes.items c.loop-cube.cube-index c.cube-item.result = c.cube-item.is ∙ ap (λ xs. get_or xs c.loop-cube.cube-index c.cube-item.result) c.deref-cube-items.ensures.value in
    let half = c.loop-cube.invariant r.0 r.1 r.2 r.3 r.4 r.5 in
    (r.0, r.1, r.2, r.3, half.0, subst (λ (cube : Cube). CubesFit r.0 r.3 (cube ∷ [])) (sym c.deref.ensures.value) (cube_fits r.0 r.3 c.args.set.now.cubes.items c.loop-cube.cube-index c.cube-item.result r.5 within is))

pub returns-in_err-matches_left : goal.returns-in_err-matches_left
returns-in_err-matches_left c start f g b left fits =
    let within : c.loop-cube.cube-index < length c.args.set.now.cubes.items = omega (arith, c.loop-cube-test.true, ap length c.deref-cube-items.ensures.value) in
    let is : c.cube-item.result ≡ get_or c.args.set.now.cubes.items c.loop-cube.cube-index c.cube-item.result = c.cube-item.is ∙ ap (λ xs. get_or xs c.loop-cube.cube-index c.cube-item.result) c.deref-cube-items.ensures.value in
    let half = c.loop-cube.invariant start f g b left fits in
    passed_on start c.matches_left.new.enc c.matches_left.new.board.slots.items _ _ c.matches_left.result c.from_residual.result _ c.in_err-matches_left.was (err_from_is_err_and c.from_residual.result c.from_residual.ensures.1)
    (c.matches_left.ensures start f g b half.0 (subst (λ (cube : Cube). CubesFit start b (cube ∷ [])) (sym c.deref.ensures.value) (cube_fits start b c.args.set.now.cubes.items c.loop-cube.cube-index c.cube-item.result fits within is)))

pub returns-then-branch : goal.returns-then-branch
returns-then-branch c start f g b left fits =
    let within : c.loop-cube.cube-index < length c.args.set.now.cubes.items = omega (arith, c.loop-cube-test.true, ap length c.deref-cube-items.ensures.value) in
    let is : c.cube-item.result ≡ get_or c.args.set.now.cubes.items c.loop-cube.cube-index c.cube-item.result = c.cube-item.is ∙ ap (λ xs. get_or xs c.loop-cube.cube-index c.cube-item.result) c.deref-cube-items.ensures.value in
    let half = c.loop-cube.invariant start f g b left fits in
    let now = found_of start c.matches_left.new.enc c.matches_left.new.board.slots.items _ c.matches_left.result _ c.in_ok-matches_left.was (c.matches_left.ensures start f g b half.0 (subst (λ (cube : Cube). CubesFit start b (cube ∷ [])) (sym c.deref.ensures.value) (cube_fits start b c.args.set.now.cubes.items c.loop-cube.cube-index c.cube-item.result fits within is))) in
    (now.0, cubes_found (λ cube. meets (fluent_count start.task) (cube_set cube) b) c.args.set.now.cubes.items _ c.loop-cube.cube-index c.cube-item.result within is half.1 (sym c.if-branch.true ∙ now.1 ∙ ap (λ (cube : Cube). meets (fluent_count start.task) (cube_set cube) b) c.deref.ensures.value))

pub loop-cube-preserved : goal.loop-cube-preserved
loop-cube-preserved c start f g b left fits =
    let within : c.loop-cube.cube-index < length c.args.set.now.cubes.items = omega (arith, c.loop-cube-test.true, ap length c.deref-cube-items.ensures.value) in
    let is : c.cube-item.result ≡ get_or c.args.set.now.cubes.items c.loop-cube.cube-index c.cube-item.result = c.cube-item.is ∙ ap (λ xs. get_or xs c.loop-cube.cube-index c.cube-item.result) c.deref-cube-items.ensures.value in
    let half = c.loop-cube.invariant start f g b left fits in
    let now = found_of start c.matches_left.new.enc c.matches_left.new.board.slots.items _ c.matches_left.result _ c.in_ok-matches_left.was (c.matches_left.ensures start f g b half.0 (subst (λ (cube : Cube). CubesFit start b (cube ∷ [])) (sym c.deref.ensures.value) (cube_fits start b c.args.set.now.cubes.items c.loop-cube.cube-index c.cube-item.result fits within is))) in
    (now.0, cubes_more (λ cube. meets (fluent_count start.task) (cube_set cube) b) c.args.set.now.cubes.items _ c.loop-cube.cube-index c.cube-item.result within is half.1 (sym c.if-branch.false ∙ now.1 ∙ ap (λ (cube : Cube). meets (fluent_count start.task) (cube_set cube) b) c.deref.ensures.value))

pub returns : goal.returns
returns c start f g b left fits =
    let half = c.loop-cube.invariant start f g b left fits in
    (half.0, cubes_ended (λ cube. meets (fluent_count start.task) (cube_set cube) b) c.args.set.now.cubes.items _ c.loop-cube.cube-index (omega (arith, c.loop-cube-test.false, ap length c.deref-cube-items.ensures.value)) half.1)
