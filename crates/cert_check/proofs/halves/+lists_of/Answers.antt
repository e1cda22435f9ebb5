-- The halves have fewer cubes, and match together what all match.
use Rattle.std.proofs.Common.{◌≡◌, ◌<◌, ◌++◌, ◌∙◌, length, arith, map, subst, sym}
use Rattle.dd_nodes.specs.Subfunctions.{Function}
use Rattle.dd_sets.specs.Frames.{OwnsAnswer}
use Rattle.dd_sets.proofs.OwnedLemmas.{both}
use Rattle.encode_task.proofs.HalfLemmas.{halves_some}
use Rattle.encode_task.proofs.PartLemmas.{answer_slot}
use Rattle.plan_certs.specs.Named.{IsSetOf, cube_of}
use Rattle.plan_rules.specs.Plans.{IsCubeOf}
use Rattle.plan_rules.proofs.MappedItems.{mapped_item}
use Rattle.cert_check.proofs.HalfLemmas.{back_in_task, both_halves, cubes_are, front_in_task}
use Rattle.cert_check.proofs.halves.+lists_of.Goals as goal

pub lists_of_cube-requires : goal.lists_of_cube-requires
lists_of_cube-requires t c =
    let one : length c.args.cubes.now ≡ 1 = c.if-cubes-eq1.true in
    let some : 0 < length c.args.cubes.now = omega arith in
    subst (IsCubeOf c.args.sets.now.vars) (sym c.deref.ensures.value) (mapped_item (IsCubeOf c.args.sets.now.vars) cube_of c.args.cubes.now 0 c.index-cubes-0.result c.requires some c.index-cubes-0.is)

pub lists_of-requires : goal.lists_of-requires
lists_of-requires t c =
    let front = c.split_at.result.0.now in
    let cubes = c.args.cubes.now in
    let some = halves_some (length cubes) (sym c.is_empty.ensures ∙ c.if-is_empty.false) c.if-cubes-eq1.false in
    let less : length front < length cubes = omega (arith, c.split_at.ensures.front_len, some.0, some.1) in
    let falls : length front < t = omega (arith, c.decreases) in
    (falls, front_in_task c.args.sets.now.vars _ front cubes c.split_at.ensures.front c.requires)

pub lists_of-rest-requires : goal.lists_of-rest-requires
lists_of-rest-requires t c =
    let back = c.split_at.result.1.now in
    let cubes = c.args.cubes.now in
    let some = halves_some (length cubes) (sym c.is_empty.ensures ∙ c.if-is_empty.false) c.if-cubes-eq1.false in
    let less : length back < length cubes = omega (arith, c.split_at.ensures.back_len, some.0, some.1) in
    let falls : length back < t = omega (arith, c.decreases) in
    let owns = answer_slot _ _ _ c.lists_of.result _ c.in_ok-first.was c.lists_of.ensures in
    (falls, subst (λ n. IsSetOf n (map cube_of back)) (sym owns.kept.vars) (back_in_task c.args.sets.now.vars _ back cubes c.split_at.ensures.back c.requires))

pub returns : goal.returns
returns t c =
    let front = c.split_at.result.0.now in
    let back = c.split_at.result.1.now in
    let cubes = c.args.cubes.now in
    let are : map cube_of front ++ map cube_of back ≡ map cube_of cubes = cubes_are _ front back cubes c.split_at.ensures.front c.split_at.ensures.back in
    let owns = answer_slot _ _ _ c.lists_of.result _ c.in_ok-first.was c.lists_of.ensures in
    subst (λ (f : Function). OwnsAnswer c.args.sets.now c.in_some.new.self f c.in_some.result) (both_halves (map cube_of front) (map cube_of back) (map cube_of cubes) are)
    (c.in_some.ensures.answer _ _ _ (both _ _ _ c.in_ok-first.first _ _ c.lists_of-rest.result owns c.lists_of-rest.ensures))
