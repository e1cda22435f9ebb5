use Rattle.std.proofs.Common.{refl, subst, sym}
use Rattle.std.proofs.lemmas.Result.{err_from_is_err_and}
use Rattle.slot_board.proofs.BoardSlots.{went}
use Rattle.slot_board.proofs.Endings.{passed_on}
use Rattle.task_core.specs.Cubes.{Cube}
use Rattle.plan_rules.specs.Rules.{rule_of}
use Rattle.judge_sets.specs.Places.{HasCube}
use Rattle.judge_sets.proofs.reading.read_rule.Goals as goal

pub make_cube-requires : goal.make_cube-requires
make_cube-requires c = let r = c.requires in (r.0, r.1, rule_of c.args.rule.now, r.2, r.3, sym c.deref.ensures.value)

pub returns-in_err-make_cube : goal.returns-in_err-make_cube
returns-in_err-make_cube c scene before has next =
    passed_on scene.start c.make_cube.new.enc c.make_cube.new.board.slots.items _ _ c.make_cube.result c.from_residual.result _ c.in_err-make_cube.was (err_from_is_err_and c.from_residual.result c.from_residual.ensures.1)
    (c.make_cube.ensures scene before (rule_of c.args.rule.now) has next (sym c.deref.ensures.value))

pub add_differ-requires : goal.add_differ-requires
add_differ-requires c =
    let r = c.requires in
    let rule = rule_of c.args.rule.now in
    let cubed = subst (λ (cube : Cube). HasCube r.0 c.make_cube.new.enc c.make_cube.new.board.slots.items r.1 cube) c.deref.ensures.value (went r.0.start c.make_cube.new.enc c.make_cube.new.board.slots.items _ c.make_cube.result _ c.in_ok-make_cube.was (c.make_cube.ensures r.0 r.1 rule r.2 r.3 (sym c.deref.ensures.value))) in
    (r.0, r.1, rule, cubed, r.3, refl)

pub returns-in_err-add_differ : goal.returns-in_err-add_differ
returns-in_err-add_differ c scene before has next =
    let rule = rule_of c.args.rule.now in
    let cubed = subst (λ (cube : Cube). HasCube scene c.make_cube.new.enc c.make_cube.new.board.slots.items before cube) c.deref.ensures.value (went scene.start c.make_cube.new.enc c.make_cube.new.board.slots.items _ c.make_cube.result _ c.in_ok-make_cube.was (c.make_cube.ensures scene before rule has next (sym c.deref.ensures.value))) in
    passed_on scene.start c.add_differ.new.enc c.add_differ.new.board.slots.items _ _ c.add_differ.result c.from_residual-in_err-add_differ.result _ c.in_err-add_differ.was (err_from_is_err_and c.from_residual-in_err-add_differ.result c.from_residual-in_err-add_differ.ensures.1)
    (c.add_differ.ensures scene before rule cubed next refl)

pub add_taken-requires : goal.add_taken-requires
add_taken-requires c =
    let r = c.requires in
    let rule = rule_of c.args.rule.now in
    let cubed = subst (λ (cube : Cube). HasCube r.0 c.make_cube.new.enc c.make_cube.new.board.slots.items r.1 cube) c.deref.ensures.value (went r.0.start c.make_cube.new.enc c.make_cube.new.board.slots.items _ c.make_cube.result _ c.in_ok-make_cube.was (c.make_cube.ensures r.0 r.1 rule r.2 r.3 (sym c.deref.ensures.value))) in
    (r.0, r.1, rule, went r.0.start c.add_differ.new.enc c.add_differ.new.board.slots.items _ c.add_differ.result _ c.in_ok-add_differ.was (c.add_differ.ensures r.0 r.1 rule cubed r.3 refl), r.3, refl)

pub returns-in_err-add_taken : goal.returns-in_err-add_taken
returns-in_err-add_taken c scene before has next =
    let rule = rule_of c.args.rule.now in
    let cubed = subst (λ (cube : Cube). HasCube scene c.make_cube.new.enc c.make_cube.new.board.slots.items before cube) c.deref.ensures.value (went scene.start c.make_cube.new.enc c.make_cube.new.board.slots.items _ c.make_cube.result _ c.in_ok-make_cube.was (c.make_cube.ensures scene before rule has next (sym c.deref.ensures.value))) in
    let told = went scene.start c.add_differ.new.enc c.add_differ.new.board.slots.items _ c.add_differ.result _ c.in_ok-add_differ.was (c.add_differ.ensures scene before rule cubed next refl) in
    passed_on scene.start c.add_taken.new.enc c.add_taken.new.board.slots.items _ _ c.add_taken.result c.from_residual-in_err-add_taken.result _ c.in_err-add_taken.was (err_from_is_err_and c.from_residual-in_err-add_taken.result c.from_residual-in_err-add_taken.ensures.1)
    (c.add_taken.ensures scene before rule told next refl)

pub counts-requires : goal.counts-requires
counts-requires c =
    let r = c.requires in
    let rule = rule_of c.args.rule.now in
    let cubed = subst (λ (cube : Cube). HasCube r.0 c.make_cube.new.enc c.make_cube.new.board.slots.items r.1 cube) c.deref.ensures.value (went r.0.start c.make_cube.new.enc c.make_cube.new.board.slots.items _ c.make_cube.result _ c.in_ok-make_cube.was (c.make_cube.ensures r.0 r.1 rule r.2 r.3 (sym c.deref.ensures.value))) in
    let told = went r.0.start c.add_differ.new.enc c.add_differ.new.board.slots.items _ c.add_differ.result _ c.in_ok-add_differ.was (c.add_differ.ensures r.0 r.1 rule cubed r.3 refl) in
    (r.0, r.1, rule, went r.0.start c.add_taken.new.enc c.add_taken.new.board.slots.items _ c.add_taken.result _ c.in_ok-add_taken.was (c.add_taken.ensures r.0 r.1 rule told r.3 refl), r.3)

pub returns : goal.returns
returns c scene before has next =
    let rule = rule_of c.args.rule.now in
    let cubed = subst (λ (cube : Cube). HasCube scene c.make_cube.new.enc c.make_cube.new.board.slots.items before cube) c.deref.ensures.value (went scene.start c.make_cube.new.enc c.make_cube.new.board.slots.items _ c.make_cube.result _ c.in_ok-make_cube.was (c.make_cube.ensures scene before rule has next (sym c.deref.ensures.value))) in
    let told = went scene.start c.add_differ.new.enc c.add_differ.new.board.slots.items _ c.add_differ.result _ c.in_ok-add_differ.was (c.add_differ.ensures scene before rule cubed next refl) in
    c.counts.ensures scene before rule (went scene.start c.add_taken.new.enc c.add_taken.new.board.slots.items _ c.add_taken.result _ c.in_ok-add_taken.was (c.add_taken.ensures scene before rule told next refl)) next
