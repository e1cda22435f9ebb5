use Rattle.std.proofs.Common.{◌≡◌, [], sym, subst, ap, map, ◌∙◌, rules}
use Rattle.plan_witness.specs.Values.{steps_value}
use Rattle.task_core.specs.Tasks.{fluent_count}
use Rattle.std.specs.Prelude.{IfOk}
use Rattle.ctl_syntax.specs.Goals.{all, af, ag, au, aw, ax, implication, goal_row}
use Rattle.ctl_syntax.specs.Values.{ctl_value}
use Rattle.ctl_syntax.proofs.Shapes.{value_All, value_Any, value_Plain, value_Not, value_Imply, value_Ax, value_Ex, value_Af, value_Ef, value_Ag, value_Eg, value_Au, value_Eu, value_Aw, value_Ew}
use Rattle.goal_witness.specs.Failing.{IsFailing, LeadsInside}
use Rattle.goal_witness.specs.Failures.{by_way}
use Rattle.goal_witness.specs.Scenes.{IsFalseAtNumber}
use Rattle.goal_witness.proofs.Fails.{leads_imply, told_as}
use Rattle.goal_witness.proofs.failing.failing_at.Goals as goal

pub false_part-requires-clause-fails : goal.false_part-requires-clause-fails
false_part-requires-clause-fails g c =
    let is = ap ctl_value c.in-All.is ∙ value_All c.in-All.parts ∙ ap (λ xs. all (goal_row (map ctl_value xs))) (sym c.deref.ensures.value) in
    subst (λ t. IsFalseAtNumber c.args.scene.now t c.args.number) is c.requires.fails

pub returns-in-All : goal.returns-in-All
returns-in-All g c =
    let is = ap ctl_value c.in-All.is ∙ value_All c.in-All.parts ∙ ap (λ xs. all (goal_row (map ctl_value xs))) (sym c.deref.ensures.value) in
    subst (λ t. IfOk c.false_part.result (IsFailing c.args.scene.now t c.args.number)) (sym is) c.false_part.ensures

pub false_next-requires-clause-fails : goal.false_next-requires-clause-fails
false_next-requires-clause-fails g c =
    let is = ap ctl_value c.in-Ax.is ∙ value_Ax c.in-Ax.part ∙ ap (λ p. ax (ctl_value p)) (sym c.deref-in-Ax.ensures) in
    subst (λ t. IsFalseAtNumber c.args.scene.now t c.args.number) is c.requires.fails

pub returns-in-Ax : goal.returns-in-Ax
returns-in-Ax g c =
    let is = ap ctl_value c.in-Ax.is ∙ value_Ax c.in-Ax.part ∙ ap (λ p. ax (ctl_value p)) (sym c.deref-in-Ax.ensures) in
    subst (λ t. IfOk c.false_next.result (IsFailing c.args.scene.now t c.args.number)) (sym is) c.false_next.ensures

pub false_later-requires-clause-fails : goal.false_later-requires-clause-fails
false_later-requires-clause-fails g c =
    let is = ap ctl_value c.in-Ag.is ∙ value_Ag c.in-Ag.part ∙ ap (λ p. ag (ctl_value p)) (sym c.deref-in-Ag.ensures) in
    subst (λ t. IsFalseAtNumber c.args.scene.now t c.args.number) is c.requires.fails

pub returns-in-Ag : goal.returns-in-Ag
returns-in-Ag g c =
    let is = ap ctl_value c.in-Ag.is ∙ value_Ag c.in-Ag.part ∙ ap (λ p. ag (ctl_value p)) (sym c.deref-in-Ag.ensures) in
    subst (λ t. IfOk c.false_later.result (IsFailing c.args.scene.now t c.args.number)) (sym is) c.false_later.ensures

pub false_always-requires-clause-fails : goal.false_always-requires-clause-fails
false_always-requires-clause-fails g c =
    let is = ap ctl_value c.in-Af.is ∙ value_Af c.in-Af.part ∙ ap (λ p. af (ctl_value p)) (sym c.deref-in-Af.ensures) in
    subst (λ t. IsFalseAtNumber c.args.scene.now t c.args.number) is c.requires.fails

pub returns-in-Af : goal.returns-in-Af
returns-in-Af g c =
    let is = ap ctl_value c.in-Af.is ∙ value_Af c.in-Af.part ∙ ap (λ p. af (ctl_value p)) (sym c.deref-in-Af.ensures) in
    subst (λ t. IfOk c.false_always.result (IsFailing c.args.scene.now t c.args.number)) (sym is) c.false_always.ensures

pub false_until-requires-clause-fails : goal.false_until-requires-clause-fails
false_until-requires-clause-fails g c =
    let is = ap ctl_value c.in-Au.is ∙ value_Au c.in-Au.left c.in-Au.right ∙ ap (λ p. au (ctl_value p) (ctl_value c.in-Au.right.value)) (sym c.deref-in-Au.ensures) ∙ ap (λ p. au (ctl_value c.deref-in-Au.result.now) (ctl_value p)) (sym c.deref-in-Au-2.ensures) in
    subst (λ t. IsFalseAtNumber c.args.scene.now t c.args.number) is c.requires.fails

pub returns-in-Au : goal.returns-in-Au
returns-in-Au g c =
    let is = ap ctl_value c.in-Au.is ∙ value_Au c.in-Au.left c.in-Au.right ∙ ap (λ p. au (ctl_value p) (ctl_value c.in-Au.right.value)) (sym c.deref-in-Au.ensures) ∙ ap (λ p. au (ctl_value c.deref-in-Au.result.now) (ctl_value p)) (sym c.deref-in-Au-2.ensures) in
    subst (λ t. IfOk c.false_until.result (IsFailing c.args.scene.now t c.args.number)) (sym is) c.false_until.ensures

pub false_until-requires-in-Aw-clause-fails : goal.false_until-requires-in-Aw-clause-fails
false_until-requires-in-Aw-clause-fails g c =
    let is = ap ctl_value c.in-Aw.is ∙ value_Aw c.in-Aw.left c.in-Aw.right ∙ ap (λ p. aw (ctl_value p) (ctl_value c.in-Aw.right.value)) (sym c.deref-in-Aw.ensures) ∙ ap (λ p. aw (ctl_value c.deref-in-Aw.result.now) (ctl_value p)) (sym c.deref-in-Aw-2.ensures) in
    subst (λ t. IsFalseAtNumber c.args.scene.now t c.args.number) is c.requires.fails

pub returns-in-Aw : goal.returns-in-Aw
returns-in-Aw g c =
    let is = ap ctl_value c.in-Aw.is ∙ value_Aw c.in-Aw.left c.in-Aw.right ∙ ap (λ p. aw (ctl_value p) (ctl_value c.in-Aw.right.value)) (sym c.deref-in-Aw.ensures) ∙ ap (λ p. aw (ctl_value c.deref-in-Aw.result.now) (ctl_value p)) (sym c.deref-in-Aw-2.ensures) in
    subst (λ t. IfOk c.false_until-in-Aw.result (IsFailing c.args.scene.now t c.args.number)) (sym is) c.false_until-in-Aw.ensures

pub returns-in-Plain : goal.returns-in-Plain
returns-in-Plain g c = told_as c.args.scene.now c.requires.scene (ctl_value c.args.goal.now) _ (ap ctl_value c.in-Plain.is ∙ value_Plain c.in-Plain.field-0) tt c.args.number c.requires.fails

pub returns-in-Not : goal.returns-in-Not
returns-in-Not g c = told_as c.args.scene.now c.requires.scene (ctl_value c.args.goal.now) _ (ap ctl_value c.in-Not.is ∙ value_Not c.in-Not.field-0) tt c.args.number c.requires.fails

pub returns-in-Any : goal.returns-in-Any
returns-in-Any g c = told_as c.args.scene.now c.requires.scene (ctl_value c.args.goal.now) _ (ap ctl_value c.in-Any.is ∙ value_Any c.in-Any.field-0) tt c.args.number c.requires.fails

pub returns-in-Ex : goal.returns-in-Ex
returns-in-Ex g c = told_as c.args.scene.now c.requires.scene (ctl_value c.args.goal.now) _ (ap ctl_value c.in-Ex.is ∙ value_Ex c.in-Ex.field-0) tt c.args.number c.requires.fails

pub returns-in-Ef : goal.returns-in-Ef
returns-in-Ef g c = told_as c.args.scene.now c.requires.scene (ctl_value c.args.goal.now) _ (ap ctl_value c.in-Ef.is ∙ value_Ef c.in-Ef.field-0) tt c.args.number c.requires.fails

pub returns-in-Eg : goal.returns-in-Eg
returns-in-Eg g c = told_as c.args.scene.now c.requires.scene (ctl_value c.args.goal.now) _ (ap ctl_value c.in-Eg.is ∙ value_Eg c.in-Eg.field-0) tt c.args.number c.requires.fails

pub returns-in-Eu : goal.returns-in-Eu
returns-in-Eu g c = told_as c.args.scene.now c.requires.scene (ctl_value c.args.goal.now) _ (ap ctl_value c.in-Eu.is ∙ value_Eu c.in-Eu.field-0 c.in-Eu.field-1) tt c.args.number c.requires.fails

pub returns-in-Ew : goal.returns-in-Ew
returns-in-Ew g c = told_as c.args.scene.now c.requires.scene (ctl_value c.args.goal.now) _ (ap ctl_value c.in-Ew.is ∙ value_Ew c.in-Ew.field-0 c.in-Ew.field-1) tt c.args.number c.requires.fails

pub returns-in-Imply : goal.returns-in-Imply
returns-in-Imply g c =
    let scene = c.args.scene.now in
    let n = fluent_count scene.task.now in
    let right = c.deref-in-Imply.result.now in
    let nothing : c.new.result.items ≡ [] = search rules in
    let is : ctl_value c.args.goal.now ≡ implication (ctl_value c.in-Imply.field-0.value) (ctl_value right) =
    ap ctl_value c.in-Imply.is ∙ value_Imply c.in-Imply.field-0 c.in-Imply.right ∙ ap (λ p. implication (ctl_value c.in-Imply.field-0.value) (ctl_value p)) (sym c.deref-in-Imply.ensures) in
    subst (λ t. LeadsInside scene t c.args.number (by_way (steps_value n c.new.result.items)) (ctl_value right) c.args.number) (sym is)
    (subst (λ steps. LeadsInside scene (implication (ctl_value c.in-Imply.field-0.value) (ctl_value right)) c.args.number (by_way (steps_value n steps)) (ctl_value right) c.args.number) (sym nothing)
    (leads_imply scene c.requires.scene (ctl_value c.in-Imply.field-0.value) (ctl_value right) c.args.number (subst (λ t. IsFalseAtNumber scene t c.args.number) is c.requires.fails)))
