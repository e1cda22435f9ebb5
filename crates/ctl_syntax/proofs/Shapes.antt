-- The plain tree of each form of goal.
use Rattle.std.proofs.Common.{◌≡◌, map, ap, sym, ◌∙◌}
use Rattle.std.specs.Prelude.{Vec, Box}
use Rattle.std.specs.declared.alloc.Global.{Global}
use Rattle.task_core.specs.declared.conditions.Cond.{Cond}
use Rattle.ctl_syntax.specs.Goals.{CtlTree, plain, negation, all, any, implication, ax, ex, af, ef, ag, eg, au, eu, aw, ew, goal_row}
use Rattle.ctl_syntax.specs.Values.{ctl_step, ctl_value}
use Rattle.ctl_syntax.specs.declared.goals.Ctl.{Ctl}
use Rattle.ctl_syntax.specs.declared.goals.Ctl.TheOpen as Open
use Rattle.ctl_syntax.specs.declared.goals.Ctl.TheVariants as Shut
use Rattle.ctl_syntax.specs.declared.goals.Ctl.TheFolds.{fold-roll-Ctl}

pub value_All : (v : Vec Ctl Global) → ctl_value (Shut.All v) ≡ all (goal_row (map ctl_value v.items))
value_All v = ap ctl_value (sym (Shut.rolls-All v)) ∙ fold-roll-Ctl (CtlTree Cond) ctl_step (Open.All v)

pub value_Any : (v : Vec Ctl Global) → ctl_value (Shut.Any v) ≡ any (goal_row (map ctl_value v.items))
value_Any v = ap ctl_value (sym (Shut.rolls-Any v)) ∙ fold-roll-Ctl (CtlTree Cond) ctl_step (Open.Any v)

pub value_Plain : (cond : Cond) → ctl_value (Shut.Plain cond) ≡ plain cond
value_Plain cond = ap ctl_value (sym (Shut.rolls-Plain cond)) ∙ fold-roll-Ctl (CtlTree Cond) ctl_step (Open.Plain cond)

pub value_Not : (b : Box Ctl Global) → ctl_value (Shut.Not b) ≡ negation (ctl_value b.value)
value_Not b = ap ctl_value (sym (Shut.rolls-Not b)) ∙ fold-roll-Ctl (CtlTree Cond) ctl_step (Open.Not b)

pub value_Ax : (b : Box Ctl Global) → ctl_value (Shut.Ax b) ≡ ax (ctl_value b.value)
value_Ax b = ap ctl_value (sym (Shut.rolls-Ax b)) ∙ fold-roll-Ctl (CtlTree Cond) ctl_step (Open.Ax b)

pub value_Ex : (b : Box Ctl Global) → ctl_value (Shut.Ex b) ≡ ex (ctl_value b.value)
value_Ex b = ap ctl_value (sym (Shut.rolls-Ex b)) ∙ fold-roll-Ctl (CtlTree Cond) ctl_step (Open.Ex b)

pub value_Af : (b : Box Ctl Global) → ctl_value (Shut.Af b) ≡ af (ctl_value b.value)
value_Af b = ap ctl_value (sym (Shut.rolls-Af b)) ∙ fold-roll-Ctl (CtlTree Cond) ctl_step (Open.Af b)

pub value_Ef : (b : Box Ctl Global) → ctl_value (Shut.Ef b) ≡ ef (ctl_value b.value)
value_Ef b = ap ctl_value (sym (Shut.rolls-Ef b)) ∙ fold-roll-Ctl (CtlTree Cond) ctl_step (Open.Ef b)

pub value_Ag : (b : Box Ctl Global) → ctl_value (Shut.Ag b) ≡ ag (ctl_value b.value)
value_Ag b = ap ctl_value (sym (Shut.rolls-Ag b)) ∙ fold-roll-Ctl (CtlTree Cond) ctl_step (Open.Ag b)

pub value_Eg : (b : Box Ctl Global) → ctl_value (Shut.Eg b) ≡ eg (ctl_value b.value)
value_Eg b = ap ctl_value (sym (Shut.rolls-Eg b)) ∙ fold-roll-Ctl (CtlTree Cond) ctl_step (Open.Eg b)

pub value_Imply : (a b : Box Ctl Global) → ctl_value (Shut.Imply a b) ≡ implication (ctl_value a.value) (ctl_value b.value)
value_Imply a b = ap ctl_value (sym (Shut.rolls-Imply a b)) ∙ fold-roll-Ctl (CtlTree Cond) ctl_step (Open.Imply a b)

pub value_Au : (a b : Box Ctl Global) → ctl_value (Shut.Au a b) ≡ au (ctl_value a.value) (ctl_value b.value)
value_Au a b = ap ctl_value (sym (Shut.rolls-Au a b)) ∙ fold-roll-Ctl (CtlTree Cond) ctl_step (Open.Au a b)

pub value_Eu : (a b : Box Ctl Global) → ctl_value (Shut.Eu a b) ≡ eu (ctl_value a.value) (ctl_value b.value)
value_Eu a b = ap ctl_value (sym (Shut.rolls-Eu a b)) ∙ fold-roll-Ctl (CtlTree Cond) ctl_step (Open.Eu a b)

pub value_Aw : (a b : Box Ctl Global) → ctl_value (Shut.Aw a b) ≡ aw (ctl_value a.value) (ctl_value b.value)
value_Aw a b = ap ctl_value (sym (Shut.rolls-Aw a b)) ∙ fold-roll-Ctl (CtlTree Cond) ctl_step (Open.Aw a b)

pub value_Ew : (a b : Box Ctl Global) → ctl_value (Shut.Ew a b) ≡ ew (ctl_value a.value) (ctl_value b.value)
value_Ew a b = ap ctl_value (sym (Shut.rolls-Ew a b)) ∙ fold-roll-Ctl (CtlTree Cond) ctl_step (Open.Ew a b)
