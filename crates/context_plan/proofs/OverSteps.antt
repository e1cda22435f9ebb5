-- Which fluents the conditions of an until-chain name.
use Rattle.std.proofs.Common.{◌≡◌, ℕ, ◌<◌, true, All, List, get_or, length, slice_index_or, sym, subst, ◌∙◌, arith}
use Rattle.std.proofs.lemmas.List.Elements.{All-get_or}
use Rattle.ctl_syntax.specs.GoalValues.{EachInStage}
use Rattle.ctl_syntax.specs.declared.context_goals.UntilChain.{UntilChain}
use Rattle.ctl_syntax.specs.declared.context_goals.UntilStage.{UntilStage}
use Rattle.task_core.specs.Conditions.{IsConditionOver, ids_below, is_shallow}
use Rattle.task_core.specs.declared.conditions.Cond.{Cond}
use Rattle.slot_board.specs.Board.{Scene}
use Rattle.context_plan.specs.Chains.{IsPatrolOver, IsUntilOver}
use Rattle.context_plan.specs.Scenes.{IsAt, Start}

-- a call keeps how many there are
pub over_still : (start : Start) (x y : Scene) (chain : UntilChain) → IsAt start x → IsAt start y → IsUntilOver x.0.sets.vars chain → IsUntilOver y.0.sets.vars chain
over_still start x y chain first second over = subst (λ n. IsUntilOver n chain) (first.working.kept.vars ∙ sym second.working.kept.vars) over

-- those of one stage
stage_has : (Q : Cond → Type 0) (chain : UntilChain) (stage : UntilStage) (i : ℕ) → i < length chain.stages.items → stage ≡ slice_index_or chain.stages.items i stage → All (EachInStage Q) chain.stages.items → EachInStage Q stage
stage_has Q chain stage i less is all = subst (EachInStage Q) (sym is) (All-get_or (EachInStage Q) chain.stages.items i stage less all)

pub stage_over : (fluents : ℕ) (chain : UntilChain) (stage : UntilStage) (i : ℕ) → i < length chain.stages.items → stage ≡ slice_index_or chain.stages.items i stage → IsUntilOver fluents chain
    → IsConditionOver fluents stage.guard × IsConditionOver fluents stage.target
stage_over fluents chain stage i less is over =
    let names = stage_has (λ (cond : Cond). ids_below fluents cond ≡ true) chain stage i less is over.names.stages in
    let shallow = stage_has (λ (cond : Cond). is_shallow cond ≡ true) chain stage i less is over.shallow.stages in
    (record { names = names.guard; shallow = shallow.guard }, record { names = names.target; shallow = shallow.target })

pub guard_over : (start : Start) (x y : Scene) (chain : UntilChain) (stage : UntilStage) (i n : ℕ) → length chain.stages.items ≡ n → i < n → stage ≡ slice_index_or chain.stages.items i stage → IsAt start x → IsAt start y → IsUntilOver x.0.sets.vars chain
    → IsConditionOver y.0.sets.vars stage.guard
guard_over start x y chain stage i n long less is first second over = (stage_over y.0.sets.vars chain stage i (omega arith) is (over_still start x y chain first second over)).0

-- those of a patrol goal
pub visits_over : (start : Start) (x y : Scene) (conds : List Cond) → IsAt start x → IsAt start y → IsPatrolOver x.0.sets.vars conds → IsPatrolOver y.0.sets.vars conds
visits_over start x y conds first second over = subst (λ n. IsPatrolOver n conds) (first.working.kept.vars ∙ sym second.working.kept.vars) over

pub visit_over : (start : Start) (x y : Scene) (conds : List Cond) (cond : Cond) (i : ℕ) → i < length conds → cond ≡ get_or conds i cond → IsAt start x → IsAt start y → IsPatrolOver x.0.sets.vars conds → IsConditionOver y.0.sets.vars cond
visit_over start x y conds cond i less is first second over =
    let n = y.0.sets.vars in
    let here = visits_over start x y conds first second over in
    record {
      names = subst (λ (c : Cond). ids_below n c ≡ true) (sym is) (All-get_or (λ (c : Cond). ids_below n c ≡ true) conds i cond less here.names);
      shallow = subst (λ (c : Cond). is_shallow c ≡ true) (sym is) (All-get_or (λ (c : Cond). is_shallow c ≡ true) conds i cond less here.shallow);
    }
