-- What rounds within a guard find, by the states that they began with.
use Rattle.std.proofs.Common.{◌≡◌, ℕ, zero, suc, ◌^◌, ◌&&◌, sym, ap, ◌∙◌, refl}
use Rattle.std.specs.List.{find}
use Rattle.std.proofs.Math.Path.{fun_ext}
use Rattle.plan_theory.specs.GuardedSets.{anywhere, guarded_action, guarded_near, guarded_set}
use Rattle.plan_theory.specs.Layers.{action_numbers, must_lead}
use Rattle.plan_theory.specs.Safe.{safe_round, safe_set, some_must_lead}
use Rattle.plan_theory.specs.StageSets.{near, stage_action, stage_set}
use Rattle.task_core.specs.Cubes.{SetOfVectors}
use Rattle.task_core.specs.Systems.{IsVector, System}
use Rattle.task_core.specs.Vectors.{Vector}
use Rattle.context_plan.specs.Guards.{guarded_system}
use Rattle.context_plan.specs.Scenes.{SameStates, Start, guarded, sys_in, sys_of}
use Rattle.context_plan.proofs.Guards.{action_inside, must_inside, near_inside, set_inside, some_inside}
use Rattle.context_plan.proofs.StageLemmas.{near_same, stage_action_same, stage_set_same}

pub near_as : (start : Start) (guard f g : SetOfVectors) → SameStates start f g → (k : ℕ) → SameStates start (near (sys_in (guarded start guard)) f k) (guarded_near (sys_of start) guard g k)
near_as start guard f g same k v is = near_same (guarded start guard) f g same k v is ∙ near_inside (sys_of start) guard g k v

pub set_as : (start : Start) (guard f g : SetOfVectors) → SameStates start f g → SameStates start (stage_set (sys_in (guarded start guard)) f) (guarded_set (sys_of start) guard g)
set_as start guard f g same v is = stage_set_same (guarded start guard) f g same v is ∙ set_inside (sys_of start) guard g v

pub action_as : (start : Start) (guard f g : SetOfVectors) → SameStates start f g → (v : Vector) → IsVector (sys_of start) v → stage_action (sys_in (guarded start guard)) f v ≡ guarded_action (sys_of start) guard g v
action_as start guard f g same v is = stage_action_same (guarded start guard) f g same v is ∙ action_inside (sys_of start) guard g v

pub guarded_set_same : (start : Start) (guard f g : SetOfVectors) → SameStates start f g → SameStates start (guarded_set (sys_of start) guard f) (guarded_set (sys_of start) guard g)
guarded_set_same start guard f g same v is = sym (set_inside (sys_of start) guard f v) ∙ set_as start guard f g same v is

-- a guard that asks for nothing
pub safe_anywhere : (sys : System) (keep : SetOfVectors) (k : ℕ) (v : Vector) → safe_round (guarded_system sys anywhere) keep k v ≡ safe_round sys keep k v
safe_anywhere sys keep zero v = refl
safe_anywhere sys keep (suc k) v =
    let same : safe_round (guarded_system sys anywhere) keep k ≡ safe_round sys keep k = fun_ext (safe_anywhere sys keep k) in
    ap (λ b. safe_round (guarded_system sys anywhere) keep k v && b) (some_inside sys anywhere (safe_round (guarded_system sys anywhere) keep k) v)
    ∙ ap (λ (set : SetOfVectors). set v && some_must_lead sys set v) same

pub safe_set_anywhere : (sys : System) (keep : SetOfVectors) (v : Vector) → safe_set (guarded_system sys anywhere) keep v ≡ safe_set sys keep v
safe_set_anywhere sys keep v = safe_anywhere sys keep (2 ^ sys.fluents) v

pub first_anywhere : (sys : System) (set : SetOfVectors) (v : Vector) → find (must_lead (guarded_system sys anywhere) set v) (action_numbers sys) ≡ find (must_lead sys set v) (action_numbers sys)
first_anywhere sys set v = ap (λ (p : ℕ → _). find p (action_numbers sys)) (fun_ext (λ a. must_inside sys anywhere set v a))
