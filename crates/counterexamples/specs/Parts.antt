-- Parts of conditions.
use Rattle.std.specs.Prelude.{◌≡◌, ◌<◌, ◌↔◌, ◌++◌, All, Contains, List, Vec, false, length}
use Rattle.std.specs.declared.alloc.Global.{Global}
use Rattle.task_core.specs.Conditions.{holds_in}
use Rattle.task_core.specs.declared.conditions.Cond.{Cond}
use Rattle.task_core.specs.declared.conditions.Cond.TheVariants.{All as AllOf}
use Rattle.task_core.specs.declared.states.State.{State}

-- what a condition asks for: itself, and of a conjunction what each of its parts asks for
pub data Asks : Cond → Cond → Type 0 where
  itself : (cond : Cond) → Asks cond cond
  by_part : (parts : Vec Cond Global) (part other : Cond) → Contains parts.items part
      → Asks part other → Asks (AllOf parts) other

-- the condition asks for the part, which is false in the state
pub record IsFalsePart (cond : Cond) (state : State) (part : Cond) : Type 0 where
  pub asks : Asks cond part
  pub fails : holds_in part state ≡ false

-- Private: to some conditions false parts of one were added, some exactly where it is false
pub record HasFalseParts (cond : Cond) (state : State) (before after : List Cond) : Type 0 where
  pub more : List Cond
  pub added : after ≡ before ++ more
  pub each : All (IsFalsePart cond state) more
  pub some : (holds_in cond state ≡ false) ↔ (0 < length more)
