-- In which configurations a plan stays that can't come to its goal any more.
use Rattle.std.specs.Prelude.{◌≡◌, ◌-◌, ℕ, List, None, Option, Some, length, take}
use Rattle.counterexamples.specs.Findings.{PlainFound}
use Rattle.counterexamples.specs.declared.aims.Aim.{Aim}
use Rattle.counterexamples.specs.declared.aims.Aim.TheVariants.{Bad, Endless, Inside, Lost, Nothing}
use Rattle.counterexamples.specs.declared.aims.Aim.TheVariants.{Outside, Round, Unfinished}
use Rattle.plan_rules.specs.Rules.{PlainPlan}
use Rattle.plan_witness.specs.Onward.{AreMet, AreOnward}
use Rattle.plan_witness.specs.Runs.{end_of}
use Rattle.task_core.specs.ContextPlans.{Configuration}
use Rattle.task_core.specs.Systems.{System}
use Rattle.task_core.specs.Tasks.{system_of}
use Rattle.task_core.specs.declared.tasks.Task.{Task}

-- some numbers, and how many there are besides
pub record PlainStays : Type 0 where
  pub numbers : List ℕ
  pub more : ℕ

-- how many numbers are listed at most
abbrev pub most_listed : ℕ
most_listed = 20

-- the first of some numbers, and how many are left
abbrev pub stays_of : List ℕ → PlainStays
stays_of numbers =
    record { numbers = take most_listed numbers; more = length numbers - most_listed }

-- the first of the numbers of the configurations to which paths of the plan lead from x, and how many are
-- left. A configuration has the number of its place in the order in which a search by breadth meets them
pub record AreStays (sys : System) (plan : PlainPlan) (x : Configuration) (stays : PlainStays) : Type 0 where
  pub met : List Configuration
  pub are_met : AreMet sys plan met
  pub numbers : List ℕ
  pub onward : AreOnward sys plan met x numbers
  pub listed : stays ≡ stays_of numbers

-- they are those of the end of a run, where there is one
abbrev pub AreStaysAfter : Task → PlainPlan → Option PlainFound → Option PlainStays → Type 0
AreStaysAfter task plan None stays = stays ≡ None
AreStaysAfter task plan (Some found) stays =
    (those : PlainStays) × (stays ≡ Some those)
    × AreStays (system_of task) plan (end_of found.run.start found.run.steps) those

-- after a run to where no run ends, or none in the goal, it is told where the plan stays; else it isn't
abbrev pub IsStaysFor : Aim → Task → PlainPlan → Option PlainFound → Option PlainStays → Type 0
IsStaysFor Nothing task plan found stays = stays ≡ None
IsStaysFor Inside task plan found stays = stays ≡ None
IsStaysFor Outside task plan found stays = stays ≡ None
IsStaysFor Bad task plan found stays = stays ≡ None
IsStaysFor Unfinished task plan found stays = stays ≡ None
IsStaysFor Round task plan found stays = stays ≡ None
IsStaysFor Lost task plan found stays = AreStaysAfter task plan found stays
IsStaysFor Endless task plan found stays = AreStaysAfter task plan found stays
