-- Private: how many members of a group are true at the start.
use Rattle.std.specs.Prelude.{◌≡◌, ℕ, Bool, true, false, List, ⊤}
use Rattle.std.specs.List.{Contains}
use Rattle.task_core.specs.Cubes.{Cube}
use Rattle.task_core.specs.Initial.{Entry, after_entries, applied_value, facts_of}
use Rattle.task_core.specs.Tasks.{fluent_count}
use Rattle.task_core.specs.Vectors.{Vector, value_of}
use Rattle.task_core.specs.declared.tasks.Task.{Task}
use Rattle.mutex_groups.specs.Groups.{Group, HasOne, IsTheOne}
use Rattle.mutex_groups.specs.declared.starts.Known.{Known}
use Rattle.mutex_groups.specs.declared.starts.Known.TheVariants.{NoneTrue, OneTrue, Unknown}

-- no member is true
abbrev pub HasNone : Group → (ℕ → Bool) → Type 0
HasNone group value = (f : ℕ) → group f ≡ true → value f ≡ false

-- what is known of how many members are true
abbrev pub Says : Known → Group → (ℕ → Bool) → Type 0
Says NoneTrue group value = HasNone group value
Says OneTrue group value = HasOne group value
Says Unknown group value = ⊤

-- literals lead from what was known to what is known
abbrev pub LeadsTo : Group → Known → Known → Cube → Type 0
LeadsTo group before after lits =
    (value : ℕ → Bool) → Says before group value → Says after group (applied_value lits value)

-- where g is the one that is true, literals keep that one is
abbrev pub KeepsOne : Group → ℕ → Cube → Type 0
KeepsOne group g lits =
    (value : ℕ → Bool) → IsTheOne group g value → HasOne group (applied_value lits value)

-- it is known of each vector after some entries
abbrev pub AreAfter : Task → Group → Known → List Entry → Type 0
AreAfter task group known entries = let n = fluent_count task in
    (v : Vector) → Contains (after_entries n (facts_of n task.init) entries) v
    → Says known group (value_of v)
