-- The sets that are made for an uncertain entry, by their sizes.
use Rattle.std.proofs.Common.{◌≡◌, ℕ, ◌<◌, Bool, true, false, not, ◌&&◌, List, take, length, get_or, Vec, refl, sym, ap, subst, ◌∙◌, arith}
use Rattle.dd_nodes.specs.Subfunctions.{Function}
use Rattle.dd_ops.specs.Operations.{and_of, minus_of, variable}
use Rattle.std.specs.declared.alloc.Global.{Global}
use Rattle.std.proofs.lemmas.List.{take_all}
use Rattle.std.proofs.lemmas.Option.{slice_get_read}
use Rattle.dd_sets.specs.Rooms.{Small}
use Rattle.task_core.specs.Tasks.{fluent_count, initial_vectors}
use Rattle.task_core.specs.declared.tasks.Task.{Task}
use Rattle.task_core.specs.Cubes.{Cube}
use Rattle.task_core.specs.Initial.{after_entries, entries_of, entry_of, facts_of}
use Rattle.task_core.specs.Vectors.{same_value}
use Rattle.task_core.specs.declared.actions.Alternative.{Alternative}
use Rattle.task_core.proofs.StateLists.{alternative_at, entry_at, length-entries_of, length-entry_of}
use Rattle.encode_task.specs.Images.{assigned_signed, has_value, image}
use Rattle.encode_task.specs.TaskSets.{set_of_states}
use Rattle.encode_task.specs.WorkingSets.{AreSmall, IsMadeByEncode, IsMadeOfEntry, IsMadeOfLiterals, vectors_after}
use Rattle.encode_task.specs.WorkingSets.IsMadeByEncode.{first_entries, next_entry}
use Rattle.encode_task.specs.WorkingSets.IsMadeOfEntry.{of_alternative}
use Rattle.encode_task.specs.WorkingSets.IsMadeOfLiterals.{adds, deletes}

-- what has a value is the meet with the fluent's set, or what is left without it
pub met_is : (set : Function) (f : ℕ) → and_of set (has_value f true) ≡ and_of set (variable f)
met_is set f = λ i values. (step (set values) (values f)) i
  where
    step : (a b : Bool) → (a && same_value true b) ≡ (a && b)
    step a true = refl
    step a false = refl

pub left_is : (set : Function) (f : ℕ) → and_of set (has_value f false) ≡ minus_of set (variable f)
left_is set f = λ i values. (step (set values) (values f)) i
  where
    step : (a b : Bool) → (a && same_value false b) ≡ (a && not b)
    step a true = refl
    step a false = refl

-- all literals of an alternative
pub deleted_small : (w n : ℕ) (set : Function) (lits : Cube) → AreSmall n w (IsMadeOfLiterals set lits) → Small n w (assigned_signed false lits set)
deleted_small w n set lits small =
    subst (λ l. Small n w (assigned_signed false l set)) (take_all (length lits) lits (omega arith)) (small (assigned_signed false (take (length lits) lits) set) (deletes (length lits)))

pub image_small : (w n : ℕ) (set : Function) (lits : Cube) → AreSmall n w (IsMadeOfLiterals set lits) → Small n w (image lits set)
image_small w n set lits small =
    subst (λ l. Small n w (assigned_signed true l (assigned_signed false lits set))) (take_all (length lits) lits (omega arith)) (small (assigned_signed true (take (length lits) lits) (assigned_signed false lits set)) (adds (length lits)))

-- an alternative of an entry
pub alternative_small : (w n m : ℕ) (set other : Function) (entry : List Alternative) (i : ℕ) (x : Alternative) (lits : Cube) → m ≡ n → other ≡ set → lits ≡ x.lits.items → i < length entry → x ≡ get_or entry i x
    → AreSmall n w (IsMadeOfEntry set (entry_of entry)) → AreSmall m w (IsMadeOfLiterals other lits)
alternative_small w n m set other entry i x lits vars same_set same_lits within at small =
    subst (λ v. AreSmall v w (IsMadeOfLiterals other lits)) (sym vars)
    (subst (λ (f : Function). AreSmall n w (IsMadeOfLiterals f lits)) (sym same_set)
    (subst (λ (l : Cube). AreSmall n w (IsMadeOfLiterals set l)) (sym same_lits)
    (λ after made. small after (of_alternative x.lits.items after (i, omega (arith, length-entry_of entry), alternative_at entry i x within at) made))))

-- an entry of a task
pub entry_small : (w m : ℕ) (task : Task) (items : List (Vec Alternative Global)) (i : ℕ) (entry : Vec Alternative Global) (alternatives : List Alternative) (set : Function) → m ≡ fluent_count task → items ≡ task.init.entries.items
    → i < length items → entry ≡ get_or items i entry → alternatives ≡ entry.items → set ≡ vectors_after task i → AreSmall (fluent_count task) w (IsMadeByEncode task) → AreSmall m w (IsMadeOfEntry set (entry_of alternatives))
entry_small w m task items i entry alternatives set vars same inside at is sets small =
    let here : i < length task.init.entries.items = subst (λ l. i < length l) same inside in
    let there : entry ≡ get_or task.init.entries.items i entry = at ∙ ap (λ l. get_or l i entry) same in
    let listed = slice_get_read (entries_of task.init) (length (entries_of task.init)) i (entry_of entry.items) refl (omega (arith, length-entries_of task.init)) (sym (entry_at task.init i entry here there)) in
    subst (λ v. AreSmall v w (IsMadeOfEntry set (entry_of alternatives))) (sym vars)
    (subst (λ (f : Function). AreSmall (fluent_count task) w (IsMadeOfEntry f (entry_of alternatives))) (sym sets)
    (subst (λ (l : List Alternative). AreSmall (fluent_count task) w (IsMadeOfEntry (vectors_after task i) (entry_of l))) (sym is)
    (λ after made. small after (next_entry i (entry_of entry.items) after listed made))))

-- the vectors after all entries
pub all_entries_small : (w : ℕ) (task : Task) → AreSmall (fluent_count task) w (IsMadeByEncode task) → Small (fluent_count task) w (set_of_states (fluent_count task) (initial_vectors task))
all_entries_small w task small =
    subst (λ l. Small (fluent_count task) w (set_of_states (fluent_count task) (after_entries (fluent_count task) (facts_of (fluent_count task) task.init) l)))
    (take_all (length (entries_of task.init)) (entries_of task.init) (omega arith)) (small (vectors_after task (length (entries_of task.init))) (first_entries (length (entries_of task.init))))
