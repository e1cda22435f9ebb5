-- The set of the initial states, one entry more.
use Rattle.std.proofs.Common.{◌≡◌, ℕ, ◌+◌, ◌<◌, true, List, Vec, take, length, get_or, sym, ap, subst, ◌∙◌, arith}
use Rattle.std.specs.declared.alloc.Global.{Global}
use Rattle.std.specs.List.{list_all}
use Rattle.std.proofs.lemmas.List.FromFn.{length-map-range_with_len}
use Rattle.dd_nodes.specs.Subfunctions.{Function}
use Rattle.task_core.specs.Initial.{Entry, after_entries, after_entry, entries_of, entries_within, entry_of, facts_of, lit_within}
use Rattle.task_core.specs.States.{truth}
use Rattle.task_core.specs.Vectors.{Vector}
use Rattle.task_core.specs.declared.actions.Alternative.{Alternative}
use Rattle.task_core.specs.declared.actions.InitSpec.{InitSpec}
use Rattle.task_core.proofs.EntryStates.{AreStates, after_entries_are}
use Rattle.task_core.proofs.StateLists.{alternatives_within, entry_at, entry_within_at, length-entries_of, one_entry}
use Rattle.encode_task.specs.Images.{entry_image}
use Rattle.encode_task.specs.TaskSets.{set_of_states}
use Rattle.encode_task.proofs.ShownLemmas.{shows_entry, shows_one, shows_states}

-- the fluents of an entry
pub entry_fluents : (init : InitSpec) (items : List (Vec Alternative Global)) (i : ℕ) (entry : Vec Alternative Global) (alternatives : List Alternative) (n m : ℕ) → entries_within n init ≡ true
    → items ≡ init.entries.items → i < length items → entry ≡ get_or items i entry → alternatives ≡ entry.items → m ≡ n → list_all (list_all (lit_within m)) (entry_of alternatives) ≡ true
entry_fluents init items i entry alternatives n m within same inside at is vars =
    let here : i < length init.entries.items = subst (λ l. i < length l) same inside in
    let there : entry ≡ get_or init.entries.items i entry = at ∙ ap (λ l. get_or l i entry) same in
    (λ j. list_all (list_all (lit_within (vars j))) (entry_of (is j))) ∙ alternatives_within n (entry_of entry.items) (entry_within_at n init i entry within here there)

entry_set : (n : ℕ) (states : List Vector) (entry : Entry) → AreStates n states → AreStates n (after_entry n states entry) → list_all (list_all (lit_within n)) entry ≡ true
    → entry_image (set_of_states n states) entry ≡ set_of_states n (after_entry n states entry)
entry_set n states entry before after within =
    shows_one n (after_entry n states entry) (entry_image (set_of_states n states) entry) (set_of_states n (after_entry n states entry))
    (shows_entry n states (set_of_states n states) entry within (shows_states n states before))
    (shows_states n (after_entry n states entry) after)

pub initial_more : (n : ℕ) (init : InitSpec) (items : List (Vec Alternative Global)) (i : ℕ) (entry : Vec Alternative Global) (alternatives : List Alternative) (set : Function) → entries_within n init ≡ true
    → items ≡ init.entries.items → i < length items → entry ≡ get_or items i entry → alternatives ≡ entry.items → set ≡ set_of_states n (after_entries n (facts_of n init) (take i (entries_of init)))
    → entry_image set (entry_of alternatives) ≡ set_of_states n (after_entries n (facts_of n init) (take (i + 1) (entries_of init)))
initial_more n init items i entry alternatives set within same inside at is sets =
    let here : i < length init.entries.items = subst (λ l. i < length l) same inside in
    let there : entry ≡ get_or init.entries.items i entry = at ∙ ap (λ l. get_or l i entry) same in
    let long = length-map-range_with_len (truth init.facts) 0 n in
    let step = one_entry n (facts_of n init) (entries_of init) i (entry_of entry.items) (omega (arith, length-entries_of init)) (entry_at init i entry here there) in
    (λ j. entry_image (sets j) (entry_of (is j)))
    ∙ entry_set n (after_entries n (facts_of n init) (take i (entries_of init))) (entry_of entry.items)
    (after_entries_are n (facts_of n init) (take i (entries_of init)) long)
    (subst (AreStates n) step (after_entries_are n (facts_of n init) (take (i + 1) (entries_of init)) long))
    (alternatives_within n (entry_of entry.items) (entry_within_at n init i entry within here there))
    ∙ ap (set_of_states n) (sym step)
