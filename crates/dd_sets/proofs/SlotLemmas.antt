-- From what an operation on numbers says, and what became of the slots, to what the call leaves in
-- the slots.
use Rattle.std.proofs.Common.{◌≡◌, ◌≢◌, ℕ, suc, ◌+◌, ◌≤◌, true, false, cond, List, [], ◌∷◌, length, map, filter_map, slice_index_or, Option, Some, None, is_some, count_by, Result, Ok, Err, IfOk, OnErr, refl, sym, ap, subst, ◌∙◌, ⊎_elim, arith}
use Rattle.std.specs.Option.{option_map_or}
use Rattle.std.proofs.lemmas.Bool.{cases_eq}
use Rattle.std.proofs.lemmas.List.Sums.{sum_by-cons}
use Rattle.std.proofs.lemmas.Option.{same_Some}
use Rattle.dd_nodes.specs.declared.node.Ref.{Ref}
use Rattle.dd_nodes.specs.declared.node.DdErr.{DdErr}
use Rattle.dd_nodes.specs.NodeList.{IsNumber, function}
use Rattle.dd_nodes.specs.Subfunctions.{Function}
use Rattle.dd_nodes.specs.Table.{NodeTable, IsNodeTable}
use Rattle.dd_ops.specs.Calls.{Answers}
use Rattle.dd_sets.specs.Calls.{KeepsSets, Adds, AddsNone}
use Rattle.dd_sets.specs.LiveSets.{LiveSets, IsSets, IsLive, is_live, set_of, live_count, live_sets, nothing, number_at, table_of}
use Rattle.dd_sets.specs.Orders.{read}
use Rattle.dd_sets.specs.Stores.{IsStored, Stored, view_of}
use Rattle.dd_sets.specs.Tries.{KeepsNumbers}
use Rattle.dd_sets.proofs.FrameLemmas.{kept_chain}
use Rattle.dd_sets.proofs.OrderLemmas.{order_kept}
use Rattle.dd_sets.specs.declared.slots.SetId.{SetId}
use Rattle.dd_sets.specs.declared.errors.SetErr.{SetErr}

-- the answer of an operation keeps the numbers
pub kept_by_answer : (before after : LiveSets) (wanted : Function) (answer : Result Ref DdErr) → after.order ≡ before.order → Answers wanted (table_of before) (table_of after) answer → KeepsNumbers before after
kept_by_answer before after wanted answer order answers = record {
  vars = answers.vars;
  limit = answers.limit;
  order = order;
  table = answers.table;
  longer = answers.longer;
  earlier = answers.earlier;
}

-- so does what leaves the nodes as they are
pub kept_nodes : (before after : LiveSets) → IsSets before → after.order ≡ before.order → table_of after ≡ table_of before → KeepsNumbers before after
kept_nodes before after sound order same = record {
  vars = ap (λ t. t.vars) same;
  limit = ap (λ t. t.limit) same;
  order = order;
  table = subst IsNodeTable (sym same) sound.table;
  longer = let e : length after.nodes ≡ length before.nodes = ap (λ t. length t.nodes) same in omega arith;
  earlier = λ n _. ap (λ t. function t.nodes n) same;
}

-- the set of a slot is the function of its number
pub set_is : (sets : LiveSets) (slot : ℕ) (number : Ref) → number_at sets slot ≡ Some number → set_of sets slot ≡ read sets.order (function sets.nodes number.0)
unfolding set_of
set_is sets slot number is = ap (λ o. option_map_or (λ (n : Ref). read sets.order (function sets.nodes n.0)) o nothing) is

-- a live slot has a number
pub live_number : (sets : LiveSets) (slot : ℕ) → IsLive sets slot → (number : Ref) × (number_at sets slot ≡ Some number)
unfolding is_live
live_number sets slot live = go (number_at sets slot) refl live
  where
    go : (o : Option Ref) → number_at sets slot ≡ o → is_some o ≡ true → (number : Ref) × (number_at sets slot ≡ Some number)
    go None is some = absurd (cc)
    go (Some number) is some = (number, is)

module _ (before after : LiveSets) (sound : IsSets before) (keeps : KeepsNumbers before after) where
  -- a slot with the same number has the same set, and is as live
  same_slot_set : (slot : ℕ) → number_at after slot ≡ number_at before slot → set_of after slot ≡ set_of before slot
  unfolding set_of
  same_slot_set slot same = ap (λ o. option_map_or (λ (n : Ref). read after.order (function after.nodes n.0)) o nothing) same ∙ go (number_at before slot) refl
    where
      go : (o : Option Ref) → number_at before slot ≡ o
          → option_map_or (λ (n : Ref). read after.order (function after.nodes n.0)) o nothing ≡ option_map_or (λ (n : Ref). read before.order (function before.nodes n.0)) o nothing
      go None is = refl
      go (Some number) is = λ i. read (keeps.order i) (keeps.earlier number.0 (sound.numbers slot number is) i)

  same_slot_live : (slot : ℕ) → number_at after slot ≡ number_at before slot → is_live after slot ≡ is_live before slot
  unfolding is_live
  same_slot_live slot same = ap is_some same

  same_slot_sound : (slot : ℕ) (number : Ref) → number_at after slot ≡ number_at before slot → number_at after slot ≡ Some number → IsNumber after.nodes number.0
  same_slot_sound slot number same is =
      let was : IsNumber before.nodes number.0 = sound.numbers slot number (sym same ∙ is) in
      let longer : length before.nodes ≤ length after.nodes = keeps.longer in
      omega arith

  -- no slot changed
  module _ (same : after.live ≡ before.live) where
    same_at : (slot : ℕ) → number_at after slot ≡ number_at before slot
    same_at slot = ap (λ live. number_at (record before { live = live }) slot) same

    pub same_sets : (slot : ℕ) → set_of after slot ≡ set_of before slot
    same_sets slot = same_slot_set slot (same_at slot)

    pub same_list : live_sets after ≡ live_sets before
    unfolding live_sets
    same_list = ap (λ slots. map (λ (r : Ref). read after.order (function after.nodes r.0)) (filter_map (λ o. o) slots)) same ∙ go before.live (λ slot number is. keeps.earlier number.0 (sound.numbers slot number is))
      where
        go : (slots : List (Option Ref)) → ((slot : ℕ) (number : Ref) → slice_index_or slots slot None ≡ Some number → function after.nodes number.0 ≡ function before.nodes number.0)
            → map (λ (r : Ref). read after.order (function after.nodes r.0)) (filter_map (λ o. o) slots) ≡ map (λ (r : Ref). read before.order (function before.nodes r.0)) (filter_map (λ o. o) slots)
        go [] each = refl
        go (None ∷ slots) each = go slots (λ slot number is. each (suc slot) number is)
        go (Some number ∷ slots) each = λ i. read (keeps.order i) (each 0 number refl i) ∷ go slots (λ slot other is. each (suc slot) other is) i

    pub same_adds_none : AddsNone before after
    unfolding live_count
    same_adds_none = record {
      others = λ other. same_slot_live other (same_at other);
      count = ap (λ live. live_count (record before { live = live })) same;
    }

    pub same_keeps : KeepsSets before after
    same_keeps = record {
      vars = keeps.vars;
      limit = keeps.limit;
      order = keeps.order;
      live = λ slot live. same_slot_live slot (same_at slot) ∙ live;
      sets = λ slot live. same_slot_set slot (same_at slot);
    }

    pub same_sound : IsSets after
    same_sound = record {
      table = keeps.table;
      numbers = λ slot number is. same_slot_sound slot number (same_at slot) is;
      order = order_kept keeps.vars keeps.order sound.order;
    }

  -- a slot got a number
  module _ (number : Ref) (slot : ℕ) (stored : IsStored before.live after.live number slot) where
    free_slot : is_live before slot ≡ false
    unfolding is_live
    free_slot = ap is_some stored.free

    other_slot : (other : ℕ) → IsLive before other → other ≢ slot
    other_slot other live same = let e : is_live before slot ≡ true = ap (is_live before) (sym same) ∙ live in let f = free_slot in absurd (cc)

    pub stored_adds : (set : Function) → read after.order (function after.nodes number.0) ≡ set → Adds before after slot set
    unfolding is_live live_count
    stored_adds set value = record {
      free = free_slot;
      live = ap is_some stored.changed;
      holds = set_is after slot number stored.changed ∙ value;
      others = λ other differs. same_slot_live other (stored.others other differs);
      count = stored.count;
    }

    pub stored_keeps : KeepsSets before after
    stored_keeps = record {
      vars = keeps.vars;
      limit = keeps.limit;
      order = keeps.order;
      live = λ other live. same_slot_live other (stored.others other (other_slot other live)) ∙ live;
      sets = λ other live. same_slot_set other (stored.others other (other_slot other live));
    }

    pub stored_sound : IsNumber after.nodes number.0 → IsSets after
    stored_sound in_table = record {
      table = keeps.table;
      numbers = λ other found is. ⊎_elim
          (λ (here : other ≡ slot).
          let e : number ≡ found = same_Some _ _ (sym stored.changed ∙ ap (number_at after) (sym here) ∙ is) in
          subst (λ (r : Ref). IsNumber after.nodes r.0) e in_table)
          (λ (differs : other ≢ slot). same_slot_sound other found (stored.others other differs) is)
          (cases_eq other slot);
      order = order_kept keeps.vars keeps.order sound.order;
    }

-- what a call that answers a slot leaves
pub record Operated (before after : LiveSets) (set : Function) (result : Result SetId SetErr) : Type 0 where
  pub added : IfOk result (λ slot. Adds before after slot.0 set)
  pub kept : KeepsSets before after
  pub refused : OnErr result (AddsNone before after)
  pub sound : IsSets after

operated_from : (before after : LiveSets) (sound : IsSets before) (keeps : KeepsNumbers before after) (set : Function) (number : Ref)
    → read after.order (function after.nodes number.0) ≡ set → IsNumber after.nodes number.0 → (result : Result SetId SetErr) → Stored before.live after.live number result
    → Operated before after set result
operated_from before after sound keeps set number value in_table (Ok slot) stores = record {
  added = stored_adds before after sound keeps number slot.0 stores.stored set value;
  kept = stored_keeps before after sound keeps number slot.0 stores.stored;
  refused = tt;
  sound = stored_sound before after sound keeps number slot.0 stores.stored in_table;
}
operated_from before after sound keeps set number value in_table (Err e) stores = record {
  added = tt;
  kept = same_keeps before after sound keeps stores.refused;
  refused = same_adds_none before after sound keeps stores.refused;
  sound = same_sound before after sound keeps stores.refused;
}

-- what leaves every slot with its set, and then a call that answers a slot
pub after_same : (before middle after : LiveSets) (set : Function) (result : Result SetId SetErr) → KeepsSets before middle → AddsNone before middle → Operated middle after set result → Operated before after set result
after_same before middle after set result kept same operated = record {
  added = added result operated.added;
  kept = kept_chain before middle after kept operated.kept;
  refused = refused result operated.refused;
  sound = operated.sound;
}
  where
    added : (result : Result SetId SetErr) → IfOk result (λ slot. Adds middle after slot.0 set) → IfOk result (λ slot. Adds before after slot.0 set)
    added (Ok slot) adds = record {
      free = sym (same.others slot.0) ∙ adds.free;
      live = adds.live;
      holds = adds.holds;
      others = λ other differs. adds.others other differs ∙ same.others other;
      count = adds.count ∙ ap (λ n. n + 1) same.count;
    }
    added (Err e) adds = tt

    refused : (result : Result SetId SetErr) → OnErr result (AddsNone middle after) → OnErr result (AddsNone before after)
    refused (Ok slot) none = tt
    refused (Err e) none = record { others = λ other. none.others other ∙ same.others other; count = none.count ∙ same.count }

-- the function of a slot's number is its set
pub number_set : {o : List ℕ} {table : NodeTable} {live : List (Option Ref)} {before : LiveSets} → view_of o table live ≡ before → (slot : ℕ) (number : Ref) → number_at before slot ≡ Some number
    → read o (function table.nodes number.0) ≡ set_of before slot
number_set opens slot number is = ap (λ (s : LiveSets). read s.order (function s.nodes number.0)) opens ∙ sym (set_is _ slot number is)

-- a known number and its slot
pub placed : {o : List ℕ} {t : NodeTable} {l0 l : List (Option Ref)} {number : Ref} {result : Result SetId SetErr} → Stored l0 l number result
    → {before : LiveSets} → view_of o t l0 ≡ before → IsSets (view_of o t l0) → {set : Function} → read o (function t.nodes number.0) ≡ set → IsNumber t.nodes number.0
    → Operated before (view_of o t l) set result
placed {o} {t} {l0} {l} {number} {result} stores opens sound {set} value in_table =
    subst (λ s. Operated s (view_of o t l) set result) opens
    (operated_from (view_of o t l0) (view_of o t l) sound (kept_nodes (view_of o t l0) (view_of o t l) sound refl refl) set number value in_table result stores)

pub number_in_table : {o : List ℕ} {table : NodeTable} {live : List (Option Ref)} {before : LiveSets} → view_of o table live ≡ before → {n : ℕ} → IsNumber before.nodes n → IsNumber table.nodes n
number_in_table opens {n} number = subst (λ (s : LiveSets). IsNumber s.nodes n) (sym opens) number

-- a slot counts one if it is live
pub count_more : (slot : Option Ref) (slots : List (Option Ref)) → count_by is_some (slot ∷ slots) ≡ cond (is_some slot) 1 0 + count_by is_some slots
count_more slot slots = sum_by-cons (λ (o : Option Ref). cond (is_some o) 1 0) slot slots
