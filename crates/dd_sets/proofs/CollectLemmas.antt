-- What a collection leaves in the slots and in the table.
use Rattle.std.proofs.Common.{◌≡◌, inl, ℕ, zero, suc, ◌+◌, ◌<◌, List, [], ◌∷◌, length, map, filter_map, drop, get_or, Option, Some, None, is_some, count_by, slice_index_or, All, refl, sym, ap, subst, ◌∙◌, arith}
use Rattle.std.specs.Option.{option_map_or}
use Rattle.std.proofs.lemmas.Option.{none-some, same_Some}
use Rattle.slab.specs.Slab.{entries_from}
use Rattle.dd_nodes.specs.declared.node.Node.{Node}
use Rattle.dd_nodes.specs.declared.node.Ref.{Ref}
use Rattle.dd_nodes.specs.NodeList.{IsNumber, IsReduced, function}
use Rattle.dd_nodes.specs.Subfunctions.{Function, IsSubfunction, nodes}
use Rattle.dd_nodes.specs.Table.{NodeTable, IsNodeTable}
use Rattle.dd_nodes.proofs.CollectedCount.{collected_counted}
use Rattle.dd_nodes.proofs.NodeLemmas.{function_false, function_true}
use Rattle.dd_nodes.proofs.Reaching.{reached_number, reached_sub, sub_reached}
use Rattle.dd_nodes.specs.Collecting.{Collected}
use Rattle.dd_sets.specs.LiveSets.{LiveSets, IsSets, is_live, live_count, live_sets, nothing, set_of}
use Rattle.dd_sets.specs.Orders.{read}
use Rattle.dd_sets.specs.Stores.{renumbered, view_of}
use Rattle.dd_sets.specs.Tries.{Collects}
use Rattle.dd_sets.proofs.OrderLemmas.{order_kept}
use Rattle.dd_sets.proofs.SlotLemmas.{count_more}

-- the numbers that slots hold
abbrev held : List (Option Ref) → List Ref
held slots = filter_map (λ slot. slot) slots

entries_held : (key : ℕ) (slots : List (Option Ref)) → map (λ (entry : ℕ × Ref). entry.1) (entries_from key slots) ≡ held slots
entries_held key [] = refl
entries_held key (None ∷ slots) = entries_held (key + 1) slots
entries_held key (Some number ∷ slots) = ap (λ rest. number ∷ rest) (entries_held (key + 1) slots)

-- a new number for each slot that has one
pub same_liveness : (slots : List (Option Ref)) (new : List Ref) (slot : ℕ) → is_some (slice_index_or (renumbered slots new) slot None) ≡ is_some (slice_index_or slots slot None)
unfolding renumbered
same_liveness [] new slot = refl
same_liveness (None ∷ slots) new zero = refl
same_liveness (None ∷ slots) new (suc slot) = same_liveness slots new slot
same_liveness (Some old ∷ slots) [] slot = refl
same_liveness (Some old ∷ slots) (number ∷ new) zero = refl
same_liveness (Some old ∷ slots) (number ∷ new) (suc slot) = same_liveness slots new slot

same_count : (slots : List (Option Ref)) (new : List Ref) → count_by is_some (renumbered slots new) ≡ count_by is_some slots
unfolding renumbered
same_count [] new = refl
same_count (None ∷ slots) new = omega (arith, same_count slots new, count_more None slots, count_more None (renumbered slots new))
same_count (Some old ∷ slots) [] = refl
same_count (Some old ∷ slots) (number ∷ new) = omega (arith, same_count slots new, count_more (Some old) slots, count_more (Some number) (renumbered slots new))

held_new : (slots : List (Option Ref)) (new : List Ref) → length new ≡ length (held slots) → held (renumbered slots new) ≡ new
unfolding renumbered
held_new [] [] same = refl
held_new [] (number ∷ new) same = absurd (omega (arith, same))
held_new (None ∷ slots) new same = held_new slots new same
held_new (Some old ∷ slots) [] same = absurd (omega (arith, same))
held_new (Some old ∷ slots) (number ∷ new) same = ap (λ rest. number ∷ rest) (held_new slots new (omega (arith, same)))

-- each slot has its function
same_functions : (after before : Ref → Function) (slots : List (Option Ref)) (new : List Ref) → map after new ≡ map before (held slots)
    → (slot : ℕ) → option_map_or after (slice_index_or (renumbered slots new) slot None) nothing ≡ option_map_or before (slice_index_or slots slot None) nothing
unfolding renumbered
same_functions after before [] new same slot = refl
same_functions after before (None ∷ slots) new same zero = refl
same_functions after before (None ∷ slots) new same (suc slot) = same_functions after before slots new same slot
same_functions after before (Some old ∷ slots) [] same slot = absurd (let e : 0 ≡ suc (length (map before (held slots))) = ap length same in omega arith)
same_functions after before (Some old ∷ slots) (number ∷ new) same zero = ap (λ l. get_or l 0 nothing) same
same_functions after before (Some old ∷ slots) (number ∷ new) same (suc slot) = same_functions after before slots new (ap (drop 1) same) slot

-- what is true of the new numbers is true of each slot's
each_new : (P : Ref → Type 0) (slots : List (Option Ref)) (new : List Ref) → length new ≡ length (held slots) → All P new
    → (slot : ℕ) (number : Ref) → slice_index_or (renumbered slots new) slot None ≡ Some number → P number
unfolding renumbered
each_new P [] new same all slot number is = absurd (none-some number is)
each_new P (None ∷ slots) new same all zero number is = absurd (none-some number is)
each_new P (None ∷ slots) new same all (suc slot) number is = each_new P slots new same all slot number is
each_new P (Some old ∷ slots) [] same all slot number is = absurd (omega (arith, same))
each_new P (Some old ∷ slots) (first ∷ new) same all zero number is = subst P (same_Some first number is) (all 0 first (omega arith))
each_new P (Some old ∷ slots) (first ∷ new) same all (suc slot) number is =
    each_new P slots new (omega (arith, same)) (λ k d within. all (suc k) d (omega arith)) slot number is

-- and what is true of each slot's number of the numbers of all
pub all_held : (P : Ref → Type 0) (slots : List (Option Ref)) → ((slot : ℕ) (number : Ref) → slice_index_or slots slot None ≡ Some number → P number) → All P (held slots)
all_held P [] each k d within = absurd (omega arith)
all_held P (None ∷ slots) each k d within = all_held P slots (λ slot number is. each (suc slot) number is) k d within
all_held P (Some number ∷ slots) each zero d within = each 0 number refl
all_held P (Some number ∷ slots) each (suc k) d within = all_held P slots (λ slot other is. each (suc slot) other is) k d (omega arith)

-- a root at a place has the function that it had
root_at : (after before : Ref → Function) (new old : List Ref) → map after new ≡ map before old → (k : ℕ) (number : Ref) → k < length new → slice_index_or new k number ≡ number
    → (was : Ref) × (k < length old) × (slice_index_or old k was ≡ was) × (after number ≡ before was)
root_at after before [] old same k number within at = absurd (omega arith)
root_at after before (first ∷ new) [] same k number within at = absurd (let e : suc (length (map after new)) ≡ 0 = ap length same in omega arith)
root_at after before (first ∷ new) (was ∷ old) same zero number within at = (was, omega arith, refl, sym (ap after at) ∙ ap (λ l. get_or l 0 nothing) same)
root_at after before (first ∷ new) (was ∷ old) same (suc k) number within at =
    let rest = root_at after before new old (ap (drop 1) same) k number (omega arith) at in
    let inner : k < length old = rest.1 in
    (rest.0, omega arith, rest.2, rest.3)

-- each number of the table has a function that a number had before
was_there : (vars : ℕ) (before after : List Node) → IsReduced vars before → IsReduced vars after → (old new : List Ref) → All (λ (r : Ref). IsNumber before r.0) old → Collected before after old new
    → (n : ℕ) → IsNumber after n → (m : ℕ) × IsNumber before m × (function after n ≡ function before m)
was_there vars before after was is old new roots collected zero number = (0, omega arith, λ i values. (function_false after values ∙ sym (function_false before values)) i)
was_there vars before after was is old new roots collected (suc zero) number = (1, omega arith, λ i values. (function_true after values ∙ sym (function_true before values)) i)
was_there vars before after was is old new roots collected (suc (suc n)) number =
    let root = collected.reached (suc (suc n)) (omega arith) number in
    let same = root_at (λ (r : Ref). function after r.0) (λ (r : Ref). function before r.0) new old collected.functions root.0 root.1 root.2 root.3 in
    let sub : IsSubfunction vars (function after root.1.0) (function after (suc (suc n))) = reached_sub vars after is root.1.0 (suc (suc n)) root.4 in
    let there = sub_reached vars before was same.0.0 (function after (suc (suc n))) (subst (λ (f : Function). IsSubfunction vars f (function after (suc (suc n)))) same.3 sub) in
    let root_number : IsNumber before same.0.0 = subst (λ (r : Ref). IsNumber before r.0) same.2 (roots root.0 same.0 same.1) in
    (there.0, reached_number vars before was same.0.0 there.0 there.1 root_number, sym there.2)

-- the roots of a collection are numbers
pub roots_ready : {o : List ℕ} {t : NodeTable} {l : List (Option Ref)} → IsSets (view_of o t l) → (old : List Ref) → old ≡ map (λ (entry : ℕ × Ref). entry.1) (entries_from 0 l) → All (λ (r : Ref). IsNumber t.nodes r.0) old
roots_ready {o} {t} {l} sound old are =
    subst (λ (roots : List Ref). All (λ (r : Ref). IsNumber t.nodes r.0) roots) (sym (are ∙ entries_held 0 l)) (all_held (λ (r : Ref). IsNumber t.nodes r.0) l (λ slot number is. sound.numbers slot number is))

-- functions that are read one by one
read_all : (o : List ℕ) (f : Ref → Function) (roots : List Ref) → map (λ (r : Ref). read o (f r)) roots ≡ map (read o) (map f roots)
read_all o f [] = refl
read_all o f (r ∷ roots) = ap (λ rest. read o (f r) ∷ rest) (read_all o f roots)

-- a collection whose new numbers the slots took
pub collected_sets : {o : List ℕ} {t0 t : NodeTable} {l0 l : List (Option Ref)} {before : LiveSets} → view_of o t0 l0 ≡ before → IsSets (view_of o t0 l0) → (old new : List Ref) → old ≡ map (λ (entry : ℕ × Ref). entry.1) (entries_from 0 l0)
    → t.vars ≡ t0.vars → t.limit ≡ t0.limit → IsNodeTable t → Collected t0.nodes t.nodes old new → l ≡ renumbered l0 new → Collects before (view_of o t l)
unfolding is_live set_of live_count live_sets
collected_sets {o} {t0} {t} {l0} {l} opens sound old new are vars limit table collected numbered = subst (λ s. Collects s (view_of o t l)) opens (record {
  vars = vars;
  limit = limit;
  order = refl;
  sound = record {
    table = table;
    numbers = λ slot number is. each_new (λ (r : Ref). IsNumber t.nodes r.0) l0 new many collected.numbers slot number (ap (λ s. slice_index_or s slot None) (sym numbered) ∙ is);
    order = order_kept vars refl sound.order;
  };
  live = λ slot. ap (λ s. is_some (slice_index_or s slot None)) numbered ∙ same_liveness l0 new slot;
  sets = λ slot. ap (λ s. option_map_or (λ (r : Ref). read o (function t.nodes r.0)) (slice_index_or s slot None) nothing) numbered
      ∙ same_functions (λ (r : Ref). read o (function t.nodes r.0)) (λ (r : Ref). read o (function t0.nodes r.0)) l0 new functions slot;
  count = ap (count_by is_some) numbered ∙ same_count l0 new;
  all = sets_same;
  nodes_left = λ none. collected_counted t.vars t0.nodes t.nodes old new table.reduced collected
      ∙ (λ i. nodes t.vars (map (λ (r : Ref). read (sym none i) (function t.nodes r.0)) (sym held_same i)));
  made = record {
    numbers = λ _ n number. inl (was_there t.vars t0.nodes t.nodes (subst (λ v. IsReduced v t0.nodes) (sym vars) sound.table.reduced) table.reduced old new (roots_ready sound old are) collected n number);
  };
})
  where
    roots : old ≡ held l0
    roots = are ∙ entries_held 0 l0

    many : length new ≡ length (held l0)
    many = collected.count ∙ ap length roots

    functions : map (λ (r : Ref). read o (function t.nodes r.0)) new ≡ map (λ (r : Ref). read o (function t0.nodes r.0)) (held l0)
    functions =
        read_all o (λ (r : Ref). function t.nodes r.0) new
        ∙ ap (map (read o)) (collected.functions ∙ ap (map (λ (r : Ref). function t0.nodes r.0)) roots)
        ∙ sym (read_all o (λ (r : Ref). function t0.nodes r.0) (held l0))

    held_same : held l ≡ new
    held_same = ap held numbered ∙ held_new l0 new many

    sets_same : map (λ (r : Ref). read o (function t.nodes r.0)) (held l) ≡ map (λ (r : Ref). read o (function t0.nodes r.0)) (held l0)
    sets_same = ap (map (λ (r : Ref). read o (function t.nodes r.0))) held_same ∙ functions
