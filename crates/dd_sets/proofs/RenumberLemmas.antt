-- New numbers for slots, written one after another.
use Rattle.std.proofs.Common.{◌≡◌, ℕ, zero, suc, ◌+◌, ◌-◌, ◌<◌, ◌≤◌, true, List, [], ◌∷◌, length, map, take, Option, Some, None, is_some, slice_index_or, slice_set, refl, sym, ap, ◌∙◌, arith}
use Rattle.slab.specs.Slab.{entries_from}
use Rattle.dd_nodes.specs.declared.node.Ref.{Ref}
use Rattle.dd_sets.specs.Stores.{renumbered}
use Rattle.dd_sets.proofs.CollectLemmas.{same_liveness}

-- the slots that hold a number, from a slot on
abbrev pub keys_from : ℕ → List (Option Ref) → List ℕ
keys_from first slots = map (λ (entry : ℕ × Ref). entry.0) (entries_from first slots)

pub none_written : (slots : List (Option Ref)) → renumbered slots [] ≡ slots
unfolding renumbered
none_written [] = refl
none_written (None ∷ slots) = ap (λ rest. None ∷ rest) (none_written slots)
none_written (Some number ∷ slots) = refl

key_above : (first : ℕ) (slots : List (Option Ref)) (k : ℕ) → k < length (keys_from first slots) → first ≤ slice_index_or (keys_from first slots) k 0
key_above first [] k within = absurd (omega arith)
key_above first (None ∷ slots) k within = omega (arith, key_above (first + 1) slots k within)
key_above first (Some number ∷ slots) zero within = omega arith
key_above first (Some number ∷ slots) (suc k) within = omega (arith, key_above (first + 1) slots k (omega arith))

-- how far such a slot is from the slot before the first
key_next : (first : ℕ) (slots : List (Option Ref)) (k : ℕ) → k < length (keys_from (first + 1) slots) → slice_index_or (keys_from (first + 1) slots) k 0 - first ≡ suc (slice_index_or (keys_from (first + 1) slots) k 0 - (first + 1))
key_next first slots k within = omega (arith, key_above (first + 1) slots k within)

key_here : (first : ℕ) → first - first ≡ 0
key_here first = omega arith

key_live : (first : ℕ) (slots : List (Option Ref)) (k : ℕ) → k < length (keys_from first slots) → is_some (slice_index_or slots (slice_index_or (keys_from first slots) k 0 - first) None) ≡ true
key_live first [] k within = absurd (omega arith)
key_live first (None ∷ slots) k within = ap (λ i. is_some (slice_index_or (None ∷ slots) i None)) (key_next first slots k within) ∙ key_live (first + 1) slots k within
key_live first (Some number ∷ slots) zero within = ap (λ i. is_some (slice_index_or (Some number ∷ slots) i None)) (key_here first)
key_live first (Some number ∷ slots) (suc k) within =
    let inner : k < length (keys_from (first + 1) slots) = omega arith in
    ap (λ i. is_some (slice_index_or (Some number ∷ slots) i None)) (key_next first slots k inner) ∙ key_live (first + 1) slots k inner

key_written : (first : ℕ) (slots : List (Option Ref)) (new : List Ref) (k : ℕ) (d : Ref) → k < length (keys_from first slots) → k < length new
    → slice_set (renumbered slots (take k new)) (slice_index_or (keys_from first slots) k 0 - first) (Some (slice_index_or new k d)) ≡ renumbered slots (take (suc k) new)
unfolding renumbered
key_written first [] new k d within inside = absurd (omega arith)
key_written first (None ∷ slots) new k d within inside =
    ap (λ i. slice_set (None ∷ renumbered slots (take k new)) i (Some (slice_index_or new k d))) (key_next first slots k within)
    ∙ ap (λ rest. None ∷ rest) (key_written (first + 1) slots new k d within inside)
key_written first (Some old ∷ slots) [] k d within inside = absurd (omega arith)
key_written first (Some old ∷ slots) (number ∷ new) zero d within inside =
    ap (λ i. slice_set (Some old ∷ slots) i (Some number)) (key_here first) ∙ ap (λ rest. Some number ∷ rest) (sym (none_written slots))
key_written first (Some old ∷ slots) (number ∷ new) (suc k) d within inside =
    let inner : k < length (keys_from (first + 1) slots) = omega arith in
    ap (λ i. slice_set (Some number ∷ renumbered slots (take k new)) i (Some (slice_index_or new k d))) (key_next first slots k inner)
    ∙ ap (λ rest. Some number ∷ rest) (key_written (first + 1) slots new k d inner (omega arith))

-- the same of all slots
from_start : (n : ℕ) → n ≡ n - 0
from_start n = omega arith

pub next_live : (slots : List (Option Ref)) (new : List Ref) (keys : List ℕ) (k : ℕ) → keys ≡ keys_from 0 slots → k < length keys → is_some (slice_index_or (renumbered slots new) (slice_index_or keys k 0) None) ≡ true
next_live slots new keys k are within =
    let inside : k < length (keys_from 0 slots) = omega (arith, ap length are) in
    same_liveness slots new (slice_index_or keys k 0) ∙ ap (λ l. is_some (slice_index_or slots (slice_index_or l k 0) None)) are
    ∙ ap (λ i. is_some (slice_index_or slots i None)) (from_start (slice_index_or (keys_from 0 slots) k 0)) ∙ key_live 0 slots k inside

pub next_written : (slots : List (Option Ref)) (new : List Ref) (keys : List ℕ) (k : ℕ) (d : Ref) → keys ≡ keys_from 0 slots → k < length keys → length new ≡ length keys
    → slice_set (renumbered slots (take k new)) (slice_index_or keys k 0) (Some (slice_index_or new k d)) ≡ renumbered slots (take (k + 1) new)
next_written slots new keys k d are within many =
    let inside : k < length (keys_from 0 slots) = omega (arith, ap length are) in
    let more : suc k ≡ k + 1 = omega arith in
    ap (λ l. slice_set (renumbered slots (take k new)) (slice_index_or l k 0) (Some (slice_index_or new k d))) are
    ∙ ap (λ i. slice_set (renumbered slots (take k new)) i (Some (slice_index_or new k d))) (from_start (slice_index_or (keys_from 0 slots) k 0))
    ∙ key_written 0 slots new k d inside (omega arith) ∙ ap (λ n. renumbered slots (take n new)) more
