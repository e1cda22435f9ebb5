-- The configurations that were found stand in the order in which they are met.
use Rattle.std.proofs.Common.{◌≡◌, ℕ, ◌+◌, ◌<◌, ◌≤◌, Bool, true, false, cond, List, [], ◌∷◌, ◌++◌, length, take, slice_get, Some, refl, sym, ap, ◌∙◌, arith, append-nil}
use Rattle.std.specs.List.{flat_map, fold, list_any}
use Rattle.std.proofs.lemmas.Grind.{flat_map-append}
use Rattle.std.proofs.lemmas.List.{take-append-le, take_more}
use Rattle.std.proofs.lemmas.List.Sums.{fold-append}
use Rattle.std.proofs.lemmas.Option.{get_or_from_slice_get, slice_get_within}
use Rattle.task_core.specs.Systems.{System}
use Rattle.task_core.specs.ContextPlans.{Configuration}
use Rattle.plan_rules.specs.Rules.{PlainPlan}
use Rattle.exec_graph.specs.Counting.{add_configuration, same_configuration}
use Rattle.exec_graph.specs.Orders.{onward}
use Rattle.exec_graph.proofs.Listed.{added_length}

-- the first ones stay
take-added : (xs : List Configuration) (y : Configuration) (k : ℕ) → k ≤ length xs → take k (add_configuration xs y) ≡ take k xs
take-added xs y k l = go (list_any (same_configuration y) xs)
  where
    go : (b : Bool) → take k (cond b xs (xs ++ y ∷ [])) ≡ take k xs
    go true = refl
    go false = take-append-le k xs (y ∷ []) l

take-all_added : (ys xs : List Configuration) (k : ℕ) → k ≤ length xs → take k (fold add_configuration xs ys) ≡ take k xs
take-all_added [] xs k l = refl
take-all_added (y ∷ ys) xs k l =
    let longer = added_length xs y in
    take-all_added ys (add_configuration xs y) k (omega arith) ∙ take-added xs y k l

-- after one more visit
pub order_kept : (sys : System) (plan : PlainPlan) (begun found now : List Configuration) (k : ℕ) (x : Configuration)
    → found ≡ fold add_configuration begun (flat_map (onward sys plan) (take k found)) → slice_get found k ≡ Some x
    → now ≡ fold add_configuration found (onward sys plan x)
    → now ≡ fold add_configuration begun (flat_map (onward sys plan) (take (k + 1) now))
order_kept sys plan begun found now k x before at grown =
    let inside : k < length found = slice_get_within found k x at in
    let more : take (k + 1) found ≡ take k found ++ x ∷ [] = take_more found k x inside ∙ ap (λ y. take k found ++ y ∷ []) (get_or_from_slice_get found k x x at) in
    let stays : take (k + 1) now ≡ take (k + 1) found = ap (take (k + 1)) grown ∙ take-all_added (onward sys plan x) found (k + 1) (omega arith) in
    let met : flat_map (onward sys plan) (take (k + 1) now) ≡ flat_map (onward sys plan) (take k found) ++ onward sys plan x =
    ap (flat_map (onward sys plan)) (stays ∙ more) ∙ flat_map-append (onward sys plan) (take k found) (x ∷ [])
    ∙ ap (λ ys. flat_map (onward sys plan) (take k found) ++ ys) (append-nil (onward sys plan x)) in
    grown
    ∙ ap (λ ys. fold add_configuration ys (onward sys plan x)) before
    ∙ sym (fold-append add_configuration begun (flat_map (onward sys plan) (take k found)) (onward sys plan x))
    ∙ ap (fold add_configuration begun) (sym met)
