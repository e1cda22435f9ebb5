-- The least-numbered action that passes a test.
use Rattle.std.proofs.Common.{◌≡◌, ℕ, ◌<◌, Bool, true, false, not, ◌&&◌, refl, sym, ◌∙◌, arith}
use Rattle.std.specs.List.{find, list_any, range_with_len}
use Rattle.std.proofs.lemmas.Bool.{false_from_ne_true, true≢false}
use Rattle.std.proofs.lemmas.Option.{same_Some}
use Rattle.list_laws.proofs.Elements.{Contains-range_with_len-below, find-None, find-Some, find-found}
use Rattle.list_laws.proofs.Ranges.{find-before, find-first}
use Rattle.plan_theory.specs.LayerPlans.{is_action}
use Rattle.plan_theory.proofs.WeakPrinted.{is_action-Some, is_action-from}

-- it is b where b passes and none before it does
pub first_is : (p : ℕ → Bool) (n b : ℕ) → b < n → (p b && not (list_any p (range_with_len 0 b))) ≡ is_action b (find p (range_with_len 0 n))
first_is p n b below = go (p b) (list_any p (range_with_len 0 b)) refl refl
  where
    not_it : ((is_action b (find p (range_with_len 0 n)) ≡ true) → ⊥) → false ≡ is_action b (find p (range_with_len 0 n))
    not_it no_more = sym (false_from_ne_true (is_action b (find p (range_with_len 0 n))) no_more)

    earlier : list_any p (range_with_len 0 b) ≡ true → is_action b (find p (range_with_len 0 n)) ≡ true → ⊥
    earlier f h =
        let w = find-Some p (range_with_len 0 b) f in
        let at = find-found p (range_with_len 0 b) w.0 w.1 in
        let low : w.0 < b = Contains-range_with_len-below b w.0 at.0 in
        let e : w.0 ≡ b = same_Some w.0 b (sym (find-before p b n w.0 below w.1) ∙ is_action-Some b (find p (range_with_len 0 n)) h) in
        omega arith

    fails : p b ≡ false → is_action b (find p (range_with_len 0 n)) ≡ true → ⊥
    fails e h = true≢false (sym (find-found p (range_with_len 0 n) b (is_action-Some b (find p (range_with_len 0 n)) h)).1 ∙ e)

    go : (x y : Bool) → p b ≡ x → list_any p (range_with_len 0 b) ≡ y → (x && not y) ≡ is_action b (find p (range_with_len 0 n))
    go true false e f = sym (is_action-from b (find p (range_with_len 0 n)) (find-first p b n (find-None p (range_with_len 0 b) f) below e))
    go true true e f = not_it (earlier f)
    go false y e f = not_it (fails e)
