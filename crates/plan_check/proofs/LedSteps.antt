-- Whether one, or each, of some numbers has a label, as it is found number by number.
use Rattle.std.proofs.Common.{◌≡◌, ℕ, ◌+◌, ◌<◌, ◌≤◌, ◌||◌, ◌&&◌, Bool, true, false, List, length, drop, get_or, sym, ap, ◌∙◌, subst}
use Rattle.std.proofs.lemmas.List.{drop_all, drop_more}
use Rattle.std.specs.List.{Contains}
use Rattle.std.proofs.lemmas.List.Elements.{Contains-get_or}
use Rattle.plan_check.specs.Walks.{StaysBelow}
use Rattle.plan_check.specs.Labels.{is_led}
use Rattle.plan_check.specs.declared.spreading.Need.TheVariants.{One, Each}

module _ (has : ℕ → Bool) (xs : List ℕ) (k : ℕ) where
  module _ (x : ℕ) (l : k < length xs) (reads : x ≡ get_or xs k 0) where
    one_first : is_led One has (drop k xs) ≡ (has x || is_led One has (drop (k + 1) xs))
    one_first = ap (is_led One has) (drop_more xs k 0 l) ∙ ap (λ y. has y || is_led One has (drop (k + 1) xs)) (sym reads)

    each_first : is_led Each has (drop k xs) ≡ (has x && is_led Each has (drop (k + 1) xs))
    each_first = ap (is_led Each has) (drop_more xs k 0 l) ∙ ap (λ y. has y && is_led Each has (drop (k + 1) xs)) (sym reads)

    pub one_found : is_led One has (drop k xs) ≡ is_led One has xs → has x ≡ true → true ≡ is_led One has xs
    one_found so e = sym (ap (λ b. b || is_led One has (drop (k + 1) xs)) e) ∙ sym one_first ∙ so

    pub one_passed : is_led One has (drop k xs) ≡ is_led One has xs → has x ≡ false → is_led One has (drop (k + 1) xs) ≡ is_led One has xs
    one_passed so e = sym (ap (λ b. b || is_led One has (drop (k + 1) xs)) e) ∙ sym one_first ∙ so

    pub each_failed : is_led Each has (drop k xs) ≡ is_led Each has xs → has x ≡ false → false ≡ is_led Each has xs
    each_failed so e = sym (ap (λ b. b && is_led Each has (drop (k + 1) xs)) e) ∙ sym each_first ∙ so

    pub each_passed : is_led Each has (drop k xs) ≡ is_led Each has xs → has x ≡ true → is_led Each has (drop (k + 1) xs) ≡ is_led Each has xs
    each_passed so e = sym (ap (λ b. b && is_led Each has (drop (k + 1) xs)) e) ∙ sym each_first ∙ so

  pub one_ended : is_led One has (drop k xs) ≡ is_led One has xs → length xs ≤ k → false ≡ is_led One has xs
  one_ended so l = sym (ap (is_led One has) (drop_all k xs l)) ∙ so

  pub each_ended : is_led Each has (drop k xs) ≡ is_led Each has xs → length xs ≤ k → true ≡ is_led Each has xs
  each_ended so l = sym (ap (is_led Each has) (drop_all k xs l)) ∙ so

-- a follower has a mark of its own, true or false
pub place_below : (n m : ℕ) (next : ℕ → List ℕ) → StaysBelow n next → (i k j : ℕ) → i < n → n ≡ m → k < length (next i) → j ≡ get_or (next i) k 0 → j < m
place_below n m next stays i k j l size inside reads =
    subst (λ b. j < b) size (stays i j l (subst (Contains (next i)) (sym reads) (Contains-get_or (next i) k 0 inside)))
