-- Texts that are put one after another; the last one has two parts.
use Rattle.std.proofs.Common.{◌≡◌, ℕ, List, [], ◌++◌, ap, sym, ◌∙◌, append_assoc}

pub three_parts : (old p q e f : List ℕ) {a b d : List ℕ} → a ≡ old ++ p → b ≡ a ++ q → d ≡ b ++ (e ++ f) → d ≡ old ++ (((p ++ q) ++ e) ++ f)
three_parts old p q e f one two three =
    three ∙ ap (λ x. x ++ (e ++ f)) (two ∙ ap (λ x. x ++ q) one ∙ append_assoc old p q) ∙ append_assoc old (p ++ q) (e ++ f)
    ∙ ap (λ x. old ++ x) (sym (append_assoc (p ++ q) e f))

pub four_parts : (p q r e f : List ℕ) {old a b c d : List ℕ} → old ≡ [] → a ≡ old ++ p → b ≡ a ++ q → c ≡ b ++ r → d ≡ c ++ (e ++ f) → d ≡ (((p ++ q) ++ r) ++ e) ++ f
four_parts p q r e f none one two three four =
    four ∙ ap (λ x. x ++ (e ++ f)) (three ∙ ap (λ x. x ++ r) (two ∙ ap (λ x. x ++ q) (one ∙ ap (λ x. x ++ p) none)))
    ∙ sym (append_assoc ((p ++ q) ++ r) e f)
