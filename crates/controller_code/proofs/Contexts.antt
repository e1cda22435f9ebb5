-- A context more is decided.
use Rattle.std.proofs.Common.{◌≡◌, ◌≤◌, ◌<◌, ◌+◌, ◌-◌, ◌++◌, ◌∷◌, ◌⊎◌, ℕ, List, [], length, map, get_or, sym, subst, ap, ◌∙◌, inl, inr, arith}
use Rattle.std.proofs.lemmas.Bool.{cases_lt}
use Rattle.std.proofs.Math.ListN.{get_or-append}
use Rattle.std.proofs.Math.Seq.{get_or-append_seam}
use Rattle.task_core.specs.Vectors.{Vector}
use Rattle.rule_lookup.specs.RunRules.{in_one_context}
use Rattle.plan_rules.specs.Rules.{ContextRule, PlanRule, table}
use Rattle.task_core.specs.declared.classes.Class.{Class}
use Rattle.controller_code.specs.FirstMoves.{DecidesAs, DecidesFirst, first_move, plan_move}
use Rattle.controller_code.specs.Steps.{AreKept, Decides}
use Rattle.controller_code.specs.declared.left_rules.LeftRule.{LeftRule}
use Rattle.controller_code.specs.declared.steps.Step.{Step}
use Rattle.controller_code.specs.declared.trees.Tree.{Tree}
use Rattle.controller_code.proofs.StepLemmas.{decides_later}

-- from the start of each context up to n, the moves of rules are decided
pub record AreDecided (steps : List Step) (starts : List ℕ) (rules : List ContextRule) (n : ℕ) : Type 0 where
  pub each : (context : ℕ) (v : Vector) → 1 ≤ context → context ≤ n
      → Decides steps v (get_or starts (context - 1) 0) (plan_move rules context v)

pub none_decided : (steps : List Step) (starts : List ℕ) (rules : List ContextRule) → AreDecided steps starts rules 0
none_decided steps starts rules = record { each = λ context v low high. absurd (omega arith) }

pub one_more : (before after : List Step) → AreKept before after → (starts : List ℕ) (n : ℕ) → length starts ≡ n
    → (rules : List ContextRule) → AreDecided before starts rules n → (lefts : List LeftRule) (start : ℕ) → DecidesFirst after start lefts
    → ((v : Vector) → first_move lefts v ≡ plan_move rules (n + 1) v) → (more : List ℕ) → more ≡ starts ++ start ∷ []
    → AreDecided after more rules (n + 1)
one_more before after kept starts n count rules old lefts start new same more is =
    record { each = λ context v low high. go context v low (last_or context high) }
  where
    last_or : (context : ℕ) → context ≤ n + 1 → (context ≤ n) ⊎ (context ≡ n + 1)
    last_or context high = elim (cases_lt n context) as (λ w. (context ≤ n) ⊎ (context ≡ n + 1)) [ inl h ↦ inr (omega arith) | inr h ↦ inl (omega arith) ]

    go : (context : ℕ) (v : Vector) → 1 ≤ context → (context ≤ n) ⊎ (context ≡ n + 1)
        → Decides after v (get_or more (context - 1) 0) (plan_move rules context v)
    go context v low (inl high) =
        let within : context - 1 < length starts = omega arith in
        let place : get_or more (context - 1) 0 ≡ get_or starts (context - 1) 0 = ap (λ xs. get_or xs (context - 1) 0) is ∙ get_or-append starts (start ∷ []) 0 (context - 1) within in
        subst (λ (k : ℕ). Decides after v k (plan_move rules context v)) (sym place)
        (decides_later before after kept v (get_or starts (context - 1) 0) (plan_move rules context v) (old.each context v low high))
    go context v low (inr last) =
        let at : context - 1 ≡ length starts = omega arith in
        let place : get_or more (context - 1) 0 ≡ start = ap (λ xs. get_or xs (context - 1) 0) is ∙ ap (λ k. get_or (starts ++ start ∷ []) k 0) at ∙ get_or-append_seam starts start [] 0 in
        subst (λ (k : ℕ). Decides after v k (plan_move rules context v)) (sym place)
        (subst (λ (k : ℕ). Decides after v start (plan_move rules k v)) (sym last) (subst (Decides after v start) (same v) (new.answer v)))

pub table_decided : (tree : Tree) (class : Class) (rules : List PlanRule) (lefts : List LeftRule) (start : ℕ) → tree.starts.items ≡ start ∷ []
    → DecidesFirst tree.steps.items start lefts → ((v : Vector) → first_move lefts v ≡ plan_move (map in_one_context rules) 1 v)
    → DecidesAs tree (table class rules)
table_decided tree class rules lefts start is decided same context v low high =
    let last : context ≡ 1 = omega arith in
    let P : ℕ → Type 0 = λ k. Decides tree.steps.items v (get_or tree.starts.items (k - 1) 0) (plan_move (map in_one_context rules) k v) in
    subst P (sym last)
    (subst (λ (xs : List ℕ). Decides tree.steps.items v (get_or xs 0 0) (plan_move (map in_one_context rules) 1 v)) (sym is)
    (subst (Decides tree.steps.items v start) (same v) (decided.answer v)))
