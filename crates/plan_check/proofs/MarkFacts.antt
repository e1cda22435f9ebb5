-- Marks on numbers, and the numbers from which walks lead to a mark.
use Rattle.std.proofs.Common.{◌≡◌, ◌⊎◌, ◌↔◌, ℕ, ◌+◌, ◌<◌, Bool, true, false, not, cond, List, [], ◌∷◌, ◌++◌, length, get_or, set, sym, ap, ◌∙◌, subst, arith, ⊎_elim, inl, inr}
use Rattle.std.specs.List.{Contains}
use Rattle.std.proofs.lemmas.Bool.{cases_eq, cases_lt, false≢true}
use Rattle.std.proofs.lemmas.List.{get_or-set_same, get_or-set_other, get_or_past, get_or_append_left, get_or_push}
use borrow.Author.Count.{below_more}
use Rattle.std.proofs.lemmas.List.Sums.{sum_by-set}
use Rattle.plan_check.specs.Marks.{unmarked}
use Rattle.plan_check.specs.Walks.{IsMarked, IsWalk, LeadsToMarked, StaysBelow, last_number}

pub marked_below : (marks : List Bool) (i : ℕ) → IsMarked marks i → i < length marks
marked_below marks i m =
    ⊎_elim (λ l. l) (λ past. absurd (false≢true (sym (get_or_past marks i false past) ∙ m))) (cases_lt i (length marks))

-- one more mark
pub marked_same : (marks : List Bool) (i : ℕ) → i < length marks → IsMarked (set marks i true) i
marked_same marks i l = get_or-set_same marks i true false l

pub marked_more : (marks : List Bool) (i j : ℕ) → i < length marks → IsMarked marks j → IsMarked (set marks i true) j
marked_more marks i j l m =
    ⊎_elim (λ (e : j ≡ i). subst (IsMarked (set marks i true)) (sym e) (marked_same marks i l)) (λ ne. get_or-set_other marks i j true false ne ∙ m) (cases_eq j i)

pub marked_cases : (marks : List Bool) (i j : ℕ) → IsMarked (set marks i true) j → IsMarked marks j ⊎ (i ≡ j)
marked_cases marks i j m =
    ⊎_elim (λ (e : j ≡ i). inr (sym e)) (λ ne. inl (sym (get_or-set_other marks i j true false ne) ∙ m)) (cases_eq j i)

-- 1 for a number without a mark, else 0
abbrev unmarked_one : Bool → ℕ
unmarked_one b = cond (not b) 1 0

pub fewer_unmarked : (marks : List Bool) (i : ℕ) → i < length marks → get_or marks i false ≡ false → unmarked (set marks i true) + 1 ≡ unmarked marks
fewer_unmarked marks i l e =
    let s : unmarked (set marks i true) + unmarked_one (get_or marks i false) ≡ unmarked marks + unmarked_one true = sum_by-set unmarked_one marks i true false l in
    sym (ap (λ b. unmarked (set marks i true) + unmarked_one b) e) ∙ s ∙ omega arith

-- one more mark at the end
pub marked_push : (marks : List Bool) (b : Bool) (P : ℕ → Type 0) (i : ℕ) → length marks ≡ i → ((k : ℕ) → k < i → IsMarked marks k ↔ P k) → ((b ≡ true) ↔ P i)
    → (k : ℕ) → k < i + 1 → IsMarked (marks ++ b ∷ []) k ↔ P k
marked_push marks b P i len so last =
    below_more (λ k. IsMarked (marks ++ b ∷ []) k ↔ P k) i
    (λ k l. let e : get_or (marks ++ b ∷ []) k false ≡ get_or marks k false = get_or_append_left marks (b ∷ []) false k (subst (λ n. k < n) (sym len) l) in
    ((λ m. (so k l).0 (sym e ∙ m)), (λ p. e ∙ (so k l).1 p)))
    (let e : get_or (marks ++ b ∷ []) i false ≡ b = get_or_push marks b false i len in
    ((λ m. last.0 (sym e ∙ m)), (λ p. e ∙ last.1 p)))

-- one step more leads to a mark too
pub leads_before : (next : ℕ → List ℕ) (marks : List Bool) (i j : ℕ) → Contains (next i) j → LeadsToMarked next marks j → LeadsToMarked next marks i
leads_before next marks i j c x = record { rest = j ∷ x.rest; walk = (c, x.walk); ends = x.ends }

-- marks that are closed under steps back hold wherever a walk leads to one of the first
pub closed_leads : (n : ℕ) (next : ℕ → List ℕ) (first marks : List Bool) → StaysBelow n next → ((i : ℕ) → IsMarked first i → IsMarked marks i)
    → ((i j : ℕ) → i < n → Contains (next i) j → IsMarked marks j → IsMarked marks i)
    → (i : ℕ) → i < n → LeadsToMarked next first i → IsMarked marks i
closed_leads n next first marks stays kept closed i l x = go i x.rest l x.walk x.ends
  where
    go : (i : ℕ) (rest : List ℕ) → i < n → IsWalk next i rest → IsMarked first (last_number i rest) → IsMarked marks i
    go i [] l w m = kept i m
    go i (j ∷ rest) l w m = closed i j l w.0 (go j rest (stays i j l w.0) w.1 m)
