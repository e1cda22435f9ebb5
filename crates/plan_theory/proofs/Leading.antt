-- Actions that can be executed and have every outcome in a set.
use Rattle.std.proofs.Common.{◌≡◌, ℕ, zero, suc, ◌<◌, ◌≤◌, ◌+◌, Bool, true, false, Some, refl, sym, ap, ◌∙◌, arith, ⊎_elim}
use Rattle.std.specs.List.{find, list_all, range_with_len}
use Rattle.std.proofs.lemmas.Bool.{and_from, and_parts, cond-false, cond-true, true≢false, cases_lt}
use Rattle.std.proofs.lemmas.Option.{none-some, same_Some}
use Rattle.task_core.specs.Cubes.{SetOfVectors}
use Rattle.task_core.specs.Vectors.{Vector}
use Rattle.task_core.specs.Systems.{System, Exec, HasOutcome, IsSystem}
use Rattle.plan_theory.specs.Layers.{action_numbers, may_lead, must_lead}
use Rattle.plan_theory.proofs.Weak.{HasOutcome-Exec}
use Rattle.list_laws.proofs.Elements.{Contains-range_with_len, list_all-at, list_all-from, list_any-from, list_any-witness}
use Rattle.plan_theory.specs.Safe.{some_must_lead}
use Rattle.list_laws.proofs.Elements.{some_element}

module _ (sys : System) where
  pub leads_at : (set : SetOfVectors) (v : Vector) (a : ℕ) → must_lead sys set v a ≡ true → (t : Vector) → HasOutcome sys v a t → set t ≡ true
  leads_at set v a h t o = list_all-at set (sys.next v a) t (and_parts (may_lead sys set v a) (list_all set (sys.next v a)) h).1 o

  pub leads_exec : (set : SetOfVectors) (v : Vector) (a : ℕ) → must_lead sys set v a ≡ true → Exec sys v a
  leads_exec set v a h =
      let t = list_any-witness set (sys.next v a) (and_parts (may_lead sys set v a) (list_all set (sys.next v a)) h).0 in
      HasOutcome-Exec sys v a t.0 t.1

  pub leads_from : (set : SetOfVectors) (v : Vector) (a : ℕ) → Exec sys v a → ((t : Vector) → HasOutcome sys v a t → set t ≡ true) → must_lead sys set v a ≡ true
  leads_from set v a exec each =
      let t = some_element (sys.next v a) exec in
      and_from (may_lead sys set v a) (list_all set (sys.next v a)) (list_any-from set (sys.next v a) t.0 t.1 (each t.0 t.1)) (list_all-from set (sys.next v a) each)

  -- what leads into a set leads into a larger one
  pub leads_more : (f g : SetOfVectors) (v : Vector) (a : ℕ) → ((t : Vector) → HasOutcome sys v a t → f t ≡ true → g t ≡ true) → must_lead sys f v a ≡ true → must_lead sys g v a ≡ true
  leads_more f g v a more h = leads_from g v a (leads_exec f v a h) (λ t o. more t o (leads_at f v a h t o))

  pub some_leads_more : (f g : SetOfVectors) (v : Vector) → ((a : ℕ) (t : Vector) → HasOutcome sys v a t → f t ≡ true → g t ≡ true) → some_must_lead sys f v ≡ true → some_must_lead sys g v ≡ true
  some_leads_more f g v more h =
      let a = list_any-witness (must_lead sys f v) (action_numbers sys) h in
      list_any-from (must_lead sys g v) (action_numbers sys) a.0 a.1 (leads_more f g v a.0 (more a.0) a.2)

  pub some_leads_from : IsSystem sys → (set : SetOfVectors) (v : Vector) (a : ℕ) → Exec sys v a → ((t : Vector) → HasOutcome sys v a t → set t ≡ true) → some_must_lead sys set v ≡ true
  some_leads_from ok set v a exec each =
      list_any-from (must_lead sys set v) (action_numbers sys) a (Contains-range_with_len sys.actions a (ok.actions v a exec)) (leads_from set v a exec each)

-- the first number of a range that passes a test is the least one
pub find-least : (p : ℕ → Bool) (a n r m : ℕ) → find p (range_with_len a n) ≡ Some r → a ≤ m → p m ≡ true → r ≤ m
find-least p a zero r m h le pass = absurd (none-some r h)
find-least p a (suc n) r m h le pass = go (p a) refl (find-least p (suc a) n r m)
  where
    go : (b : Bool) → p a ≡ b → (find p (range_with_len (suc a) n) ≡ Some r → suc a ≤ m → p m ≡ true → r ≤ m) → r ≤ m
    go true e rest = let same = same_Some a r (sym (cond-true (p a) (Some a) (find p (range_with_len (a + 1) n)) e) ∙ h) in omega arith
    go false e rest = rest (ap (λ b. find p (range_with_len b n)) next ∙ (sym (cond-false (p a) (Some a) (find p (range_with_len (a + 1) n)) e) ∙ h)) above pass
      where
        next : suc a ≡ a + 1
        next = omega arith

        above : suc a ≤ m
        above = ⊎_elim (λ (s : a < m). let l = s in omega arith) (λ (s : m ≤ a). let same : m ≡ a = omega arith in absurd (true≢false (sym pass ∙ (ap p same ∙ e)))) (cases_lt a m)
