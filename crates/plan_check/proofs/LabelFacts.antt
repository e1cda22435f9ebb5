-- Labels that are written mark by mark, and what a label reaches in rounds.
use Rattle.std.proofs.Common.{◌≡◌, ℕ, zero, suc, ◌+◌, ◌<◌, Bool, true, false, ◌&&◌, List, [], ◌∷◌, ◌++◌, length, get_or, set, refl, sym, ap, ◌∙◌, subst, arith, ⊎_elim}
pub use Rattle.std.proofs.lemmas.Bool.{cases_Bool as decided}
use Rattle.std.specs.List.{All, Contains}
use Rattle.std.proofs.lemmas.Bool.{false≢true, or_cases, or_left, or_right, and_from, cases_Bool}
use Rattle.std.proofs.lemmas.List.{get_or_append_left, get_or_push}
use Rattle.std.proofs.lemmas.List.Elements.{Contains-get_or}
use borrow.Author.Count.{below_more}
use Rattle.exec_graph.specs.Values.{followers_at, graph_size}
use Rattle.exec_graph.specs.declared.graphs.Graph.{Graph}
use Rattle.plan_check.specs.Plain.{HasFollowersInside}
use Rattle.plan_check.specs.Labels.{IsWithinRounds, in_round, is_led, mark_at}
use Rattle.plan_check.specs.declared.spreading.Need.{Need}
use Rattle.plan_check.specs.declared.spreading.Need.TheVariants.{One, Each}
use Rattle.plan_check.proofs.MarkFacts.{marked_cases}
pub use Rattle.list_laws.proofs.Booleans.{not_true}
use Rattle.list_laws.proofs.Booleans.{and_first, and_second}

-- one more mark at the end
pub mark_push : (marks : List Bool) (b : Bool) (value : ℕ → Bool) (i : ℕ) → length marks ≡ i → ((k : ℕ) → k < i → mark_at marks k ≡ value k) → b ≡ value i
    → (k : ℕ) → k < i + 1 → mark_at (marks ++ b ∷ []) k ≡ value k
mark_push marks b value i len so last =
    below_more (λ k. mark_at (marks ++ b ∷ []) k ≡ value k) i
    (λ k l. get_or_append_left marks (b ∷ []) false k (subst (λ n. k < n) (sym len) l) ∙ so k l)
    (get_or_push marks b false i len ∙ last)

-- the followers of a configuration, as they were read
pub followers_below : (graph : Graph) → HasFollowersInside graph → (i n : ℕ) (read : List ℕ) → i < graph_size graph → n ≡ graph_size graph → followers_at graph i ≡ read → All (λ j. j < n) read
followers_below graph inside i n read l size is = λ k d within.
    subst (λ m. get_or read k d < m) (sym size) (inside i (get_or read k d) l (subst (λ xs. Contains xs (get_or read k d)) (sym is) (Contains-get_or read k d within)))

-- truth values

-- one, or each, of some numbers
pub one_of : (has : ℕ → Bool) (xs : List ℕ) → is_led One has xs ≡ true → (j : ℕ) × Contains xs j × (has j ≡ true)
one_of has [] e = absurd (false≢true e)
one_of has (x ∷ xs) e =
    ⊎_elim (λ h. (x, (0, omega arith, refl), h)) (λ more. let w = one_of has xs more in (w.0, (suc w.1.0, omega arith, w.1.2), w.2)) (or_cases (has x) (is_led One has xs) e)

pub one_from : (has : ℕ → Bool) (xs : List ℕ) (j : ℕ) → Contains xs j → has j ≡ true → is_led One has xs ≡ true
one_from has [] j (k, l, is) h = absurd (omega arith)
one_from has (x ∷ xs) j (zero, l, is) h = or_left (has x) (is_led One has xs) (ap has is ∙ h)
one_from has (x ∷ xs) j (suc k, l, is) h = or_right (has x) (is_led One has xs) (one_from has xs j (k, omega arith, is) h)

pub each_of : (has : ℕ → Bool) (xs : List ℕ) → is_led Each has xs ≡ true → (j : ℕ) → Contains xs j → has j ≡ true
each_of has [] e j (k, l, is) = absurd (omega arith)
each_of has (x ∷ xs) e j (zero, l, is) = sym (ap has is) ∙ and_first (has x) (is_led Each has xs) e
each_of has (x ∷ xs) e j (suc k, l, is) = each_of has xs (and_second (has x) (is_led Each has xs) e) j (k, omega arith, is)

pub each_from : (has : ℕ → Bool) (xs : List ℕ) → ((j : ℕ) → Contains xs j → has j ≡ true) → is_led Each has xs ≡ true
each_from has [] all = refl
each_from has (x ∷ xs) all =
    and_from (has x) (is_led Each has xs) (all x (0, omega arith, refl)) (each_from has xs (λ j c. all j (suc c.0, omega arith, c.2)))

-- where not each of some numbers has it, one hasn't
pub each_fails : (has : ℕ → Bool) (xs : List ℕ) → is_led Each has xs ≡ false → (j : ℕ) × Contains xs j × (has j ≡ false)
each_fails has [] e = absurd (false≢true (sym e))
each_fails has (x ∷ xs) e =
    ⊎_elim
    (λ (h : has x ≡ true). let w = each_fails has xs (sym (ap (λ a. a && is_led Each has xs) h) ∙ e) in (w.0, (suc w.1.0, omega arith, w.1.2), w.2))
    (λ h. (x, (0, omega arith, refl), h))
    (cases_Bool (has x))

pub led_weaker : (need : Need) (has may : ℕ → Bool) (xs : List ℕ) → ((j : ℕ) → has j ≡ true → may j ≡ true) → is_led need has xs ≡ true → is_led need may xs ≡ true
led_weaker One has may xs weaker e = let w = one_of has xs e in one_from may xs w.0 w.1 (weaker w.0 w.2)
led_weaker Each has may xs weaker e = each_from may xs (λ j c. weaker j (each_of has xs e j c))

-- what is reached in some rounds is reached in one more
module _ (need : Need) (next : ℕ → List ℕ) (guard target : ℕ → Bool) where
  pub round_more : (k i : ℕ) → in_round need next guard target k i ≡ true → in_round need next guard target (suc k) i ≡ true
  round_more zero i e = or_left (target i) (guard i && is_led need target (next i)) e
  round_more (suc k) i e =
      let led = is_led need (in_round need next guard target k) (next i) in
      let further = is_led need (in_round need next guard target (suc k)) (next i) in
      ⊎_elim
      (λ t. or_left (target i) (guard i && further) t)
      (λ g. or_right (target i) (guard i && further) (and_from (guard i) further (and_first (guard i) led g)
      (led_weaker need (in_round need next guard target k) (in_round need next guard target (suc k)) (next i) (λ j r. round_more k j r) (and_second (guard i) led g))))
      (or_cases (target i) (guard i && led) e)

  -- one more mark, of a number that has the guard and is led to marks
  pub within_more : (marks : List Bool) (i : ℕ) → i < length marks → guard i ≡ true → is_led need (mark_at marks) (next i) ≡ true → IsWithinRounds need next guard target marks → IsWithinRounds need next guard target (set marks i true)
  within_more marks i l g led w =
      record {
        rounds = suc w.rounds;
        each = λ j m. ⊎_elim
            (λ old. round_more w.rounds j (w.each j old))
            (λ (same : i ≡ j). subst (λ k. in_round need next guard target (suc w.rounds) k ≡ true) same
            (or_right (target i) (guard i && is_led need (in_round need next guard target w.rounds) (next i))
            (and_from (guard i) (is_led need (in_round need next guard target w.rounds) (next i)) g
            (led_weaker need (mark_at marks) (in_round need next guard target w.rounds) (next i) w.each led))))
            (marked_cases marks i j m);
      }
