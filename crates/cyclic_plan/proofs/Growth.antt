-- One step more from the goal: what is near, and what is taken.
use Rattle.std.proofs.Common.{◌≡◌, ◌≢◌, ℕ, zero, suc, ◌+◌, ◌-◌, ◌<◌, ◌≤◌, ◌^◌, ◌==◌, Bool, true, false, cond, not, ◌&&◌, ◌||◌, List, ◌++◌, None, Some, refl, sym, ap, subst, ◌∙◌, ⊎_elim, arith, nat_lt}
use Rattle.std.specs.Option.{option_and_then}
use Rattle.std.specs.List.{find, list_any, range_with_len}
use Rattle.std.proofs.lemmas.Bool.{cases_eq, cases_lt, cond-false, cond-true, eq-eqb, lt-ltb, ltb-true, ne_eqb, or_left}
use Rattle.dd_sets.specs.declared.slots.SetId.{SetId}
use Rattle.encode_task.specs.Slots.{Encoded}
use Rattle.encode_task.proofs.StateVectors.{same_functions}
use Rattle.task_core.specs.Cubes.{SetOfVectors}
use Rattle.task_core.specs.Systems.{IsVector, IsSystem, System}
use Rattle.task_core.specs.Tasks.{action_count, fluent_count, system_of}
use Rattle.task_core.specs.Vectors.{Vector, all_vectors, value_of}
use Rattle.task_core.specs.declared.classes.Class.TheVariants.{Weak}
use Rattle.plan_theory.specs.Classes.{IsStable}
use Rattle.plan_theory.specs.Layers.{action_numbers, layer, may_lead}
use Rattle.plan_theory.specs.LayerPlans.{action_of_rank, chosen_action, is_action, takers}
use Rattle.plan_theory.proofs.ClassLayers.{chosen_kept, chosen_zero, layer-stable, rank_within-None, step_choice}
use Rattle.list_laws.proofs.Booleans.{or_assoc, or_none}
use Rattle.plan_theory.proofs.FewerStates.{fewer_outside}
use Rattle.plan_theory.proofs.FirstActions.{first_is}
use Rattle.plan_theory.proofs.LeastBounds.{stands_still}
use Rattle.plan_theory.proofs.RoundSteps.{held}
use Rattle.preimage.proofs.Leads.{any_more}
use Rattle.slot_board.proofs.BoardSlots.{depends}
use Rattle.slot_board.specs.Board.{set_at}
use Rattle.slot_board.specs.Board.{Start}
use Rattle.cyclic_plan.specs.Stages.{AddsToSmall, AreTakersSmall, HasNear, HasNext, HasRound, IsFit, IsLeft, IsStep, Takings, kept_system, next_by, none_taken, taken_also, taken_by, taken_if, takers_within}
use Rattle.cyclic_plan.proofs.Fitting.{next_small, set_as}

-- the same states by another name
pub round_as : (start : Start) (now : Encoded) (slots : List SetId) (left : SetOfVectors) (taken other : Takings) → HasRound start now slots left taken
    → ((a : ℕ) (v : Vector) → a < action_count start.task → IsVector (system_of start.task) v → taken a v ≡ other a v) → HasRound start now slots left other
round_as start now slots left taken other h same = record {
  at = h.at;
  fit = h.fit;
  places = h.places;
  sound = h.sound;
  is_left = h.is_left;
  holds_goal = h.holds_goal;
  holds_left = h.holds_left;
  holds_taken = λ a l v is. h.holds_taken a l v is ∙ same a v l is;
}

pub near_as : (start : Start) (now : Encoded) (slots : List SetId) (left : SetOfVectors) (taken other : Takings) (near close : SetOfVectors) → HasNear start now slots left taken near
    → ((a : ℕ) (v : Vector) → a < action_count start.task → IsVector (system_of start.task) v → taken a v ≡ other a v) → ((v : Vector) → IsVector (system_of start.task) v → near v ≡ close v) → HasNear start now slots left other close
near_as start now slots left taken other near close h same alike = record {
  round = round_as start now slots left taken other h.round same;
  holds_pairs = h.holds_pairs;
  holds_near = λ v is. h.holds_near v is ∙ alike v is;
}

pub next_as : (start : Start) (now : Encoded) (slots : List SetId) (left : SetOfVectors) (taken other : Takings) (near next more : SetOfVectors) → HasNext start now slots left taken near next
    → ((a : ℕ) (v : Vector) → a < action_count start.task → IsVector (system_of start.task) v → taken a v ≡ other a v) → ((v : Vector) → IsVector (system_of start.task) v → next v ≡ more v) → HasNext start now slots left other near more
next_as start now slots left taken other near next more h same alike = record {
  by_near = near_as start now slots left taken other near near h.by_near same (λ v is. refl);
  is_near = h.is_near;
  holds_next = λ v is. h.holds_next v is ∙ alike v is;
}

pub next_none : (sys : System) (near : SetOfVectors) (v : Vector) → near v ≡ next_by sys near 0 v
next_none sys near v = or_none (near v)

pub next_more : (sys : System) (near : SetOfVectors) (n : ℕ) (v : Vector) → (next_by sys near n v || may_lead sys near v n) ≡ next_by sys near (n + 1) v
next_more sys near n v = or_assoc (near v) (list_any (may_lead sys near v) (range_with_len 0 n)) (may_lead sys near v n) ∙ ap (λ b. near v || b) (any_more (may_lead sys near v) n)

taken_below : (taking : Bool) (sys : System) (near : SetOfVectors) (taken : Takings) (n a : ℕ) (v : Vector) (b : Bool) → nat_lt a n ≡ b → taken_by taking sys near taken n a v ≡ cond (taking && b) (taken a v || (may_lead sys near v a && not (next_by sys near a v))) (taken a v)
taken_below taking sys near taken n a v b e = ap (λ c. cond (taking && c) (taken a v || (may_lead sys near v a && not (next_by sys near a v))) (taken a v)) e

not_below : (a n : ℕ) → n ≤ a → nat_lt a n ≡ false
not_below a n l = go (nat_lt a n) refl
  where
    go : (b : Bool) → nat_lt a n ≡ b → nat_lt a n ≡ false
    go true e = let h : a < n = ltb-true a n e in absurd (omega arith)
    go false e = e

pub taken_none : (taking : Bool) (sys : System) (near : SetOfVectors) (taken : Takings) (a : ℕ) (v : Vector) → taken a v ≡ taken_by taking sys near taken 0 a v
taken_none true sys near taken a v = sym (taken_below true sys near taken 0 a v false (not_below a 0 (omega arith)))
taken_none false sys near taken a v = refl

pub taken_more : (taking : Bool) (sys : System) (near : SetOfVectors) (taken : Takings) (n a : ℕ) (v : Vector)
    → taken_if taking (taken_by taking sys near taken n) n (λ u. may_lead sys near u n && not (next_by sys near n u)) a v ≡ taken_by taking sys near taken (n + 1) a v
taken_more false sys near taken n a v = refl
taken_more true sys near taken n a v =
    ⊎_elim
    (λ (same : a ≡ n).
    subst (λ k. taken_also (taken_by true sys near taken n) n (λ u. may_lead sys near u n && not (next_by sys near n u)) k v ≡ taken_by true sys near taken (n + 1) k v) (sym same)
    (cond-true (n == n) (taken_by true sys near taken n n v || (may_lead sys near v n && not (next_by sys near n v))) (taken_by true sys near taken n n v) (eq-eqb n n refl)
    ∙ ap (λ b. b || (may_lead sys near v n && not (next_by sys near n v))) (taken_below true sys near taken n n v false (not_below n n (omega arith)))
    ∙ sym (taken_below true sys near taken (n + 1) n v true (lt-ltb n (n + 1) (omega arith)))))
    (λ (differs : a ≢ n).
    cond-false (a == n) (taken_by true sys near taken n a v || (may_lead sys near v n && not (next_by sys near n v))) (taken_by true sys near taken n a v) (ne_eqb a n differs)
    ∙ ⊎_elim
    (λ (below : a < n).
    taken_below true sys near taken n a v true (lt-ltb a n below) ∙ sym (taken_below true sys near taken (n + 1) a v true (lt-ltb a (n + 1) (omega arith))))
    (λ (above : n ≤ a).
    taken_below true sys near taken n a v false (not_below a n above) ∙ sym (taken_below true sys near taken (n + 1) a v false (not_below a (n + 1) (omega (arith, differs)))))
    (cases_lt a n))
    (cases_eq a n)

-- a state that no layer up to k holds has no action within it
unchosen : (sys : System) (k : ℕ) (v : Vector) → layer Weak sys k v ≡ false → chosen_action Weak sys k v ≡ None
unchosen sys k v e = ap (option_and_then (action_of_rank Weak sys v)) (rank_within-None Weak sys k v e)

-- one layer more of what is taken
pub takers_step : (taking : Bool) (sys : System) (k a : ℕ) (v : Vector) → a < sys.actions → taken_by taking sys (layer Weak sys k) (takers_within taking sys k) sys.actions a v ≡ takers_within taking sys (suc k) a v
takers_step false sys k a v below = refl
takers_step true sys k a v below =
    taken_below true sys (layer Weak sys k) (takers_within true sys k) sys.actions a v true (lt-ltb a sys.actions below)
    ∙ go (layer Weak sys k v) refl
    ∙ ap (is_action a) (sym (step_choice Weak sys k v))
  where
    p : ℕ → Bool
    p = may_lead sys (layer Weak sys k) v

    drop_last : (b c : Bool) → (b || (c && false)) ≡ b
    drop_last true c = refl
    drop_last false true = refl
    drop_last false false = refl

    go : (b : Bool) → layer Weak sys k v ≡ b → (takers Weak sys k a v || (may_lead sys (layer Weak sys k) v a && not (next_by sys (layer Weak sys k) a v))) ≡ is_action a (cond b (chosen_action Weak sys k v) (find (may_lead sys (layer Weak sys k) v) (action_numbers sys)))
    go true e =
        ap (λ b. takers Weak sys k a v || (may_lead sys (layer Weak sys k) v a && not (b || list_any (may_lead sys (layer Weak sys k) v) (range_with_len 0 a)))) e
        ∙ drop_last (takers Weak sys k a v) (may_lead sys (layer Weak sys k) v a)
    go false e =
        ap (λ o. is_action a o || (may_lead sys (layer Weak sys k) v a && not (next_by sys (layer Weak sys k) a v))) (unchosen sys k v e)
        ∙ ap (λ b. may_lead sys (layer Weak sys k) v a && not (b || list_any (may_lead sys (layer Weak sys k) v) (range_with_len 0 a))) e
        ∙ first_is (may_lead sys (layer Weak sys k) v) sys.actions a below

-- where a layer is as the next one, it is as the last one, and the actions are chosen alike
module _ (sys : System) (ok : IsSystem sys) (k : ℕ) (stable : IsStable Weak sys k) where
  pub layer_last : (v : Vector) → IsVector sys v → layer Weak sys k v ≡ layer Weak sys (2 ^ sys.fluents) v
  layer_last v is =
      let still = stands_still Weak sys in
      ⊎_elim
      (λ (l : k < 2 ^ sys.fluents). sym (layer-stable Weak sys ok k stable (2 ^ sys.fluents) (omega arith) v is))
      (λ (l : 2 ^ sys.fluents ≤ k).
      layer-stable Weak sys ok still.0 still.2 k (let h = still.1 in omega arith) v is ∙ sym (layer-stable Weak sys ok still.0 still.2 (2 ^ sys.fluents) still.1 v is))
      (cases_lt k (2 ^ sys.fluents))

chosen_alike : (sys : System) (j k : ℕ) (v : Vector) → j ≤ k → layer Weak sys j v ≡ layer Weak sys k v → chosen_action Weak sys j v ≡ chosen_action Weak sys k v
chosen_alike sys j k v l same = go (layer Weak sys j v) refl
  where
    go : (b : Bool) → layer Weak sys j v ≡ b → chosen_action Weak sys j v ≡ chosen_action Weak sys k v
    go true e = sym (chosen_kept Weak sys v j k l e)
    go false e = unchosen sys j v e ∙ sym (unchosen sys k v (sym same ∙ e))

pub chosen_same : (sys : System) (j k : ℕ) (v : Vector) → layer Weak sys j v ≡ layer Weak sys k v → chosen_action Weak sys j v ≡ chosen_action Weak sys k v
chosen_same sys j k v same =
    ⊎_elim (λ (l : j < k). chosen_alike sys j k v (omega arith) same) (λ (l : k ≤ j). sym (chosen_alike sys k j v l (sym same))) (cases_lt j k)

-- none is taken within 0 steps; and one step more
pub takers_none : (taking : Bool) (sys : System) (a : ℕ) (v : Vector) → false ≡ takers_within taking sys 0 a v
takers_none false sys a v = refl
takers_none true sys a v = sym (ap (is_action a) (chosen_zero Weak sys v))

-- where the near states are not as the next ones, fewer states are not near after one step more
pub spread_less : (start : Start) (enc now : Encoded) (old new : List SetId) (left : SetOfVectors) (k : ℕ) (n : ℕ)
    → HasNext start enc old left none_taken (layer Weak (kept_system start left) k) (layer Weak (kept_system start left) (suc k))
    → (set_at enc.sets old 4 ≡ set_at enc.sets old 3 → ⊥) → n ≡ fluent_count start.task → (next : SetOfVectors)
    → HasNext start now new left none_taken (layer Weak (kept_system start left) (suc k)) next
    → held (λ v. not (set_at now.sets new 3 (value_of v))) (all_vectors n) < held (λ v. not (set_at enc.sets old 3 (value_of v))) (all_vectors n)
spread_less start enc now old new left k n h differ is_n next after =
    fewer_outside n (λ v. set_at enc.sets old 3 (value_of v)) (λ v. set_at now.sets new 3 (value_of v))
    (λ v long near.
    let is : IsVector (system_of start.task) v = long ∙ is_n in
    after.by_near.holds_near v is ∙ or_left (layer Weak (kept_system start left) k v) _ (sym (h.by_near.holds_near v is) ∙ near))
    (λ same. differ (same_functions (fluent_count start.task) (set_at enc.sets old 4) (set_at enc.sets old 3)
    (depends start enc old h.by_near.round.at h.by_near.round.sound 4) (depends start enc old h.by_near.round.at h.by_near.round.sound 3)
    (λ v is. h.holds_next v is ∙ sym (after.by_near.holds_near v is) ∙ same v (is ∙ sym is_n))))

-- one step's sets are small, where those of all steps are
pub step_small : (start : Start) (left : SetOfVectors) (taking : Bool) (k : ℕ) → AreTakersSmall start taking left → IsStep start taking left (takers_within taking (kept_system start left) k) (layer Weak (kept_system start left) k)
step_small start left taking k small = (
  (k, refl),
  λ is a within. set_as start (takers Weak (kept_system start left) (suc k) a) _
      (λ v len.
      sym (takers_step true (kept_system start left) k a v within)
      ∙ ap (λ t. taken_by true (kept_system start left) (layer Weak (kept_system start left) k) (takers_within t (kept_system start left) k) (action_count start.task) a v) (sym is))
      (small is (suc k) a within),
)

-- and so are what one action adds to the next states, and to those that take it
pub adds_small : (start : Start) (fit : IsFit start) (left : SetOfVectors) (taking : Bool) (taken : Takings) (near : SetOfVectors) (a : ℕ) → a < action_count start.task → IsLeft start left → IsStep start taking left taken near
    → AddsToSmall start taking left (taken_by taking (kept_system start left) near taken a) near (next_by (kept_system start left) near a) a
adds_small start fit left taking taken near a within is_left step =
    let sub = kept_system start left in (
      set_as start (next_by sub near (a + 1)) (λ v. next_by sub near a v || may_lead sub near v a) (λ v is. sym (next_more sub near a v)) (next_small start fit left near is_left step.0 (a + 1) (omega arith)),
      λ is. set_as start (taken_by true sub near taken (action_count start.task) a) _ (λ v len. same v is) (step.1 is a within),
    )
  where
    same : (v : Vector) → taking ≡ true → taken_by true (kept_system start left) near taken (action_count start.task) a v
        ≡ taken_also (taken_by taking (kept_system start left) near taken a) a (λ u. may_lead (kept_system start left) near u a && not (next_by (kept_system start left) near a u)) a v
    same v is =
        let sub = kept_system start left in
        taken_below true sub near taken (action_count start.task) a v true (lt-ltb a (action_count start.task) within)
        ∙ sym (taken_below true sub near taken (a + 1) a v true (lt-ltb a (a + 1) (omega arith)))
        ∙ sym (taken_more true sub near taken a a v)
        ∙ ap (λ t. taken_also (taken_by t sub near taken a) a (λ u. may_lead sub near u a && not (next_by sub near a u)) a v) (sym is)
