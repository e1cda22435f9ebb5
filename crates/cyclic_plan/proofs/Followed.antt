-- The steps of a round that changed something: what is left out adds nothing.
use Rattle.std.proofs.Common.{◌≡◌, ◌≢◌, ◌⊎◌, inl, inr, ℕ, zero, suc, ◌+◌, ◌<◌, ◌≤◌, ◌^◌, ◌==◌, Bool, true, false, cond, not, ◌&&◌, ◌||◌, List, [], ◌∷◌, ◌++◌, length, refl, sym, ap, subst, ◌∙◌, ⊎_elim, arith, get_or}
use Rattle.std.specs.Prelude.{slice_index_or, slice_set}
use Rattle.std.proofs.lemmas.Bool.{and_parts, cases_eq, cases_lt, false≢true, or_left, or_right}
use Rattle.std.proofs.lemmas.List.{append-nil, append_assoc, length-set, get_or-set_same, get_or-set_other}
use Rattle.list_laws.proofs.Booleans.{or_never, or_same}
use Rattle.dd_nodes.specs.Subfunctions.{Function}
use Rattle.dd_ops.specs.Operations.{or_of}
use Rattle.dd_sets.specs.declared.slots.SetId.{SetId}
use Rattle.encode_task.specs.Slots.{Encoded}
use Rattle.task_core.specs.Cubes.{SetOfVectors}
use Rattle.task_core.specs.Systems.{IsVector}
use Rattle.task_core.specs.Tasks.{action_count, fluent_count, system_of}
use Rattle.task_core.specs.Vectors.{Vector, value_of}
use Rattle.task_core.specs.declared.classes.Class.TheVariants.{Weak}
use Rattle.task_core.specs.declared.literals.ActionId.{ActionId}
use Rattle.task_core.proofs.TaskSystem.{is_system}
use Rattle.plan_theory.specs.Classes.{IsStable}
use Rattle.plan_theory.specs.Layers.{may_lead}
use Rattle.plan_theory.specs.LayerPlans.{is_action}
use Rattle.plan_theory.specs.PairRounds.{connected, kept}
use Rattle.plan_theory.proofs.Restricted.{restricted_system}
use Rattle.slot_board.specs.Board.{Moved, Start, set_at}
use Rattle.cyclic_plan.specs.Stages.{AddsToSmall, AreTakersSmall, HasHits, HasNear, HasNext, IsFit, IsLeft, IsSmallSet, Takings, kept_system, next_by, none_taken, taken_also, taken_by, takers_within}
use Rattle.cyclic_plan.specs.Steps.{AddsNothing, AreAll, BeginsStep, AreStepsFrom, HasGrown, HasJoined, HasLed, HasRetraced, RetracedOn, near_at, next_at}
use Rattle.slot_board.specs.declared.steps.Step.{Step}
use Rattle.slot_board.specs.declared.steps.Step.TheVariants.{Advance, Grow}
use Rattle.cyclic_plan.proofs.Growth.{adds_small, chosen_same, layer_last, near_as, next_as, next_more, next_none, step_small, taken_more, taken_none, takers_none, takers_step}
use Rattle.cyclic_plan.proofs.Fitting.{next_small, set_as}
use Rattle.cyclic_plan.proofs.StageSteps.{here, may_restricted, near_copied, near_still, next_copied, next_still, still}

and_never : (x y : Bool) → (y ≡ true → x ≡ true) → false ≡ (y && not x)
and_never true true up = refl
and_never true false up = refl
and_never false true up = up refl
and_never false false up = refl

cond_never : (also t h : Bool) → false ≡ h → t ≡ cond also (t || h) t
cond_never false t h e = refl
cond_never true t h e = or_never t h e

-- an action that adds nothing
module _ (start : Start) (left : SetOfVectors) (k : ℕ) where
  next_once : (n : ℕ) → AddsNothing start left k n → (v : Vector) → IsVector (system_of start.task) v → next_at start left k n v ≡ next_at start left k (n + 1) v
  next_once n none v is =
      or_same (next_at start left k n v) (may_lead (kept_system start left) (near_at start left k) v n) (none v is)
      ∙ next_more (kept_system start left) (near_at start left k) n v

  taken_once : (taken : Takings) (n : ℕ) → AddsNothing start left k n → (a : ℕ) (v : Vector) → IsVector (system_of start.task) v
      → taken_by true (kept_system start left) (near_at start left k) taken n a v ≡ taken_by true (kept_system start left) (near_at start left k) taken (n + 1) a v
  taken_once taken n none a v is =
      let sub = kept_system start left in
      let near = near_at start left k in
      cond_never (a == n) (taken_by true sub near taken n a v) (may_lead sub near v n && not (next_by sub near n v))
      (and_never (next_by sub near n v) (may_lead sub near v n) (none v is))
      ∙ taken_more true sub near taken n a v

  -- and several of them
  next_skip : (n m : ℕ) → n ≤ m → ((b : ℕ) → n ≤ b → b < m → AddsNothing start left k b) → (v : Vector) → IsVector (system_of start.task) v → next_at start left k n v ≡ next_at start left k m v
  next_skip n zero l none v is = ap (λ x. next_at start left k x v) (let e : n ≡ 0 = omega arith in e)
  next_skip n (suc m) l none v is =
      ⊎_elim
      (λ (h : n < suc m).
      next_skip n m (omega arith) (λ b low high. none b low (omega arith)) v is
      ∙ next_once m (none m (omega arith) (omega arith)) v is
      ∙ ap (λ x. next_at start left k x v) (let e : m + 1 ≡ suc m = omega arith in e))
      (λ (h : suc m ≤ n). ap (λ x. next_at start left k x v) (let e : n ≡ suc m = omega arith in e))
      (cases_lt n (suc m))

  taken_skip : (taken : Takings) (n m : ℕ) → n ≤ m → ((b : ℕ) → n ≤ b → b < m → AddsNothing start left k b) → (a : ℕ) (v : Vector) → IsVector (system_of start.task) v
      → taken_by true (kept_system start left) (near_at start left k) taken n a v ≡ taken_by true (kept_system start left) (near_at start left k) taken m a v
  taken_skip taken n zero l none a v is = ap (λ x. taken_by true (kept_system start left) (near_at start left k) taken x a v) (let e : n ≡ 0 = omega arith in e)
  taken_skip taken n (suc m) l none a v is =
      ⊎_elim
      (λ (h : n < suc m).
      taken_skip taken n m (omega arith) (λ b low high. none b low (omega arith)) a v is
      ∙ taken_once taken m (none m (omega arith) (omega arith)) a v is
      ∙ ap (λ x. taken_by true (kept_system start left) (near_at start left k) taken x a v) (let e : m + 1 ≡ suc m = omega arith in e))
      (λ (h : suc m ≤ n). ap (λ x. taken_by true (kept_system start left) (near_at start left k) taken x a v) (let e : n ≡ suc m = omega arith in e))
      (cases_lt n (suc m))

  -- so the second pass is as far as after them
  pub skipped : (now : Encoded) (slots : List SetId) (n m : ℕ) → n ≤ m → ((b : ℕ) → n ≤ b → b < m → AddsNothing start left k b)
      → HasNext start now slots left (taken_by true (kept_system start left) (near_at start left k) (takers_within true (kept_system start left) k) n) (near_at start left k) (next_at start left k n)
      → HasNext start now slots left (taken_by true (kept_system start left) (near_at start left k) (takers_within true (kept_system start left) k) m) (near_at start left k) (next_at start left k m)
  skipped now slots n m l none h =
      next_as start now slots left _ _ (near_at start left k) _ _ h (λ a v within is. taken_skip (takers_within true (kept_system start left) k) n m l none a v is) (λ v is. next_skip n m l none v is)

  -- what follows after an action that adds nothing, follows before it
  follows_skip : (n : ℕ) (rest : List Step) → AddsNothing start left k n → AreStepsFrom start left k (n + 1) rest → AreStepsFrom start left k n rest
  follows_skip n [] none f = let e : n + 1 ≡ 0 = f.0 in absurd (omega arith)
  follows_skip n (Grow a ∷ rest) none f =
      let l : n + 1 ≤ a.0 = f.0 in (
        omega arith,
        f.1,
        (λ b low high. ⊎_elim (λ (same : b ≡ n). subst (AddsNothing start left k) (sym same) none) (λ (differs : b ≢ n). f.2 b (let d = differs in omega arith) high) (cases_eq b n)),
        f.3,
      )
  follows_skip n (Advance ∷ rest) none f =
      let l : n + 1 ≤ action_count start.task = f.0 in (
        omega arith,
        (λ b low high. ⊎_elim (λ (same : b ≡ n). subst (AddsNothing start left k) (sym same) none) (λ (differs : b ≢ n). f.1 b (let d = differs in omega arith) high) (cases_eq b n)),
        f.2,
      )

  pub led_skip : (n : ℕ) (steps : List Step) → AddsNothing start left k n → HasLed start left k n steps → HasLed start left k (n + 1) steps
  led_skip n steps none led rest f = led rest (follows_skip n rest none f)

  -- the steps with one more, and all of them
  pub led_grow : (a : ActionId) (steps : List Step) → a.0 < action_count start.task → HasLed start left k a.0 steps → HasLed start left k (a.0 + 1) (steps ++ Grow a ∷ [])
  led_grow a steps within led rest f = subst (AreStepsFrom start left 0 0) (sym (append_assoc steps (Grow a ∷ []) rest)) (led (Grow a ∷ rest) (omega arith, within, (λ b low high. absurd (omega arith)), f))

  pub led_advance : (steps : List Step) → HasLed start left k (action_count start.task) steps → HasLed start left (suc k) 0 (steps ++ Advance ∷ [])
  led_advance steps led rest f = subst (AreStepsFrom start left 0 0) (sym (append_assoc steps (Advance ∷ []) rest)) (led (Advance ∷ rest) (omega arith, (λ b low high. absurd (omega arith)), f))

  pub led_all : (steps : List Step) → HasLed start left k 0 steps → AreAll start left k → AreStepsFrom start left 0 0 steps
  led_all steps led all = subst (AreStepsFrom start left 0 0) (append-nil steps) (led [] (refl, all))

pub led_none : (start : Start) (left : SetOfVectors) → HasLed start left 0 0 []
led_none start left rest f = f

-- the hits joined to the next states in another place: these had them, or get them
module _ (start : Start) (enc now : Encoded) (old new : List SetId) (left near next hits : SetOfVectors) (h : HasHits start enc old left none_taken near next hits) (m : Moved start enc.sets old now new 6 (or_of (set_at enc.sets old 4) (set_at enc.sets old 5))) where
  joined_there : (v : Vector) → IsVector (system_of start.task) v → set_at now.sets new 6 (value_of v) ≡ (next v || hits v)
  joined_there v is =
      ap (λ (f : Function). f (value_of v)) m.here
      ∙ ap (λ x. x || set_at enc.sets old 5 (value_of v)) (h.by_next.holds_next v is)
      ∙ ap (λ x. next v || x) (h.holds_hits v is)

  stays_next : HasNext start now new left none_taken near next
  stays_next = next_still start enc now old new 6 _ m h.by_next.by_near.round.places left none_taken near next h.by_next (λ e. absurd (omega arith)) (λ e. absurd (omega arith)) (λ e. absurd (omega arith)) (λ e. absurd (omega arith)) (omega arith)

  pub joined_none : (a : ActionId) (steps : List Step) → set_at now.sets new 6 ≡ set_at now.sets new 4 → HasJoined start now new left near next hits a steps steps
  joined_none a steps same =
      let there : (v : Vector) → IsVector (system_of start.task) v → next v ≡ (next v || hits v) =
      λ v is. sym (stays_next.holds_next v is) ∙ ap (λ (f : Function). f (value_of v)) (sym same) ∙ joined_there v is in
      record {
        by_next = next_as start now new left none_taken none_taken near next _ stays_next (λ a v within is. refl) there;
        noted = inr (refl, λ v is hit. there v is ∙ or_right (next v) (hits v) hit);
      }

  pub joined_new : (last : Encoded) (end : List SetId) (a : ActionId) (steps more : List Step) → Moved start now.sets new last end 4 (set_at now.sets new 6) → more ≡ steps ++ Grow a ∷ [] → HasJoined start last end left near next hits a steps more
  joined_new last end a steps more w done = record {
    by_next = record {
      by_near = near_still start now last new end 4 _ w h.by_next.by_near.round.places left none_taken near stays_next.by_near (λ e. absurd (omega arith)) (λ e. absurd (omega arith)) (λ e. absurd (omega arith)) (omega arith);
      is_near = h.by_next.is_near;
      holds_next = here start now last new end 4 _ w h.by_next.by_near.round.places _ joined_there;
    };
    noted = inl done;
  }

-- an action that is spent is passed over
pub grown_spent : (start : Start) (enc : Encoded) (old : List SetId) (left : SetOfVectors) (k : ℕ) (a : ActionId) (steps : List Step) (spent : List Bool) → a.0 < action_count start.task
    → HasGrown start enc old left k a.0 steps spent → slice_index_or spent a.0 false ≡ true → HasGrown start enc old left k (a.0 + 1) steps spent
grown_spent start enc old left k a steps spent within h is =
    let sys = system_of start.task in
    let none : AddsNothing start left k a.0 =
    λ v at hit. h.are_spent.among a.0 within is v at (and_parts (may_lead sys (near_at start left k) v a.0) (kept sys left v a.0) (sym (may_restricted sys (kept sys left) (near_at start left k) v a.0) ∙ hit)).1 in
    record {
      by_next = next_as start enc old left none_taken none_taken (near_at start left k) _ _ h.by_next (λ a v within is. refl) (λ v at. next_once start left k a.0 none v at);
      led = led_skip start left k a.0 steps none h.led;
      are_spent = record {
        long = h.are_spent.long;
        among = λ b low marked v at pair. sym (next_once start left k a.0 none v at) ∙ h.are_spent.among b low marked v at pair;
      };
    }

-- and another one is joined
module _ (start : Start) (enc now : Encoded) (old new : List SetId) (left : SetOfVectors) (k : ℕ) (a : ActionId) (steps more : List Step) (spent : List Bool) (within : a.0 < action_count start.task)
    (h : HasGrown start enc old left k a.0 steps spent)
    (j : HasJoined start now new left (near_at start left k) (next_at start left k a.0) (λ v. may_lead (kept_system start left) (near_at start left k) v a.0) a steps more) where
  led_on : (more ≡ steps ++ Grow a ∷ []) ⊎ ((more ≡ steps) × AddsNothing start left k a.0) → HasLed start left k (a.0 + 1) more
  led_on (inl e) = subst (HasLed start left k (a.0 + 1)) (sym e) (led_grow start left k a steps within h.led)
  led_on (inr e) = subst (HasLed start left k (a.0 + 1)) (sym e.0) (led_skip start left k a.0 steps e.1 h.led)

  pub grown_on : (all : Bool) → (all ≡ true → (v : Vector) → IsVector (system_of start.task) v → may_lead (kept_system start left) (near_at start left k) v a.0 ≡ kept (system_of start.task) left v a.0)
      → HasGrown start now new left k (a.0 + 1) more (slice_set spent a.0 all)
  grown_on all hits =
      let sys = system_of start.task in
      record {
        by_next = next_as start now new left none_taken none_taken (near_at start left k) _ _ j.by_next (λ a v within is. refl) (λ v at. next_more (kept_system start left) (near_at start left k) a.0 v);
        led = led_on j.noted;
        are_spent = record {
          long = length-set spent a.0 all ∙ h.are_spent.long;
          among = λ b low marked v at pair.
              sym (next_more (kept_system start left) (near_at start left k) a.0 v)
              ∙ ⊎_elim
              (λ (same : b ≡ a.0).
              or_right (next_at start left k a.0 v) (may_lead (kept_system start left) (near_at start left k) v a.0)
              (hits (sym (get_or-set_same spent a.0 all false (let e = h.are_spent.long in omega arith)) ∙ ap (λ x. get_or (slice_set spent a.0 all) x false) (sym same) ∙ marked) v at ∙ ap (λ x. kept sys left v x) (sym same) ∙ pair))
              (λ (differs : b ≢ a.0).
              or_left (next_at start left k a.0 v) _ (h.are_spent.among b low (sym (get_or-set_other spent a.0 b all false differs) ∙ marked) v at pair))
              (cases_eq b a.0);
        };
      }

-- where the near states are as the next ones, they and all later ones are all
pub all_near : (start : Start) (now : Encoded) (slots : List SetId) (left : SetOfVectors) (k : ℕ) (steps : List Step) (spent : List Bool) → HasGrown start now slots left k (action_count start.task) steps spent
    → set_at now.sets slots 4 ≡ set_at now.sets slots 3 → AreAll start left k × AreAll start left (suc k)
all_near start now slots left k steps spent h same =
    let sys = system_of start.task in
    let sub = kept_system start left in
    let ok = restricted_system sys (kept sys left) (is_system start.task) in
    let stable : IsStable Weak sub k = λ v is. sym (h.by_next.holds_next v is) ∙ ap (λ (f : Function). f (value_of v)) same ∙ h.by_next.by_near.holds_near v is in (
      (λ v is. layer_last sub ok k stable v is),
      (λ v is. stable v is ∙ layer_last sub ok k stable v is),
    )

-- the first pass ends
pub spread_end : (start : Start) (now : Encoded) (slots : List SetId) (left : SetOfVectors) (k : ℕ) (steps more : List Step) (spent : List Bool) → HasGrown start now slots left k (action_count start.task) steps spent
    → set_at now.sets slots 4 ≡ set_at now.sets slots 3 → more ≡ steps ++ Advance ∷ []
    → HasNear start now slots left none_taken (connected (system_of start.task) (kept (system_of start.task) left)) × AreStepsFrom start left 0 0 more
spread_end start now slots left k steps more spent h same done =
    let all = all_near start now slots left k steps spent h same in (
      near_as start now slots left none_taken none_taken (near_at start left k) _ h.by_next.by_near (λ a v within is. refl) all.0,
      subst (AreStepsFrom start left 0 0) (sym done) (led_all start left (suc k) (steps ++ Advance ∷ []) (led_advance start left k steps h.led) all.1),
    )

-- and the second
pub retraced_all : (start : Start) (now : Encoded) (slots : List SetId) (left : SetOfVectors) → RetracedOn start now slots left []
    → HasNear start now slots left (takers_within true (kept_system start left) (2 ^ fluent_count start.task)) (connected (system_of start.task) (kept (system_of start.task) left))
retraced_all start now slots left at =
    let k = at.0 in
    let sub = kept_system start left in
    let h = at.2 in
    near_as start now slots left _ _ (near_at start left k) _ h.by_next.by_near
    (λ a v within is.
    ap (λ x. taken_by true sub (near_at start left k) (takers_within true sub k) x a v) h.follows.0
    ∙ sym (taken_none true sub (near_at start left k) (takers_within true sub k) a v)
    ∙ ap (is_action a) (chosen_same sub k (2 ^ fluent_count start.task) v (h.follows.1 v is)))
    h.follows.1

-- an action taken, and the next states in the place of the near ones
pub retraced_grow : (start : Start) (now : Encoded) (slots : List SetId) (left : SetOfVectors) (k : ℕ) (a : ℕ) (rest : List Step) → AreStepsFrom start left k (a + 1) rest
    → HasNext start now slots left (taken_also (taken_by true (kept_system start left) (near_at start left k) (takers_within true (kept_system start left) k) a) a (λ v. may_lead (kept_system start left) (near_at start left k) v a && not (next_at start left k a v))) (near_at start left k) (λ v. next_at start left k a v || may_lead (kept_system start left) (near_at start left k) v a)
    → RetracedOn start now slots left rest
retraced_grow start now slots left k a rest f h =
    let sub = kept_system start left in (
      k,
      a + 1,
      record {
        by_next = next_as start now slots left _ _ (near_at start left k) _ _ h (λ b v within is. taken_more true sub (near_at start left k) (takers_within true sub k) a b v) (λ v is. next_more sub (near_at start left k) a v);
        follows = f;
      },
    )

pub retraced_begin : (start : Start) (now : Encoded) (slots : List SetId) (left : SetOfVectors) (k : ℕ) (rest : List Step) → AreStepsFrom start left k 0 rest
    → HasNext start now slots left (takers_within true (kept_system start left) k) (near_at start left k) (near_at start left k)
    → RetracedOn start now slots left rest
retraced_begin start now slots left k rest f h =
    let sub = kept_system start left in (
      k,
      0,
      record {
        by_next = next_as start now slots left _ _ (near_at start left k) _ _ h (λ a v within is. taken_none true sub (near_at start left k) (takers_within true sub k) a v) (λ v is. next_none sub (near_at start left k) v);
        follows = f;
      },
    )

-- all actions of a step: one step more
pub stepped : (start : Start) (now : Encoded) (slots : List SetId) (left : SetOfVectors) (k : ℕ)
    → HasNext start now slots left (taken_by true (kept_system start left) (near_at start left k) (takers_within true (kept_system start left) k) (action_count start.task)) (near_at start left k) (next_at start left k (action_count start.task))
    → HasNext start now slots left (takers_within true (kept_system start left) (suc k)) (near_at start left k) (near_at start left (suc k))
stepped start now slots left k h =
    next_as start now slots left _ _ (near_at start left k) _ _ h (λ a v within is. takers_step true (kept_system start left) k a v within) (λ v is. refl)

-- what an action adds to the next states makes a small set of these
pub joined_small : (start : Start) (fit : IsFit start) (left : SetOfVectors) → IsLeft start left → (k a : ℕ) → a < action_count start.task → IsSmallSet start (λ v. next_at start left k a v || may_lead (kept_system start left) (near_at start left k) v a)
joined_small start fit left is_left k a within =
    set_as start (next_at start left k (a + 1)) (λ v. next_at start left k a v || may_lead (kept_system start left) (near_at start left k) v a) (λ v is. sym (next_more (kept_system start left) (near_at start left k) a v)) (next_small start fit left (near_at start left k) is_left (k, refl) (a + 1) (omega arith))

-- the hits are all of an action's kept pairs
pub hits_all : (start : Start) (now : Encoded) (slots : List SetId) (left near next : SetOfVectors) (a place : ℕ) → place ≡ 7 + a → a < action_count start.task → HasHits start now slots left none_taken near next (λ v. may_lead (kept_system start left) near v a)
    → set_at now.sets slots 5 ≡ set_at now.sets slots place → (v : Vector) → IsVector (system_of start.task) v → may_lead (kept_system start left) near v a ≡ kept (system_of start.task) left v a
hits_all start now slots left near next a place is within h same v at =
    sym (h.holds_hits v at) ∙ ap (λ (f : Function). f (value_of v)) same
    ∙ ap (λ p. set_at now.sets slots p (value_of v)) is ∙ h.by_next.by_near.holds_pairs a within v at

-- a step begins: the next states are the near ones at first
pub grown_first : (start : Start) (enc now : Encoded) (old new : List SetId) (left : SetOfVectors) (k : ℕ) (steps : List Step) (spent : List Bool) → BeginsStep start enc old left k steps spent
    → Moved start enc.sets old now new 4 (set_at enc.sets old 3) → HasGrown start now new left k 0 steps spent
grown_first start enc now old new left k steps spent h m =
    let sub = kept_system start left in
    record {
      by_next = next_as start now new left none_taken none_taken (near_at start left k) (near_at start left k) _ (next_copied start enc now old new left none_taken (near_at start left k) h.by_near (k, refl) m) (λ a v within is. refl) (λ v is. next_none sub (near_at start left k) v);
      led = h.led;
      are_spent = record {
        long = h.are_spent.long;
        among = λ b low marked v is pair. sym (next_none sub (near_at start left k) v) ∙ h.are_spent.among b low marked v is pair;
      };
    }

-- the first step: the goal states are near, and no action is spent
pub begun_first : (start : Start) (enc now : Encoded) (old new : List SetId) (left near : SetOfVectors) (steps : List Step) (spent : List Bool) → HasNear start enc old left none_taken near
    → Moved start enc.sets old now new 3 (set_at enc.sets old 0) → steps ≡ [] → length spent ≡ action_count start.task → ((a : ℕ) → a < action_count start.task → slice_index_or spent a false ≡ false) → BeginsStep start now new left 0 steps spent
begun_first start enc now old new left near steps spent h m none long marks = record {
  by_near = near_copied start enc now old new left none_taken near (near_at start left 0) _ h m h.round.holds_goal;
  led = subst (HasLed start left 0 0) (sym none) (led_none start left);
  are_spent = record { long = long; among = λ a within marked. absurd (false≢true (sym (marks a within) ∙ marked)) };
}

-- the next states in the place of the near ones, which is noted
pub begun_next : (start : Start) (enc now : Encoded) (old new : List SetId) (left : SetOfVectors) (k : ℕ) (steps more : List Step) (spent : List Bool) → HasGrown start enc old left k (action_count start.task) steps spent
    → Moved start enc.sets old now new 3 (set_at enc.sets old 4) → more ≡ steps ++ Advance ∷ [] → BeginsStep start now new left (suc k) more spent
begun_next start enc now old new left k steps more spent h m done = record {
  by_near = near_copied start enc now old new left none_taken (near_at start left k) (near_at start left (suc k)) _ h.by_next.by_near m h.by_next.holds_next;
  led = subst (HasLed start left (suc k) 0) (sym done) (led_advance start left k steps h.led);
  are_spent = record { long = h.are_spent.long; among = h.are_spent.among };
}

-- what a step of the second pass needs: what was left out before it adds nothing
module _ (start : Start) (now : Encoded) (slots : List SetId) (left : SetOfVectors) (k n : ℕ) (rest : List Step) where
  pub grow_ready : (a : ActionId) → HasRetraced start now slots left k n (Grow a ∷ rest)
      → HasNext start now slots left (taken_by true (kept_system start left) (near_at start left k) (takers_within true (kept_system start left) k) a.0) (near_at start left k) (next_at start left k a.0)
  grow_ready a h = skipped start left k now slots n a.0 h.follows.0 h.follows.2 h.by_next

  pub grow_adds : (a : ActionId) → HasRetraced start now slots left k n (Grow a ∷ rest) → AreTakersSmall start true left
      → AddsToSmall start true left (taken_by true (kept_system start left) (near_at start left k) (takers_within true (kept_system start left) k) a.0) (near_at start left k) (next_at start left k a.0) a.0
  grow_adds a h small =
      let round = h.by_next.by_near.round in
      adds_small start round.fit left true (takers_within true (kept_system start left) k) (near_at start left k) a.0 h.follows.1 round.is_left (step_small start left true k small)

  pub advance_ready : HasRetraced start now slots left k n (Advance ∷ rest) → HasNext start now slots left (takers_within true (kept_system start left) (suc k)) (near_at start left k) (near_at start left (suc k))
  advance_ready h = stepped start now slots left k (skipped start left k now slots n (action_count start.task) h.follows.0 h.follows.1 h.by_next)

pub retraced_advance : (start : Start) (enc now : Encoded) (old new : List SetId) (left : SetOfVectors) (k n : ℕ) (rest : List Step) → HasRetraced start enc old left k n (Advance ∷ rest)
    → Moved start enc.sets old now new 3 (set_at enc.sets old 4) → RetracedOn start now new left rest
retraced_advance start enc now old new left k n rest h m =
    let next = advance_ready start enc old left k n rest h in
    let taken = takers_within true (kept_system start left) (suc k) in
    retraced_begin start now new left (suc k) rest h.follows.2
    (record {
      by_near = near_copied start enc now old new left taken (near_at start left k) (near_at start left (suc k)) _ next.by_near m next.holds_next;
      is_near = (suc k, refl);
      holds_next = still start enc now old new 3 _ m next.by_near.round.places 4 _ (omega arith) (λ e. absurd (omega arith)) next.holds_next;
    })

-- the second pass begins with the goal states
pub retraced_first : (start : Start) (enc mid now : Encoded) (old half new : List SetId) (left near : SetOfVectors) (steps : List Step) → HasNear start enc old left none_taken near
    → Moved start enc.sets old mid half 3 (set_at enc.sets old 0) → Moved start mid.sets half now new 4 (set_at mid.sets half 3) → AreStepsFrom start left 0 0 steps → RetracedOn start now new left steps
retraced_first start enc mid now old half new left near steps h m w f =
    let first = near_copied start enc mid old half left none_taken near (near_at start left 0) _ h m h.round.holds_goal in
    retraced_begin start now new left 0 steps f
    (next_as start now new left none_taken _ (near_at start left 0) _ _ (next_copied start mid now half new left none_taken (near_at start left 0) first (0, refl) w) (λ a v within is. takers_none true (kept_system start left) a v) (λ v is. refl))
