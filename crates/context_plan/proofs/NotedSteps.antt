-- The steps of rounds: what is left out adds nothing, and what follows there follows from the set on.
use Rattle.std.proofs.Common.{◌≡◌, ◌≢◌, ◌⊎◌, ℕ, suc, ◌+◌, ◌<◌, ◌≤◌, Bool, ◌||◌, List, [], ◌∷◌, ◌++◌, inl, inr, refl, sym, ap, subst, ◌∙◌, ⊎_elim, arith}
use Rattle.std.specs.List.{list_any, range_with_len}
use Rattle.std.proofs.Math.Path.{fun_ext}
use Rattle.std.proofs.lemmas.Bool.{cases_eq, or_right}
use Rattle.dd_nodes.specs.Subfunctions.{Function}
use Rattle.dd_ops.specs.Operations.{or_of}
use Rattle.slot_board.specs.Board.{Scene, set_at}
use Rattle.plan_theory.specs.Layers.{must_lead}
use Rattle.task_core.specs.Systems.{IsVector}
use Rattle.task_core.specs.Vectors.{Vector, value_of}
use Rattle.context_plan.specs.Rounds.{hits_by, turn_by, turns}
use Rattle.context_plan.specs.Steps.{AddsHits, HasTurned, KeepsHits, Leads, OnlyHits}
use Rattle.context_plan.specs.declared.rounds.Way.{Way}
use Rattle.context_plan.specs.declared.rounds.Way.TheVariants.{Growing, Shrinking}
use Rattle.context_plan.proofs.RoundSteps.{hits_joined, turned_last, turns_none}
use Rattle.context_plan.proofs.SceneSteps.{copied_states, joined_states, leads_same, low, moved_in, moved_low, moved_worked_in, worked_chain_in}
use Rattle.std.proofs.lemmas.List.{append-nil, append_assoc}
use Rattle.task_core.specs.Cubes.{SetOfVectors}
use Rattle.task_core.specs.Tasks.{action_count}
use Rattle.task_core.specs.declared.literals.ActionId.{ActionId}
use Rattle.slot_board.specs.declared.steps.Step.{Step}
use Rattle.slot_board.specs.declared.steps.Step.TheVariants.{Advance, Grow}
use Rattle.context_plan.specs.Noted.{AddsNothing, AreAll, AreNoted, AreStepsFrom, HasLed, IsNoted, LedBy, NotesRound, Widened, near_at}
use Rattle.context_plan.specs.Scenes.{IsGuarded, Moved, SameStates, Start, led_inside, states_at, sys_in}

module _ (start : Start) (set : SetOfVectors) (k : ℕ) where
  -- what follows after an action that adds nothing, follows before it
  follows_skip : (n : ℕ) (rest : List Step) → AddsNothing start set k n → AreStepsFrom start set k (n + 1) rest → AreStepsFrom start set k n rest
  follows_skip n [] none f = let e : n + 1 ≡ 0 = f.0 in absurd (omega arith)
  follows_skip n (Grow a ∷ rest) none f =
      let l : n + 1 ≤ a.0 = f.0 in (
        omega arith,
        f.1,
        (λ b low high. ⊎_elim (λ (same : b ≡ n). subst (AddsNothing start set k) (sym same) none) (λ (differs : b ≢ n). f.2 b (let d = differs in omega arith) high) (cases_eq b n)),
        f.3,
      )
  follows_skip n (Advance ∷ rest) none f =
      let l : n + 1 ≤ action_count start.task = f.0 in (
        omega arith,
        (λ b low high. ⊎_elim (λ (same : b ≡ n). subst (AddsNothing start set k) (sym same) none) (λ (differs : b ≢ n). f.1 b (let d = differs in omega arith) high) (cases_eq b n)),
        f.2,
      )

  pub led_skip : (n : ℕ) (steps : List Step) → AddsNothing start set k n → HasLed start set k n steps → HasLed start set k (n + 1) steps
  led_skip n steps none led rest f = led rest (follows_skip n rest none f)

  -- the steps with one more, and all of them
  pub led_grow : (a : ActionId) (steps : List Step) → a.0 < action_count start.task → HasLed start set k a.0 steps → HasLed start set k (a.0 + 1) (steps ++ Grow a ∷ [])
  led_grow a steps within led rest f = subst (AreStepsFrom start set 0 0) (sym (append_assoc steps (Grow a ∷ []) rest)) (led (Grow a ∷ rest) (omega arith, within, (λ b low high. absurd (omega arith)), f))

  pub led_advance : (steps : List Step) → HasLed start set k (action_count start.task) steps → HasLed start set (suc k) 0 (steps ++ Advance ∷ [])
  led_advance steps led rest f = subst (AreStepsFrom start set 0 0) (sym (append_assoc steps (Advance ∷ []) rest)) (led (Advance ∷ rest) (omega arith, (λ b low high. absurd (omega arith)), f))

  pub led_all : (steps : List Step) → HasLed start set k 0 steps → AreAll start set k → AreStepsFrom start set 0 0 steps
  led_all steps led all = subst (AreStepsFrom start set 0 0) (append-nil steps) (led [] (refl, all))

pub led_none : (start : Start) (set : SetOfVectors) → HasLed start set 0 0 []
led_none start set rest f = f

-- what was found was joined to the next states
pub widened_none : (start : Start) (x m : Scene) (a : ActionId) (steps : List Step) → IsGuarded start x → Moved start x m 2 (or_of (set_at x.0.sets x.1 1) (set_at x.0.sets x.1 2)) → set_at m.0.sets m.1 2 ≡ set_at m.0.sets m.1 1 → Widened start x m a steps steps
widened_none start x m a steps ready first same =
    let joined : SameStates start (states_at m 1) (λ v. states_at x 1 v || states_at x 2 v) = λ v is. ap (λ (f : Function). f (value_of v)) (sym same) ∙ ap (λ (f : SetOfVectors). f v) (joined_states start x m 2 1 2 first) in
    record {
      worked = moved_worked_in start x m 2 _ ready first (omega arith);
      near = moved_low start x m 2 _ first 0 (omega arith) (λ e. absurd (omega arith));
      next = joined;
      noted = inr (refl, λ v is. ap (λ (f : SetOfVectors). f v) (sym (moved_low start x m 2 _ first 1 (omega arith) (λ e. absurd (omega arith)))) ∙ joined v is);
    }

pub widened_new : (start : Start) (x m y : Scene) (a : ActionId) (before after : List Step) → IsGuarded start x → Moved start x m 2 (or_of (set_at x.0.sets x.1 1) (set_at x.0.sets x.1 2)) → Moved start m y 1 (set_at m.0.sets m.1 2) → after ≡ before ++ Grow a ∷ [] → Widened start x y a before after
widened_new start x m y a before after ready first second done = record {
  worked = worked_chain_in start x m y (moved_worked_in start x m 2 _ ready first (omega arith)) (moved_worked_in start m y 1 _ (moved_in start x m 2 _ ready (λ e. absurd (omega arith)) first) second (omega arith));
  near = moved_low start m y 1 _ second 0 (omega arith) (λ e. absurd (omega arith)) ∙ moved_low start x m 2 _ first 0 (omega arith) (λ e. absurd (omega arith));
  next = λ v is. ap (λ (f : SetOfVectors). f v) (copied_states start m y 1 2 second ∙ joined_states start x m 2 1 2 first);
  noted = inl done;
}

-- so are the hits of an action, and its step is noted
pub adds_widened : (way : Way) (start : Start) (x m k y : Scene) (a : ActionId) (before after : List Step) → IsGuarded start x → Moved start x m 2 (led_inside start x a.0) → KeepsHits way start m k → Widened start k y a before after
    → AddsHits way start x y a.0 × IsNoted way start x a before after
adds_widened way start x m k y a before after ready first kept w =
    let near_is : states_at m 0 ≡ states_at x 0 = moved_low start x m 2 _ first 0 (omega arith) (λ e. absurd (omega arith)) in (
      record {
        worked = worked_chain_in start x k y (worked_chain_in start x m k (moved_worked_in start x m 2 _ ready first (omega arith)) kept.worked) w.worked;
        near = w.near ∙ kept.near ∙ near_is;
        next = λ v is. w.next v is ∙ hits_joined way start x m k a.0 ready first kept v is;
      },
      go w.noted,
    )
  where
    go : (after ≡ before ++ Grow a ∷ []) ⊎ ((after ≡ before) × SameStates start (states_at k 1) (λ v. states_at k 1 v || states_at k 2 v)) → IsNoted way start x a before after
    go (inl e) = inl e
    go (inr e) = inr (
      e.0,
      λ v is hit.
          ap (λ (f : SetOfVectors). f v) (sym (kept.next ∙ moved_low start x m 2 _ first 1 (omega arith) (λ e. absurd (omega arith))))
          ∙ e.1 v is ∙ hits_joined way start x m k a.0 ready first kept v is
          ∙ or_right (states_at x 1 v) (hits_by way (states_at x 0) (λ u. must_lead (sys_in start) (states_at x 0) u a.0) v) hit,
    )

pub noted_after : (way : Way) (start : Start) (x y : Scene) (a : ActionId) (before after : List Step) → OnlyHits start x y → IsNoted way start y a before after → IsNoted way start x a before after
noted_after way start x y a before after h (inl e) = inl e
noted_after way start x y a before after h (inr e) = inr (
  e.0,
  λ v is hit.
      ap (λ (f : SetOfVectors). f v) (sym (h.kept 1 (low start y h.ready.at 1 (omega arith)) (λ e. absurd (omega arith)) (λ e. absurd (omega arith))))
      ∙ e.1 v is (ap (λ (f : SetOfVectors). hits_by way f (λ u. must_lead (sys_in start) f u a.0) v) (h.kept 0 (low start y h.ready.at 0 (omega arith)) (λ e. absurd (omega arith)) (λ e. absurd (omega arith))) ∙ hit),
)

-- one action more of a round
pub turned_same : (start : Start) (f g : SetOfVectors) → SameStates start f g → (n : ℕ) (v : Vector) → IsVector (sys_in start) v → turn_by Growing (sys_in start) f n v ≡ turn_by Growing (sys_in start) g n v
turned_same start f g same n v is =
    ap (λ b. b || list_any (must_lead (sys_in start) f v) (range_with_len 0 n)) (same v is)
    ∙ ap (λ (p : ℕ → Bool). g v || list_any p (range_with_len 0 n)) (fun_ext (λ b. leads_same start f g same v b is))

pub noted_more : (way : Way) (start : Start) (x y : Scene) (a : ActionId) (before after : List Step) (set : SetOfVectors) (k : ℕ) → a.0 < action_count start.task → Leads way start x y a.0 → IsNoted way start y a before after
    → SameStates start (states_at x 0) (turns way (sys_in start) set k) → LedBy way start set k a.0 before → LedBy way start set k (a.0 + 1) after
noted_more Shrinking start x y a before after set k within leads noted same led = tt
noted_more Growing start x y a before after set k within leads (inl e) same led = subst (HasLed start set k (a.0 + 1)) (sym e) (led_grow start set k a before within led)
noted_more Growing start x y a before after set k within leads (inr e) same led =
    subst (HasLed start set k (a.0 + 1)) (sym e.0)
    (led_skip start set k a.0 before
    (λ v is hit.
    sym (leads.next v is ∙ turned_same start (states_at x 0) (near_at start set k) same a.0 v is)
    ∙ e.1 v is (leads_same start (states_at y 0) (near_at start set k) (λ u at. ap (λ (f : SetOfVectors). f u) leads.near ∙ same u at) v a.0 is ∙ hit))
    led)

-- the steps of all rounds: none yet, those of the first, those of one more, and all of them
pub led_begin : (way : Way) (start : Start) (set : SetOfVectors) (steps : List Step) → steps ≡ [] → LedBy way start set 0 0 steps
led_begin Shrinking start set steps none = tt
led_begin Growing start set steps none = subst (HasLed start set 0 0) (sym none) (led_none start set)

pub led_first : (way : Way) (start : Start) (set : SetOfVectors) (before after : List Step) → before ≡ [] → NotesRound way start set before after → LedBy way start set 0 (action_count start.task) after
led_first way start set before after none notes = notes set 0 (λ v is. turns_none way (sys_in start) set v) (led_begin way start set before none)

led_next : (way : Way) (start : Start) (set : SetOfVectors) (k : ℕ) (before after : List Step) → after ≡ before ++ Advance ∷ [] → LedBy way start set k (action_count start.task) before → LedBy way start set (suc k) 0 after
led_next Shrinking start set k before after done led = tt
led_next Growing start set k before after done led = subst (HasLed start set (suc k) 0) (sym done) (led_advance start set k before led)

pub led_more : (way : Way) (start : Start) (x y : Scene) (set : SetOfVectors) (k : ℕ) (steps before after : List Step) → HasTurned way start x y set k → before ≡ steps ++ Advance ∷ [] → LedBy way start set k (action_count start.task) steps
    → NotesRound way start (states_at y 1) before after → LedBy way start set (suc k) (action_count start.task) after
led_more way start x y set k steps before after h done led notes = notes set (suc k) h.next (led_next way start set k steps before done led)

pub led_last : (way : Way) (start : Start) (x y : Scene) (set : SetOfVectors) (k : ℕ) (before after : List Step) → HasTurned way start x y set k → set_at y.0.sets y.1 1 ≡ set_at y.0.sets y.1 0 → after ≡ before ++ Advance ∷ []
    → LedBy way start set k (action_count start.task) before → AreNoted way start set after
led_last Shrinking start x y set k before after h same done led = tt
led_last Growing start x y set k before after h same done led =
    let last = turned_last Growing start x y set k h same in
    subst (AreStepsFrom start set 0 0) (sym done)
    (led_all start set (suc k) (before ++ Advance ∷ []) (led_advance start set k before led)
    (λ v is. sym (h.next v is) ∙ ap (λ (f : Function). f (value_of v)) same ∙ last.near v is))
