-- Outcomes that do the same in every state, and the places to which they lead.
use Rattle.std.proofs.Common.{◌≡◌, ℕ, zero, suc, ◌+◌, ◌<◌, ◌≤◌, Bool, true, false, cond, ◌||◌, ◌&&◌, IfSome, Vec, List, [], ◌∷◌, ◌++◌, map, length, slice_get, Option, Some, None, refl, sym, ◌∙◌, ap, subst, arith, ⊎_elim}
use Rattle.std.specs.List.{All, list_any, range_with_len}
use Rattle.std.specs.Option.{option_map, option_map_or}
use Rattle.std.specs.declared.alloc.Global.{Global}
use Rattle.std.proofs.Math.Path.{fun_ext}
use Rattle.std.proofs.lemmas.Bool.{cases_lt}
use Rattle.std.proofs.lemmas.List.{ext_get_or}
use Rattle.std.proofs.lemmas.List.FromFn.{get_or-map-range_with_len, length-map-range_with_len}
use Rattle.std.proofs.lemmas.Option.{same_Some, slice_get-map}
use Rattle.task_core.specs.Actions.{after, after_value, change_makes, deletes}
use Rattle.task_core.specs.Conditions.{AlwaysHolds, holds}
use Rattle.task_core.specs.ContextPlans.{Configuration}
use Rattle.task_core.specs.Initial.{names_it}
use Rattle.task_core.specs.States.{IsWithin, truth, vector}
use Rattle.task_core.specs.Tasks.{fluent_count, outcomes_at, states_after}
use Rattle.task_core.specs.Vectors.{Vector, value_of}
use Rattle.task_core.specs.declared.actions.Change.{Change}
use Rattle.task_core.specs.declared.actions.Outcome.{Outcome}
use Rattle.task_core.specs.declared.states.State.{State}
use Rattle.task_core.specs.declared.tasks.Task.{Task}
use Rattle.task_core.proofs.TaskSystem.{value_of-vector}
use Rattle.plan_rules.specs.Rules.{PlanNext, always}
use Rattle.exec_graph.specs.Counting.{Moved, add_configuration, with_if_state}
use Rattle.exec_graph.specs.Effects.{AreEffects, AreEffectsOf, IsEffectOf, IsKnownAfter, StandsAt, truth_in, value_after}
use Rattle.exec_graph.specs.Moves.{with_configuration}
use Rattle.exec_graph.specs.declared.effects.Effect.{Effect}
use Rattle.exec_graph.specs.declared.effects.Effects.{Effects}
use Rattle.exec_graph.specs.declared.graphs.Place.{Place}
use Rattle.list_laws.proofs.Booleans.{and_true, or_none}

-- which fluents the changes name, where their conditions always hold
makes_named : (xs : List Change) → All (λ (change : Change). AlwaysHolds change.cond) xs → (positive : Bool) (value : ℕ → Bool) (f : ℕ)
    → list_any (change_makes positive value f) xs ≡ list_any (λ (change : Change). names_it positive f change.lits.items) xs
makes_named [] all positive value f = refl
makes_named (x ∷ xs) all positive value f =
    let holds_here : holds x.cond value ≡ true = all 0 x (omega arith) value in
    let here : change_makes positive value f x ≡ names_it positive f x.lits.items =
    ap (λ b. names_it positive f x.lits.items && b) holds_here ∙ and_true (names_it positive f x.lits.items) in
    let rest = makes_named xs (λ k d h. all (suc k) d (omega arith)) positive value f in
    ap (λ b. b || list_any (change_makes positive value f) xs) here ∙ ap (λ b. names_it positive f x.lits.items || b) rest

parts : (a d s : Bool) → cond a true (cond d false s) ≡ (cond a true (cond d false false) || (cond a true (cond d false true) && s))
parts true d s = refl
parts false true s = refl
parts false false s = refl

module _ (n : ℕ) (o : Outcome) (all : All (λ (change : Change). AlwaysHolds change.cond) o.changes.items) where
  abbrev named : Bool → ℕ → Bool
  named positive f = list_any (λ (change : Change). names_it positive f change.lits.items) o.changes.items

  after_named : (value : ℕ → Bool) (f : ℕ) → after_value o value f ≡ cond (named true f) true (cond (named false f) false (value f))
  after_named value f =
      ap (λ b. cond b true (cond (deletes o value f) false (value f))) (makes_named o.changes.items all true value f)
      ∙ ap (λ b. cond (named true f) true (cond b false (value f))) (makes_named o.changes.items all false value f)

  -- what it does where a fluent has a value
  after_from : (s t : State) (b : Bool) (f : ℕ) → f < n → truth s f ≡ b → after n o (vector n s) ≡ vector n t
      → truth t f ≡ cond (named true f) true (cond (named false f) false b)
  after_from s t b f h is same =
      sym (value_of-vector n t f h)
      ∙ ap (λ v. value_of v f) (sym same)
      ∙ get_or-map-range_with_len (after_value o (value_of (vector n s))) 0 n f f false h (omega arith)
      ∙ after_named (value_of (vector n s)) f
      ∙ ap (λ c. cond (named true f) true (cond (named false f) false c)) (value_of-vector n s f h ∙ is)

  module _ (none every : State) (effect : Effect) (nothing : (f : ℕ) → truth none f ≡ false) (everything : (f : ℕ) → f < n → truth every f ≡ true)
      (made : after n o (vector n none) ≡ vector n effect.made) (kept : after n o (vector n every) ≡ vector n effect.kept) (s : State) where
    effect_value : (f : ℕ) → f < n → after_value o (value_of (vector n s)) f ≡ value_after effect s f
    effect_value f h =
        after_named (value_of (vector n s)) f
        ∙ ap (λ c. cond (named true f) true (cond (named false f) false c)) (value_of-vector n s f h)
        ∙ parts (named true f) (named false f) (truth s f)
        ∙ ap (λ b. b || (cond (named true f) true (cond (named false f) false true) && truth s f)) (sym (after_from none effect.made false f h (nothing f) made))
        ∙ ap (λ b. truth effect.made f || (b && truth s f)) (sym (after_from every effect.kept true f h (everything f h) kept))

    effect_vector : after n o (vector n s) ≡ map (value_after effect s) (range_with_len 0 n)
    effect_vector =
        let before : ℕ → Bool = after_value o (value_of (vector n s)) in
        ext_get_or false (map before (range_with_len 0 n)) (map (value_after effect s) (range_with_len 0 n))
        (length-map-range_with_len before 0 n ∙ sym (length-map-range_with_len (value_after effect s) 0 n))
        (λ i l.
        let h : i < n = subst (λ k. i < k) (length-map-range_with_len before 0 n) l in
        get_or-map-range_with_len before 0 n i i false h (omega arith)
        ∙ effect_value i h
        ∙ sym (get_or-map-range_with_len (value_after effect s) 0 n i i false h (omega arith)))

-- the vector after outcome k
module _ (task : Task) (a k : ℕ) (o : Outcome) (at : slice_get (outcomes_at task a) k ≡ Some o) where
  after_is : (v : Vector) → slice_get (states_after task v a) k ≡ Some (after (fluent_count task) o v)
  after_is v =
      slice_get-map (λ q. after (fluent_count task) q v) (outcomes_at task a) k
      ∙ ap (option_map (λ q. after (fluent_count task) q v)) at

  -- the steps from the state in which no fluent is true, and from that in which all are, show what
  -- the outcome does
  pub effect_shown : All (λ (change : Change). AlwaysHolds change.cond) o.changes.items → (none every : State) (effect : Effect)
      → ((f : ℕ) → truth none f ≡ false) → ((f : ℕ) → f < fluent_count task → truth every f ≡ true)
      → slice_get (states_after task (vector (fluent_count task) none) a) k ≡ Some (vector (fluent_count task) effect.made)
      → slice_get (states_after task (vector (fluent_count task) every) a) k ≡ Some (vector (fluent_count task) effect.kept)
      → IsEffectOf task a k effect
  effect_shown all none every effect nothing everything made kept s within =
      let n = fluent_count task in
      let is_made = same_Some (after n o (vector n none)) (vector n effect.made) (sym (after_is (vector n none)) ∙ made) in
      let is_kept = same_Some (after n o (vector n every)) (vector n effect.kept) (sym (after_is (vector n every)) ∙ kept) in
      after_is (vector n s) ∙ ap Some (effect_vector n o all none every effect nothing everything is_made is_kept s)

-- the place to which an outcome leads
pub known_state : (task : Task) (a k number : ℕ) (s : State) (next : PlanNext) (places : List Place) (effects : List (Option Effect))
    → AreEffects task a effects → IsWithin (fluent_count task) s → (h : IsKnownAfter places s next effects k number)
    → slice_get (states_after task (vector (fluent_count task) s) a) k ≡ Some (vector (fluent_count task) h.place.state)
known_state task a k number s next places effects are within h =
    are k h.effect h.known s within ∙ ap (λ g. Some (map g (range_with_len 0 (fluent_count task)))) (fun_ext (λ f. sym (h.state f)))

-- the move to it
pub known_move : (inside : Vector → Bool) (next : PlanNext) (m : Moved) (t : Vector) (x : Configuration) → next ≡ always x.context → t ≡ x.state
    → cond (inside x.state) (with_configuration m x) m ≡ with_if_state inside next m t
known_move inside next m t x is same =
    ap (λ w. cond (inside x.state) w m) (λ i. let moved : Moved = record { next = add_configuration m.next x; refused = m.refused; lost = or_none m.lost i } in moved)
    ∙ ap (λ p. with_if_state inside p m x.state) (sym is)
    ∙ ap (with_if_state inside next m) (sym same)

-- the fluents so far are true, and no others
pub one_more_true : (k : ℕ) (s t : State) → IsWithin k s → ((f : ℕ) → f < k → truth s f ≡ true)
    → truth t k ≡ true → ((g : ℕ) → (g ≡ k → ⊥) → truth t g ≡ truth s g)
    → IsWithin (k + 1) t × ((f : ℕ) → f < k + 1 → truth t f ≡ true)
one_more_true k s t within all here others = (
  λ f h. others f (λ e. omega arith) ∙ within f (omega arith),
  λ f h. ⊎_elim (λ (l : f < k). others f (λ e. omega arith) ∙ all f l)
      (λ (p : k ≤ f). let e : f ≡ k = omega arith in ap (truth t) e ∙ here) (cases_lt f k),
)

-- one more element
each_pushed : {X : Type 0} (Q : ℕ → Option X → Type 0) (xs : List X) (x : X) → ((k : ℕ) → Q k (slice_get xs k)) → Q (length xs) (Some x)
    → (k : ℕ) → Q k (slice_get (xs ++ x ∷ []) k)
each_pushed Q [] x each last zero = last
each_pushed Q [] x each last (suc k) = each (suc k)
each_pushed Q (y ∷ xs) x each last zero = each zero
each_pushed Q (y ∷ xs) x each last (suc k) = each_pushed (λ i. Q (suc i)) xs x (λ i. each (suc i)) last k

-- the effect of one more outcome
pub effect_pushed : (task : Task) (a : ℕ) (effects : List (Option Effect)) (x : Option Effect) → AreEffects task a effects
    → IfSome x (IsEffectOf task a (length effects)) → AreEffects task a (effects ++ x ∷ [])
effect_pushed task a effects x are last =
    each_pushed (λ k o. (effect : Effect) → o ≡ Some (Some effect) → IsEffectOf task a k effect) effects x are
    (λ effect is. subst (λ o. IfSome o (IsEffectOf task a (length effects))) (same_Some x (Some effect) is) last)

-- those of one more action
pub lists_pushed : (task : Task) (before after : Effects) (list : Vec (Option Effect) Global) → after.lists.items ≡ before.lists.items ++ list ∷ []
    → AreEffectsOf task before → AreEffects task (length before.lists.items) list.items → AreEffectsOf task after
lists_pushed task before after list is are last a =
    subst (λ (lists : List (Vec (Option Effect) Global)). AreEffects task a (option_map_or (λ (l : Vec (Option Effect) Global). l.items) (slice_get lists a) [])) (sym is)
    (each_pushed (λ k o. AreEffects task k (option_map_or (λ (l : Vec (Option Effect) Global). l.items) o [])) before.lists.items list are last a)

-- a step whose words and context are those of a place
pub known_step : (places : List Place) (s : State) (onward : PlanNext) (effects : List (Option Effect)) (k number : ℕ) (effect : Effect) (ws : List ℕ) (context : ℕ)
    → onward ≡ always context → slice_get effects k ≡ Some (Some effect) → ((f : ℕ) → truth_in ws f ≡ value_after effect s f)
    → StandsAt places ws context number → IsKnownAfter places s onward effects k number
known_step places s onward effects k number effect ws context next known value h = record {
  place = h.place;
  is = h.is;
  next = next ∙ ap always (sym h.context);
  effect = effect;
  known = known;
  state = λ f. ap (λ v. truth_in v f) h.state ∙ value f;
}

pub if_some : {X : Type 0} (P Q : X → Type 0) (o : Option X) → ((x : X) → P x → Q x) → IfSome o P → IfSome o Q
if_some P Q None f h = h
if_some P Q (Some x) f h = f x h
