-- What the steps that read a rule ask, and what they make.
use Rattle.std.proofs.Common.{◌≡◌, ◌≢◌, ◌↔◌, ◌⊎◌, IsTrue, ℕ, zero, suc, ◌+◌, ◌<◌, Bool, true, false, not, ◌&&◌, List, [], ◌∷◌, ◌++◌, length, get_or, take, take-suc, refl, sym, ap, subst, ◌∙◌, inl, ⊎_elim, arith}
use Rattle.std.specs.Prelude.{All}
use Rattle.std.proofs.lemmas.Bool.{and_from, and_parts, cases_eq, false≢true, true≢false}
use Rattle.std.specs.List.{Contains}
use Rattle.dd_nodes.specs.Subfunctions.{Function}
use Rattle.dd_ops.specs.Operations.{and_of, minus_of, or_of, variable}
use Rattle.dd_sets.specs.LiveSets.{IsLive, nothing, set_of}
use Rattle.dd_sets.specs.declared.slots.SetId.{SetId}
use Rattle.encode_task.specs.Slots.{Encoded}
use Rattle.encode_task.specs.TaskSets.{cube_set, space_set}
use Rattle.encode_task.proofs.StateVectors.{some_there}
use Rattle.slot_board.specs.Board.{IsSmall, combined, set_at, sign_of}
use Rattle.slot_board.specs.declared.board.Operation.{Operation}
use Rattle.slot_board.proofs.Literals.{literal_is}
use Rattle.task_core.specs.Cubes.{Cube, matches}
use Rattle.task_core.specs.Tasks.{action_count, fluent_count, in_space, system_of}
use Rattle.task_core.specs.Vectors.{value_of}
use Rattle.task_core.specs.declared.literals.Lit.{Lit}
use Rattle.plan_rules.specs.Rules.{PlanRule}
use Rattle.list_laws.proofs.Booleans.{not_true}
use Rattle.list_laws.proofs.Elements.{Contains-cons, Contains-head, find-None}
use Rattle.board_steps.specs.Steps.{CanMakeAll, Placed, Shows, after_steps, with_set}
use Rattle.board_steps.specs.declared.steps.Step.{Step}
use Rattle.board_steps.specs.declared.steps.Step.TheVariants.{Combine, Fluent, Kept, Whole}
use Rattle.board_steps.proofs.StepLemmas.{with_here, with_other}
use Rattle.first_match.specs.FirstMatch.{CountsBehind}
use Rattle.judge_sets.specs.Places.{HasCube, HasJoined, HasRead, HasTold, IsNextRule, Scene}
use Rattle.judge_sets.specs.TableSets.{differ_set, matched_set, taken_set}
use Rattle.judge_sets.specs.WorkingSets.IsRuleSet.{counts, counts_in_states, differs, first_literals, other_counts}
use Rattle.judge_sets.specs.WorkingSets.IsTableSet.{differ, matched, taken}
use Rattle.judge_sets.specs.WorkingSets.IsTaskSet.{fluent, states}
use Rattle.judge_sets.specs.WorkingSets.IsWorkingSet.{by_rule, by_table, by_task}
use Rattle.judge_sets.proofs.SetTheory.{all_at}
use Rattle.judge_sets.proofs.SetSteps.{any_none, differ_is, matched_is, others_take, taken_is}
use Rattle.judge_sets.proofs.StepFacts.{fits, next_of, next_take, only_fluents, op_same, place_in, small, taken_in, untouched}

-- a literal
abbrev pub literal_steps : Lit → Operation → List Step
literal_steps lit sign = Fluent 3 lit.fluent ∷ Combine 2 sign 2 3 ∷ []

module _ (scene : Scene) (before : List PlanRule) (done : Cube) (lit : Lit) (sign : Operation) (enc : Encoded) (slots : List SetId)
    (has : HasCube scene enc slots before done) (is : sign ≡ sign_of lit.positive) where
  literal_made_is : combined sign (set_at enc.sets slots 2) (variable lit.fluent.0) ≡ cube_set (done ++ lit ∷ [])
  literal_made_is =
      ap (λ (o : Operation). combined o (set_at enc.sets slots 2) (variable lit.fluent.0)) is
      ∙ ap (λ (s : Function). combined (sign_of lit.positive) s (variable lit.fluent.0)) has.cube
      ∙ literal_is done lit

  pub literal_can : lit.fluent.0 < fluent_count scene.start.task → IsSmall scene.start (cube_set (done ++ lit ∷ [])) → CanMakeAll scene.start (set_at enc.sets slots) (literal_steps lit sign)
  literal_can low next = (
    (place_in scene 3 (omega arith), low, fits scene 3 (variable lit.fluent.0) (variable lit.fluent.0) refl (by_task _ (fluent lit.fluent.0 low))),
    ((place_in scene 2 (omega arith), place_in scene 2 (omega arith), place_in scene 3 (omega arith), inl (subst (IsSmall scene.start) (sym literal_made_is) next)), tt),
  )

  pub literal_made : (now : Encoded) (new : List SetId) → Shows scene.start now new (after_steps scene.start (set_at enc.sets slots) (literal_steps lit sign)) → HasCube scene now new before (done ++ lit ∷ [])
  literal_made now new shows = record {
    read = record {
      there = record { at = shows.at; sound = shows.sound };
      matched = shows.sets 0 (place_in scene 0 (omega arith)) ∙ has.read.matched;
      differ = shows.sets 1 (place_in scene 1 (omega arith)) ∙ has.read.differ;
      taken = λ a low.
          shows.sets (7 + a) (taken_in scene a low)
          ∙ untouched scene.start (set_at enc.sets slots) (literal_steps lit sign) (7 + a) ((λ e. absurd (omega arith)), ((λ e. absurd (omega arith)), tt))
          ∙ has.read.taken a low;
    };
    cube = shows.sets 2 (place_in scene 2 (omega arith)) ∙ literal_made_is;
  }

-- the cube with no literal
module _ (scene : Scene) (before : List PlanRule) (enc : Encoded) (slots : List SetId) (has : HasRead scene enc slots before) where
  pub whole_can : CanMakeAll scene.start (set_at enc.sets slots) (Whole 2 ∷ [])
  whole_can = (place_in scene 2 (omega arith), tt)

  pub whole_made : (now : Encoded) (new : List SetId) → Shows scene.start now new (after_steps scene.start (set_at enc.sets slots) (Whole 2 ∷ [])) → HasCube scene now new before []
  whole_made now new shows = record {
    read = record {
      there = record { at = shows.at; sound = shows.sound };
      matched = shows.sets 0 (place_in scene 0 (omega arith)) ∙ has.matched;
      differ = shows.sets 1 (place_in scene 1 (omega arith)) ∙ has.differ;
      taken = λ a low.
          shows.sets (7 + a) (taken_in scene a low)
          ∙ untouched scene.start (set_at enc.sets slots) (Whole 2 ∷ []) (7 + a) ((λ e. absurd (omega arith)), tt)
          ∙ has.taken a low;
    };
    cube = shows.sets 2 (place_in scene 2 (omega arith));
  }

-- where the rule differs from those before it
abbrev pub differ_steps : ℕ → List Step
differ_steps t = Combine 3 Operation.Meet 2 0 ∷ Combine 3 Operation.Minus 3 t ∷ Combine 1 Operation.Join 1 3 ∷ []

module _ (scene : Scene) (before : List PlanRule) (rule : PlanRule) (a t : ℕ) (next : IsNextRule scene before rule) (same : rule.action ≡ a) (at : t ≡ 7 + a) where
  below : a < action_count scene.start.task
  below = subst (λ b. b < action_count scene.start.task) same (next_of scene before rule next).action

  t_in : t < scene.start.places
  t_in = subst (λ k. k < scene.start.places) (sym at) (taken_in scene a below)

  prefix : (set : List PlanRule → Function) → set (take (suc (length before)) scene.rules) ≡ set (before ++ rule ∷ [])
  prefix set = ap set (next_take scene before rule next)

  module _ (enc : Encoded) (slots : List SetId) (has : HasCube scene enc slots before rule.cube) where
    p0 : Placed
    p0 = set_at enc.sets slots

    takes : set_at enc.sets slots t ≡ taken_set before rule.action
    takes = ap (set_at enc.sets slots) at ∙ has.read.taken a below ∙ ap (taken_set before) (sym same)

    again : and_of (set_at enc.sets slots 2) (set_at enc.sets slots 0) ≡ and_of (cube_set rule.cube) (matched_set before)
    again = op_same Operation.Meet _ _ _ _ has.cube has.read.matched

    apart_from : (s : Function) → minus_of (and_of (set_at enc.sets slots 2) (set_at enc.sets slots 0)) (with_set (set_at enc.sets slots) 3 s t) ≡ minus_of (and_of (cube_set rule.cube) (matched_set before)) (taken_set before rule.action)
    apart_from s = op_same Operation.Minus _ _ _ _ again (with_other (set_at enc.sets slots) 3 s t (λ e. absurd (omega arith)) ∙ takes)

    joined : (s : Function) → or_of (set_at enc.sets slots 1) (minus_of (and_of (set_at enc.sets slots 2) (set_at enc.sets slots 0)) (with_set (set_at enc.sets slots) 3 s t)) ≡ differ_set (before ++ rule ∷ [])
    joined s = op_same Operation.Join _ _ _ _ has.read.differ (apart_from s) ∙ differ_is before rule

    pub differ_can : CanMakeAll scene.start (set_at enc.sets slots) (differ_steps t)
    differ_can = (
      (place_in scene 3 (omega arith), place_in scene 2 (omega arith), place_in scene 0 (omega arith), fits scene 3 _ _ again (by_rule before rule next.0 _ next.1 other_counts)),
      (
        (place_in scene 3 (omega arith), place_in scene 3 (omega arith), t_in, fits scene 3 _ _ (apart_from _) (by_rule before rule next.0 _ next.1 differs)),
        (
          (place_in scene 1 (omega arith), place_in scene 1 (omega arith), place_in scene 3 (omega arith), fits scene 1 _ _ (joined _ ∙ sym (prefix differ_set)) (by_table _ (differ (suc (length before))))),
          tt,
        ),
      ),
    )

    pub differ_made : (now : Encoded) (new : List SetId) → Shows scene.start now new (after_steps scene.start (set_at enc.sets slots) (differ_steps t)) → HasTold scene now new before rule
    differ_made now new shows = record {
      there = record { at = shows.at; sound = shows.sound };
      matched = shows.sets 0 (place_in scene 0 (omega arith)) ∙ has.read.matched;
      differ = shows.sets 1 (place_in scene 1 (omega arith)) ∙ joined _;
      cube = shows.sets 2 (place_in scene 2 (omega arith)) ∙ has.cube;
      taken = λ b low.
          shows.sets (7 + b) (taken_in scene b low)
          ∙ untouched scene.start (set_at enc.sets slots) (differ_steps t) (7 + b) ((λ e. absurd (omega arith)), ((λ e. absurd (omega arith)), ((λ e. absurd (omega arith)), tt)))
          ∙ has.read.taken b low;
    }

-- where the rule counts
abbrev pub taken_steps : ℕ → List Step
taken_steps t = Combine 3 Operation.Minus 2 0 ∷ Combine t Operation.Join t 3 ∷ Combine 0 Operation.Join 0 2 ∷ []

module _ (scene : Scene) (before : List PlanRule) (rule : PlanRule) (a t : ℕ) (next : IsNextRule scene before rule) (same : rule.action ≡ a) (at : t ≡ 7 + a)
    (enc : Encoded) (slots : List SetId) (has : HasTold scene enc slots before rule) where
  abbrev q : Placed
  q = set_at enc.sets slots

  low_here : a < action_count scene.start.task
  low_here = below scene before rule a t next same at

  in_here : t < scene.start.places
  in_here = t_in scene before rule a t next same at

  own : minus_of (set_at enc.sets slots 2) (set_at enc.sets slots 0) ≡ minus_of (cube_set rule.cube) (matched_set before)
  own = op_same Operation.Minus _ _ _ _ has.cube has.matched

  taken_more : (s : Function) → or_of (with_set (set_at enc.sets slots) 3 s t) (minus_of (set_at enc.sets slots 2) (set_at enc.sets slots 0)) ≡ taken_set (before ++ rule ∷ []) a
  taken_more s =
      op_same Operation.Join _ _ _ _ (with_other (set_at enc.sets slots) 3 s t (λ e. absurd (omega arith)) ∙ ap (set_at enc.sets slots) at ∙ has.taken a low_here) own
      ∙ taken_is before rule a (sym same)

  abbrev q1 : Placed
  q1 = with_set (set_at enc.sets slots) 3 (minus_of (set_at enc.sets slots 2) (set_at enc.sets slots 0))

  abbrev q2 : Placed
  q2 = with_set q1 t (or_of (q1 t) (q1 3))

  matched_more : (s : Function)
      → or_of (with_set (with_set (set_at enc.sets slots) 3 (minus_of (set_at enc.sets slots 2) (set_at enc.sets slots 0))) t s 0) (with_set (with_set (set_at enc.sets slots) 3 (minus_of (set_at enc.sets slots 2) (set_at enc.sets slots 0))) t s 2)
      ≡ matched_set (before ++ rule ∷ [])
  matched_more s =
      op_same Operation.Join _ _ _ _
      (with_other (with_set (set_at enc.sets slots) 3 (minus_of (set_at enc.sets slots 2) (set_at enc.sets slots 0))) t s 0 (λ e. absurd (omega arith)) ∙ has.matched)
      (with_other (with_set (set_at enc.sets slots) 3 (minus_of (set_at enc.sets slots 2) (set_at enc.sets slots 0))) t s 2 (λ e. absurd (omega arith)) ∙ has.cube)
      ∙ matched_is before rule

  each_taken : (b : ℕ) → b < action_count scene.start.task → ((b ≡ a) ⊎ (b ≢ a)) → after_steps scene.start (set_at enc.sets slots) (taken_steps t) (7 + b) ≡ taken_set (before ++ rule ∷ []) b
  each_taken b low = ⊎_elim
      (λ (here : b ≡ a).
      with_other q2 0 (or_of (q2 0) (q2 2)) (7 + b) (λ e. absurd (omega arith))
      ∙ with_here q1 t (or_of (q1 t) (q1 3)) (7 + b) (omega arith)
      ∙ taken_more (minus_of (set_at enc.sets slots 2) (set_at enc.sets slots 0)) ∙ ap (taken_set (before ++ rule ∷ [])) (sym here))
      (λ (there : b ≢ a).
      untouched scene.start (set_at enc.sets slots) (taken_steps t) (7 + b) ((λ e. absurd (omega arith)), ((λ e. there (omega arith)), ((λ e. absurd (omega arith)), tt)))
      ∙ has.taken b low ∙ others_take before rule b (λ e. there (e ∙ same)))

  pub taken_can : CanMakeAll scene.start (set_at enc.sets slots) (taken_steps t)
  taken_can = (
    (place_in scene 3 (omega arith), place_in scene 2 (omega arith), place_in scene 0 (omega arith), fits scene 3 _ _ own (by_rule before rule next.0 _ next.1 counts)),
    (
      (in_here, in_here, place_in scene 3 (omega arith), fits scene t _ _ (taken_more _ ∙ ap (λ (rules : List PlanRule). taken_set rules a) (sym (next_take scene before rule next))) (by_table _ (taken (suc (length before)) a low_here))),
      (
        (place_in scene 0 (omega arith), place_in scene 0 (omega arith), place_in scene 2 (omega arith), fits scene 0 _ _ (matched_more _ ∙ ap matched_set (sym (next_take scene before rule next))) (by_table _ (matched (suc (length before))))),
        tt,
      ),
    ),
  )

  pub taken_made : (now : Encoded) (new : List SetId) → Shows scene.start now new (after_steps scene.start (set_at enc.sets slots) (taken_steps t)) → HasJoined scene now new before rule
  taken_made now new shows = record {
    read = record {
      there = record { at = shows.at; sound = shows.sound };
      matched = shows.sets 0 (place_in scene 0 (omega arith)) ∙ matched_more _;
      differ = shows.sets 1 (place_in scene 1 (omega arith)) ∙ with_other q1 t (or_of (q1 t) (q1 3)) 1 (λ e. absurd (omega arith)) ∙ has.differ;
      taken = λ b low. shows.sets (7 + b) (taken_in scene b low) ∙ each_taken b low (cases_eq b a);
    };
    own = shows.sets 3 (place_in scene 3 (omega arith)) ∙ with_other q1 t (or_of (q1 t) (q1 3)) 3 (λ e. absurd (omega arith)) ∙ own;
  }

-- whether it counts in some state
abbrev pub states_steps : SetId → List Step
states_steps slot = Kept 2 slot ∷ Combine 3 Operation.Meet 3 2 ∷ []

module _ (scene : Scene) (before : List PlanRule) (rule : PlanRule) (next : IsNextRule scene before rule) (slot : SetId) (enc : Encoded) (slots : List SetId)
    (has : HasJoined scene enc slots before rule) (is : slot ≡ enc.space) where
  kept : slot ≡ scene.start.enc.space
  kept = is ∙ ap (λ (e : Encoded). e.space) has.read.there.at.same

  space_is : set_of scene.start.enc.sets slot.0 ≡ space_set scene.start.task
  space_is = ap (λ (s : SetId). set_of scene.start.enc.sets s.0) kept ∙ scene.start.made.space.holds

  met : and_of (set_at enc.sets slots 3) (set_of scene.start.enc.sets slot.0) ≡ and_of (minus_of (cube_set rule.cube) (matched_set before)) (space_set scene.start.task)
  met = op_same Operation.Meet _ _ _ _ has.own space_is

  pub states_can : CanMakeAll scene.start (set_at enc.sets slots) (states_steps slot)
  states_can = (
    (place_in scene 2 (omega arith), subst (λ (s : SetId). IsLive scene.start.enc.sets s.0) (sym kept) scene.start.made.space.live, fits scene 2 _ _ space_is (by_task _ states)),
    ((place_in scene 3 (omega arith), place_in scene 3 (omega arith), place_in scene 2 (omega arith), fits scene 3 _ _ met (by_rule before rule next.0 _ next.1 counts_in_states)), tt),
  )

  module _ (now : Encoded) (new : List SetId) (shows : Shows scene.start now new (after_steps scene.start (set_at enc.sets slots) (states_steps slot))) where
    pub states_made : HasRead scene now new (before ++ rule ∷ [])
    states_made = record {
      there = record { at = shows.at; sound = shows.sound };
      matched = shows.sets 0 (place_in scene 0 (omega arith)) ∙ has.read.matched;
      differ = shows.sets 1 (place_in scene 1 (omega arith)) ∙ has.read.differ;
      taken = λ a low.
          shows.sets (7 + a) (taken_in scene a low)
          ∙ untouched scene.start (set_at enc.sets slots) (states_steps slot) (7 + a) ((λ e. absurd (omega arith)), ((λ e. absurd (omega arith)), tt))
          ∙ has.read.taken a low;
    }

    here : set_at now.sets new 3 ≡ and_of (minus_of (cube_set rule.cube) (matched_set before)) (space_set scene.start.task)
    here = shows.sets 3 (place_in scene 3 (omega arith)) ∙ met

    counts_of : (set_at now.sets new 3 ≡ nothing → ⊥) → CountsBehind (system_of scene.start.task) before rule
    counts_of some =
        let w = some_there (fluent_count scene.start.task) (and_of (minus_of (cube_set rule.cube) (matched_set before)) (space_set scene.start.task)) (only_fluents scene now new states_made.there 3 _ here) (λ e. some (here ∙ e)) in
        let parts = and_parts (cube_set rule.cube (value_of w.0) && not (matched_set before (value_of w.0))) (in_space scene.start.task w.0) w.2 in
        let ours = and_parts (cube_set rule.cube (value_of w.0)) (not (matched_set before (value_of w.0))) parts.0 in
        record {
          state = w.0;
          is_state = record { vector = w.1; inside = parts.1 };
          matched = ours.0;
          new = find-None (λ (r : PlanRule). matches r.cube w.0) before (not_true (matched_set before (value_of w.0)) ours.1);
        }

    counts_to : CountsBehind (system_of scene.start.task) before rule → set_at now.sets new 3 ≡ nothing → ⊥
    counts_to w none =
        let v = value_of w.state in
        let unmatched : matched_set before v ≡ false = any_none (λ (r : PlanRule). matches r.cube w.state) before w.new in
        true≢false (sym (and_from (cube_set rule.cube v && not (matched_set before v)) (in_space scene.start.task w.state) (and_from (cube_set rule.cube v) (not (matched_set before v)) w.matched (ap not unmatched)) w.is_state.inside)
        ∙ ap (λ (f : Function). f v) (sym here ∙ none))

    pub states_told : (empty : Bool) → (IsTrue empty ↔ (set_at now.sets new 3 ≡ nothing)) → IsTrue (not empty) ↔ CountsBehind (system_of scene.start.task) before rule
    states_told true told = ((λ h. absurd (false≢true h)), (λ w. absurd (counts_to w (told.0 refl))))
    states_told false told = ((λ h. counts_of (λ none. false≢true (told.1 none))), (λ w. refl))

get_or-Contains : {X : Type 0} (xs : List X) (i : ℕ) (d : X) → i < length xs → Contains xs (get_or xs i d)
get_or-Contains [] i d within = absurd (omega (arith, within))
get_or-Contains (x ∷ xs) zero d within = Contains-head x xs
get_or-Contains (x ∷ xs) (suc i) d within = Contains-cons x xs (get_or xs i d) (get_or-Contains xs i d (omega (arith, within)))

-- the next literal of a rule's cube
module _ (scene : Scene) (before : List PlanRule) (rule : PlanRule) (next : IsNextRule scene before rule) (cube : Cube) (same : rule.cube ≡ cube) (i : ℕ) (d : Lit) (within : i < length cube) where
  pub literal_low : (get_or cube i d).fluent.0 < fluent_count scene.start.task
  literal_low =
      all_at (λ (lit : Lit). lit.fluent.0 < fluent_count scene.start.task) cube (get_or cube i d)
      (subst (All (λ (lit : Lit). lit.fluent.0 < fluent_count scene.start.task)) same (next_of scene before rule next).cube)
      (get_or-Contains cube i d within)

  pub literal_small : IsSmall scene.start (cube_set (take i cube ++ get_or cube i d ∷ []))
  literal_small =
      small scene _ _ (ap cube_set (sym (take-suc cube i d within) ∙ ap (take (suc i)) (sym same))) (by_rule before rule next.0 _ next.1 (first_literals (suc i)))

pub literal_more : (cube : Cube) (i : ℕ) (d : Lit) → i < length cube → take i cube ++ get_or cube i d ∷ [] ≡ take (i + 1) cube
literal_more cube i d within = sym (take-suc cube i d within) ∙ ap (λ k. take k cube) (let e : suc i ≡ i + 1 = omega arith in e)
