-- The printed certificate of a class is accepted where no table is a solution of it. Weak and strong: an
-- outcome in a layer would put its state into the next one. Cyclic: an outcome that a round leaves
-- would let the round leave its state.
use Rattle.std.proofs.Common.{◌≡◌, ℕ, zero, suc, ◌+◌, ◌-◌, ◌<◌, ◌≤◌, ◌^◌, Bool, true, false, not, ◌&&◌, ◌||◌, List, [], ◌∷◌, ◌++◌, take, length, refl, sym, ap, subst, ◌∙◌, ◌⊎◌, inl, inr, ⊎_elim, arith}
use Rattle.std.specs.List.{Contains, list_all, list_any}
use Rattle.std.proofs.lemmas.List.FromFn.{get_or-map-range_with_len, length-map-range_with_len, map-range_with_len_more, take-map-range_with_len}
use Rattle.std.proofs.lemmas.List.Folds.{list_any-append}
use Rattle.std.proofs.lemmas.Bool.{and_from, and_parts, cases_lt, false≢true, not-true, or_cases, or_left, or_right, true≢false}
use Rattle.task_core.specs.Cubes.{SetOfVectors, is_empty_set}
use Rattle.task_core.specs.Solutions.{HasNoSolution}
use Rattle.task_core.specs.Systems.{Exec, IsState, IsSystem, IsVector, System, goal_states}
use Rattle.task_core.specs.Vectors.{Vector, all_vectors}
use Rattle.task_core.specs.declared.classes.Class.{Class}
use Rattle.task_core.specs.declared.classes.Class.TheVariants.{Weak, Strong, Cyclic}
use Rattle.task_core.proofs.Vectors.{all_vectors_has, all_vectors_length}
use Rattle.plan_rules.specs.Denoted.{denoted}
use Rattle.plan_theory.specs.Classes.{IsFoundByLayers}
use Rattle.plan_theory.specs.CyclicPlans.{cyclic_rules}
use Rattle.plan_theory.specs.LargestSets.{goal_or_pair}
use Rattle.plan_theory.specs.LargestSets.{covers as covers_pairs}
use Rattle.plan_theory.specs.LayerPlans.{printed_rules}
use Rattle.plan_theory.specs.Layers.{IsLastLayer, action_numbers, covers, layer, leads_by}
use Rattle.plan_theory.specs.PairRounds.{IsLastRound, kept, round}
use Rattle.plan_theory.specs.Pairs.{is_goal, restricted}
use Rattle.plan_theory.proofs.ClassLayers.{last_layer-suc, last_layer-zero, layer-grows, layer-stable, layer-zero, layer-zero_goal}
use Rattle.plan_theory.proofs.Cubes.{cubes_match}
use Rattle.plan_theory.proofs.CyclicPrinted.{cyclic_solves}
use Rattle.plan_theory.proofs.LeastBounds.{solves_by_class, stands_still}
use Rattle.plan_theory.proofs.Restricted.{progress_connected, progress_step}
use Rattle.plan_theory.proofs.RoundSteps.{connected_more, kept_from, round_shrinks, rounds_end, rounds_shrink_to}
use Rattle.plan_theory.proofs.Survives.{last_is_largest, left_state}
use Rattle.plan_rules.proofs.DenotedPairs.{denoted-table}
use Rattle.list_laws.proofs.Booleans.{or_false}
use Rattle.list_laws.proofs.Elements.{Contains-range_with_len, list_all-at, list_all-from, list_any-false, list_any-from, list_any-none, some_element}
use Rattle.plan_certs.specs.Certificates.{CanAct, CubeSet, IsAccepted, PlainCertificate, holds_state, is_no_way_out, set_at, some_holds}
use Rattle.plan_certs.specs.Printed.{IsFirstWhole, IsPrinted, lost_set, lost_sets, outside_layers, set_cubes}

-- the cubes of a set hold its vectors
cubes_hold : (sys : System) (set : SetOfVectors) (v : Vector) → IsVector sys v → holds_state (set_cubes sys set) v ≡ set v
cubes_hold sys set v long = cubes_match sys.fluents 0 set [] v refl long

-- one that none passes
one_of : {X : Type 0} (p : X → Bool) (x : X) (xs : List X) (b : Bool) → p x ≡ b → (list_all p xs ≡ true) ⊎ ((y : X) × Contains xs y × (p y ≡ false)) → (list_all p (x ∷ xs) ≡ true) ⊎ ((y : X) × Contains (x ∷ xs) y × (p y ≡ false))
one_of p x xs false e rest = inr (x, (0, omega arith, refl), e)
one_of p x xs true e rest = ⊎_elim (λ all. inl (and_from (p x) (list_all p xs) e all)) (λ w. inr (w.0, (suc w.1.0, (let l : w.1.0 < length xs = w.1.1 in omega arith), w.1.2), w.2)) rest

none_or_one : {X : Type 0} (p : X → Bool) (xs : List X) → (list_all p xs ≡ true) ⊎ ((x : X) × Contains xs x × (p x ≡ false))
none_or_one p [] = inl refl
none_or_one p (x ∷ xs) = one_of p x xs (p x) refl (none_or_one p xs)

-- weak and strong
module _ (class : Class) (by_layers : IsFoundByLayers class) (sys : System) (ok : IsSystem sys) where
  last : ℕ
  last = 2 ^ sys.fluents

  -- what is one step behind the last layer is in it
  next_layer : (v : Vector) → IsVector sys v → layer class sys (suc last) v ≡ true → layer class sys last v ≡ true
  unfolding last
  next_layer v long h =
      let still = stands_still class sys in
      let later : (j : ℕ) → still.0 ≤ j → layer class sys j v ≡ layer class sys still.0 v = λ j le. layer-stable class sys ok still.0 still.2 j le v long in
      let within : still.0 ≤ 2 ^ sys.fluents = still.1 in
      later (2 ^ sys.fluents) within ∙ sym (later (suc (2 ^ sys.fluents)) (omega arith)) ∙ h

  -- where the last layer covers the initial states there is a solution
  first_cover : (k : ℕ) → covers class sys k ≡ true → (K : ℕ) × IsLastLayer class sys K
  first_cover zero h = (zero, last_layer-zero class sys h)
  first_cover (suc k) h = by_test (covers class sys k) refl (λ e. first_cover k e)
    where
      by_test : (b : Bool) → covers class sys k ≡ b → (covers class sys k ≡ true → (K : ℕ) × IsLastLayer class sys K) → (K : ℕ) × IsLastLayer class sys K
      by_test true e before = before e
      by_test false e before = (suc k, last_layer-suc class sys k e h)

  uncovered : HasNoSolution class sys → (s : Vector) × Contains sys.initial s × (layer class sys last s ≡ false)
  unfolding last
  uncovered none =
      ⊎_elim
      (λ all. let K = first_cover (2 ^ sys.fluents) all in
      absurd (none (denoted sys (printed_rules class sys K.0)) (denoted-table sys ok (printed_rules class sys K.0)) (solves_by_class class by_layers sys K.0 ok K.1)))
      (λ w. w)
      (none_or_one (layer class sys (2 ^ sys.fluents)) sys.initial)

  set : CubeSet
  set = set_cubes sys (outside_layers class sys)

  in_set : (v : Vector) → IsState sys v → layer class sys last v ≡ false → holds_state set v ≡ true
  unfolding last set
  in_set v state off =
      cubes_hold sys (outside_layers class sys) v state.vector
      ∙ and_from (sys.in_space v) (not (layer class sys (2 ^ sys.fluents) v)) state.inside (ap not off)

  off_layers : (v : Vector) → IsVector sys v → holds_state set v ≡ true → layer class sys last v ≡ false
  unfolding last set
  off_layers v long held =
      not-true (layer class sys (2 ^ sys.fluents) v)
      (and_parts (sys.in_space v) (not (layer class sys (2 ^ sys.fluents) v)) (sym (cubes_hold sys (outside_layers class sys) v long) ∙ held)).1

  one_holds : (b : Bool) → (b || false) ≡ true → b ≡ true
  one_holds true e = refl
  one_holds false e = absurd (false≢true e)

  layers_accepted : ((s : Vector) (a : ℕ) → IsState sys s → holds_state set s ≡ true → Exec sys s a → is_no_way_out class (set ∷ []) 0 (sys.next s a) ≡ true) → HasNoSolution class sys → IsAccepted sys (record { class = class; sets = set ∷ [] })
  unfolding last set
  layers_accepted no_way none =
      let s = uncovered none in
      record {
        start = s.0;
        initial = record { initial = s.1; held = or_left (holds_state set s.0) false (in_set s.0 (ok.initial s.0 s.1) s.2) };
        goal = λ v goal. not_held v goal (holds_state set v) refl;
        actions = λ i v a acts. at_zero i v a acts;
      }
    where
      not_held : (v : Vector) → Contains (goal_states sys) v → (b : Bool) → holds_state set v ≡ b → some_holds (set ∷ []) v ≡ false
      not_held v goal true e = absurd (true≢false (sym (layer-grows class sys v 0 (2 ^ sys.fluents) (omega arith) (layer-zero class sys v goal)) ∙ off_layers v (ok.goal v goal).vector e))
      not_held v goal false e = ap (λ b. b || false) e

      at_zero : (i : ℕ) (v : Vector) (a : ℕ) → CanAct sys (record { class = class; sets = set ∷ [] }) i v a → is_no_way_out class (set ∷ []) i (sys.next v a) ≡ true
      at_zero zero v a acts = no_way v a acts.state acts.held acts.executable
      at_zero (suc i) v a acts = let l : suc i < 1 = acts.set in absurd (omega (arith, l))

weak_way : (sys : System) (ok : IsSystem sys) (s : Vector) (a : ℕ) → IsState sys s → holds_state (set Weak tt sys ok) s ≡ true → Exec sys s a → is_no_way_out Weak (set Weak tt sys ok ∷ []) 0 (sys.next s a) ≡ true
weak_way sys ok s a state held exec =
    list_all-from (holds_state (set Weak tt sys ok)) (sys.next s a) (λ t has. by_test t has (layer Weak sys (last Weak tt sys ok) t) refl)
  where
    by_test : (t : Vector) → Contains (sys.next s a) t → (b : Bool) → layer Weak sys (last Weak tt sys ok) t ≡ b → holds_state (set Weak tt sys ok) t ≡ true
    by_test t has false e = in_set Weak tt sys ok t (ok.next s a t has) e
    by_test t has true e =
        absurd (true≢false (sym (next_layer Weak tt sys ok s state.vector (or_right (layer Weak sys (last Weak tt sys ok) s) _ (list_any-from (leads_by Weak sys (layer Weak sys (last Weak tt sys ok)) s) (action_numbers sys) a (Contains-range_with_len sys.actions a (ok.actions s a exec)) (list_any-from (layer Weak sys (last Weak tt sys ok)) (sys.next s a) t has e))))
        ∙ off_layers Weak tt sys ok s state.vector held))

strong_way : (sys : System) (ok : IsSystem sys) (s : Vector) (a : ℕ) → IsState sys s → holds_state (set Strong tt sys ok) s ≡ true → Exec sys s a → is_no_way_out Strong (set Strong tt sys ok ∷ []) 0 (sys.next s a) ≡ true
strong_way sys ok s a state held exec =
    ⊎_elim
    (λ (all : list_all (layer Strong sys (last Strong tt sys ok)) (sys.next s a) ≡ true).
    let t = some_element (sys.next s a) exec in
    let may = list_any-from (layer Strong sys (last Strong tt sys ok)) (sys.next s a) t.0 t.1 (list_all-at (layer Strong sys (last Strong tt sys ok)) (sys.next s a) t.0 all t.1) in
    absurd (true≢false (sym (next_layer Strong tt sys ok s state.vector (or_right (layer Strong sys (last Strong tt sys ok) s) _ (list_any-from (leads_by Strong sys (layer Strong sys (last Strong tt sys ok)) s) (action_numbers sys) a (Contains-range_with_len sys.actions a (ok.actions s a exec))
    (and_from (list_any (layer Strong sys (last Strong tt sys ok)) (sys.next s a)) (list_all (layer Strong sys (last Strong tt sys ok)) (sys.next s a)) may all))))
    ∙ off_layers Strong tt sys ok s state.vector held)))
    (λ w. list_any-from (holds_state (set Strong tt sys ok)) (sys.next s a) w.0 w.1 (in_set Strong tt sys ok w.0 (ok.next s a w.0 w.1) w.2))
    (none_or_one (layer Strong sys (last Strong tt sys ok)) (sys.next s a))

-- cyclic
module _ (sys : System) (ok : IsSystem sys) where
  lost : ℕ → SetOfVectors
  lost = lost_set sys

  cubes : ℕ → CubeSet
  cubes k = set_cubes sys (lost_set sys k)

  -- the first sets of the certificate
  first_sets : (n k : ℕ) → k ≤ n → take k (lost_sets sys n) ≡ lost_sets sys k
  first_sets n k le = take-map-range_with_len (λ j. set_cubes sys (lost_set sys j)) 0 n k le

  set_there : (n i : ℕ) → i < n → set_at (lost_sets sys n) i ≡ set_cubes sys (lost_set sys i)
  set_there n i low = let e : 0 + i ≡ i = omega arith in get_or-map-range_with_len (λ j. set_cubes sys (lost_set sys j)) 0 n i i [] low e

  sets_long : (n : ℕ) → length (lost_sets sys n) ≡ n
  sets_long n = length-map-range_with_len (λ j. set_cubes sys (lost_set sys j)) 0 n

  one_more : (k : ℕ) → lost_sets sys (suc k) ≡ lost_sets sys k ++ set_cubes sys (lost_set sys k) ∷ []
  one_more k =
      let e : suc k ≡ k + 1 = omega arith in
      let z : 0 + k ≡ k = omega arith in
      ap (lost_sets sys) e ∙ map-range_with_len_more (λ j. set_cubes sys (lost_set sys j)) 0 k k z

  -- what they hold is lost
  held_more : (k : ℕ) (v : Vector) → IsState sys v → some_holds (lost_sets sys (suc k)) v ≡ (some_holds (lost_sets sys k) v || lost_set sys k v)
  held_more k v state =
      ap (λ s. some_holds s v) (one_more k) ∙ list_any-append (λ set. holds_state set v) (lost_sets sys k) (set_cubes sys (lost_set sys k) ∷ [])
      ∙ ap (λ b. some_holds (lost_sets sys k) v || b) (or_false (holds_state (set_cubes sys (lost_set sys k)) v) ∙ cubes_hold sys (lost_set sys k) v state.vector)

  held_off : (k : ℕ) (v : Vector) → IsState sys v → some_holds (lost_sets sys k) v ≡ true → round sys k v ≡ false
  held_off zero v state h = absurd (false≢true h)
  held_off (suc k) v state h =
      ⊎_elim
      (λ before. not_later (round sys (suc k) v) refl (held_off k v state before))
      (λ now. not-true (round sys (suc k) v) (and_parts (round sys k v) (not (round sys (suc k) v)) (and_parts (sys.in_space v) (round sys k v && not (round sys (suc k) v)) now).1).1)
      (or_cases (some_holds (lost_sets sys k) v) (lost_set sys k v) (sym (held_more k v state) ∙ h))
    where
      not_later : (b : Bool) → round sys (suc k) v ≡ b → round sys k v ≡ false → round sys (suc k) v ≡ false
      not_later true e off = absurd (true≢false (sym (round_shrinks sys k v e) ∙ off))
      not_later false e off = e

  off_held : (k : ℕ) (v : Vector) → IsState sys v → round sys k v ≡ false → some_holds (lost_sets sys k) v ≡ true
  off_held zero v state off = absurd (true≢false off)
  off_held (suc k) v state off = by_test (round sys k v) refl (λ e. off_held k v state e)
    where
      by_test : (b : Bool) → round sys k v ≡ b → (round sys k v ≡ false → some_holds (lost_sets sys k) v ≡ true) → some_holds (lost_sets sys (suc k)) v ≡ true
      by_test false e before = held_more k v state ∙ or_left (some_holds (lost_sets sys k) v) (lost_set sys k v) (before e)
      by_test true e before =
          held_more k v state
          ∙ or_right (some_holds (lost_sets sys k) v) (lost_set sys k v)
          (and_from (sys.in_space v) (round sys k v && not (round sys (suc k) v)) state.inside (and_from (round sys k v) (not (round sys (suc k) v)) e (ap not off)))

  -- each goal state is left by every round
  goal_left : (k : ℕ) (v : Vector) → Contains (goal_states sys) v → round sys k v ≡ true
  goal_left zero v goal = refl
  goal_left (suc k) v goal = layer-grows Weak (restricted sys (kept sys (round sys k))) v 0 (2 ^ sys.fluents) (omega arith) (layer-zero Weak (restricted sys (kept sys (round sys k))) v goal)

  goal_is : (v : Vector) → is_goal sys v ≡ true → Contains (goal_states sys) v
  goal_is v h = layer-zero_goal Weak sys v h

  -- a state of set i: each of its actions leads into an earlier set, or stays
  stays_lost : (n i : ℕ) → i < n → (s : Vector) (a : ℕ) → IsState sys s → holds_state (set_at (lost_sets sys n) i) s ≡ true → Exec sys s a → is_no_way_out Cyclic (lost_sets sys n) i (sys.next s a) ≡ true
  stays_lost n i low s a state held exec =
      ⊎_elim
      (λ (all : list_all (round sys i) (sys.next s a) ≡ true).
      or_right (list_any (some_holds (take i (lost_sets sys n))) (sys.next s a)) (list_all (some_holds (take (suc i) (lost_sets sys n))) (sys.next s a))
      (list_all-from (some_holds (take (suc i) (lost_sets sys n))) (sys.next s a) (λ t has.
      ap (λ sets. some_holds sets t) (first_sets n (suc i) (omega (arith, low)))
      ∙ off_held (suc i) t (ok.next s a t has) (lost_next all t has (round sys (suc i) t) refl))))
      (λ w. or_left (list_any (some_holds (take i (lost_sets sys n))) (sys.next s a)) (list_all (some_holds (take (suc i) (lost_sets sys n))) (sys.next s a))
      (list_any-from (some_holds (take i (lost_sets sys n))) (sys.next s a) w.0 w.1
      (ap (λ sets. some_holds sets w.0) (first_sets n i (omega (arith, low))) ∙ off_held i w.0 (ok.next s a w.0 w.1) w.2)))
      (none_or_one (round sys i) (sys.next s a))
    where
      is_lost : lost_set sys i s ≡ true
      is_lost = sym (cubes_hold sys (lost_set sys i) s state.vector) ∙ ap (λ set. holds_state set s) (sym (set_there n i low)) ∙ held

      left_before : round sys i s ≡ true
      left_before = (and_parts (round sys i s) (not (round sys (suc i) s)) (and_parts (sys.in_space s) (round sys i s && not (round sys (suc i) s)) is_lost).1).0

      gone : round sys (suc i) s ≡ false
      gone = not-true (round sys (suc i) s) (and_parts (round sys i s) (not (round sys (suc i) s)) (and_parts (sys.in_space s) (round sys i s && not (round sys (suc i) s)) is_lost).1).1

      no_goal : (b : Bool) → is_goal sys s ≡ b → is_goal sys s ≡ false
      no_goal true e = absurd (true≢false (sym (goal_left (suc i) s (goal_is s e)) ∙ gone))
      no_goal false e = e

      lost_next : list_all (round sys i) (sys.next s a) ≡ true → (t : Vector) → Contains (sys.next s a) t → (b : Bool) → round sys (suc i) t ≡ b → round sys (suc i) t ≡ false
      lost_next all t has false e = e
      lost_next all t has true e =
          let pair = kept_from sys (round sys i) s a t left_before (no_goal (is_goal sys s) refl) has (λ u o. list_all-at (round sys i) (sys.next s a) u all o) in
          absurd (true≢false (sym (progress_connected sys (kept sys (round sys i)) ok (suc (2 ^ sys.fluents)) s state.vector (progress_step sys (kept sys (round sys i)) ok (2 ^ sys.fluents) s a t pair has e)) ∙ gone))

  -- where round n loses no state, no later round does
  module _ (n : ℕ) (first : IsFirstWhole sys n) where
    none_lost : (v : Vector) → IsState sys v → lost_set sys n v ≡ false
    none_lost v state = list_any-false (lost_set sys n) (all_vectors sys.fluents) v (not-true (list_any (lost_set sys n) (all_vectors sys.fluents)) first.whole) (all_vectors_has sys.fluents v state.vector)

    still_next : (v : Vector) → IsState sys v → round sys n v ≡ true → round sys (suc n) v ≡ true
    still_next v state h = by_test (round sys (suc n) v) refl
      where
        by_test : (b : Bool) → round sys (suc n) v ≡ b → round sys (suc n) v ≡ true
        by_test true e = e
        by_test false e =
            absurd (true≢false (sym (and_from (sys.in_space v) (round sys n v && not (round sys (suc n) v)) state.inside (and_from (round sys n v) (not (round sys (suc n) v)) h (ap not e))) ∙ none_lost v state))

    later_same : (d : ℕ) (v : Vector) → IsState sys v → round sys (d + n) v ≡ true → round sys (suc (d + n)) v ≡ true
    later_same zero v state h =
        let e : 0 + n ≡ n = omega arith in
        subst (λ k. round sys (suc k) v ≡ true) (sym e) (still_next v state (subst (λ k. round sys k v ≡ true) e h))
    later_same (suc d) v state h =
        let e : suc d + n ≡ suc (d + n) = omega arith in
        subst (λ k. round sys (suc k) v ≡ true) (sym e)
        (connected_more sys (IsState sys) (λ u a t s o. ok.next u a t o) (round sys (d + n)) (round sys (suc (d + n))) (λ u s g. later_same d u s g) v state (subst (λ k. round sys k v ≡ true) e h))

    all_later : (d : ℕ) (v : Vector) → IsState sys v → round sys n v ≡ true → round sys (d + n) v ≡ true
    all_later zero v state h = let e : 0 + n ≡ n = omega arith in subst (λ k. round sys k v ≡ true) (sym e) h
    all_later (suc d) v state h =
        let e : suc d + n ≡ suc (d + n) = omega arith in
        subst (λ k. round sys k v ≡ true) (sym e) (later_same d v state (all_later d v state h))

    any_round : (r : ℕ) (v : Vector) → IsState sys v → round sys n v ≡ true → round sys r v ≡ true
    any_round r v state h =
        ⊎_elim
        (λ (less : r < n). rounds_shrink_to sys v r n (omega (arith, less)) h)
        (λ (most : n ≤ r).
        let d : ℕ = r - n in
        let e : d + n ≡ r = omega arith in
        subst (λ k. round sys k v ≡ true) e (all_later (r - n) v state h))
        (cases_lt r n)

    lost_initial : HasNoSolution Cyclic sys → (s : Vector) × Contains sys.initial s × (round sys n s ≡ false)
    lost_initial none =
        ⊎_elim
        (λ (all : list_all (round sys n) sys.initial ≡ true).
        let end = rounds_end sys in
        let pairs = kept sys (round sys end.0) in
        let covered : covers_pairs sys pairs ≡ true = list_all-from (goal_or_pair sys pairs) sys.initial (λ s has.
        left_state sys ok end.0 end.2 s (ok.initial s has).vector (any_round end.0 s (ok.initial s has) (list_all-at (round sys n) sys.initial s all has))) in
        absurd (none (denoted sys (cyclic_rules sys pairs)) (denoted-table sys ok (cyclic_rules sys pairs)) (cyclic_solves sys pairs ok (last_is_largest sys ok end.0 end.2).proper covered)))
        (λ w. w)
        (none_or_one (round sys n) sys.initial)

    cyclic_accepted : HasNoSolution Cyclic sys → IsAccepted sys (record { class = Cyclic; sets = lost_sets sys n })
    cyclic_accepted none =
        let s = lost_initial none in
        record {
          start = s.0;
          initial = record { initial = s.1; held = off_held n s.0 (ok.initial s.0 s.1) s.2 };
          goal = λ v goal. not_held v goal (some_holds (lost_sets sys n) v) refl;
          actions = λ i v a acts.
              let within : i < length (lost_sets sys n) = acts.set in
              stays_lost n i (omega (arith, within, sets_long n)) v a acts.state acts.held acts.executable;
        }
      where
        not_held : (v : Vector) → Contains (goal_states sys) v → (b : Bool) → some_holds (lost_sets sys n) v ≡ b → some_holds (lost_sets sys n) v ≡ false
        not_held v goal true e = absurd (true≢false (sym (goal_left n v goal) ∙ held_off n v (ok.goal v goal) e))
        not_held v goal false e = e

  -- some round is the first that loses no state
  first_whole : (fuel k : ℕ) → ((j : ℕ) → j < k → is_empty_set sys.fluents (lost_set sys j) ≡ false) → is_empty_set sys.fluents (lost_set sys (fuel + k)) ≡ true → (n : ℕ) × IsFirstWhole sys n
  first_whole zero k before whole =
      let e : 0 + k ≡ k = omega arith in (k, record { whole = subst (λ j. is_empty_set sys.fluents (lost_set sys j) ≡ true) e whole; first = before })
  first_whole (suc fuel) k before whole = by_test (is_empty_set sys.fluents (lost_set sys k)) refl (first_whole fuel (suc k))
    where
      by_test : (b : Bool) → is_empty_set sys.fluents (lost_set sys k) ≡ b
          → (((j : ℕ) → j < suc k → is_empty_set sys.fluents (lost_set sys j) ≡ false) → is_empty_set sys.fluents (lost_set sys (fuel + suc k)) ≡ true → (n : ℕ) × IsFirstWhole sys n)
          → (n : ℕ) × IsFirstWhole sys n
      by_test true e later = (k, record { whole = e; first = before })
      by_test false e later =
          let same : suc fuel + k ≡ fuel + suc k = omega arith in
          later (λ j low. ⊎_elim (λ (less : j < k). before j less) (λ (most : k ≤ j). let is : k ≡ j = omega (arith, low, most) in subst (λ i. is_empty_set sys.fluents (lost_set sys i) ≡ false) is e) (cases_lt j k))
          (subst (λ j. is_empty_set sys.fluents (lost_set sys j) ≡ true) same whole)

  last_whole : (r : ℕ) → IsLastRound sys r → is_empty_set sys.fluents (lost_set sys r) ≡ true
  last_whole r still = ap not (list_any-none (lost_set sys r) (all_vectors sys.fluents) (λ v has.
      let same = still v (all_vectors_length sys.fluents v has) in
      ap (λ b. sys.in_space v && (round sys r v && not b)) same ∙ none_both (sys.in_space v) (round sys r v)))
    where
      none_both : (x y : Bool) → (x && (y && not y)) ≡ false
      none_both true true = refl
      none_both true false = refl
      none_both false y = refl

  pub whole_there : (n : ℕ) × IsFirstWhole sys n
  whole_there =
      let end = rounds_end sys in
      let e : end.0 + 0 ≡ end.0 = omega arith in
      first_whole end.0 0 (λ j low. absurd (omega (arith, low))) (subst (λ j. is_empty_set sys.fluents (lost_set sys j) ≡ true) (sym e) (last_whole end.0 end.2))

-- there is one such round
one_whole : (sys : System) (n m : ℕ) → IsFirstWhole sys n → IsFirstWhole sys m → n ≡ m
one_whole sys n m one two =
    ⊎_elim
    (λ (less : n < m). absurd (true≢false (sym one.whole ∙ two.first n less)))
    (λ (most : m ≤ n). ⊎_elim
    (λ (more : m < n). absurd (true≢false (sym two.whole ∙ one.first m more)))
    (λ (least : n ≤ m). omega (arith, most, least))
    (cases_lt m n))
    (cases_lt n m)

pub printed_accepted : (class : Class) (sys : System) (certificate : PlainCertificate) → IsSystem sys → IsPrinted class sys certificate → HasNoSolution class sys → IsAccepted sys certificate
unfolding set
printed_accepted Weak sys certificate ok is none = subst (IsAccepted sys) (sym is) (layers_accepted Weak tt sys ok (weak_way sys ok) none)
printed_accepted Strong sys certificate ok is none = subst (IsAccepted sys) (sym is) (layers_accepted Strong tt sys ok (strong_way sys ok) none)
printed_accepted Cyclic sys certificate ok is none = subst (IsAccepted sys) (sym is.2) (cyclic_accepted sys ok is.0 is.1 none)

pub printed_class : (class : Class) (sys : System) (certificate : PlainCertificate) → IsPrinted class sys certificate → certificate.class ≡ class
printed_class Weak sys certificate is = ap (λ (c : PlainCertificate). c.class) is
printed_class Strong sys certificate is = ap (λ (c : PlainCertificate). c.class) is
printed_class Cyclic sys certificate is = ap (λ (c : PlainCertificate). c.class) is.2

pub printed_there : (class : Class) (sys : System) → IsSystem sys → (certificate : PlainCertificate) × IsPrinted class sys certificate
printed_there Weak sys ok = (record { class = Weak; sets = set_cubes sys (outside_layers Weak sys) ∷ [] }, refl)
printed_there Strong sys ok = (record { class = Strong; sets = set_cubes sys (outside_layers Strong sys) ∷ [] }, refl)
printed_there Cyclic sys ok = let n = whole_there sys ok in (record { class = Cyclic; sets = lost_sets sys n.0 }, (n.0, n.1, refl))

pub printed_one : (class : Class) (sys : System) (certificate other : PlainCertificate) → IsPrinted class sys certificate → IsPrinted class sys other → certificate ≡ other
printed_one Weak sys certificate other one two = one ∙ sym two
printed_one Strong sys certificate other one two = one ∙ sym two
printed_one Cyclic sys certificate other one two = one.2 ∙ ap (λ n. record { class = Cyclic; sets = lost_sets sys n }) (one_whole sys one.0 two.0 one.1 two.1) ∙ sym two.2
