-- A set of states over n fluents, by its members' values, and what an uncertain entry makes of it.
use Rattle.std.proofs.Common.{◌≡◌, ℕ, zero, suc, ◌+◌, ◌<◌, Bool, true, false, cond, List, [], ◌∷◌, ◌++◌, map, length, refl, sym, ap, subst, ◌∙◌, ⊎_elim, inl, inr, ◌⊎◌, arith}
use Rattle.std.specs.List.{Contains, flat_map, fold, list_all, list_any, range_with_len}
use Rattle.std.proofs.lemmas.List.Elements.{Contains-append_left, Contains-append_right, Contains-append_cases}
use Rattle.list_laws.proofs.Booleans.{same_truth}
use Rattle.list_laws.proofs.Elements.{list_all-at, list_any-from, list_any-witness}
use Rattle.dd_nodes.specs.NodeList.{Values}
use Rattle.dd_nodes.specs.Subfunctions.{Function}
use Rattle.task_core.specs.Cubes.{Cube}
use Rattle.task_core.specs.Initial.{Entry, add_state, after_entry, applied, applied_value, lit_within}
use Rattle.task_core.specs.Vectors.{Vector, value_of, same_vector}
use Rattle.task_core.proofs.EntryStates.{AreStates}
use Rattle.task_core.proofs.Vectors.{Contains-map, Contains-map_image, same_vector_refl, same_vector_equal}
use Rattle.encode_task.specs.Images.{image, entry_image}
use Rattle.encode_task.specs.TaskSets.{first_values, set_of_states}
use Rattle.encode_task.proofs.ImageLemmas.{Agrees, Depends, IsImage, image_literals, applied_respects}

-- a set is that of a list of states
pub record Shows (n : ℕ) (states : List Vector) (set : Function) : Type 0 where
  pub from : (values : Values) → set values ≡ true → (v : Vector) × Contains states v × Agrees n values (value_of v)
  pub to : (v : Vector) (values : Values) → Contains states v → Agrees n values (value_of v) → set values ≡ true

pub shows_depends : (n : ℕ) (states : List Vector) (set : Function) → Shows n states set → Depends n set
shows_depends n states set shows v w agree member =
    let state = shows.from v member in
    shows.to state.0 w state.1 (λ g within. sym (agree g within) ∙ state.2 g within)

-- a list of states has one set
pub shows_one : (n : ℕ) (states : List Vector) (a b : Function) → Shows n states a → Shows n states b → a ≡ b
shows_one n states a b first second = λ i values. same_truth (a values) (b values) (into a b first second values) (into b a second first values) i
  where
    into : (a b : Function) → Shows n states a → Shows n states b → (values : Values) → a values ≡ true → b values ≡ true
    into a b first second values member = let state = first.from values member in second.to state.0 values state.1 state.2

-- the values of a state that is computed value by value
value_in_range : (p : ℕ → Bool) (first n g : ℕ) → g < n → value_of (map p (range_with_len first n)) g ≡ p (first + g)
value_in_range p first zero g within = absurd (omega arith)
value_in_range p first (suc n) zero within = ap p (omega arith)
value_in_range p first (suc n) (suc g) within = value_in_range p (first + 1) n g (omega arith) ∙ ap p (omega arith)

pub value_computed : (p : ℕ → Bool) (n g : ℕ) → g < n → value_of (map p (range_with_len 0 n)) g ≡ p g
value_computed p n g within = value_in_range p 0 n g within ∙ ap p (omega arith)

-- the first values of a list are a state with these values
values_are : (p : ℕ → Bool) (first n : ℕ) (v : Vector) → length v ≡ n → ((g : ℕ) → g < n → p (first + g) ≡ value_of v g) → map p (range_with_len first n) ≡ v
values_are p first zero [] long same = refl
values_are p first zero (x ∷ v) long same = absurd (omega arith)
values_are p first (suc n) [] long same = absurd (omega arith)
values_are p first (suc n) (x ∷ v) long same =
    let here : p first ≡ x = ap p (omega arith) ∙ same 0 (omega arith) in
    let rest : map p (range_with_len (first + 1) n) ≡ v = values_are p (first + 1) n v (omega arith) (λ g within. ap p (omega arith) ∙ same (suc g) (omega arith)) in
    (λ i. here i ∷ rest i)

pub first_are : (n : ℕ) (values : Values) (v : Vector) → length v ≡ n → Agrees n values (value_of v) → first_values n values ≡ v
first_are n values v long agree = values_are values 0 n v long (λ g within. ap values (omega arith) ∙ agree g within)

-- the set of some states is theirs
pub shows_states : (n : ℕ) (states : List Vector) → AreStates n states → Shows n states (set_of_states n states)
shows_states n states are = record {
  from = λ values member.
      let state = list_any-witness (same_vector (first_values n values)) states member in (
        state.0,
        state.1,
        λ g within.
            sym (value_computed values n g within) ∙ ap (λ v. value_of v g) (same_vector_equal (first_values n values) state.0 state.2),
      );
  to = λ v values among agree.
      list_any-from (same_vector (first_values n values)) states v among
      (ap (λ w. same_vector w v) (first_are n values v (are v among) agree) ∙ same_vector_refl v);
}

-- what is added to a list of different states
added_from : (listed : List Vector) (v u : Vector) → Contains (add_state listed v) u → Contains listed u ⊎ (v ≡ u)
added_from listed v u =
    elim (list_any (same_vector v) listed) as (λ b. Contains (cond b listed (listed ++ v ∷ [])) u → Contains listed u ⊎ (v ≡ u)) [
      | true ↦ λ among. inl among
      | false ↦ λ among. ⊎_elim (λ (old : Contains listed u). inl old) (λ (new : Contains (v ∷ []) u). inr (last new)) (Contains-append_cases listed (v ∷ []) u among)
    ]
  where
    last : Contains (v ∷ []) u → v ≡ u
    last (zero, within, at) = at
    last (suc k, within, at) = absurd (omega arith)

added_old : (listed : List Vector) (v u : Vector) → Contains listed u → Contains (add_state listed v) u
added_old listed v u among =
    elim (list_any (same_vector v) listed) as (λ b. Contains (cond b listed (listed ++ v ∷ [])) u) [
      | true ↦ among
      | false ↦ Contains-append_left listed (v ∷ []) u among
    ]

added_new : (listed : List Vector) (v : Vector) → Contains (add_state listed v) v
added_new listed v =
    elim (list_any (same_vector v) listed) as (λ b. list_any (same_vector v) listed ≡ b → Contains (cond b listed (listed ++ v ∷ [])) v) [
      | true ↦ λ any. let state = list_any-witness (same_vector v) listed any in subst (Contains listed) (sym (same_vector_equal v state.0 state.2)) state.1
      | false ↦ λ none. Contains-append_right listed (v ∷ []) v (0, omega arith, refl)
    ] refl

all_from : (listed xs : List Vector) (u : Vector) → Contains (fold add_state listed xs) u → Contains listed u ⊎ Contains xs u
all_from listed [] u among = inl among
all_from listed (x ∷ xs) u among = ⊎_elim
    (λ (old : Contains (add_state listed x) u). ⊎_elim (λ (older : Contains listed u). inl older) (λ (same : x ≡ u). inr (0, omega arith, same)) (added_from listed x u old))
    (λ (later : Contains xs u). inr (suc later.0, omega (arith, later.1), later.2))
    (all_from (add_state listed x) xs u among)

all_old : (listed xs : List Vector) (u : Vector) → Contains listed u → Contains (fold add_state listed xs) u
all_old listed [] u among = among
all_old listed (x ∷ xs) u among = all_old (add_state listed x) xs u (added_old listed x u among)

all_new : (listed xs : List Vector) (u : Vector) → Contains xs u → Contains (fold add_state listed xs) u
all_new listed [] u (k, within, at) = absurd (omega arith)
all_new listed (x ∷ xs) u (zero, within, at) = all_old (add_state listed x) xs u (subst (Contains (add_state listed x)) at (added_new listed x))
all_new listed (x ∷ xs) u (suc k, within, at) = all_new (add_state listed x) xs u (k, omega arith, at)

-- the states after an entry: a state before it and one of its alternatives make each
made_from : (n : ℕ) (entry : Entry) (states : List Vector) (u : Vector) → Contains (flat_map (λ v. map (applied n v) entry) states) u
    → (v : Vector) × (lits : Cube) × Contains states v × Contains entry lits × (applied n v lits ≡ u)
made_from n entry [] u (k, within, at) = absurd (omega arith)
made_from n entry (v ∷ states) u among = ⊎_elim
    (λ (here : Contains (map (applied n v) entry) u). let image = Contains-map_image (applied n v) entry u here in (v, image.from, (0, omega arith, refl), image.within, image.is))
    (λ (later : Contains (flat_map (λ v. map (applied n v) entry) states) u).
    let made = made_from n entry states u later in
    (made.0, made.1, (suc made.2.0, omega (arith, made.2.1), made.2.2), made.3, made.4))
    (Contains-append_cases (map (applied n v) entry) (flat_map (λ v. map (applied n v) entry) states) u among)

made_to : (n : ℕ) (entry : Entry) (states : List Vector) (v : Vector) (lits : Cube) → Contains states v → Contains entry lits → Contains (flat_map (λ v. map (applied n v) entry) states) (applied n v lits)
made_to n entry [] v lits (k, within, at) there = absurd (omega arith)
made_to n entry (w ∷ states) v lits (zero, within, at) there =
    Contains-append_left (map (applied n w) entry) (flat_map (λ v. map (applied n v) entry) states) (applied n v lits)
    (subst (λ x. Contains (map (applied n w) entry) (applied n x lits)) at (Contains-map (applied n w) entry lits there))
made_to n entry (w ∷ states) v lits (suc k, within, at) there =
    Contains-append_right (map (applied n w) entry) (flat_map (λ v. map (applied n v) entry) states) (applied n v lits) (made_to n entry states v lits (k, omega arith, at) there)

pub shows_entry : (n : ℕ) (states : List Vector) (set : Function) (entry : Entry) → list_all (list_all (lit_within n)) entry ≡ true → Shows n states set → Shows n (after_entry n states entry) (entry_image set entry)
shows_entry n states set entry within shows = record { from = from; to = to }
  where
    one : (lits : Cube) → Contains entry lits → IsImage n (applied_value lits) set (image lits set)
    one lits there = image_literals n lits set (list_all-at (list_all (lit_within n)) entry lits within there) (shows_depends n states set shows)

    from : (values : Values) → entry_image set entry values ≡ true → (u : Vector) × Contains (after_entry n states entry) u × Agrees n values (value_of u)
    from values member =
        let alternative = list_any-witness (λ lits. image lits set values) entry member in
        let origin = (one alternative.0 alternative.1).from values alternative.2 in
        let state = shows.from origin.0 origin.1 in (
          applied n state.0 alternative.0,
          all_new [] (flat_map (λ v. map (applied n v) entry) states) (applied n state.0 alternative.0) (made_to n entry states state.0 alternative.0 state.1 alternative.1),
          λ g inside.
              origin.2 g inside ∙ applied_respects n alternative.0 origin.0 (value_of state.0) state.2 g inside
              ∙ sym (value_computed (applied_value alternative.0 (value_of state.0)) n g inside),
        )

    to : (u : Vector) (values : Values) → Contains (after_entry n states entry) u → Agrees n values (value_of u) → entry_image set entry values ≡ true
    to u values among agree = ⊎_elim
        (λ (none : Contains [] u). absurd (omega (arith, none.1)))
        (λ (made : Contains (flat_map (λ v. map (applied n v) entry) states) u).
        let parts = made_from n entry states u made in
        list_any-from (λ lits. image lits set values) entry parts.1 parts.3
        ((one parts.1 parts.3).to (value_of parts.0) values (shows.to parts.0 (value_of parts.0) parts.2 (λ g inside. refl))
        (λ g inside. agree g inside ∙ ap (λ w. value_of w g) (sym parts.4) ∙ value_computed (applied_value parts.1 (value_of parts.0)) n g inside)))
        (all_from [] (flat_map (λ v. map (applied n v) entry) states) u among)
