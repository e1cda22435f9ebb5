-- Visits and graphs as the code holds them.
use Rattle.std.proofs.Common.{◌≡◌, ◌≢◌, ℕ, zero, suc, ◌<◌, ◌≤◌, ◌||◌, false, not, List, [], ◌∷◌, ◌++◌, length, map, slice_get, nat_lt, Some, refl, sym, ap, ◌∙◌, subst, arith, take_all, ⊎_elim}
use Rattle.std.specs.List.{AllPairs, Contains, fold}
use Rattle.std.specs.Option.{option_map, option_map_or}
use Rattle.std.proofs.lemmas.List.{length-map, get_or-map}
use Rattle.std.proofs.lemmas.List.Filters.{length-filter_both}
use Rattle.std.proofs.lemmas.List.Kept.{AllPairs-filter}
use Rattle.std.proofs.lemmas.Option.{slice_get-map}
use Rattle.task_core.specs.Vectors.{Vector}
use Rattle.task_core.specs.States.{vector}
use Rattle.task_core.specs.declared.states.State.{State}
use Rattle.task_core.specs.Systems.{System, IsSystem}
use Rattle.task_core.specs.ContextPlans.{Configuration}
use Rattle.plan_rules.specs.Rules.{PlainPlan}
use Rattle.task_core.specs.Initial.{after_entries, entries_of, facts_of}
use Rattle.task_core.specs.Tasks.{fluent_count, in_space, initial_vectors, states_after_entries, system_of}
use Rattle.task_core.specs.declared.tasks.Task.{Task}
use Rattle.task_core.proofs.EntryStates.{after_entries_differ}
use Rattle.std.proofs.lemmas.Bool.{cases_lt}
use Rattle.exec_graph.specs.Counting.{add_configuration, moves_from}
use Rattle.exec_graph.specs.Drafts.{HasTooMany, IsNumbered, IsSearched, IsVisit, beginnings, draft_value}
use Rattle.exec_graph.specs.Orders.{in_first}
use Rattle.exec_graph.specs.Executions.{ReachesMoreThan}
use Rattle.exec_graph.specs.Graphs.{IsGraphOf}
use Rattle.exec_graph.specs.Moves.{configuration_of, found_by, listed_at, moves_value}
use Rattle.exec_graph.specs.Rows.{HasRowsInside, HasShortRows, edges_of, row_count, row_of, rows_of, sources}
use Rattle.exec_graph.specs.declared.rows.Rows.{Rows}
use Rattle.exec_graph.proofs.RowFacts.{firsts_get, firsts_length, source_means, sources_once}
use Rattle.exec_graph.proofs.Lengths.{different_few}
use Rattle.exec_graph.specs.Values.{plain_graph}
use Rattle.exec_graph.specs.declared.exploration.Draft.{Draft}
use Rattle.exec_graph.specs.declared.graphs.Graph.{Graph}
use Rattle.exec_graph.specs.declared.graphs.Place.{Place}
use Rattle.exec_graph.specs.declared.moves.Moves.{Moves}
use Rattle.exec_graph.proofs.Listed.{AreDifferent, fold_different}
use Rattle.exec_graph.proofs.Listing.{numbers_listed}
use Rattle.exec_graph.proofs.Searching.{IsShownBy, followers_found, followers_once, no_more, searched_first, shown_graph}
use Rattle.task_core.specs.Initials.{HasTooManyInitial}

-- the place that is visited
place_is : (n : ℕ) (before : Draft) (place : Place) → slice_get before.moves.places.keys (row_count before.next) ≡ Some place
    → slice_get (draft_value n before).found (length (draft_value n before).next) ≡ Some (configuration_of n place)
place_is n before place at =
    ap (slice_get (draft_value n before).found) (firsts_length (row_of before.next) (row_count before.next))
    ∙ slice_get-map (configuration_of n) before.moves.places.keys (row_count before.next)
    ∙ ap (option_map (configuration_of n)) at

module _ (n : ℕ) (sys : System) (plan : PlainPlan) (before : Draft) (place : Place) (moves : Moves)
    (at : slice_get before.moves.places.keys (row_count before.next) ≡ Some place)
    (value : moves_value n moves ≡ moves_from sys plan (configuration_of n place))
    (grown : found_by n moves ≡ fold add_configuration (found_by n before.moves) (moves_value n moves).next) where
  next_is : listed_at (found_by n moves) moves.numbers.items ≡ (moves_from sys plan (configuration_of n place)).next
  next_is = ap (λ m. m.next) value

  found_is : found_by n moves ≡ fold add_configuration (found_by n before.moves) (moves_from sys plan (configuration_of n place)).next
  found_is = grown ∙ ap (fold add_configuration (found_by n before.moves)) next_is

  pub visit_made : ((k : ℕ) → Contains moves.numbers.items k → k < length (found_by n moves)) → (after : Draft) → after.moves ≡ moves
      → rows_of after.next ≡ rows_of before.next ++ moves.numbers.items ∷ [] → after.unexecutable ≡ (before.unexecutable || moves.refused) → after.stuck ≡ (before.stuck || moves.lost)
      → IsVisit sys plan (draft_value n before) (draft_value n after)
  visit_made below after kept next bad stuck = record {
    place = configuration_of n place;
    is = place_is n before place at;
    numbers = moves.numbers.items;
    numbered = subst (λ (m : Moves). IsNumbered (found_by n before.moves) (moves_from sys plan (configuration_of n place)).next (found_by n m) moves.numbers.items) (sym kept)
        (record { grown = found_is; numbered = numbers_listed (found_by n moves) moves.numbers.items below ∙ ap (map Some) next_is });
    next = next;
    unexecutable = bad ∙ ap (λ m. before.unexecutable || m.refused) value;
    stuck = stuck ∙ ap (λ m. before.stuck || m.lost) value;
  }

  pub visit_too_many : (limit : ℕ) → limit < length moves.places.keys → HasTooMany sys plan limit (draft_value n before)
  visit_too_many limit more = record {
    place = configuration_of n place;
    is = place_is n before place at;
    more = subst (λ ys. limit < length ys) found_is (subst (λ k. limit < k) (sym (length-map moves.places.keys (configuration_of n))) more);
  }

-- the graph of a draft in which every configuration was visited
module _ (n : ℕ) (sys : System) (plan : PlainPlan) (draft : Draft) (searched : IsSearched sys plan (draft_value n draft))
    (whole : row_count draft.next ≡ length draft.moves.places.keys) where
  whole_is : length (draft_value n draft).next ≡ length (draft_value n draft).found
  whole_is = firsts_length (row_of draft.next) (row_count draft.next) ∙ whole ∙ sym (length-map draft.moves.places.keys (configuration_of n))

  -- each follower has a list
  pub rows_inside : HasRowsInside draft.next
  rows_inside i j l c =
      let count : length (draft_value n draft).found ≡ row_count draft.next = length-map draft.moves.places.keys (configuration_of n) ∙ sym whole in
      subst (λ k. j < k) count
      (followers_found sys plan (draft_value n draft) searched whole_is i j (row_of draft.next i) (subst (λ k. i < k) (sym count) l)
      (firsts_get (row_of draft.next) (row_count draft.next) i l) c)

  -- and no number twice
  pub rows_once : (i : ℕ) → i < row_count draft.next → AllPairs (λ j k. j ≢ k) (row_of draft.next i)
  rows_once i l =
      let count : length (draft_value n draft).found ≡ row_count draft.next = length-map draft.moves.places.keys (configuration_of n) ∙ sym whole in
      followers_once sys plan (draft_value n draft) searched whole_is i (row_of draft.next i) (subst (λ k. i < k) (sym count) l)
      (firsts_get (row_of draft.next) (row_count draft.next) i l)

  -- so no list is longer than there are configurations
  pub next_short : length draft.moves.places.keys ≤ 262144 → HasShortRows draft.next
  next_short few i l =
      let most = different_few (row_of draft.next i) (row_count draft.next) (rows_once i l) (λ j c. rows_inside i j l c) in
      omega (arith, whole)

  pub prev_short : length draft.moves.places.keys ≤ 262144 → (turned : Rows) → row_count turned ≡ row_count draft.next
      → ((j : ℕ) → j < row_count draft.next → row_of turned j ≡ sources (edges_of (row_of draft.next) (row_count draft.next)) j) → HasShortRows turned
  prev_short few turned count sources_are j l =
      let inside : j < row_count draft.next = subst (λ k. j < k) count l in
      let once = sources_once (row_of draft.next) (row_count draft.next) j rows_once in
      let below : (i : ℕ) → Contains (sources (edges_of (row_of draft.next) (row_count draft.next)) j) i → i < row_count draft.next =
      λ i c. (source_means (row_of draft.next) (row_count draft.next) i j c).0 in
      let most = different_few (sources (edges_of (row_of draft.next) (row_count draft.next)) j) (row_count draft.next) once below in
      let is = ap length (sources_are j inside) in
      omega (arith, whole)

  read_place : (keys : List Place) (i : ℕ) → i < length keys → slice_get (map (configuration_of n) keys) i
      ≡ Some (record { state = option_map_or (λ (p : Place). vector n p.state) (slice_get keys i) []; context = option_map_or (λ (p : Place). p.context) (slice_get keys i) 0 })
  read_place [] i h = absurd (omega arith)
  read_place (k ∷ keys) zero h = refl
  read_place (k ∷ keys) (suc i) h = read_place keys i (omega arith)

  size_is : (graph : Graph) → graph.places.keys ≡ draft.moves.places.keys → graph.next ≡ draft.next → length graph.places.keys ≡ row_count graph.next
  size_is graph places next = ap length places ∙ sym whole ∙ ap row_count (sym next)

  pub graph_made : (graph : Graph) → graph.places.keys ≡ draft.moves.places.keys → graph.initials ≡ length sys.initial → graph.next ≡ draft.next
      → (turned : Rows) → graph.prev ≡ turned → ((j : ℕ) → j < row_count draft.next → row_of turned j ≡ sources (edges_of (row_of draft.next) (row_count draft.next)) j)
      → graph.unexecutable ≡ draft.unexecutable → graph.stuck ≡ draft.stuck → IsGraphOf sys plan (plain_graph n graph)
  graph_made graph places initials next turned prev sources_are bad stuck =
      let shown : IsShownBy sys plan (draft_value n draft) searched whole_is (plain_graph n graph) = record {
        size = ap length places ∙ sym (length-map draft.moves.places.keys (configuration_of n));
        configuration = λ i h. ap (λ keys. slice_get (map (configuration_of n) keys) i) (sym places) ∙ read_place graph.places.keys i h;
        initial = λ i. ap (nat_lt i) initials;
        next = λ i h.
            ap (λ rows. slice_get (rows_of rows) i) (sym next)
            ∙ firsts_get (row_of graph.next) (row_count graph.next) i (subst (λ k. i < k) (size_is graph places next) h);
        prev = λ j h.
            let e : row_count draft.next ≡ length graph.places.keys = whole ∙ ap length (sym places) in
            ap (λ rows. row_of rows j) prev
            ∙ sources_are j (subst (λ k. j < k) (sym e) h)
            ∙ ap (λ rows. sources (edges_of (row_of rows) (row_count draft.next)) j) (sym next)
            ∙ ap (λ k. sources (edges_of (row_of graph.next) k) j) e;
        unexecutable = bad;
        stuck = stuck;
      } in
      shown_graph sys plan (draft_value n draft) searched whole_is (plain_graph n graph) shown

  pub none_more : (limit : ℕ) → length draft.moves.places.keys ≤ limit → ReachesMoreThan sys plan limit → ⊥
  none_more limit few =
      no_more sys plan (draft_value n draft) searched whole_is limit (subst (λ k. k ≤ limit) (sym (length-map draft.moves.places.keys (configuration_of n))) few)

-- the first draft
beginnings_are : (n : ℕ) (states : List State) → beginnings n states ≡ map in_first (map (vector n) states)
beginnings_are n [] = refl
beginnings_are n (s ∷ states) = ap (λ ys. in_first (vector n s) ∷ ys) (beginnings_are n states)

firsts_differ : (vs : List Vector) → AllPairs (λ v w. v ≡ w → ⊥) vs → AreDifferent (map in_first vs)
firsts_differ vs differ i j d li lj e =
    let short : j < length vs = subst (λ k. j < k) (length-map vs in_first) lj in
    let early : i < length vs = omega arith in
    differ i j d.state li short
    (ap (λ (x : Configuration). x.state)
    (sym (get_or-map in_first vs i d.state d early) ∙ e ∙ get_or-map in_first vs j d.state d short))

module _ (n : ℕ) (sys : System) (states : List State) (initial : map (vector n) states ≡ sys.initial) (differ : AllPairs (λ v w. v ≡ w → ⊥) sys.initial) where
  -- the places in which a plan begins are those of the initial states
  pub firsts_are : fold add_configuration [] (beginnings n states) ≡ map in_first sys.initial
  firsts_are =
      let e : beginnings n states ≡ map in_first sys.initial = beginnings_are n states ∙ ap (map in_first) initial in
      ap (fold add_configuration []) e ∙ fold_different (map in_first sys.initial) (firsts_differ sys.initial differ)

  pub count_is : length states ≡ length sys.initial
  count_is = sym (length-map states (vector n)) ∙ ap length initial

  pub first_draft : (plan : PlainPlan) → IsSystem sys → (draft : Draft) → map (configuration_of n) draft.moves.places.keys ≡ fold add_configuration [] (beginnings n states)
      → rows_of draft.next ≡ [] → draft.unexecutable ≡ false → draft.stuck ≡ false → IsSearched sys plan (draft_value n draft)
  first_draft plan ok draft places next bad stuck =
      searched_first sys plan ok (firsts_differ sys.initial differ) (draft_value n draft) (places ∙ firsts_are) next bad stuck

  pub first_count : (draft : Draft) → map (configuration_of n) draft.moves.places.keys ≡ fold add_configuration [] (beginnings n states) → length draft.moves.places.keys ≡ length sys.initial
  first_count draft places =
      sym (length-map draft.moves.places.keys (configuration_of n)) ∙ ap length (places ∙ firsts_are) ∙ length-map sys.initial in_first

-- where there are not too many states after some entries, the initial states are not too many
pub few_initial : (task : Task) (limit : ℕ) → (HasTooManyInitial task limit → ⊥) → length (system_of task).initial ≤ limit
few_initial task limit none =
    let entries = entries_of task.init in
    let n = fluent_count task in
    let all : states_after_entries task (length entries) ≡ initial_vectors task =
    ap (after_entries n (facts_of n task.init)) (take_all (length entries) entries (omega arith)) in
    let kept = length-filter_both (in_space task) (λ v. not (in_space task v)) (λ v. refl) (initial_vectors task) in
    ⊎_elim
    (λ (more : limit < length (initial_vectors task)).
    absurd (none (record { entries = length entries; first = omega arith; more = subst (λ ys. limit < length ys) (sym all) more })))
    (λ (few : length (initial_vectors task) ≤ limit). omega (arith, kept))
    (cases_lt limit (length (initial_vectors task)))

-- they are all different
pub initial_differ : (task : Task) → AllPairs (λ v w. v ≡ w → ⊥) (system_of task).initial
initial_differ task = let n = fluent_count task in
    AllPairs-filter (λ v w. v ≡ w → ⊥) (in_space task) (initial_vectors task) (after_entries_differ n (facts_of n task.init) (entries_of task.init))
