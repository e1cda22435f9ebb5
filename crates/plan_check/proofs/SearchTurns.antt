-- One step at the last number of a search's path, whichever it is.
use Rattle.std.proofs.Common.{◌≡◌, ℕ, ◌+◌, ◌-◌, ◌*◌, ◌<◌, ◌≤◌, ◌^◌, List, [], ◌∷◌, ◌++◌, length, take, get_or, set, max, Some, sym, ap, ◌∙◌, subst, arith}
use Rattle.std.specs.Prelude.{slice_get, slice_index}
use Rattle.std.specs.List.{Contains}
use Rattle.std.proofs.lemmas.List.{get_or_read}
use Rattle.std.proofs.lemmas.List.Elements.{Contains-get_or, Contains-push}
use Rattle.std.proofs.lemmas.Option.{slice_get_within, get_or_from_slice_get}
use Rattle.exec_graph.specs.Values.{lengths_below, sum_below}
use Rattle.plan_check.specs.Plain.{IsTurned}
use Rattle.plan_check.specs.Walks.{ComesRound, StaysBelow}
use Rattle.plan_check.specs.Searches.{IsSearch, IsTrail, KeepsSeen, left_in, looks_at, no_visit, visit_at}
use Rattle.plan_check.specs.declared.search.Mark.TheVariants.{Unseen, Open, Done}
use Rattle.plan_check.specs.declared.search.Visit.{Visit}
use Rattle.plan_check.proofs.WalkFacts.{split_last, trail_push, trail_round}
use Rattle.plan_check.proofs.SearchCounts.{entered_some, looks_ended, looks_left, looks_opened, looks_took}
use Rattle.plan_check.proofs.SearchSteps.{ended_keeps, ended_less, ended_search, height_fits, on_path_open, opened, opened_keeps, opened_less, seen_below, took, took_keeps, took_less, new_visit}

-- the search over equal lists
same_search : (n : ℕ) (next : ℕ → List ℕ) (visits now : List Visit) (path new : List ℕ) → now ≡ visits → new ≡ path → IsSearch n next visits path → IsSearch n next now new
same_search n next visits now path new a b h = subst (λ vs. IsSearch n next vs new) (sym a) (subst (IsSearch n next visits) (sym b) h)

abbrev higher : Visit → ℕ → Visit
higher visit height = record { mark = visit.mark; tried = visit.tried + 1; height = max visit.height (height + 1) }

abbrev over : Visit → Visit
over visit = record { mark = Done; tried = visit.tried; height = visit.height }

-- a first number on the path
pub turn_begins : (n : ℕ) (next : ℕ → List ℕ) (visits now : List Visit) (path new : List ℕ) (root : ℕ) (visit : Visit) → IsSearch n next visits path → path ≡ [] → root < n → visit ≡ get_or visits root visit → visit.mark ≡ Unseen
    → now ≡ set visits root new_visit → new ≡ path ++ root ∷ [] → IsSearch n next now new × KeepsSeen visits now × ((visit_at now root).mark ≡ Unseen → ⊥)
turn_begins n next visits now path new root visit h none below is unseen a b =
    let l : root < length visits = subst (λ m. root < m) (sym h.count) below in
    let un : (visit_at visits root).mark ≡ Unseen = sym (ap (λ (w : Visit). w.mark) (get_or_read visits root visit l is no_visit)) ∙ unseen in
    let trail : IsTrail next (path ++ root ∷ []) = subst (λ p. IsTrail next (p ++ root ∷ [])) (sym none) tt in
    let s = opened n next visits path h root below un trail in
    let new_search = same_search n next (set visits root new_visit) now (path ++ root ∷ []) new a b s in
    let on : (visit_at now root).mark ≡ Open = on_path_open n next now new new_search root (subst (λ p. Contains p root) (sym b) (last_in path root)) in (
      new_search,
      subst (λ vs. KeepsSeen visits vs) (sym a) (opened_keeps n next visits path h root below un trail),
      λ e. open_unseen (sym on ∙ e),
    )
  where
    last_in : (p : List ℕ) (x : ℕ) → Contains (p ++ x ∷ []) x
    last_in p x = Contains-push p x

    open_unseen : Open ≡ Unseen → ⊥
    open_unseen e = cc

pub turn_begins_looks : (n : ℕ) (next prev : ℕ → List ℕ) (visits now : List Visit) (path : List ℕ) (root : ℕ) (visit : Visit) → IsTurned n next prev → IsSearch n next visits path → root < n
    → visit ≡ get_or visits root visit → visit.mark ≡ Unseen → now ≡ set visits root new_visit → sum_below (looks_at prev visits) n ≤ sum_below (looks_at prev now) n
turn_begins_looks n next prev visits now path root visit turned h below is unseen a =
    let l : root < length visits = subst (λ m. root < m) (sym h.count) below in
    let un : (visit_at visits root).mark ≡ Unseen = sym (ap (λ (w : Visit). w.mark) (get_or_read visits root visit l is no_visit)) ∙ unseen in
    let more = looks_opened n next prev turned visits path h root now below un a in
    omega arith

module _ (n : ℕ) (next : ℕ → List ℕ) (visits : List Visit) (path : List ℕ) (stays : StaysBelow n next) (h : IsSearch n next visits path) (top : ℕ) (is : slice_get path (length path - 1) ≡ Some top) where
  abbrev front : List ℕ
  front = take (length path - 1) path

  path_is : path ≡ front ++ top ∷ []
  path_is = split_last path top is

  top_open : (visit_at visits top).mark ≡ Open
  top_open = on_path_open n next visits path h top (length path - 1, slice_get_within path (length path - 1) top is, get_or_from_slice_get path (length path - 1) top top is)

  pub top_within : top < length visits
  top_within = seen_below visits top (λ e. unseen_open (sym e ∙ top_open))
    where
      unseen_open : Unseen ≡ Open → ⊥
      unseen_open e = cc

  pub top_below : top < n
  top_below = subst (λ m. top < m) h.count top_within

  module _ (visit : Visit) (read : visit ≡ get_or visits top visit) (followers : List ℕ) (are : next top ≡ followers) where
    visit_is : visit ≡ visit_at visits top
    visit_is = get_or_read visits top visit top_within read no_visit

    -- a follower is left
    module _ (left : visit.tried < length followers) (follower : ℕ) (reads : follower ≡ get_or followers visit.tried 0) where
      follows : Contains (next top) follower
      follows = subst (Contains (next top)) (sym reads) (subst (λ xs. Contains xs (get_or followers visit.tried 0)) (sym are) (Contains-get_or followers visit.tried 0 left))

      tried_less : (visit_at visits top).tried < length (next top)
      tried_less = subst (λ xs. (visit_at visits top).tried < length xs) (sym are) (subst (λ (w : Visit). w.tried < length followers) visit_is left)

      -- one more look is within twice the edges
      pub turn_looks : (prev : ℕ → List ℕ) → IsTurned n next prev → sum_below (looks_at prev visits) n + 1 ≤ 2 * lengths_below next n
      turn_looks prev turned = looks_left n next prev turned visits path h top top_below tried_less

      pub follower_below : follower < n
      follower_below = stays top follower top_below follows

      pub follower_within : follower < length visits
      follower_within = subst (λ m. follower < m) (sym h.count) follower_below

      module _ (other : Visit) (seen : other ≡ get_or visits follower other) where
        other_is : other ≡ visit_at visits follower
        other_is = get_or_read visits follower other follower_within seen no_visit

        pub turn_round : other.mark ≡ Open → ComesRound n next
        turn_round e =
            trail_round n next front top follower follower_below
            (subst (IsTrail next) path_is h.trail)
            (subst (λ p. Contains p follower) path_is (h.all_on_path follower (sym (ap (λ (w : Visit). w.mark) other_is) ∙ e)))
            follows

        module _ (e : other.mark ≡ Unseen) (now : List Visit) (new : List ℕ) (a : now ≡ set visits follower new_visit) (b : new ≡ path ++ follower ∷ []) where
          unseen : (visit_at visits follower).mark ≡ Unseen
          unseen = sym (ap (λ (w : Visit). w.mark) other_is) ∙ e

          trail : IsTrail next (path ++ follower ∷ [])
          trail = subst (λ p. IsTrail next (p ++ follower ∷ [])) (sym path_is) (trail_push next front top follower (subst (IsTrail next) path_is h.trail) follows)

          pub turn_opens : IsSearch n next now new
          turn_opens = same_search n next (set visits follower new_visit) now (path ++ follower ∷ []) new a b (opened n next visits path h follower follower_below unseen trail)

          pub turn_opens_keeps : KeepsSeen visits now
          turn_opens_keeps = subst (λ vs. KeepsSeen visits vs) (sym a) (opened_keeps n next visits path h follower follower_below unseen trail)

          pub turn_opens_looks : (prev : ℕ → List ℕ) → IsTurned n next prev → sum_below (looks_at prev visits) n + 1 ≤ sum_below (looks_at prev now) n
          turn_opens_looks prev turned =
              let one = entered_some (prev follower) top ((turned.lists top follower follower_below).1 (top_below, follows)) in
              let more = looks_opened n next prev turned visits path h follower now follower_below unseen a in
              omega arith

          pub turn_opens_less : left_in now < left_in visits
          turn_opens_less = subst (λ vs. left_in vs < left_in visits) (sym a) (opened_less n next visits path h follower follower_below unseen trail)

        module _ (e : other.mark ≡ Done) (fits : visit.tried < 2 ^ 64) where
          done : (visit_at visits follower).mark ≡ Done
          done = sym (ap (λ (w : Visit). w.mark) other_is) ∙ e

          tries : (visit_at visits top).tried < length (next top)
          tries = subst (λ xs. (visit_at visits top).tried < length xs) (sym are) (subst (λ (w : Visit). w.tried < length followers) visit_is left)

          small : (visit_at visits top).tried < 2 ^ 64
          small = subst (λ (w : Visit). w.tried < 2 ^ 64) visit_is fits

          at : slice_index (next top) (visit_at visits top).tried ≡ follower
          at = ap (λ xs. get_or xs (visit_at visits top).tried 0) are ∙ ap (λ (w : Visit). get_or followers w.tried 0) (sym visit_is) ∙ sym reads

          pub turn_fits : other.height < n
          turn_fits = subst (λ (w : Visit). w.height < n) (sym other_is) (height_fits n next visits path h top follower top_open tries small at done)

          module _ (now : List Visit) (new : List ℕ) (a : now ≡ set visits top (higher (visit_at visits top) other.height)) (b : new ≡ path) where
            now_is : now ≡ set visits top (higher (visit_at visits top) (visit_at visits follower).height)
            now_is = a ∙ ap (λ (w : Visit). set visits top (higher (visit_at visits top) w.height)) other_is

            pub turn_takes : IsSearch n next now new
            turn_takes = same_search n next (set visits top (higher (visit_at visits top) (visit_at visits follower).height)) now path new now_is b (took n next visits path h top follower top_open tries small at done)

            pub turn_takes_keeps : KeepsSeen visits now
            turn_takes_keeps = subst (λ vs. KeepsSeen visits vs) (sym now_is) (took_keeps n next visits path h top follower top_open tries small at done)

            pub turn_takes_looks : (prev : ℕ → List ℕ) → IsTurned n next prev → sum_below (looks_at prev visits) n + 1 ≤ sum_below (looks_at prev now) n
            turn_takes_looks prev turned = looks_took n next prev turned visits path h top (max (visit_at visits top).height (other.height + 1)) now top_below top_open a

            pub turn_takes_less : left_in now < left_in visits
            turn_takes_less = subst (λ vs. left_in vs < left_in visits) (sym now_is) (took_less n next visits path h top follower top_open tries small at done)

    -- none is left
    module _ (none : length followers ≤ visit.tried) (fits : visit.tried < 2 ^ 64) (now : List Visit) (new : List ℕ) (a : now ≡ set visits top (over (visit_at visits top))) (b : new ≡ take (length path - 1) path) where
      split : IsSearch n next visits (front ++ top ∷ [])
      split = subst (IsSearch n next visits) path_is h

      all_tried : length (next top) ≤ (visit_at visits top).tried
      all_tried = subst (λ xs. length xs ≤ (visit_at visits top).tried) (sym are) (subst (λ (w : Visit). length followers ≤ w.tried) visit_is none)

      tried_fits : (visit_at visits top).tried < 2 ^ 64
      tried_fits = subst (λ (w : Visit). w.tried < 2 ^ 64) visit_is fits

      pub turn_ends : IsSearch n next now new
      turn_ends = same_search n next (set visits top (over (visit_at visits top))) now front new a b (ended_search n next visits front top split all_tried tried_fits)

      pub turn_ends_keeps : KeepsSeen visits now
      turn_ends_keeps = subst (λ vs. KeepsSeen visits vs) (sym a) (ended_keeps n next visits front top split all_tried tried_fits)

      pub turn_ends_less : left_in now < left_in visits
      turn_ends_less = subst (λ vs. left_in vs < left_in visits) (sym a) (ended_less n next visits front top split all_tried tried_fits)

      pub turn_ends_looks : (prev : ℕ → List ℕ) → IsTurned n next prev → sum_below (looks_at prev visits) n ≤ sum_below (looks_at prev now) n
      turn_ends_looks prev turned = looks_ended n next prev turned visits path h top now top_below top_open a
