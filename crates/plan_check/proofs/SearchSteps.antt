-- The steps of a search in depth keep what holds between them.
use Rattle.std.proofs.Common.{◌≡◌, ◌≢◌, ◌⊎◌, ℕ, zero, suc, ◌+◌, ◌-◌, ◌<◌, ◌≤◌, ◌^◌, List, [], ◌∷◌, ◌++◌, length, get_or, set, refl, sym, ap, ◌∙◌, subst, arith, ⊎_elim, inl, inr, max}
use Rattle.std.specs.Prelude.{slice_index}
use Rattle.std.specs.List.{AllPairs, Contains}
use Rattle.std.proofs.lemmas.Bool.{cases_eq, cases_lt}
use Rattle.std.proofs.lemmas.List.{length-set, get_or-set_same, get_or-set_other, get_or_past, get_or_append_left, get_or_push, length_push, get_or_default}
use Rattle.std.proofs.lemmas.List.Elements.{All-push, All-contains, Contains-push, Contains-append_left, Contains-push_cases, Contains-get_or}
use Rattle.std.proofs.lemmas.List.Quantifiers.{all_pairs_push}
use Rattle.std.proofs.lemmas.List.Sums.{sum_by-cons, sum_by-set}
use borrow.Author.Count.{below_more}
use Rattle.plan_check.specs.Walks.{ComesRound, HasWalk, IsLongestWalk, IsWalk, StaysBelow, last_number}
use Rattle.plan_check.specs.Searches.{IsAboveSome, IsDoneBelow, IsLow, IsSearch, IsSeen, IsTrail, IsVisit, KeepsSeen, counted, done_count, left_by, left_in, no_visit, visit_at}
use Rattle.plan_check.specs.declared.search.Mark.{Mark}
use Rattle.plan_check.specs.declared.search.Mark.TheVariants.{Unseen, Open, Done}
use Rattle.plan_check.specs.declared.search.Visit.{Visit}
use Rattle.plan_check.proofs.WalkFacts.{trail_pop}

abbrev pub new_visit : Visit
new_visit = record { mark = Open; tried = 0; height = 0 }

-- a number that isn't unseen is one of the visits
pub seen_below : (visits : List Visit) (i : ℕ) → ((visit_at visits i).mark ≡ Unseen → ⊥) → i < length visits
seen_below visits i seen =
    ⊎_elim (λ (l : i < length visits). l)
    (λ (past : length visits ≤ i). absurd (seen (ap (λ (w : Visit). w.mark) (get_or_past visits i no_visit past))))
    (cases_lt i (length visits))

-- a number that is done keeps what is known of it
abbrev KeepsDone : List Visit → List Visit → Type 0
KeepsDone before after = (i : ℕ) → (visit_at before i).mark ≡ Done → visit_at after i ≡ visit_at before i

below_kept : (before after : List Visit) (bound j : ℕ) → KeepsDone before after → IsDoneBelow before bound j → IsDoneBelow after bound j
below_kept before after bound j keeps d =
    let e = keeps j d.done in
    record { done = ap (λ (w : Visit). w.mark) e ∙ d.done; below = subst (λ (w : Visit). w.height < bound) (sym e) d.below }

above_kept : (next : ℕ → List ℕ) (before after : List Visit) (i height : ℕ) → KeepsDone before after → IsAboveSome next before i height → IsAboveSome next after i height
above_kept next before after i height keeps a =
    let e = keeps a.follower a.done in
    record {
      follower = a.follower;
      follows = a.follows;
      done = ap (λ (w : Visit). w.mark) e ∙ a.done;
      above = a.above ∙ ap (λ (w : Visit). w.height + 1) (sym e);
    }

visit_kept : (next : ℕ → List ℕ) (before after : List Visit) (i : ℕ) (visit : Visit) → KeepsDone before after → IsVisit next before i visit → IsVisit next after i visit
visit_kept next before after i visit keeps h =
    record {
      tried = h.tried;
      all = h.all;
      below = λ k l. below_kept before after visit.height (slice_index (next i) k) keeps (h.below k l);
      attained = ⊎_elim (λ e. inl e) (λ a. inr (above_kept next before after i visit.height keeps a)) h.attained;
    }

-- no more are done than there are
counted_once : (m : Mark) → counted m ≤ 1
counted_once Unseen = omega arith
counted_once Open = omega arith
counted_once Done = omega arith

pub done_few : (visits : List Visit) → done_count visits ≤ length visits
done_few [] = omega arith
done_few (w ∷ ws) =
    let a = counted_once w.mark in
    let b = done_few ws in
    let both : counted w.mark + done_count ws ≤ suc (length ws) = omega arith in
    subst (λ k. k ≤ suc (length ws)) (sym (sum_by-cons (λ (x : Visit). counted x.mark) w ws)) both

-- one visit written
module _ (visits : List Visit) (i : ℕ) (visit : Visit) (within : i < length visits) where
  pub here : visit_at (set visits i visit) i ≡ visit
  here = get_or-set_same visits i visit no_visit within

  pub elsewhere : (j : ℕ) → (j ≡ i → ⊥) → visit_at (set visits i visit) j ≡ visit_at visits j
  elsewhere j ne = get_or-set_other visits i j visit no_visit ne

  pub keeps_done : ((visit_at visits i).mark ≡ Done → ⊥) → KeepsDone visits (set visits i visit)
  keeps_done no_done j done = elsewhere j (λ e. no_done (subst (λ k. (visit_at visits k).mark ≡ Done) e done))

  -- a fact of each visit: of the new one, and of the others as before
  pub each_visit : (P : ℕ → Visit → Type 0) → P i visit → ((j : ℕ) → P j (visit_at visits j)) → (j : ℕ) → P j (visit_at (set visits i visit) j)
  each_visit P new others j =
      ⊎_elim
      (λ (e : j ≡ i). subst (λ k. P k (visit_at (set visits i visit) k)) (sym e) (subst (P i) (sym here) new))
      (λ (ne : j ≡ i → ⊥). subst (P j) (sym (elsewhere j ne)) (others j))
      (cases_eq j i)

  pub keeps_seen : (visit.mark ≡ Unseen → ⊥) → KeepsSeen visits (set visits i visit)
  keeps_seen seen j was =
      ⊎_elim
      (λ (e : j ≡ i). λ un. seen (ap (λ (w : Visit). w.mark) (sym here) ∙ ap (λ k. (visit_at (set visits i visit) k).mark) (sym e) ∙ un))
      (λ (ne : j ≡ i → ⊥). λ un. was (ap (λ (w : Visit). w.mark) (sym (elsewhere j ne)) ∙ un))
      (cases_eq j i)

  -- what is left to do, and how many are done
  pub left_changes : left_in (set visits i visit) + left_by (visit_at visits i).mark (visit_at visits i).tried ≡ left_in visits + left_by visit.mark visit.tried
  left_changes = sum_by-set (λ (w : Visit). left_by w.mark w.tried) visits i visit no_visit within

  pub done_changes : done_count (set visits i visit) + counted (visit_at visits i).mark ≡ done_count visits + counted visit.mark
  done_changes = sum_by-set (λ (w : Visit). counted w.mark) visits i visit no_visit within

-- the three steps, over plain lists
module _ (n : ℕ) (next : ℕ → List ℕ) (visits : List Visit) (path : List ℕ) (h : IsSearch n next visits path) where
  -- a number on the path isn't one that is unseen or done
  pub on_path_open : (i : ℕ) → Contains path i → (visit_at visits i).mark ≡ Open
  on_path_open i c = All-contains (λ j. (visit_at visits j).mark ≡ Open) path i h.on_path c

  -- an unseen number comes to the end of the path
  module _ (j : ℕ) (below : j < n) (unseen : (visit_at visits j).mark ≡ Unseen) (trail : IsTrail next (path ++ j ∷ [])) where
    within : j < length visits
    within = subst (λ m. j < m) (sym h.count) below

    now_visits : List Visit
    now_visits = set visits j new_visit

    not_done : (visit_at visits j).mark ≡ Done → ⊥
    not_done e = cc

    not_open : (visit_at visits j).mark ≡ Open → ⊥
    not_open e = cc

    same_done : done_count (set visits j new_visit) ≡ done_count visits
    same_done =
        let e = done_changes visits j new_visit within in
        let z : counted (visit_at visits j).mark ≡ 0 = ap counted unseen in
        omega arith

    pub opened : IsSearch n next (set visits j new_visit) (path ++ j ∷ [])
    opened =
        record {
          count = length-set visits j new_visit ∙ h.count;
          each = each_visit visits j new_visit within (IsVisit next (set visits j new_visit))
              (record { tried = omega arith; all = λ e. cc; below = λ k l. absurd (omega arith); attained = inl refl })
              (λ i. visit_kept next visits (set visits j new_visit) i (visit_at visits i) (keeps_done visits j new_visit within not_done) (h.each i));
          low = each_visit visits j new_visit within (λ _ w. IsLow (done_count (set visits j new_visit)) w)
              (omega arith)
              (λ i. subst (λ m. IsLow m (visit_at visits i)) (sym same_done) (h.low i));
          on_path = All-push (λ i. (visit_at (set visits j new_visit) i).mark ≡ Open) path j
              (λ k d l. let c = Contains-get_or path k d l in
              let i = get_or path k d in
              let ne : i ≡ j → ⊥ = λ e. not_open (subst (λ m. (visit_at visits m).mark ≡ Open) e (on_path_open i c)) in
              ap (λ (w : Visit). w.mark) (elsewhere visits j new_visit within i ne) ∙ on_path_open i c)
              (ap (λ (w : Visit). w.mark) (here visits j new_visit within));
          all_on_path = each_visit visits j new_visit within (λ i w. w.mark ≡ Open → Contains (path ++ j ∷ []) i)
              (λ _. Contains-push path j)
              (λ i e. Contains-append_left path (j ∷ []) i (h.all_on_path i e));
          once = all_pairs_push (λ a b. a ≢ b) path j h.once
              (λ k d l e. not_open (subst (λ m. (visit_at visits m).mark ≡ Open) e (on_path_open (get_or path k d) (Contains-get_or path k d l))));
          trail = trail;
        }

    pub opened_keeps : KeepsSeen visits (set visits j new_visit)
    opened_keeps = keeps_seen visits j new_visit within (λ e. cc)

    pub opened_less : left_in (set visits j new_visit) < left_in visits
    opened_less =
        let e = left_changes visits j new_visit within in
        let z : left_by (visit_at visits j).mark (visit_at visits j).tried ≡ 2 ^ 64 + 2 = ap (λ m. left_by m (visit_at visits j).tried) unseen in
        omega arith

  -- the height of a follower that is done is taken in at a number on the path
  module _ (top j : ℕ) (on : (visit_at visits top).mark ≡ Open) (tries : (visit_at visits top).tried < length (next top)) (fits : (visit_at visits top).tried < 2 ^ 64) (is : slice_index (next top) (visit_at visits top).tried ≡ j) (done : (visit_at visits j).mark ≡ Done) where
    abbrev taken : Visit
    taken = record { mark = (visit_at visits top).mark; tried = (visit_at visits top).tried + 1; height = max (visit_at visits top).height ((visit_at visits j).height + 1) }

    top_within : top < length visits
    top_within = seen_below visits top (λ e. cc)

    top_not_done : (visit_at visits top).mark ≡ Done → ⊥
    top_not_done e = cc

    top_keeps : KeepsDone visits (set visits top taken)
    top_keeps = keeps_done visits top taken top_within top_not_done

    taken_done : done_count (set visits top taken) ≡ done_count visits
    taken_done = let e = done_changes visits top taken top_within in omega arith

    tried_below : (k : ℕ) → k < (visit_at visits top).tried + 1 → IsDoneBelow (set visits top taken) (max (visit_at visits top).height ((visit_at visits j).height + 1)) (slice_index (next top) k)
    tried_below = below_more (λ k. IsDoneBelow (set visits top taken) (max (visit_at visits top).height ((visit_at visits j).height + 1)) (slice_index (next top) k)) (visit_at visits top).tried
        (λ k l. let d = below_kept visits (set visits top taken) (visit_at visits top).height (slice_index (next top) k) top_keeps ((h.each top).below k l) in
        let b = d.below in
        record { done = d.done; below = omega arith })
        (subst (λ i. IsDoneBelow (set visits top taken) (max (visit_at visits top).height ((visit_at visits j).height + 1)) i) (sym is)
        (let e = top_keeps j done in
        let l : (visit_at (set visits top taken) j).height ≡ (visit_at visits j).height = ap (λ (w : Visit). w.height) e in
        record { done = ap (λ (w : Visit). w.mark) e ∙ done; below = omega arith }))

    taken_above : IsAboveSome next (set visits top taken) top ((visit_at visits j).height + 1)
    taken_above =
        let e = top_keeps j done in
        record {
          follower = j;
          follows = subst (Contains (next top)) is (Contains-get_or (next top) (visit_at visits top).tried 0 tries);
          done = ap (λ (w : Visit). w.mark) e ∙ done;
          above = ap (λ (w : Visit). w.height + 1) (sym e);
        }

    taken_attained : (max (visit_at visits top).height ((visit_at visits j).height + 1) ≡ 0) ⊎ IsAboveSome next (set visits top taken) top (max (visit_at visits top).height ((visit_at visits j).height + 1))
    taken_attained =
        ⊎_elim
        (λ (l : (visit_at visits top).height < (visit_at visits j).height + 1).
        let e : max (visit_at visits top).height ((visit_at visits j).height + 1) ≡ (visit_at visits j).height + 1 = omega arith in
        inr (subst (IsAboveSome next (set visits top taken) top) (sym e) taken_above))
        (λ (l : (visit_at visits j).height + 1 ≤ (visit_at visits top).height).
        let e : max (visit_at visits top).height ((visit_at visits j).height + 1) ≡ (visit_at visits top).height = omega arith in
        subst (λ m. (m ≡ 0) ⊎ IsAboveSome next (set visits top taken) top m) (sym e)
        (⊎_elim (λ z. inl z) (λ a. inr (above_kept next visits (set visits top taken) top (visit_at visits top).height top_keeps a)) (h.each top).attained))
        (cases_lt (visit_at visits top).height ((visit_at visits j).height + 1))

    taken_low : IsLow (done_count (set visits top taken)) taken
    taken_low =
        let a : IsLow (done_count visits) (visit_at visits top) = h.low top in
        let b : IsLow (done_count visits) (visit_at visits j) = h.low j in
        let za : counted (visit_at visits top).mark ≡ 0 = ap counted on in
        let zb : counted (visit_at visits j).mark ≡ 1 = ap counted done in
        let e = taken_done in
        omega arith

    same_marks : (i : ℕ) → (visit_at (set visits top taken) i).mark ≡ (visit_at visits i).mark
    same_marks = each_visit visits top taken top_within (λ i w. w.mark ≡ (visit_at visits i).mark) refl (λ _. refl)

    pub took : IsSearch n next (set visits top taken) path
    took =
        record {
          count = length-set visits top taken ∙ h.count;
          each = each_visit visits top taken top_within (IsVisit next (set visits top taken))
              (record { tried = omega arith; all = λ e. absurd (top_not_done e); below = tried_below; attained = taken_attained })
              (λ i. visit_kept next visits (set visits top taken) i (visit_at visits i) top_keeps (h.each i));
          low = each_visit visits top taken top_within (λ _ w. IsLow (done_count (set visits top taken)) w)
              taken_low
              (λ i. subst (λ m. IsLow m (visit_at visits i)) (sym taken_done) (h.low i));
          on_path = λ k d l. same_marks (get_or path k d) ∙ h.on_path k d l;
          all_on_path = λ i e. h.all_on_path i (sym (same_marks i) ∙ e);
          once = h.once;
          trail = h.trail;
        }

    pub took_less : left_in (set visits top taken) < left_in visits
    took_less =
        let e = left_changes visits top taken top_within in
        let z : left_by (visit_at visits top).mark (visit_at visits top).tried ≡ (2 ^ 64 + 1) - (visit_at visits top).tried = ap (λ m. left_by m (visit_at visits top).tried) on in
        let y : left_by (visit_at visits top).mark ((visit_at visits top).tried + 1) ≡ (2 ^ 64 + 1) - ((visit_at visits top).tried + 1) = ap (λ m. left_by m ((visit_at visits top).tried + 1)) on in
        omega arith

    pub took_keeps : KeepsSeen visits (set visits top taken)
    took_keeps = keeps_seen visits top taken top_within (λ e. cc)

    -- the height fits
    pub height_fits : (visit_at visits j).height < n
    height_fits =
        let b : IsLow (done_count visits) (visit_at visits j) = h.low j in
        let zb : counted (visit_at visits j).mark ≡ 1 = ap counted done in
        let c : done_count visits ≤ length visits = done_few visits in
        let e = h.count in
        omega arith

-- the last number of the path is done when all that follow it are
module _ (n : ℕ) (next : ℕ → List ℕ) (visits : List Visit) (front : List ℕ) (top : ℕ) (h : IsSearch n next visits (front ++ top ∷ [])) (all : length (next top) ≤ (visit_at visits top).tried) (fits : (visit_at visits top).tried < 2 ^ 64) where
  abbrev ended : Visit
  ended = record { mark = Done; tried = (visit_at visits top).tried; height = (visit_at visits top).height }

  end_open : (visit_at visits top).mark ≡ Open
  end_open = on_path_open n next visits (front ++ top ∷ []) h top (Contains-push front top)

  end_within : top < length visits
  end_within = seen_below visits top (λ e. let o = end_open in cc)

  end_not_done : (visit_at visits top).mark ≡ Done → ⊥
  end_not_done e = let o = end_open in cc

  end_keeps : KeepsDone visits (set visits top ended)
  end_keeps = keeps_done visits top ended end_within end_not_done

  one_more_done : done_count (set visits top ended) ≡ done_count visits + 1
  one_more_done =
      let e = done_changes visits top ended end_within in
      let z : counted (visit_at visits top).mark ≡ 0 = ap counted end_open in
      omega arith

  ended_visit : IsVisit next (set visits top ended) top ended
  ended_visit =
      let v = visit_kept next visits (set visits top ended) top (visit_at visits top) end_keeps (h.each top) in
      let t = v.tried in
      record { tried = t; all = λ _. omega arith; below = v.below; attained = v.attained }

  ended_low : IsLow (done_count (set visits top ended)) ended
  ended_low =
      let a : IsLow (done_count visits) (visit_at visits top) = h.low top in
      let z : counted (visit_at visits top).mark ≡ 0 = ap counted end_open in
      let e = one_more_done in
      omega arith

  -- the numbers before the last differ from it
  front_other : (k : ℕ) (d : ℕ) → k < length front → get_or front k d ≡ top → ⊥
  front_other k d l e =
      let m = length_push front top in
      h.once k (length front) d l (omega arith) (get_or_append_left front (top ∷ []) d k l ∙ e ∙ sym (get_or_push front top d (length front) refl))

  front_open : (k : ℕ) (d : ℕ) → k < length front → (visit_at (set visits top ended) (get_or front k d)).mark ≡ Open
  front_open k d l =
      ap (λ (w : Visit). w.mark) (elsewhere visits top ended end_within (get_or front k d) (front_other k d l))
      ∙ on_path_open n next visits (front ++ top ∷ []) h (get_or front k d) (Contains-append_left front (top ∷ []) (get_or front k d) (Contains-get_or front k d l))

  front_once : AllPairs (λ i j. i ≢ j) front
  front_once i j d l m e =
      let p = length_push front top in
      h.once i j d l (omega arith) (get_or_append_left front (top ∷ []) d i (omega arith) ∙ e ∙ sym (get_or_append_left front (top ∷ []) d j m))

  open_in_front : (i : ℕ) → (visit_at (set visits top ended) i).mark ≡ Open → Contains front i
  open_in_front i e =
      let ne : top ≡ i → ⊥ = λ same. top_is_done i same e in
      let was : (visit_at visits i).mark ≡ Open = ap (λ (w : Visit). w.mark) (sym (elsewhere visits top ended end_within i (λ same. ne (sym same)))) ∙ e in
      ⊎_elim (λ c. c) (λ same. absurd (ne same)) (Contains-push_cases front top i (h.all_on_path i was))
    where
      top_is_done : (i : ℕ) → top ≡ i → (visit_at (set visits top ended) i).mark ≡ Open → ⊥
      top_is_done i same e =
          let d : (visit_at (set visits top ended) i).mark ≡ Done = subst (λ k. (visit_at (set visits top ended) k).mark ≡ Done) same (ap (λ (w : Visit). w.mark) (here visits top ended end_within)) in
          cc

  pub ended_search : IsSearch n next (set visits top ended) front
  ended_search =
      record {
        count = length-set visits top ended ∙ h.count;
        each = each_visit visits top ended end_within (IsVisit next (set visits top ended))
            ended_visit
            (λ i. visit_kept next visits (set visits top ended) i (visit_at visits i) end_keeps (h.each i));
        low = each_visit visits top ended end_within (λ _ w. IsLow (done_count (set visits top ended)) w)
            ended_low
            (λ i. let a : IsLow (done_count visits) (visit_at visits i) = h.low i in let e = one_more_done in omega arith);
        on_path = front_open;
        all_on_path = open_in_front;
        once = front_once;
        trail = trail_pop next front top h.trail;
      }

  pub ended_less : left_in (set visits top ended) < left_in visits
  ended_less =
      let e = left_changes visits top ended end_within in
      let z : left_by (visit_at visits top).mark (visit_at visits top).tried ≡ (2 ^ 64 + 1) - (visit_at visits top).tried = ap (λ m. left_by m (visit_at visits top).tried) end_open in
      let t = (h.each top).tried in
      omega arith

  pub ended_keeps : KeepsSeen visits (set visits top ended)
  ended_keeps = keeps_seen visits top ended end_within (λ e. cc)

-- a walk of so many steps from a number
record WalkFrom (next : ℕ → List ℕ) (m i : ℕ) : Type 0 where
  rest : List ℕ
  walk : IsWalk next i rest
  long : length rest ≡ m

-- when all has been seen and the path is empty
module _ (n : ℕ) (next : ℕ → List ℕ) (visits : List Visit) (h : IsSearch n next visits []) (seen : (i : ℕ) → i < n → IsSeen visits i) (stays : StaysBelow n next) where
  abbrev height : ℕ → ℕ
  height i = (visit_at visits i).height

  all_done : (i : ℕ) → i < n → (visit_at visits i).mark ≡ Done
  all_done i l = go (visit_at visits i).mark refl
    where
      go : (m : Mark) → (visit_at visits i).mark ≡ m → (visit_at visits i).mark ≡ Done
      go Unseen e = absurd (seen i l e)
      go Open e = absurd (none_in (h.all_on_path i e))
        where
          none_in : Contains [] i → ⊥
          none_in (k, below, is) = omega arith
      go Done e = e

  follower_lower : (i j : ℕ) → i < n → Contains (next i) j → height j < height i
  follower_lower i j l (k, below, is) =
      let t = (h.each i).all (all_done i l) in
      let d = (h.each i).below k (subst (λ m. k < m) (sym t) below) in
      let e : slice_index (next i) k ≡ j = get_or_default (next i) k 0 j below ∙ is in
      subst (λ m. (visit_at visits m).height < height i) e d.below

  walk_falls : (i : ℕ) (rest : List ℕ) → i < n → IsWalk next i rest → height (last_number i rest) + length rest ≤ height i
  walk_falls i [] l w = omega arith
  walk_falls i (j ∷ rest) l w =
      let a = walk_falls j rest (stays i j l w.0) w.1 in
      let b = follower_lower i j l w.0 in
      omega arith

  walk_at : (m i : ℕ) → i < n → height i ≡ m → WalkFrom next m i
  walk_at zero i l e = record { rest = []; walk = tt; long = refl }
  walk_at (suc m) i l e =
      ⊎_elim
      (λ (z : height i ≡ 0). absurd (omega arith))
      (λ (a : IsAboveSome next visits i (height i)).
      let up = a.above in
      let lower : height a.follower ≡ m = omega arith in
      let w = walk_at m a.follower (stays i a.follower l a.follows) lower in
      record { rest = a.follower ∷ w.rest; walk = (a.follows, w.walk); long = ap suc w.long })
      (h.each i).attained

  walk_of_height : (m i : ℕ) → i < n → height i ≡ m → HasWalk n next m
  walk_of_height m i l e = let w = walk_at m i l e in record { start = i; below = l; rest = w.rest; walk = w.walk; long = w.long }

  never_round : ComesRound n next → ⊥
  never_round r =
      let f = walk_falls r.number (r.follower ∷ r.rest) r.below r.walk in
      let e : height (last_number r.follower r.rest) ≡ height r.number = ap height r.round in
      omega arith

  pub greatest_longest : (g : ℕ) → ((i : ℕ) → height i ≤ g) → ((g ≡ 0) ⊎ ((i : ℕ) × (i < length visits) × (height i ≡ g))) → IsLongestWalk n next g
  greatest_longest g most attained =
      record {
        never_round = never_round;
        most = λ m w.
            let f = walk_falls w.start w.rest w.below w.walk in
            let b = most w.start in
            let e = w.long in
            omega arith;
        attained = ⊎_elim (λ z. when_zero n z refl) (λ x. inl (walk_of_height g x.0 (subst (λ m. x.0 < m) h.count x.1) x.2)) attained;
      }
    where
      when_zero : (m : ℕ) → g ≡ 0 → n ≡ m → HasWalk n next g ⊎ ((g ≡ 0) × (n ≡ 0))
      when_zero zero z e = inr (z, e)
      when_zero (suc m) z e = inl (record { start = 0; below = omega arith; rest = []; walk = tt; long = sym z })
