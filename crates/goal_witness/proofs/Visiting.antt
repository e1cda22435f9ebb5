-- A visit of a number in a part of a graph, follower by follower.
use Rattle.std.proofs.Common.{◌≡◌, ℕ, ◌+◌, ◌<◌, ◌≤◌, Bool, true, List, length, set, get_or, sym, subst, arith, inl, inr, slice_index_or, ◌∙◌}
use Rattle.std.specs.List.{Contains}
use borrow.Author.Count.{below_more}
use Rattle.std.proofs.lemmas.Grind.{get_or_default_zero}
use Rattle.exec_graph.specs.Values.{followers_at, graph_size}
use Rattle.exec_graph.specs.declared.graphs.Graph.{Graph}
use Rattle.plan_check.specs.Walks.{IsMarked}
use Rattle.plan_witness.specs.Ways.{HasGrown, IsRound, at, far}
use Rattle.plan_witness.proofs.Visits.{found_fewer, found_here, found_passed, found_round, found_zeros, visited_round}
use Rattle.goal_witness.specs.Zones.{IsZone, next_in}
use Rattle.goal_witness.proofs.Kept.{kept_below, kept_follows, kept_from, kept_marked}
use Rattle.plan_witness.proofs.Taken.{contained_at}

-- the follower at a place
abbrev pub follower : Graph → ℕ → ℕ → ℕ
follower graph number m = slice_index_or (followers_at graph number) m 0

-- of the followers of a number, to which the way has `now` steps, those of the first k that are in the part have ways
pub record IsVisitingIn (graph : Graph) (inside : List Bool) (lengths before : List ℕ) (now number k : ℕ) : Type 0 where
  pub round : IsRound (graph_size graph) (next_in graph inside) lengths before now number
  pub here : at lengths number ≡ now
  pub passed : (m : ℕ) → m < k → IsMarked inside (follower graph number m) → at lengths (follower graph number m) ≤ now + 1

module _ (graph : Graph) (inside : List Bool) (zone : IsZone graph inside) (lengths before : List ℕ) (now number k f : ℕ) (l : number < graph_size graph) (few : now < 262145)
    (v : IsVisitingIn graph inside lengths before now number k) (lt : k < length (followers_at graph number)) (at_k : f ≡ follower graph number k) where
  abbrev n : ℕ
  n = graph_size graph

  abbrev next : ℕ → List ℕ
  next = next_in graph inside

  pub follows : Contains (followers_at graph number) f
  follows = (k, lt, get_or_default_zero (followers_at graph number) k f lt ∙ sym at_k)

  pub below : f < n
  below = zone.followers number f l follows

  stays : (i j : ℕ) → i < n → Contains (next i) j → j < n
  stays = kept_below (followers_at graph) inside n zone.followers

  pub visiting_known : (IsMarked inside f → at lengths f < far) → IsVisitingIn graph inside lengths before now number (k + 1)
  visiting_known h = record {
    round = v.round;
    here = v.here;
    passed = below_more (λ m. IsMarked inside (follower graph number m) → at lengths (follower graph number m) ≤ now + 1) k v.passed
        (subst (λ j. IsMarked inside j → at lengths j ≤ now + 1) at_k (λ m. v.round.most f below (h m)));
  }

  module _ (marked : IsMarked inside f) (h : at lengths f ≡ far) where
    c : Contains (next number) f
    c = kept_from (followers_at graph) inside number f follows marked

    pub visiting_found : IsVisitingIn graph inside (set lengths f (now + 1)) (set before f number) now number (k + 1)
    visiting_found = record {
      round = found_round n next lengths before now number f stays l few v.here v.round c h;
      here = found_here n next lengths before now number f stays l few v.here v.round c h;
      passed = below_more (λ m. IsMarked inside (follower graph number m) → at (set lengths f (now + 1)) (follower graph number m) ≤ now + 1) k
          (λ m b marks. found_passed n next lengths before now number f stays l few v.here v.round c h (follower graph number m) (inl (v.passed m b marks)))
          (λ _. found_passed n next lengths before now number f stays l few v.here v.round c h (follower graph number k) (inr (sym at_k)));
    }

    pub grown_found : HasGrown lengths (set lengths f (now + 1)) true
    grown_found = record {
      zeros = found_zeros n next lengths before now number f stays l few v.here v.round c h;
      more = λ e. found_fewer n next lengths before now number f stays l few v.here v.round c h;
      same = λ e. absurd (cc);
      fewer = let m = found_fewer n next lengths before now number f stays l few v.here v.round c h in omega (arith, m);
    }

-- where each follower in the part has a way, its number was visited
pub visited_in : (graph : Graph) (inside : List Bool) (lengths before : List ℕ) (now number k : ℕ) → IsVisitingIn graph inside lengths before now number k → length (followers_at graph number) ≤ k
    → IsRound (graph_size graph) (next_in graph inside) lengths before now (number + 1)
visited_in graph inside lengths before now number k v all =
    visited_round (graph_size graph) (next_in graph inside) lengths before now number v.round
    (λ m b.
    let j = get_or (next_in graph inside number) m 0 in
    let c : Contains (next_in graph inside number) j = (m, b, get_or_default_zero (next_in graph inside number) m j b) in
    let place = contained_at (followers_at graph number) j (kept_follows (followers_at graph) inside number j c) in
    let lt = place.1 in
    subst (λ x. at lengths x ≤ now + 1) place.2
    (v.passed place.0 (omega (arith, lt, all)) (subst (IsMarked inside) (sym place.2) (kept_marked (followers_at graph) inside number j c))))
