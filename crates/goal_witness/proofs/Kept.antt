-- Walks within a part of a graph, and those through numbers that lack a mark.
use Rattle.std.proofs.Common.{◌≡◌, ◌↔◌, ℕ, ◌<◌, Bool, not, List, [], ◌∷◌, ◌++◌, length, refl, sym, ap, ◌∙◌, subst}
use Rattle.std.specs.List.{Contains}
use Rattle.list_laws.proofs.Booleans.{not_true}
use Rattle.list_laws.proofs.Elements.{Contains-filter, Contains-filter-witness}
use Rattle.plan_check.specs.Labels.{IsNegated, mark_at}
use Rattle.plan_check.specs.Walks.{IsMarked, IsWalk, StaysBelow, last_number}
use Rattle.plan_check.proofs.MarkFacts.{marked_below}
use Rattle.plan_check.proofs.WalkFacts.{last_below}
use Rattle.plan_witness.specs.Ways.{IsOnRound, IsShortestWay, NoneLeads}
use Rattle.goal_witness.specs.Failures.{EachOn}
use Rattle.goal_witness.specs.Walks.{IsLeastRound, IsLeastWithout, IsRoundWithout, IsWalkWithout, Lacks, NoneWithout}
use Rattle.goal_witness.specs.Zones.{HasNoRound, IsZoneLasso, kept}

-- the first node of a path on which each has something
pub each_first : {X : Type 0} (P : X → Type 0) (x : X) (rest : List X) → EachOn P x rest → P x
each_first P x [] e = e
each_first P x (y ∷ rest) e = e.0

pub each_last : (P : ℕ → Type 0) (i : ℕ) (rest : List ℕ) → EachOn P i rest → P (last_number i rest)
each_last P i [] e = e
each_last P i (j ∷ rest) e = each_last P j rest e.1

pub each_push : (P : ℕ → Type 0) (i : ℕ) (rest : List ℕ) (j : ℕ) → EachOn P i rest → P j → EachOn P i (rest ++ j ∷ [])
each_push P i [] j e p = (e, p)
each_push P i (k ∷ rest) j e p = (e.0, each_push P k rest j e.1 p)

pub each_weaker : {X : Type 0} (P Q : X → Type 0) → ((x : X) → P x → Q x) → (x : X) (rest : List X) → EachOn P x rest → EachOn Q x rest
each_weaker P Q f x [] e = f x e
each_weaker P Q f x (y ∷ rest) e = (f x e.0, each_weaker P Q f y rest e.1)

module _ (next : ℕ → List ℕ) (inside : List Bool) where
  pub kept_follows : (i j : ℕ) → Contains (kept next inside i) j → Contains (next i) j
  kept_follows i j c = (Contains-filter-witness (mark_at inside) (next i) j c).0

  pub kept_marked : (i j : ℕ) → Contains (kept next inside i) j → IsMarked inside j
  kept_marked i j c = (Contains-filter-witness (mark_at inside) (next i) j c).1

  pub kept_from : (i j : ℕ) → Contains (next i) j → IsMarked inside j → Contains (kept next inside i) j
  kept_from i j c m = Contains-filter (mark_at inside) (next i) j c m

  pub kept_below : (n : ℕ) → StaysBelow n next → StaysBelow n (kept next inside)
  kept_below n stays i j l c = stays i j l (kept_follows i j c)

  pub walk_out : (i : ℕ) (rest : List ℕ) → IsWalk (kept next inside) i rest → IsWalk next i rest
  walk_out i [] w = tt
  walk_out i (j ∷ rest) w = (kept_follows i j w.0, walk_out j rest w.1)

  -- the last number of a walk within the part has its mark
  pub last_in : (i j : ℕ) (rest : List ℕ) → IsWalk (kept next inside) i (j ∷ rest) → IsMarked inside (last_number j rest)
  last_in i j [] w = kept_marked i j w.0
  last_in i j (k ∷ rest) w = last_in j k rest w.1

-- the part of the numbers that lack a mark
module _ (n : ℕ) (next : ℕ → List ℕ) (stays : StaysBelow n next) (marks inside : List Bool) (without : IsNegated n marks inside) where
  pub lacks_from : (i : ℕ) → i < n → IsMarked inside i → Lacks marks i
  lacks_from i l m = not_true (mark_at marks i) (sym (without.each i l) ∙ m)

  pub inside_from : (i : ℕ) → i < n → Lacks marks i → IsMarked inside i
  inside_from i l m = without.each i l ∙ ap not m

  pub inside_below : (i : ℕ) → IsMarked inside i → i < n
  inside_below i m = subst (λ k. i < k) without.count (marked_below inside i m)

  pub walk_in : (i : ℕ) (rest : List ℕ) → i < n → IsWalk next i rest → EachOn (Lacks marks) i rest → IsWalk (kept next inside) i rest
  walk_in i [] l w e = tt
  walk_in i (j ∷ rest) l w e =
      let b = stays i j l w.0 in
      (kept_from next inside i j w.0 (inside_from j b (each_first (Lacks marks) j rest e.1)), walk_in j rest b w.1 e.1)

  each_out : (i : ℕ) (rest : List ℕ) → i < n → Lacks marks i → IsWalk (kept next inside) i rest → EachOn (Lacks marks) i rest
  each_out i [] l m w = m
  each_out i (j ∷ rest) l m w =
      let b = stays i j l (kept_follows next inside i j w.0) in
      (m, each_out j rest b (lacks_from j b (kept_marked next inside i j w.0)) w.1)

  pub walk_without : (i : ℕ) (rest : List ℕ) → i < n → Lacks marks i → IsWalk (kept next inside) i rest → IsWalkWithout next marks i rest
  walk_without i rest l m w = record { walk = walk_out next inside i rest w; each = each_out i rest l m w }

  -- rounds
  pub round_without : (i : ℕ) → i < n → IsOnRound (kept next inside) i → IsRoundWithout next marks i
  round_without i l r =
      let m = subst (IsMarked inside) r.round (last_in next inside i r.follower r.rest r.walk) in
      record { follower = r.follower; rest = r.rest; walk = walk_without i (r.follower ∷ r.rest) l (lacks_from i l m) r.walk; round = r.round }

  pub round_within : (i : ℕ) → i < n → IsRoundWithout next marks i → IsOnRound (kept next inside) i
  round_within i l r = record { follower = r.follower; rest = r.rest; walk = walk_in i (r.follower ∷ r.rest) l r.walk.walk r.walk.each; round = r.round }

  -- what the search for a shortest way found
  module _ (i : ℕ) (l : i < n) (lacks : Lacks marks i) where
    -- from the only number with a mark
    module _ (starts : List Bool) (only : (k : ℕ) → k < n → IsMarked starts k ↔ (k ≡ i)) (long : length starts ≡ n) (P : ℕ → Type 0) (E : ℕ → Type 0) (same : (k : ℕ) → k < n → Lacks marks k → P k ↔ E k) where
      begins : IsMarked starts i
      begins = (only i l).1 refl

      pub is_start : (start : ℕ) → IsMarked starts start → start ≡ i
      is_start start m = (only start (subst (λ k. start < k) long (marked_below starts start m))).0 m

      pub least_without : (start : ℕ) (numbers : List ℕ) → IsShortestWay (kept next inside) starts P start numbers → IsLeastWithout next marks E i numbers
      least_without start numbers w =
          let e = is_start start w.begins in
          let walk = subst (λ k. IsWalk (kept next inside) k numbers) e w.walk in
          let walked = walk_without i numbers l lacks walk in
          record {
            walk = walked;
            ends = (same (last_number i numbers) (last_below n next stays i numbers l walked.walk) (each_last (Lacks marks) i numbers walked.each)).0 (subst (λ k. P (last_number k numbers)) e w.shows);
            least = λ rest other ends. w.least i rest begins (walk_in i rest l other.walk other.each) ((same (last_number i rest) (last_below n next stays i rest l other.walk) (each_last (Lacks marks) i rest other.each)).1 ends);
          }

      pub none_without : NoneLeads (kept next inside) starts P → NoneWithout next marks E i
      none_without none rest other ends = none i rest begins (walk_in i rest l other.walk other.each) ((same (last_number i rest) (last_below n next stays i rest l other.walk) (each_last (Lacks marks) i rest other.each)).1 ends)

    -- what the search for a lasso found
    pub lasso_stem : (stem : List ℕ) (j first : ℕ) (back : List ℕ) → IsZoneLasso (kept next inside) i stem j first back → IsLeastWithout next marks (IsRoundWithout next marks) i stem
    lasso_stem stem j first back z =
        let walked = walk_without i stem l lacks z.walk in
        let b = last_below n next stays i stem l walked.walk in
        record {
          walk = walked;
          ends = round_without (last_number i stem) b (subst (IsOnRound (kept next inside)) (sym z.ends) z.on);
          least = λ rest other ends. z.nearest rest (walk_in i rest l other.walk other.each) (round_within (last_number i rest) (last_below n next stays i rest l other.walk) ends);
        }

    pub lasso_end : (stem : List ℕ) (j first : ℕ) (back : List ℕ) → IsZoneLasso (kept next inside) i stem j first back → j < n
    lasso_end stem j first back z = subst (λ k. k < n) z.ends (last_below n next stays i stem l (walk_out next inside i stem z.walk))

    pub lasso_back : (stem : List ℕ) (j first : ℕ) (back : List ℕ) → IsZoneLasso (kept next inside) i stem j first back → IsLeastRound next marks j first back
    lasso_back stem j first back z =
        let b = lasso_end stem j first back z in
        let r = z.round in
        let on : IsOnRound (kept next inside) j = record { follower = first; rest = back; walk = (r.follows, r.walk); round = r.round } in
        let w = round_without j b on in
        record {
          walk = walk_without j (first ∷ back) b (each_first (Lacks marks) j (w.follower ∷ w.rest) w.walk.each) (r.follows, r.walk);
          round = r.round;
          least = λ follower rest other round. r.least follower rest (walk_in j (follower ∷ rest) b other.walk other.each) round;
        }

    pub no_lasso : HasNoRound (kept next inside) i → NoneWithout next marks (IsRoundWithout next marks) i
    no_lasso none rest other ends =
        none rest (walk_in i rest l other.walk other.each) (round_within (last_number i rest) (last_below n next stays i rest l other.walk) ends)
