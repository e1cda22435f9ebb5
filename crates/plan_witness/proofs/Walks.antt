-- Walks, number by number, and walks that come round.
use Rattle.std.proofs.Common.{◌≡◌, ◌↔◌, ℕ, zero, suc, ◌<◌, Bool, List, [], ◌∷◌, length, take, get_or, refl, arith}
use Rattle.std.specs.List.{Contains}
use Rattle.plan_check.specs.Walks.{IsMarked, IsWalk, last_number}
use Rattle.plan_witness.specs.Ways.{IsOnRound, IsShortestRoundAt, IsShortestWay, NoneLeads}

-- the step of a walk at a place
pub walk_at : (next : ℕ → List ℕ) (i : ℕ) (xs : List ℕ) → IsWalk next i xs → (k : ℕ) → k < length xs → Contains (next (last_number i (take k xs))) (get_or xs k 0)
walk_at next i [] w k l = absurd (omega (arith, l))
walk_at next i (x ∷ xs) w zero l = w.0
walk_at next i (x ∷ xs) w (suc k) l = walk_at next x xs w.1 k (omega (arith, l))

pub last_at : (i : ℕ) (xs : List ℕ) (k : ℕ) → k < length xs → last_number i (take (suc k) xs) ≡ get_or xs k 0
last_at i [] k l = absurd (omega (arith, l))
last_at i (x ∷ xs) zero l = refl
last_at i (x ∷ xs) (suc k) l = last_at x xs k (omega (arith, l))

-- a shortest way from the followers of i to i
pub round_of : (next : ℕ → List ℕ) (i : ℕ) (starts ends : List Bool)
    → ((k : ℕ) → IsMarked starts k ↔ Contains (next i) k) → ((k : ℕ) → IsMarked ends k ↔ (k ≡ i))
    → (start : ℕ) (numbers : List ℕ) → IsShortestWay next starts (IsMarked ends) start numbers → IsShortestRoundAt next i start numbers
round_of next i starts ends s e start numbers w = record {
  follows = (s start).0 w.begins;
  walk = w.walk;
  round = (e (last_number start numbers)).0 w.shows;
  least = λ follower rest walk round. w.least follower rest ((s follower).1 walk.0) walk.1 ((e (last_number follower rest)).1 round);
}

pub no_round : (next : ℕ → List ℕ) (i : ℕ) (starts ends : List Bool)
    → ((k : ℕ) → IsMarked starts k ↔ Contains (next i) k) → ((k : ℕ) → IsMarked ends k ↔ (k ≡ i))
    → NoneLeads next starts (IsMarked ends) → IsOnRound next i → ⊥
no_round next i starts ends s e none r = none r.follower r.rest ((s r.follower).1 r.walk.0) r.walk.1 ((e (last_number r.follower r.rest)).1 r.round)

pub round_back : (next : ℕ → List ℕ) (i start : ℕ) (numbers : List ℕ) → IsShortestRoundAt next i start numbers → IsOnRound next i
round_back next i start numbers r = record { follower = start; rest = numbers; walk = (r.follows, r.walk); round = r.round }
