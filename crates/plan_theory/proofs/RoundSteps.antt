-- The rounds: which pairs are kept, that rounds shrink, and that they stand still.
use Rattle.std.proofs.Common.{Contains, ◌≡◌, ℕ, zero, suc, ◌+◌, ◌<◌, ◌≤◌, ◌^◌, Bool, true, false, ◌&&◌, cond, List, [], ◌∷◌, length, map, refl, sym, ◌∙◌, ap, arith}
use Rattle.std.specs.Prelude.{not, ⊤}
use Rattle.std.specs.List.{list_all}
use Rattle.std.proofs.lemmas.Bool.{and_from, and_parts, false≢true}
use Rattle.task_core.specs.Cubes.{SetOfVectors}
use Rattle.task_core.specs.Vectors.{Vector, all_vectors, same_vector}
use Rattle.task_core.specs.Systems.{System, Exec, HasOutcome, IsVector, IsSystem}
use Rattle.task_core.proofs.Vectors.{length-all_vectors}
use Rattle.plan_theory.specs.Layers.{may_lead, must_lead}
use Rattle.plan_theory.proofs.Cubes.{all_vectors-agree}
use Rattle.plan_theory.proofs.Weak.{HasOutcome-Exec, same_vector-itself, same_vector-true}
use Rattle.list_laws.proofs.Elements.{Contains-cons, Contains-head, list_all-at, list_all-from, list_any-from, list_any-witness}
use Rattle.plan_theory.specs.Pairs.{is_goal}
use Rattle.plan_theory.specs.PairRounds.{IsLastRound, connected, kept, round}
use Rattle.plan_theory.proofs.Restricted.{more_pairs}
use Rattle.plan_theory.proofs.Steps.{along}
use Rattle.list_laws.proofs.Booleans.{same_truth, not_true}

-- what it says of a pair that it is kept, and what keeps it
pub record IsKept (sys : System) (set : SetOfVectors) (v : Vector) (a : ℕ) : Type 0 where
  pub inside : set v ≡ true
  pub outside : is_goal sys v ≡ false
  pub executable : Exec sys v a
  pub stays : (t : Vector) → HasOutcome sys v a t → set t ≡ true

pub kept_parts : (sys : System) (set : SetOfVectors) (v : Vector) (a : ℕ) → kept sys set v a ≡ true → IsKept sys set v a
kept_parts sys set v a h =
    let first = and_parts (set v) (not (is_goal sys v) && must_lead sys set v a) h in
    let rest = and_parts (not (is_goal sys v)) (must_lead sys set v a) first.1 in
    let leads = and_parts (may_lead sys set v a) (list_all set (sys.next v a)) rest.1 in
    let t = list_any-witness set (sys.next v a) leads.0 in
    record {
      inside = first.0;
      outside = not_true (is_goal sys v) rest.0;
      executable = HasOutcome-Exec sys v a t.0 t.1;
      stays = λ u o. list_all-at set (sys.next v a) u leads.1 o;
    }

pub kept_from : (sys : System) (set : SetOfVectors) (v : Vector) (a : ℕ) (t : Vector) → set v ≡ true → is_goal sys v ≡ false → HasOutcome sys v a t → ((u : Vector) → HasOutcome sys v a u → set u ≡ true) → kept sys set v a ≡ true
kept_from sys set v a t inside outside o stays =
    and_from (set v) (not (is_goal sys v) && must_lead sys set v a) inside
    (and_from (not (is_goal sys v)) (must_lead sys set v a) (ap not outside)
    (and_from (may_lead sys set v a) (list_all set (sys.next v a)) (list_any-from set (sys.next v a) t o (stays t o)) (list_all-from set (sys.next v a) stays)))

some_outcome : (sys : System) (v : Vector) (a : ℕ) (set : SetOfVectors) → must_lead sys set v a ≡ true → (t : Vector) × HasOutcome sys v a t
some_outcome sys v a set h =
    let leads = and_parts (may_lead sys set v a) (list_all set (sys.next v a)) h in
    let t = list_any-witness set (sys.next v a) leads.0 in
    (t.0, t.1)

-- a set that holds another, on states that no outcome leaves, keeps its pairs there
module _ (sys : System) (D : Vector → Type 0) (closed : (v : Vector) (a : ℕ) (t : Vector) → D v → HasOutcome sys v a t → D t) (f g : SetOfVectors) (below : (v : Vector) → D v → f v ≡ true → g v ≡ true) where
  pub kept_more : (v : Vector) (a : ℕ) → D v → kept sys f v a ≡ true → kept sys g v a ≡ true
  kept_more v a d h =
      let k = kept_parts sys f v a h in
      let first = and_parts (f v) (not (is_goal sys v) && must_lead sys f v a) h in
      let t = some_outcome sys v a f (and_parts (not (is_goal sys v)) (must_lead sys f v a) first.1).1 in
      kept_from sys g v a t.0 (below v d k.inside) k.outside t.1 (λ u o. below u (closed v a u d o) (k.stays u o))

  pub connected_more : (v : Vector) → D v → connected sys (kept sys f) v ≡ true → connected sys (kept sys g) v ≡ true
  connected_more v d h = more_pairs sys D (kept sys f) (kept sys g) kept_more closed (2 ^ sys.fluents) v d h

-- each round leaves no other states than the one before, and so than any before
pub round_shrinks : (sys : System) (r : ℕ) (v : Vector) → round sys (suc r) v ≡ true → round sys r v ≡ true
round_shrinks sys zero v h = refl
round_shrinks sys (suc r) v h =
    connected_more sys (λ _. ⊤) (λ s a t d o. tt) (round sys (suc r)) (round sys r) (λ s d k. round_shrinks sys r s k) v tt h

pub rounds_shrink_to : (sys : System) (v : Vector) (r m : ℕ) → r ≤ m → round sys m v ≡ true → round sys r v ≡ true
rounds_shrink_to sys v r m l = along (λ n. round sys n v ≡ true → round sys r v ≡ true) r (λ h. h) (λ n from before h. before (round_shrinks sys n v h)) m l

-- where two sets hold the same states, the rounds after them do

pub connected_agree : (sys : System) → IsSystem sys → (f g : SetOfVectors) → ((v : Vector) → IsVector sys v → f v ≡ g v) → (v : Vector) → IsVector sys v → connected sys (kept sys f) v ≡ connected sys (kept sys g) v
connected_agree sys ok f g same v is =
    same_truth (connected sys (kept sys f) v) (connected sys (kept sys g) v)
    (λ h. connected_more sys (IsVector sys) (λ s a t d o. (ok.next s a t o).vector) f g (λ s d k. sym (same s d) ∙ k) v is h)
    (λ h. connected_more sys (IsVector sys) (λ s a t d o. (ok.next s a t o).vector) g f (λ s d k. same s d ∙ k) v is h)

pub later_rounds : (sys : System) (r : ℕ) → IsSystem sys → IsLastRound sys r → (m : ℕ) → r ≤ m → (v : Vector) → IsVector sys v → round sys m v ≡ round sys r v
later_rounds sys r ok still =
    along (λ m. (v : Vector) → IsVector sys v → round sys m v ≡ round sys r v) r (λ v is. refl)
    (λ m from same v is. connected_agree sys ok (round sys m) (round sys r) same v is ∙ still v is)

-- how many of some states a set holds
pub held : SetOfVectors → List Vector → ℕ
held f [] = 0
held f (x ∷ xs) = cond (f x) (suc (held f xs)) (held f xs)

held_few : (f : SetOfVectors) (xs : List Vector) → held f xs ≤ length xs
unfolding held
held_few f [] = omega arith
held_few f (x ∷ xs) = go (f x) (held_few f xs)
  where
    go : (b : Bool) → held f xs ≤ length xs → cond b (suc (held f xs)) (held f xs) ≤ suc (length xs)
    go true le = omega arith
    go false le = omega arith

module _ (f g : SetOfVectors) where
  holds_no_more : (xs : List Vector) → ((v : Vector) → Contains xs v → g v ≡ true → f v ≡ true) → held g xs ≤ held f xs
  unfolding held
  holds_no_more [] shrinks = omega arith
  holds_no_more (x ∷ xs) shrinks = go (f x) (g x) (shrinks x (Contains-head x xs)) (holds_no_more xs (λ v c. shrinks v (Contains-cons x xs v c)))
    where
      go : (b c : Bool) → (c ≡ true → b ≡ true) → held g xs ≤ held f xs → cond c (suc (held g xs)) (held g xs) ≤ cond b (suc (held f xs)) (held f xs)
      go true true down le = omega arith
      go true false down le = omega arith
      go false true down le = absurd (false≢true (down refl))
      go false false down le = le

  pub holds_fewer : (xs : List Vector) → ((v : Vector) → Contains xs v → g v ≡ true → f v ≡ true) → (map g xs ≡ map f xs → ⊥) → held g xs < held f xs
  unfolding held
  holds_fewer [] shrinks differ = absurd (differ refl)
  holds_fewer (x ∷ xs) shrinks differ =
      go (f x) (g x) refl refl (holds_no_more xs (λ v c. shrinks v (Contains-cons x xs v c))) (holds_fewer xs (λ v c. shrinks v (Contains-cons x xs v c)))
    where
      go : (b c : Bool) → f x ≡ b → g x ≡ c → held g xs ≤ held f xs → ((map g xs ≡ map f xs → ⊥) → held g xs < held f xs) → cond c (suc (held g xs)) (held g xs) < cond b (suc (held f xs)) (held f xs)
      go true true e h le less = let lt = less (λ same. differ (ap (λ y. y ∷ map g xs) (h ∙ sym e) ∙ ap (λ ys. f x ∷ ys) same)) in omega arith
      go true false e h le less = omega arith
      go false true e h le less = absurd (false≢true (sym e ∙ shrinks x (Contains-head x xs) h))
      go false false e h le less = less (λ same. differ (ap (λ y. y ∷ map g xs) (h ∙ sym e) ∙ ap (λ ys. f x ∷ ys) same))

-- some round up to the number of states is as the next one
module _ (sys : System) where
  left : ℕ → List Bool
  left r = map (round sys r) (all_vectors sys.fluents)

  same_at : (r : ℕ) → same_vector (left (suc r)) (left r) ≡ true → IsLastRound sys r
  unfolding left
  same_at r e v is =
      all_vectors-agree (round sys (suc r)) (round sys r) sys.fluents (same_vector-true (left (suc r)) (left r) e) v is

  fewer_at : (r : ℕ) → same_vector (left (suc r)) (left r) ≡ false → held (round sys (suc r)) (all_vectors sys.fluents) < held (round sys r) (all_vectors sys.fluents)
  unfolding left
  fewer_at r e =
      holds_fewer (round sys r) (round sys (suc r)) (all_vectors sys.fluents) (λ v c h. round_shrinks sys r v h)
      (λ same. false≢true (sym e ∙ (ap (λ ys. same_vector (left (suc r)) ys) (sym same) ∙ same_vector-itself (left (suc r)))))

  stands : (fuel r : ℕ) → held (round sys r) (all_vectors sys.fluents) ≤ fuel → (j : ℕ) × (j ≤ r + fuel) × IsLastRound sys j
  stands zero r few = go (same_vector (left (suc r)) (left r)) refl
    where
      go : (b : Bool) → same_vector (left (suc r)) (left r) ≡ b → (j : ℕ) × (j ≤ r + 0) × IsLastRound sys j
      go true e = (r, omega arith, same_at r e)
      go false e = let less = fewer_at r e in absurd (omega arith)
  stands (suc fuel) r few = go (same_vector (left (suc r)) (left r)) refl (λ le. stands fuel (suc r) le)
    where
      go : (b : Bool) → same_vector (left (suc r)) (left r) ≡ b → (held (round sys (suc r)) (all_vectors sys.fluents) ≤ fuel → (j : ℕ) × (j ≤ suc r + fuel) × IsLastRound sys j) → (j : ℕ) × (j ≤ r + suc fuel) × IsLastRound sys j
      go true e rest = (r, omega arith, same_at r e)
      go false e rest = let less = fewer_at r e in let w = rest (omega arith) in (w.0, (let l = w.1 in omega arith), w.2)

  pub rounds_end : (j : ℕ) × (j ≤ 2 ^ sys.fluents) × IsLastRound sys j
  rounds_end =
      let few = held_few (round sys 0) (all_vectors sys.fluents) in
      let all = length-all_vectors sys.fluents in
      let w = stands (2 ^ sys.fluents) 0 (omega arith) in
      (w.0, (let l = w.1 in omega arith), w.2)
