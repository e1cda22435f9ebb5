-- What the slots of a search hold after each step.
use Rattle.std.proofs.Common.{◌≡◌, ◌≢◌, ℕ, ◌+◌, ◌<◌, ◌≤◌, ◌==◌, Bool, true, false, cond, not, ◌&&◌, ◌||◌, List, [], length, refl, sym, ap, subst, ◌∙◌, ⊎_elim, arith}
use Rattle.std.specs.List.{list_any}
use Rattle.std.proofs.lemmas.Bool.{cases_eq, cond-false, cond-true, eq-eqb, ne_eqb}
use Rattle.dd_nodes.specs.Subfunctions.{Function}
use Rattle.dd_ops.specs.Operations.{and_of, minus_of, or_of}
use Rattle.dd_sets.specs.declared.slots.SetId.{SetId}
use Rattle.encode_task.specs.Slots.{Encoded}
use Rattle.preimage.proofs.Leads.{strong_agrees, weak_agrees}
use Rattle.task_core.specs.Cubes.{SetOfVectors}
use Rattle.task_core.specs.Systems.{System}
use Rattle.task_core.specs.Tasks.{action_count, system_of}
use Rattle.task_core.specs.Vectors.{Vector, value_of}
use Rattle.plan_theory.specs.Layers.{may_lead, must_lead}
use Rattle.list_laws.proofs.Booleans.{and_false, and_one}
use Rattle.slot_board.proofs.BoardSlots.{depends}
use Rattle.slot_board.specs.Board.{led, set_at}
use Rattle.slot_board.specs.Board.{Moved, Start}
use Rattle.slot_board.specs.declared.board.Outcomes.TheVariants as Outcomes
use Rattle.plan_theory.specs.Pairs.{Pairs, is_goal, restricted}
use Rattle.plan_theory.specs.PairRounds.{kept}
use Rattle.cyclic_plan.specs.Stages.{place_count, Agrees, HasHits, HasNear, HasNext, HasPairs, HasRound, IsNear, Takings, kept_system, taken_also}

-- a place that isn't written keeps its set
module _ (start : Start) (enc now : Encoded) (old new : List SetId) (place : ℕ) (g : Function) (m : Moved start enc.sets old now new place g) (places : start.places ≡ place_count (action_count start.task)) where
  pub still : (k : ℕ) (set : SetOfVectors) → k < 7 + action_count start.task + action_count start.task → k ≢ place → Agrees start (set_at enc.sets old k) set → Agrees start (set_at now.sets new k) set
  still k set l differs h v is =
      let long : length new ≡ 7 + action_count start.task + action_count start.task = m.at.long ∙ places in
      ap (λ (f : Function). f (value_of v)) (m.others k (omega arith) differs) ∙ h v is

  pub here : (set : SetOfVectors) → Agrees start g set → Agrees start (set_at now.sets new place) set
  here set h v is = ap (λ (f : Function). f (value_of v)) m.here ∙ h v is

  pub round_still : (left : SetOfVectors) (taken : Takings) → HasRound start enc old left taken → place ≢ 0 → place ≢ 1 → place < 7 + action_count start.task → HasRound start now new left taken
  round_still left taken r a b low = record {
    at = m.at;
    fit = r.fit;
    places = places;
    sound = m.sound;
    is_left = r.is_left;
    holds_goal = still 0 _ (omega arith) (λ e. a (sym e)) r.holds_goal;
    holds_left = still 1 _ (omega arith) (λ e. b (sym e)) r.holds_left;
    holds_taken = λ k l. still (7 + action_count start.task + k) (taken k) (omega arith) (λ e. absurd (omega arith)) (r.holds_taken k l);
  }

  pub near_still : (left : SetOfVectors) (taken : Takings) (near : SetOfVectors) → HasNear start enc old left taken near → place ≢ 0 → place ≢ 1 → place ≢ 3 → place < 7 → HasNear start now new left taken near
  near_still left taken near h a b c low = record {
    round = round_still left taken h.round a b (omega arith);
    holds_pairs = λ k l. still (7 + k) _ (omega arith) (λ e. absurd (omega arith)) (h.holds_pairs k l);
    holds_near = still 3 near (omega arith) (λ e. c (sym e)) h.holds_near;
  }

  pub next_still : (left : SetOfVectors) (taken : Takings) (near next : SetOfVectors) → HasNext start enc old left taken near next → place ≢ 0 → place ≢ 1 → place ≢ 3 → place ≢ 4 → place < 7 → HasNext start now new left taken near next
  next_still left taken near next h a b c d low = record {
    by_near = near_still left taken near h.by_near a b c low;
    is_near = h.is_near;
    holds_next = still 4 next (omega arith) (λ e. d (sym e)) h.holds_next;
  }

-- an outcome of a kept pair
pub may_restricted : (sys : System) (pairs : Pairs) (set : SetOfVectors) (v : Vector) (a : ℕ) → may_lead (restricted sys pairs) set v a ≡ (may_lead sys set v a && pairs v a)
may_restricted sys pairs set v a = go (pairs v a)
  where
    go : (b : Bool) → list_any set (cond b (sys.next v a) []) ≡ (may_lead sys set v a && b)
    go true = and_one (list_any set (sys.next v a))
    go false = sym (and_false (list_any set (sys.next v a)))

turned : (m l g : Bool) → (m && (l && g)) ≡ (l && (g && m))
turned true true true = refl
turned true true false = refl
turned true false g = refl
turned false true true = refl
turned false true false = refl
turned false false g = refl

-- where an action leads into states that are left alone, outside the goal
pub pairs_agree : (start : Start) (enc mid : Encoded) (old half : List SetId) (a : ℕ) (left : SetOfVectors) (taken : Takings) → a < action_count start.task → HasPairs start enc old left taken a
    → Moved start enc.sets old mid half (7 + a) (led Outcomes.Every start.task a (set_at enc.sets old 1)) → Agrees start (and_of (set_at mid.sets half (7 + a)) (set_at mid.sets half 2)) (λ v. kept (system_of start.task) left v a)
pairs_agree start enc mid old half a left taken l h first v is =
    let sys = system_of start.task in
    let outside = still start enc mid old half (7 + a) _ first h.round.places 2 _ (omega arith) (λ e. absurd (omega arith)) h.holds_outside in
    ap (λ x. x && set_at mid.sets half 2 (value_of v)) (here start enc mid old half (7 + a) _ first h.round.places (λ u. must_lead sys left u a) (strong_agrees start.task a (set_at enc.sets old 1) left (depends start enc old h.round.at h.round.sound 1) h.round.holds_left) v is)
    ∙ ap (λ x. must_lead sys left v a && x) (outside v is)
    ∙ turned (must_lead sys left v a) (left v) (not (is_goal sys v))

-- the pairs of one action more
pub pairs_more : (start : Start) (enc mid now : Encoded) (old half new : List SetId) (a : ℕ) (left : SetOfVectors) (taken : Takings) → a < action_count start.task → HasPairs start enc old left taken a
    → Moved start enc.sets old mid half (7 + a) (led Outcomes.Every start.task a (set_at enc.sets old 1))
    → Moved start mid.sets half now new (7 + a) (and_of (set_at mid.sets half (7 + a)) (set_at mid.sets half 2)) → HasPairs start now new left taken (a + 1)
pairs_more start enc mid now old half new a left taken l h first second =
    let sys = system_of start.task in
    let r = round_still start enc mid old half (7 + a) _ first h.round.places left taken h.round (λ e. absurd (omega arith)) (λ e. absurd (omega arith)) (omega arith) in
    let outside = still start enc mid old half (7 + a) _ first h.round.places 2 _ (omega arith) (λ e. absurd (omega arith)) h.holds_outside in
    record {
      round = round_still start mid now half new (7 + a) _ second h.round.places left taken r (λ e. absurd (omega arith)) (λ e. absurd (omega arith)) (omega arith);
      holds_outside = still start mid now half new (7 + a) _ second h.round.places 2 _ (omega arith) (λ e. absurd (omega arith)) outside;
      holds_pairs = λ b below within.
          ⊎_elim
          (λ (same : b ≡ a). subst (λ k. Agrees start (set_at now.sets new (7 + k)) (λ v. kept sys left v k)) (sym same)
          (here start mid now half new (7 + a) _ second h.round.places (λ v. kept sys left v a) (pairs_agree start enc mid old half a left taken l h first)))
          (λ (differs : b ≢ a).
          still start mid now half new (7 + a) _ second h.round.places (7 + b) _ (omega arith) (λ e. differs (omega arith))
          (still start enc mid old half (7 + a) _ first h.round.places (7 + b) _ (omega arith) (λ e. differs (omega arith)) (h.holds_pairs b (let d = differs in omega arith) within)))
          (cases_eq b a);
    }

-- where an action leads into the near states by its pairs
pub hits_agree : (start : Start) (enc mid : Encoded) (old half : List SetId) (a : ℕ) (left : SetOfVectors) (taken : Takings) (near next : SetOfVectors) → a < action_count start.task → HasNext start enc old left taken near next
    → Moved start enc.sets old mid half 5 (led Outcomes.Some start.task a (set_at enc.sets old 3)) → Agrees start (and_of (set_at mid.sets half 5) (set_at mid.sets half (7 + a))) (λ v. may_lead (kept_system start left) near v a)
hits_agree start enc mid old half a left taken near next l h first v is =
    let sys = system_of start.task in
    let n = next_still start enc mid old half 5 _ first h.by_near.round.places left taken near next h (λ e. absurd (omega arith)) (λ e. absurd (omega arith)) (λ e. absurd (omega arith)) (λ e. absurd (omega arith)) (omega arith) in
    ap (λ x. x && set_at mid.sets half (7 + a) (value_of v)) (here start enc mid old half 5 _ first h.by_near.round.places (λ u. may_lead sys near u a) (weak_agrees start.task a (set_at enc.sets old 3) near (depends start enc old h.by_near.round.at h.by_near.round.sound 3) h.by_near.holds_near) v is)
    ∙ ap (λ x. may_lead sys near v a && x) (n.by_near.holds_pairs a l v is)
    ∙ sym (may_restricted sys (kept sys left) near v a)

-- where an action leads into the near states
pub hits_found : (start : Start) (enc mid now : Encoded) (old half new : List SetId) (a : ℕ) (left : SetOfVectors) (taken : Takings) (near next : SetOfVectors) → a < action_count start.task → HasNext start enc old left taken near next
    → Moved start enc.sets old mid half 5 (led Outcomes.Some start.task a (set_at enc.sets old 3))
    → Moved start mid.sets half now new 5 (and_of (set_at mid.sets half 5) (set_at mid.sets half (7 + a))) → HasHits start now new left taken near next (λ v. may_lead (kept_system start left) near v a)
hits_found start enc mid now old half new a left taken near next l h first second =
    let n = next_still start enc mid old half 5 _ first h.by_near.round.places left taken near next h (λ e. absurd (omega arith)) (λ e. absurd (omega arith)) (λ e. absurd (omega arith)) (λ e. absurd (omega arith)) (omega arith) in
    record {
      by_next = next_still start mid now half new 5 _ second h.by_near.round.places left taken near next n (λ e. absurd (omega arith)) (λ e. absurd (omega arith)) (λ e. absurd (omega arith)) (λ e. absurd (omega arith)) (omega arith);
      holds_hits = here start mid now half new 5 _ second h.by_near.round.places (λ v. may_lead (kept_system start left) near v a) (hits_agree start enc mid old half a left taken near next l h first);
    }

-- the states outside the goal
pub outside_found : (start : Start) (enc now : Encoded) (old new : List SetId) (left : SetOfVectors) (taken : Takings) → HasRound start enc old left taken
    → Moved start enc.sets old now new 2 (minus_of (set_at enc.sets old 1) (set_at enc.sets old 0)) → HasPairs start now new left taken 0
outside_found start enc now old new left taken h m = record {
  round = round_still start enc now old new 2 _ m h.places left taken h (λ e. absurd (omega arith)) (λ e. absurd (omega arith)) (omega arith);
  holds_outside = here start enc now old new 2 _ m h.places _
      (λ v is.
      ap (λ x. x && not (set_at enc.sets old 0 (value_of v))) (h.holds_left v is)
      ∙ ap (λ x. left v && not x) (h.holds_goal v is));
  holds_pairs = λ a below within. absurd (omega arith);
}

pub pairs_all : (start : Start) (now : Encoded) (slots : List SetId) (left : SetOfVectors) (taken : Takings) (n : ℕ) → action_count start.task ≤ n → HasPairs start now slots left taken n → HasPairs start now slots left taken (action_count start.task)
pairs_all start now slots left taken n all h = record {
  round = h.round;
  holds_outside = h.holds_outside;
  holds_pairs = λ a below within. h.holds_pairs a (omega arith) within;
}

-- what an action takes
module _ (start : Start) (enc mid : Encoded) (old half : List SetId) (a : ℕ) (left : SetOfVectors) (taken : Takings) (near next hits : SetOfVectors) (l : a < action_count start.task) (h : HasHits start enc old left taken near next hits)
    (first : Moved start enc.sets old mid half 6 (minus_of (set_at enc.sets old 5) (set_at enc.sets old 4))) where
  first_next : HasNext start mid half left taken near next
  first_next = next_still start enc mid old half 6 _ first h.by_next.by_near.round.places left taken near next h.by_next (λ e. absurd (omega arith)) (λ e. absurd (omega arith)) (λ e. absurd (omega arith)) (λ e. absurd (omega arith)) (omega arith)

  first_new : Agrees start (set_at mid.sets half 6) (λ v. hits v && not (next v))
  first_new = here start enc mid old half 6 _ first h.by_next.by_near.round.places _
      (λ v is.
      ap (λ x. x && not (set_at enc.sets old 4 (value_of v))) (h.holds_hits v is)
      ∙ ap (λ x. hits v && not x) (h.by_next.holds_next v is))

  pub taken_agree : Agrees start (or_of (set_at mid.sets half (7 + action_count start.task + a)) (set_at mid.sets half 6)) (λ u. taken a u || (hits u && not (next u)))
  taken_agree u at = ap (λ x. x || set_at mid.sets half 6 (value_of u)) (first_next.by_near.round.holds_taken a l u at) ∙ ap (λ x. taken a u || x) (first_new u at)

  module _ (now : Encoded) (new : List SetId) (second : Moved start mid.sets half now new (7 + action_count start.task + a) (or_of (set_at mid.sets half (7 + action_count start.task + a)) (set_at mid.sets half 6))) where
    low : (k : ℕ) (set : SetOfVectors) → k < 7 + action_count start.task → Agrees start (set_at mid.sets half k) set → Agrees start (set_at now.sets new k) set
    low k set below holds = still start mid now half new (7 + action_count start.task + a) _ second h.by_next.by_near.round.places k set (omega arith) (λ e. absurd (omega arith)) holds

    taken_now : (b : ℕ) → b < action_count start.task → Agrees start (set_at now.sets new (7 + action_count start.task + b)) (taken_also taken a (λ v. hits v && not (next v)) b)
    taken_now b below =
        ⊎_elim
        (λ (same : b ≡ a).
        subst (λ k. Agrees start (set_at now.sets new (7 + action_count start.task + k)) (taken_also taken a (λ v. hits v && not (next v)) k)) (sym same)
        (λ v is.
        here start mid now half new (7 + action_count start.task + a) _ second h.by_next.by_near.round.places (λ u. taken a u || (hits u && not (next u)))
        taken_agree v is
        ∙ sym (cond-true (a == a) (taken a v || (hits v && not (next v))) (taken a v) (eq-eqb a a refl))))
        (λ (differs : b ≢ a).
        λ v is.
        still start mid now half new (7 + action_count start.task + a) _ second h.by_next.by_near.round.places (7 + action_count start.task + b) (taken b) (omega arith) (λ e. differs (omega arith)) (first_next.by_near.round.holds_taken b below) v is
        ∙ sym (cond-false (b == a) (taken b v || (hits v && not (next v))) (taken b v) (ne_eqb b a differs)))
        (cases_eq b a)

    pub takes : HasHits start now new left (taken_also taken a (λ v. hits v && not (next v))) near next hits
    takes = record {
      by_next = record {
        by_near = record {
          round = record {
            at = second.at;
            fit = h.by_next.by_near.round.fit;
            places = h.by_next.by_near.round.places;
            sound = second.sound;
            is_left = h.by_next.by_near.round.is_left;
            holds_goal = low 0 _ (omega arith) first_next.by_near.round.holds_goal;
            holds_left = low 1 _ (omega arith) first_next.by_near.round.holds_left;
            holds_taken = taken_now;
          };
          holds_pairs = λ k below. low (7 + k) _ (omega arith) (first_next.by_near.holds_pairs k below);
          holds_near = low 3 _ (omega arith) first_next.by_near.holds_near;
        };
        is_near = h.by_next.is_near;
        holds_next = low 4 _ (omega arith) first_next.holds_next;
      };
      holds_hits = low 5 _ (omega arith) (still start enc mid old half 6 _ first h.by_next.by_near.round.places 5 hits (omega arith) (λ e. absurd (omega arith)) h.holds_hits);
    }

-- the next states with those that an action leads to the near ones
pub next_joined : (start : Start) (enc now : Encoded) (old new : List SetId) (left : SetOfVectors) (taken : Takings) (near next hits : SetOfVectors) → HasHits start enc old left taken near next hits
    → Moved start enc.sets old now new 4 (or_of (set_at enc.sets old 4) (set_at enc.sets old 5)) → HasNext start now new left taken near (λ v. next v || hits v)
next_joined start enc now old new left taken near next hits h m = record {
  by_near = near_still start enc now old new 4 _ m h.by_next.by_near.round.places left taken near h.by_next.by_near (λ e. absurd (omega arith)) (λ e. absurd (omega arith)) (λ e. absurd (omega arith)) (omega arith);
  is_near = h.by_next.is_near;
  holds_next = here start enc now old new 4 _ m h.by_next.by_near.round.places _
      (λ v is.
      ap (λ x. x || set_at enc.sets old 5 (value_of v)) (h.by_next.holds_next v is)
      ∙ ap (λ x. next v || x) (h.holds_hits v is));
}

-- the near states in the place of the next ones, and the other way round
pub next_copied : (start : Start) (enc now : Encoded) (old new : List SetId) (left : SetOfVectors) (taken : Takings) (near : SetOfVectors) → HasNear start enc old left taken near → IsNear start left near
    → Moved start enc.sets old now new 4 (set_at enc.sets old 3) → HasNext start now new left taken near near
next_copied start enc now old new left taken near h is m = record {
  by_near = near_still start enc now old new 4 _ m h.round.places left taken near h (λ e. absurd (omega arith)) (λ e. absurd (omega arith)) (λ e. absurd (omega arith)) (omega arith);
  is_near = is;
  holds_next = here start enc now old new 4 _ m h.round.places near h.holds_near;
}

pub near_copied : (start : Start) (enc now : Encoded) (old new : List SetId) (left : SetOfVectors) (taken : Takings) (near close : SetOfVectors) (g : Function) → HasNear start enc old left taken near
    → Moved start enc.sets old now new 3 g → Agrees start g close → HasNear start now new left taken close
near_copied start enc now old new left taken near close g h m same = record {
  round = round_still start enc now old new 3 g m h.round.places left taken h.round (λ e. absurd (omega arith)) (λ e. absurd (omega arith)) (omega arith);
  holds_pairs = λ k l. still start enc now old new 3 g m h.round.places (7 + k) _ (omega arith) (λ e. absurd (omega arith)) (h.holds_pairs k l);
  holds_near = here start enc now old new 3 g m h.round.places close same;
}
