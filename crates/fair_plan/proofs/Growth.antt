-- The states in which each action may be taken, and those from which a target can be come to.
use Rattle.std.proofs.Common.{◌≡◌, ℕ, ◌+◌, ◌<◌, Bool, true, false, not, ◌&&◌, ◌||◌, List, [], ◌∷◌, refl, sym, ap, subst, ◌∙◌, ⊎_elim, arith, ◌↔◌, IsTrue}
use Rattle.std.proofs.Math.Bool.{or_assoc}
use Rattle.std.proofs.Math.Numerals.{add-one}
use Rattle.std.proofs.lemmas.Bool.{and_from, and_parts, cases_eq, or_cases, or_left, or_right, true≢false}
use Rattle.std.proofs.Math.Path.{fun_ext}
use Rattle.dd_sets.specs.LiveSets.{nothing}
use Rattle.dd_sets.proofs.SetLemmas.{inside_to}
use Rattle.dd_nodes.specs.NodeList.{Values}
use Rattle.dd_nodes.specs.Subfunctions.{Function}
use Rattle.dd_ops.specs.Operations.{and_of, or_of, minus_of}
use Rattle.fair_theory.specs.FairSets.{CanComeTo}
use Rattle.fair_theory.specs.FairSets.CanComeTo.{here, by}
use Rattle.list_laws.proofs.Booleans.{or_none}
use Rattle.list_laws.proofs.Elements.{list_any-witness}
use Rattle.encode_task.proofs.StateVectors.{same_functions}
use Rattle.preimage.specs.Preimages.{strong_preimage, weak_preimage}
use Rattle.preimage.specs.WorkingSets.{some_below}
use Rattle.plan_theory.specs.Layers.{may_lead, must_lead}
use Rattle.plan_theory.proofs.FewerStates.{fewer_outside}
use Rattle.plan_theory.proofs.RoundSteps.{held}
use Rattle.slot_board.specs.Board.{Scene}
use Rattle.slot_board.specs.declared.board.Operation.TheVariants.{Join, Meet, Minus}
use Rattle.slot_board.specs.declared.board.Outcomes.{Outcomes}
use Rattle.board_steps.specs.Steps.{Placed, after_step}
use Rattle.board_steps.specs.declared.steps.Step.{Step}
use Rattle.board_steps.specs.declared.steps.Step.TheVariants.{Combine, Copy, Lead}
use Rattle.board_steps.proofs.StepLemmas.{with_here, with_other}
use Rattle.task_core.specs.Systems.{IsVector}
use Rattle.task_core.specs.Tasks.{fluent_count}
use Rattle.task_core.specs.Vectors.{Vector, all_vectors, value_of}
use Rattle.task_core.specs.declared.literals.ActionId.{ActionId}
use Rattle.task_core.proofs.TaskSystem.{is_system}
use Rattle.fair_plan.specs.Boards.{AreStepsOf, IsAfter, IsThere, Origin, actions_of, set_in, states_in, sys_of}
use Rattle.fair_plan.specs.Rounds.{LooksForRest, AddsNear, Climbs, ClimbsOnce, Grows, HasNear, IsPart, Pairs, PairsOne, Passes, led_at}
use Rattle.fair_plan.proofs.Boards.{low, only, pair_in}
use Rattle.fair_plan.proofs.Leading.{may_more, must_below, weak_may}

-- the steps of one action
abbrev pub pair_steps : ActionId → ℕ → List Step
pair_steps a pairs = Lead pairs Outcomes.Every a 4 ∷ Combine 3 Join 3 pairs ∷ Combine pairs Meet pairs 6 ∷ []

abbrev pub near_steps : ActionId → ℕ → List Step
near_steps a pairs = Lead 0 Outcomes.Some a 2 ∷ Combine 0 Meet 0 pairs ∷ Combine 2 Join 2 0 ∷ []

module _ (origin : Origin) (a : ActionId) (pairs : ℕ) (is : pairs ≡ 8 + a.0) (below : a.0 < actions_of origin) where
  pub within : pairs < origin.start.places
  within = let p = pair_in origin a.0 below in omega arith

  pub near_can : AreStepsOf origin (near_steps a pairs)
  near_can = ((low origin 0 (omega arith), low origin 2 (omega arith), below), ((low origin 0 (omega arith), low origin 0 (omega arith), within), ((low origin 2 (omega arith), low origin 2 (omega arith), low origin 0 (omega arith)), tt)))

  module _ (x y : Scene) where
    p : Placed
    p = set_in x

    pub pair_made : IsAfter origin x y (pair_steps a pairs) → PairsOne origin x y a.0
    pair_made after =
        let start = origin.start in
        let p1 : Placed = after_step start (set_in x) (Lead pairs Outcomes.Every a 4) in
        let p2 : Placed = after_step start p1 (Combine 3 Join 3 pairs) in
        let high : pairs ≡ 3 → ⊥ = λ e. absurd (omega arith) in
        let first : p1 pairs ≡ led_at origin x a.0 = with_here (set_in x) pairs (led_at origin x a.0) pairs refl in
        let second : p2 pairs ≡ led_at origin x a.0 = with_other p1 3 _ pairs high ∙ first in
        let guard : p2 6 ≡ set_in x 6 = with_other (set_in x) pairs _ 6 (λ e. absurd (omega arith)) in
        record {
          others = λ k l n m.
              after k l ∙ with_other p2 pairs _ k (λ e. m (e ∙ is)) ∙ with_other p1 3 _ k n ∙ with_other (set_in x) pairs _ k (λ e. m (e ∙ is));
          pairs =
              ap (set_in y) (sym is) ∙ after pairs within ∙ with_here p2 pairs _ pairs refl
              ∙ ap (λ (f : Function). and_of f (p2 6)) second ∙ ap (and_of (led_at origin x a.0)) guard;
          stay =
              after 3 (low origin 3 (omega arith)) ∙ with_other p2 pairs _ 3 (λ e. absurd (omega arith)) ∙ with_here p1 3 _ 3 refl
              ∙ ap (λ (f : Function). or_of f (p1 pairs)) (with_other (set_in x) pairs _ 3 (λ e. absurd (omega arith))) ∙ ap (or_of (set_in x 3)) first;
        }

    pub near_made : IsAfter origin x y (near_steps a pairs) → AddsNear origin x y a.0
    near_made after =
        let start = origin.start in
        let p1 : Placed = after_step start (set_in x) (Lead 0 Outcomes.Some a 2) in
        let p2 : Placed = after_step start p1 (Combine 0 Meet 0 pairs) in
        let led : Function = weak_preimage origin.start.task a.0 (set_in x 2) in
        let there : p1 pairs ≡ set_in x (8 + a.0) = with_other (set_in x) 0 _ pairs (λ e. absurd (omega arith)) ∙ ap (set_in x) is in
        let hits : p2 0 ≡ and_of led (set_in x (8 + a.0)) = with_here p1 0 _ 0 refl ∙ ap (λ (f : Function). and_of f (p1 pairs)) (with_here (set_in x) 0 led 0 refl) ∙ ap (and_of led) there in
        let near : p2 2 ≡ set_in x 2 = refl in
        record {
          keeps = λ k l n m. after k l ∙ with_other p2 2 _ k m ∙ with_other p1 0 _ k n ∙ with_other (set_in x) 0 _ k n;
          near =
              after 2 (low origin 2 (omega arith)) ∙ with_here p2 2 _ 2 refl
              ∙ ap (λ (f : Function). or_of f (p2 0)) near ∙ ap (or_of (set_in x 2)) hits;
        }

-- whether there is anything to gain
abbrev pub rest_steps : ℕ → List Step
rest_steps pairs = Combine 0 Minus pairs 2 ∷ []

is_none : (empty : Bool) → not empty ≡ false → IsTrue empty
is_none true h = refl
is_none false h = absurd (true≢false h)

no_more : (near led pair : Bool) → (pair ≡ true → near ≡ true) → near ≡ (near || (led && pair))
no_more true led pair h = refl
no_more false true true h = h refl
no_more false true false h = refl
no_more false false pair h = refl

module _ (origin : Origin) (a : ActionId) (pairs : ℕ) (is : pairs ≡ 8 + a.0) (below : a.0 < actions_of origin) where
  pub rest_can : AreStepsOf origin (rest_steps pairs)
  rest_can = let p = pair_in origin a.0 below in ((low origin 0 (omega arith), omega arith, low origin 2 (omega arith)), tt)

  pub rest_looked : (x y : Scene) (empty : Bool) → IsThere origin y → (IsTrue empty ↔ (set_in y 0 ≡ nothing)) → IsAfter origin x y (rest_steps pairs) → LooksForRest origin x y a.0 (not empty)
  rest_looked x y empty there told after = record {
    there = there;
    keeps = λ k l n. after k l ∙ with_other (set_in x) 0 _ k n;
    none = λ no_rest values pair.
        let bare : set_in y 0 ≡ nothing = told.0 (is_none empty no_rest) in
        let here : set_in y 0 ≡ minus_of (set_in x pairs) (set_in x 2) = after 0 (low origin 0 (omega arith)) in
        inside_to (set_in x (8 + a.0) values) (set_in x 2 values)
        (ap (λ (k : ℕ). set_in x k values && not (set_in x 2 values)) (sym is) ∙ sym (ap (λ (f : Function). f values) here) ∙ ap (λ (f : Function). f values) bare) pair;
  }

-- nothing is added where there is nothing to gain, and the rest as ever
pub adds_none : (origin : Origin) (x y : Scene) (a : ℕ) (some : Bool) → LooksForRest origin x y a some → some ≡ false → AddsNear origin x y a
adds_none origin x y a some rest bare = record {
  keeps = λ k l n m. rest.keeps k l n;
  near =
      rest.keeps 2 (low origin 2 (omega arith)) (λ e. absurd (omega arith))
      ∙ fun_ext (λ values. no_more (set_in x 2 values) (weak_preimage origin.start.task a (set_in x 2) values) (set_in x (8 + a) values) (rest.none bare values));
}

pub adds_after : (origin : Origin) (x y z : Scene) (a : ℕ) (some : Bool) → a < actions_of origin → LooksForRest origin x y a some → AddsNear origin y z a → AddsNear origin x z a
adds_after origin x y z a some below rest adds =
    let near : set_in y 2 ≡ set_in x 2 = rest.keeps 2 (low origin 2 (omega arith)) (λ e. absurd (omega arith)) in
    let pair : set_in y (8 + a) ≡ set_in x (8 + a) = rest.keeps (8 + a) (pair_in origin a below) (λ e. absurd (omega arith)) in
    record {
      keeps = λ k l n m. adds.keeps k l n m ∙ rest.keeps k l n;
      near =
          adds.near
          ∙ ap (λ (f : Function). or_of f (and_of (weak_preimage origin.start.task a f) (set_in y (8 + a)))) near
          ∙ ap (λ (f : Function). or_of (set_in x 2) (and_of (weak_preimage origin.start.task a (set_in x 2)) f)) pair;
    }

pub climbs_not : (origin : Origin) (x y : Scene) (a : ℕ) (some : Bool) → LooksForRest origin x y a some → Climbs x y
climbs_not origin x y a some rest = record {
  before = rest.keeps 1 (low origin 1 (omega arith)) (λ e. absurd (omega arith));
  more = λ values h. ap (λ (f : Function). f values) (rest.keeps 2 (low origin 2 (omega arith)) (λ e. absurd (omega arith))) ∙ h;
}

pub climbs_after : (origin : Origin) (x y z : Scene) (a : ℕ) (some : Bool) → LooksForRest origin x y a some → Climbs y z → Climbs x z
climbs_after origin x y z a some rest climbs =
    let still = climbs_not origin x y a some rest in
    record {
      before = climbs.before ∙ still.before;
      more = λ values h. climbs.more values (still.more values h);
    }

-- the states of the actions so far
pub pairs_none : (origin : Origin) (x : Scene) → Pairs origin x x 0
pairs_none origin x = record {
  low = λ k l n. refl;
  high = λ k l h. refl;
  pairs = λ a l. absurd (omega arith);
  stay = λ values. or_none (set_in x 3 values);
}

pub pairs_more : (origin : Origin) (x y z : Scene) (n : ℕ) → n < actions_of origin → Pairs origin x y n → PairsOne origin y z n → Pairs origin x z (n + 1)
pairs_more origin x y z n below h one =
    let round : set_in y 4 ≡ set_in x 4 = h.low 4 (omega arith) (λ e. absurd (omega arith)) in
    let led : (b : ℕ) → led_at origin y b ≡ led_at origin x b = λ b. ap (strong_preimage origin.start.task b) round in
    let guard : set_in y 6 ≡ set_in x 6 = h.low 6 (omega arith) (λ e. absurd (omega arith)) in
    record {
      low = λ k l m. one.others k (low origin k l) m (λ e. absurd (omega arith)) ∙ h.low k l m;
      high = λ k l far. one.others k l (λ e. absurd (omega arith)) (λ e. absurd (omega arith)) ∙ h.high k l far;
      pairs = λ a l. ⊎_elim
          (λ (e : a ≡ n).
          subst (λ (b : ℕ). set_in z (8 + b) ≡ and_of (led_at origin x b) (set_in x 6)) (sym e)
          (one.pairs ∙ ap (λ (f : Function). and_of f (set_in y 6)) (led n) ∙ ap (and_of (led_at origin x n)) guard))
          (λ (d : a ≡ n → ⊥).
          one.others (8 + a) (pair_in origin a (omega arith)) (λ e. absurd (omega arith)) (λ e. d (omega arith)) ∙ h.pairs a (let e = d in omega arith))
          (cases_eq a n);
      stay = λ values.
          ap (λ (f : Function). f values) one.stay
          ∙ ap (λ (b : Bool). b || led_at origin y n values) (h.stay values)
          ∙ ap (λ (f : Function). (set_in x 3 values || some_below (led_at origin x) n values) || f values) (led n)
          ∙ or_assoc (set_in x 3 values) (some_below (led_at origin x) n values) (led_at origin x n values)
          ∙ ap (λ (m : ℕ). set_in x 3 values || some_below (led_at origin x) m values) (sym (add-one n));
    }

pub pairs_all : (origin : Origin) (x y : Scene) (n : ℕ) → n ≡ actions_of origin → Pairs origin x y n → Pairs origin x y (actions_of origin)
pairs_all origin x y n e h = subst (Pairs origin x y) e h

-- a pass
pub pass_begun : (origin : Origin) (x y : Scene) → IsAfter origin x y (Copy 1 2 ∷ []) → Passes origin x y 0
pass_begun origin x y after =
    let near : set_in y 2 ≡ set_in x 2 = after 2 (low origin 2 (omega arith)) in
    record {
      keeps = λ k l high n. after k l ∙ with_other (set_in x) 1 _ k (λ e. absurd (omega arith));
      before = after 1 (low origin 1 (omega arith)) ∙ with_here (set_in x) 1 _ 1 refl;
      more = λ values h. ap (λ (f : Function). f values) near ∙ h;
      has = λ a l. absurd (omega arith);
      near = λ left guard target pairs comes v is h. comes v is (sym (ap (λ (f : Function). f (value_of v)) near) ∙ h);
    }

pub pass_more : (origin : Origin) (x y z : Scene) (n : ℕ) → n < actions_of origin → IsThere origin y → Passes origin x y n → AddsNear origin y z n → Passes origin x z (n + 1)
pass_more origin x y z n below there h one =
    let task = origin.start.task in
    let added : (values : Values) → set_in z 2 values ≡ (set_in y 2 values || (weak_preimage task n (set_in y 2) values && set_in y (8 + n) values)) = λ values. ap (λ (f : Function). f values) one.near in
    let larger : (values : Values) → set_in y 2 values ≡ true → set_in z 2 values ≡ true = λ values e. added values ∙ or_left (set_in y 2 values) (weak_preimage task n (set_in y 2) values && set_in y (8 + n) values) e in
    let same : (b : ℕ) → b < actions_of origin → (values : Values) → set_in y (8 + b) values ≡ set_in x (8 + b) values = λ b l values. ap (λ (f : Function). f values) (h.keeps (8 + b) (pair_in origin b l) (omega arith) (λ e. absurd (omega arith))) in
    record {
      keeps = λ k l high m. one.keeps k l m (λ e. absurd (omega arith)) ∙ h.keeps k l high m;
      before = one.keeps 1 (low origin 1 (omega arith)) (λ e. absurd (omega arith)) (λ e. absurd (omega arith)) ∙ h.before;
      more = λ values e. larger values (h.more values e);
      has = λ a l v is pair may. ⊎_elim
          (λ (e : a ≡ n).
          let pair2 : set_in y (8 + n) (value_of v) ≡ true = same n below (value_of v) ∙ subst (λ (b : ℕ). states_in x (8 + b) v ≡ true) e pair in
          let may2 : may_lead (sys_of origin) (states_in y 2) v n ≡ true = may_more (sys_of origin) (states_in x 2) (states_in y 2) v n (λ t g. h.more (value_of t) g) (subst (λ (b : ℕ). may_lead (sys_of origin) (states_in x 2) v b ≡ true) e may) in
          added (value_of v) ∙ or_right (set_in y 2 (value_of v)) _ (and_from (weak_preimage task n (set_in y 2) (value_of v)) (set_in y (8 + n) (value_of v)) (weak_may task n (set_in y 2) v (only origin y there 2) ∙ may2) pair2))
          (λ (d : a ≡ n → ⊥). larger (value_of v) (h.has a (let e = d in omega arith) v is pair may))
          (cases_eq a n);
      near = λ left guard target pairs comes v is held_now.
          let before : (u : Vector) → IsVector (sys_of origin) u → states_in y 2 u ≡ true → CanComeTo (sys_of origin) left guard target u = h.near left guard target pairs comes in
          ⊎_elim
          (λ (e : set_in y 2 (value_of v) ≡ true). before v is e)
          (λ (e : (weak_preimage task n (set_in y 2) (value_of v) && set_in y (8 + n) (value_of v)) ≡ true).
          let parts = and_parts (weak_preimage task n (set_in y 2) (value_of v)) (set_in y (8 + n) (value_of v)) e in
          let may : may_lead (sys_of origin) (states_in y 2) v n ≡ true = sym (weak_may task n (set_in y 2) v (only origin y there 2)) ∙ parts.0 in
          let taken = and_parts (must_lead (sys_of origin) left v n) (guard v) (sym (pairs n below v is) ∙ sym (same n below (value_of v)) ∙ parts.1) in
          let w = list_any-witness (states_in y 2) ((sys_of origin).next v n) may in
          by v n w.0 taken.1 taken.0 w.1 (before w.0 ((is_system task).next v n w.0 w.1).vector w.2))
          (or_cases (set_in y 2 (value_of v)) (weak_preimage task n (set_in y 2) (value_of v) && set_in y (8 + n) (value_of v)) (sym (added (value_of v)) ∙ held_now));
    }

pub pass_all : (origin : Origin) (x y : Scene) (n : ℕ) → n ≡ actions_of origin → Passes origin x y n → Passes origin x y (actions_of origin)
pass_all origin x y n e h = subst (Passes origin x y) e h

-- passes, one after another
pub grown_first : (origin : Origin) (x y : Scene) → Passes origin x y (actions_of origin) → Grows origin x y
grown_first origin x y h = record {
  keeps = h.keeps;
  more = h.more;
  last = λ values e. h.more values (sym (ap (λ (f : Function). f values) h.before) ∙ e);
  has = λ a l v is pair may. h.has a l v is pair (subst (λ (f : Function). may_lead (sys_of origin) (λ u. f (value_of u)) v a ≡ true) h.before may);
  near = h.near;
}

pub grown_more : (origin : Origin) (x y z : Scene) → Grows origin x y → Passes origin y z (actions_of origin) → Grows origin x z
grown_more origin x y z g h =
    let same : (b : ℕ) → b < actions_of origin → (v : Vector) → states_in y (8 + b) v ≡ states_in x (8 + b) v = λ b l v. ap (λ (f : Function). f (value_of v)) (g.keeps (8 + b) (pair_in origin b l) (omega arith) (λ e. absurd (omega arith))) in
    record {
      keeps = λ k l high m. h.keeps k l high m ∙ g.keeps k l high m;
      more = λ values e. h.more values (g.more values e);
      last = λ values e. h.more values (sym (ap (λ (f : Function). f values) h.before) ∙ e);
      has = λ a l v is pair may. h.has a l v is (same a l v ∙ pair) (subst (λ (f : Function). may_lead (sys_of origin) (λ u. f (value_of u)) v a ≡ true) h.before may);
      near = λ left guard target pairs comes. h.near left guard target (λ a l v is. same a l v ∙ pairs a l v is) (g.near left guard target pairs comes);
    }

pub grown_all : (origin : Origin) (x y : Scene) → Grows origin x y → set_in y 1 ≡ set_in y 2 → HasNear origin x y
grown_all origin x y g same = record {
  keeps = g.keeps;
  near = λ left guard pairs. record {
    all = record {
      made = λ v is h. g.more (value_of v) h;
      closed = λ v a is inside leads may.
          let below = must_below origin.start.task left v a leads in
          g.has a below v is (pairs a below v is ∙ and_from (must_lead (sys_of origin) left v a) (guard v) leads inside)
          (subst (λ (f : Function). may_lead (sys_of origin) (λ u. f (value_of u)) v a ≡ true) (sym same) may);
    };
    each = g.near left guard (states_in x 2) pairs (λ v is h. here v h);
  };
}

-- each pass that changes anything leaves fewer states outside
pub grown_less : (origin : Origin) (y z : Scene) (n : ℕ) → n ≡ fluent_count origin.start.task → IsThere origin y → (set_in y 1 ≡ set_in y 2 → ⊥) → IsPart (set_in y 1) (set_in y 2) → set_in z 1 ≡ set_in y 2
    → held (λ v. not (states_in z 1 v)) (all_vectors n) < held (λ v. not (states_in y 1 v)) (all_vectors n)
grown_less origin y z n count there differ part before =
    fewer_outside n (states_in y 1) (states_in z 1)
    (λ v is h. ap (λ (f : Function). f (value_of v)) before ∙ part (value_of v) h)
    (λ same. differ (same_functions (fluent_count origin.start.task) (set_in y 1) (set_in y 2) (only origin y there 1) (only origin y there 2)
    (λ v is. sym (same v (is ∙ sym count)) ∙ ap (λ (f : Function). f (value_of v)) before)))

-- the same where actions are taken on the way
pub climbs_none : (origin : Origin) (x y : Scene) → IsAfter origin x y (Copy 1 2 ∷ []) → ClimbsOnce x y
climbs_none origin x y after =
    let h = pass_begun origin x y after in
    record { before = h.before; more = h.more }

pub climbs_more : (x y z : Scene) → ClimbsOnce x y → Climbs y z → ClimbsOnce x z
climbs_more x y z h one = record {
  before = one.before ∙ h.before;
  more = λ values e. one.more values (h.more values e);
}

pub climbs_last : (x y : Scene) → ClimbsOnce x y → IsPart (set_in y 1) (set_in y 2)
climbs_last x y h values e = h.more values (sym (ap (λ (f : Function). f values) h.before) ∙ e)
