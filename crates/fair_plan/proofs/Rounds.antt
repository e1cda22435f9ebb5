-- The rounds of a search for a largest set.
use Rattle.std.proofs.Common.{◌≡◌, ℕ, ◌+◌, ◌<◌, ◌≤◌, Bool, true, false, ◌&&◌, ◌||◌, [], ◌∷◌, length, get_or, refl, sym, ap, subst, ◌∙◌, ⊎_elim, arith}
use Rattle.std.proofs.lemmas.Bool.{and_from, and_parts, cases_eq}
use Rattle.std.proofs.lemmas.List.Elements.{Contains-get_or, at_from_Contains}
use Rattle.list_laws.proofs.Booleans.{and_not}
use Rattle.dd_nodes.specs.NodeList.{Values}
use Rattle.dd_nodes.specs.Subfunctions.{Function}
use Rattle.dd_ops.specs.Operations.{and_of}
use Rattle.fair_theory.specs.FairSets.{Asked, CanComeTo, HasAllComing, IsFairBound, IsLargestFairSet, all_coming, all_inside, all_staying, anywhere}
use Rattle.encode_task.proofs.StateVectors.{same_functions}
use Rattle.preimage.specs.Preimages.{strong_preimage}
use Rattle.preimage.specs.WorkingSets.{some_below}
use Rattle.plan_theory.specs.Layers.{must_lead}
use Rattle.plan_theory.specs.Safe.{some_must_lead}
use Rattle.plan_theory.proofs.FewerStates.{fewer}
use Rattle.plan_theory.proofs.RoundSteps.{held}
use Rattle.slot_board.specs.Board.{Scene}
use Rattle.slot_board.specs.declared.board.Operation.TheVariants.{Meet, Minus}
use Rattle.board_steps.specs.Steps.{Placed, after_step}
use Rattle.board_steps.specs.declared.steps.Step.TheVariants.{Combine, Copy}
use Rattle.board_steps.proofs.StepLemmas.{with_here, with_other}
use Rattle.task_core.specs.Cubes.{SetOfVectors}
use Rattle.task_core.specs.Systems.{IsVector}
use Rattle.task_core.specs.Tasks.{fluent_count}
use Rattle.task_core.specs.Vectors.{Vector, all_vectors, value_of}
use Rattle.task_core.proofs.TaskSystem.{is_system}
use Rattle.fair_plan.specs.Boards.{IsAfter, IsThere, Origin, actions_of, set_in, states_in, sys_of}
use Rattle.fair_plan.specs.Places.{pairs_end}
use Rattle.fair_plan.specs.Rounds.{Begins, BeginsRound, ComesNear, ComesTo, ComesToAll, GoesOn, HasAims, HasNear, HasPairs, HasRound, HasTargets, IsPart, KeepsStaying, Pairs, kept_of, led_at}
use Rattle.fair_plan.proofs.Boards.{low, only, pair_in}
use Rattle.fair_plan.proofs.Leading.{comes_as, some_from, some_to, strong_must}

-- a target's states
pub aimed : (origin : Origin) (x m n y : Scene) (target : ℕ) → target < origin.start.places → IsAfter origin x m (Copy 2 target ∷ []) → HasNear origin m n → IsAfter origin n y (Combine 5 Meet 5 2 ∷ []) → ComesTo origin x y target
aimed origin x m n y target within first grown last =
    let other : (k : ℕ) → k < origin.start.places → 3 ≤ k → set_in n k ≡ set_in x k = λ k l high.
    grown.keeps k l high (λ e. absurd (omega arith)) ∙ first k l ∙ with_other (set_in x) 2 _ k (λ e. absurd (omega arith)) in
    record {
      keeps = λ k l high d. last k l ∙ with_other (set_in n) 5 _ k d ∙ other k l high;
      set = set_in n 2;
      left = last 5 (low origin 5 (omega arith)) ∙ with_here (set_in n) 5 _ 5 refl ∙ ap (λ (f : Function). and_of f (set_in n 2)) (other 5 (low origin 5 (omega arith)) (omega arith));
      near = λ left guard pairs.
          let still : HasPairs origin m left guard = λ a l v is.
          ap (λ (f : Function). f (value_of v)) (first (8 + a) (pair_in origin a l) ∙ with_other (set_in x) 2 _ (8 + a) (λ e. absurd (omega arith))) ∙ pairs a l v is in
          subst (λ (f : Function). ComesNear origin left guard (λ u. f (value_of u)) (states_in n 2)) (first 2 (low origin 2 (omega arith)) ∙ with_here (set_in x) 2 _ 2 refl) (grown.near left guard still);
    }

-- no target yet, and one more
pub comes_none : (origin : Origin) (asked : Asked) (first : ℕ) (x : Scene) → ComesToAll origin asked first x x 0
comes_none origin asked first x = record {
  keeps = λ k l high d. refl;
  part = λ values h. h;
  bound = λ within b. b;
  comes = λ j l. absurd (omega arith);
}

pub comes_more : (origin : Origin) (asked : Asked) (first count : ℕ) (x y z : Scene) (i : ℕ) → i < count → 8 ≤ first → first + count ≤ origin.start.places → HasTargets origin asked first count x → ComesToAll origin asked first x y i → ComesTo origin y z (first + i) → ComesToAll origin asked first x z (i + 1)
comes_more origin asked first count x y z i below high within has h one =
    let sys = sys_of origin in
    let low_i : i < length asked.targets = let e : length asked.targets ≡ count = has.long in omega arith in
    let target : SetOfVectors = get_or asked.targets i anywhere in
    let left : SetOfVectors = states_in x 4 in
    let near : SetOfVectors = λ v. one.set (value_of v) in
    let aim : (v : Vector) → IsVector sys v → states_in y (first + i) v ≡ target v = λ v is.
    ap (λ (f : Function). f (value_of v)) (h.keeps (first + i) (omega arith) (omega arith) (λ e. absurd (omega arith))) ∙ has.aims.targets i low_i v is in
    let pairs : HasPairs origin y left asked.guard = λ a l v is.
    ap (λ (f : Function). f (value_of v)) (h.keeps (8 + a) (pair_in origin a l) (omega arith) (λ e. absurd (omega arith))) ∙ has.pairs a l v is in
    let comes = one.near left asked.guard pairs in
    let all : HasAllComing sys left asked.guard target near = record {
      made = λ v is t. comes.all.made v is (aim v is ∙ t);
      closed = comes.all.closed;
    } in
    let both : (v : Vector) → states_in z 5 v ≡ (states_in y 5 v && near v) = λ v. ap (λ (f : Function). f (value_of v)) one.left in
    record {
      keeps = λ k l far d. one.keeps k l far d ∙ h.keeps k l far d;
      part = λ values e. h.part values (and_parts (set_in y 5 values) (one.set values) (sym (ap (λ (f : Function). f values) one.left) ∙ e)).0;
      bound = λ inside b. all_coming left (states_in y 5) near (states_in z 5) target (Contains-get_or asked.targets i anywhere low_i) inside (h.bound inside b) all
          (λ v is s n. both v ∙ and_from (states_in y 5 v) (near v) s n);
      comes = λ j l m v is e.
          let parts = and_parts (states_in y 5 v) (near v) (sym (both v) ∙ e) in
          ⊎_elim
          (λ (same : j ≡ i).
          subst (λ (k : ℕ). CanComeTo sys left asked.guard (get_or asked.targets k anywhere) v) (sym same)
          (comes_as sys (is_system origin.start.task) left asked.guard (states_in y (first + i)) target (λ u at t. sym (aim u at) ∙ t) v is (comes.each v is parts.1)))
          (λ (d : j ≡ i → ⊥). h.comes j (let e2 = d in omega arith) m v is parts.0)
          (cases_eq j i);
    }

pub comes_all : (origin : Origin) (asked : Asked) (first count i : ℕ) (x y : Scene) → i ≡ count → ComesToAll origin asked first x y i → ComesToAll origin asked first x y count
comes_all origin asked first count i x y e h = subst (ComesToAll origin asked first x y) e h

-- what stays
pub stays_made : (origin : Origin) (x y : Scene) (stays : Bool) → stays ≡ true → IsAfter origin x y (Combine 5 Meet 5 3 ∷ []) → KeepsStaying origin x y stays
stays_made origin x y stays on after =
    subst (KeepsStaying origin x y) (sym on) (record {
      keeps = λ k l high d. after k l ∙ with_other (set_in x) 5 _ k d;
      left = after 5 (low origin 5 (omega arith)) ∙ with_here (set_in x) 5 _ 5 refl;
    })

pub stays_not : (origin : Origin) (x : Scene) (stays : Bool) → stays ≡ false → KeepsStaying origin x x stays
stays_not origin x stays off = subst (KeepsStaying origin x x) (sym off) (record { keeps = λ k l high d. refl; left = refl })

-- a round begins
pub round_begun : (origin : Origin) (x m y : Scene) → IsAfter origin x m (Copy 4 5 ∷ Combine 3 Minus 4 4 ∷ []) → Pairs origin m y (actions_of origin) → BeginsRound origin x y
round_begun origin x m y after pairs =
    let task = origin.start.task in
    let p1 : Placed = after_step origin.start (set_in x) (Copy 4 5) in
    let last : set_in m 4 ≡ set_in x 5 = after 4 (low origin 4 (omega arith)) in
    let other : (k : ℕ) → k < origin.start.places → 5 ≤ k → set_in m k ≡ set_in x k = λ k l high.
    after k l ∙ with_other p1 3 _ k (λ e. absurd (omega arith)) ∙ with_other (set_in x) 4 _ k (λ e. absurd (omega arith)) in
    let none : (values : Values) → set_in m 3 values ≡ false = λ values.
    ap (λ (f : Function). f values) (after 3 (low origin 3 (omega arith))) ∙ and_not (set_in x 5 values) in
    record {
      kept = λ k high l. pairs.low k l (λ e. absurd (omega arith)) ∙ other k (low origin k l) high;
      high = λ k l far. pairs.high k l far ∙ other k l (omega arith);
      last = pairs.low 4 (omega arith) (λ e. absurd (omega arith)) ∙ last;
      pairs = λ a l.
          pairs.pairs a l
          ∙ ap (λ (f : Function). and_of (strong_preimage task a f) (set_in m 6)) last
          ∙ ap (and_of (strong_preimage task a (set_in x 5))) (other 6 (low origin 6 (omega arith)) (omega arith));
      stay = λ values.
          pairs.stay values
          ∙ ap (λ (b : Bool). b || some_below (led_at origin m) (actions_of origin) values) (none values)
          ∙ ap (λ (f : Function). some_below (λ a. strong_preimage task a f) (actions_of origin) values) last;
    }

-- a round
module _ (origin : Origin) (asked : Asked) (stays : Bool) (first count : ℕ) (x m n y : Scene) (high : pairs_end (actions_of origin) ≤ first) (within : first + count ≤ origin.start.places) (there : IsThere origin x)
    (same : asked.stays ≡ stays) (long : length asked.targets ≡ count) (on : GoesOn origin asked first x) (begun : BeginsRound origin x m) (kept : KeepsStaying origin m n stays) where
  abbrev left : SetOfVectors
  left = states_in x 5

  here_last : set_in n 4 ≡ set_in x 5
  here_last = kept.keeps 4 (low origin 4 (omega arith)) (omega arith) (λ e. absurd (omega arith)) ∙ begun.last

  left_now : set_in m 5 ≡ set_in x 5
  left_now = begun.kept 5 (omega arith) (omega arith)

  aims_now : HasAims origin asked first n
  aims_now = record {
    guard = λ v is. ap (λ (f : Function). f (value_of v)) (kept.keeps 6 (low origin 6 (omega arith)) (omega arith) (λ e. absurd (omega arith)) ∙ begun.kept 6 (omega arith) (omega arith)) ∙ on.aims.guard v is;
    targets = λ i l v is.
        let in_places : first + i < origin.start.places = omega arith in
        ap (λ (f : Function). f (value_of v)) (kept.keeps (first + i) in_places (omega arith) (λ e. absurd (omega arith)) ∙ begun.high (first + i) in_places (omega arith)) ∙ on.aims.targets i l v is;
  }

  pub targets_now : HasTargets origin asked first count n
  targets_now = record {
    pairs = λ a l v is.
        ap (λ (f : Function). f (value_of v)) (kept.keeps (8 + a) (pair_in origin a l) (omega arith) (λ e. absurd (omega arith)) ∙ begun.pairs a l)
        ∙ ap (λ (b : Bool). b && states_in x 6 v) (strong_must origin.start.task a (set_in x 5) v (only origin x there 5))
        ∙ ap (λ (b : Bool). must_lead (sys_of origin) left v a && b) (on.aims.guard v is)
        ∙ ap (λ (f : Function). must_lead (sys_of origin) (λ u. f (value_of u)) v a && asked.guard v) (sym here_last);
    aims = aims_now;
    long = long;
  }

  -- those that stay
  kept_bound : IsFairBound (sys_of origin) asked (states_in n 5)
  kept_bound = go stays refl
    where
      go : (b : Bool) → stays ≡ b → IsFairBound (sys_of origin) asked (states_in n 5)
      go true e =
          let now : set_in n 5 ≡ and_of (set_in m 5) (set_in m 3) = kept.left ∙ ap (λ (c : Bool). kept_of c (set_in m 5) (set_in m 3)) e in
          all_staying left left (states_in n 5) (same ∙ e) on.bound on.bound (λ v is inside some.
          ap (λ (f : Function). f (value_of v)) now
          ∙ and_from (states_in m 5 v) (states_in m 3 v) (ap (λ (f : Function). f (value_of v)) left_now ∙ inside)
          (begun.stay (value_of v) ∙ some_to origin.start.task (set_in x 5) v (only origin x there 5) some))
      go false e =
          let now : set_in n 5 ≡ set_in x 5 = kept.left ∙ ap (λ (c : Bool). kept_of c (set_in m 5) (set_in m 3)) e ∙ left_now in
          subst (λ (f : Function). IsFairBound (sys_of origin) asked (λ v. f (value_of v))) (sym now) on.bound

  kept_part : IsPart (set_in n 5) (set_in x 5)
  kept_part values h = go stays refl
    where
      go : (b : Bool) → stays ≡ b → set_in x 5 values ≡ true
      go true e =
          let now : set_in n 5 ≡ and_of (set_in m 5) (set_in m 3) = kept.left ∙ ap (λ (c : Bool). kept_of c (set_in m 5) (set_in m 3)) e in
          sym (ap (λ (f : Function). f values) left_now) ∙ (and_parts (set_in m 5 values) (set_in m 3 values) (sym (ap (λ (f : Function). f values) now) ∙ h)).0
      go false e =
          let now : set_in n 5 ≡ set_in x 5 = kept.left ∙ ap (λ (c : Bool). kept_of c (set_in m 5) (set_in m 3)) e ∙ left_now in
          sym (ap (λ (f : Function). f values) now) ∙ h

  kept_stays : asked.stays ≡ true → (v : Vector) → IsVector (sys_of origin) v → states_in n 5 v ≡ true → some_must_lead (sys_of origin) left v ≡ true
  kept_stays on_stay v is h =
      let now : set_in n 5 ≡ and_of (set_in m 5) (set_in m 3) = kept.left ∙ ap (λ (c : Bool). kept_of c (set_in m 5) (set_in m 3)) (sym same ∙ on_stay) in
      some_from origin.start.task (set_in x 5) v (only origin x there 5)
      (sym (begun.stay (value_of v)) ∙ (and_parts (states_in m 5 v) (states_in m 3 v) (sym (ap (λ (f : Function). f (value_of v)) now) ∙ h)).1)

  pub round_made : ComesToAll origin asked first n y count → (set_in y 4 ≡ set_in x 5) × HasRound origin asked first y
  round_made came =
      let last : set_in y 4 ≡ set_in x 5 = came.keeps 4 (low origin 4 (omega arith)) (omega arith) (λ e. absurd (omega arith)) ∙ here_last in
      let round : HasRound origin asked first y = record {
        on = record {
          aims = record {
            guard = λ v is. ap (λ (f : Function). f (value_of v)) (came.keeps 6 (low origin 6 (omega arith)) (omega arith) (λ e. absurd (omega arith))) ∙ aims_now.guard v is;
            targets = λ i l v is. ap (λ (f : Function). f (value_of v)) (came.keeps (first + i) (omega arith) (omega arith) (λ e. absurd (omega arith))) ∙ aims_now.targets i l v is;
          };
          inside = λ v is h. on.inside v is (kept_part (value_of v) (came.part (value_of v) h));
          bound = came.bound (subst (λ (f : Function). IsFairBound (sys_of origin) asked (λ v. f (value_of v))) (sym here_last) on.bound) kept_bound;
        };
        part = λ values h. ap (λ (f : Function). f values) last ∙ kept_part values (came.part values h);
        stays = λ stay v is h. subst (λ (f : Function). some_must_lead (sys_of origin) (λ u. f (value_of u)) v ≡ true) (sym last) (kept_stays stay v is (came.part (value_of v) h));
        comes = λ target among v is h.
            let at = at_from_Contains asked.targets target among in
            subst (λ (f : Function). CanComeTo (sys_of origin) (λ u. f (value_of u)) asked.guard target v) (here_last ∙ sym last)
            (subst (λ (t : SetOfVectors). CanComeTo (sys_of origin) (states_in n 4) asked.guard t v) (at.2 anywhere) (came.comes at.0 (let l = at.1 in omega arith) at.1 v is h));
      } in
      (last, round)

-- the first round, and the last one
pub begun_on : (origin : Origin) (asked : Asked) (stays : Bool) (first count : ℕ) (x : Scene) → Begins origin asked stays first count x → GoesOn origin asked first x
begun_on origin asked stays first count x b = record {
  aims = b.aims;
  inside = λ v is h. sym (b.inside v is) ∙ h;
  bound = all_inside (states_in x 5) (λ v is h. b.inside v is ∙ h);
}

pub is_largest : (origin : Origin) (asked : Asked) (first : ℕ) (x : Scene) → HasRound origin asked first x → set_in x 5 ≡ set_in x 4 → IsLargestFairSet (sys_of origin) asked (states_in x 5)
is_largest origin asked first x h same = record {
  fair = λ v is inside. record {
    inside = h.on.inside v is inside;
    stays = λ stay. subst (λ (f : Function). some_must_lead (sys_of origin) (λ u. f (value_of u)) v ≡ true) (sym same) (h.stays stay v is inside);
    comes = λ target among. subst (λ (f : Function). CanComeTo (sys_of origin) (λ u. f (value_of u)) asked.guard target v) (sym same) (h.comes target among v is inside);
  };
  bound = h.on.bound;
}

pub rounds_less : (origin : Origin) (y z : Scene) (n : ℕ) → n ≡ fluent_count origin.start.task → IsThere origin y → (set_in y 5 ≡ set_in y 4 → ⊥) → IsPart (set_in y 5) (set_in y 4) → set_in z 4 ≡ set_in y 5 → held (states_in z 4) (all_vectors n) < held (states_in y 4) (all_vectors n)
rounds_less origin y z n count there differ part next =
    fewer n (states_in y 4) (states_in z 4)
    (λ v is h. part (value_of v) (sym (ap (λ (f : Function). f (value_of v)) next) ∙ h))
    (λ same. differ (same_functions (fluent_count origin.start.task) (set_in y 5) (set_in y 4) (only origin y there 5) (only origin y there 4)
    (λ v is. sym (ap (λ (f : Function). f (value_of v)) next) ∙ same v (is ∙ sym count))))
