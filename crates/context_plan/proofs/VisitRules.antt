-- The rules of a plan for a patrol goal: of one action, one next context and one context more.
use Rattle.std.proofs.Common.{◌≡◌, ◌≢◌, ℕ, suc, ◌+◌, ◌-◌, ◌*◌, ◌<◌, ◌≤◌, ◌==◌, Bool, true, false, not, ◌&&◌, List, [], ◌∷◌, ◌++◌, get_or, length, map, refl, sym, ap, subst, ◌∙◌, inl, inr, arith}
use Rattle.std.specs.List.{flat_map, range_with_len}
use Rattle.std.proofs.lemmas.Bool.{cond-false, cond-true, eq-eqb, ne_eqb}
use Rattle.std.proofs.lemmas.List.{append-nil, append_assoc, length-map}
use Rattle.list_laws.proofs.Booleans.{and_one}
use Rattle.dd_nodes.specs.Subfunctions.{Function}
use Rattle.dd_ops.specs.Operations.{and_of, minus_of}
use Rattle.encode_task.proofs.StateVectors.{cubes_agree}
use Rattle.slot_board.specs.Board as board
use Rattle.slot_board.specs.Board.{Scene, set_at}
use Rattle.plan_theory.proofs.PatrolSets.{made_where_held}
use Rattle.plan_theory.specs.ContextRules.{action_rules, rule_for, rules_for, rules_in_context}
use Rattle.plan_theory.specs.LayerPlans.{is_action}
use Rattle.plan_theory.specs.Patrols.{patrol_set}
use Rattle.plan_theory.specs.PatrolPrinted.{context_after, patrol_action, patrol_next, patrol_nexts, patrol_rules, patrol_states, visit_in}
use Rattle.plan_rules.specs.Rules.{ContextRule}
use Rattle.task_core.specs.Cubes.{SetOfVectors}
use Rattle.task_core.specs.Tasks.{action_count, fluent_count}
use Rattle.task_core.specs.Vectors.{Vector}
use Rattle.task_core.specs.declared.conditions.Cond.{Cond}
use Rattle.task_core.proofs.TaskSystem.{is_system}
use Rattle.ctl_syntax.specs.Conditions.{states_of}
use Rattle.context_plan.specs.Chains.{visit_sets}
use Rattle.context_plan.specs.PatrolSteps.{GoesOn, HasPatrolTable, ListsPatrol, PutsPart, is_in, visit_place, visit_takers}
use Rattle.context_plan.specs.PatrolWorkingSets.{visit_at}
use Rattle.context_plan.specs.Scenes.{Moved, SameStates, Start, board_of, guarded, states_at, sys_of, takers_place}
use Rattle.context_plan.specs.declared.patrol_rules.Part.{Part}
use Rattle.context_plan.specs.declared.patrol_rules.Part.TheVariants.{Made, Others, Whole}
use Rattle.context_plan.proofs.RuleSteps.{flat_more}
use Rattle.context_plan.proofs.SceneSteps.{copied_states, met_states, moved_in, moved_other, rest_states, same_length}
use Rattle.context_plan.proofs.SizeSteps.{fits_meet, fits_minus, may_two, placed_small}
use Rattle.context_plan.proofs.TakenSteps.{takers_within}
use Rattle.context_plan.proofs.VisitSteps.{and_last, visit_low}

-- what stands beside the hits stays
pub table_still : (start : Start) (conds : List Cond) (x y : Scene) (g : Function) → HasPatrolTable start conds x → Moved start x y 2 g → HasPatrolTable start conds y
table_still start conds x y g h m =
    let p = h.patrol in
    let long : length y.1 ≡ length x.1 = same_length start x y p.ready.at m.at in
    let low : (k : ℕ) → 8 ≤ k → k < 11 + start.stages → states_at y k ≡ states_at x k = λ k high before. moved_other start x y 2 g m k (visit_low start y m.at p.some k before) (λ e. absurd (omega arith)) in
    let late : (i a : ℕ) → i < start.stages → a < action_count start.task → states_at y (takers_place (action_count start.task) start.stages i + a) ≡ states_at x (takers_place (action_count start.task) start.stages i + a) =
    λ i a less below. let within = takers_within start y m.at i (omega arith) in moved_other start x y 2 g m (takers_place (action_count start.task) start.stages i + a) (omega arith) (λ e. absurd (far (i * action_count start.task) a e)) in
    record {
      patrol = record {
        fits = p.fits;
        count = p.count;
        some = p.some;
        ready = moved_in (guarded start (patrol_set (sys_of start) (visit_sets conds))) x y 2 g p.ready (λ e. absurd (omega arith)) m;
        left = λ v is. ap (λ (f : SetOfVectors). f v) (low 8 (omega arith) (omega arith)) ∙ p.left v is;
        mets = λ i less v is. ap (λ (f : SetOfVectors). f v) (low (visit_place i) (omega arith) (omega arith)) ∙ p.mets i less v is;
        taken = λ i a early less below v is. ap (λ (f : SetOfVectors). f v) (late i a less below) ∙ p.taken i a early less below v is;
        untaken = λ i a from less below v is. ap (λ (f : SetOfVectors). f v) (late i a less below) ∙ p.untaken i a from less below v is;
      };
      covered = h.covered;
    }
  where
    far : (n a : ℕ) → 10 + 2 * start.stages + n + a ≡ 2 → ⊥
    far n a e = omega arith

-- a part of the states that take an action
module _ (start : Start) (conds : List Cond) (x : Scene) (i a : ℕ) (less : i < start.stages) (below : a < action_count start.task) (h : HasPatrolTable start conds x) where
  abbrev t : ℕ
  t = takers_place (action_count start.task) start.stages i

  abbrev visits : List SetOfVectors
  visits = visit_sets conds

  pub taker_within : t + a < length x.1
  taker_within = let within = takers_within start x h.patrol.ready.at i (omega arith) in omega arith

  taker_small : board.IsSmall (board_of start) (set_at x.0.sets x.1 (t + a))
  taker_small = placed_small start x h.patrol.ready.at (t + a) taker_within (inr (high (i * action_count start.task)))
    where
      high : (n : ℕ) → 4 < 10 + 2 * start.stages + n + a
      high n = omega arith

  pub place_within : visit_place i < length x.1
  place_within = visit_low start x h.patrol.ready.at h.patrol.some (visit_place i) (omega arith)

  place_small : board.IsSmall (board_of start) (set_at x.0.sets x.1 (visit_place i))
  place_small = placed_small start x h.patrol.ready.at (visit_place i) place_within (inr (omega arith))

  pub whole_fits : board.Fits (board_of start) 2 (set_at x.0.sets x.1 (t + a))
  whole_fits = inl taker_small

  pub made_part_fits : board.Fits (board_of start) 2 (and_of (set_at x.0.sets x.1 (t + a)) (set_at x.0.sets x.1 (visit_place i)))
  made_part_fits = fits_meet start 2 (set_at x.0.sets x.1 (t + a)) (set_at x.0.sets x.1 (visit_place i)) may_two taker_small place_small

  pub others_fits : board.Fits (board_of start) 2 (minus_of (set_at x.0.sets x.1 (t + a)) (set_at x.0.sets x.1 (visit_place i)))
  others_fits = fits_minus start 2 (set_at x.0.sets x.1 (t + a)) (set_at x.0.sets x.1 (visit_place i)) may_two taker_small place_small

  takers_are : SameStates start (states_at x (t + a)) (visit_takers start conds i a)
  takers_are = h.patrol.taken i a less less below

  -- the visit is made where its condition holds
  made_is : SameStates start (states_at x (visit_place i)) (λ v. patrol_set (sys_of start) visits v && visit_in visits (suc i) v)
  made_is v is =
      h.patrol.mets i less v is
      ∙ made_where_held (sys_of start) (is_system start.task) visits (let e = length-map conds states_of in let c = h.patrol.count in let s = h.patrol.some in omega arith) (visit_at visits i) v is
      ∙ ap (λ k. patrol_set (sys_of start) visits v && get_or visits k (λ u. false) v) (let e : i ≡ suc i - 1 = omega arith in e)

  both : (p q r : Bool) → ((p && q) && (p && r)) ≡ ((p && q) && r)
  both true q r = refl
  both false q r = refl

  rest : (p q r : Bool) → ((p && q) && not (p && r)) ≡ ((p && q) && not r)
  rest true q r = refl
  rest false q r = refl

  pub puts_whole : (y : Scene) → Moved start x y 2 (set_at x.0.sets x.1 (t + a)) → PutsPart Whole start conds y i a
  puts_whole y m = record {
    table = table_still start conds x y _ h m;
    states = λ v is. ap (λ (f : SetOfVectors). f v) (copied_states start x y 2 (t + a) m) ∙ takers_are v is ∙ and_one (visit_takers start conds i a v);
  }

  pub puts_made : (y : Scene) → Moved start x y 2 (and_of (set_at x.0.sets x.1 (t + a)) (set_at x.0.sets x.1 (visit_place i))) → PutsPart Made start conds y i a
  puts_made y m = record {
    table = table_still start conds x y _ h m;
    states = λ v is.
        ap (λ (f : SetOfVectors). f v) (met_states start x y 2 (t + a) (visit_place i) m)
        ∙ ap (λ b. b && states_at x (visit_place i) v) (takers_are v is)
        ∙ ap (λ b. visit_takers start conds i a v && b) (made_is v is)
        ∙ both (patrol_set (sys_of start) visits v) (is_action a (patrol_action (sys_of start) visits (suc i) v)) (visit_in visits (suc i) v);
  }

  pub puts_others : (y : Scene) → Moved start x y 2 (minus_of (set_at x.0.sets x.1 (t + a)) (set_at x.0.sets x.1 (visit_place i))) → PutsPart Others start conds y i a
  puts_others y m = record {
    table = table_still start conds x y _ h m;
    states = λ v is.
        ap (λ (f : SetOfVectors). f v) (rest_states start x y 2 (t + a) (visit_place i) m)
        ∙ ap (λ b. b && not (states_at x (visit_place i) v)) (takers_are v is)
        ∙ ap (λ b. visit_takers start conds i a v && not b) (made_is v is)
        ∙ rest (patrol_set (sys_of start) visits v) (is_action a (patrol_action (sys_of start) visits (suc i) v)) (visit_in visits (suc i) v);
  }

-- the rules of one action
pub taken_listed : (start : Start) (conds : List Cond) (y : Scene) (part : Part) (before after : List ContextRule) (i a context next : ℕ) → context ≡ suc i → GoesOn (visit_sets conds) part (suc i) next → PutsPart part start conds y i a
    → after ≡ before ++ rules_for (fluent_count start.task) context next a (states_at y 2) → ListsPatrol start conds y before after (action_rules (sys_of start) (patrol_states (sys_of start) (visit_sets conds)) (suc i) next a)
taken_listed start conds y part before after i a context next is_context goes h more =
    let sys = sys_of start in
    let visits = visit_sets conds in
    record {
      table = h.table;
      listed =
          more
          ∙ ap (λ c. before ++ rules_for (fluent_count start.task) c next a (states_at y 2)) is_context
          ∙ ap (λ cubes. before ++ map (rule_for (suc i) next a) cubes)
          (cubes_agree (fluent_count start.task) 0 (states_at y 2) (patrol_states sys visits (suc i) next a)
          (λ v is.
          h.states v is
          ∙ and_last (patrol_set sys visits v) (is_action a (patrol_action sys visits (suc i) v)) (is_in part (visit_in visits (suc i) v))
          ∙ ap (λ b. patrol_set sys visits v && (b && is_action a (patrol_action sys visits (suc i) v))) (sym (goes v))));
    }

-- one more rule list, and another
pub lists_none : (start : Start) (conds : List Cond) (x : Scene) (rules : List ContextRule) (f : ℕ → List ContextRule) (k : ℕ) → HasPatrolTable start conds x → ListsPatrol start conds x rules rules (flat_map f (range_with_len k 0))
lists_none start conds x rules f k h = record { table = h; listed = sym (append-nil rules) }

pub lists_more : (start : Start) (conds : List Cond) (x y : Scene) (before mid after : List ContextRule) (f : ℕ → List ContextRule) (k n m : ℕ) → m ≡ k + n → ListsPatrol start conds x before mid (flat_map f (range_with_len k n)) → ListsPatrol start conds y mid after (f m)
    → ListsPatrol start conds y before after (flat_map f (range_with_len k (n + 1)))
lists_more start conds x y before mid after f k n m is h more = record {
  table = more.table;
  listed =
      more.listed
      ∙ ap (λ rules. rules ++ f m) h.listed
      ∙ append_assoc before (flat_map f (range_with_len k n)) (f m)
      ∙ ap (λ j. before ++ (flat_map f (range_with_len k n) ++ f j)) is
      ∙ ap (λ rules. before ++ rules) (flat_more f k n);
}

pub lists_all : (start : Start) (conds : List Cond) (x : Scene) (before after : List ContextRule) (f : ℕ → List ContextRule) (k n m : ℕ) → n ≡ m → ListsPatrol start conds x before after (flat_map f (range_with_len k n)) → ListsPatrol start conds x before after (flat_map f (range_with_len k m))
lists_all start conds x before after f k n m e h = subst (λ j. ListsPatrol start conds x before after (flat_map f (range_with_len k j))) e h

-- the rules of a context with one next context, and with two
pub one_listed : (start : Start) (conds : List Cond) (x : Scene) (before after : List ContextRule) (f : ℕ → List ContextRule) (nexts : List ℕ) (j : ℕ) → nexts ≡ j ∷ [] → ListsPatrol start conds x before after (f j) → ListsPatrol start conds x before after (flat_map f nexts)
one_listed start conds x before after f nexts j e h =
    subst (λ ns. ListsPatrol start conds x before after (flat_map f ns)) (sym e)
    (record { table = h.table; listed = h.listed ∙ ap (λ rules. before ++ rules) (sym (append-nil (f j))) })

pub two_listed : (start : Start) (conds : List Cond) (x y : Scene) (before mid after : List ContextRule) (f : ℕ → List ContextRule) (nexts : List ℕ) (j k : ℕ) → nexts ≡ j ∷ k ∷ [] → ListsPatrol start conds x before mid (f j) → ListsPatrol start conds y mid after (f k)
    → ListsPatrol start conds y before after (flat_map f nexts)
two_listed start conds x y before mid after f nexts j k e h more =
    subst (λ ns. ListsPatrol start conds y before after (flat_map f ns)) (sym e)
    (record {
      table = more.table;
      listed =
          more.listed
          ∙ ap (λ rules. rules ++ f k) h.listed
          ∙ append_assoc before (f j) (f k)
          ∙ ap (λ rules. before ++ (f j ++ rules)) (sym (append-nil (f k)));
    })

-- where a state goes on: in the context after this one where the visit is made
module _ (visits : List SetOfVectors) (c : ℕ) where
  next_made : (v : Vector) → visit_in visits c v ≡ true → patrol_next visits c v ≡ context_after (length visits) c
  next_made v h = cond-true (visit_in visits c v) _ _ h

  next_other : (v : Vector) → visit_in visits c v ≡ false → patrol_next visits c v ≡ c
  next_other v h = cond-false (visit_in visits c v) _ _ h

  pub made_goes : (j : ℕ) → context_after (length visits) c ≡ j → c ≢ j → GoesOn visits Made c j
  made_goes j after differs v = go (visit_in visits c v) refl
    where
      go : (b : Bool) → visit_in visits c v ≡ b → (patrol_next visits c v == j) ≡ visit_in visits c v
      go true h = eq-eqb (patrol_next visits c v) j (next_made v h ∙ after) ∙ sym h
      go false h = ap (λ k. k == j) (next_other v h) ∙ ne_eqb c j differs ∙ sym h

  pub others_go : context_after (length visits) c ≢ c → GoesOn visits Others c c
  others_go differs v = go (visit_in visits c v) refl
    where
      go : (b : Bool) → visit_in visits c v ≡ b → (patrol_next visits c v == c) ≡ not (visit_in visits c v)
      go true h = ap (λ k. k == c) (next_made v h) ∙ ne_eqb (context_after (length visits) c) c differs ∙ sym (ap not h)
      go false h = eq-eqb (patrol_next visits c v) c (next_other v h) ∙ sym (ap not h)

  pub whole_goes : context_after (length visits) c ≡ 1 → c ≡ 1 → GoesOn visits Whole c 1
  whole_goes after first v = go (visit_in visits c v) refl
    where
      go : (b : Bool) → visit_in visits c v ≡ b → (patrol_next visits c v == 1) ≡ true
      go true h = eq-eqb (patrol_next visits c v) 1 (next_made v h ∙ after)
      go false h = eq-eqb (patrol_next visits c v) 1 (next_other v h ∙ first)

-- the context after one, and the next contexts
pub after_inner : (m c : ℕ) → c ≢ m → context_after m c ≡ suc c
after_inner m c differs = cond-false (c == m) 1 (suc c) (ne_eqb c m differs)

pub after_last : (m c : ℕ) → c ≡ m → context_after m c ≡ 1
after_last m c same = cond-true (c == m) 1 (suc c) (eq-eqb c m same)

pub nexts_inner : (m c : ℕ) → c ≢ m → patrol_nexts m c ≡ c ∷ suc c ∷ []
nexts_inner m c differs = cond-false (c == m) _ _ (ne_eqb c m differs)

pub nexts_last : (m c : ℕ) → c ≡ m → m ≢ 1 → patrol_nexts m c ≡ 1 ∷ m ∷ []
nexts_last m c same more = cond-true (c == m) _ _ (eq-eqb c m same) ∙ cond-false (m == 1) _ _ (ne_eqb m 1 more)

pub nexts_only : (m c : ℕ) → c ≡ m → m ≡ 1 → patrol_nexts m c ≡ 1 ∷ []
nexts_only m c same one = cond-true (c == m) _ _ (eq-eqb c m same) ∙ cond-true (m == 1) _ _ (eq-eqb m 1 one)

-- as the code has it: by the numbers that it computed
pub visits_many : (start : Start) (conds : List Cond) (x : Scene) (m : ℕ) → start.stages ≡ m → HasPatrolTable start conds x → length (visit_sets conds) ≡ m
visits_many start conds x m n h = length-map conds states_of ∙ sym h.patrol.count ∙ n

pub inner_others : (start : Start) (conds : List Cond) {x : Scene} (m i c : ℕ) → start.stages ≡ m → HasPatrolTable start conds x → c ≡ suc i → suc i < m → GoesOn (visit_sets conds) Others (suc i) c
inner_others start conds {x} m i c n h is less =
    subst (λ k. GoesOn (visit_sets conds) Others (suc i) k) (sym is)
    (others_go (visit_sets conds) (suc i)
    (λ e.
    let after = after_inner (length (visit_sets conds)) (suc i) (λ f. let many = visits_many start conds x m n h in absurd (omega arith)) in
    absurd (omega arith)))

pub inner_made : (start : Start) (conds : List Cond) {x : Scene} (m i j : ℕ) → start.stages ≡ m → HasPatrolTable start conds x → j ≡ suc (suc i) → suc i < m → GoesOn (visit_sets conds) Made (suc i) j
inner_made start conds {x} m i j n h is less =
    made_goes (visit_sets conds) (suc i) j
    (after_inner (length (visit_sets conds)) (suc i) (λ f. let many = visits_many start conds x m n h in absurd (omega arith)) ∙ sym is)
    (λ e. absurd (omega arith))

pub inner_nexts : (m i c j : ℕ) → c ≡ suc i → j ≡ suc (suc i) → suc i < m → patrol_nexts m (suc i) ≡ c ∷ j ∷ []
inner_nexts m i c j is also less = nexts_inner m (suc i) (λ e. absurd (omega arith)) ∙ ap (λ k. k ∷ suc (suc i) ∷ []) (sym is) ∙ ap (λ k. c ∷ k ∷ []) (sym also)

pub only_goes : (start : Start) (conds : List Cond) {x : Scene} (m i : ℕ) → start.stages ≡ m → HasPatrolTable start conds x → suc i ≡ m → m ≡ 1 → GoesOn (visit_sets conds) Whole (suc i) 1
only_goes start conds {x} m i n h same one =
    whole_goes (visit_sets conds) (suc i) (after_last (length (visit_sets conds)) (suc i) (let many = visits_many start conds x m n h in omega arith)) (same ∙ one)

pub only_nexts : (m i : ℕ) → suc i ≡ m → m ≡ 1 → patrol_nexts m (suc i) ≡ 1 ∷ []
only_nexts m i same one = nexts_only m (suc i) same one

pub last_made : (start : Start) (conds : List Cond) {x : Scene} (m i : ℕ) → start.stages ≡ m → HasPatrolTable start conds x → suc i ≡ m → m ≢ 1 → GoesOn (visit_sets conds) Made (suc i) 1
last_made start conds {x} m i n h same more =
    made_goes (visit_sets conds) (suc i) 1 (after_last (length (visit_sets conds)) (suc i) (let many = visits_many start conds x m n h in omega arith)) (λ e. more (sym same ∙ e))

pub last_others : (start : Start) (conds : List Cond) {x : Scene} (m i c : ℕ) → start.stages ≡ m → HasPatrolTable start conds x → c ≡ suc i → suc i ≡ m → m ≢ 1 → GoesOn (visit_sets conds) Others (suc i) c
last_others start conds {x} m i c n h is same more =
    subst (λ k. GoesOn (visit_sets conds) Others (suc i) k) (sym is)
    (others_go (visit_sets conds) (suc i)
    (λ e.
    let after = after_last (length (visit_sets conds)) (suc i) (let many = visits_many start conds x m n h in omega arith) in
    more (sym same ∙ sym e ∙ after)))

pub last_nexts : (m i c : ℕ) → c ≡ suc i → suc i ≡ m → m ≢ 1 → patrol_nexts m (suc i) ≡ 1 ∷ c ∷ []
last_nexts m i c is same more = nexts_last m (suc i) same more ∙ ap (λ k. 1 ∷ k ∷ []) (sym same ∙ sym is)

pub patrol_listed : (start : Start) (conds : List Cond) (x : Scene) (before after : List ContextRule) (m k : ℕ) → start.stages ≡ m → k ≡ m → ListsPatrol start conds x before after (flat_map (rules_in_context (sys_of start) (patrol_states (sys_of start) (visit_sets conds)) (patrol_nexts m)) (range_with_len 1 k))
    → ListsPatrol start conds x before after (patrol_rules (sys_of start) (visit_sets conds))
patrol_listed start conds x before after m k n e h =
    let many = visits_many start conds x m n h.table in
    subst (λ l. ListsPatrol start conds x before after (flat_map (rules_in_context (sys_of start) (patrol_states (sys_of start) (visit_sets conds)) (patrol_nexts l)) (range_with_len 1 l))) (sym many)
    (subst (λ l. ListsPatrol start conds x before after (flat_map (rules_in_context (sys_of start) (patrol_states (sys_of start) (visit_sets conds)) (patrol_nexts m)) (range_with_len 1 l))) e h)
