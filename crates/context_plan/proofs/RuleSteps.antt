-- The rules of a plan: of one action, one next context and one context more.
use Rattle.std.proofs.Common.{◌≡◌, ℕ, suc, ◌+◌, ◌-◌, ◌*◌, ◌<◌, ◌≤◌, ◌==◌, Bool, true, false, not, ◌&&◌, List, [], ◌∷◌, ◌++◌, drop, length, map, refl, sym, ap, subst, ◌∙◌, inl, ⊎_elim, arith}
use Rattle.std.specs.Prelude.{nat_le}
use Rattle.std.specs.List.{flat_map, range_with_len}
use Rattle.std.proofs.lemmas.Bool.{cases_lt, eq-eqb, eqb-true, le-leb}
use Rattle.std.proofs.lemmas.Grind.{flat_map-append}
use Rattle.std.proofs.lemmas.List.{append-nil, append_assoc, drop_all, map-id}
use Rattle.std.proofs.lemmas.List.FromFn.{map-range_with_len_more}
use Rattle.dd_nodes.specs.Subfunctions.{Function}
use Rattle.dd_ops.specs.Operations.{and_of, minus_of}
use Rattle.encode_task.proofs.StateVectors.{cubes_agree}
use Rattle.slot_board.specs.Board.{Scene, set_at}
use Rattle.plan_theory.specs.ContextRules.{action_rules, next_rules, rule_for, rules_for, rules_in_context}
use Rattle.plan_theory.specs.UntilChains.{SetStage, UntilSets, covers_until, guarded_from, until_advance, until_met_count, until_win, until_win_at}
use Rattle.plan_theory.specs.UntilPrinted.{until_nexts, until_rules, until_states, until_towards}
use Rattle.list_laws.proofs.Booleans.{and_yes, same_truth}
use Rattle.plan_rules.specs.Rules.{ContextRule}
use Rattle.plan_theory.specs.LayerPlans.{is_action}
use Rattle.task_core.specs.Cubes.{SetOfVectors}
use Rattle.task_core.specs.Systems.{System}
use Rattle.task_core.specs.Tasks.{action_count, fluent_count}
use Rattle.context_plan.specs.Listing.{Lists, ListsStages, ListsTurning}
use Rattle.context_plan.specs.Scenes.{Changed, Moved, SameStates, Start, Worked, met_place, rules_place, states_at, sys_of, takers_place, win_place}
use Rattle.context_plan.specs.Rounds.{from_stage, turning_at}
use Rattle.context_plan.specs.Steps.{HasRest, HasTakers}
use Rattle.context_plan.specs.WorkingSets.{met_first}
use Rattle.context_plan.specs.Tables.{HasTable, HasTurning}
use Rattle.context_plan.proofs.SceneSteps.{copied_states, long_enough, met_states, moved_low, moved_worked, rest_states, worked_changed}
use Rattle.context_plan.proofs.StageOrder.{at_this, from_next, won_this}
use Rattle.context_plan.proofs.TakenSteps.{takers_apart, takers_within}

-- lists of rules
pub range_last : (a n : ℕ) → range_with_len a (n + 1) ≡ range_with_len a n ++ (a + n) ∷ []
range_last a n = sym (map-id (range_with_len a (n + 1))) ∙ (map-range_with_len_more (λ k. k) a n (a + n) refl ∙ ap (λ xs. xs ++ (a + n) ∷ []) (map-id (range_with_len a n)))

pub flat_more : {X : Type 0} (f : ℕ → List X) (a n : ℕ) → flat_map f (range_with_len a n) ++ f (a + n) ≡ flat_map f (range_with_len a (n + 1))
flat_more f a n =
    ap (λ xs. flat_map f (range_with_len a n) ++ xs) (sym (append-nil (f (a + n))))
    ∙ sym (flat_map-append f (range_with_len a n) ((a + n) ∷ []))
    ∙ ap (flat_map f) (sym (range_last a n))

-- what stands before the states of rules stays
pub has_beside : (start : Start) (x y : Scene) (chain : UntilSets) (i : ℕ) → HasTakers start x chain i
    → Changed start x y (rules_place (action_count start.task) start.stages) (rules_place (action_count start.task) start.stages + action_count start.task) → HasTakers start y chain i
has_beside start x y chain i h w = record {
  ready = w.ready;
  fits = h.fits;
  covered = h.covered;
  won = record {
    wins = λ j from to v is. ap (λ (f : SetOfVectors). f v) (early (win_place j) (omega arith) (omega arith)) ∙ h.won.wins j from to v is;
    mets = λ j from less v is. ap (λ (f : SetOfVectors). f v) (early (met_place j) (omega arith) (omega arith)) ∙ h.won.mets j from less v is;
  };
  last = λ v is. ap (λ (f : SetOfVectors). f v) (early (met_place start.stages) (omega arith) (omega arith)) ∙ h.last v is;
  taken = λ j a less low below v is. ap (λ (f : SetOfVectors). f v) (late j a low below) ∙ h.taken j a less low below v is;
  untaken = λ j a from low below v is. ap (λ (f : SetOfVectors). f v) (late j a low below) ∙ h.untaken j a from low below v is;
}
  where
    early : (k : ℕ) → 8 ≤ k → k < 10 + 2 * start.stages → states_at y k ≡ states_at x k
    early k high less = w.kept k high (long_enough start y w.ready.at k less) (inl (early_place (suc start.stages * action_count start.task)))
      where
        early_place : (t : ℕ) → k < 10 + 2 * start.stages + t
        early_place t = omega arith

    late : (j a : ℕ) → j ≤ start.stages → a < action_count start.task → states_at y (takers_place (action_count start.task) start.stages j + a) ≡ states_at x (takers_place (action_count start.task) start.stages j + a)
    late j a low below =
        let fits = takers_within start y w.ready.at j (omega arith) in
        let apart = takers_apart (action_count start.task) start.stages j (suc start.stages) (omega arith) in
        w.kept (takers_place (action_count start.task) start.stages j + a) (omega arith) (omega arith)
        (inl (let m : takers_place (action_count start.task) start.stages j + a < rules_place (action_count start.task) start.stages = omega arith in m))

-- and so do all places but the working ones
pub has_still : (start : Start) (x y : Scene) (chain : UntilSets) (i : ℕ) → HasTakers start x chain i → Worked start x y → HasTakers start y chain i
has_still start x y chain i h w =
    has_beside start x y chain i h
    (worked_changed start x y (rules_place (action_count start.task) start.stages) (rules_place (action_count start.task) start.stages + action_count start.task) w)

-- where a stage is met, and after the last one nowhere
mets_all : (start : Start) (x : Scene) (chain : UntilSets) (j : ℕ) → length chain.stages ≡ start.stages → j ≤ start.stages → HasTakers start x chain (suc start.stages) → SameStates start (states_at x (met_place j)) (met_first (sys_of start) chain.keep (drop j chain.stages))
mets_all start x chain j long few h =
    ⊎_elim
    (λ (l : j < start.stages). h.won.mets j (omega arith) l)
    (λ (l : start.stages ≤ j).
    let e : j ≡ start.stages = omega arith in
    λ v is.
    ap (λ k. states_at x (met_place k) v) e
    ∙ h.last v is
    ∙ ap (λ (s : List SetStage). met_first (sys_of start) chain.keep s v) (sym (drop_all j chain.stages (omega arith))))
    (cases_lt j start.stages)

-- the states of a context, and those of them in which one stage more is met
pub rest_none : (start : Start) (x y : Scene) (chain : UntilSets) (c : ℕ) → c ≤ start.stages → HasTakers start x chain (suc start.stages) → Moved start x y 3 (set_at x.0.sets x.1 (win_place c)) → HasRest start y chain c c
rest_none start x y chain c few h m =
    let sys = sys_of start in
    record {
      has = has_still start x y chain (suc start.stages) h (moved_worked start x y 3 _ m (omega arith));
      rest = λ v is.
          ap (λ (f : SetOfVectors). f v) (copied_states start x y 3 (win_place c) m)
          ∙ h.won.wins c (omega arith) few v is
          ∙ sym (and_yes (until_win sys chain.keep (drop c chain.stages) v) (nat_le c (c + until_met_count sys chain.keep (drop c chain.stages) v)) (le-leb c (c + until_met_count sys chain.keep (drop c chain.stages) v) (omega arith)));
    }

pub rest_met : (start : Start) (x : Scene) (chain : UntilSets) (c j : ℕ) → length chain.stages ≡ start.stages → c ≤ j → j ≤ start.stages → HasRest start x chain c j
    → SameStates start (λ v. states_at x 3 v && states_at x (met_place j) v) (from_stage (sys_of start) chain c (j + 1))
rest_met start x chain c j long from few h v is =
    let sys = sys_of start in
    ap (λ b. b && states_at x (met_place j) v) (h.rest v is)
    ∙ ap (λ b. from_stage sys chain c j v && b) (mets_all start x chain j long few h.has v is)
    ∙ from_next sys chain c j from v
    ∙ ap (λ k. from_stage sys chain c k v) (let e : suc j ≡ j + 1 = omega arith in e)

pub rest_more : (start : Start) (x y : Scene) (chain : UntilSets) (c j : ℕ) → length chain.stages ≡ start.stages → c ≤ j → j ≤ start.stages → HasRest start x chain c j → Moved start x y 3 (and_of (set_at x.0.sets x.1 3) (set_at x.0.sets x.1 (met_place j))) → HasRest start y chain c (j + 1)
rest_more start x y chain c j long from few h m = record {
  has = has_still start x y chain (suc start.stages) h.has (moved_worked start x y 3 _ m (omega arith));
  rest = λ v is. ap (λ (f : SetOfVectors). f v) (met_states start x y 3 3 (met_place j) m) ∙ rest_met start x chain c j long from few h v is;
}

-- the states of a context that turn to a next one
pub turning_left : (start : Start) (x : Scene) (chain : UntilSets) (c j : ℕ) → length chain.stages ≡ start.stages → c ≤ j → j ≤ start.stages → HasRest start x chain c j
    → SameStates start (λ v. states_at x 3 v && not (states_at x (met_place j) v)) (turning_at (sys_of start) chain c j)
turning_left start x chain c j long from few h v is =
    let sys = sys_of start in
    ap (λ b. b && not (states_at x (met_place j) v)) (h.rest v is)
    ∙ ap (λ b. from_stage sys chain c j v && not b) (mets_all start x chain j long few h.has v is)
    ∙ at_this sys chain c j from v

pub turning_made : (start : Start) (x y : Scene) (chain : UntilSets) (c j met : ℕ) → length chain.stages ≡ start.stages → covers_until (sys_of start) chain ≡ true → c ≤ j → j ≤ start.stages → met ≡ met_place j → HasRest start x chain c j
    → Moved start x y 4 (minus_of (set_at x.0.sets x.1 3) (set_at x.0.sets x.1 met)) → HasTurning start y chain c j
turning_made start x y chain c j met long covered from few is_met h m =
    let n : Moved start x y 4 (minus_of (set_at x.0.sets x.1 3) (set_at x.0.sets x.1 (met_place j))) =
    subst (λ k. Moved start x y 4 (minus_of (set_at x.0.sets x.1 3) (set_at x.0.sets x.1 k))) is_met m in
    record {
      table = record {
        stages = long;
        takers = has_still start x y chain (suc start.stages) h.has (moved_worked start x y 4 _ n (omega arith));
        covered = covered;
      };
      from = from;
      few = few;
      turning = λ v is. ap (λ (f : SetOfVectors). f v) (rest_states start x y 4 3 (met_place j) n) ∙ turning_left start x chain c j long from few h v is;
    }

-- they stay where only the hits change
pub turning_still : (start : Start) (x y : Scene) (chain : UntilSets) (c j : ℕ) (g : Function) → HasTurning start x chain c j → Moved start x y 2 g → HasTurning start y chain c j
turning_still start x y chain c j g h m = record {
  table = record {
    stages = h.table.stages;
    takers = has_still start x y chain (suc start.stages) h.table.takers (moved_worked start x y 2 g m (omega arith));
    covered = h.table.covered;
  };
  from = h.from;
  few = h.few;
  turning = λ v is. ap (λ (f : SetOfVectors). f v) (moved_low start x y 2 g m 4 (omega arith) (λ e. absurd (omega arith))) ∙ h.turning v is;
}

-- those of them that take an action
module _ (start : Start) (x : Scene) (chain : UntilSets) (c j : ℕ) (h : HasTurning start x chain c j) where
  abbrev sys : System
  sys = sys_of start

  abbrev t : ℕ
  t = takers_place (action_count start.task) start.stages j

  first_stages : guarded_from (suc c) chain.stages ≡ drop c chain.stages
  first_stages = ap (λ k. drop k chain.stages) (let e : suc c - 1 ≡ c = omega arith in e)

  these_stages : guarded_from (suc j) chain.stages ≡ drop j chain.stages
  these_stages = ap (λ k. drop k chain.stages) (let e : suc j - 1 ≡ j = omega arith in e)

  same_number : (k : ℕ) → (c + k == j) ≡ (suc c + k == suc j)
  same_number k =
      same_truth (c + k == j) (suc c + k == suc j)
      (λ h. let e : c + k ≡ j = eqb-true (c + k) j h in eq-eqb (suc c + k) (suc j) (omega arith))
      (λ h. let e : suc c + k ≡ suc j = eqb-true (suc c + k) (suc j) h in eq-eqb (c + k) j (omega arith))

  drop_won : (w e s i : Bool) → (w ≡ true → e ≡ true → s ≡ true) → ((w && e) && (s && i)) ≡ (w && (e && i))
  drop_won true true s i h = ap (λ b. b && i) (h refl refl)
  drop_won true false s i h = refl
  drop_won false e s i h = refl

  pub rule_taken : (a : ℕ) → a < action_count start.task → SameStates start (λ v. states_at x 4 v && states_at x (t + a) v) (until_states sys chain (suc c) (suc j) a)
  rule_taken a below v is =
      let won = until_win sys chain.keep (drop c chain.stages) v in
      let count = until_met_count sys chain.keep (drop c chain.stages) v in
      let acts = λ (s : List SetStage). is_action a (until_towards sys chain.keep s v) in
      let few = h.few in
      ap (λ b. b && states_at x (t + a) v) (h.turning v is)
      ∙ ap (λ b. (won && (c + count == j)) && b) (h.table.takers.taken j a (omega arith) few below v is)
      ∙ drop_won won (c + count == j) (until_win sys chain.keep (drop j chain.stages) v) (acts (drop j chain.stages)) (won_this sys chain c j h.from v)
      ∙ ap (λ b. won && (b && acts (drop j chain.stages))) (same_number count)
      ∙ ap (λ (s : List SetStage). until_win sys chain.keep s v && ((suc c + until_met_count sys chain.keep s v == suc j) && acts (drop j chain.stages))) (sym first_stages)
      ∙ ap (λ (s : List SetStage). until_win_at sys chain (suc c) v && ((until_advance sys chain (suc c) v == suc j) && acts s)) (sym these_stages)

  pub action_made : (y : Scene) (before after : List ContextRule) (a : ℕ) → a < action_count start.task → Moved start x y 2 (and_of (set_at x.0.sets x.1 4) (set_at x.0.sets x.1 (t + a)))
      → after ≡ before ++ rules_for (fluent_count start.task) (suc c) (suc j) a (states_at y 2) → ListsTurning start y chain before after c j (action_rules sys (until_states sys chain) (suc c) (suc j) a)
  action_made y before after a below m more = record {
    turning = turning_still start x y chain c j _ h m;
    listed =
        more
        ∙ ap (λ cubes. before ++ map (rule_for (suc c) (suc j) a) cubes)
        (cubes_agree (fluent_count start.task) 0 (states_at y 2) (until_states sys chain (suc c) (suc j) a)
        (λ v is. ap (λ (f : SetOfVectors). f v) (met_states start x y 2 4 (t + a) m) ∙ rule_taken a below v is));
  }

-- as the code has it: by the places that it computed
pub action_listed : (start : Start) (x y : Scene) (chain : UntilSets) (before after : List ContextRule) (c j takers place a c' j' : ℕ) → a < action_count start.task → takers ≡ takers_place (action_count start.task) start.stages j → place ≡ takers + a → c' ≡ suc c → j' ≡ suc j → HasTurning start x chain c j
    → Moved start x y 2 (and_of (set_at x.0.sets x.1 4) (set_at x.0.sets x.1 place)) → after ≡ before ++ rules_for (fluent_count start.task) c' j' a (states_at y 2) → ListsTurning start y chain before after c j (action_rules (sys_of start) (until_states (sys_of start) chain) (suc c) (suc j) a)
action_listed start x y chain before after c j takers place a c' j' below is_takers is_place is_c is_j h m more =
    action_made start x chain c j h y before after a below
    (subst (λ k. Moved start x y 2 (and_of (set_at x.0.sets x.1 4) (set_at x.0.sets x.1 k))) (is_place ∙ ap (λ k. k + a) is_takers) m)
    (more ∙ ap (λ k. before ++ rules_for (fluent_count start.task) k j' a (states_at y 2)) is_c ∙ ap (λ k. before ++ rules_for (fluent_count start.task) (suc c) k a (states_at y 2)) is_j)

-- the rules of no action, of one more, and of all
pub actions_none : (start : Start) (x : Scene) (chain : UntilSets) (rules : List ContextRule) (c j : ℕ) → HasTurning start x chain c j → ListsTurning start x chain rules rules c j (flat_map (action_rules (sys_of start) (until_states (sys_of start) chain) (suc c) (suc j)) (range_with_len 0 0))
actions_none start x chain rules c j h = record { turning = h; listed = sym (append-nil rules) }

pub actions_more : (start : Start) (x y : Scene) (chain : UntilSets) (before mid after : List ContextRule) (c j n : ℕ) → ListsTurning start x chain before mid c j (flat_map (action_rules (sys_of start) (until_states (sys_of start) chain) (suc c) (suc j)) (range_with_len 0 n))
    → ListsTurning start y chain mid after c j (action_rules (sys_of start) (until_states (sys_of start) chain) (suc c) (suc j) n) → ListsTurning start y chain before after c j (flat_map (action_rules (sys_of start) (until_states (sys_of start) chain) (suc c) (suc j)) (range_with_len 0 (n + 1)))
actions_more start x y chain before mid after c j n h more =
    let f = action_rules (sys_of start) (until_states (sys_of start) chain) (suc c) (suc j) in
    record {
      turning = more.turning;
      listed =
          more.listed
          ∙ ap (λ rules. rules ++ f n) h.listed
          ∙ append_assoc before (flat_map f (range_with_len 0 n)) (f n)
          ∙ ap (λ k. before ++ (flat_map f (range_with_len 0 n) ++ f k)) (let e : n ≡ 0 + n = omega arith in e)
          ∙ ap (λ rules. before ++ rules) (flat_more f 0 n);
    }

pub actions_all : (start : Start) (x : Scene) (chain : UntilSets) (before after : List ContextRule) (c j n : ℕ) → n ≡ action_count start.task → ListsTurning start x chain before after c j (flat_map (action_rules (sys_of start) (until_states (sys_of start) chain) (suc c) (suc j)) (range_with_len 0 n))
    → ListsTurning start x chain before after c j (next_rules (sys_of start) (until_states (sys_of start) chain) (suc c) (suc j))
actions_all start x chain before after c j n e h =
    subst (λ k. ListsTurning start x chain before after c j (flat_map (action_rules (sys_of start) (until_states (sys_of start) chain) (suc c) (suc j)) (range_with_len 0 k))) e h

-- the rules of one next context more
pub stages_more : (start : Start) (y : Scene) (chain : UntilSets) (before mid after : List ContextRule) (c j : ℕ) → c ≤ j → mid ≡ before ++ flat_map (next_rules (sys_of start) (until_states (sys_of start) chain) (suc c)) (range_with_len (suc c) (j - c))
    → ListsTurning start y chain mid after c j (next_rules (sys_of start) (until_states (sys_of start) chain) (suc c) (suc j)) → ListsStages start y chain before after c (j + 1)
stages_more start y chain before mid after c j from h more =
    let sys = sys_of start in
    record {
      table = more.turning.table;
      listed =
          more.listed
          ∙ ap (λ rules. rules ++ next_rules sys (until_states sys chain) (suc c) (suc j)) h
          ∙ append_assoc before (flat_map (next_rules sys (until_states sys chain) (suc c)) (range_with_len (suc c) (j - c))) (next_rules sys (until_states sys chain) (suc c) (suc j))
          ∙ ap (λ k. before ++ (flat_map (next_rules sys (until_states sys chain) (suc c)) (range_with_len (suc c) (j - c)) ++ next_rules sys (until_states sys chain) (suc c) k)) (let e : suc j ≡ suc c + (j - c) = omega arith in e)
          ∙ ap (λ rules. before ++ rules) (flat_more (next_rules sys (until_states sys chain) (suc c)) (suc c) (j - c))
          ∙ ap (λ k. before ++ flat_map (next_rules sys (until_states sys chain) (suc c)) (range_with_len (suc c) k)) (let e : (j - c) + 1 ≡ (j + 1) - c = omega arith in e);
    }

-- no next context yet
pub stages_none : (start : Start) (x : Scene) (chain : UntilSets) (rules : List ContextRule) (c : ℕ) → HasTable start x chain → ListsStages start x chain rules rules c c
stages_none start x chain rules c table = record {
  table = table;
  listed =
      sym (append-nil rules)
      ∙ ap (λ k. rules ++ flat_map (next_rules (sys_of start) (until_states (sys_of start) chain) (suc c)) (range_with_len (suc c) k)) (let e : 0 ≡ c - c = omega arith in e);
}

-- all next contexts
pub stages_all : (start : Start) (y : Scene) (chain : UntilSets) (before after : List ContextRule) (c j : ℕ) → length chain.stages ≡ start.stages → c ≤ start.stages → j ≡ start.stages + 1 → ListsStages start y chain before after c j → Lists start y chain before after (rules_in_context (sys_of start) (until_states (sys_of start) chain) (until_nexts chain) (suc c))
stages_all start y chain before after c j long few e h = record {
  table = h.table;
  listed =
      h.listed
      ∙ ap (λ k. before ++ flat_map (next_rules (sys_of start) (until_states (sys_of start) chain) (suc c)) (range_with_len (suc c) k))
      (let same : j - c ≡ suc (suc (length chain.stages)) - suc c = omega arith in same);
}

-- the rules of one context more
pub contexts_none : (start : Start) (x : Scene) (chain : UntilSets) (rules : List ContextRule) → HasTable start x chain → Lists start x chain rules rules (flat_map (rules_in_context (sys_of start) (until_states (sys_of start) chain) (until_nexts chain)) (range_with_len 1 0))
contexts_none start x chain rules h = record { table = h; listed = sym (append-nil rules) }

pub contexts_more : (start : Start) (y z : Scene) (chain : UntilSets) (before mid after : List ContextRule) (c : ℕ) → Lists start y chain before mid (flat_map (rules_in_context (sys_of start) (until_states (sys_of start) chain) (until_nexts chain)) (range_with_len 1 c)) → Lists start z chain mid after (rules_in_context (sys_of start) (until_states (sys_of start) chain) (until_nexts chain) (suc c))
    → Lists start z chain before after (flat_map (rules_in_context (sys_of start) (until_states (sys_of start) chain) (until_nexts chain)) (range_with_len 1 (c + 1)))
contexts_more start y z chain before mid after c h more =
    let f = rules_in_context (sys_of start) (until_states (sys_of start) chain) (until_nexts chain) in
    record {
      table = more.table;
      listed =
          more.listed
          ∙ ap (λ rules. rules ++ f (suc c)) h.listed
          ∙ append_assoc before (flat_map f (range_with_len 1 c)) (f (suc c))
          ∙ ap (λ k. before ++ (flat_map f (range_with_len 1 c) ++ f k)) (let e : suc c ≡ 1 + c = omega arith in e)
          ∙ ap (λ rules. before ++ rules) (flat_more f 1 c);
    }

pub contexts_all : (start : Start) (y : Scene) (chain : UntilSets) (before after : List ContextRule) (k : ℕ) → length chain.stages ≡ start.stages → k ≡ start.stages + 1 → Lists start y chain before after (flat_map (rules_in_context (sys_of start) (until_states (sys_of start) chain) (until_nexts chain)) (range_with_len 1 k))
    → Lists start y chain before after (until_rules (sys_of start) chain)
contexts_all start y chain before after k long e h = record {
  table = h.table;
  listed = h.listed ∙ ap (λ n. before ++ flat_map (rules_in_context (sys_of start) (until_states (sys_of start) chain) (until_nexts chain)) (range_with_len 1 n)) (let same : k ≡ suc (length chain.stages) = omega arith in same);
}
