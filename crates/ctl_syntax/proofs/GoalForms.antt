-- The parts of the goals of which rows of goals come about, with a guard until then; and of rows of
-- goals that each say that something comes about.
use Rattle.std.proofs.Common.{◌≡◌, ◌==◌, Result, Ok, Err, true, false, List, [], ◌∷◌, ◌++◌, map, Option, Some, None, refl, sym, ◌∙◌, ap, append_assoc, length, Bool, not, ◌&&◌, arith}
use Rattle.std.proofs.lemmas.Bool.{and_parts, eqb-true, ne_eqb}
use Rattle.std.proofs.lemmas.List.{length-map, map-append, nil_from_length}
use Rattle.std.specs.List.{list_all, IsLastAndRest}
use Rattle.std.specs.Option.{option_map, option_or}
use Rattle.std.specs.Prelude.{IfOk, is_some, option_to_list}
use Rattle.std.specs.declared.alloc.AllocError.{AllocError}
use Rattle.task_core.specs.declared.conditions.Cond.{Cond}
use Rattle.ctl_syntax.specs.GoalSteps.{guarded_then, is_plain, is_stage_row, is_visit, is_visit_row, patrol_conditions, plain_parts, visit_of, visit_parts}
use Rattle.ctl_syntax.specs.Conditions.{CondTree, all_conditions, condition_value}
use Rattle.ctl_syntax.specs.ContextGoals.{plain_goal, plain_until, plain_patrol}
use Rattle.ctl_syntax.specs.GoalValues.{GoalTree, UntilTree, condition_or_true, goal_conditions, stage_conditions, stage_value, until_chain, until_conditions, until_value}
use Rattle.ctl_syntax.specs.Goals.{CtlTree, plain, all, af, goal_row}
use Rattle.ctl_syntax.specs.Patrols.{patrol_of, visits_of}
use Rattle.ctl_syntax.specs.UntilChains.{GuardedStage, PlainUntil, TargetsThen, guarded, reached_of, targets_of, until_of, with_target}
use Rattle.ctl_syntax.specs.Values.{ctl_value}
use Rattle.ctl_syntax.specs.declared.context_goals.UntilChain.{UntilChain}
use Rattle.ctl_syntax.specs.declared.context_goals.UntilStage.{UntilStage}
use Rattle.ctl_syntax.specs.declared.goals.Ctl.{Ctl}

module _ {P : Type 0} (g : CtlTree P) where
  -- the propositions ps before what a stage already has
  abbrev pub before_targets : List P → PlainUntil P → TargetsThen P
  before_targets ps chain = record { targets = ps; rest = chain }

  -- the goals hs, and then g
  abbrev pub row_with : List (CtlTree P) → List (CtlTree P)
  row_with hs = hs ++ (g ∷ [])

  target_plain : (p : P) (hs : List (CtlTree P)) → targets_of (goal_row (row_with (plain p ∷ hs))) ≡ option_map (with_target p) (targets_of (goal_row (row_with hs)))
  target_plain p [] = refl
  target_plain p (h ∷ hs) = refl

  more : (p : P) (ps : List P) (o : Option (PlainUntil P)) → option_map (with_target p) (option_map (before_targets ps) o) ≡ option_map (before_targets (p ∷ ps)) o
  more p ps None = refl
  more p ps (Some chain) = refl

  -- propositions before g stand in the stage before it
  targets_front : (hs : List (CtlTree P)) → list_all is_plain hs ≡ true → targets_of (goal_row (row_with hs)) ≡ option_map (before_targets (plain_parts hs)) (until_of g)
  targets_front [] e = refl
  targets_front (plain p ∷ hs) e =
      target_plain p hs ∙ ap (option_map (with_target p)) (targets_front hs e) ∙ more p (plain_parts hs) (until_of g)
  targets_front (h ∷ hs) e = cc

  -- a goal with operators there makes it no stage
  targets_none : (hs : List (CtlTree P)) → list_all is_plain hs ≡ false → targets_of (goal_row (row_with hs)) ≡ None
  targets_none [] e = cc
  targets_none (plain p ∷ hs) e = target_plain p hs ∙ ap (option_map (with_target p)) (targets_none hs e)
  targets_none (h ∷ []) e = refl
  targets_none (h ∷ h2 ∷ hs) e = refl

  module _ (guard : Option P) where
    -- one stage more before the until-chain of g
    abbrev pub first_guarded : List P → PlainUntil P → PlainUntil P
    first_guarded ps chain = record { stages = (record { guard = guard; targets = ps }) ∷ chain.stages; keep = chain.keep }

    first : (p : P) (ps : List P) (o : Option (PlainUntil P)) → option_map (guarded guard p) (option_map (before_targets ps) o) ≡ option_map (first_guarded (p ∷ ps)) o
    first p ps None = refl
    first p ps (Some chain) = refl

    pub reached_front : (h : CtlTree P) (hs : List (CtlTree P)) → list_all is_plain (h ∷ hs) ≡ true → reached_of guard (all (goal_row (row_with (h ∷ hs)))) ≡ option_map (first_guarded (plain_parts (h ∷ hs))) (until_of g)
    reached_front (plain p) hs e = ap (option_map (guarded guard p)) (targets_front hs e) ∙ first p (plain_parts hs) (until_of g)
    reached_front h hs e = cc

    pub reached_none : (hs : List (CtlTree P)) → list_all is_plain hs ≡ false → reached_of guard (all (goal_row (row_with hs))) ≡ None
    reached_none [] e = cc
    reached_none (plain p ∷ hs) e = ap (option_map (guarded guard p)) (targets_none hs e)
    reached_none (h ∷ hs) e = refl

-- a goal alone under `and` is no stage
pub reached_alone : {P : Type 0} (guard : Option P) (g : CtlTree P) → reached_of guard (all (goal_row (g ∷ []))) ≡ None
reached_alone guard (plain p) = refl
reached_alone guard g = refl

-- with the stages that come before it
module _ (front : List (GuardedStage CondTree)) (guard : Option Cond) (g : CtlTree Cond) where
  -- the stage with that guard
  abbrev pub stage_of_all : List Cond → GuardedStage CondTree
  stage_of_all ps = stage_conditions (record { guard = guard; targets = ps })

  one_more : (ps : List Cond) (o : Option (PlainUntil Cond))
      → guarded_then front (option_map (first_guarded g guard ps) o) ≡ guarded_then (front ++ (stage_of_all ps ∷ [])) o
  one_more ps None = refl
  one_more ps (Some chain) =
      let e : front ++ (stage_of_all ps ∷ map stage_conditions chain.stages) ≡ (front ++ (stage_of_all ps ∷ [])) ++ map stage_conditions chain.stages = sym (append_assoc front (stage_of_all ps ∷ []) (map stage_conditions chain.stages)) in
      ap (λ (stages : List (GuardedStage CondTree)). let tree : UntilTree = record { stages = stages; keep = (until_conditions chain).keep } in Some tree) e

  stages_front : (h : CtlTree Cond) (hs : List (CtlTree Cond)) → list_all is_plain (h ∷ hs) ≡ true
      → guarded_then front (reached_of guard (all (goal_row (row_with g (h ∷ hs))))) ≡ guarded_then (front ++ (stage_of_all (plain_parts (h ∷ hs)) ∷ [])) (until_of g)
  stages_front h hs e = ap (guarded_then front) (reached_front g guard h hs e) ∙ one_more (plain_parts (h ∷ hs)) (until_of g)

-- of the parts of an `and`, whose last is set apart
module _ (front : List (GuardedStage CondTree)) (guard : Option Cond) (parts : List Ctl) (last : Ctl) (conds : List Ctl) (apart : IsLastAndRest parts last conds) where
  trees : map ctl_value parts ≡ map ctl_value conds ++ (ctl_value last ∷ [])
  trees = ap (map ctl_value) apart.0 ∙ map-append ctl_value conds (last ∷ [])

  abbrev all_reached : List (CtlTree Cond) → Option UntilTree
  all_reached gs = guarded_then front (reached_of guard (all (goal_row gs)))

  parts_alone : (length conds == 0) ≡ true → None ≡ all_reached (map ctl_value parts)
  parts_alone none =
      let empty : conds ≡ [] = nil_from_length conds (eqb-true (length conds) 0 none) in
      sym (ap all_reached (trees ∙ ap (λ hs. map ctl_value hs ++ (ctl_value last ∷ [])) empty) ∙ ap (guarded_then front) (reached_alone guard (ctl_value last)))

  parts_none : list_all is_plain (map ctl_value conds) ≡ false → None ≡ all_reached (map ctl_value parts)
  parts_none mixed = sym (ap all_reached trees ∙ ap (guarded_then front) (reached_none (ctl_value last) guard (map ctl_value conds) mixed))

  parts_front : (length conds == 0) ≡ false → list_all is_plain (map ctl_value conds) ≡ true
      → all_reached (map ctl_value parts) ≡ guarded_then (front ++ (stage_of_all front guard (ctl_value last) (plain_parts (map ctl_value conds)) ∷ [])) (until_of (ctl_value last))
  parts_front some pure = ap all_reached trees ∙ by_first conds some pure
    where
      by_first : (hs : List Ctl) → (length hs == 0) ≡ false → list_all is_plain (map ctl_value hs) ≡ true
          → all_reached (map ctl_value hs ++ (ctl_value last ∷ [])) ≡ guarded_then (front ++ (stage_of_all front guard (ctl_value last) (plain_parts (map ctl_value hs)) ∷ [])) (until_of (ctl_value last))
      by_first [] some pure = cc
      by_first (h ∷ hs) some pure = stages_front front guard (ctl_value last) (ctl_value h) (map ctl_value hs) pure

  -- where they are no stage, and where they are one
  pub no_stage : is_stage_row (map ctl_value conds) ≡ false → None ≡ all_reached (map ctl_value parts)
  no_stage none = by_length (length (map ctl_value conds) == 0) refl
    where
      by_length : (b : Bool) → (length (map ctl_value conds) == 0) ≡ b → None ≡ all_reached (map ctl_value parts)
      by_length true e = parts_alone (ap (λ n. n == 0) (sym (length-map conds ctl_value)) ∙ e)
      by_length false e = parts_none (ap (λ b. not b && list_all is_plain (map ctl_value conds)) (sym e) ∙ none)

  pub stage_first : is_stage_row (map ctl_value conds) ≡ true
      → all_reached (map ctl_value parts) ≡ guarded_then (front ++ (stage_conditions (record { guard = guard; targets = plain_parts (map ctl_value conds) }) ∷ [])) (until_of (ctl_value last))
  stage_first some =
      let both = and_parts (not (length (map ctl_value conds) == 0)) (list_all is_plain (map ctl_value conds)) some in
      parts_front (ap (λ n. n == 0) (sym (length-map conds ctl_value)) ∙ not_from_true (length (map ctl_value conds) == 0) both.0) both.1
    where
      not_from_true : (b : Bool) → not b ≡ true → b ≡ false
      not_from_true true e = cc
      not_from_true false e = refl

-- the answers of the code

pub until_same : (result : Result (Option UntilChain) AllocError) (a b : Option UntilTree) → a ≡ b → IfOk result (λ found. option_map until_value found ≡ a) → IfOk result (λ found. option_map until_value found ≡ b)
until_same (Ok found) a b same is = is ∙ same
until_same (Err refusal) a b same is = tt

-- a stage of two trees
pub stage_is : (stage : UntilStage) (guard : Option Cond) (ps : List Cond) → condition_value stage.guard ≡ condition_or_true guard → condition_value stage.target ≡ all_conditions ps
    → stage_value stage ≡ stage_conditions (record { guard = guard; targets = ps })
stage_is stage guard ps first second = λ i. record { guard = first i; target = second i }

-- after a stage was put to the others
pub stage_pushed : (stages longer : List UntilStage) (stage : UntilStage) (guard : Option Cond) (ps : List Cond) → longer ≡ stages ++ (stage ∷ []) → condition_value stage.guard ≡ condition_or_true guard → condition_value stage.target ≡ all_conditions ps
    → map stage_value longer ≡ map stage_value stages ++ (stage_conditions (record { guard = guard; targets = ps }) ∷ [])
stage_pushed stages longer stage guard ps pushed first second =
    ap (map stage_value) pushed
    ∙ map-append stage_value stages (stage ∷ [])
    ∙ ap (λ (t : GuardedStage CondTree). map stage_value stages ++ (t ∷ [])) (stage_is stage guard ps first second)

-- rows of goals that each say that something comes about
module _ {P : Type 0} where
  visits_one : (g : CtlTree P) → visits_of (goal_row (g ∷ [])) ≡ option_map (λ p. p ∷ []) (visit_of g)
  visits_one (af (plain p)) = refl
  visits_one g = refl

  visits_more : (g h : CtlTree P) (gs : List (CtlTree P)) → is_visit g ≡ true → visits_of (goal_row (g ∷ h ∷ gs)) ≡ option_map (λ ps. option_to_list (visit_of g) ++ ps) (visits_of (goal_row (h ∷ gs)))
  visits_more (af (plain p)) h gs e = refl
  visits_more g h gs e = cc

  visits_less : (g h : CtlTree P) (gs : List (CtlTree P)) → is_visit g ≡ false → visits_of (goal_row (g ∷ h ∷ gs)) ≡ None
  visits_less (af (plain p)) h gs e = cc
  visits_less g h gs e = refl

  visit_alone : (g : CtlTree P) → is_visit g ≡ true → option_map (λ p. p ∷ []) (visit_of g) ≡ Some (option_to_list (visit_of g) ++ [])
  visit_alone (af (plain p)) e = refl
  visit_alone g e = cc

  pub visits_all : (g : CtlTree P) (gs : List (CtlTree P)) → list_all is_visit (g ∷ gs) ≡ true → visits_of (goal_row (g ∷ gs)) ≡ Some (visit_parts (g ∷ gs))
  visits_all g [] e = visits_one g ∙ visit_alone g (and_parts (is_visit g) true e).0
  visits_all g (h ∷ gs) e =
      let both = and_parts (is_visit g) (list_all is_visit (h ∷ gs)) e in
      visits_more g h gs both.0 ∙ ap (option_map (λ ps. option_to_list (visit_of g) ++ ps)) (visits_all h gs both.1)

  pub visits_none : (gs : List (CtlTree P)) → list_all is_visit gs ≡ false → visits_of (goal_row gs) ≡ None
  visits_none [] e = cc
  visits_none (g ∷ gs) e = go (is_visit g) refl gs (visits_none gs) e
    where
      none_alone : (o : Option P) → is_some o ≡ false → option_map (λ p. p ∷ []) o ≡ None
      none_alone None h = refl
      none_alone (Some p) h = cc

      go : (b : Bool) → is_visit g ≡ b → (gs : List (CtlTree P)) → (list_all is_visit gs ≡ false → visits_of (goal_row gs) ≡ None) → list_all is_visit (g ∷ gs) ≡ false → visits_of (goal_row (g ∷ gs)) ≡ None
      go true h [] later e = cc
      go true h (k ∷ gs) later e = visits_more g k gs h ∙ ap (option_map (λ ps. option_to_list (visit_of g) ++ ps)) (later (sym (ap (λ b. b && list_all is_visit (k ∷ gs)) h) ∙ e))
      go false h [] later e = visits_one g ∙ none_alone (visit_of g) h
      go false h (k ∷ gs) later e = visits_less g k gs h

  -- a row of such goals, and any other row
  pub visits_row : (gs : List (CtlTree P)) → is_visit_row gs ≡ true → visits_of (goal_row gs) ≡ Some (visit_parts gs)
  visits_row [] e = cc
  visits_row (g ∷ gs) e = visits_all g gs (and_parts (not (length (g ∷ gs) == 0)) (list_all is_visit (g ∷ gs)) e).1

  pub no_visits : (gs : List (CtlTree P)) → is_visit_row gs ≡ false → visits_of (goal_row gs) ≡ None
  no_visits [] e = refl
  no_visits (g ∷ gs) e =
      let some : (length (g ∷ gs) == 0) ≡ false = ne_eqb (length (g ∷ gs)) 0 (λ none. absurd (omega arith)) in
      visits_none (g ∷ gs) (sym (ap (λ b. not b && list_all is_visit (g ∷ gs)) some) ∙ e)

-- a goal that is an until-chain, and one that is none
pub goal_until : (goal : CtlTree Cond) (chain : UntilChain) → Some (until_value chain) ≡ guarded_then [] (until_of goal) → Some (until_chain (until_value chain)) ≡ option_map goal_conditions (plain_goal goal)
goal_until goal chain is = go (until_of goal) is
  where
    go : (o : Option (PlainUntil Cond)) → Some (until_value chain) ≡ guarded_then [] o → Some (until_chain (until_value chain)) ≡ option_map goal_conditions (option_or (option_map plain_until o) (option_map plain_patrol (patrol_of goal)))
    go None e = cc
    go (Some parts) e = ap (option_map until_chain) e

pub goal_patrol : (goal : CtlTree Cond) (tree : Option GoalTree) → None ≡ guarded_then [] (until_of goal) → tree ≡ option_map patrol_conditions (patrol_of goal) → tree ≡ option_map goal_conditions (plain_goal goal)
goal_patrol goal tree none is = is ∙ go (until_of goal) none (patrol_of goal)
  where
    go : (o : Option (PlainUntil Cond)) → None ≡ guarded_then [] o → (p : Option (List Cond)) → option_map patrol_conditions p ≡ option_map goal_conditions (option_or (option_map plain_until o) (option_map plain_patrol p))
    go None e None = refl
    go None e (Some conds) = refl
    go (Some parts) e p = cc
