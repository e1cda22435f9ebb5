-- The stages of an until-chain, and the visits of a patrol.
use Rattle.std.proofs.Common.{◌≡◌, ℕ, zero, suc, ◌+◌, ◌*◌, ◌-◌, ◌<◌, ◌≤◌, true, false, ◌&&◌, List, [], ◌∷◌, All, drop, length, get_or, map, refl, sym, ap, subst, ◌∙◌, ⊎_elim, arith}
use Rattle.std.proofs.lemmas.Bool.{cases_eq}
use Rattle.std.proofs.lemmas.List.{drop_all, get_or-map, length-map}
use Rattle.std.proofs.lemmas.List.Elements.{All-get_or}
use Rattle.dd_nodes.specs.Subfunctions.{Function}
use Rattle.dd_ops.specs.Operations.{and_of}
use Rattle.dd_sets.specs.LiveSets.{everything}
use Rattle.ctl_syntax.specs.Conditions.{states_of}
use Rattle.ctl_syntax.specs.GoalValues.{EachInStage, stage_sets}
use Rattle.ctl_syntax.specs.declared.context_goals.UntilChain.{UntilChain}
use Rattle.ctl_syntax.specs.declared.context_goals.UntilStage.{UntilStage}
use Rattle.fair_theory.specs.FairSets.{IsChainWin, IsLargestFairSet, anywhere, at_end, at_stage, end_asks, patrol_asks, stage_asks}
use Rattle.plan_theory.specs.UntilChains.{SetStage}
use Rattle.slot_board.specs.Board.{Scene}
use Rattle.slot_board.specs.declared.board.Operation.TheVariants.{Meet}
use Rattle.board_steps.specs.Steps.{Placed, after_step}
use Rattle.board_steps.specs.declared.steps.Step.{Step}
use Rattle.board_steps.specs.declared.steps.Step.TheVariants.{Combine, Copy, Whole}
use Rattle.board_steps.proofs.StepLemmas.{with_here, with_other}
use Rattle.task_core.specs.Conditions.{IsConditionOver, holds}
use Rattle.task_core.specs.Cubes.{SetOfVectors}
use Rattle.task_core.specs.Vectors.{value_of}
use Rattle.task_core.specs.declared.conditions.Cond.{Cond}
use Rattle.fair_plan.specs.Boards.{AreStepsOf, IsAfter, IsThere, Puts, Origin, actions_of, set_in, states_in, sys_of}
use Rattle.fair_plan.specs.Goals.{IsChainOver}
use Rattle.fair_plan.specs.Places.{met_place, pairs_end, win_place}
use Rattle.fair_plan.specs.Rounds.{AimsAt, Begins, HasVisits}
use Rattle.fair_plan.proofs.Boards.{low}

-- calls keep how many fluents there are
pub same_fluents : (origin : Origin) (x y : Scene) → IsThere origin x → IsThere origin y → x.0.sets.vars ≡ y.0.sets.vars
same_fluents origin x y first second = first.at.working.kept.vars ∙ sym second.at.working.kept.vars

pub cond_still : (origin : Origin) (x y : Scene) (cond : Cond) → IsThere origin x → IsThere origin y → IsConditionOver x.0.sets.vars cond → IsConditionOver y.0.sets.vars cond
cond_still origin x y cond first second over = subst (λ (n : ℕ). IsConditionOver n cond) (same_fluents origin x y first second) over

pub chain_stage : (origin : Origin) (x y : Scene) (chain : UntilChain) (stage : UntilStage) (i : ℕ) → i < length chain.stages.items → stage ≡ get_or chain.stages.items i stage → IsThere origin x → IsThere origin y → IsChainOver x.0.sets.vars chain
    → EachInStage (IsConditionOver y.0.sets.vars) stage
chain_stage origin x y chain stage i less is first second over =
    subst (λ (n : ℕ). EachInStage (IsConditionOver n) stage) (same_fluents origin x y first second)
    (subst (EachInStage (IsConditionOver x.0.sets.vars)) (sym is) (All-get_or (EachInStage (IsConditionOver x.0.sets.vars)) chain.stages.items i stage less over.each.stages))

pub visit_cond : (origin : Origin) (x y : Scene) (visits : List Cond) (cond : Cond) (i : ℕ) → i < length visits → cond ≡ get_or visits i cond → IsThere origin x → IsThere origin y → All (IsConditionOver x.0.sets.vars) visits → IsConditionOver y.0.sets.vars cond
visit_cond origin x y visits cond i less is first second over =
    cond_still origin x y cond first second (subst (IsConditionOver x.0.sets.vars) (sym is) (All-get_or (IsConditionOver x.0.sets.vars) visits i cond less over))

-- the steps
abbrev pub aim_steps : ℕ → ℕ → List Step
aim_steps met later = Combine met Meet met later ∷ Whole 5 ∷ []

pub aim_can : (origin : Origin) (met later : ℕ) → met < origin.start.places → later < met → AreStepsOf origin (aim_steps met later)
aim_can origin met later within less = ((within, within, omega arith), (low origin 5 (omega arith), tt))

pub whole_can : (origin : Origin) → AreStepsOf origin (Whole 6 ∷ [])
whole_can origin = (low origin 6 (omega arith), tt)

pub wholes_can : (origin : Origin) → AreStepsOf origin (Whole 6 ∷ Whole 5 ∷ [])
wholes_can origin = (low origin 6 (omega arith), (low origin 5 (omega arith), tt))

pub kept_can : (origin : Origin) (win : ℕ) → win < origin.start.places → AreStepsOf origin (Copy win 5 ∷ [])
kept_can origin win within = ((within, low origin 5 (omega arith)), tt)

-- the end
pub end_begins : (origin : Origin) (x m n : Scene) (keep : Cond) (win : ℕ) → Puts origin x m 5 (holds keep) → IsAfter origin m n (Whole 6 ∷ []) → Begins origin (end_asks (states_of keep)) true win 0 n
end_begins origin x m n keep win put after = record {
  aims = record {
    guard = λ v is. ap (λ (f : Function). f (value_of v)) (after 6 (low origin 6 (omega arith)) ∙ with_here (set_in m) 6 everything 6 refl);
    targets = λ i l. absurd (omega arith);
  };
  inside = λ v is. ap (λ (f : Function). f (value_of v)) (after 5 (low origin 5 (omega arith)) ∙ with_other (set_in m) 6 everything 5 (λ e. absurd (omega arith)) ∙ put.here);
  staying = refl;
  long = refl;
}

pub end_won : (origin : Origin) (x y : Scene) (keep : Cond) (win : ℕ) → win < origin.start.places → IsLargestFairSet (sys_of origin) (end_asks (states_of keep)) (states_in x 5) → IsAfter origin x y (Copy win 5 ∷ []) → IsChainWin (sys_of origin) (states_of keep) [] (states_in y win)
end_won origin x y keep win within largest after =
    at_end (states_in y win)
    (subst (λ (f : Function). IsLargestFairSet (sys_of origin) (end_asks (states_of keep)) (λ v. f (value_of v))) (sym (after win within ∙ with_here (set_in x) win _ win refl)) largest)

-- a stage
pub aims_at : (origin : Origin) (x m n y : Scene) (stage : UntilStage) (later met : ℕ) → met < origin.start.places → later < met → 8 < later → Puts origin x m 6 (holds stage.guard) → Puts origin m n met (holds stage.target) → IsAfter origin n y (aim_steps met later)
    → AimsAt origin (stage_sets stage) x y later met
aims_at origin x m n y stage later met within less high first second after =
    let p1 : Placed = after_step origin.start (set_in n) (Combine met Meet met later) in
    let guard : set_in y 6 ≡ holds stage.guard =
    after 6 (low origin 6 (omega arith)) ∙ with_other p1 5 everything 6 (λ e. absurd (omega arith)) ∙ with_other (set_in n) met _ 6 (λ e. absurd (omega arith))
    ∙ second.others 6 (low origin 6 (omega arith)) (λ e. absurd (omega arith)) ∙ first.here in
    let then : set_in n later ≡ set_in x later = second.others later (omega arith) (λ e. absurd (omega arith)) ∙ first.others later (omega arith) (λ e. absurd (omega arith)) in
    let here : set_in y met ≡ and_of (holds stage.target) (set_in x later) =
    after met within ∙ with_other p1 5 everything met (λ e. absurd (omega arith)) ∙ with_here (set_in n) met _ met refl
    ∙ ap (λ (f : Function). and_of f (set_in n later)) second.here ∙ ap (and_of (holds stage.target)) then in
    record {
      guard = λ v is. ap (λ (f : Function). f (value_of v)) guard;
      left = λ v is. ap (λ (f : Function). f (value_of v)) (after 5 (low origin 5 (omega arith)) ∙ with_here p1 5 everything 5 refl);
      aim = λ v is. ap (λ (f : Function). f (value_of v)) here;
    }

pub stage_begins : (origin : Origin) (stage : SetStage) (x y : Scene) (later met : ℕ) → AimsAt origin stage x y later met → Begins origin (stage_asks stage (states_in x later)) false met 1 y
stage_begins origin stage x y later met a = record {
  aims = record {
    guard = a.guard;
    targets = λ i l v is.
        let none : i ≡ 0 = omega arith in
        subst (λ (k : ℕ). states_in y (met + k) v ≡ get_or ((λ u. stage.target u && states_in x later u) ∷ []) k anywhere v) (sym none)
        (ap (λ (k : ℕ). states_in y k v) (let e : met + 0 ≡ met = omega arith in e) ∙ a.aim v is);
  };
  inside = a.left;
  staying = refl;
  long = refl;
}

pub stage_won : (origin : Origin) (stage : SetStage) (keep : SetOfVectors) (rest : List SetStage) (x m y : Scene) (later win : ℕ) → win < origin.start.places → IsChainWin (sys_of origin) keep rest (states_in x later)
    → IsLargestFairSet (sys_of origin) (stage_asks stage (states_in x later)) (states_in m 5) → IsAfter origin m y (Copy win 5 ∷ []) → IsChainWin (sys_of origin) keep (stage ∷ rest) (states_in y win)
stage_won origin stage keep rest x m y later win within won largest after =
    at_stage stage rest (states_in x later) (states_in y win) won
    (subst (λ (f : Function). IsLargestFairSet (sys_of origin) (stage_asks stage (states_in x later)) (λ v. f (value_of v))) (sym (after win within ∙ with_here (set_in m) win _ win refl)) largest)

-- the stages of a list, from the last one back
drop_map : {X Y : Type 0} (f : X → Y) (xs : List X) (k : ℕ) (d : X) → k < length xs → drop k (map f xs) ≡ f (get_or xs k d) ∷ drop (suc k) (map f xs)
drop_map f [] k d l = absurd (omega (arith, l))
drop_map f (x ∷ xs) zero d l = refl
drop_map f (x ∷ xs) (suc k) d l = drop_map f xs k d (omega (arith, l))

pub chain_last : (origin : Origin) (keep : SetOfVectors) (stages : List UntilStage) (x : Scene) (n win : ℕ) → n ≡ length stages → win ≡ win_place (actions_of origin) n → IsChainWin (sys_of origin) keep [] (states_in x win)
    → IsChainWin (sys_of origin) keep (drop n (map stage_sets stages)) (states_in x (win_place (actions_of origin) n))
chain_last origin keep stages x n win long is won =
    let many = length-map stages stage_sets in
    subst (λ (k : ℕ). IsChainWin (sys_of origin) keep (drop n (map stage_sets stages)) (states_in x k)) is
    (subst (λ (rest : List SetStage). IsChainWin (sys_of origin) keep rest (states_in x win)) (sym (drop_all n (map stage_sets stages) (omega (arith, many)))) won)

-- the stages after the one before
pub chain_later : (origin : Origin) (keep : SetOfVectors) (rest : List SetStage) (x : Scene) (i next : ℕ) → next ≡ win_place (actions_of origin) i → IsChainWin (sys_of origin) keep rest (states_in x (win_place (actions_of origin) i)) → IsChainWin (sys_of origin) keep rest (states_in x next)
chain_later origin keep rest x i next is won = subst (λ (k : ℕ). IsChainWin (sys_of origin) keep rest (states_in x k)) (sym is) won

pub chain_more : (origin : Origin) (keep : SetOfVectors) (stages : List UntilStage) (stage : UntilStage) (x : Scene) (i win : ℕ) → 0 < i → i ≤ length stages → win ≡ win_place (actions_of origin) (i - 1) → stage ≡ get_or stages (i - 1) stage
    → IsChainWin (sys_of origin) keep (stage_sets stage ∷ drop i (map stage_sets stages)) (states_in x win)
    → IsChainWin (sys_of origin) keep (drop (i - 1) (map stage_sets stages)) (states_in x (win_place (actions_of origin) (i - 1)))
chain_more origin keep stages stage x i win some few is same won =
    let e : suc (i - 1) ≡ i = omega arith in
    let l : i - 1 < length stages = omega arith in
    let list : drop (i - 1) (map stage_sets stages) ≡ stage_sets stage ∷ drop i (map stage_sets stages) =
    drop_map stage_sets stages (i - 1) stage l ∙ ap (λ (s : UntilStage). stage_sets s ∷ drop (suc (i - 1)) (map stage_sets stages)) (sym same) ∙ ap (λ (k : ℕ). stage_sets stage ∷ drop k (map stage_sets stages)) e in
    subst (λ (k : ℕ). IsChainWin (sys_of origin) keep (drop (i - 1) (map stage_sets stages)) (states_in x k)) is
    (subst (λ (rest : List SetStage). IsChainWin (sys_of origin) keep rest (states_in x win)) (sym list) won)

-- visits
pub visits_none : (origin : Origin) (visits : List Cond) (first : ℕ) (x : Scene) → HasVisits origin visits first x 0
visits_none origin visits first x i l = absurd (omega arith)

pub visits_more : (origin : Origin) (visits : List Cond) (cond : Cond) (first : ℕ) (x y : Scene) (n : ℕ) → n < length visits → first + length visits ≤ origin.start.places → cond ≡ get_or visits n cond → HasVisits origin visits first x n → Puts origin x y (first + n) (holds cond)
    → HasVisits origin visits first y (n + 1)
visits_more origin visits cond first x y n less within is h put i l v vector =
    ⊎_elim
    (λ (same : i ≡ n).
    subst (λ (k : ℕ). states_in y (first + k) v ≡ get_or (map states_of visits) k anywhere v) (sym same)
    (ap (λ (f : Function). f (value_of v)) put.here ∙ ap (λ (c : Cond). states_of c v) is ∙ sym (ap (λ (f : SetOfVectors). f v) (get_or-map states_of visits n cond anywhere less))))
    (λ (d : i ≡ n → ⊥).
    let low_i : i < n = let e = d in omega arith in
    ap (λ (f : Function). f (value_of v)) (put.others (first + i) (omega arith) (λ e. d (omega arith))) ∙ h i low_i v vector)
    (cases_eq i n)

pub visits_all : (origin : Origin) (visits : List Cond) (first : ℕ) (x : Scene) (n : ℕ) → n ≡ length visits → HasVisits origin visits first x n → HasVisits origin visits first x (length visits)
visits_all origin visits first x n e h = subst (HasVisits origin visits first x) e h

pub patrol_begins : (origin : Origin) (visits : List Cond) (first count : ℕ) (x y : Scene) → 8 ≤ first → first + length visits ≤ origin.start.places → count ≡ length visits → HasVisits origin visits first x (length visits) → IsAfter origin x y (Whole 6 ∷ Whole 5 ∷ [])
    → Begins origin (patrol_asks (map states_of visits)) true first count y
patrol_begins origin visits first count x y high within is h after =
    let p1 : Placed = after_step origin.start (set_in x) (Whole 6) in
    let many = length-map visits states_of in
    record {
      aims = record {
        guard = λ v at. ap (λ (f : Function). f (value_of v)) (after 6 (low origin 6 (omega arith)) ∙ with_other p1 5 everything 6 (λ e. absurd (omega arith)) ∙ with_here (set_in x) 6 everything 6 refl);
        targets = λ i l v at.
            let few : i < length visits = omega (arith, many) in
            ap (λ (f : Function). f (value_of v)) (after (first + i) (omega arith) ∙ with_other p1 5 everything (first + i) (λ e. absurd (omega arith)) ∙ with_other (set_in x) 6 everything (first + i) (λ e. absurd (omega arith))) ∙ h i few v at;
      };
      inside = λ v at. ap (λ (f : Function). f (value_of v)) (after 5 (low origin 5 (omega arith)) ∙ with_here p1 5 everything 5 refl);
      staying = refl;
      long = many ∙ sym is;
    }

pub patrol_won : (origin : Origin) (visits : List Cond) (x y : Scene) (win place : ℕ) → win < origin.start.places → win ≡ place → IsLargestFairSet (sys_of origin) (patrol_asks (map states_of visits)) (states_in x 5) → IsAfter origin x y (Copy win 5 ∷ []) → IsLargestFairSet (sys_of origin) (patrol_asks (map states_of visits)) (states_in y place)
patrol_won origin visits x y win place within is largest after =
    subst (λ (k : ℕ). IsLargestFairSet (sys_of origin) (patrol_asks (map states_of visits)) (states_in y k)) is
    (subst (λ (f : Function). IsLargestFairSet (sys_of origin) (patrol_asks (map states_of visits)) (λ v. f (value_of v))) (sym (after win within ∙ with_here (set_in x) win _ win refl)) largest)

-- the places of stages and visits
pub win_in : (origin : Origin) (i : ℕ) → i ≤ origin.count → win_place (actions_of origin) i + 1 + 1 ≤ origin.start.places
win_in origin i few = go ((origin.count + 1) * actions_of origin) origin.places
  where
    go : (t : ℕ) → origin.start.places ≡ pairs_end (actions_of origin) + 2 + 2 * origin.count + t → win_place (actions_of origin) i + 1 + 1 ≤ origin.start.places
    go t e = omega arith

pub met_in : (origin : Origin) (i : ℕ) → i ≤ origin.count → met_place (actions_of origin) origin.count i < origin.start.places
met_in origin i few = go ((origin.count + 1) * actions_of origin) origin.places
  where
    go : (t : ℕ) → origin.start.places ≡ pairs_end (actions_of origin) + 2 + 2 * origin.count + t → met_place (actions_of origin) origin.count i < origin.start.places
    go t e = omega arith

pub visits_in : (origin : Origin) (count actions first many : ℕ) → origin.count ≡ count → actions ≡ actions_of origin → first ≡ met_place actions count 0 → count ≡ many → first + many ≤ origin.start.places
visits_in origin count actions first many is all at long = go ((origin.count + 1) * actions_of origin) origin.places
  where
    go : (t : ℕ) → origin.start.places ≡ pairs_end (actions_of origin) + 2 + 2 * origin.count + t → first + many ≤ origin.start.places
    go t e = omega arith
