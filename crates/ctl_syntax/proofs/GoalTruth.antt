-- An until-chain is true where the goal of its stages is, and a patrol goal is the goal of its
-- propositions: what holds of the propositions of a goal, and where it is true.
use Rattle.std.proofs.Common.{◌≡◌, ◌↔◌, List, [], ◌∷◌, map, Option, Some, None, refl, subst, sym, ap}
use Rattle.std.specs.Prelude.{IfSome, ⊤}
use Rattle.std.specs.Option.{option_map, option_or}
use Rattle.ctl_syntax.specs.ContextGoals.{PlainGoal, plain_goal, plain_until, plain_patrol}
use Rattle.ctl_syntax.specs.Goals.{CtlTree, CtlTrees, plain, all, af, ag, au, goal_row, goal_then, no_goal, EachPlain, EachPlainOf}
use Rattle.ctl_syntax.specs.Patrols.{patrol_of, patrol_tree, visits_of}
use Rattle.ctl_syntax.specs.Paths.{EveryPathKeeps, EveryPathMeets}
use Rattle.ctl_syntax.specs.Truth.{Anything, Nothing, Satisfies, SatisfiesAll}
use Rattle.ctl_syntax.specs.UntilChains.{GuardedStage, PlainStage, PlainUntil, TargetsThen, guarded, last_guarded, no_targets, reached_of, targets_of, until_of, until_tree, with_target}
use Rattle.ctl_syntax.proofs.Alike.{EachOf, HasAll, kept_alike, kept_always, kept_list, mapped_some}

-- what holds of each of two options
pub or_some : {A : Type 0} (Q : A → Type 0) → (o p : Option A) → IfSome o Q → IfSome p Q → IfSome (option_or o p) Q
or_some Q None p first second = second
or_some Q (Some x) p first second = first

-- what holds of each proposition of a goal holds of each of its parts
module _ {P : Type 0} (Q : P → Type 0) where
  pub record EachInPlain (stage : PlainStage P) : Type 0 where
    pub guard : IfSome stage.guard Q
    pub targets : EachOf Q stage.targets

  pub record EachInStages (chain : PlainUntil P) : Type 0 where
    pub stages : EachOf EachInPlain chain.stages
    pub keep : IfSome chain.keep Q

  record EachInTargets (first : TargetsThen P) : Type 0 where
    targets : EachOf Q first.targets
    rest : EachInStages first.rest

  mutual
    pub until_each : (g : CtlTree P) → EachPlain Q g → IfSome (until_of g) EachInStages
    until_each (ag (plain q)) e = record { stages = tt; keep = e }
    until_each (af g) e = reached_each None g tt e
    until_each (au (plain guard) g) e = reached_each (Some guard) g e.0 e.1
    until_each g e = tt

    reached_each : (guard : Option P) (g : CtlTree P) → IfSome guard Q → EachPlain Q g → IfSome (reached_of guard g) EachInStages
    reached_each guard (plain p) first e = record { stages = (record { guard = first; targets = (e, tt) }, tt); keep = tt }
    reached_each guard (all (goal_then (plain p) gs)) first e =
        mapped_some (guarded guard p) EachInTargets EachInStages
        (λ next s. record { stages = (record { guard = first; targets = (e.0, s.targets) }, s.rest.stages); keep = s.rest.keep })
        (targets_of gs) (targets_each gs e.1)
    reached_each guard g first e = tt

    targets_each : (gs : CtlTrees P) → EachPlainOf Q gs → IfSome (targets_of gs) EachInTargets
    targets_each (goal_then g no_goal) e =
        mapped_some no_targets EachInStages EachInTargets (λ chain s. record { targets = tt; rest = s }) (until_of g) (until_each g e.0)
    targets_each (goal_then (plain p) gs) e =
        mapped_some (with_target p) EachInTargets EachInTargets (λ first s. record { targets = (e.0, s.targets); rest = s.rest }) (targets_of gs) (targets_each gs e.1)
    targets_each gs e = tt

  visits_each : (gs : CtlTrees P) → EachPlainOf Q gs → IfSome (visits_of gs) (EachOf Q)
  visits_each (goal_then (af (plain p)) no_goal) e = (e.0, tt)
  visits_each (goal_then (af (plain p)) gs) e =
      mapped_some (λ (ps : List P). p ∷ ps) (EachOf Q) (EachOf Q) (λ ps s. (e.0, s)) (visits_of gs) (visits_each gs e.1)
  visits_each gs e = tt

  pub patrol_each : (g : CtlTree P) → EachPlain Q g → IfSome (patrol_of g) (EachOf Q)
  patrol_each (ag (af (plain p))) e = (e, tt)
  patrol_each (ag (all gs)) e = visits_each gs e
  patrol_each g e = tt

  abbrev pub EachInPlainGoal : PlainGoal P → Type 0
  EachInPlainGoal (plain_until chain) = EachInStages chain
  EachInPlainGoal (plain_patrol ps) = EachOf Q ps

  pub goal_each : (g : CtlTree P) → EachPlain Q g → IfSome (plain_goal g) EachInPlainGoal
  goal_each g e =
      or_some EachInPlainGoal (option_map plain_until (until_of g)) (option_map plain_patrol (patrol_of g))
      (mapped_some plain_until EachInStages EachInPlainGoal (λ chain s. s) (until_of g) (until_each g e))
      (mapped_some plain_patrol (EachOf Q) EachInPlainGoal (λ ps s. s) (patrol_of g) (patrol_each g e))

-- where a goal is true

module _ {X : Type 0} (Step : X → X → Type 0) where
  until_weaker : (G H I J : X → Type 0) → ((x : X) → G x → I x) → ((x : X) → H x → J x) → (x : X) → EveryPathMeets Step G H x → EveryPathMeets Step I J x
  until_weaker G H I J guards targets x e = record {
    steps = e.steps;
    meets = λ rest long path.
        let m = e.meets rest long path in
        record { place = m.place; node = m.node; is = m.is; has = targets m.node m.has; before = λ k y l at. guards y (m.before k y l at) };
  }

  -- what comes about, and what holds until then, where two other goals are true where they are
  pub until_alike : (G H I J : X → Type 0) → ((x : X) → G x ↔ I x) → ((x : X) → H x ↔ J x) → (x : X) → EveryPathMeets Step G H x ↔ EveryPathMeets Step I J x
  until_alike G H I J guards targets x = (
    until_weaker G H I J (λ y. (guards y).0) (λ y. (targets y).0) x,
    until_weaker I J G H (λ y. (guards y).1) (λ y. (targets y).1) x,
  )

  module _ {P : Type 0} (Has : P → X → Type 0) where
    abbrev HoldEach : List P → X → Type 0
    HoldEach = HasAll Step Has

    -- a stage of lists: the guard's proposition, or none, and those that the stage asks for
    abbrev pub list_stage : PlainStage P → GuardedStage (List P)
    list_stage stage = record { guard = kept_list stage.guard; target = stage.targets }

    -- the goal of an until-chain's stages is true, each of lists of propositions
    abbrev pub UntilIsTrue : PlainUntil P → X → Type 0
    UntilIsTrue chain x = Satisfies Step HoldEach (until_tree (map list_stage chain.stages) (kept_list chain.keep)) x

    abbrev TargetsAreTrue : TargetsThen P → X → Type 0
    TargetsAreTrue first x = HoldEach first.targets x × UntilIsTrue first.rest x

    abbrev IsAlike : CtlTree P → PlainUntil P → Type 0
    IsAlike g chain = (x : X) → Satisfies Step Has g x ↔ UntilIsTrue chain x

    abbrev AreAlike : CtlTrees P → TargetsThen P → Type 0
    AreAlike gs first = (x : X) → SatisfiesAll Step Has gs x ↔ TargetsAreTrue first x

    -- the goal that something comes about, with this guard until then
    abbrev Reaches : Option P → CtlTree P → X → Type 0
    Reaches guard g x = EveryPathMeets Step (HoldEach (kept_list guard)) (Satisfies Step Has g) x

    abbrev IsReachedAlike : Option P → CtlTree P → PlainUntil P → Type 0
    IsReachedAlike guard g chain = (x : X) → Reaches guard g x ↔ UntilIsTrue chain x

    last_alike : (g : CtlTree P) (chain : PlainUntil P) → IsAlike g chain → AreAlike (goal_then g no_goal) (no_targets chain)
    last_alike g chain same x = (λ s. (tt, (same x).0 s.0), λ s. ((same x).1 s.1, tt))

    first_alike : (p : P) (gs : CtlTrees P) (first : TargetsThen P) → AreAlike gs first → AreAlike (goal_then (plain p) gs) (with_target p first)
    first_alike p gs first same x = (
      λ s. let more = (same x).0 s.1 in ((s.0, more.0), more.1),
      λ s. (s.0.0, (same x).1 (s.0.1, s.1)),
    )

    itself : (G : X → Type 0) (x : X) → G x ↔ G x
    itself G x = (λ s. s, λ s. s)

    guarded_alike : (guard : Option P) (p : P) (gs : CtlTrees P) (first : TargetsThen P) → AreAlike gs first → IsReachedAlike guard (all (goal_then (plain p) gs)) (guarded guard p first)
    guarded_alike guard p gs first same x =
        until_alike (HoldEach (kept_list guard)) (SatisfiesAll Step Has (goal_then (plain p) gs)) (HoldEach (kept_list guard)) (λ y. HoldEach (p ∷ first.targets) y × (UntilIsTrue first.rest y × ⊤))
        (itself (HoldEach (kept_list guard)))
        (λ y. (
          λ s. let more = (same y).0 s.1 in ((s.0, more.0), (more.1, tt)),
          λ s. (s.0.0, (same y).1 (s.0.1, s.1.0)),
        ))
        x

    reached_last : (guard : Option P) (p : P) → IsReachedAlike guard (plain p) (last_guarded guard p)
    reached_last guard p x =
        until_alike (HoldEach (kept_list guard)) (Has p) (HoldEach (kept_list guard)) (λ y. HoldEach (p ∷ []) y × (EveryPathKeeps Step (HoldEach []) Nothing y × ⊤))
        (itself (HoldEach (kept_list guard)))
        (λ y. (λ h. ((h, tt), (kept_always Step (HoldEach []) (λ z. tt) y, tt)), λ h. h.0.0))
        x

    -- `af` has the guard that asks for nothing, and another guard is one proposition
    af_alike : (g : CtlTree P) (chain : PlainUntil P) → IsReachedAlike None g chain → IsAlike (af g) chain
    af_alike g chain same x =
        let first = until_alike Anything (Satisfies Step Has g) (HoldEach []) (Satisfies Step Has g) (λ y. (λ s. tt, λ s. tt)) (itself (Satisfies Step Has g)) x in
        (λ s. (same x).0 (first.0 s), λ s. first.1 ((same x).1 s))

    au_alike : (guard : P) (g : CtlTree P) (chain : PlainUntil P) → IsReachedAlike (Some guard) g chain → IsAlike (au (plain guard) g) chain
    au_alike guard g chain same x =
        let first = until_alike (Has guard) (Satisfies Step Has g) (HoldEach (guard ∷ [])) (Satisfies Step Has g) (λ y. (λ s. (s, tt), λ s. s.0)) (itself (Satisfies Step Has g)) x in
        (λ s. (same x).0 (first.0 s), λ s. first.1 ((same x).1 s))

    if_some : {A : Type 0} (Q R : A → Type 0) → ((x : A) → Q x → R x) → (o : Option A) → IfSome o Q → IfSome o R
    if_some Q R each None s = tt
    if_some Q R each (Some x) s = each x s

    mutual
      pub until_is : (g : CtlTree P) → IfSome (until_of g) (IsAlike g)
      until_is (ag (plain q)) = λ x. kept_alike Step (Has q) (HoldEach (q ∷ [])) (λ y. (λ h. (h, tt), λ h. h.0)) x
      until_is (af g) = if_some (IsReachedAlike None g) (IsAlike (af g)) (af_alike g) (reached_of None g) (reached_is None g)
      until_is (au (plain guard) g) = if_some (IsReachedAlike (Some guard) g) (IsAlike (au (plain guard) g)) (au_alike guard g) (reached_of (Some guard) g) (reached_is (Some guard) g)
      until_is g = tt

      reached_is : (guard : Option P) (g : CtlTree P) → IfSome (reached_of guard g) (IsReachedAlike guard g)
      reached_is guard (plain p) = reached_last guard p
      reached_is guard (all (goal_then (plain p) gs)) =
          mapped_some (guarded guard p) (AreAlike gs) (IsReachedAlike guard (all (goal_then (plain p) gs))) (guarded_alike guard p gs) (targets_of gs) (targets_are gs)
      reached_is guard g = tt

      targets_are : (gs : CtlTrees P) → IfSome (targets_of gs) (AreAlike gs)
      targets_are (goal_then g no_goal) =
          mapped_some no_targets (IsAlike g) (AreAlike (goal_then g no_goal)) (last_alike g) (until_of g) (until_is g)
      targets_are (goal_then (plain p) gs) =
          mapped_some (with_target p) (AreAlike gs) (AreAlike (goal_then (plain p) gs)) (first_alike p gs) (targets_of gs) (targets_are gs)
      targets_are gs = tt

    -- each of some propositions comes about again and again
    abbrev pub PatrolIsTrue : List P → X → Type 0
    PatrolIsTrue ps x = Satisfies Step Has (patrol_tree ps) x

    row_then : (p : P) (gs : CtlTrees P) (ps : List P) → gs ≡ goal_row (map (λ q. af (plain q)) ps) → goal_then (af (plain p)) gs ≡ goal_row (map (λ q. af (plain q)) (p ∷ ps))
    row_then p gs ps is = ap (goal_then (af (plain p))) is

    -- a row of goals that something comes about is the row of its propositions
    visits_are : (gs : CtlTrees P) → IfSome (visits_of gs) (λ ps. gs ≡ goal_row (map (λ q. af (plain q)) ps))
    visits_are (goal_then (af (plain p)) no_goal) = refl
    visits_are (goal_then (af (plain p)) gs) =
        mapped_some (λ (ps : List P). p ∷ ps) (λ (ps : List P). gs ≡ goal_row (map (λ q. af (plain q)) ps)) (λ (ps : List P). goal_then (af (plain p)) gs ≡ goal_row (map (λ q. af (plain q)) ps))
        (λ ps is. row_then p gs ps is) (visits_of gs) (visits_are gs)
    visits_are gs = tt

    row_alike : (gs : CtlTrees P) (ps : List P) → gs ≡ goal_row (map (λ q. af (plain q)) ps) → (x : X) → Satisfies Step Has (ag (all gs)) x ↔ PatrolIsTrue ps x
    row_alike gs ps is x = (
      subst (λ (row : CtlTrees P). Satisfies Step Has (ag (all row)) x) is,
      subst (λ (row : CtlTrees P). Satisfies Step Has (ag (all row)) x) (sym is),
    )

    pub patrol_is : (g : CtlTree P) → IfSome (patrol_of g) (λ ps. (x : X) → Satisfies Step Has g x ↔ PatrolIsTrue ps x)
    patrol_is (ag (af (plain p))) = λ x.
        kept_alike Step (EveryPathMeets Step Anything (Has p)) (λ y. EveryPathMeets Step Anything (Has p) y × ⊤) (λ y. (λ h. (h, tt), λ h. h.0)) x
    patrol_is (ag (all gs)) =
        if_some (λ (ps : List P). gs ≡ goal_row (map (λ q. af (plain q)) ps)) (λ (ps : List P). (x : X) → Satisfies Step Has (ag (all gs)) x ↔ PatrolIsTrue ps x)
        (row_alike gs) (visits_of gs) (visits_are gs)
    patrol_is g = tt

    -- what a goal's parts ask for
    abbrev pub GoalIsTrue : PlainGoal P → X → Type 0
    GoalIsTrue (plain_until chain) x = UntilIsTrue chain x
    GoalIsTrue (plain_patrol ps) x = PatrolIsTrue ps x

    pub goal_is : (g : CtlTree P) → IfSome (plain_goal g) (λ found. (x : X) → Satisfies Step Has g x ↔ GoalIsTrue found x)
    goal_is g =
        or_some (λ (found : PlainGoal P). (x : X) → Satisfies Step Has g x ↔ GoalIsTrue found x) (option_map plain_until (until_of g)) (option_map plain_patrol (patrol_of g))
        (mapped_some plain_until (IsAlike g) (λ (found : PlainGoal P). (x : X) → Satisfies Step Has g x ↔ GoalIsTrue found x) (λ chain s. s) (until_of g) (until_is g))
        (mapped_some plain_patrol (λ (ps : List P). (x : X) → Satisfies Step Has g x ↔ PatrolIsTrue ps x) (λ (found : PlainGoal P). (x : X) → Satisfies Step Has g x ↔ GoalIsTrue found x) (λ ps s. s) (patrol_of g) (patrol_is g))

-- no goal is both
pub not_both : {P : Type 0} (g : CtlTree P) (chain : PlainUntil P) (ps : List P) → until_of g ≡ Some chain → patrol_of g ≡ Some ps → ⊥
not_both (ag (plain q)) chain ps first second = cc
not_both (af g) chain ps first second = cc
not_both (au (plain guard) g) chain ps first second = cc
not_both g chain ps first second = cc
