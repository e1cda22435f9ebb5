-- A goal with other propositions in their places is an until-chain or a patrol goal with these in
-- their places.
use Rattle.std.proofs.Common.{◌≡◌, List, ◌∷◌, map, Option, Some, None, refl, ap, ◌∙◌}
use Rattle.std.specs.Option.{option_map, option_or}
use Rattle.ctl_syntax.specs.ContextGoals.{plain_goal, map_goal, plain_until, plain_patrol}
use Rattle.ctl_syntax.specs.Goals.{CtlTree, CtlTrees, plain, all, af, ag, au, goal_then, no_goal, map_plain, map_plain_of}
use Rattle.ctl_syntax.specs.Patrols.{patrol_of, visits_of}
use Rattle.ctl_syntax.specs.UntilChains.{PlainUntil, TargetsThen, guarded, map_until, no_targets, reached_of, targets_of, until_of, with_target}

module _ {P R : Type 0} (f : P → R) where
  abbrev map_targets : TargetsThen P → TargetsThen R
  map_targets first = record { targets = map f first.targets; rest = map_until f first.rest }

  of_guarded : (guard : Option P) (p : P) (o : Option (TargetsThen P)) → option_map (guarded (option_map f guard) (f p)) (option_map map_targets o) ≡ option_map (map_until f) (option_map (guarded guard p) o)
  of_guarded guard p None = refl
  of_guarded guard p (Some first) = refl

  of_more : (p : P) (o : Option (TargetsThen P)) → option_map (with_target (f p)) (option_map map_targets o) ≡ option_map map_targets (option_map (with_target p) o)
  of_more p None = refl
  of_more p (Some first) = refl

  of_new : (o : Option (PlainUntil P)) → option_map no_targets (option_map (map_until f) o) ≡ option_map map_targets (option_map no_targets o)
  of_new None = refl
  of_new (Some chain) = refl

  mutual
    pub until_of_mapped : (g : CtlTree P) → until_of (map_plain f g) ≡ option_map (map_until f) (until_of g)
    until_of_mapped (ag (plain q)) = refl
    until_of_mapped (af g) = reached_of_mapped None g
    until_of_mapped (au (plain guard) g) = reached_of_mapped (Some guard) g
    until_of_mapped g = refl

    reached_of_mapped : (guard : Option P) (g : CtlTree P) → reached_of (option_map f guard) (map_plain f g) ≡ option_map (map_until f) (reached_of guard g)
    reached_of_mapped guard (plain p) = refl
    reached_of_mapped guard (all (goal_then (plain p) gs)) =
        ap (option_map (guarded (option_map f guard) (f p))) (targets_of_mapped gs) ∙ of_guarded guard p (targets_of gs)
    reached_of_mapped guard g = refl

    targets_of_mapped : (gs : CtlTrees P) → targets_of (map_plain_of f gs) ≡ option_map map_targets (targets_of gs)
    targets_of_mapped (goal_then g no_goal) = ap (option_map no_targets) (until_of_mapped g) ∙ of_new (until_of g)
    targets_of_mapped (goal_then (plain p) (goal_then h gs)) =
        ap (option_map (with_target (f p))) (targets_of_mapped (goal_then h gs)) ∙ of_more p (targets_of (goal_then h gs))
    targets_of_mapped gs = refl

  of_visit : (p : P) (o : Option (List P)) → option_map (λ ps. f p ∷ ps) (option_map (map f) o) ≡ option_map (map f) (option_map (λ ps. p ∷ ps) o)
  of_visit p None = refl
  of_visit p (Some ps) = refl

  visits_of_mapped : (gs : CtlTrees P) → visits_of (map_plain_of f gs) ≡ option_map (map f) (visits_of gs)
  visits_of_mapped (goal_then (af (plain p)) no_goal) = refl
  visits_of_mapped (goal_then (af (plain p)) (goal_then h gs)) =
      ap (option_map (λ ps. f p ∷ ps)) (visits_of_mapped (goal_then h gs)) ∙ of_visit p (visits_of (goal_then h gs))
  visits_of_mapped gs = refl

  pub patrol_of_mapped : (g : CtlTree P) → patrol_of (map_plain f g) ≡ option_map (map f) (patrol_of g)
  patrol_of_mapped (ag (af (plain p))) = refl
  patrol_of_mapped (ag (all gs)) = visits_of_mapped gs
  patrol_of_mapped g = refl

  of_both : (o : Option (PlainUntil P)) (p : Option (List P))
      → option_or (option_map plain_until (option_map (map_until f) o)) (option_map plain_patrol (option_map (map f) p))
      ≡ option_map (map_goal f) (option_or (option_map plain_until o) (option_map plain_patrol p))
  of_both None None = refl
  of_both None (Some ps) = refl
  of_both (Some chain) p = refl

  pub goal_of_mapped : (g : CtlTree P) → plain_goal (map_plain f g) ≡ option_map (map_goal f) (plain_goal g)
  goal_of_mapped g =
      ap (λ o. option_or (option_map plain_until o) (option_map plain_patrol (patrol_of (map_plain f g)))) (until_of_mapped g)
      ∙ ap (λ p. option_or (option_map plain_until (option_map (map_until f) (until_of g))) (option_map plain_patrol p)) (patrol_of_mapped g)
      ∙ of_both (until_of g) (patrol_of g)
