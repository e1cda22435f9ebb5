-- Where no way leads to a number at which a goal over all runs fails, the goal is true.
use Rattle.std.proofs.Common.{◌≡◌, ℕ, ◌<◌, Bool, true, false, List, [], ◌∷◌, ◌++◌, length, refl, sym, ◌∙◌, subst, ⊎_elim, inr}
use Rattle.std.specs.List.{Contains}
use Rattle.std.proofs.lemmas.Bool.{false≢true}
use Rattle.ctl_syntax.specs.Paths.{EveryPathKeeps, EveryPathMeets, MeetsOrKeeps}
use Rattle.ctl_syntax.proofs.Meeting.{holds_here, holds_later, keeps_more, keeps_nothing}
use Rattle.plan_check.specs.Labels.{IsLeast, Shows, is_led, mark_at}
use Rattle.plan_check.specs.Walks.{StaysBelow, last_number}
use Rattle.plan_check.specs.declared.spreading.Need.TheVariants.{Each}
use Rattle.plan_check.proofs.LabelFacts.{decided, each_fails}
use Rattle.plan_check.proofs.WalkFacts.{last_append, walk_append}
use Rattle.plan_check.proofs.LabelTruth.{every_until, is_decided, is_so}
use Rattle.task_core.specs.Paths.{IsPath}
use Rattle.goal_witness.specs.Walks.{IsRoundWithout, IsWalkWithout, Lacks, NoneWithout}
use Rattle.goal_witness.proofs.Endless.{found_round}
use Rattle.goal_witness.proofs.Kept.{each_push, each_weaker}

module _ (n : ℕ) (next : ℕ → List ℕ) (stays : StaysBelow n next) where
  abbrev Follows : ℕ → ℕ → Type 0
  Follows i j = Contains (next i) j

  module _ (G H : ℕ → Type 0) (left right : List Bool) (first : Shows n G left) (second : Shows n H right) where
    lacks_left : (i : ℕ) → i < n → (G i → ⊥) → Lacks left i
    lacks_left i l none = ⊎_elim (λ (t : mark_at left i ≡ true). absurd (none (is_so n G left first i l t))) (λ f. f) (decided (mark_at left i))

    pub lacks_right : (i : ℕ) → i < n → (H i → ⊥) → Lacks right i
    lacks_right i l none = ⊎_elim (λ (t : mark_at right i ≡ true). absurd (none (is_so n H right second i l t))) (λ f. f) (decided (mark_at right i))

    never : (i : ℕ) → i < n → (Lacks right i → NoneWithout next right (Lacks left) i) → (G i → ⊥) → (H i → ⊥) → ⊥
    never i l none no_g no_h =
        let lacks = lacks_right i l no_h in
        none lacks [] (record { walk = tt; each = lacks }) (lacks_left i l no_g)

    keeps_on : (rest : List ℕ) (i : ℕ) → i < n → IsPath Follows i rest → (Lacks right i → NoneWithout next right (Lacks left) i) → MeetsOrKeeps G H (i ∷ rest)
    keeps_on [] i l p none =
        ⊎_elim
        (λ h. holds_here G H i [] h)
        (λ no_h. ⊎_elim (λ g. inr (keeps_more G i [] g (keeps_nothing G))) (λ no_g. absurd (never i l none no_g no_h)) (is_decided n G left first i l))
        (is_decided n H right second i l)
    keeps_on (j ∷ rest) i l p none =
        ⊎_elim
        (λ h. holds_here G H i (j ∷ rest) h)
        (λ no_h. ⊎_elim
        (λ g.
        let lacks = lacks_right i l no_h in
        holds_later G H i (j ∷ rest) g
        (keeps_on rest j (stays i j l p.0) p.1 (λ m ys w e. none lacks (j ∷ ys) (record { walk = (p.0, w.walk); each = (lacks, w.each) }) e)))
        (λ no_g. absurd (never i l none no_g no_h))
        (is_decided n G left first i l))
        (is_decided n H right second i l)

    pub keeps_everywhere : (i : ℕ) → i < n → NoneWithout next right (Lacks left) i → EveryPathKeeps Follows G H i
    keeps_everywhere i l none k rest long p = keeps_on rest i l p (λ _. none)

-- where an until fails, and no way leads to a number that lacks both, some way that lacks the second comes back
module _ (n : ℕ) (next : ℕ → List ℕ) (stays : StaysBelow n next) (full : (i : ℕ) → i < n → (j : ℕ) × Contains (next i) j)
    (left right whole : List Bool) (left_count : length left ≡ n) (right_count : length right ≡ n) (least : IsLeast n Each next left right whole) (i : ℕ) (l : i < n)
    (none : NoneWithout next right (Lacks left) i)
    (misses : EveryPathMeets (λ j k. Contains (next j) k) (λ j. mark_at left j ≡ true) (λ j. mark_at right j ≡ true) i → ⊥) where
  pub whole_lacks : Lacks whole i
  whole_lacks =
      ⊎_elim
      (λ (t : mark_at whole i ≡ true).
      absurd (misses (((every_until n next stays (λ j. mark_at left j ≡ true) (λ j. mark_at right j ≡ true) left right
      (record { count = left_count; each = λ j b. ((λ e. e), (λ e. e)) }) (record { count = right_count; each = λ j b. ((λ e. e), (λ e. e)) }) whole least full).each i l).0 t)))
      (λ f. f)
      (decided (mark_at whole i))

  pub right_lacks : (x : ℕ) → Lacks whole x → Lacks right x
  right_lacks x f = ⊎_elim (λ (t : mark_at right x ≡ true). absurd (false≢true (sym f ∙ least.targets x t))) (λ e. e) (decided (mark_at right x))

  -- numbers to which a way leads that lacks the second, and at which the until fails
  record Stays (x : ℕ) : Type 0 where
    below : x < n
    rest : List ℕ
    walk : IsWalkWithout next right i rest
    ends : last_number i rest ≡ x
    fails : Lacks whole x

  onward : (x : ℕ) → Stays x → (y : ℕ) × Contains (next x) y × Stays y
  onward x s =
      let has_left : mark_at left x ≡ true =
      ⊎_elim (λ (t : mark_at left x ≡ true). t) (λ (f : mark_at left x ≡ false). absurd (none s.rest s.walk (subst (Lacks left) (sym s.ends) f))) (decided (mark_at left x)) in
      let not_led : is_led Each (mark_at whole) (next x) ≡ false =
      ⊎_elim (λ (t : is_led Each (mark_at whole) (next x) ≡ true). absurd (false≢true (sym s.fails ∙ least.closed x s.below has_left t))) (λ f. f) (decided (is_led Each (mark_at whole) (next x))) in
      let w = each_fails (mark_at whole) (next x) not_led in
      let y = w.0 in (
        y,
        w.1,
        record {
          below = stays x y s.below w.1;
          rest = s.rest ++ y ∷ [];
          walk = record {
            walk = walk_append next i s.rest (y ∷ []) s.walk.walk (subst (λ k. Contains (next k) y) (sym s.ends) w.1, tt);
            each = each_push (Lacks right) i s.rest y s.walk.each (right_lacks y w.2);
          };
          ends = last_append i s.rest (y ∷ []);
          fails = w.2;
        },
      )

  pub comes_back : NoneWithout next right (IsRoundWithout next right) i → ⊥
  comes_back never =
      let found = found_round n next Stays (λ x s. s.below) onward i
      (record { below = l; rest = []; walk = record { walk = tt; each = right_lacks i whole_lacks }; ends = refl; fails = whole_lacks }) in
      let s = found.is in
      never s.rest s.walk (subst (IsRoundWithout next right) (sym s.ends) (record {
        follower = found.follower;
        rest = found.rest;
        walk = record { walk = found.walk; each = each_weaker Stays (Lacks right) (λ x t. right_lacks x t.fails) found.number (found.follower ∷ found.rest) found.each };
        round = found.round;
      }))
