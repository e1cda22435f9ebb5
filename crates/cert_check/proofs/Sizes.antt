-- The sets of a verdict are small, or rough: for a large width each set is, and where the working sets are
-- small for w, those of a verdict are for a number whose square is little more than w ^ 3.
use Rattle.std.proofs.Common.{◌≡◌, ℕ, zero, suc, ◌+◌, ◌*◌, ◌^◌, ◌<◌, ◌≤◌, not, ◌&&◌, List, [], ◌∷◌, take, length, refl, sym, subst, ⊎_elim, arith, mul-le-mul_right}
use Rattle.std.proofs.lemmas.Bool.{cases_lt}
use Rattle.list_laws.proofs.Numbers.{below_power_two}
use Rattle.dd_nodes.specs.Subfunctions.{Function, nodes}
use Rattle.dd_ops.specs.Operations.{minus_of, or_of}
use Rattle.dd_sets.specs.LiveSets.{LiveSets, live_sets}
use Rattle.dd_sets.specs.Rooms.{AreRough, NoRoom, Rough, Small}
use Rattle.dd_sets.proofs.NoRoomLemmas.{no_room_small}
use Rattle.dd_sets.proofs.OperationSizes.{difference_rough, nodes_of_both}
use Rattle.dd_sets.proofs.SizeLemmas.{every_small, small_rough, small_wider}
use Rattle.encode_task.specs.TaskSets.{cube_set, exec_set, goal_states_set, initial_set, lands_set, led_into, space_set}
use Rattle.preimage.specs.Preimages.{strong_preimage, weak_preimage}
use Rattle.preimage.specs.WorkingSets.{IsMadeByRound, PreimageFits, first_every, first_some, hits_at}
use Rattle.preimage.specs.WorkingSets.IsMadeByRound.{itself}
use Rattle.preimage.proofs.SizeLemmas.{every_fits, some_fits, strong_small, weak_small}
use Rattle.task_core.specs.Tasks.{action_count, fluent_count}
use Rattle.task_core.specs.declared.classes.Class.{Class}
use Rattle.task_core.specs.declared.classes.Class.TheVariants.{Weak, Strong, Cyclic}
use Rattle.task_core.specs.declared.tasks.Task.{Task}
use Rattle.plan_certs.specs.Certificates.{CubeSet, PlainCertificate, set_at}
use Rattle.cert_check.specs.Sets.{states_in, states_of, way_out_set}
use Rattle.cert_check.specs.Sizes.{AreFit, IsRoundSet, BoundsJudgedSets, WayFits}
use Rattle.cert_check.proofs.CubeNodes.{cube_small}
use Rattle.board_steps.proofs.MakeLemmas.{at_any}
use Rattle.cert_check.proofs.VerdictLemmas.{union_next}
use Rattle.cert_check.specs.Sizes.IsRoundSet.{initial, space, one_set, first_sets}
use Rattle.cert_check.specs.Sizes.IsWorkingSet.{goal, first_cubes, by_some, by_every}

-- for the large width
every_rough : (n : ℕ) (set : Function) → Rough n (2 ^ n + 1) set
every_rough n set = small_rough n (2 ^ n + 1) set (every_small n set)

every_preimage : (task : Task) (a : ℕ) (first : Task → ℕ → ℕ → Function → Function) (set : Function) → PreimageFits (2 ^ fluent_count task + 1) task a first set
every_preimage task a first set = record {
  wide = below_power_two (fluent_count task);
  given = every_small (fluent_count task) set;
  exec = every_small (fluent_count task) (exec_set task a);
  lands = λ o low. every_small (fluent_count task) (lands_set task a o);
  firsts = λ j. every_small (fluent_count task) (first task a j set);
  led = λ o low part sub. every_small (fluent_count task) (led_into task a o part);
}

every_way : (class : Class) (task : Task) (f g : Function) (a : ℕ) → WayFits (2 ^ fluent_count task + 1) class task f g a
every_way Weak task f g a = every_preimage task a first_every g
every_way Strong task f g a = every_preimage task a first_some g
every_way Cyclic task f g a = (every_preimage task a first_some f, every_preimage task a first_every (or_of f g))

pub large_fits : (class : Class) (task : Task) (sets : List CubeSet) → AreFit (2 ^ fluent_count task + 1) class task sets
large_fits class task sets = record {
  wide = below_power_two (fluent_count task);
  initial = every_small (fluent_count task) (initial_set task);
  goal = every_small (fluent_count task) (goal_states_set task);
  space = every_small (fluent_count task) (space_set task);
  cubes = λ cube below. every_small (fluent_count task) (cube_set cube);
  first_cubes = λ set has j. every_small (fluent_count task) (states_in task (take j set));
  first_sets = λ j. every_small (fluent_count task) (states_of task (take j sets));
  ways = λ i within a low. every_way class task (states_of task (take i sets)) (states_in task (set_at sets i)) a;
  left = λ i within a low. every_rough (fluent_count task) (way_out_set class task (states_of task (take i sets)) (states_in task (set_at sets i)) a);
}

-- a number whose square is at least n, and little more
record Root (n : ℕ) : Type 0 where
  root : ℕ
  enough : n ≤ root * root
  few : root * root + 2 ≤ n + 2 * root

root_of : (n : ℕ) → Root (suc n)
root_of zero = record { root = 1; enough = omega arith; few = omega arith }
root_of (suc n) =
    let before = root_of n in
    let r = before.root in
    let enough : suc n ≤ r * r = before.enough in
    let few : r * r + 2 ≤ suc n + 2 * r = before.few in
    ⊎_elim
    (λ (less : suc n < r * r). record { root = r; enough = omega arith; few = omega arith })
    (λ (most : r * r ≤ suc n). record { root = suc r; enough = omega arith; few = omega arith })
    (cases_lt (suc n) (r * r))

-- with w ^ 3 + 2 w for n, 13 slots with sets that are small for the root, and 7 that are rough for it, have few nodes
cube_large : (w : ℕ) → 2 ≤ w → 19 * w ≤ w * w * w + 30
cube_large zero two = omega (arith, two)
cube_large (suc zero) two = omega (arith, two)
cube_large (suc (suc zero)) two = omega arith
cube_large (suc (suc (suc k))) two = omega arith

square_large : (r : ℕ) → 10 * r ≤ r * r + 25
square_large zero = omega arith
square_large (suc zero) = omega arith
square_large (suc (suc zero)) = omega arith
square_large (suc (suc (suc zero))) = omega arith
square_large (suc (suc (suc (suc zero)))) = omega arith
square_large (suc (suc (suc (suc (suc k))))) = omega arith

few_nodes : (w r : ℕ) → 2 ≤ w → w * w * w + 2 * w ≤ r * r → r * r + 2 ≤ w * w * w + 2 * w + 2 * r → 13 * r + 7 * (r * r) ≤ 24 * w + 17 * (w * w * w)
few_nodes w r two enough few = omega (arith, two, enough, few, cube_large w two, square_large r)

root_wide : (w r : ℕ) → 2 ≤ w → w * w * w + 2 * w ≤ r * r → w ≤ r
root_wide w r two enough = ⊎_elim
    (λ (less : r < w).
    let one : r * r ≤ w * r = mul-le-mul_right r (omega (arith, less)) in
    let more : r * w ≤ w * w = mul-le-mul_right w (omega (arith, less)) in
    let cube : w * w ≤ (w * w) * w = square_cube w (omega (arith, two)) in
    absurd (omega (arith, one, more, cube, enough, two)))
    (λ (most : w ≤ r). most)
    (cases_lt r w)
  where
    square_cube : (w : ℕ) → 1 ≤ w → w * w ≤ (w * w) * w
    square_cube zero one = omega arith
    square_cube (suc w) one = omega arith

-- what is small for w
wider_preimage : (w r : ℕ) (task : Task) (a : ℕ) (first : Task → ℕ → ℕ → Function → Function) (set : Function) → w ≤ r → PreimageFits w task a first set → PreimageFits r task a first set
wider_preimage w r task a first set wider fits =
    let wide : fluent_count task + 2 ≤ w = fits.wide in
    let n = fluent_count task in
    record {
      wide = omega arith;
      given = small_wider n w r set wider fits.given;
      exec = small_wider n w r (exec_set task a) wider fits.exec;
      lands = λ o low. small_wider n w r (lands_set task a o) wider (fits.lands o low);
      firsts = λ j. small_wider n w r (first task a j set) wider (fits.firsts j);
      led = λ o low part sub. small_wider n w r (led_into task a o part) wider (fits.led o low part sub);
    }

wider_way : (w r : ℕ) (class : Class) (task : Task) (f g : Function) (a : ℕ) → w ≤ r → WayFits w class task f g a → WayFits r class task f g a
wider_way w r Weak task f g a wider fits = wider_preimage w r task a first_every g wider fits
wider_way w r Strong task f g a wider fits = wider_preimage w r task a first_some g wider fits
wider_way w r Cyclic task f g a wider fits = (wider_preimage w r task a first_some f wider fits.0, wider_preimage w r task a first_every (or_of f g) wider fits.1)

module _ (w : ℕ) (task : Task) (certificate : PlainCertificate) (wide : BoundsJudgedSets w task certificate) where
  by_round : (set : Function) → IsRoundSet task certificate set → (f : Function) → IsMadeByRound task first_some (hits_at first_some task set) set f → Small (fluent_count task) w f
  by_round set round f made = wide.each f (by_some f (set, round, made))

  by_round_every : (set : Function) → IsRoundSet task certificate set → (f : Function) → IsMadeByRound task first_every (hits_at first_every task set) set f → Small (fluent_count task) w f
  by_round_every set round f made = wide.each f (by_every f (set, round, made))

  round_small : (set : Function) → IsRoundSet task certificate set → Small (fluent_count task) w set
  round_small set round = by_round set round set itself

  some_of : (set : Function) (a : ℕ) → IsRoundSet task certificate set → a < action_count task → PreimageFits w task a first_some set
  some_of set a round low = some_fits w task a set (hits_at first_some task set) (hits_at first_some task (space_set task)) wide.wide low (by_round set round) (by_round (space_set task) space)

  every_of : (set : Function) (a : ℕ) → IsRoundSet task certificate set → a < action_count task → PreimageFits w task a first_every set
  every_of set a round low = every_fits w task a set (hits_at first_every task set) (hits_at first_every task (space_set task)) wide.wide low (by_round_every set round) (by_round_every (space_set task) space)

  -- each set is a round set, and so is the union with it
  set_round : (i : ℕ) → i < length certificate.sets → IsRoundSet task certificate (states_in task (set_at certificate.sets i))
  set_round i within = one_set (set_at certificate.sets i) (i, within, at_any certificate.sets i (set_at certificate.sets i) [] within)

  next_round : (i : ℕ) → i < length certificate.sets → IsRoundSet task certificate (or_of (states_of task (take i certificate.sets)) (states_in task (set_at certificate.sets i)))
  next_round i within = subst (IsRoundSet task certificate) (sym (union_next task certificate.sets i within)) (first_sets (suc i))

  way_of : (class : Class) (i a : ℕ) → i < length certificate.sets → a < action_count task → WayFits w class task (states_of task (take i certificate.sets)) (states_in task (set_at certificate.sets i)) a
  way_of Weak i a within low = every_of (states_in task (set_at certificate.sets i)) a (set_round i within) low
  way_of Strong i a within low = some_of (states_in task (set_at certificate.sets i)) a (set_round i within) low
  way_of Cyclic i a within low = (some_of (states_of task (take i certificate.sets)) a (first_sets i) low, every_of (or_of (states_of task (take i certificate.sets)) (states_in task (set_at certificate.sets i))) a (next_round i within) low)

  -- what may be left is as rough as three small sets make it
  module _ (r : ℕ) (two : 2 ≤ w) (enough : w * w * w + 2 * w ≤ r * r) where
    two_made : (f g : Function) → Small (fluent_count task) w f → Small (fluent_count task) w g → Rough (fluent_count task) r (minus_of f g)
    unfolding AreRough Small
    two_made f g small_f small_g =
        let most : nodes (fluent_count task) (minus_of f g ∷ []) ≤ (nodes (fluent_count task) (f ∷ []) + 2) * (nodes (fluent_count task) (g ∷ []) + 2) = nodes_of_both (fluent_count task) (λ a b. a && not b) f g in
        let one : nodes (fluent_count task) (f ∷ []) + 2 ≤ w = small_f in
        let other : nodes (fluent_count task) (g ∷ []) + 2 ≤ w = small_g in
        let first : (nodes (fluent_count task) (f ∷ []) + 2) * (nodes (fluent_count task) (g ∷ []) + 2) ≤ w * (nodes (fluent_count task) (g ∷ []) + 2) = mul-le-mul_right (nodes (fluent_count task) (g ∷ []) + 2) one in
        let second : (nodes (fluent_count task) (g ∷ []) + 2) * w ≤ w * w = mul-le-mul_right w other in
        let cube : w * w ≤ w * w * w = square_less w two in
        omega (arith, most, first, second, cube, enough)
      where
        square_less : (w : ℕ) → 2 ≤ w → w * w ≤ w * w * w
        square_less zero two = omega arith
        square_less (suc w) two = omega arith

    three_made : (f g h : Function) → Small (fluent_count task) w f → Small (fluent_count task) w g → Small (fluent_count task) w h → Rough (fluent_count task) r (minus_of (minus_of f g) h)
    unfolding AreRough Small
    three_made f g h small_f small_g small_h =
        let inner : nodes (fluent_count task) (minus_of f g ∷ []) ≤ w * w = difference_rough (fluent_count task) w f g small_f small_g in
        let most : nodes (fluent_count task) (minus_of (minus_of f g) h ∷ []) ≤ (nodes (fluent_count task) (minus_of f g ∷ []) + 2) * (nodes (fluent_count task) (h ∷ []) + 2) = nodes_of_both (fluent_count task) (λ a b. a && not b) (minus_of f g) h in
        let last : nodes (fluent_count task) (h ∷ []) + 2 ≤ w = small_h in
        let few : nodes (fluent_count task) (minus_of f g ∷ []) + 2 ≤ w * w + 2 = omega (arith, inner) in
        let first : (nodes (fluent_count task) (minus_of f g ∷ []) + 2) * (nodes (fluent_count task) (h ∷ []) + 2) ≤ (w * w + 2) * (nodes (fluent_count task) (h ∷ []) + 2) = mul-le-mul_right (nodes (fluent_count task) (h ∷ []) + 2) few in
        let second : (nodes (fluent_count task) (h ∷ []) + 2) * (w * w + 2) ≤ w * (w * w + 2) = mul-le-mul_right (w * w + 2) last in
        omega (arith, most, first, second, enough)

    left_of : (class : Class) (f g : Function) (a : ℕ) → WayFits w class task f g a → Rough (fluent_count task) r (way_out_set class task f g a)
    left_of Weak f g a fits = two_made (exec_set task a) (strong_preimage task a g) fits.exec (strong_small w task a g fits)
    left_of Strong f g a fits = two_made (exec_set task a) (weak_preimage task a g) fits.exec (weak_small w task a g fits)
    left_of Cyclic f g a fits = three_made (exec_set task a) (weak_preimage task a f) (strong_preimage task a (or_of f g)) fits.0.exec (weak_small w task a f fits.0) (strong_small w task a (or_of f g) fits.1)

    root_fits : w ≤ r → AreFit r certificate.class task certificate.sets
    root_fits wider =
        let n = fluent_count task in
        let broad : fluent_count task + 2 ≤ w = wide.wide in
        record {
          wide = omega arith;
          initial = small_wider n w r (initial_set task) wider (round_small (initial_set task) initial);
          goal = small_wider n w r (goal_states_set task) wider (wide.each (goal_states_set task) goal);
          space = small_wider n w r (space_set task) wider (round_small (space_set task) space);
          cubes = λ cube below. small_wider n w r (cube_set cube) wider (cube_small n cube below w wide.wide);
          first_cubes = λ set has j. small_wider n w r (states_in task (take j set)) wider (wide.each (states_in task (take j set)) (first_cubes set has j));
          first_sets = λ j. small_wider n w r (states_of task (take j certificate.sets)) wider (round_small (states_of task (take j certificate.sets)) (first_sets j));
          ways = λ i within a low. wider_way w r certificate.class task (states_of task (take i certificate.sets)) (states_in task (set_at certificate.sets i)) a wider (way_of certificate.class i a within low);
          left = λ i within a low. left_of certificate.class (states_of task (take i certificate.sets)) (states_in task (set_at certificate.sets i)) a (way_of certificate.class i a within low);
        }

-- the number before
pred : ℕ → ℕ
pred zero = zero
pred (suc n) = n

pred_suc : (n : ℕ) → 1 ≤ n → suc (pred n) ≡ n
unfolding pred
pred_suc zero one = absurd (omega (arith, one))
pred_suc (suc n) one = refl

-- so a verdict that found no room has this bound by w
pub room_by_sets : (w : ℕ) (task : Task) (certificate : PlainCertificate) → BoundsJudgedSets w task certificate → (before after : LiveSets)
    → ((r : ℕ) → AreFit r certificate.class task certificate.sets → NoRoom r 13 6 before after) → before.order ≡ []
    → before.limit < nodes before.vars (live_sets before) + 24 * w + 17 * (w * w * w)
room_by_sets w task certificate wide before after none order =
    let broad : fluent_count task + 2 ≤ w = wide.wide in
    let two : 2 ≤ w = omega arith in
    let found : Root (w * w * w + 2 * w) = subst Root (pred_suc (w * w * w + 2 * w) (omega (arith, two))) (root_of (pred (w * w * w + 2 * w))) in
    let r = found.root in
    let fits = root_fits w task certificate wide r two found.enough (root_wide w r two found.enough) in
    let tight : before.limit < nodes before.vars (live_sets before) + 13 * r + (6 + 1) * (r * r) = no_room_small r before after 13 6 (none r fits) order in
    omega (arith, tight, few_nodes w r two found.enough found.few)
