-- How large the sets are that a preimage makes.
use Rattle.std.proofs.Common.{◌≡◌, ℕ, zero, suc, ◌+◌, ◌<◌, ◌≤◌, Bool, true, false, ◌&&◌, ◌||◌, not, List, [], ◌∷◌, length, slice_get, take, inl, inr, refl, sym, subst, ◌∙◌, arith}
use Rattle.std.specs.List.{list_all, list_any}
use Rattle.std.specs.Option.{option_map_or}
use Rattle.std.proofs.Math.Bool.{and-or_distrib_left, and_self}
use Rattle.std.proofs.lemmas.List.{take_all}
use Rattle.list_laws.proofs.Booleans.{and_one, or_assoc, or_none}
use Rattle.dd_nodes.specs.Subfunctions.{Function, IsSubfunction}
use Rattle.dd_nodes.proofs.Dependence.{sub_self}
use Rattle.dd_ops.specs.Operations.{and_of, minus_of, or_of}
use Rattle.dd_sets.specs.Rooms.{AreSized, Rough, Small}
use Rattle.dd_sets.proofs.OperationSizes.{difference_rough, meet_rough}
use Rattle.dd_sets.proofs.SizeLemmas.{small_rough}
use Rattle.encode_task.specs.TaskSets.{exec_set, lands_set, led_into, space_set}
use Rattle.task_core.specs.Actions.{after_value}
use Rattle.task_core.specs.Conditions.{holds}
use Rattle.task_core.specs.Tasks.{action_count, fluent_count, outcomes_at}
use Rattle.task_core.specs.declared.actions.Outcome.{Outcome}
use Rattle.task_core.specs.declared.tasks.Task.{Task}
use Rattle.preimage.specs.Preimages.{strong_preimage, weak_preimage}
use Rattle.preimage.specs.Sides.{PartFits, SideFits, all_outcomes_on, off_side}
use Rattle.preimage.specs.WorkingSets.{IsMadeByRound, PreimageFits, first_every, first_some, some_below}
use Rattle.preimage.specs.WorkingSets.IsMadeByRound.{first_led, itself, led}
use Rattle.preimage.specs.declared.slots.Side.{Side}
use Rattle.preimage.specs.declared.slots.Side.TheVariants.{Inside, Outside}
use Rattle.preimage.proofs.OutcomeLemmas.{leads, left_after, side_after, side_more, side_whole, stays, strong_is_weak}

-- the sizes of one or two slots
pub small_slot : (vars w slot : ℕ) (f : Function) → Small vars w f → AreSized vars w 0 ((slot, f) ∷ [])
small_slot vars w slot f small = inl (small, tt)

pub rough_slot : (vars w slot : ℕ) (f : Function) → Rough vars w f → AreSized vars w 1 ((slot, f) ∷ [])
rough_slot vars w slot f rough = inr (rough, 0, refl, tt)

pub rough_slots : (vars w i j : ℕ) (f g : Function) → Rough vars w f → Rough vars w g → AreSized vars w 2 ((i, f) ∷ (j, g) ∷ [])
rough_slots vars w i j f g first second = inr (first, 1, refl, inr (second, 0, refl, tt))

pub small_rough_slots : (vars w i j : ℕ) (f g : Function) → Small vars w f → Rough vars w g → AreSized vars w 1 ((i, f) ∷ (j, g) ∷ [])
small_rough_slots vars w i j f g first second = inl (first, inr (second, 0, refl, tt))

-- what is left is the difference of where the action can be executed and where some outcome leads in
pub without_first : (e l : Bool) → (e && not (e && l)) ≡ (e && not l)
without_first true l = refl
without_first false l = refl

left_difference : (task : Task) (a : ℕ) (set : Function) (i : ℕ) → minus_of (exec_set task a) (first_some task a i set) ≡ left_after task a set i
left_difference task a set i = λ j values. without_first (exec_set task a values) (list_any (leads task set values) (take i (outcomes_at task a))) j

pub rest_rough : (width : ℕ) (side : Side) (task : Task) (a : ℕ) (set : Function) → SideFits width side task a set → (i : ℕ) → Rough (fluent_count task) width (side_after side task a set i)
rest_rough width Inside task a set fits i = small_rough (fluent_count task) width (first_every task a i set) (fits.firsts i)
rest_rough width Outside task a set fits i =
    subst (Rough (fluent_count task) width) (left_difference task a set i)
    (difference_rough (fluent_count task) width (exec_set task a) (first_some task a i set) fits.exec (fits.firsts i))

other_rough : (width : ℕ) (side : Side) (task : Task) (a : ℕ) (set : Function) → SideFits width side task a set → (o : ℕ) → o < length (outcomes_at task a)
    → Rough (fluent_count task) width (off_side side (lands_set task a o) (led_into task a o set))
other_rough width Inside task a set fits o within =
    difference_rough (fluent_count task) width (lands_set task a o) (led_into task a o set) (fits.lands o within) (fits.led o within set (sub_self (fluent_count task) set))
other_rough width Outside task a set fits o within =
    meet_rough (fluent_count task) width (led_into task a o set) (lands_set task a o) (fits.led o within set (sub_self (fluent_count task) set)) (fits.lands o within)

side_led : (width : ℕ) (side : Side) (task : Task) (a : ℕ) (set : Function) → SideFits width side task a set → (o : ℕ) → o < length (outcomes_at task a) → Small (fluent_count task) width (led_into task a o set)
side_led width Inside task a set fits o within = fits.led o within set (sub_self (fluent_count task) set)
side_led width Outside task a set fits o within = fits.led o within set (sub_self (fluent_count task) set)

-- the sets of one outcome more
pub part_fits : (vars width : ℕ) (side : Side) (task : Task) (a : ℕ) (set : Function) → vars ≡ fluent_count task → SideFits width side task a set → (o : ℕ) → o < length (outcomes_at task a)
    → PartFits vars width side (lands_set task a o) (side_after side task a set o) (led_into task a o set)
part_fits vars width side task a set same fits o within =
    subst (λ v. PartFits v width side (lands_set task a o) (side_after side task a set o) (led_into task a o set)) (sym same)
    (record {
      rest = rest_rough width side task a set fits o;
      led = side_led width side task a set fits o within;
      other = other_rough width side task a set fits o within;
      left = subst (Rough (fluent_count task) width) (sym (side_more side task a o set within)) (rest_rough width side task a set fits (o + 1));
    })

pub outside_rough : (width : ℕ) (task : Task) (a : ℕ) (set : Function) → PreimageFits width task a first_some set → Rough (fluent_count task) width (all_outcomes_on Outside task a set)
outside_rough width task a set fits =
    subst (Rough (fluent_count task) width) (side_whole Outside task a (length (outcomes_at task a)) set (omega arith)) (rest_rough width Outside task a set fits (length (outcomes_at task a)))

-- what a call of a side asks of the set
pub led_fits : (width : ℕ) (side : Side) (task : Task) (a : ℕ) (set : Function) → SideFits width side task a set → (o : ℕ) → o < length (outcomes_at task a)
    → (fluent_count task + 2 ≤ width) × Small (fluent_count task) width set × ((part : Function) → IsSubfunction (fluent_count task) set part → Small (fluent_count task) width (led_into task a o part))
led_fits width Inside task a set fits o within = (fits.wide, fits.given, fits.led o within)
led_fits width Outside task a set fits o within = (fits.wide, fits.given, fits.led o within)

-- with all outcomes, where some one leads into a set is the weak preimage
pub first_weak : (task : Task) (a j : ℕ) (set : Function) → length (outcomes_at task a) ≤ j → first_some task a j set ≡ weak_preimage task a set
first_weak task a j set all = λ i values. exec_set task a values && list_any (leads task set values) (take_all j (outcomes_at task a) all i)

pub first_strong : (task : Task) (a j : ℕ) (set : Function) → length (outcomes_at task a) ≤ j → first_every task a j set ≡ strong_preimage task a set
first_strong task a j set all = λ i values. exec_set task a values && list_all (stays task set values) (take_all j (outcomes_at task a) all i)

pub weak_small : (width : ℕ) (task : Task) (a : ℕ) (set : Function) → PreimageFits width task a first_some set → Small (fluent_count task) width (weak_preimage task a set)
weak_small width task a set fits = subst (Small (fluent_count task) width) (first_weak task a (length (outcomes_at task a)) set (omega arith)) (fits.firsts (length (outcomes_at task a)))

pub strong_small : (width : ℕ) (task : Task) (a : ℕ) (set : Function) → PreimageFits width task a first_every set → Small (fluent_count task) width (strong_preimage task a set)
strong_small width task a set fits = subst (Small (fluent_count task) width) (first_strong task a (length (outcomes_at task a)) set (omega arith)) (fits.firsts (length (outcomes_at task a)))

exec_first : (task : Task) (a : ℕ) (set : Function) → exec_set task a ≡ first_every task a 0 set
exec_first task a set = λ i values. and_one (exec_set task a values) i

-- of one outcome, where each one leads into a set is small where some one is
pub one_fits : (width : ℕ) (task : Task) (a : ℕ) (set : Function) → length (outcomes_at task a) ≡ 1 → PreimageFits width task a first_some set → PreimageFits width task a first_every set
one_fits width task a set one fits = record {
  wide = fits.wide;
  given = fits.given;
  exec = fits.exec;
  lands = fits.lands;
  firsts = first;
  led = fits.led;
}
  where
    first : (j : ℕ) → Small (fluent_count task) width (first_every task a j set)
    first zero = subst (Small (fluent_count task) width) (exec_first task a set) fits.exec
    first (suc j) =
        subst (Small (fluent_count task) width) (sym (strong_is_weak task a set one) ∙ sym (first_strong task a (suc j) set (omega arith))) (weak_small width task a set fits)

-- the sets of a preimage are working sets of its set and of the set of all states
landing : (e l : Bool) → ((e && l) && l) ≡ (e && l)
landing true true = refl
landing true false = refl
landing false l = refl

some_twice : (p : Outcome → Bool) (outcomes : List Outcome) → list_any (λ o. p o && p o) outcomes ≡ list_any p outcomes
some_twice p [] = refl
some_twice p (o ∷ outcomes) = λ i. and_self (p o) i || some_twice p outcomes i

exec_some : (task : Task) (a : ℕ) → first_some task a (length (outcomes_at task a)) (space_set task) ≡ exec_set task a
exec_some task a =
    first_weak task a (length (outcomes_at task a)) (space_set task) (omega arith)
    ∙ (λ i values. exec_set task a values && some_twice (λ o. space_set task (after_value o values)) (outcomes_at task a) i)
    ∙ (λ i values. landing (holds task.invariant values && option_map_or (λ action. holds action.exec values) (slice_get task.actions.items a) false) (list_any (λ o. space_set task (after_value o values)) (outcomes_at task a)) i)

-- what is said of the working sets of a set, and of those of the set of all states, that of a preimage
pub some_fits : (width : ℕ) (task : Task) (a : ℕ) (set : Function) (hits others : ℕ → Function) → fluent_count task + 2 ≤ width → a < action_count task
    → ((f : Function) → IsMadeByRound task first_some hits set f → Small (fluent_count task) width f)
    → ((f : Function) → IsMadeByRound task first_some others (space_set task) f → Small (fluent_count task) width f) → PreimageFits width task a first_some set
some_fits width task a set hits others wide action small space = record {
  wide = wide;
  given = small set itself;
  exec = subst (Small (fluent_count task) width) (exec_some task a) (space (first_some task a (length (outcomes_at task a)) (space_set task)) (first_led a action (length (outcomes_at task a))));
  lands = λ o within. space (lands_set task a o) (led a action o within (space_set task) (sub_self (fluent_count task) (space_set task)));
  firsts = λ j. small (first_some task a j set) (first_led a action j);
  led = λ o within part is. small (led_into task a o part) (led a action o within part is);
}

pub every_fits : (width : ℕ) (task : Task) (a : ℕ) (set : Function) (hits others : ℕ → Function) → fluent_count task + 2 ≤ width → a < action_count task
    → ((f : Function) → IsMadeByRound task first_every hits set f → Small (fluent_count task) width f)
    → ((f : Function) → IsMadeByRound task first_every others (space_set task) f → Small (fluent_count task) width f) → PreimageFits width task a first_every set
every_fits width task a set hits others wide action small space = record {
  wide = wide;
  given = small set itself;
  exec = subst (Small (fluent_count task) width) (sym (exec_first task a (space_set task))) (space (first_every task a 0 (space_set task)) (first_led a action 0));
  lands = λ o within. space (lands_set task a o) (led a action o within (space_set task) (sub_self (fluent_count task) (space_set task)));
  firsts = λ j. small (first_every task a j set) (first_led a action j);
  led = λ o within part is. small (led_into task a o part) (led a action o within part is);
}

-- one set more of a union
pub joined_more : (set : Function) (sets : ℕ → Function) (j : ℕ) → or_of (or_of set (some_below sets j)) (sets j) ≡ or_of set (some_below sets (suc j))
joined_more set sets j = λ i values. or_assoc (set values) (some_below sets j values) (sets j values) i

pub part_more : (set : Function) (sets : ℕ → Function) (j : ℕ) → or_of (and_of set (some_below sets j)) (and_of set (sets j)) ≡ and_of set (some_below sets (suc j))
part_more set sets j = λ i values. sym (and-or_distrib_left (set values) (some_below sets j values) (sets j values)) i

pub joined_none : (set : Function) (sets : ℕ → Function) → set ≡ or_of set (some_below sets 0)
joined_none set sets = λ i values. or_none (set values) i
