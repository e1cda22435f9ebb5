-- Cubes by halves: what a literal adds to a cube, and what two halves of some cubes mean together.
use Rattle.std.proofs.Common.{◌≡◌, ℕ, ◌+◌, ◌<◌, Bool, true, false, not, ◌&&◌, ◌||◌, List, [], ◌∷◌, ◌++◌, Vec, map, length, take, drop, get_or, Result, Ok, Err, IsErrOf, refl, sym, ap, subst, ◌∙◌, arith}
use Rattle.std.specs.List.{list_any}
use Rattle.std.specs.declared.alloc.Global.{Global}
use Rattle.std.proofs.Math.Bool.{and-or_distrib_right}
use Rattle.std.proofs.lemmas.Bool.{true≢false}
use Rattle.std.proofs.lemmas.List.{drop-map, map-append, take-map}
use Rattle.std.proofs.lemmas.List.Elements.{All-drop, All-take}
use Rattle.std.proofs.lemmas.List.Folds.{list_all_more, list_any-append}
use Rattle.list_laws.proofs.Booleans.{or_none}
use Rattle.dd_nodes.specs.Subfunctions.{Function}
use Rattle.dd_ops.specs.Operations.{and_of, minus_of, or_of, variable}
use Rattle.dd_sets.specs.Frames.{Owns, OwnsAnswer}
use Rattle.dd_sets.specs.LiveSets.{IsLive, IsSets}
use Rattle.dd_sets.specs.declared.errors.SetErr.{SetErr}
use Rattle.dd_sets.specs.declared.errors.SetErr.TheVariants.{Full}
use Rattle.dd_sets.specs.declared.slots.SetId.{SetId}
use Rattle.dd_sets.proofs.OwnLemmas.{own_nothing}
use Rattle.dd_sets.proofs.OwnedLemmas.{answer_kept}
use Rattle.encode_task.specs.Slots.{Encoded}
use Rattle.encode_task.specs.TaskSets.{cube_set}
use Rattle.encode_task.proofs.HalfLemmas.{halves_are}
use Rattle.task_core.specs.Cubes.{Cube}
use Rattle.task_core.specs.Vectors.{same_value}
use Rattle.task_core.specs.declared.literals.Lit.{Lit}
use Rattle.plan_certs.specs.Certificates.{CubeSet}
use Rattle.plan_certs.specs.Named.{IsSetOf, cube_of}
use Rattle.plan_rules.specs.Plans.{IsCubeOf}
use Rattle.board_steps.proofs.MakeLemmas.{at_any}
use Rattle.slot_board.specs.Board.{At, Moved, Start, slot_at}
use Rattle.slot_board.proofs.BoardSlots.{at_same}
use Rattle.cert_check.specs.Sets.{literal_set, some_cube}
use Rattle.cert_check.specs.Sizes.{HasSet, HasUnion}

same_true : (b : Bool) → b ≡ same_value b true
same_true true = refl
same_true false = refl

same_false : (b : Bool) → not b ≡ same_value b false
same_false true = refl
same_false false = refl

pub positive_literal : (lit : Lit) (f : Function) → lit.positive ≡ true → and_of f (variable lit.fluent.0) ≡ and_of f (literal_set lit)
positive_literal lit f is = λ i values. f values && ((same_true (values lit.fluent.0) ∙ ap (same_value (values lit.fluent.0)) (sym is)) i)

pub negative_literal : (lit : Lit) (f : Function) → lit.positive ≡ false → minus_of f (variable lit.fluent.0) ≡ and_of f (literal_set lit)
negative_literal lit f is = λ i values. f values && ((same_false (values lit.fluent.0) ∙ ap (same_value (values lit.fluent.0)) (sym is)) i)

-- one literal more
pub cube_more : (cube : Cube) (i : ℕ) (lit : Lit) → i < length cube → lit ≡ get_or cube i lit → and_of (cube_set (take i cube)) (literal_set lit) ≡ cube_set (take (i + 1) cube)
cube_more cube i lit within is = λ j values.
    (ap (λ (l : Lit). cube_set (take i cube) values && literal_set l values) is
    ∙ sym (list_all_more (λ (l : Lit). literal_set l values) cube i lit within)) j

-- two halves
pub both_halves : (xs ys cubes : CubeSet) → xs ++ ys ≡ cubes → or_of (some_cube xs) (some_cube ys) ≡ some_cube cubes
both_halves xs ys cubes are = λ j values.
    (sym (list_any-append (λ cube. cube_set cube values) xs ys) ∙ ap (λ set. some_cube set values) are) j

pub one_cube : (cube : Cube) (cubes : CubeSet) → cubes ≡ cube ∷ [] → cube_set cube ≡ some_cube cubes
one_cube cube cubes is = (λ j values. or_none (cube_set cube values) j) ∙ ap some_cube (sym is)

-- the states among what some of some cubes matches
pub states_among : (set : CubeSet) (space : Function) → and_of (some_cube set) space ≡ (λ values. list_any (λ cube. cube_set cube values && space values) set)
states_among set space = λ j values. each set space values j
  where
    each : (set : CubeSet) (space : Function) (values : ℕ → Bool) → (some_cube set values && space values) ≡ list_any (λ cube. cube_set cube values && space values) set
    each [] space values = refl
    each (cube ∷ set) space values =
        and-or_distrib_right (cube_set cube values) (some_cube set values) (space values)
        ∙ ap (λ b. (cube_set cube values && space values) || b) (each set space values)

-- a refusal leaves the board as it was
pub union_kept : (start : Start) (enc now : Encoded) (slots : List SetId) (f : Function) → HasUnion start enc slots f → start.places ≡ 5 → now ≡ record enc { sets = now.sets } → Owns enc.sets now.sets [] → IsSets now.sets
    → HasUnion start now slots f
union_kept start enc now slots f union five same owns sound = record {
  at = at_same start enc now slots union.at same owns.kept (own_nothing enc.sets now.sets owns);
  sound = sound;
  union = owns.kept.sets (slot_at slots 0) (union.at.working.live 0 (let long : length slots ≡ start.places = union.at.long in omega arith)) ∙ union.union;
}

-- a set that was put at its place
pub set_put : (start : Start) (enc now : Encoded) (old new : List SetId) (f set : Function) → HasUnion start enc old f → start.places ≡ 5 → Moved start enc.sets old now new 1 set → HasSet start now new f set
set_put start enc now old new f set union five moved =
    let long : length old ≡ start.places = union.at.long in
    let long_new : length new ≡ start.places = moved.at.long in
    record {
      by_union = record {
        at = moved.at;
        sound = moved.sound;
        union = moved.others 0 (omega arith) (λ e. absurd (omega (arith, e))) ∙ union.union;
      };
      set = moved.here;
    }

-- an answer that is a set is no refusal
pub not_full : (result : Result SetId SetErr) (slot : SetId) → result ≡ Ok slot → IsErrOf result Full → ⊥
not_full result slot is full = by (sym is ∙ full)
  where
    is_ok : Result SetId SetErr → Bool
    is_ok (Ok x) = true
    is_ok (Err e) = false

    by : ◌≡◌ {A = Result SetId SetErr} (Ok slot) (Err Full) → ⊥
    by e = true≢false (ap is_ok e)

pub live_after : (start : Start) (enc now : Encoded) (slots : List SetId) (set : Function) (result : Result SetId SetErr) → At start enc slots → OwnsAnswer enc.sets now.sets set result → (k : ℕ) → k < length slots → IsLive now.sets (slot_at slots k)
live_after start enc now slots set result at owns k within = (answer_kept enc.sets now.sets set result owns).live (slot_at slots k) (at.working.live k within)

-- the literal at a place, whatever the default
pub cube_more_at : (cube : Cube) (i : ℕ) (d : Lit) → i < length cube → and_of (cube_set (take i cube)) (literal_set (get_or cube i d)) ≡ cube_set (take (i + 1) cube)
cube_more_at cube i d within = cube_more cube i (get_or cube i d) within (at_any cube i d (get_or cube i d) within)

pub cubes_are : (mid : ℕ) (xs ys all : List (Vec Lit Global)) → xs ≡ take mid all → ys ≡ drop mid all → map cube_of xs ++ map cube_of ys ≡ map cube_of all
cubes_are mid xs ys all front back = sym (map-append cube_of xs ys) ∙ ap (map cube_of) (halves_are mid xs ys all front back)

pub front_in_task : (n mid : ℕ) (xs all : List (Vec Lit Global)) → xs ≡ take mid all → IsSetOf n (map cube_of all) → IsSetOf n (map cube_of xs)
front_in_task n mid xs all front in_task = subst (λ (ys : List (Vec Lit Global)). IsSetOf n (map cube_of ys)) (sym front)
    (subst (λ (ys : CubeSet). IsSetOf n ys) (take-map cube_of mid all) (All-take (IsCubeOf n) mid (map cube_of all) in_task))

pub back_in_task : (n mid : ℕ) (ys all : List (Vec Lit Global)) → ys ≡ drop mid all → IsSetOf n (map cube_of all) → IsSetOf n (map cube_of ys)
back_in_task n mid ys all back in_task = subst (λ (zs : List (Vec Lit Global)). IsSetOf n (map cube_of zs)) (sym back)
    (subst (λ (zs : CubeSet). IsSetOf n zs) (drop-map cube_of mid all) (All-drop (IsCubeOf n) mid (map cube_of all) in_task))
