-- A loop over the cubes of a set, and over the actions.
use Rattle.std.proofs.Common.{◌≡◌, ℕ, suc, ◌+◌, ◌<◌, ◌≤◌, Bool, true, false, ◌||◌, List, [], ◌∷◌, ◌++◌, Vec, drop, get_or, length, map, sym, ap, ◌∙◌, arith}
use Rattle.std.specs.List.{list_any, range_with_len}
use Rattle.std.specs.declared.alloc.Global.{Global}
use Rattle.std.proofs.lemmas.List.Elements.{All-cons, All-nil}
use Rattle.std.proofs.lemmas.List.Folds.{list_any-append}
use Rattle.std.proofs.lemmas.List.{drop_all}
use Rattle.dd_nodes.specs.Subfunctions.{Function}
use Rattle.task_core.specs.Cubes.{Cube}
use Rattle.task_core.specs.Tasks.{action_count, fluent_count}
use Rattle.task_core.specs.declared.classes.Class.{Class}
use Rattle.task_core.specs.declared.literals.Lit.{Lit}
use Rattle.plan_rules.specs.Plans.{IsCubeOf}
use Rattle.plan_rules.proofs.MappedItems.{mapped_item}
use Rattle.plan_certs.specs.Named.{cube_of}
use Rattle.list_laws.proofs.Elements.{range_with_len-last}
use Rattle.slot_board.specs.Board.{Start}
use Rattle.plan_certs.specs.Certificates.{CubeSet}
use Rattle.cert_check.specs.Sets.{states_in, way_out_set}
use Rattle.cert_check.specs.Sizes.{CubesFit, LeaveFits}
use Rattle.board_steps.proofs.MakeLemmas.{drop_item}

pub cube_fits : (start : Start) (b : Function) (cubes : List (Vec Lit Global)) (i : ℕ) (x : Vec Lit Global) → CubesFit start b (map cube_of cubes) → i < length cubes → x ≡ get_or cubes i x → CubesFit start b (cube_of x ∷ [])
cube_fits start b cubes i x fits within is = record {
  board = fits.board;
  in_task = All-cons (IsCubeOf (fluent_count start.task)) (cube_of x) [] (mapped_item (IsCubeOf (fluent_count start.task)) cube_of cubes i x fits.in_task within is) (All-nil (IsCubeOf (fluent_count start.task)));
  rough = fits.rough;
}

module _ (p : Cube → Bool) (cubes : List (Vec Lit Global)) (whole : Bool) where
  parts : (i : ℕ) (x : Vec Lit Global) → i < length cubes → x ≡ get_or cubes i x → list_any p (map cube_of (drop i cubes)) ≡ whole → (p (cube_of x) || list_any p (map cube_of (drop (i + 1) cubes))) ≡ whole
  parts i x within is half = sym (ap (λ (xs : List (Vec Lit Global)). list_any p (map cube_of xs)) (drop_item cubes i x within is)) ∙ half

  pub cubes_found : (i : ℕ) (x : Vec Lit Global) → i < length cubes → x ≡ get_or cubes i x → list_any p (map cube_of (drop i cubes)) ≡ whole → true ≡ p (cube_of x) → true ≡ whole
  cubes_found i x within is half found = ap (λ b. b || list_any p (map cube_of (drop (i + 1) cubes))) found ∙ parts i x within is half

  pub cubes_more : (i : ℕ) (x : Vec Lit Global) → i < length cubes → x ≡ get_or cubes i x → list_any p (map cube_of (drop i cubes)) ≡ whole → false ≡ p (cube_of x) → list_any p (map cube_of (drop (i + 1) cubes)) ≡ whole
  cubes_more i x within is half none = ap (λ b. b || list_any p (map cube_of (drop (i + 1) cubes))) none ∙ parts i x within is half

  pub cubes_ended : (i : ℕ) → length cubes ≤ i → list_any p (map cube_of (drop i cubes)) ≡ whole → false ≡ whole
  cubes_ended i past half = sym (ap (λ (xs : List (Vec Lit Global)). list_any p (map cube_of xs)) (drop_all i cubes past)) ∙ half

-- the first actions
pub actions_more : (p : ℕ → Bool) (k : ℕ) → list_any p (range_with_len 0 k) ≡ false → false ≡ p k → list_any p (range_with_len 0 (k + 1)) ≡ false
actions_more p k none last =
    let e : k + 1 ≡ suc k = omega arith in
    let same : 0 + k ≡ k = omega arith in
    ap (λ n. list_any p (range_with_len 0 n)) e ∙ ap (list_any p) (range_with_len-last 0 k) ∙ ap (λ j. list_any p (range_with_len 0 k ++ j ∷ [])) same ∙ list_any-append p (range_with_len 0 k) (k ∷ []) ∙ ap (λ b. b || (p k || false)) none ∙ ap (λ b. b || false) (sym last)

-- where an action is a way out is rough
pub way_cubes : (start : Start) (class : Class) (f : Function) (set : CubeSet) (a : ℕ) → LeaveFits start class f set → a < action_count start.task → CubesFit start (way_out_set class start.task f (states_in start.task set) a) set
way_cubes start class f set a fits low = record { board = fits.by_set.board; in_task = fits.by_set.in_task; rough = fits.left a low }
