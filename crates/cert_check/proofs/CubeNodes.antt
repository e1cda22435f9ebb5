-- The diagram of a cube has no more nodes than there are fluents: at each fluent one, for the literals of the
-- fluents from it on.
use Rattle.std.proofs.Common.{◌≡◌, ℕ, ◌+◌, ◌<◌, ◌≤◌, Bool, true, false, ◌&&◌, List, [], ◌∷◌, length, map, nat_lt, if◌then◌else◌, refl, sym, ap, ◌∙◌, ⊎_elim, arith}
use Rattle.std.specs.List.{list_any, range_with_len}
use Rattle.std.proofs.lemmas.Bool.{cases_lt, cond-false, cond-true, lt-ltb, ltb-true}
use Rattle.std.proofs.lemmas.List.{length-map}
use Rattle.std.proofs.lemmas.List.Elements.{All-cons, All-head, All-nil, All-tail}
use Rattle.std.proofs.lemmas.List.FromFn.{length-range_with_len}
use Rattle.dd_nodes.specs.NodeList.{Values}
use Rattle.dd_nodes.specs.Subfunctions.{Function, agree, constants, fixed, nodes, with_first}
use Rattle.dd_nodes.proofs.Agreement.{agree_same}
use Rattle.dd_nodes.proofs.Reaching.{past_at, within_at}
use Rattle.dd_sets.specs.Rooms.{Small}
use Rattle.dd_sets.proofs.CountLemmas.{beside}
use Rattle.dd_sets.proofs.KindLemmas.{covered_nodes, is_constant, not_both}
use Rattle.task_core.specs.Cubes.{Cube}
use Rattle.task_core.specs.Vectors.{same_value}
use Rattle.task_core.specs.declared.literals.Lit.{Lit}
use Rattle.plan_rules.specs.Plans.{IsCubeOf}
use Rattle.list_laws.proofs.Elements.{Contains-map, Contains-range_with_len, list_any-from}
use Rattle.encode_task.specs.TaskSets.{cube_set}

-- the literals of the fluents below k, and of those from k on
low_part : ℕ → Cube → Function
low_part k [] values = true
low_part k (lit ∷ cube) values = (if nat_lt lit.fluent.0 k then same_value (values lit.fluent.0) lit.positive else true) && low_part k cube values

high_part : ℕ → Cube → Function
high_part k [] values = true
high_part k (lit ∷ cube) values = (if nat_lt lit.fluent.0 k then true else same_value (values lit.fluent.0) lit.positive) && high_part k cube values

swap : (a b c d : Bool) → ((a && b) && (c && d)) ≡ ((a && c) && (b && d))
swap true true c d = refl
swap true false true d = refl
swap true false false d = refl
swap false b c d = refl

both_parts : (k : ℕ) (cube : Cube) (values : Values) → cube_set cube values ≡ (low_part k cube values && high_part k cube values)
unfolding low_part high_part
both_parts k [] values = refl
both_parts k (lit ∷ cube) values =
    ap (λ b. same_value (values lit.fluent.0) lit.positive && b) (both_parts k cube values)
    ∙ ap (λ b. b && (low_part k cube values && high_part k cube values)) (one (nat_lt lit.fluent.0 k) (same_value (values lit.fluent.0) lit.positive))
    ∙ swap (if nat_lt lit.fluent.0 k then same_value (values lit.fluent.0) lit.positive else true) (if nat_lt lit.fluent.0 k then true else same_value (values lit.fluent.0) lit.positive) (low_part k cube values) (high_part k cube values)
  where
    one : (b s : Bool) → s ≡ ((if b then s else true) && (if b then true else s))
    one true true = refl
    one true false = refl
    one false s = refl

-- the first are told by the first values, and the others by the others
low_same : (first : List Bool) (cube : Cube) (values others : Values) → low_part (length first) cube (with_first first values) ≡ low_part (length first) cube (with_first first others)
unfolding low_part
low_same first [] values others = refl
low_same first (lit ∷ cube) values others =
    ap (λ b. b && low_part (length first) cube (with_first first values)) (by_test (nat_lt lit.fluent.0 (length first)) refl)
    ∙ ap (λ b. (if nat_lt lit.fluent.0 (length first) then same_value (with_first first others lit.fluent.0) lit.positive else true) && b) (low_same first cube values others)
  where
    by_test : (b : Bool) → nat_lt lit.fluent.0 (length first) ≡ b
        → (if nat_lt lit.fluent.0 (length first) then same_value (with_first first values lit.fluent.0) lit.positive else true) ≡ (if nat_lt lit.fluent.0 (length first) then same_value (with_first first others lit.fluent.0) lit.positive else true)
    by_test true e =
        ap (λ v. if nat_lt lit.fluent.0 (length first) then same_value v lit.positive else true) (within_at first lit.fluent.0 (values lit.fluent.0) (others lit.fluent.0) (ltb-true lit.fluent.0 (length first) e))
    by_test false e = cond-false (nat_lt lit.fluent.0 (length first)) (same_value (with_first first values lit.fluent.0) lit.positive) true e ∙ sym (cond-false (nat_lt lit.fluent.0 (length first)) (same_value (with_first first others lit.fluent.0) lit.positive) true e)

high_same : (first : List Bool) (cube : Cube) (values : Values) → high_part (length first) cube (with_first first values) ≡ high_part (length first) cube values
unfolding high_part
high_same first [] values = refl
high_same first (lit ∷ cube) values =
    ap (λ b. b && high_part (length first) cube (with_first first values)) (by_test (nat_lt lit.fluent.0 (length first)) refl)
    ∙ ap (λ b. (if nat_lt lit.fluent.0 (length first) then true else same_value (values lit.fluent.0) lit.positive) && b) (high_same first cube values)
  where
    not_less : nat_lt lit.fluent.0 (length first) ≡ false → length first ≤ lit.fluent.0
    not_less e = ⊎_elim (λ (less : lit.fluent.0 < length first). absurd (let t = lt-ltb lit.fluent.0 (length first) less in cc)) (λ (most : length first ≤ lit.fluent.0). most) (cases_lt lit.fluent.0 (length first))

    by_test : (b : Bool) → nat_lt lit.fluent.0 (length first) ≡ b
        → (if nat_lt lit.fluent.0 (length first) then true else same_value (with_first first values lit.fluent.0) lit.positive) ≡ (if nat_lt lit.fluent.0 (length first) then true else same_value (values lit.fluent.0) lit.positive)
    by_test true e = cond-true (nat_lt lit.fluent.0 (length first)) true (same_value (with_first first values lit.fluent.0) lit.positive) e ∙ sym (cond-true (nat_lt lit.fluent.0 (length first)) true (same_value (values lit.fluent.0) lit.positive) e)
    by_test false e = ap (λ v. if nat_lt lit.fluent.0 (length first) then true else same_value v lit.positive) (past_at first lit.fluent.0 (values lit.fluent.0) (not_less e))

-- no literal is one of a fluent past the last
high_none : (n : ℕ) (cube : Cube) (values : Values) → IsCubeOf n cube → high_part n cube values ≡ true
unfolding high_part
high_none n [] values below = refl
high_none n (lit ∷ cube) values below =
    ap (λ b. b && high_part n cube values) (cond-true (nat_lt lit.fluent.0 n) true (same_value (values lit.fluent.0) lit.positive) (lt-ltb lit.fluent.0 n (All-head (λ (l : Lit). l.fluent.0 < n) lit cube below)))
    ∙ high_none n cube values (All-tail (λ (l : Lit). l.fluent.0 < n) lit cube below)

module _ (n : ℕ) (cube : Cube) (below : IsCubeOf n cube) where
  rests : List Function
  rests = map (λ k. high_part k cube) (range_with_len 0 n)

  part_fixed : (first : List Bool) (values : Values) → fixed first (cube_set cube) values ≡ (low_part (length first) cube (with_first first (λ u. false)) && high_part (length first) cube values)
  part_fixed first values =
      both_parts (length first) cube (with_first first values)
      ∙ ap (λ b. b && high_part (length first) cube (with_first first values)) (low_same first cube values (λ u. false))
      ∙ ap (λ b. low_part (length first) cube (with_first first (λ u. false)) && b) (high_same first cube values)

  covered : (first : List Bool) → length first ≤ n → beside n constants (fixed first (cube_set cube)) ≡ true → list_any (agree n (fixed first (cube_set cube))) rests ≡ true
  unfolding rests
  covered first few apart = by_low (low_part (length first) cube (with_first first (λ u. false))) refl
    where
      by_low : (b : Bool) → low_part (length first) cube (with_first first (λ u. false)) ≡ b → list_any (agree n (fixed first (cube_set cube))) (map (λ k. high_part k cube) (range_with_len 0 n)) ≡ true
      by_low false e =
          absurd (not_both n (fixed first (cube_set cube)) (is_constant n (fixed first (cube_set cube)) false (agree_same n (fixed first (cube_set cube)) (λ u. false) (λ values. part_fixed first values ∙ ap (λ b. b && high_part (length first) cube values) e))) apart)
      by_low true e = ⊎_elim
          (λ (within : length first < n).
          list_any-from (agree n (fixed first (cube_set cube))) (map (λ k. high_part k cube) (range_with_len 0 n)) (high_part (length first) cube)
          (Contains-map (λ k. high_part k cube) (range_with_len 0 n) (length first) (Contains-range_with_len n (length first) within))
          (agree_same n (fixed first (cube_set cube)) (high_part (length first) cube) (λ values. part_fixed first values ∙ ap (λ b. b && high_part (length first) cube values) e)))
          (λ (past : n ≤ length first).
          let all : length first ≡ n = omega (arith, few, past) in
          absurd (not_both n (fixed first (cube_set cube)) (is_constant n (fixed first (cube_set cube)) true (agree_same n (fixed first (cube_set cube)) (λ u. true)
          (λ values. part_fixed first values ∙ ap (λ b. b && high_part (length first) cube values) e ∙ ap (λ k. high_part k cube values) all ∙ high_none n cube values below))) apart))
          (cases_lt (length first) n)

  pub cube_small : (w : ℕ) → n + 2 ≤ w → Small n w (cube_set cube)
  unfolding Small rests
  cube_small w wide =
      let most : nodes n (cube_set cube ∷ []) ≤ length (map (λ k. high_part k cube) (range_with_len 0 n)) = covered_nodes n (cube_set cube ∷ []) (map (λ k. high_part k cube) (range_with_len 0 n)) (All-cons Each (cube_set cube) [] covered (All-nil Each)) in
      omega (arith, most, wide, length-map (range_with_len 0 n) (λ k. high_part k cube), length-range_with_len 0 n)
    where
      Each : Function → Type 0
      Each g = (first : List Bool) → length first ≤ n → beside n constants (fixed first g) ≡ true → list_any (agree n (fixed first g)) (map (λ k. high_part k cube) (range_with_len 0 n)) ≡ true
