-- The count: new numbers have pairwise different functions, none of them a function of an earlier
-- number, and each is a part of the pieces.
use Rattle.std.proofs.Common.{◌≡◌, ℕ, zero, suc, ◌+◌, ◌<◌, ◌≤◌, Bool, true, false, not, List, [], ◌∷◌, length, filter, flat_map, refl, sym, ap, ◌∙◌, ⊎_elim, arith, length-append}
use Rattle.std.specs.List.{list_any, list_all}
use Rattle.std.proofs.lemmas.Bool.{cases_lt, both_ways, or_left, or_right, or_from, and_from, not_from_false, false_from_ne_true}
use Rattle.std.proofs.lemmas.List.Folds.{list_any-append}
use Rattle.dd_nodes.specs.declared.node.Node.{Node}
use Rattle.dd_nodes.specs.NodeList.{Values, IsNumber, function, IsReduced, Extends}
use Rattle.dd_nodes.specs.Subfunctions.{Function, agree, subfunctions, nodes_beside, functions_below, functions}
use Rattle.dd_nodes.proofs.Extension.{function_kept}
use Rattle.dd_ops.specs.Growth.{grow, IsPart, AddsParts, LacksPart}
use Rattle.dd_nodes.proofs.NodeCount.{count_is, one_number}
use Rattle.dd_nodes.proofs.Counting.{count, any_filter, Apart, covered, pigeonhole}
use Rattle.dd_nodes.proofs.Agreement.{agree_same, agree_turn, agree_chain, part_listed}

-- the functions of k numbers from a number on
functions_from : List Node → ℕ → ℕ → List Function
functions_from nodes start zero = []
functions_from nodes start (suc k) = function nodes start ∷ functions_from nodes (suc start) k

module _ (nodes : List Node) where
  length-functions_from : (start k : ℕ) → length (functions_from nodes start k) ≡ k
  unfolding functions_from
  length-functions_from start zero = refl
  length-functions_from start (suc k) = ap suc (length-functions_from (suc start) k)

  from_none : (p : Function → Bool) (start k : ℕ) → ((n : ℕ) → start ≤ n → n < start + k → p (function nodes n) ≡ false) → list_any p (functions_from nodes start k) ≡ false
  unfolding functions_from
  from_none p start zero each = refl
  from_none p start (suc k) each = or_from (p (function nodes start)) (list_any p (functions_from nodes (suc start) k))
      (each start (omega arith) (omega arith))
      (from_none p (suc start) k (λ n above within. each n (omega arith) (omega arith)))

  from_all : (p : Function → Bool) (start k : ℕ) → ((n : ℕ) → start ≤ n → n < start + k → p (function nodes n) ≡ true) → list_all p (functions_from nodes start k) ≡ true
  unfolding functions_from
  from_all p start zero each = refl
  from_all p start (suc k) each = and_from (p (function nodes start)) (list_all p (functions_from nodes (suc start) k))
      (each start (omega arith) (omega arith))
      (from_all p (suc start) k (λ n above within. each n (omega arith) (omega arith)))

  pub functions_none : (p : Function → Bool) (bound : ℕ) → ((n : ℕ) → n < bound → p (function nodes n) ≡ false) → list_any p (functions_below nodes bound) ≡ false
  unfolding functions_below
  functions_none p zero each = refl
  functions_none p (suc bound) each =
      list_any-append p (functions_below nodes bound) (function nodes bound ∷ [])
      ∙ or_from (list_any p (functions_below nodes bound)) (list_any p (function nodes bound ∷ []))
      (functions_none p bound (λ n within. each n (omega arith)))
      (or_from (p (function nodes bound)) false (each bound (omega arith)) refl)

  pub functions_some : (p : Function → Bool) (bound n : ℕ) → n < bound → p (function nodes n) ≡ true → list_any p (functions_below nodes bound) ≡ true
  unfolding functions_below
  functions_some p zero n within here = absurd (omega arith)
  functions_some p (suc bound) n within here = ⊎_elim
      (λ (less : n < bound).
      list_any-append p (functions_below nodes bound) (function nodes bound ∷ [])
      ∙ or_left (list_any p (functions_below nodes bound)) (list_any p (function nodes bound ∷ [])) (functions_some p bound n less here))
      (λ (above : bound ≤ n).
      let e : n ≡ bound = omega arith in
      list_any-append p (functions_below nodes bound) (function nodes bound ∷ [])
      ∙ or_right (list_any p (functions_below nodes bound)) (list_any p (function nodes bound ∷ []))
      (or_left (p (function nodes bound)) false (ap (λ m. p (function nodes m)) (sym e) ∙ here)))
      (cases_lt n bound)

  -- the functions of different numbers are apart
  from_apart : (vars : ℕ) → IsReduced vars nodes → (start k : ℕ) → start + k ≤ length nodes + 2 → Apart (agree vars) (functions_from nodes start k)
  unfolding functions_from
  from_apart vars reduced start zero within = tt
  from_apart vars reduced start (suc k) within = (
    from_none (agree vars (function nodes start)) (suc start) k
        (λ n above below. false_from_ne_true (agree vars (function nodes start) (function nodes n))
        (λ same. let e : start ≡ n = one_number nodes vars reduced start n (omega arith) (omega arith) same in omega arith)),
    from_apart vars reduced (suc start) k (omega arith),
  )

module _ (vars : ℕ) (pieces : List Function) (before after : List Node) where
  -- the subfunctions that `grow` counts
  listed : List Function
  listed = filter (λ g. not (list_any (agree vars g) (functions before))) (flat_map (subfunctions vars) pieces)

  grow_counts : count (agree vars) listed ≡ grow vars before pieces
  unfolding listed nodes_beside
  grow_counts = sym (count_is vars listed)

  module _ (reduced : IsReduced vars before) (extends : Extends before after) where
    earlier : (n : ℕ) → IsNumber before n → (values : Values) → function after n values ≡ function before n values
    earlier n number values =
        ap (λ nodes. function nodes n values) extends.appended ∙ function_kept before extends.more vars reduced n number values

    -- a part of the pieces that is no function of an earlier number agrees with one that `grow`
    -- counts
    part_counted : (part : Function) → IsPart vars pieces part → ((n : ℕ) → IsNumber before n → agree vars part (function after n) ≡ false) → list_any (agree vars part) listed ≡ true
    unfolding listed
    part_counted part is_part new = any_filter (agree vars part) (λ g. not (list_any (agree vars g) (functions before))) (flat_map (subfunctions vars) pieces)
        (λ g same. not_from_false (list_any (agree vars g) (functions before)) (functions_none before (agree vars g) (length before + 2)
        (λ n number. false_from_ne_true (agree vars g (function before n))
        (λ was. both_ways (agree vars part (function after n)) (new n number)
        (agree_chain vars part (function before n) (function after n)
        (agree_chain vars part g (function before n) same was)
        (agree_same vars (function before n) (function after n) (λ values. sym (earlier n number values))))))))
        (part_listed vars pieces part is_part)

  module _ (reduced : IsReduced vars before) (adds : AddsParts vars pieces before after) where
    length_after : length after ≡ length before + length adds.extends.more
    length_after = ap length adds.extends.appended ∙ length-append before adds.extends.more

    added : List Function
    added = functions_from after (length before + 2) (length adds.extends.more)

    added_apart : Apart (agree vars) added
    unfolding added
    added_apart = from_apart after vars adds.reduced (length before + 2) (length adds.extends.more) (omega (arith, length_after))

    added_covered : covered (agree vars) listed added ≡ true
    unfolding added
    added_covered = from_all after (λ g. list_any (agree vars g) listed) (length before + 2) (length adds.extends.more)
        (λ n above below. part_counted reduced adds.extends (function after n) (adds.parts n above (omega (arith, length_after)))
        (λ m number. false_from_ne_true (agree vars (function after n) (function after m))
        (λ same. let e : n ≡ m = one_number after vars adds.reduced n m (omega (arith, length_after)) (omega (arith, length_after)) same in omega arith)))

    -- a list that adds parts of the pieces alone grows by at most `grow`
    pub grows_within : length after ≤ length before + grow vars before pieces
    unfolding added
    grows_within = omega (
      arith,
      length_after,
      length-functions_from after (length before + 2) (length adds.extends.more),
      grow_counts,
      pigeonhole (agree vars) (agree_turn vars) (agree_chain vars) listed added added_apart added_covered,
    )

    -- and by less where it still lacks a part
    pub grows_below : LacksPart vars pieces after → length after < length before + grow vars before pieces
    unfolding added
    grows_below lacks =
        let missing : Function = lacks.missing in
        let apart : list_any (agree vars missing) added ≡ false = from_none after (agree vars missing) (length before + 2) (length adds.extends.more)
        (λ n above below. lacks.nowhere n (omega (arith, length_after))) in
        let counted : list_any (agree vars missing) listed ≡ true = part_counted reduced adds.extends missing lacks.part (λ n number. lacks.nowhere n (omega (arith, length_after))) in
        omega (
          arith,
          length_after,
          length-functions_from after (length before + 2) (length adds.extends.more),
          grow_counts,
          pigeonhole (agree vars) (agree_turn vars) (agree_chain vars) listed (missing ∷ added) (apart, added_apart)
              (and_from (list_any (agree vars missing) listed) (covered (agree vars) listed added) counted added_covered),
        )
