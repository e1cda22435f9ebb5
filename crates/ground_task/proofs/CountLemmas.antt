-- Outcomes counted part by part.
use Rattle.std.proofs.Common.{◌≡◌, ℕ, ◌+◌, ◌*◌, ◌<◌, ◌≤◌, List, length, get_or, drop, map, ap, sym, ◌∙◌, arith}
use Rattle.std.proofs.lemmas.List.{at_drop_more, at_drop_all}
use Rattle.pddl_ast.specs.Trees.{effect_row}
use Rattle.pddl_ast.specs.Values.{effect_value}
use Rattle.pddl_ast.specs.declared.trees.Effect.{Effect}
use Rattle.pddl_system.specs.Sizes.{outcome_count, product_of_counts, sum_of_counts}
use Rattle.ground_task.specs.Capped.{capped}
use Rattle.ground_task.proofs.Capping.{product_step, total_step}

module _ (objects : ℕ → List ℕ) where
  -- the counts of these effects multiplied, and added
  abbrev pub product_of : List Effect → ℕ
  product_of es = product_of_counts objects (effect_row (map effect_value es))

  abbrev pub sum_of : List Effect → ℕ
  sum_of es = sum_of_counts objects (effect_row (map effect_value es))

  pub product_more : (es : List Effect) (i count made next whole : ℕ) (e : Effect) → i < length es → e ≡ get_or es i e
      → made ≡ capped (outcome_count objects (effect_value e)) → next ≡ capped (count * made)
      → capped (count * product_of (drop i es)) ≡ whole → capped (next * product_of (drop (i + 1) es)) ≡ whole
  product_more es i count made next whole e within is by grows so_far =
      product_step count (outcome_count objects (effect_value e)) (product_of (drop (i + 1) es)) made next by grows
      ∙ ap (λ n. capped (count * n)) (ap (λ x. outcome_count objects (effect_value x) * product_of (drop (i + 1) es)) is ∙ sym (at_drop_more product_of es i e within))
      ∙ so_far

  pub sum_more : (es : List Effect) (i count made next whole : ℕ) (e : Effect) → i < length es → e ≡ get_or es i e
      → made ≡ capped (outcome_count objects (effect_value e)) → next ≡ capped (count + made)
      → capped (count + sum_of (drop i es)) ≡ whole → capped (next + sum_of (drop (i + 1) es)) ≡ whole
  sum_more es i count made next whole e within is by grows so_far =
      total_step count (outcome_count objects (effect_value e)) (sum_of (drop (i + 1) es)) made next by grows
      ∙ ap (λ n. capped (count + n)) (ap (λ x. outcome_count objects (effect_value x) + sum_of (drop (i + 1) es)) is ∙ sym (at_drop_more sum_of es i e within))
      ∙ so_far

  pub product_end : (es : List Effect) (i count : ℕ) → length es ≤ i → count ≤ 65 → capped (count * product_of (drop i es)) ≡ capped (product_of es) → count ≡ capped (product_of es)
  product_end es i count past small so_far =
      let e : capped (count * product_of (drop i es)) ≡ capped (count * 1) = ap (λ n. capped (count * n)) (at_drop_all product_of es i past) in
      omega (arith, e, so_far)

  pub sum_end : (es : List Effect) (i count : ℕ) → length es ≤ i → count ≤ 65 → capped (count + sum_of (drop i es)) ≡ capped (sum_of es) → count ≡ capped (sum_of es)
  sum_end es i count past small so_far =
      let e : capped (count + sum_of (drop i es)) ≡ capped (count + 0) = ap (λ n. capped (count + n)) (at_drop_all sum_of es i past) in
      omega (arith, e, so_far)
