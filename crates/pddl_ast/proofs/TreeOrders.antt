-- The flaws of formulas and of effects stand in the order of the text.
use Rattle.std.proofs.Common.{ℕ, ◌+◌, ◌-◌, ◌<◌, ◌≤◌, ◌==◌, false, List, [], ◌∷◌, ◌++◌, arith}
use Rattle.sexpr_text.specs.declared.forms.Span.{Span}
use Rattle.sexpr_text.specs.declared.faults.FaultKind.TheVariants.{BadForm, EmptyOneof}
use Rattle.sexpr_text.specs.Forest.{Forest, nothing, word, group}
use Rattle.sexpr_text.specs.Formed.{IsRising}
use Rattle.sexpr_text.specs.Flaws.{Flaw, IsInOrder, flaw_at}
use Rattle.sexpr_text.proofs.FlawLaws.{in_order-from, in_order-up_to, in_order-append}
use Rattle.sexpr_text.proofs.GroupLaws.{rising-bounds}
use Rattle.pddl_ast.specs.declared.typed_lists.Declares.TheVariants.{Variables}
use Rattle.pddl_ast.specs.Words.{is_reserved}
use Rattle.pddl_ast.specs.Known.{Known}
use Rattle.std.specs.Option.{is_some}
use Rattle.pddl_ast.specs.Atoms.{count, terms_flaws, atom_flaws, term_of}
use Rattle.pddl_ast.specs.Formulas.{bad_list, variables_flaws, inner_scope, formulas_flaws, formula_flaws, quantifier_flaws}
use Rattle.pddl_ast.specs.Effects.{effects_flaws, effect_flaws, deleted_flaws, when_flaws, each_flaws}
use Rattle.pddl_ast.proofs.Orders.{either, at_form, one_at, names-in_order, words-in_order, atom-in_order}
use Rattle.pddl_ast.proofs.Cases.{formula_cases, effect_cases}

-- one flaw at the list
pub at_list : (span : Span) → span.start + 2 ≤ span.end → IsInOrder span.start span.end (bad_list span)
at_list span h = (omega arith, omega arith)

-- flaws of the parts stand within the list
pub within : (span : Span) (lo : ℕ) (fs : List Flaw) → span.start ≤ lo → IsInOrder lo (span.end - 1) fs → IsInOrder span.start span.end fs
within span lo fs h f = in_order-from span.start lo span.end fs h (in_order-up_to lo (span.end - 1) span.end fs (omega arith) f)

mutual
  pub formulas-in_order : (known : Known) (row : Forest) (scope : List (List ℕ)) (lo hi : ℕ) → IsRising lo hi row → IsInOrder lo hi (formulas_flaws known row scope)
  formulas-in_order known nothing scope lo hi h = h
  formulas-in_order known (word span w rest) scope lo hi (a, b, c, d, e) =
      at_form lo hi span BadForm (formulas_flaws known rest scope) a b (formulas-in_order known rest scope span.end hi e)
  formulas-in_order known (group span parts rest) scope lo hi (a, b, c, d) =
      in_order-from lo span.start hi (formula_flaws known parts span scope ++ formulas_flaws known rest scope) a
      (in_order-append span.start span.end hi (formula_flaws known parts span scope) (formulas_flaws known rest scope)
      (formula-in_order known parts span scope b c) (formulas-in_order known rest scope span.end hi d))

  pub formula-in_order : (known : Known) (parts : Forest) (span : Span) (scope : List (List ℕ)) → span.start + 2 ≤ span.end
      → IsRising (span.start + 1) (span.end - 1) parts → IsInOrder span.start span.end (formula_flaws known parts span scope)
  formula-in_order known nothing span scope h r = omega arith
  formula-in_order known (group inner parts rest) span scope h r = at_list span h
  formula-in_order known (word head w parts) span scope h (a, b, c, d, e) =
      let row : IsInOrder span.start span.end (formulas_flaws known parts scope)
      = within span head.end (formulas_flaws known parts scope) (omega arith) (formulas-in_order known parts scope head.end (span.end - 1) e) in
      let bad : IsInOrder span.start span.end (bad_list span) = at_list span h in
      let quantifier : IsInOrder span.start span.end (quantifier_flaws known parts span scope) = quantifier-in_order known parts span scope head.end h (omega arith) e in
      let terms : IsInOrder span.start span.end (terms_flaws known scope parts)
      = within span head.end (terms_flaws known scope parts) (omega arith) (words-in_order (λ w. is_some (term_of known scope w)) parts head.end (span.end - 1) e) in
      formula_cases (λ flaws tree. IsInOrder span.start span.end flaws) known span head w parts scope
      row row
      (either span.start span.end (formulas_flaws known parts scope) (bad_list span) (count parts == 1) row bad)
      (either span.start span.end (formulas_flaws known parts scope) (bad_list span) (count parts == 2) row bad)
      quantifier quantifier
      (either span.start span.end (terms_flaws known scope parts) (bad_list span) (count parts == 2) terms bad)
      bad
      (in_order-up_to span.start (span.end - 1) span.end (atom_flaws known scope span head w parts) (omega arith)
      (atom-in_order known scope span head w parts (span.end - 1) (omega arith) b e))

  quantifier-in_order : (known : Known) (rest : Forest) (span : Span) (scope : List (List ℕ)) (lo : ℕ) → span.start + 2 ≤ span.end → span.start < lo
      → IsRising lo (span.end - 1) rest → IsInOrder span.start span.end (quantifier_flaws known rest span scope)
  quantifier-in_order known nothing span scope lo h k r = at_list span h
  quantifier-in_order known (word inner w rest) span scope lo h k (a, b, c, d, e) =
      let m : inner.end ≤ span.end - 1 = rising-bounds inner.end (span.end - 1) rest e in
      let one : IsInOrder span.start span.end (bad_list inner) = (omega arith, omega arith) in
      either span.start span.end (bad_list inner) (bad_list span) (count rest == 1) one (at_list span h)
  quantifier-in_order known (group inner variables rest) span scope lo h k (a, b, c, d) =
      either span.start span.end (variables_flaws known variables ++ formulas_flaws known rest (inner_scope scope variables)) (bad_list span) (count rest == 1)
      (within span inner.start (variables_flaws known variables ++ formulas_flaws known rest (inner_scope scope variables)) (omega arith)
      (in_order-append inner.start inner.end (span.end - 1) (variables_flaws known variables) (formulas_flaws known rest (inner_scope scope variables))
      (within inner (inner.start + 1) (variables_flaws known variables) (omega arith)
      (names-in_order Variables known.types variables [] false (inner.start + 1) (inner.end - 1) c))
      (formulas-in_order known rest (inner_scope scope variables) inner.end (span.end - 1) d)))
      (at_list span h)

deleted-in_order : (known : Known) (rest : Forest) (span : Span) (scope : List (List ℕ)) (lo : ℕ) → span.start + 2 ≤ span.end → span.start < lo
    → IsRising lo (span.end - 1) rest → IsInOrder span.start span.end (deleted_flaws known rest span scope)
deleted-in_order known nothing span scope lo h k r = at_list span h
deleted-in_order known (word inner w rest) span scope lo h k r = at_list span h
deleted-in_order known (group inner nothing rest) span scope lo h k r = at_list span h
deleted-in_order known (group inner (group s parts more) rest) span scope lo h k r = at_list span h
deleted-in_order known (group inner (word head w terms) (word s v more)) span scope lo h k r = at_list span h
deleted-in_order known (group inner (word head w terms) (group s parts more)) span scope lo h k r = at_list span h
deleted-in_order known (group inner (word head w terms) nothing) span scope lo h k (a, b, (c, d, e, f, g), i) =
    either span.start span.end (bad_list span) (atom_flaws known scope inner head w terms) (is_reserved w) (at_list span h)
    (in_order-from span.start inner.start span.end (atom_flaws known scope inner head w terms) (omega arith)
    (in_order-up_to inner.start (inner.end - 1) span.end (atom_flaws known scope inner head w terms) (omega arith)
    (atom-in_order known scope inner head w terms (inner.end - 1) (omega arith) d g)))

mutual
  pub effects-in_order : (known : Known) (row : Forest) (scope : List (List ℕ)) (lo hi : ℕ) → IsRising lo hi row → IsInOrder lo hi (effects_flaws known row scope)
  effects-in_order known nothing scope lo hi h = h
  effects-in_order known (word span w rest) scope lo hi (a, b, c, d, e) =
      at_form lo hi span BadForm (effects_flaws known rest scope) a b (effects-in_order known rest scope span.end hi e)
  effects-in_order known (group span parts rest) scope lo hi (a, b, c, d) =
      in_order-from lo span.start hi (effect_flaws known parts span scope ++ effects_flaws known rest scope) a
      (in_order-append span.start span.end hi (effect_flaws known parts span scope) (effects_flaws known rest scope)
      (effect-in_order known parts span scope b c) (effects-in_order known rest scope span.end hi d))

  pub effect-in_order : (known : Known) (parts : Forest) (span : Span) (scope : List (List ℕ)) → span.start + 2 ≤ span.end
      → IsRising (span.start + 1) (span.end - 1) parts → IsInOrder span.start span.end (effect_flaws known parts span scope)
  effect-in_order known nothing span scope h r = omega arith
  effect-in_order known (group inner parts rest) span scope h r = at_list span h
  effect-in_order known (word head w parts) span scope h (a, b, c, d, e) =
      let row : IsInOrder span.start span.end (effects_flaws known parts scope)
      = within span head.end (effects_flaws known parts scope) (omega arith) (effects-in_order known parts scope head.end (span.end - 1) e) in
      let bad : IsInOrder span.start span.end (bad_list span) = at_list span h in
      effect_cases (λ flaws tree. IsInOrder span.start span.end flaws) known span head w parts scope
      row
      (deleted-in_order known parts span scope head.end h (omega arith) e)
      (each-in_order known parts span scope head.end h (omega arith) e)
      (when-in_order known parts span scope head.end h (omega arith) e)
      (either span.start span.end (flaw_at span EmptyOneof ∷ []) (effects_flaws known parts scope) (count parts == 0) (one_at span EmptyOneof span.end (omega arith)) row)
      bad
      (in_order-up_to span.start (span.end - 1) span.end (atom_flaws known scope span head w parts) (omega arith)
      (atom-in_order known scope span head w parts (span.end - 1) (omega arith) b e))

  when-in_order : (known : Known) (rest : Forest) (span : Span) (scope : List (List ℕ)) (lo : ℕ) → span.start + 2 ≤ span.end → span.start < lo
      → IsRising lo (span.end - 1) rest → IsInOrder span.start span.end (when_flaws known rest span scope)
  when-in_order known nothing span scope lo h k r = at_list span h
  when-in_order known (word inner w rest) span scope lo h k (a, b, c, d, e) =
      either span.start span.end (flaw_at inner BadForm ∷ effects_flaws known rest scope) (bad_list span) (count rest == 1)
      (within span lo (flaw_at inner BadForm ∷ effects_flaws known rest scope) (omega arith)
      (at_form lo (span.end - 1) inner BadForm (effects_flaws known rest scope) a b (effects-in_order known rest scope inner.end (span.end - 1) e)))
      (at_list span h)
  when-in_order known (group inner parts rest) span scope lo h k (a, b, c, d) =
      either span.start span.end (formula_flaws known parts inner scope ++ effects_flaws known rest scope) (bad_list span) (count rest == 1)
      (within span inner.start (formula_flaws known parts inner scope ++ effects_flaws known rest scope) (omega arith)
      (in_order-append inner.start inner.end (span.end - 1) (formula_flaws known parts inner scope) (effects_flaws known rest scope)
      (formula-in_order known parts inner scope b c) (effects-in_order known rest scope inner.end (span.end - 1) d)))
      (at_list span h)

  each-in_order : (known : Known) (rest : Forest) (span : Span) (scope : List (List ℕ)) (lo : ℕ) → span.start + 2 ≤ span.end → span.start < lo
      → IsRising lo (span.end - 1) rest → IsInOrder span.start span.end (each_flaws known rest span scope)
  each-in_order known nothing span scope lo h k r = at_list span h
  each-in_order known (word inner w rest) span scope lo h k (a, b, c, d, e) =
      let m : inner.end ≤ span.end - 1 = rising-bounds inner.end (span.end - 1) rest e in
      let one : IsInOrder span.start span.end (bad_list inner) = (omega arith, omega arith) in
      either span.start span.end (bad_list inner) (bad_list span) (count rest == 1) one (at_list span h)
  each-in_order known (group inner variables rest) span scope lo h k (a, b, c, d) =
      either span.start span.end (variables_flaws known variables ++ effects_flaws known rest (inner_scope scope variables)) (bad_list span) (count rest == 1)
      (within span inner.start (variables_flaws known variables ++ effects_flaws known rest (inner_scope scope variables)) (omega arith)
      (in_order-append inner.start inner.end (span.end - 1) (variables_flaws known variables) (effects_flaws known rest (inner_scope scope variables))
      (within inner (inner.start + 1) (variables_flaws known variables) (omega arith)
      (names-in_order Variables known.types variables [] false (inner.start + 1) (inner.end - 1) c))
      (effects-in_order known rest (inner_scope scope variables) inner.end (span.end - 1) d)))
      (at_list span h)
