-- Formulas and effects without flaws fit what is known, and are no deeper than their forms.
use Rattle.std.proofs.Common.{◌≡◌, ℕ, suc, ◌+◌, ◌≤◌, ◌==◌, false, List, [], ◌∷◌, ◌++◌, length, refl, subst, ◌∙◌, arith}
use Rattle.std.specs.Prelude.{All}
use Rattle.std.proofs.lemmas.List.Elements.{All-head, All-tail}
use Rattle.sexpr_text.specs.declared.forms.Span.{Span}
use Rattle.sexpr_text.specs.declared.faults.FaultKind.TheVariants.{BadForm, EmptyOneof}
use Rattle.sexpr_text.specs.Forest.{Forest, nothing, word, group}
use Rattle.sexpr_text.specs.Formed.{nesting_of}
use Rattle.sexpr_text.specs.Flaws.{flaw_at}
use Rattle.pddl_ast.specs.declared.trees.Term.{Term}
use Rattle.pddl_ast.specs.Words.{is_reserved}
use Rattle.pddl_ast.specs.Known.{Known}
use Rattle.pddl_ast.specs.Trees.{FormulaTree, exists, forall, formula_row, EffectTree, effect_row}
use Rattle.pddl_ast.specs.Atoms.{count, terms_flaws, terms_of, atom_flaws}
use Rattle.pddl_ast.specs.TypedLists.{typed_groups}
use Rattle.pddl_ast.specs.Formulas.{bad_list, variables_flaws, inner_scope, variable_types, formulas_flaws, formulas_of, formula_flaws, formula_of, quantifier_flaws, quantified_of, first_formula, implication_of, equality_of}
use Rattle.pddl_ast.specs.Effects.{effects_flaws, effects_of, effect_flaws, effect_of, deleted_flaws, deleted_of, when_flaws, when_of, each_flaws, each_of, first_effect}
use Rattle.pddl_ast.specs.Depth.{formula_depth, formulas_depth, effect_depth, effects_depth}
use Rattle.pddl_ast.specs.Fits.{IsKnown, FitsFormula, FitsFormulas, FitsEffect, FitsEffects, HasEffect, AreTypes}
use Rattle.pddl_ast.proofs.Cases.{formula_cases, effect_cases}
use Rattle.pddl_ast.proofs.Fitting.{no_first, no_second, where_true, where_false, same_number, fits, terms-fit, atom-fits, types-within, scope-length}

-- a tree that fits with this many variables, and is at most so deep
abbrev FormulaAt : Known → ℕ → ℕ → FormulaTree → Type 0
FormulaAt known n d f = FitsFormula known f n × (formula_depth f ≤ d)

-- a row of them, of this length
abbrev FormulasAt : Known → ℕ → ℕ → ℕ → List FormulaTree → Type 0
FormulasAt known n d k fs = FitsFormulas known (formula_row fs) n × (formulas_depth (formula_row fs) ≤ d) × (length fs ≡ k)

abbrev EffectAt : Known → ℕ → ℕ → EffectTree → Type 0
EffectAt known n d e = FitsEffect known e n × (effect_depth e ≤ d)

abbrev EffectsAt : Known → ℕ → ℕ → ℕ → List EffectTree → Type 0
EffectsAt known n d k es = FitsEffects known (effect_row es) n × (effects_depth (effect_row es) ≤ d) × (length es ≡ k)

-- the first of a row
first-at : (known : Known) (n d k : ℕ) (fs : List FormulaTree) → FormulasAt known n d (suc k) fs → FormulaAt known n d (first_formula fs)
first-at known n d k [] (h, g, e) = absurd (omega arith)
first-at known n d k (f ∷ fs) (h, g, e) = (h.0, omega arith)

first_or_truth : (known : Known) (n d k : ℕ) (fs : List FormulaTree) → FormulasAt known n d k fs → FormulaAt known n (1 + d) (first_formula fs)
first_or_truth known n d k [] (h, g, e) = (tt {0}, omega arith)
first_or_truth known n d k (f ∷ fs) (h, g, e) = (h.0, omega arith)

-- that the first implies the second
implication-at : (known : Known) (n d : ℕ) (fs : List FormulaTree) → FormulasAt known n d 2 fs → FormulaAt known n (1 + d) (implication_of fs)
implication-at known n d [] (h, g, e) = absurd (omega arith)
implication-at known n d (f ∷ []) (h, g, e) = absurd (omega arith)
implication-at known n d (f ∷ (g ∷ fs)) (h, k, e) = ((h.0, h.1.0), omega arith)

-- that the first term equals the second
equality-at : (known : Known) (scope : List (List ℕ)) (d : ℕ) (ts : List Term) → All (fits known scope) ts → length ts ≡ 2 → FormulaAt known (length scope) (1 + d) (equality_of ts)
equality-at known scope d [] h e = absurd (omega arith)
equality-at known scope d (t ∷ []) h e = absurd (omega arith)
equality-at known scope d (t ∷ (u ∷ ts)) h e =
    ((All-head (fits known scope) t (u ∷ ts) h, All-head (fits known scope) u ts (All-tail (fits known scope) t (u ∷ ts) h)), omega arith)

-- a formula under variables
under : (known : Known) (scope : List (List ℕ)) (variables : Forest) (f : FormulaTree) → FitsFormula known f (length (inner_scope scope variables))
    → FitsFormula known f (length scope + length (variable_types known variables))
under known scope variables f h = subst (λ n. FitsFormula known f n) (scope-length known scope variables) h

mutual
  pub formulas-fit : (known : Known) (row : Forest) (scope : List (List ℕ)) → IsKnown known → formulas_flaws known row scope ≡ []
      → FormulasAt known (length scope) (nesting_of row) (count row) (formulas_of known row scope)
  formulas-fit known nothing scope ok h = (tt {0}, omega arith, refl)
  formulas-fit known (word span w rest) scope ok h = cc
  formulas-fit known (group span parts rest) scope ok h =
      let first = formula-fits known parts span scope ok (no_first (formula_flaws known parts span scope) (formulas_flaws known rest scope) h) in
      let later = formulas-fit known rest scope ok (no_second (formula_flaws known parts span scope) (formulas_flaws known rest scope) h) in
      let deep : formula_depth (formula_of known parts scope) ≤ 1 + nesting_of parts = first.1 in
      let deeper : formulas_depth (formula_row (formulas_of known rest scope)) ≤ nesting_of rest = later.1 in
      ((first.0, later.0), omega arith, (let e : length (formulas_of known rest scope) ≡ count rest = later.2 in omega arith))

  pub formula-fits : (known : Known) (parts : Forest) (span : Span) (scope : List (List ℕ)) → IsKnown known → formula_flaws known parts span scope ≡ []
      → FormulaAt known (length scope) (1 + nesting_of parts) (formula_of known parts scope)
  formula-fits known nothing span scope ok h = (tt {0}, omega arith)
  formula-fits known (group inner parts rest) span scope ok h = cc
  formula-fits known (word head w parts) span scope ok h =
      let row : formulas_flaws known parts scope ≡ [] → FormulasAt known (length scope) (nesting_of parts) (count parts) (formulas_of known parts scope)
      = formulas-fit known parts scope ok in
      formula_cases (λ flaws tree. flaws ≡ [] → FormulaAt known (length scope) (1 + nesting_of parts) tree) known span head w parts scope
      (λ h. let r = row h in let d : formulas_depth (formula_row (formulas_of known parts scope)) ≤ nesting_of parts = r.1 in (r.0, omega arith))
      (λ h. let r = row h in let d : formulas_depth (formula_row (formulas_of known parts scope)) ≤ nesting_of parts = r.1 in (r.0, omega arith))
      (λ h. let one = where_true (flaw_at span BadForm) (formulas_flaws known parts scope) (count parts == 1) h in
      let r = row one.1 in
      let f = first-at known (length scope) (nesting_of parts) 0 (formulas_of known parts scope) (r.0, r.1, r.2 ∙ same_number (count parts) 1 one.0) in
      let d : formula_depth (first_formula (formulas_of known parts scope)) ≤ nesting_of parts = f.1 in (f.0, omega arith))
      (λ h. let two = where_true (flaw_at span BadForm) (formulas_flaws known parts scope) (count parts == 2) h in
      let r = row two.1 in
      implication-at known (length scope) (nesting_of parts) (formulas_of known parts scope) (r.0, r.1, r.2 ∙ same_number (count parts) 2 two.0))
      (λ h. let q = quantifier-fits known parts span scope ok h in q.0)
      (λ h. let q = quantifier-fits known parts span scope ok h in q.1)
      (λ h. let two = where_true (flaw_at span BadForm) (terms_flaws known scope parts) (count parts == 2) h in
      let t = terms-fit known scope parts two.1 in
      equality-at known scope (nesting_of parts) (terms_of known scope parts) t.0 (t.1 ∙ same_number (count parts) 2 two.0))
      (λ h. cc)
      (λ h. (atom-fits known scope span head w parts ok h, omega arith))
      h

  quantifier-fits : (known : Known) (rest : Forest) (span : Span) (scope : List (List ℕ)) → IsKnown known → quantifier_flaws known rest span scope ≡ []
      → FormulaAt known (length scope) (1 + nesting_of rest) (quantified_of known rest scope (λ types body. exists types body))
      × FormulaAt known (length scope) (1 + nesting_of rest) (quantified_of known rest scope (λ types body. forall types body))
  quantifier-fits known nothing span scope ok h = cc
  quantifier-fits known (word inner w rest) span scope ok h =
      let e : bad_list inner ≡ [] = (where_true (flaw_at span BadForm) (bad_list inner) (count rest == 1) h).1 in cc
  quantifier-fits known (group inner variables rest) span scope ok h =
      let one = where_true (flaw_at span BadForm) (variables_flaws known variables ++ formulas_flaws known rest (inner_scope scope variables)) (count rest == 1) h in
      let r = formulas-fit known rest (inner_scope scope variables) ok (no_second (variables_flaws known variables) (formulas_flaws known rest (inner_scope scope variables)) one.1) in
      let f = first-at known (length (inner_scope scope variables)) (nesting_of rest) 0 (formulas_of known rest (inner_scope scope variables))
      (r.0, r.1, r.2 ∙ same_number (count rest) 1 one.0) in
      let d : formula_depth (first_formula (formulas_of known rest (inner_scope scope variables))) ≤ nesting_of rest = f.1 in
      let body = under known scope variables (first_formula (formulas_of known rest (inner_scope scope variables))) f.0 in
      let types : AreTypes known (variable_types known variables) = types-within known.types (typed_groups variables) ok.some_type in
      (((types, body), omega arith), ((types, body), omega arith))

-- the first of a row of effects
first_effect-at : (known : Known) (n d k : ℕ) (es : List EffectTree) → EffectsAt known n d (suc k) es → EffectAt known n d (first_effect es)
first_effect-at known n d k [] (h, g, e) = absurd (omega arith)
first_effect-at known n d k (f ∷ fs) (h, g, e) = (h.0, omega arith)

-- a row that isn't empty has an effect
some-effect : (known : Known) (n d k : ℕ) (es : List EffectTree) → EffectsAt known n d k es → (k == 0) ≡ false → HasEffect (effect_row es)
some-effect known n d k [] (h, g, e) some = cc
some-effect known n d k (f ∷ fs) (h, g, e) some = tt {0}

effect-under : (known : Known) (scope : List (List ℕ)) (variables : Forest) (e : EffectTree) → FitsEffect known e (length (inner_scope scope variables))
    → FitsEffect known e (length scope + length (variable_types known variables))
effect-under known scope variables e h = subst (λ n. FitsEffect known e n) (scope-length known scope variables) h

deleted-fits : (known : Known) (rest : Forest) (span : Span) (scope : List (List ℕ)) → IsKnown known → deleted_flaws known rest span scope ≡ []
    → EffectAt known (length scope) (1 + nesting_of rest) (deleted_of known rest scope)
deleted-fits known nothing span scope ok h = cc
deleted-fits known (word inner w rest) span scope ok h = cc
deleted-fits known (group inner nothing rest) span scope ok h = cc
deleted-fits known (group inner (group s parts more) rest) span scope ok h = cc
deleted-fits known (group inner (word head w terms) (word s v more)) span scope ok h = cc
deleted-fits known (group inner (word head w terms) (group s parts more)) span scope ok h = cc
deleted-fits known (group inner (word head w terms) nothing) span scope ok h =
    (atom-fits known scope inner head w terms ok (where_false (flaw_at span BadForm) (atom_flaws known scope inner head w terms) (is_reserved w) h).1, omega arith)

mutual
  pub effects-fit : (known : Known) (row : Forest) (scope : List (List ℕ)) → IsKnown known → effects_flaws known row scope ≡ []
      → EffectsAt known (length scope) (nesting_of row) (count row) (effects_of known row scope)
  effects-fit known nothing scope ok h = (tt {0}, omega arith, refl)
  effects-fit known (word span w rest) scope ok h = cc
  effects-fit known (group span parts rest) scope ok h =
      let first = effect-fits known parts span scope ok (no_first (effect_flaws known parts span scope) (effects_flaws known rest scope) h) in
      let later = effects-fit known rest scope ok (no_second (effect_flaws known parts span scope) (effects_flaws known rest scope) h) in
      let deep : effect_depth (effect_of known parts scope) ≤ 1 + nesting_of parts = first.1 in
      let deeper : effects_depth (effect_row (effects_of known rest scope)) ≤ nesting_of rest = later.1 in
      ((first.0, later.0), omega arith, (let e : length (effects_of known rest scope) ≡ count rest = later.2 in omega arith))

  pub effect-fits : (known : Known) (parts : Forest) (span : Span) (scope : List (List ℕ)) → IsKnown known → effect_flaws known parts span scope ≡ []
      → EffectAt known (length scope) (1 + nesting_of parts) (effect_of known parts scope)
  effect-fits known nothing span scope ok h = (tt {0}, omega arith)
  effect-fits known (group inner parts rest) span scope ok h = cc
  effect-fits known (word head w parts) span scope ok h =
      let row : effects_flaws known parts scope ≡ [] → EffectsAt known (length scope) (nesting_of parts) (count parts) (effects_of known parts scope)
      = effects-fit known parts scope ok in
      effect_cases (λ flaws tree. flaws ≡ [] → EffectAt known (length scope) (1 + nesting_of parts) tree) known span head w parts scope
      (λ h. let r = row h in let d : effects_depth (effect_row (effects_of known parts scope)) ≤ nesting_of parts = r.1 in (r.0, omega arith))
      (λ h. deleted-fits known parts span scope ok h)
      (λ h. each-fits known parts span scope ok h)
      (λ h. when-fits known parts span scope ok h)
      (λ h. let some = where_false (flaw_at span EmptyOneof) (effects_flaws known parts scope) (count parts == 0) h in
      let r = row some.1 in
      let d : effects_depth (effect_row (effects_of known parts scope)) ≤ nesting_of parts = r.1 in
      ((some-effect known (length scope) (nesting_of parts) (count parts) (effects_of known parts scope) r some.0, r.0), omega arith))
      (λ h. cc)
      (λ h. (atom-fits known scope span head w parts ok h, omega arith))
      h

  when-fits : (known : Known) (rest : Forest) (span : Span) (scope : List (List ℕ)) → IsKnown known → when_flaws known rest span scope ≡ []
      → EffectAt known (length scope) (1 + nesting_of rest) (when_of known rest scope)
  when-fits known nothing span scope ok h = cc
  when-fits known (word inner w rest) span scope ok h =
      let e : flaw_at inner BadForm ∷ effects_flaws known rest scope ≡ [] = (where_true (flaw_at span BadForm) (flaw_at inner BadForm ∷ effects_flaws known rest scope) (count rest == 1) h).1 in cc
  when-fits known (group inner parts rest) span scope ok h =
      let one = where_true (flaw_at span BadForm) (formula_flaws known parts inner scope ++ effects_flaws known rest scope) (count rest == 1) h in
      let c = formula-fits known parts inner scope ok (no_first (formula_flaws known parts inner scope) (effects_flaws known rest scope) one.1) in
      let r = effects-fit known rest scope ok (no_second (formula_flaws known parts inner scope) (effects_flaws known rest scope) one.1) in
      let e = first_effect-at known (length scope) (nesting_of rest) 0 (effects_of known rest scope) (r.0, r.1, r.2 ∙ same_number (count rest) 1 one.0) in
      let deep : formula_depth (formula_of known parts scope) ≤ 1 + nesting_of parts = c.1 in
      let deeper : effect_depth (first_effect (effects_of known rest scope)) ≤ nesting_of rest = e.1 in
      ((c.0, e.0), omega arith)

  each-fits : (known : Known) (rest : Forest) (span : Span) (scope : List (List ℕ)) → IsKnown known → each_flaws known rest span scope ≡ []
      → EffectAt known (length scope) (1 + nesting_of rest) (each_of known rest scope)
  each-fits known nothing span scope ok h = cc
  each-fits known (word inner w rest) span scope ok h =
      let e : bad_list inner ≡ [] = (where_true (flaw_at span BadForm) (bad_list inner) (count rest == 1) h).1 in cc
  each-fits known (group inner variables rest) span scope ok h =
      let one = where_true (flaw_at span BadForm) (variables_flaws known variables ++ effects_flaws known rest (inner_scope scope variables)) (count rest == 1) h in
      let r = effects-fit known rest (inner_scope scope variables) ok (no_second (variables_flaws known variables) (effects_flaws known rest (inner_scope scope variables)) one.1) in
      let e = first_effect-at known (length (inner_scope scope variables)) (nesting_of rest) 0 (effects_of known rest (inner_scope scope variables))
      (r.0, r.1, r.2 ∙ same_number (count rest) 1 one.0) in
      let d : effect_depth (first_effect (effects_of known rest (inner_scope scope variables))) ≤ nesting_of rest = e.1 in
      let body = effect-under known scope variables (first_effect (effects_of known rest (inner_scope scope variables))) e.0 in
      let types : AreTypes known (variable_types known variables) = types-within known.types (typed_groups variables) ok.some_type in
      ((types, body), omega arith)

-- the first of a row, or the formula that is always true; the first effect, or none
pub first_formula-fits : (known : Known) (row : Forest) (scope : List (List ℕ)) → IsKnown known → formulas_flaws known row scope ≡ []
    → FormulaAt known (length scope) (1 + nesting_of row) (first_formula (formulas_of known row scope))
first_formula-fits known row scope ok h = first_or_truth known (length scope) (nesting_of row) (count row) (formulas_of known row scope) (formulas-fit known row scope ok h)

first_or_none : (known : Known) (n d k : ℕ) (es : List EffectTree) → EffectsAt known n d k es → EffectAt known n (1 + d) (first_effect es)
first_or_none known n d k [] (h, g, e) = (tt {0}, omega arith)
first_or_none known n d k (f ∷ fs) (h, g, e) = (h.0, omega arith)

pub first_effect-fits : (known : Known) (row : Forest) (scope : List (List ℕ)) → IsKnown known → effects_flaws known row scope ≡ []
    → EffectAt known (length scope) (1 + nesting_of row) (first_effect (effects_of known row scope))
first_effect-fits known row scope ok h = first_or_none known (length scope) (nesting_of row) (count row) (effects_of known row scope) (effects-fit known row scope ok h)
