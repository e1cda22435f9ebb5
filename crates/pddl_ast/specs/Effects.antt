-- Effects: what is wrong in one, and the tree that it is.
--
-- An effect is a list. `()` and `and` are all of the effects in it, `oneof` one of them, which has
-- at least one; `when` is an effect under a formula, `forall` one for each object; a predicate's
-- atom is added, and with `not` deleted. Inside a list of a wrong shape nothing else is looked for.
use Rattle.std.specs.Prelude.{ℕ, ◌==◌, if◌then◌else◌, List, [], ◌∷◌, ◌++◌}
use Rattle.sexpr_text.specs.declared.forms.Span.{Span}
use Rattle.sexpr_text.specs.declared.faults.FaultKind.TheVariants.{BadForm, EmptyOneof}
use Rattle.sexpr_text.specs.Forest.{Forest, nothing, word, group}
use Rattle.sexpr_text.specs.Flaws.{Flaw, flaw_at}
use Rattle.pddl_ast.specs.declared.keywords.Keyword.TheVariants.{And, Or, Not, Imply, Exists}
use Rattle.pddl_ast.specs.declared.keywords.Keyword.TheVariants.{Forall, Equals, When, Oneof}
use Rattle.pddl_ast.specs.declared.keywords.Keyword.TheVariants.{Unknown, Other}
use Rattle.pddl_ast.specs.Words.{keyword_of, is_reserved}
use Rattle.pddl_ast.specs.Known.{Known}
use Rattle.pddl_ast.specs.Atoms.{count, terms_of, atom_flaws, predicate_number}
use Rattle.pddl_ast.specs.Formulas.{bad_list, variables_flaws, inner_scope, variable_types}
use Rattle.pddl_ast.specs.Formulas.{formula_flaws, formula_of}
use Rattle.pddl_ast.specs.Trees.{EffectTree, add, delete, both, one_of, only_when, each, effect_row}

-- the effect that changes nothing, `()`
abbrev pub no_change : EffectTree
no_change = both (effect_row [])

-- everything that is wrong in `not` with these parts after it: one list, an atom of no reserved
-- head
abbrev pub deleted_flaws : Known → Forest → Span → List (List ℕ) → List Flaw
deleted_flaws known (group inner (word head w terms) nothing) span scope =
    if is_reserved w then bad_list span else atom_flaws known scope inner head w terms
deleted_flaws known _ span scope = bad_list span

abbrev mutual
  -- everything that is wrong in a row of effects
  pub effects_flaws : Known → Forest → List (List ℕ) → List Flaw
  effects_flaws known nothing scope = []
  effects_flaws known (word span w rest) scope =
      flaw_at span BadForm ∷ effects_flaws known rest scope
  effects_flaws known (group span parts rest) scope =
      effect_flaws known parts span scope ++ effects_flaws known rest scope

  -- everything that is wrong in the effect that the list with these parts and this span is
  pub effect_flaws : Known → Forest → Span → List (List ℕ) → List Flaw
  effect_flaws known nothing span scope = []
  effect_flaws known (group inner parts rest) span scope = bad_list span
  effect_flaws known (word head w parts) span scope = elim (keyword_of w) [
    | And ↦ effects_flaws known parts scope
    | Or ↦ bad_list span
    | Not ↦ deleted_flaws known parts span scope
    | Imply ↦ bad_list span
    | Exists ↦ bad_list span
    | Forall ↦ each_flaws known parts span scope
    | Equals ↦ bad_list span
    | When ↦ when_flaws known parts span scope
    | Oneof ↦ if count parts == 0 then flaw_at span EmptyOneof
        ∷ [] else effects_flaws known parts scope
    | Unknown ↦ bad_list span
    | Other ↦ atom_flaws known scope span head w parts
  ]

  -- the same for `when` with these parts after it: a formula and an effect
  pub when_flaws : Known → Forest → Span → List (List ℕ) → List Flaw
  when_flaws known nothing span scope = bad_list span
  when_flaws known (word inner w rest) span scope =
      if count rest == 1 then flaw_at inner BadForm
      ∷ effects_flaws known rest scope else bad_list span
  when_flaws known (group inner parts rest) span scope =
      if count rest == 1 then formula_flaws known parts inner scope
      ++ effects_flaws known rest scope else bad_list span

  -- the same for `forall` with these parts after it: a list of variables and an effect
  pub each_flaws : Known → Forest → Span → List (List ℕ) → List Flaw
  each_flaws known nothing span scope = bad_list span
  each_flaws known (word inner w rest) span scope =
      if count rest == 1 then bad_list inner else bad_list span
  each_flaws known (group inner variables rest) span scope =
      if count rest == 1 then variables_flaws known variables
      ++ effects_flaws known rest (inner_scope scope variables)
      else bad_list span

-- the first of a row of effects
abbrev pub first_effect : List EffectTree → EffectTree
first_effect [] = no_change
first_effect (e ∷ es) = e

-- the atom that is deleted
abbrev pub deleted_of : Known → Forest → List (List ℕ) → EffectTree
deleted_of known (group inner (word head w terms) nothing) scope =
    delete (predicate_number known w) (terms_of known scope terms)
deleted_of known _ scope = no_change

abbrev mutual
  -- the trees of a row of effects
  pub effects_of : Known → Forest → List (List ℕ) → List EffectTree
  effects_of known nothing scope = []
  effects_of known (word span w rest) scope = effects_of known rest scope
  effects_of known (group span parts rest) scope =
      effect_of known parts scope ∷ effects_of known rest scope

  -- the tree of the effect that the list with these parts is
  pub effect_of : Known → Forest → List (List ℕ) → EffectTree
  effect_of known nothing scope = no_change
  effect_of known (group inner parts rest) scope = no_change
  effect_of known (word head w parts) scope = elim (keyword_of w) [
    | And ↦ both (effect_row (effects_of known parts scope))
    | Or ↦ no_change
    | Not ↦ deleted_of known parts scope
    | Imply ↦ no_change
    | Exists ↦ no_change
    | Forall ↦ each_of known parts scope
    | Equals ↦ no_change
    | When ↦ when_of known parts scope
    | Oneof ↦ one_of (effect_row (effects_of known parts scope))
    | Unknown ↦ no_change
    | Other ↦ add (predicate_number known w) (terms_of known scope parts)
  ]

  pub when_of : Known → Forest → List (List ℕ) → EffectTree
  when_of known nothing scope = no_change
  when_of known (word inner w rest) scope = no_change
  when_of known (group inner parts rest) scope =
      only_when (formula_of known parts scope) (first_effect (effects_of known rest scope))

  pub each_of : Known → Forest → List (List ℕ) → EffectTree
  each_of known nothing scope = no_change
  each_of known (word inner w rest) scope = no_change
  each_of known (group inner variables rest) scope =
      each (variable_types known variables)
      (first_effect (effects_of known rest (inner_scope scope variables)))
