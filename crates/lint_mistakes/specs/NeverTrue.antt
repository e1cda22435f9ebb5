-- Predicates that are needed, and that nothing makes true.
use Rattle.std.specs.Prelude.{ℕ, Bool, false, ◌||◌, ◌&&◌, not, List, [], ◌∷◌, ◌++◌, codes, if◌then◌else◌}
use Rattle.std.specs.Str.{bytes_eq}
use Rattle.lint_mistakes.specs.NeverUsed.{mentions}
use Rattle.lint_mistakes.specs.Rows.{parts_after, section_named, sections_of}
use Rattle.lint_mistakes.specs.declared.mistakes.Mistake.{Mistake}
use Rattle.lint_mistakes.specs.declared.mistakes.MistakeKind.TheVariants.{NeverTrue}
use Rattle.sexpr_text.specs.Forest.{Forest, nothing, word, group}
use Rattle.sexpr_text.specs.Parts.{begins_with}

abbrev mutual
  -- whether a list of the row, at any depth and outside of `not`, begins with the word
  pub asserts : List ℕ → Forest → Bool
  asserts w nothing = false
  asserts w (word span text rest) = asserts w rest
  asserts w (group span parts rest) = list_asserts w parts || asserts w rest

  -- the same of a list with these parts
  pub list_asserts : List ℕ → Forest → Bool
  list_asserts w nothing = false
  list_asserts w (group span parts rest) = list_asserts w parts || asserts w rest
  list_asserts w (word span head rest) =
      not (bytes_eq head (codes "not")) && (bytes_eq head w || asserts w rest)

-- whether a section of a domain with these parts is another than `:predicates`, and has such a list
abbrev pub section_asserts : List ℕ → Forest → Bool
section_asserts w parts = not (begins_with (codes ":predicates") parts) && asserts w parts

abbrev pub domain_asserts : List ℕ → Forest → Bool
domain_asserts w nothing = false
domain_asserts w (word span text rest) = domain_asserts w rest
domain_asserts w (group span parts rest) = section_asserts w parts || domain_asserts w rest

-- whether the predicate is needed: a section of the domain or a goal of the problem has such a list
abbrev pub is_needed : List ℕ → Forest → Forest → Bool
is_needed w domain problem =
    domain_asserts w domain || asserts w (section_named (codes ":goal") problem)
    || asserts w (section_named (codes ":ctl-goal") problem)

abbrev mutual
  -- whether an effect of the row adds an atom of the predicate
  pub adds : List ℕ → Forest → Bool
  adds w nothing = false
  adds w (word span text rest) = adds w rest
  adds w (group span parts rest) = effect_adds w parts || adds w rest

  -- the same of an effect with these parts: nothing is added by `not`, nor by the condition of `when`
  pub effect_adds : List ℕ → Forest → Bool
  effect_adds w nothing = false
  effect_adds w (group span parts rest) = false
  effect_adds w (word span head rest) =
      if bytes_eq head (codes "not") then false
      else if bytes_eq head (codes "when") then adds_after w rest
      else bytes_eq head w || adds w rest

  -- the same of the effects after the first form
  pub adds_after : List ℕ → Forest → Bool
  adds_after w nothing = false
  adds_after w (word span text rest) = adds w rest
  adds_after w (group span parts rest) = adds w rest

-- whether a section of a domain with these parts has an effect that adds an atom of the predicate
abbrev pub section_adds : List ℕ → Forest → Bool
section_adds w parts = effect_adds w (parts_after (codes ":effect") parts)

abbrev pub domain_adds : List ℕ → Forest → Bool
domain_adds w nothing = false
domain_adds w (word span text rest) = domain_adds w rest
domain_adds w (group span parts rest) = section_adds w parts || domain_adds w rest

-- whether anything makes an atom of the predicate true: `:init` names it, or an action adds it
abbrev pub is_made : List ℕ → Forest → Forest → Bool
is_made w domain problem =
    mentions w (section_named (codes ":init") problem) || domain_adds w domain

-- a predicate that is declared by a list with these parts, if it is needed and nothing makes it true
abbrev pub unmade_in_list : Forest → Forest → Forest → List Mistake
unmade_in_list domain problem nothing = []
unmade_in_list domain problem (group span parts rest) = []
unmade_in_list domain problem (word span w rest) =
    if is_needed w domain problem && not (is_made w domain problem)
    then record { span = span; kind = NeverTrue } ∷ [] else []

-- of those that a row declares: the place is that of the predicate's name
abbrev pub unmade_in_row : Forest → Forest → Forest → List Mistake
unmade_in_row domain problem nothing = []
unmade_in_row domain problem (word span text rest) = unmade_in_row domain problem rest
unmade_in_row domain problem (group span parts rest) =
    unmade_in_list domain problem parts ++ unmade_in_row domain problem rest

-- the predicates of the domain that are needed, and that nothing makes true
abbrev pub unmade_predicates : Forest → Forest → List Mistake
unmade_predicates domain_forms problem_forms =
    let domain = sections_of (codes "domain") domain_forms in
    unmade_in_row domain (sections_of (codes "problem") problem_forms)
    (section_named (codes ":predicates") domain)
