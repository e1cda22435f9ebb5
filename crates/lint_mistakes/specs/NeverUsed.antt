-- Predicates that are declared and then never used.
use Rattle.std.specs.Prelude.{ℕ, Bool, false, ◌||◌, ◌&&◌, not, List, [], ◌∷◌, ◌++◌, codes, if◌then◌else◌}
use Rattle.lint_mistakes.specs.Rows.{section_named, sections_of}
use Rattle.lint_mistakes.specs.declared.mistakes.Mistake.{Mistake}
use Rattle.lint_mistakes.specs.declared.mistakes.MistakeKind.TheVariants.{NeverUsed}
use Rattle.sexpr_text.specs.Forest.{Forest, nothing, word, group}
use Rattle.sexpr_text.specs.Parts.{begins_with}

-- whether a list of the row, at any depth, begins with the word
abbrev pub mentions : List ℕ → Forest → Bool
mentions w nothing = false
mentions w (word span text rest) = mentions w rest
mentions w (group span parts rest) = begins_with w parts || mentions w parts || mentions w rest

-- whether a section of a domain with these parts is another than `:predicates`, and has such a list
abbrev pub section_uses : List ℕ → Forest → Bool
section_uses w parts = not (begins_with (codes ":predicates") parts) && mentions w parts

-- whether one of the sections of a domain has
abbrev pub domain_uses : List ℕ → Forest → Bool
domain_uses w nothing = false
domain_uses w (word span text rest) = domain_uses w rest
domain_uses w (group span parts rest) =
    section_uses w parts || domain_uses w rest

-- whether a goal of a problem has
abbrev pub goal_uses : List ℕ → Forest → Bool
goal_uses w sections =
    mentions w (section_named (codes ":goal") sections)
    || mentions w (section_named (codes ":ctl-goal") sections)

-- whether an action, the invariant or a goal names the predicate; facts alone don't use it
abbrev pub is_used : List ℕ → Forest → Forest → Bool
is_used w domain problem = domain_uses w domain || goal_uses w problem

-- a predicate that is declared by a list with these parts, if it is never used in these sections: the
-- place is that of its name
abbrev pub unused_in_list : Forest → Forest → Forest → List Mistake
unused_in_list domain problem nothing = []
unused_in_list domain problem (group span parts rest) = []
unused_in_list domain problem (word span text rest) =
    if is_used text domain problem then [] else record { span = span; kind = NeverUsed } ∷ []

-- of those that a row declares the ones that are never used
abbrev pub unused_in_row : Forest → Forest → Forest → List Mistake
unused_in_row domain problem nothing = []
unused_in_row domain problem (word span text rest) = unused_in_row domain problem rest
unused_in_row domain problem (group span parts rest) =
    unused_in_list domain problem parts ++ unused_in_row domain problem rest

-- the predicates of the domain that are never used
abbrev pub unused_predicates : Forest → Forest → List Mistake
unused_predicates domain_forms problem_forms =
    let domain = sections_of (codes "domain") domain_forms in
    unused_in_row domain (sections_of (codes "problem") problem_forms)
    (section_named (codes ":predicates") domain)
