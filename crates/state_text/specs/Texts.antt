-- The texts of states, of what changes from one to the next, of conditions and of the numbers of steps:
-- what is printed, byte for byte.
use Rattle.std.specs.Prelude.{ℕ, zero, suc, Bool, true, false, List, [], ◌++◌, codes, decimal, length, map}
use Rattle.std.specs.List.{flat_map}
use Rattle.plan_rules.specs.Texts.{atom_text, line_feed, name_at}
use Rattle.task_core.specs.Names.{Name}
use Rattle.task_core.specs.Vectors.{Vector, value_of}
use Rattle.task_core.specs.declared.conditions.Cond.{Cond}
use Rattle.task_core.specs.declared.conditions.Cond.TheOpen.{Cond-F, Yes, No, Is, Not, All, Any}
use Rattle.task_core.specs.declared.conditions.Cond.TheFolds.{fold-Cond}

-- a text after a space
abbrev pub after_space : List ℕ → List ℕ
after_space text = codes " " ++ text

-- one layer of a condition, with the texts of its parts in their place. `(and)` holds always, and
-- `(or)` never
abbrev pub condition_layer : List Name → Cond-F (List ℕ) → List ℕ
condition_layer fluents Yes = codes "(and)"
condition_layer fluents No = codes "(or)"
condition_layer fluents (Is f) = atom_text (name_at fluents f.0)
condition_layer fluents (Not part) = codes "(not " ++ part.value ++ codes ")"
condition_layer fluents (All parts) = codes "(and" ++ flat_map after_space parts.items ++ codes ")"
condition_layer fluents (Any parts) = codes "(or" ++ flat_map after_space parts.items ++ codes ")"

-- a condition, as (at a), (not (at a)), (and (at a) (at b)) or (or (at a) (at b))
abbrev pub condition_text : List Name → Cond → List ℕ
condition_text fluents = fold-Cond (List ℕ) (condition_layer fluents)

-- conditions, each after a space
abbrev pub conditions_text : List Name → List Cond → List ℕ
conditions_text fluents parts = flat_map after_space (map (condition_text fluents) parts)

-- what is printed of each number below a bound, in rising order
abbrev pub below : (ℕ → List ℕ) → ℕ → List ℕ
below part zero = []
below part (suc i) = below part i ++ part i

-- a fluent that is true is printed, after a space
abbrev pub true_word : Name → Bool → List ℕ
true_word name false = []
true_word name true = after_space (atom_text name)

-- the true fluents of a state, in the order of their numbers
abbrev pub true_text : List Name → Vector → List ℕ
true_text fluents state =
    below (λ i. true_word (name_at fluents i) (value_of state i)) (length fluents)

-- a fluent that became true, or false, has a line, as: two spaces, + (at b)
abbrev pub change_line : Name → (before after : Bool) → List ℕ
change_line name false false = []
change_line name false true = codes "  + " ++ atom_text name ++ line_feed
change_line name true false = codes "  - " ++ atom_text name ++ line_feed
change_line name true true = []

-- what changes from one state to another, in the order of the fluents' numbers
abbrev pub changes_text : List Name → (before after : Vector) → List ℕ
changes_text fluents before after =
    below (λ i. change_line (name_at fluents i) (value_of before i) (value_of after i))
    (length fluents)

-- the number of a step, counted from 1, as step 3,
abbrev pub number_text : ℕ → List ℕ
number_text number = codes "step " ++ decimal number ++ codes ", "
