-- A condition as words, which are numbers, and how they are read: one after another, with the value so far.
use Rattle.std.specs.Prelude.{ℕ, zero, suc, ◌+◌, ◌-◌, ◌==◌, Bool, true, false, not, List, [], ◌∷◌, ◌++◌}
use Rattle.std.specs.Prelude.{if◌then◌else◌, nat_le}
use Rattle.std.specs.List.{flat_map}
use Rattle.task_core.specs.Vectors.{Vector, value_of}
use Rattle.task_core.specs.declared.conditions.Cond.{Cond}
use Rattle.task_core.specs.declared.conditions.Cond.TheOpen.{Cond-F, Yes, No, Is, Not, All, Any}
use Rattle.task_core.specs.declared.conditions.Cond.TheFolds.{fold-Cond}

-- the words of a part, and then one that may leave the conjunction or disjunction
abbrev pub then_word : ℕ → List ℕ → List ℕ
then_word word part = part ++ word ∷ []

-- one layer of the words, with those of its parts in their place: 0 and 1 are brackets, 2 is true, 3 is
-- false, 4 negates the value, 5 leaves the brackets where the value is false, 6 leaves them where it is
-- true, and 7 + f is the value of the fluent f
abbrev pub words_layer : Cond-F (List ℕ) → List ℕ
words_layer Yes = 2 ∷ []
words_layer No = 3 ∷ []
words_layer (Is f) = (7 + f.0) ∷ []
words_layer (Not part) = part.value ++ 4 ∷ []
words_layer (All parts) = 0 ∷ 2 ∷ flat_map (then_word 5) parts.items ++ 1 ∷ []
words_layer (Any parts) = 0 ∷ 3 ∷ flat_map (then_word 6) parts.items ++ 1 ∷ []

-- the words of a condition
abbrev pub words_of : Cond → List ℕ
words_of = fold-Cond (List ℕ) words_layer

-- how many brackets have to close before the words count again, after one word more
abbrev pub pending_after : Bool → ℕ → ℕ → ℕ
pending_after value zero word =
    if word == 5 then (if value then 0 else 1) else if word == 6 then (if value then 1 else 0) else 0
pending_after value (suc pending) word =
    if word == 0 then suc (suc pending) else if word == 1 then pending else suc pending

-- the value after one word more
abbrev pub value_after : (ℕ → Bool) → Bool → ℕ → ℕ → Bool
value_after state value zero word =
    if word == 2 then true else if word == 3 then false else if word == 4 then not value
    else if nat_le 7 word then state (word - 7) else value
value_after state value (suc pending) word = value

-- the value after all words
abbrev pub read_words : (ℕ → Bool) → ℕ → Bool → List ℕ → Bool
read_words state pending value [] = value
read_words state pending value (word ∷ words) =
    read_words state (pending_after value pending word) (value_after state value pending word) words

-- whether the condition that words spell holds in a state
abbrev pub words_hold : List ℕ → Vector → Bool
words_hold words v = read_words (value_of v) 0 true words
