-- Forms without their places: what a grammar over the forms of a text speaks of.
use Rattle.std.specs.Prelude.{ℕ, List, [], ◌∷◌}
use Rattle.sexpr_text.specs.Forest.{Forest, nothing, word as placed_word, group as placed_group}

-- forms in a row: none; or a word and the row that follows it; or the row between two parentheses
-- and the row that follows them
pub data Row : Type 0 where
  nil : Row
  word : List ℕ → Row → Row
  group : Row → Row → Row

-- the forms of trees with places
abbrev pub row_of : Forest → Row
row_of nothing = nil
row_of (placed_word span text rest) = word text (row_of rest)
row_of (placed_group span parts rest) = group (row_of parts) (row_of rest)

-- these words, as `at a b`
abbrev pub words : List (List ℕ) → Row
words [] = nil
words (w ∷ ws) = word w (words ws)
