-- The views of forms through references, as forests.
use Rattle.sexpr_text.specs.declared.parts.Head.{Head}
use Rattle.sexpr_text.specs.declared.parts.Head.TheVariants.{Nothing, Word as head_word}
use Rattle.sexpr_text.specs.declared.parts.Head.TheVariants.{Group as head_group}
use Rattle.sexpr_text.specs.declared.parts.View.{View}
use Rattle.sexpr_text.specs.declared.parts.View.TheVariants.{Word, Group}
use Rattle.sexpr_text.specs.Forest.{Forest, nothing, word, group, forest_of}

-- the form that is looked at, before the forest that follows it
abbrev pub view_then : View → Forest → Forest
view_then (Word span text) rest = word span text.now rest
view_then (Group span parts) rest = group span (forest_of parts.now) rest

-- the row of which this is the head
abbrev pub head_forest : Head → Forest
head_forest Nothing = nothing
head_forest (head_word span text rest) = word span text.now (forest_of rest.now)
head_forest (head_group span parts rest) = group span (forest_of parts.now) (forest_of rest.now)
