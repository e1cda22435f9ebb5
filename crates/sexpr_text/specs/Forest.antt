-- Forms as plain trees. A `Vec` has a capacity, which no text spells, so a law that says that two
-- lists of forms are the same speaks of the trees that they stand for.
use Rattle.std.specs.Prelude.{ℕ, List, [], ◌∷◌}
use Rattle.sexpr_text.specs.declared.forms.Span.{Span}
use Rattle.sexpr_text.specs.declared.forms.Form.{Form}
use Rattle.sexpr_text.specs.declared.forms.Form.TheOpen.{Form-F, Word, Group}
use Rattle.sexpr_text.specs.declared.forms.Form.TheFolds.{fold-Form}

-- an ordered forest: a list of trees, each with the trees that follow it
pub data Forest : Type 0 where
  nothing : Forest
  word : Span → List ℕ → Forest → Forest
  group : Span → Forest → Forest → Forest

-- each form puts itself before the forest that follows it
abbrev pub put_before : List (Forest → Forest) → Forest → Forest
put_before [] rest = rest
put_before (f ∷ fs) rest = f (put_before fs rest)

-- one form before the forest that follows it, with the same for each of its parts in their place
abbrev pub form_step : Form-F (Forest → Forest) → Forest → Forest
form_step (Word span text) = λ rest. word span text rest
form_step (Group span parts) = λ rest. group span (put_before parts.items nothing) rest

-- a form before the forest that follows it
abbrev pub form_then : Form → Forest → Forest
form_then = fold-Form (Forest → Forest) form_step

-- the plain trees of a list of forms
abbrev pub forest_of : List Form → Forest
forest_of [] = nothing
forest_of (f ∷ fs) = form_then f (forest_of fs)

-- the span of a form
abbrev pub span_step : Form-F Span → Span
span_step (Word span text) = span
span_step (Group span parts) = span

abbrev pub span_of : Form → Span
span_of = fold-Form Span span_step

-- two forests, one after the other
abbrev pub join : Forest → Forest → Forest
join nothing others = others
join (word span text rest) others = word span text (join rest others)
join (group span parts rest) others = group span parts (join rest others)
