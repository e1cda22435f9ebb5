-- One step over a row of forms.
use Rattle.std.proofs.Common.{◌≡◌, ℕ, suc, ◌+◌, ◌<◌, List, ◌++◌, length, get_or, drop, true, false, refl, ap, sym, ◌∙◌, arith, add-one}
use Rattle.sexpr_text.specs.declared.forms.Form.{Form}
use Rattle.sexpr_text.specs.declared.forms.Span.{Span}
use Rattle.sexpr_text.specs.Forest.{Forest, nothing, word, group, form_then, forest_of}
use Rattle.sexpr_text.proofs.Forests.{forest_of-drop}
use Rattle.domain_read.specs.declared.roles.Role.{Role}
use Rattle.domain_read.specs.Roles.{after_word, after_group}
use Rattle.domain_read.specs.Edits.{Edit, edits, word_edits, group_edits, all_edited}
use Rattle.domain_read.proofs.Replaced.{all_edited_append}

pub row_at : (fs : List Form) (i : ℕ) (f : Form) (put : Forest → Forest) → i < length fs → f ≡ get_or fs i f → ((rest : Forest) → form_then f rest ≡ put rest) → forest_of (drop i fs) ≡ put (forest_of (drop (i + 1) fs))
row_at fs i f put inside at view =
    forest_of-drop fs i f inside
    ∙ (ap (λ g. form_then g (forest_of (drop (suc i) fs))) (sym at)
    ∙ (view (forest_of (drop (suc i) fs)) ∙ ap (λ n. put (forest_of (drop n fs))) (sym (add-one i))))

edit_more : (es fs : List Edit) (text mid : List ℕ) → mid ≡ all_edited es text → all_edited (es ++ fs) text ≡ all_edited fs mid
edit_more es fs text mid h = all_edited_append es fs text ∙ ap (all_edited fs) (sym h)

pub edit_word_step : (role : Role) (row : Forest) (span : Span) (w : List ℕ) (rest : Forest) (text mid : List ℕ) → row ≡ word span w rest → mid ≡ all_edited (word_edits role span) text
    → all_edited (edits role row) text ≡ all_edited (edits (after_word role w) rest) mid
edit_word_step role row span w rest text mid e h =
    ap (λ r. all_edited (edits role r) text) e ∙ edit_more (word_edits role span) (edits (after_word role w) rest) text mid h

pub edit_group_step : (role : Role) (row : Forest) (span : Span) (parts rest : Forest) (text mid : List ℕ) → row ≡ group span parts rest → mid ≡ all_edited (group_edits role span parts) text
    → all_edited (edits role row) text ≡ all_edited (edits (after_group role parts) rest) mid
edit_group_step role row span parts rest text mid e h =
    ap (λ r. all_edited (edits role r) text) e ∙ edit_more (group_edits role span parts) (edits (after_group role parts) rest) text mid h
