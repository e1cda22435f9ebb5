-- The trees of a list of forms, form by form.
use Rattle.std.proofs.Common.{◌≡◌, ℕ, suc, ◌<◌, length, get_or, drop, drop-cons, List, [], ◌∷◌, ◌++◌, map, refl, ap, sym, ◌∙◌}
use Rattle.sexpr_text.specs.declared.forms.Span.{Span}
use Rattle.sexpr_text.specs.declared.forms.Form.{Form}
use Rattle.sexpr_text.specs.declared.forms.Form.TheOpen.{Form-F, Word, Group}
use Rattle.sexpr_text.specs.declared.forms.Form.TheViews.{out-Form}
use Rattle.sexpr_text.specs.declared.forms.Form.TheVariants.{Word as word_form, Group as group_form, rolls-Word, rolls-Group}
use Rattle.std.specs.declared.vec.Vec.{Vec}
use Rattle.std.specs.declared.alloc.Global.{Global}
use Rattle.sexpr_text.specs.declared.forms.Form.TheFolds.{map-Form, fold-roll-Form, fold_out-Form}
use Rattle.sexpr_text.specs.Forest.{Forest, nothing, word, group, join, put_before, form_step, form_then, forest_of}

-- the parts of a group are put before nothing
put_before-all : (fs : List Form) → put_before (map form_then fs) nothing ≡ forest_of fs
put_before-all [] = refl
put_before-all (f ∷ fs) = ap (form_then f) (put_before-all fs)

pub join-assoc : (s t u : Forest) → join (join s t) u ≡ join s (join t u)
join-assoc nothing t u = refl
join-assoc (word span text rest) t u = ap (word span text) (join-assoc rest t u)
join-assoc (group span parts rest) t u = ap (group span parts) (join-assoc rest t u)

layer-join : (x : Form-F (Forest → Forest)) (rest : Forest) → form_step x rest ≡ join (form_step x nothing) rest
layer-join (Word span text) rest = refl
layer-join (Group span parts) rest = refl

-- a form before others is a form, and then the others
pub form_then-join : (f : Form) (rest : Forest) → form_then f rest ≡ join (form_then f nothing) rest
form_then-join f rest =
    let h = fold_out-Form (Forest → Forest) form_step f in
    ap (λ g. g rest) h
    ∙ (layer-join (map-Form Form (Forest → Forest) form_then (out-Form f)) rest
    ∙ ap (λ g. join (g nothing) rest) (sym h))

-- one more form at the end
pub forest_of-push : (fs : List Form) (f : Form) → forest_of (fs ++ f ∷ []) ≡ join (forest_of fs) (form_then f nothing)
forest_of-push [] f = refl
forest_of-push (g ∷ fs) f =
    ap (form_then g) (forest_of-push fs f)
    ∙ (form_then-join g (join (forest_of fs) (form_then f nothing))
    ∙ (sym (join-assoc (form_then g nothing) (forest_of fs) (form_then f nothing))
    ∙ ap (λ t. join t (form_then f nothing)) (sym (form_then-join g (forest_of fs)))))

pub form_then-word : (span : Span) (text : List ℕ) (rest : Forest) → form_then (word_form span text) rest ≡ word span text rest
form_then-word span text rest = ap (λ f. form_then f rest) (sym (rolls-Word span text)) ∙ ap (λ g. g rest) (fold-roll-Form (Forest → Forest) form_step (Word span text))

pub form_then-group : (span : Span) (parts : Vec Form Global) (rest : Forest) → form_then (group_form span parts) rest ≡ group span (forest_of parts.items) rest
form_then-group span parts rest =
    ap (λ f. form_then f rest) (sym (rolls-Group span parts))
    ∙ (ap (λ g. g rest) (fold-roll-Form (Forest → Forest) form_step (Group span parts))
    ∙ ap (λ t. group span t rest) (put_before-all parts.items))

-- the trees from one form of a list on
pub forest_of-drop : (fs : List Form) (i : ℕ) (d : Form) → i < length fs → forest_of (drop i fs) ≡ form_then (get_or fs i d) (forest_of (drop (suc i) fs))
forest_of-drop fs i d h = ap forest_of (drop-cons fs i d h)
