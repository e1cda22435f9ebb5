-- The items of `:init`, one after the other.
use Rattle.std.proofs.Common.{◌≡◌, ℕ, suc, ◌+◌, ◌<◌, true, false, List, [], ◌∷◌, ◌++◌, length, drop, get_or, ap, sym, ◌∙◌, append_assoc, add-one, drop-cons, codes, Some}
use Rattle.std.specs.Prelude.{if◌then◌else◌}
use Rattle.std.specs.Str.{bytes_eq}
use Rattle.sexpr_text.specs.declared.faults.ReadErr.{ReadErr}
use Rattle.sexpr_text.specs.declared.faults.ReadErr.TheVariants.{Fault, Memory}
use Rattle.sexpr_text.specs.declared.forms.Span.{Span}
use Rattle.sexpr_text.specs.declared.forms.Form.{Form}
use Rattle.sexpr_text.specs.Flaws.{Flaw, first_listed}
use Rattle.sexpr_text.specs.Forest.{Forest, word, group, form_then, forest_of}
use Rattle.sexpr_text.specs.Passes.{IfFault}
use Rattle.sexpr_text.proofs.FlawLaws.{listed-earlier}
use Rattle.pddl_problem.specs.Init.{each_entry}

next_form : (row : List Form) (k : ℕ) (f : Form) → k < length row → f ≡ get_or row k f → drop k row ≡ f ∷ drop (k + 1) row
next_form row k f lt is = rw add-one (drop-cons row k f lt ∙ ap (λ g. g ∷ drop (suc k) row) (sym is))

-- the form at a place of a row is this list
pub record IsList (row : List Form) (k : ℕ) (f : Form) (span : Span) (parts : Forest) : Type 0 where
  pub inside : k < length row
  pub here : f ≡ get_or row k f
  pub list : (rest : Forest) → form_then f rest ≡ group span parts rest

pub list_next : (row : List Form) (k : ℕ) (f : Form) (span : Span) (parts : Forest) → IsList row k f span parts
    → forest_of (drop k row) ≡ group span parts (forest_of (drop (k + 1) row))
list_next row k f span parts is = rw (next_form row k f is.inside is.here) (is.list (forest_of (drop (k + 1) row)))

pub and_next : {X : Type 0} (of_word : Span → List X) (of_list : Span → Forest → List X) (row : List Form) (k : ℕ) (f : Form) (span s : Span) (w : List ℕ) (inner : Forest)
    → IsList row k f span (word s w inner) → true ≡ bytes_eq w (codes "and")
    → each_entry of_word of_list (forest_of (drop k row)) ≡ each_entry of_word of_list inner ++ each_entry of_word of_list (forest_of (drop (k + 1) row))
and_next of_word of_list row k f span s w inner is test =
    let later = each_entry of_word of_list (forest_of (drop (k + 1) row)) in
    ap (each_entry of_word of_list) (list_next row k f span (word s w inner) is)
    ∙ ap (λ b. (if b then each_entry of_word of_list inner else of_list span (word s w inner)) ++ later) (sym test)

pub other_next : {X : Type 0} (of_word : Span → List X) (of_list : Span → Forest → List X) (row : List Form) (k : ℕ) (f : Form) (span s : Span) (w : List ℕ) (inner : Forest)
    → IsList row k f span (word s w inner) → false ≡ bytes_eq w (codes "and")
    → each_entry of_word of_list (forest_of (drop k row)) ≡ of_list span (word s w inner) ++ each_entry of_word of_list (forest_of (drop (k + 1) row))
other_next of_word of_list row k f span s w inner is test =
    let later = each_entry of_word of_list (forest_of (drop (k + 1) row)) in
    ap (each_entry of_word of_list) (list_next row k f span (word s w inner) is)
    ∙ ap (λ b. (if b then each_entry of_word of_list inner else of_list span (word s w inner)) ++ later) (sym test)

-- a fault of the first flaws that are left is that of all of them
pub fault_next : (all here now later : List Flaw) (e : ReadErr) → all ≡ here → here ≡ now ++ later
    → IfFault e (λ f. first_listed now ≡ Some f) → IfFault e (λ f. first_listed all ≡ Some f)
fault_next all here now later Memory p q h = h
fault_next all here now later (Fault f) p q h = ap first_listed (p ∙ q) ∙ listed-earlier now later f h

-- without flaws among the next ones, those that are left are the later ones
pub clean_next : (all here now later : List Flaw) → all ≡ here → here ≡ now ++ later → now ≡ [] → all ≡ later
clean_next all here now later p q h = p ∙ (q ∙ ap (λ fs. fs ++ later) h)

-- what was read so far, and what is left
pub read_next : {X : Type 0} (before all done here now later more : List X) → before ++ all ≡ done ++ here → here ≡ now ++ later → more ≡ done ++ now
    → before ++ all ≡ more ++ later
read_next before all done here now later more p q h = p ∙ (ap (λ xs. done ++ xs) q ∙ (sym (append_assoc done now later) ∙ ap (λ xs. xs ++ later) (sym h)))
