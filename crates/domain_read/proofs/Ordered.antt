-- The flaws of recognised lists stand in the order of the text, so the first of them is their fault.
use Rattle.std.proofs.Common.{◌≡◌, ℕ, suc, ◌+◌, ◌-◌, ◌<◌, ◌≤◌, Bool, true, false, if◌then◌else◌, List, [], ◌∷◌, ◌++◌, length, codes, refl, ap, sym, subst, ◌∙◌, inr, arith}
use Rattle.std.specs.Prelude.{Option, Some, None, Result, Ok, Err, IfOk, IfErr}
use Rattle.std.specs.Option.{option_map_or}
use Rattle.sexpr_text.specs.declared.faults.FaultKind.{FaultKind}
use Rattle.sexpr_text.specs.declared.faults.FaultKind.TheVariants.{BadWeight}
use Rattle.sexpr_text.specs.declared.faults.InputFault.{InputFault}
use Rattle.sexpr_text.specs.declared.faults.ReadErr.{ReadErr}
use Rattle.sexpr_text.specs.declared.faults.ReadErr.TheVariants.{Fault, Memory}
use Rattle.sexpr_text.specs.declared.forms.Span.{Span}
use Rattle.sexpr_text.specs.Flaws.{Flaw, flaw_at, IsInOrder, fault_of_passes, first_listed}
use Rattle.sexpr_text.specs.Forest.{Forest, nothing, word, group, forest_of}
use Rattle.sexpr_text.specs.Faults.{most_open}
use Rattle.sexpr_text.specs.Formed.{IsRising, IsFormed}
use Rattle.sexpr_text.specs.Passes.{IfFault}
use Rattle.sexpr_text.specs.Spelling.{Spells}
use Rattle.std.specs.declared.vec.Vec.{Vec}
use Rattle.std.specs.declared.alloc.Global.{Global}
use Rattle.sexpr_text.specs.declared.forms.Form.{Form}
use Rattle.sexpr_text.specs.Parts.{first_group_with, is_definition}
use Rattle.sexpr_text.proofs.FlawLaws.{in_order-from, in_order-up_to, in_order-append, passes-none, passes-end, passes-first, listed-later, listed-earlier}
use Rattle.sexpr_text.proofs.GroupLaws.{rising-bounds}
use Rattle.domain_read.specs.declared.roles.Role.{Role}
use Rattle.domain_read.specs.declared.roles.Role.TheVariants.{Text, Passed, Define, Action, Name}
use Rattle.domain_read.specs.declared.roles.Role.TheVariants.{Key, Value, Branches, Effects, Scope}
use Rattle.domain_read.specs.declared.roles.Role.TheVariants.{Bound, Body, Choice, Weight, Kept}
use Rattle.domain_read.specs.declared.roles.Role.TheVariants.{Dropped}
use Rattle.domain_read.specs.Weights.{weight, common_with}
use Rattle.domain_read.specs.Roles.{after_word, after_group, inner_role, is_left_out, text_role}
use Rattle.domain_read.specs.Edits.{edits, plain_text}
use Rattle.domain_read.specs.Faults.{list_fault, is_closed, flaw_of, weight_flaws, word_flaws, multiple_after, group_flaws, choice_flaws, text_flaws}
use Rattle.pddl_ast.specs.Definitions.{no_define}
use Rattle.domain_read.specs.Plain.{definition_flaws, plain_passes, IsPlainOf, HasPlainFault}
use Rattle.domain_read.proofs.Replaced.{length-all_edited}
use Rattle.domain_read.proofs.Walk.{plain_spelled}

one_flaw : (lo hi : ℕ) (span : Span) (kind : FaultKind) → lo ≤ span.start → span.start < hi → IsInOrder lo hi (flaw_at span kind ∷ [])
one_flaw lo hi span kind l u = (l, u)

flaw_ordered : (lo hi : ℕ) (span : Span) (o : Option FaultKind) → lo ≤ span.start → span.start < hi → IsInOrder lo hi (flaw_of span o)
flaw_ordered lo hi span None l u = let le : lo ≤ hi = omega arith in le
flaw_ordered lo hi span (Some kind) l u = (l, u)

weight_ordered : (m : ℕ) (span : Span) (text : List ℕ) → span.start < span.end → IsInOrder span.start span.end (weight_flaws m span text)
weight_ordered m span text some = by_weight (common_with m (weight text))
  where
    by_weight : (o : Option ℕ) → IsInOrder span.start span.end (option_map_or (λ n. []) o (flaw_at span BadWeight ∷ []))
    by_weight None = (omega arith, some)
    by_weight (Some n) = omega arith

word_ordered : (m : ℕ) (role : Role) (span : Span) (text : List ℕ) → span.start < span.end → IsInOrder span.start span.end (word_flaws m role span text)
word_ordered m Text span text some = omega arith
word_ordered m Passed span text some = omega arith
word_ordered m Define span text some = omega arith
word_ordered m Action span text some = omega arith
word_ordered m Name span text some = omega arith
word_ordered m Key span text some = omega arith
word_ordered m Value span text some = omega arith
word_ordered m Branches span text some = omega arith
word_ordered m Effects span text some = omega arith
word_ordered m Scope span text some = omega arith
word_ordered m Bound span text some = omega arith
word_ordered m Body span text some = omega arith
word_ordered m (Choice missing) span text some = omega arith
word_ordered m Weight span text some = weight_ordered m span text some
word_ordered m Kept span text some = omega arith
word_ordered m Dropped span text some = omega arith

left_out_ordered : (role : Role) (span : Span) → span.start < span.end → IsInOrder span.start span.end (group_flaws role span)
left_out_ordered Text span some = omega arith
left_out_ordered Passed span some = omega arith
left_out_ordered Define span some = omega arith
left_out_ordered Action span some = omega arith
left_out_ordered Name span some = omega arith
left_out_ordered Key span some = omega arith
left_out_ordered Value span some = omega arith
left_out_ordered Branches span some = omega arith
left_out_ordered Effects span some = omega arith
left_out_ordered Scope span some = omega arith
left_out_ordered Bound span some = omega arith
left_out_ordered Body span some = omega arith
left_out_ordered (Choice missing) span some = omega arith
left_out_ordered Weight span some = (omega arith, some)
left_out_ordered Kept span some = omega arith
left_out_ordered Dropped span some = omega arith

group_ordered : (span : Span) (room : ℕ) (role : Role) (parts : Forest) → span.start + 2 ≤ span.end → IsInOrder (span.start + 1) (span.end - 1) (choice_flaws (room - 1) 1 (inner_role role parts) parts)
    → IsInOrder span.start span.end
    (if is_left_out role then group_flaws role span
    else
    (let fault = list_fault room (inner_role role parts) parts in
    flaw_of span fault ++ (if is_closed fault then [] else choice_flaws (room - 1) 1 (inner_role role parts) parts)))
group_ordered span room role parts wide inner = by_test (is_left_out role)
  where
    inner_flaws : List Flaw
    inner_flaws = choice_flaws (room - 1) 1 (inner_role role parts) parts

    inside : IsInOrder (span.start + 1) span.end inner_flaws
    inside = in_order-up_to (span.start + 1) (span.end - 1) span.end inner_flaws (omega arith) inner

    by_closed : (v : Bool) → IsInOrder (span.start + 1) span.end (if v then [] else inner_flaws)
    by_closed true = omega arith
    by_closed false = inside

    by_fault : (o : Option FaultKind) → IsInOrder span.start span.end (flaw_of span o ++ (if is_closed o then [] else inner_flaws))
    by_fault o = in_order-append span.start (span.start + 1) span.end (flaw_of span o) (if is_closed o then [] else inner_flaws) (flaw_ordered span.start (span.start + 1) span o (omega arith) (omega arith)) (by_closed (is_closed o))

    by_test : (v : Bool) → IsInOrder span.start span.end
        (if v then group_flaws role span
        else
        (let fault = list_fault room (inner_role role parts) parts in
        flaw_of span fault ++ (if is_closed fault then [] else choice_flaws (room - 1) 1 (inner_role role parts) parts)))
    by_test true = left_out_ordered role span (omega arith)
    by_test false = by_fault (list_fault room (inner_role role parts) parts)

pub choices_ordered : (trees : Forest) (room m : ℕ) (role : Role) (lo hi : ℕ) → IsRising lo hi trees → IsInOrder lo hi (choice_flaws room m role trees)
choices_ordered nothing room m role lo hi g = g
choices_ordered (word span text rest) room m role lo hi g =
    in_order-append lo span.end hi (word_flaws m role span text) (choice_flaws room (multiple_after m role text) (after_word role text) rest)
    (in_order-from lo span.start span.end (word_flaws m role span text) g.0 (word_ordered m role span text g.1))
    (choices_ordered rest room (multiple_after m role text) (after_word role text) span.end hi g.4)
choices_ordered (group span parts rest) room m role lo hi g =
    in_order-append lo span.end hi _ (choice_flaws room m (after_group role parts) rest)
    (in_order-from lo span.start span.end _ g.0 (group_ordered span room role parts g.1 (choices_ordered parts (room - 1) 1 (inner_role role parts) (span.start + 1) (span.end - 1) g.2)))
    (choices_ordered rest room m (after_group role parts) span.end hi g.3)

definition_ordered : (trees : Forest) → IsInOrder 0 1 (definition_flaws trees)
definition_ordered trees = by_definition (first_group_with (is_definition (codes "domain")) trees)
  where
    by_definition : (o : Option (Span × Forest)) → IsInOrder 0 1 (option_map_or (λ d. []) o (no_define ∷ []))
    by_definition None = (omega arith, omega arith)
    by_definition (Some d) = omega arith

-- the fault of the passes is the first of their flaws
pub passes_listed : (size : ℕ) (trees : Forest) → IsRising 0 size trees → (o : Option InputFault) → first_listed (definition_flaws trees ++ text_flaws trees) ≡ o → fault_of_passes (plain_passes trees) ≡ o
passes_listed size trees rising o h = by_first (definition_flaws trees) (definition_ordered trees) h
  where
    ordered : IsInOrder 0 size (text_flaws trees)
    ordered = choices_ordered trees most_open 1 (text_role trees) 0 size rising

    by_second : (fs : List Flaw) → IsInOrder 0 size fs → first_listed fs ≡ o → fault_of_passes (fs ∷ []) ≡ o
    by_second [] q e = passes-none [] ∙ (passes-end ∙ e)
    by_second (f ∷ fs) q e = passes-first 0 size (f ∷ fs) [] f.fault q refl ∙ e

    by_first : (fs : List Flaw) → IsInOrder 0 1 fs → first_listed (fs ++ text_flaws trees) ≡ o → fault_of_passes (fs ∷ text_flaws trees ∷ []) ≡ o
    by_first [] q e = passes-none (text_flaws trees ∷ []) ∙ by_second (text_flaws trees) ordered e
    by_first (f ∷ fs) q e = passes-first 0 1 (f ∷ fs) (text_flaws trees ∷ []) f.fault q refl ∙ e

nil_pair : (xs ys : List Flaw) → xs ++ ys ≡ [] → ys ≡ []
nil_pair [] ys h = h
nil_pair (x ∷ xs) ys h = cc

-- what the functions over the forms say, of a text that spells them
pub plain_answer : (b : List ℕ) (forms : List Form) (size : ℕ) (r : Result (Vec ℕ Global) ReadErr) → Spells b forms → IsFormed size forms
    → IfOk r (λ _. definition_flaws (forest_of forms) ++ text_flaws (forest_of forms) ≡ []) → IfOk r (λ text. text.items ≡ plain_text (forest_of forms) b)
    → IfOk r (λ text. IsPlainOf b text.items)
plain_answer b forms size (Err e) spelled formed sound exact = tt
plain_answer b forms size (Ok text) spelled formed sound exact = record {
  trees = forest_of forms;
  spelled = spelled;
  sound = passes_listed size (forest_of forms) formed.rising None (ap first_listed sound);
  exact = exact;
  means = plain_spelled b text.items (forest_of forms) spelled formed.shallow (nil_pair (definition_flaws (forest_of forms)) (text_flaws (forest_of forms)) sound) exact;
}

pub length_answer : (b : List ℕ) (forms : List Form) (r : Result (Vec ℕ Global) ReadErr) → IfOk r (λ text. text.items ≡ plain_text (forest_of forms) b) → IfOk r (λ text. length text.items ≡ length b)
length_answer b forms (Err e) exact = tt
length_answer b forms (Ok text) exact = ap length exact ∙ length-all_edited (edits (text_role (forest_of forms)) (forest_of forms)) b

pub fault_answer : (b : List ℕ) (forms : List Form) (size : ℕ) (r : Result (Vec ℕ Global) ReadErr) → Spells b forms → IsFormed size forms
    → IfErr r (λ e. IfFault e (λ f. first_listed (definition_flaws (forest_of forms) ++ text_flaws (forest_of forms)) ≡ Some f))
    → IfErr r (λ e. IfFault e (λ f. HasPlainFault b f))
fault_answer b forms size (Ok text) spelled formed fault = tt
fault_answer b forms size (Err Memory) spelled formed fault = tt
fault_answer b forms size (Err (Fault f)) spelled formed fault =
    inr (forest_of forms, spelled, passes_listed size (forest_of forms) formed.rising (Some f) fault)
