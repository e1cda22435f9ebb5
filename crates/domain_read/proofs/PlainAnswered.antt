-- Every text has exactly one plain text or exactly one fault.
use Rattle.std.proofs.Common.{◌≡◌, ℕ, suc, ◌+◌, ◌-◌, ◌<◌, ◌≤◌, ◌⊎◌, inl, inr, List, [], ◌∷◌, length, refl, ap, sym, ◌∙◌, arith}
use Rattle.std.specs.Prelude.{Option, Some, None}
use Rattle.sexpr_text.specs.declared.faults.InputFault.{InputFault}
use Rattle.sexpr_text.specs.declared.faults.FaultKind.TheVariants.{TooDeep}
use Rattle.sexpr_text.specs.declared.forms.Span.{Span}
use Rattle.sexpr_text.specs.Faults.{most_open, HasNoFaultAt}
use Rattle.sexpr_text.specs.Flaws.{Flaw, first_of, fault_of_passes}
use Rattle.sexpr_text.specs.Forest.{Forest, nothing, word, group}
use Rattle.sexpr_text.specs.Formed.{nesting_of}
use Rattle.sexpr_text.specs.Lexis.{depth_at}
use Rattle.sexpr_text.specs.Ordered.{IsFlawless}
use Rattle.sexpr_text.specs.Spelling.{IsGap, IsWordAt, IsBetween, SpellsTrees}
use Rattle.sexpr_text.proofs.Depths.{depth_at-upto, blank-no_open, blank-no_close, word-no_open, word-no_close}
use Rattle.sexpr_text.proofs.FlawLaws.{passes-none}
use Rattle.sexpr_text.proofs.OneAnswer.{spells_trees-unique}
use Rattle.sexpr_text.proofs.PassLaws.{answered, not_both, one_fault_by}
use Rattle.domain_read.specs.Edits.{plain_text}
use Rattle.domain_read.specs.Faults.{text_flaws}
use Rattle.domain_read.specs.Plain.{definition_flaws, plain_passes, IsPlainOf, HasPlainFault}
use Rattle.domain_read.proofs.Walk.{plain_spelled}
use Rattle.list_laws.proofs.Numbers.{le_or_lt}
use Rattle.sexpr_text.proofs.Shapes.{gap_level, word_level, nesting_bounded}

-- no more groups stand in one another than may be open

pub some_fault : (f : Flaw) (fs : List Flaw) (passes : List (List Flaw)) → fault_of_passes ((f ∷ fs) ∷ passes) ≡ None → ⊥
unfolding fault_of_passes first_of
some_fault f fs passes h = cc

first_sound : (fs : List Flaw) (passes : List (List Flaw)) → fault_of_passes (fs ∷ passes) ≡ None → (fs ≡ []) × (fault_of_passes passes ≡ None)
first_sound [] passes h = (refl, sym (passes-none passes) ∙ h)
first_sound (f ∷ fs) passes h = absurd (some_fault f fs passes h)

made : (b : List ℕ) (trees : Forest) → IsFlawless plain_passes b trees → IsPlainOf b (plain_text trees b)
made b trees h =
    let later : fault_of_passes (text_flaws trees ∷ []) ≡ None = (first_sound (definition_flaws trees) (text_flaws trees ∷ []) h.sound).1 in
    let sound : text_flaws trees ≡ [] = (first_sound (text_flaws trees) [] later).0 in
    let deep : 0 + nesting_of trees ≤ most_open = nesting_bounded b 0 (length b) 0 trees h.spelled.sound.sound (omega arith) (omega arith) h.spelled.whole in
    record {
      trees = trees;
      spelled = h.spelled;
      sound = h.sound;
      exact = refl;
      means = plain_spelled b (plain_text trees b) trees h.spelled (omega arith) sound refl;
    }

pub plain_or_faulty : (b : List ℕ) → ((text : List ℕ) × IsPlainOf b text) ⊎ ((f : InputFault) × HasPlainFault b f)
plain_or_faulty b = elim (answered plain_passes b) [
  | inl h ↦ inl (plain_text h.0 b, made b h.0 h.1)
  | inr h ↦ inr h
]

pub one_text : (b s t : List ℕ) → IsPlainOf b s → IsPlainOf b t → s ≡ t
one_text b s t g h =
    g.exact ∙ (ap (λ trees. plain_text trees b) (spells_trees-unique b g.trees h.trees g.spelled h.spelled) ∙ sym h.exact)

pub one_fault : (b : List ℕ) (f g : InputFault) → HasPlainFault b f → HasPlainFault b g → f ≡ g
one_fault b f g = one_fault_by plain_passes b f g

pub never_both : (b text : List ℕ) (f : InputFault) → IsPlainOf b text → HasPlainFault b f → ⊥
never_both b text f g h = not_both plain_passes b g.trees f (record { spelled = g.spelled; sound = g.sound }) h
