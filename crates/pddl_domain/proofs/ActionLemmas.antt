-- The parts of an action, one key more at a time.
use Rattle.std.proofs.Common.{◌≡◌, ℕ, List, [], ◌++◌, refl, sym, ◌∙◌, ap}
use Rattle.sexpr_text.specs.declared.forms.Span.{Span}
use Rattle.sexpr_text.specs.declared.parts.View.{View}
use Rattle.sexpr_text.specs.declared.parts.View.TheVariants.{Word, Group}
use Rattle.sexpr_text.specs.Forest.{Forest, nothing, word}
use Rattle.sexpr_text.specs.Heads.{view_then}
use Rattle.pddl_domain.specs.declared.actions.Key.{Key}
use Rattle.pddl_domain.specs.Actions.{Parts, key_of, key_flaws, keys_flaws, with_part, parts_after}

flaws_of_key : (parts : Parts) (span : Span) (w : List ℕ) (v : View) (next : Forest)
    → keys_flaws parts (word span w (view_then v next)) ≡ key_flaws parts span w (key_of w) ++ keys_flaws (with_part parts (key_of w) (view_then v nothing)) next
flaws_of_key parts span w (Word s t) next = refl
flaws_of_key parts span w (Group s p) next = refl

parts_of_key : (parts : Parts) (span : Span) (w : List ℕ) (v : View) (next : Forest)
    → parts_after parts (word span w (view_then v next)) ≡ parts_after (with_part parts (key_of w) (view_then v nothing)) next
parts_of_key parts span w (Word s t) next = refl
parts_of_key parts span w (Group s p) next = refl

-- one key, with the form after it
pub more_keys-flaws : (parts after : Parts) (key : Key) (span : Span) (w : List ℕ) (v : View) (row rest next : Forest)
    → row ≡ word span w rest → rest ≡ view_then v next → key ≡ key_of w → key_flaws parts span w key ≡ [] → after ≡ with_part parts key (view_then v nothing)
    → keys_flaws parts row ≡ keys_flaws after next
more_keys-flaws parts after key span w v row rest next head second is sound more =
    ap (keys_flaws parts) (head ∙ ap (word span w) second)
    ∙ (flaws_of_key parts span w v next
    ∙ (ap (λ k. key_flaws parts span w k ++ keys_flaws (with_part parts k (view_then v nothing)) next) (sym is)
    ∙ (ap (λ fs. fs ++ keys_flaws (with_part parts key (view_then v nothing)) next) sound
    ∙ ap (λ ps. keys_flaws ps next) (sym more))))

pub more_keys-read : (parts after : Parts) (key : Key) (span : Span) (w : List ℕ) (v : View) (row rest next : Forest)
    → row ≡ word span w rest → rest ≡ view_then v next → key ≡ key_of w → after ≡ with_part parts key (view_then v nothing)
    → parts_after parts row ≡ parts_after after next
more_keys-read parts after key span w v row rest next head second is more =
    ap (parts_after parts) (head ∙ ap (word span w) second)
    ∙ (parts_of_key parts span w v next
    ∙ (ap (λ k. parts_after (with_part parts k (view_then v nothing)) next) (sym is)
    ∙ ap (λ ps. parts_after ps next) (sym more)))
