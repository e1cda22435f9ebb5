-- Each pass over a domain's text lists its flaws in the order of the text.
use Rattle.std.proofs.Common.{ℕ, suc, ◌+◌, ◌-◌, ◌<◌, ◌≤◌, Bool, true, false, not, ◌&&◌, ◌||◌, List, [], ◌∷◌, ◌++◌, Option, Some, None, arith}
use Rattle.std.specs.Prelude.{if◌then◌else◌, codes}
use Rattle.std.specs.List.{list_any}
use Rattle.std.specs.Str.{bytes_eq}
use Rattle.std.specs.Option.{option_map_or}
use Rattle.sexpr_text.specs.declared.forms.Span.{Span}
use Rattle.sexpr_text.specs.declared.faults.FaultKind.{FaultKind}
use Rattle.sexpr_text.specs.declared.faults.FaultKind.TheVariants.{BadForm, DoubleName, ReservedName, TypeLoop}
use Rattle.sexpr_text.specs.Forest.{Forest, nothing, word, group}
use Rattle.sexpr_text.specs.Formed.{IsRising}
use Rattle.sexpr_text.specs.Flaws.{Flaw, flaw_at, IsInOrder}
use Rattle.sexpr_text.specs.Parts.{is_name, is_one}
use Rattle.sexpr_text.proofs.FlawLaws.{in_order-from, in_order-up_to, in_order-append}
use Rattle.pddl_ast.specs.declared.typed_lists.Declares.{Declares}
use Rattle.pddl_ast.specs.declared.typed_lists.Declares.TheVariants.{Types, Objects, Variables, PredicateVariables}
use Rattle.pddl_ast.specs.Words.{is_dash, is_reserved}
use Rattle.pddl_ast.specs.Known.{Known}
use Rattle.pddl_ast.specs.TypedLists.{typed_list_flaws, typed_groups}
use Rattle.pddl_ast.specs.Formulas.{formula_flaws, formulas_flaws}
use Rattle.pddl_ast.proofs.TreeOrders.{formula-in_order}
use Rattle.pddl_ast.specs.Effects.{effects_flaws}
use Rattle.pddl_domain.specs.declared.sections.Section.{Section}
use Rattle.pddl_domain.specs.declared.sections.Section.TheVariants.{Requirements, Types as TypesSection, Constants, Predicates, Invariant, Action, Other}
use Rattle.pddl_domain.specs.declared.sections.Seen.{Seen}
use Rattle.pddl_domain.specs.declared.actions.Key.{Key}
use Rattle.pddl_domain.specs.declared.actions.Key.TheVariants.{Parameters, Precondition, Effect, Other as OtherKey}
use Rattle.pddl_ast.specs.Definitions.{no_define}
use Rattle.pddl_domain.specs.Sections.{definition, section_kind, seen_after, kind_flaws, sections_flaws, none_came, sections_of}
use Rattle.pddl_domain.specs.Types.{type_names, type_parents, is_looping, word_loop_flaws, loop_flaws_from}
use Rattle.pddl_domain.specs.Constants.{predicate_name_flaws, variables_flaws, predicate_flaws, with_first_word, predicates_flaws}
use Rattle.pddl_domain.specs.Invariant.{invariant_flaws}
use Rattle.pddl_domain.specs.Actions as act
use Rattle.pddl_domain.specs.Domains.{domain_passes, types_section, constants_section, predicates_section, invariant_section, types_in, known_of}
use Rattle.pddl_domain.proofs.PassLemmas.{IsOrdered, AreOrdered, ordered-append}
use Rattle.pddl_domain.proofs.Risen.{Risen, risen-section, risen-sections_of, risen-parts_of, ActionRisen, risen-action_in}

-- what is known of typed lists, formulas and effects
pub record Laws : Type 0 where
  pub lists : (declares : Declares) (types before : List (List ℕ)) (list : Forest) (lo hi : ℕ) → IsRising lo hi list → IsInOrder lo hi (typed_list_flaws declares types before list)
  pub formulas : (known : Known) (row : Forest) (scope : List (List ℕ)) (lo hi : ℕ) → IsRising lo hi row → IsInOrder lo hi (formulas_flaws known row scope)
  pub effects : (known : Known) (row : Forest) (scope : List (List ℕ)) (lo hi : ℕ) → IsRising lo hi row → IsInOrder lo hi (effects_flaws known row scope)

maybe : (b : Bool) (span : Span) (kind : FaultKind) (lo hi : ℕ) → lo ≤ span.start → span.start < hi → IsInOrder lo hi (if b then flaw_at span kind ∷ [] else [])
maybe true span kind lo hi h g = (h, omega arith)
maybe false span kind lo hi h g = omega arith

definition-ordered : (o : Option (List ℕ × Forest)) → IsOrdered (option_map_or (λ (d : List ℕ × Forest). []) o (no_define ∷ []))
definition-ordered None = record { lo = 0; hi = 1; order = (omega arith, omega arith) }
definition-ordered (Some d) = record { lo = 0; hi = 0; order = omega arith }

kind-ordered : (seen : Seen) (span : Span) (w : List ℕ) (rest : Forest) (kind : Section) (lo hi : ℕ) → lo ≤ span.start → span.start < hi
    → IsInOrder lo hi (kind_flaws seen span w rest kind)
kind-ordered seen span w rest Requirements lo hi h g = omega arith
kind-ordered seen span w rest TypesSection lo hi h g = maybe (seen.types || false) span BadForm lo hi h g
kind-ordered seen span w rest Constants lo hi h g = maybe (seen.constants || false) span BadForm lo hi h g
kind-ordered seen span w rest Predicates lo hi h g = maybe (seen.predicates || false) span BadForm lo hi h g
kind-ordered seen span w rest Invariant lo hi h g = maybe (seen.invariant || not (is_one rest)) span BadForm lo hi h g
kind-ordered seen span w rest Action lo hi h g = omega arith
kind-ordered seen span w rest Other lo hi h g = (h, omega arith)

sections-ordered : (forms : Forest) (seen : Seen) (lo hi : ℕ) → IsRising lo hi forms → IsInOrder lo hi (sections_flaws seen forms)
sections-ordered nothing seen lo hi h = h
sections-ordered (word span text rest) seen lo hi h =
    let ends : span.start < span.end = h.1 in
    (h.0, in_order-from (suc span.start) span.end hi (sections_flaws seen rest) (omega arith) (sections-ordered rest seen span.end hi h.4))
sections-ordered (group span nothing rest) seen lo hi h =
    let ends : span.start + 2 ≤ span.end = h.1 in
    (h.0, in_order-from (suc span.start) span.end hi (sections_flaws seen rest) (omega arith) (sections-ordered rest seen span.end hi h.3))
sections-ordered (group span (group s p r) rest) seen lo hi h =
    let ends : span.start + 2 ≤ span.end = h.1 in
    (h.0, in_order-from (suc span.start) span.end hi (sections_flaws seen rest) (omega arith) (sections-ordered rest seen span.end hi h.3))
sections-ordered (group span (word s w r) rest) seen lo hi h =
    let ends : span.start + 2 ≤ span.end = h.1 in
    in_order-append lo span.end hi (kind_flaws seen span w r (section_kind w)) (sections_flaws (seen_after seen (section_kind w)) rest)
    (kind-ordered seen span w r (section_kind w) lo span.end h.0 (omega arith)) (sections-ordered rest (seen_after seen (section_kind w)) span.end hi h.3)

loops-ordered : (forms : Forest) (names : List (List ℕ)) (parents : List ℕ) (after_dash : Bool) (lo hi : ℕ) → IsRising lo hi forms → IsInOrder lo hi (loop_flaws_from names parents after_dash forms)
loops-ordered nothing names parents after_dash lo hi h = h
loops-ordered (group span p rest) names parents after_dash lo hi h =
    let ends : span.start + 2 ≤ span.end = h.1 in
    let begins : lo ≤ span.start = h.0 in
    in_order-from lo span.end hi (loop_flaws_from names parents false rest) (omega arith) (loops-ordered rest names parents false span.end hi h.3)
loops-ordered (word span w rest) names parents after_dash lo hi h =
    let ends : span.start < span.end = h.1 in
    in_order-append lo span.end hi (word_loop_flaws names parents after_dash span w) (loop_flaws_from names parents (not after_dash && is_dash w) rest)
    (maybe (not after_dash && not (is_dash w) && is_looping names parents w) span TypeLoop lo span.end h.0 ends)
    (loops-ordered rest names parents (not after_dash && is_dash w) span.end hi h.4)

two : (b c : Bool) (span : Span) (k j : FaultKind) (lo hi : ℕ) → lo ≤ span.start → span.start < hi
    → IsInOrder lo hi (if b then flaw_at span k ∷ [] else if c then flaw_at span j ∷ [] else [])
two true c span k j lo hi h g = (h, omega arith)
two false c span k j lo hi h g = maybe c span j lo hi h g

either : (b : Bool) (fs gs : List Flaw) (lo hi : ℕ) → IsInOrder lo hi fs → IsInOrder lo hi gs → IsInOrder lo hi (if b then fs else gs)
either true fs gs lo hi h g = h
either false fs gs lo hi h g = g

predicate-ordered : Laws → (types before : List (List ℕ)) (span : Span) (parts : Forest) (lo : ℕ) → lo ≤ span.start → span.start + 2 ≤ span.end
    → IsRising (span.start + 1) (span.end - 1) parts → IsInOrder lo span.end (predicate_flaws types before span parts)
predicate-ordered laws types before span nothing lo h g r = (h, omega arith)
predicate-ordered laws types before span (group s p rest) lo h g r = (h, omega arith)
predicate-ordered laws types before span (word s name variables) lo h g r =
    let begins : span.start + 1 ≤ s.start = r.0 in
    let ends : s.start < s.end = r.1 in
    let inner : IsInOrder s.end (span.end - 1) (variables_flaws types variables) = laws.lists PredicateVariables types [] variables s.end (span.end - 1) r.4 in
    either (is_name name) (predicate_name_flaws before s name ++ variables_flaws types variables) (flaw_at span BadForm ∷ []) lo span.end
    (in_order-append lo s.end span.end (predicate_name_flaws before s name) (variables_flaws types variables)
    (two (list_any (bytes_eq name) before) (is_reserved name) s DoubleName ReservedName lo s.end (omega arith) ends)
    (in_order-up_to s.end (span.end - 1) span.end (variables_flaws types variables) (omega arith) inner))
    (h, omega arith)

predicates-ordered : Laws → (forms : Forest) (types before : List (List ℕ)) (lo hi : ℕ) → IsRising lo hi forms → IsInOrder lo hi (predicates_flaws types before forms)
predicates-ordered laws nothing types before lo hi h = h
predicates-ordered laws (word span w rest) types before lo hi h =
    let ends : span.start < span.end = h.1 in
    (h.0, in_order-from (suc span.start) span.end hi (predicates_flaws types before rest) (omega arith) (predicates-ordered laws rest types before span.end hi h.4))
predicates-ordered laws (group span parts rest) types before lo hi h =
    in_order-append lo span.end hi (predicate_flaws types before span parts) (predicates_flaws types (with_first_word before parts) rest)
    (predicate-ordered laws types before span parts lo h.0 h.1 h.2)
    (predicates-ordered laws rest types (with_first_word before parts) span.end hi h.3)

invariant-ordered : (known : Known) (row : Forest) → Risen row → IsOrdered (invariant_flaws known row)
invariant-ordered known nothing h = record { lo = 0; hi = 0; order = omega arith }
invariant-ordered known (word span w rest) h = record { lo = span.start; hi = suc span.start; order = (omega arith, omega arith) }
invariant-ordered known (group span parts rest) h = record { lo = span.start; hi = span.end; order = formula-in_order known parts span [] h.rising.1 h.rising.2 }

key-ordered : (parts : act.Parts) (span : Span) (w : List ℕ) (key : Key) (lo hi : ℕ) → lo ≤ span.start → span.start < hi → IsInOrder lo hi (act.key_flaws parts span w key)
key-ordered parts span w Parameters lo hi h g = maybe (act.is_given parts Parameters) span BadForm lo hi h g
key-ordered parts span w Precondition lo hi h g = maybe (act.is_given parts Precondition) span BadForm lo hi h g
key-ordered parts span w Effect lo hi h g = maybe (act.is_given parts Effect) span BadForm lo hi h g
key-ordered parts span w OtherKey lo hi h g = (h, omega arith)

last-ordered : (span : Span) (w : List ℕ) (key : Key) (lo hi : ℕ) → lo ≤ span.start → span.start < hi → IsInOrder lo hi (act.last_key_flaws span w key)
last-ordered span w Parameters lo hi h g = (h, omega arith)
last-ordered span w Precondition lo hi h g = (h, omega arith)
last-ordered span w Effect lo hi h g = (h, omega arith)
last-ordered span w OtherKey lo hi h g = (h, omega arith)

keys-ordered : (row : Forest) (parts : act.Parts) (lo hi : ℕ) → IsRising lo hi row → IsInOrder lo hi (act.keys_flaws parts row)
keys-ordered nothing parts lo hi h = h
keys-ordered (group span p rest) parts lo hi h =
    let ends : span.start + 2 ≤ span.end = h.1 in
    (h.0, in_order-from (suc span.start) span.end hi (act.keys_flaws parts rest) (omega arith) (keys-ordered rest parts span.end hi h.3))
keys-ordered (word span w nothing) parts lo hi h =
    let ends : span.start < span.end = h.1 in
    let last : span.end ≤ hi = h.4 in
    last-ordered span w (act.key_of w) lo hi h.0 (omega arith)
keys-ordered (word span w (word s t rest)) parts lo hi h =
    let ends : span.start < span.end = h.1 in
    let next : span.end ≤ s.start = h.4.0 in
    let done : s.start < s.end = h.4.1 in
    in_order-append lo span.end hi (act.key_flaws parts span w (act.key_of w)) (act.keys_flaws (act.with_part parts (act.key_of w) (word s t nothing)) rest)
    (key-ordered parts span w (act.key_of w) lo span.end h.0 ends)
    (in_order-from span.end s.end hi (act.keys_flaws (act.with_part parts (act.key_of w) (word s t nothing)) rest) (omega arith)
    (keys-ordered rest (act.with_part parts (act.key_of w) (word s t nothing)) s.end hi h.4.4))
keys-ordered (word span w (group s p rest)) parts lo hi h =
    let ends : span.start < span.end = h.1 in
    let next : span.end ≤ s.start = h.4.0 in
    let done : s.start + 2 ≤ s.end = h.4.1 in
    in_order-append lo span.end hi (act.key_flaws parts span w (act.key_of w)) (act.keys_flaws (act.with_part parts (act.key_of w) (group s p nothing)) rest)
    (key-ordered parts span w (act.key_of w) lo span.end h.0 ends)
    (in_order-from span.end s.end hi (act.keys_flaws (act.with_part parts (act.key_of w) (group s p nothing)) rest) (omega arith)
    (keys-ordered rest (act.with_part parts (act.key_of w) (group s p nothing)) s.end hi h.4.3))

shape-ordered : (before : List (List ℕ)) (span : Span) (action : Forest) → Risen action → IsOrdered (act.shape_flaws before span action)
shape-ordered before span nothing h = record { lo = span.start; hi = suc span.start; order = (omega arith, omega arith) }
shape-ordered before span (group s p rest) h =
    let ends : s.start + 2 ≤ s.end = h.rising.1 in
    record {
      lo = h.lo;
      hi = h.hi;
      order = (h.rising.0, in_order-from (suc s.start) s.end h.hi (act.keys_flaws act.no_parts rest) (omega arith) (keys-ordered rest act.no_parts s.end h.hi h.rising.3));
    }
shape-ordered before span (word s w rest) h = record {
  lo = h.lo;
  hi = h.hi;
  order = in_order-append h.lo s.end h.hi (act.action_name_flaws before s w) (act.keys_flaws act.no_parts rest)
      (two (not (is_name w)) (list_any (bytes_eq w) before) s BadForm DoubleName h.lo s.end h.rising.0 h.rising.1)
      (keys-ordered rest act.no_parts s.end h.hi h.rising.4);
}

parameters-ordered : Laws → (known : Known) (form : Forest) → Risen form → IsOrdered (act.parameters_flaws known form)
parameters-ordered laws known nothing h = record { lo = 0; hi = 0; order = omega arith }
parameters-ordered laws known (word span w rest) h = record { lo = span.start; hi = suc span.start; order = (omega arith, omega arith) }
parameters-ordered laws known (group span list rest) h =
    record { lo = span.start + 1; hi = span.end - 1; order = laws.lists Variables known.types [] list (span.start + 1) (span.end - 1) h.rising.2 }

action-ordered : Laws → (known : Known) (before : List (List ℕ)) (span : Span) (action : Forest) → Risen action → AreOrdered (act.action_passes known before span action)
action-ordered laws known before span action h =
    let parts = risen-parts_of action h in
    let scope = act.parameter_scope (act.parts_of action).parameters in (
      shape-ordered before span action h,
      (
        parameters-ordered laws known (act.parts_of action).parameters parts.parameters,
        (
          record { lo = parts.precondition.lo; hi = parts.precondition.hi; order = laws.formulas known (act.parts_of action).precondition scope parts.precondition.lo parts.precondition.hi parts.precondition.rising },
          (
            record { lo = parts.effect.lo; hi = parts.effect.hi; order = laws.effects known (act.parts_of action).effect scope parts.effect.lo parts.effect.hi parts.effect.rising },
            tt,
          ),
        ),
      ),
    )

section-ordered : Laws → (known : Known) (before : List (List ℕ)) (span : Span) (o : Option Forest) → ActionRisen o → AreOrdered (act.section_passes known before span o)
section-ordered laws known before span None h = tt
section-ordered laws known before span (Some action) h = action-ordered laws known before span action h

actions-ordered : Laws → (forms : Forest) (known : Known) (before : List (List ℕ)) (lo hi : ℕ) → IsRising lo hi forms → AreOrdered (act.actions_passes known before forms)
actions-ordered laws nothing known before lo hi h = tt
actions-ordered laws (word span w rest) known before lo hi h = actions-ordered laws rest known before span.end hi h.4
actions-ordered laws (group span parts rest) known before lo hi h =
    ordered-append (act.section_passes known before span (act.action_in parts)) (act.actions_passes known (act.names_after before (act.action_in parts)) rest)
    (section-ordered laws known before span (act.action_in parts) (risen-action_in parts (record { lo = span.start + 1; hi = span.end - 1; rising = h.2 })))
    (actions-ordered laws rest known (act.names_after before (act.action_in parts)) span.end hi h.3)

-- all passes
pub domain-ordered : Laws → (forms : Forest) → Risen forms → AreOrdered (domain_passes forms)
domain-ordered laws forms h =
    let sections = sections_of forms in
    let s = risen-sections_of forms h in
    let t = risen-section (codes ":types") sections s in
    let c = risen-section (codes ":constants") sections s in
    let p = risen-section (codes ":predicates") sections s in
    let i = risen-section (codes ":invariant") sections s in (
      definition-ordered (definition forms),
      (
        record { lo = s.lo; hi = s.hi; order = sections-ordered sections none_came s.lo s.hi s.rising },
        (
          record { lo = t.lo; hi = t.hi; order = laws.lists Types [] [] (types_section sections) t.lo t.hi t.rising },
          (
            record {
              lo = t.lo;
              hi = t.hi;
              order = loops-ordered (types_section sections) (type_names (typed_groups (types_section sections))) (type_parents (typed_groups (types_section sections))) false t.lo t.hi t.rising;
            },
            (
              record { lo = c.lo; hi = c.hi; order = laws.lists Objects (types_in sections) [] (constants_section sections) c.lo c.hi c.rising },
              (
                record { lo = p.lo; hi = p.hi; order = predicates-ordered laws (predicates_section sections) (types_in sections) [] p.lo p.hi p.rising },
                (invariant-ordered (known_of sections) (invariant_section sections) i, actions-ordered laws sections (known_of sections) [] s.lo s.hi s.rising),
              ),
            ),
          ),
        ),
      ),
    )
