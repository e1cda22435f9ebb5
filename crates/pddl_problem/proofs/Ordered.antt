-- The passes over a definition list their flaws in the order of the text.
use Rattle.std.proofs.Common.{◌≡◌, ℕ, ◌+◌, ◌-◌, ◌<◌, ◌≤◌, Bool, true, false, List, [], ◌∷◌, ap, sym, refl, subst, ◌∙◌, arith, codes, Some, None}
use Rattle.std.specs.Prelude.{Option, if◌then◌else◌}
use Rattle.std.specs.Option.{option_and_then, option_map, option_map_or, unwrap_or}
use Rattle.sexpr_text.specs.declared.forms.Span.{Span}
use Rattle.sexpr_text.specs.Flaws.{Flaw, IsInOrder, fault_of_passes}
use Rattle.sexpr_text.specs.Forest.{Forest, nothing, word, group}
use Rattle.sexpr_text.specs.Formed.{IsRising}
use Rattle.sexpr_text.specs.Parts.{first_group_with, is_definition, begins_with, after_first, after_word}
use Rattle.sexpr_text.proofs.FlawLaws.{passes-none, passes-end, passes-first}
use Rattle.pddl_ast.specs.declared.typed_lists.Declares.TheVariants.{Objects}
use Rattle.pddl_ast.specs.Fits.{known_in}
use Rattle.pddl_ast.specs.Known.{Known}
use Rattle.pddl_ast.specs.Trees.{DomainTree}
use Rattle.pddl_ast.proofs.Orders.{names-in_order}
use Rattle.pddl_problem.specs.Listed.{listed_fault}
use Rattle.pddl_ast.specs.Definitions.{title_of, no_define}
use Rattle.pddl_problem.specs.Problems.{Definition, definition_in, defined, object_list, with_objects, definition_passes, problem_passes}
use Rattle.pddl_problem.specs.Rising.{Rises}
use Rattle.pddl_problem.specs.Sections.{none_seen, section, items_of}
use Rattle.pddl_problem.proofs.Orders.{sections-in_order, domain-in_order, init-in_order, goal_formula-in_order, ctl-in_order, missing-in_order}

-- the parts of a list that stands among such forms, with its span
pub record Stands (span : Span) (parts : Forest) : Type 0 where
  pub room : span.start + 2 ≤ span.end
  pub rising : IsRising (span.start + 1) (span.end - 1) parts

-- passes that list their flaws in order
abbrev pub AreInOrder : List (List Flaw) → Type 0
AreInOrder [] = Unit {0}
AreInOrder (flaws ∷ passes) = ((lo : ℕ) × (hi : ℕ) × IsInOrder lo hi flaws) × AreInOrder passes

pub listed-all : (passes : List (List Flaw)) → AreInOrder passes → fault_of_passes passes ≡ listed_fault passes
listed-all [] h = passes-end
listed-all ([] ∷ passes) (h, k) = passes-none passes ∙ listed-all passes k
listed-all ((f ∷ fs) ∷ passes) (h, k) = passes-first h.0 h.1 (f ∷ fs) passes f.fault h.2 refl

-- the first group that passes a test stands among the forms
first_or-stands : (test : Forest → Bool) (s : Span) (ps rest : Forest) (span : Span) (parts : Forest) (t : Bool) → Stands s ps
    → (first_group_with test rest ≡ Some (span, parts) → Stands span parts)
    → (if t then Some (s, ps) else first_group_with test rest) ≡ Some (span, parts) → Stands span parts
first_or-stands test s ps rest span parts true here later e =
    let pair = ap (λ (o : Option (Span × Forest)). unwrap_or o (s, ps)) e in
    subst (λ (p : Span × Forest). Stands p.0 p.1) pair here
first_or-stands test s ps rest span parts false here later e = later e

first-stands : (test : Forest → Bool) (lo hi : ℕ) (row : Forest) (span : Span) (parts : Forest) → IsRising lo hi row
    → first_group_with test row ≡ Some (span, parts) → Stands span parts
first-stands test lo hi nothing span parts h e = cc
first-stands test lo hi (word s w rest) span parts (a, b, c, d, h) e = first-stands test s.end hi rest span parts h e
first-stands test lo hi (group s ps rest) span parts (a, b, c, d) e =
    first_or-stands test s ps rest span parts (test ps) (record { room = b; rising = c }) (first-stands test s.end hi rest span parts d) e

after_first-rises : (lo hi : ℕ) (row : Forest) → IsRising lo hi row → Rises (after_first row)
after_first-rises lo hi nothing h = record { low = lo; high = hi; rising = h }
after_first-rises lo hi (word s w rest) (a, b, c, d, e) = record { low = s.end; high = hi; rising = e }
after_first-rises lo hi (group s ps rest) (a, b, c, d) = record { low = s.end; high = hi; rising = d }

after_word-rises : (parts row : Forest) (t : Bool) → Rises (after_first parts) → (if t then Some (after_first parts) else None) ≡ Some row → Rises row
after_word-rises parts row true h e =
    let same : after_first parts ≡ row = cc in
    subst Rises same h
after_word-rises parts row false h e = cc

found-rises : (w : List ℕ) (items row : Forest) (lo hi : ℕ) → IsRising lo hi items → (g : Option (Span × Forest))
    → first_group_with (begins_with w) items ≡ g → option_and_then (λ s. after_word w s.1) g ≡ Some row → Rises row
found-rises w items row lo hi h None e f = cc
found-rises w items row lo hi h (Some (span, parts)) e f =
    let stands = first-stands (begins_with w) lo hi items span parts h e in
    after_word-rises parts row (begins_with w parts) (after_first-rises (span.start + 1) (span.end - 1) parts stands.rising) f

section-rises : (w : List ℕ) (items : Forest) (lo hi : ℕ) → IsRising lo hi items → (o : Option Forest) → section w items ≡ o → Rises (unwrap_or o nothing)
section-rises w items lo hi h None e = record { low = 0; high = 0; rising = omega arith }
section-rises w items lo hi h (Some row) e = found-rises w items row lo hi h (first_group_with (begins_with w) items) refl e

-- the items of a section of a definition
pub items-rise : (w : List ℕ) (items : Forest) → Rises items → Rises (items_of w items)
items-rise w items h = section-rises w items h.low h.high h.rising (section w items) refl

-- a definition stands among the forms of its text, and so do its sections
pub record IsPlaced (d : Definition) : Type 0 where
  pub room : d.span.start < d.span.end
  pub items : Rises d.items

named-placed : (span : Span) (rest : Forest) (d : Definition) (o : Option (List ℕ)) → span.start < span.end → Rises rest
    → option_map (λ name. record { span = span; name = name; items = rest }) o ≡ Some d → IsPlaced d
named-placed span rest d None h r e = cc
named-placed span rest d (Some name) h r e =
    let made : Definition = record { span = span; name = name; items = rest } in
    let same : made ≡ d = cc in
    subst IsPlaced same (record { room = h; items = r })

defined-placed : (span : Span) (parts : Forest) (d : Definition) → Stands span parts → defined span parts ≡ Some d → IsPlaced d
defined-placed span nothing d h e = cc
defined-placed span (group s ps rest) d h e = cc
defined-placed span (word s w nothing) d h e = cc
defined-placed span (word s w (word s' w' rest)) d h e = cc
defined-placed span (word s w (group s' ps rest)) d h e =
    let room : span.start + 2 ≤ span.end = h.room in
    named-placed span rest d (title_of ps) (omega arith) (record { low = s'.end; high = span.end - 1; rising = h.rising.4.3 }) e

found-placed : (lo hi : ℕ) (forest : Forest) (d : Definition) → IsRising lo hi forest → (g : Option (Span × Forest))
    → first_group_with (is_definition (codes "problem")) forest ≡ g → option_and_then (λ g. defined g.0 g.1) g ≡ Some d → IsPlaced d
found-placed lo hi forest d h None e f = cc
found-placed lo hi forest d h (Some (span, parts)) e f =
    defined-placed span parts d (first-stands (is_definition (codes "problem")) lo hi forest span parts h e) f

pub definition-placed : (lo hi : ℕ) (forest : Forest) (d : Definition) → IsRising lo hi forest → definition_in forest ≡ Some d → IsPlaced d
definition-placed lo hi forest d h e = found-placed lo hi forest d h (first_group_with (is_definition (codes "problem")) forest) refl e

-- the passes over a definition list their flaws in order
pub definition-in_order : (name : List ℕ) (before : Known) (d : Definition) → IsPlaced d → AreInOrder (definition_passes name before d)
definition-in_order name before d h =
    let known = with_objects before (object_list d) in
    let domain = items-rise (codes ":domain") d.items h.items in
    let objects = items-rise (codes ":objects") d.items h.items in
    let init = items-rise (codes ":init") d.items h.items in
    let goal = items-rise (codes ":goal") d.items h.items in
    let ctl = items-rise (codes ":ctl-goal") d.items h.items in (
      (h.items.low, h.items.high, sections-in_order none_seen h.items.low h.items.high d.items h.items.rising),
      (
        (domain.low, domain.high, domain-in_order name domain.low domain.high (items_of (codes ":domain") d.items) domain.rising),
        (
          (objects.low, objects.high, names-in_order Objects before.types (object_list d) before.objects false objects.low objects.high objects.rising),
          (
            (init.low, init.high, init-in_order known init.low init.high (items_of (codes ":init") d.items) init.rising),
            (
              (goal.low, goal.high, goal_formula-in_order known goal.low goal.high (items_of (codes ":goal") d.items) goal.rising),
              (
                (ctl.low, ctl.high, ctl-in_order known ctl.low ctl.high (items_of (codes ":ctl-goal") d.items) ctl.rising),
                (
                  (d.span.start, d.span.end, missing-in_order d.span (section (codes ":goal") d.items) (section (codes ":ctl-goal") d.items) h.room),
                  tt,
                ),
              ),
            ),
          ),
        ),
      ),
    )

-- the fault of the forms that have this definition
pub problem-fault : (domain : DomainTree) (forest : Forest) (d : Definition) → Rises forest → Some d ≡ definition_in forest
    → fault_of_passes (problem_passes domain forest) ≡ listed_fault (definition_passes domain.name (known_in domain) d)
problem-fault domain forest d h e =
    let passes = definition_passes domain.name (known_in domain) d in
    let placed = definition-placed h.low h.high forest d h.rising (sym e) in
    ap (λ o. fault_of_passes (option_map_or (λ d. [] ∷ definition_passes domain.name (known_in domain) d) o ((no_define ∷ []) ∷ []))) (sym e)
    ∙ (passes-none passes ∙ listed-all passes (definition-in_order domain.name (known_in domain) d placed))

-- the fault of forms without a definition
pub no_definition-fault : (domain : DomainTree) (forest : Forest) → None ≡ definition_in forest
    → fault_of_passes (problem_passes domain forest) ≡ Some no_define.fault
no_definition-fault domain forest e =
    let here : IsInOrder 0 1 (no_define ∷ []) = (omega arith, omega arith) in
    ap (λ o. fault_of_passes (option_map_or (λ d. [] ∷ definition_passes domain.name (known_in domain) d) o ((no_define ∷ []) ∷ []))) (sym e)
    ∙ passes-first 0 1 (no_define ∷ []) [] no_define.fault here refl
