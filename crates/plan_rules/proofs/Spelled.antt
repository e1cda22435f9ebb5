-- What is printed of a plan spells it, and no text spells two plans.
use Rattle.std.proofs.Common.{◌≡◌, ℕ, ◌≤◌, ◌⊎◌, inl, inr, List, [], ◌∷◌, length, codes, refl, ap, sym, subst, ◌∙◌, arith}
use Rattle.std.specs.Prelude.{Option, Some, None, is_some, unwrap_or, if◌then◌else◌, decimal, Result, Ok, Err, IfOk, Vec}
use Rattle.std.specs.Option.{option_map, option_map_or}
use Rattle.std.specs.declared.alloc.Global.{Global}
use Rattle.std.specs.declared.alloc.AllocError.{AllocError}
use Rattle.std.proofs.lemmas.List.{length-map}
use Rattle.sexpr_text.specs.declared.faults.FaultKind.TheVariants.{BadForm, BadNumber}
use Rattle.sexpr_text.specs.declared.faults.InputFault.{InputFault}
use Rattle.sexpr_text.specs.declared.forms.Place.{Place}
use Rattle.sexpr_text.specs.declared.forms.Span.{Span}
use Rattle.sexpr_text.specs.Flaws.{flaw_at, first_of, fault_of_passes}
use Rattle.sexpr_text.specs.Forest.{Forest, word, group}
use Rattle.sexpr_text.specs.Parts.{after_first, flaws_of_groups, each_group}
use Rattle.sexpr_text.specs.Rows as row
use Rattle.sexpr_text.specs.Rows.{Row, row_of}
use Rattle.sexpr_text.specs.Spelling.{SpellsTrees}
use Rattle.sexpr_text.proofs.FlawLaws.{passes-none, passes-end}
use Rattle.sexpr_text.proofs.OneAnswer.{spells_trees-unique}
use Rattle.sexpr_text.proofs.PassLaws.{answered, not_both}
use Rattle.task_core.specs.declared.classes.Class.{Class}
use Rattle.task_core.specs.declared.classes.Class.TheVariants.{Weak, Strong, Cyclic}
use Rattle.task_core.specs.declared.tasks.Task.{Task}
use Rattle.task_core.specs.Names.{Name, name_bytes, name_of}
use Rattle.task_core.specs.Tasks.{fluent_names, action_names, fluent_count, action_count}
use Rattle.plan_rules.specs.Items.{of_word}
use Rattle.plan_rules.specs.Plans.{most_contexts, IsRuleOf, IsContextRuleOf, IsPlainPlanOf, IsPlanOf}
use Rattle.plan_rules.specs.Readings as read
use Rattle.plan_rules.specs.Readings.{AreSpellable, SpellsPlanAt, SpellsPlain, HasPlanFault}
use Rattle.plan_rules.specs.Rules.{PlainPlan, table, automaton, plain_of}
use Rattle.plan_rules.specs.Texts.{class_word, text_of}
use Rattle.plan_rules.specs.declared.rules.Plan.{Plan}
use Rattle.plan_rules.proofs.Decimals.{number-decimal}
use Rattle.plan_rules.proofs.Pieces.{spelled_whole}
use Rattle.plan_rules.proofs.Printed.{groups, rule_row, table_row, reads_table}
use Rattle.plan_rules.proofs.PrintedContexts.{context_rule_row, automaton_row, reads_automaton}
use Rattle.plan_rules.proofs.RowRead.{IsRead, first-word, first-group, groups-read, rule-read, context_rule-read}

class-named : (span : Span) (class : Class) → read.class_named (of_word span (class_word class)) ≡ Some class
class-named span Weak = refl
class-named span Strong = refl
class-named span Cyclic = refl

-- the row of a plan's list after the word `plan`
abbrev pub kind_row : PlainPlan → List Name → List Name → Row
kind_row (table class rules) fluents actions = row.word (codes "table") (row.word (class_word class) (groups (rule_row fluents actions) rules))
kind_row (automaton contexts rules) fluents actions = row.word (codes "automaton") (row.word (decimal contexts) (groups (context_rule_row fluents actions) rules))

plan-read : (fluents actions : List Name) (p : PlainPlan) → AreSpellable fluents actions → IsPlainPlanOf (length fluents) (length actions) p → (span : Span) (f : Forest) → row_of f ≡ kind_row p fluents actions
    → IsRead (read.plan_flaws fluents actions span f) (read.plan_tree fluents actions f) p
plan-read fluents actions (table class rules) names all span f e =
    let a = first-word f (codes "table") (row.word (class_word class) (groups (rule_row fluents actions) rules)) e in
    let b = first-word a.rest (class_word class) (groups (rule_row fluents actions) rules) a.row in
    let lines = groups-read (IsRuleOf (length fluents) (length actions)) (rule_row fluents actions) (read.table_rule_flaws fluents actions) (read.table_rule_tree fluents actions)
    (rule-read fluents actions names.fluents_are names.actions_are) rules all b.rest b.row in
    let shape : f ≡ word a.span (codes "table") (word b.span (class_word class) b.rest) = a.is ∙ ap (word a.span (codes "table")) b.is in
    subst (λ (t : Forest). IsRead (read.plan_flaws fluents actions span t) (read.plan_tree fluents actions t) (table class rules)) (sym shape)
    (subst (λ (o : Option Class). IsRead (if is_some o then flaws_of_groups (read.table_rule_flaws fluents actions) b.rest else flaw_at b.span BadForm ∷ [])
    (table (unwrap_or o Weak) (each_group (read.table_rule_tree fluents actions) b.rest)) (table class rules)) (sym (class-named b.span class))
    (record { none = lines.none; same = ap (table class) lines.same }))
plan-read fluents actions (automaton contexts rules) names is span f e =
    let a = first-word f (codes "automaton") (row.word (decimal contexts) (groups (context_rule_row fluents actions) rules)) e in
    let b = first-word a.rest (decimal contexts) (groups (context_rule_row fluents actions) rules) a.row in
    let small : contexts ≤ most_contexts = is.number.last in
    let lines = groups-read (IsContextRuleOf (length fluents) (length actions) contexts) (context_rule_row fluents actions) (read.context_rule_flaws fluents actions contexts) (read.context_rule_tree fluents actions contexts)
    (context_rule-read fluents actions contexts names.fluents_are names.actions_are small) rules is.each b.rest b.row in
    let shape : f ≡ word a.span (codes "automaton") (word b.span (decimal contexts) b.rest) = a.is ∙ ap (word a.span (codes "automaton")) b.is in
    subst (λ (t : Forest). IsRead (read.plan_flaws fluents actions span t) (read.plan_tree fluents actions t) (automaton contexts rules)) (sym shape)
    (subst (λ (o : Option ℕ). IsRead (option_map_or (λ n. flaws_of_groups (read.context_rule_flaws fluents actions n) b.rest) o (flaw_at b.span BadNumber ∷ []))
    (read.contexts_tree fluents actions (unwrap_or o 0) b.rest) (automaton contexts rules)) (sym (number-decimal most_contexts contexts (omega arith) is.number))
    (record { none = lines.none; same = ap (automaton contexts) lines.same }))

-- a text whose forms are the list of a plan
pub from-row : (fluents actions : List Name) (p : PlainPlan) (b : List ℕ) (t : Forest) → AreSpellable fluents actions → IsPlainPlanOf (length fluents) (length actions) p
    → SpellsTrees b t → row_of t ≡ row.group (row.word (codes "plan") (kind_row p fluents actions)) row.nil → SpellsPlain fluents actions b p
from-row fluents actions p b t names is s e =
    let a = first-group t (row.word (codes "plan") (kind_row p fluents actions)) row.nil e in
    let w = first-word a.parts (codes "plan") (kind_row p fluents actions) a.inner in
    let reading = plan-read fluents actions p names is a.span w.rest w.row in
    let shape : t ≡ group a.span (word w.span (codes "plan") w.rest) a.rest = a.is ∙ ap (λ (q : Forest). group a.span q a.rest) w.is in
    let none : read.text_flaws fluents actions t ≡ [] = ap (read.text_flaws fluents actions) shape ∙ reading.none in
    let same : read.plan_read fluents actions t ≡ Some (p, a.span.place) =
    ap (read.plan_read fluents actions) shape ∙ ap (λ (q : PlainPlan). Some (q, a.span.place)) reading.same in
    (a.span.place, (t, s, ap (λ flaws. fault_of_passes (flaws ∷ [])) none ∙ (passes-none [] ∙ passes-end), same))

pub printed_spells : (fluents actions : List Name) (p : PlainPlan) → AreSpellable fluents actions → IsPlainPlanOf (length fluents) (length actions) p → SpellsPlain fluents actions (text_of fluents actions p) p
printed_spells fluents actions (table class rules) names all =
    let text = text_of fluents actions (table class rules) in
    let whole = spelled_whole text 5 (row.group (table_row fluents actions class rules) row.nil) (omega arith) (reads_table fluents actions class rules names all) in
    from-row fluents actions (table class rules) text whole.0 names all whole.1 whole.2
printed_spells fluents actions (automaton contexts rules) names is =
    let text = text_of fluents actions (automaton contexts rules) in
    let whole = spelled_whole text 7 (row.group (automaton_row fluents actions contexts rules) row.nil) (omega arith) (reads_automaton fluents actions contexts rules names is) in
    from-row fluents actions (automaton contexts rules) text whole.0 names is whole.1 whole.2

-- no text spells two plans
same_read : (p q : PlainPlan) (a b : Place) (o : Option (PlainPlan × Place)) → o ≡ Some (p, a) → o ≡ Some (q, b) → p ≡ q
same_read p q a b o e f = ap (λ (x : Option (PlainPlan × Place)). (unwrap_or x (p, a)).0) (sym e ∙ f)

pub one_plan : (fluents actions : List Name) (bytes : List ℕ) (p q : PlainPlan) → SpellsPlain fluents actions bytes p → SpellsPlain fluents actions bytes q → p ≡ q
one_plan fluents actions bytes p q (a, (s, spelled, none, same)) (b, (t, spelled2, none2, same2)) =
    let trees : s ≡ t = spells_trees-unique bytes s t spelled spelled2 in
    same_read p q a b (read.plan_read fluents actions s) same (ap (read.plan_read fluents actions) trees ∙ same2)

-- every text spells a plan or has a fault
by_list : (fluents actions : List Name) (o : Option (Span × Forest))
    → fault_of_passes (option_map_or (λ (found : Span × Forest). read.plan_flaws fluents actions found.0 (after_first found.1)) o (read.no_plan ∷ []) ∷ []) ≡ None
    → (p : PlainPlan) × (place : Place) × (option_map {U = PlainPlan × Place} (λ (found : Span × Forest). (read.plan_tree fluents actions (after_first found.1), found.0.place)) o ≡ Some (p, place))
unfolding fault_of_passes first_of
by_list fluents actions None e = absurd (let none : ⊥ = cc in none)
by_list fluents actions (Some found) e = (read.plan_tree fluents actions (after_first found.1), found.0.place, refl)

some_list : (fluents actions : List Name) (trees : Forest) → fault_of_passes (read.plan_passes fluents actions trees) ≡ None → (p : PlainPlan) × (place : Place) × (read.plan_read fluents actions trees ≡ Some (p, place))
some_list fluents actions trees h = by_list fluents actions (read.plan_list trees) h

pub plan_or_fault : (fluents actions : List Name) (bytes : List ℕ) → ((p : PlainPlan) × SpellsPlain fluents actions bytes p) ⊎ ((f : InputFault) × HasPlanFault fluents actions bytes f)
plan_or_fault fluents actions bytes = elim (answered (read.plan_passes fluents actions) bytes) [
  | inl g ↦ (let found = some_list fluents actions g.0 g.1.sound in inl (found.0, (found.1, (g.0, g.1.spelled, g.1.sound, found.2))))
  | inr f ↦ inr f
]

pub plan_no_fault : (fluents actions : List Name) (bytes : List ℕ) (p : PlainPlan) (f : InputFault) → SpellsPlain fluents actions bytes p → HasPlanFault fluents actions bytes f → ⊥
plan_no_fault fluents actions bytes p f (a, (t, spelled, none, same)) h =
    not_both (read.plan_passes fluents actions) bytes t f (record { spelled = spelled; sound = none }) h

-- of a task
pub task_spells : (task : Task) (plan : Plan) → IsPlanOf (fluent_count task) (action_count task) plan → SpellsPlain (fluent_names task) (action_names task) (text_of (fluent_names task) (action_names task) (plain_of plan)) (plain_of plan)
task_spells task plan is =
    printed_spells (fluent_names task) (action_names task) (plain_of plan)
    (record { fluents_are = task.fluent_names; actions_are = task.action_names })
    (subst (λ n. IsPlainPlanOf n (length (action_names task)) (plain_of plan)) (sym (length-map task.fluents.items name_bytes))
    (subst (λ n. IsPlainPlanOf (length task.fluents.items) n (plain_of plan)) (sym (length-map task.actions.items name_of)) is))

pub spelled_if : (fluents actions : List Name) (p q : PlainPlan) (r : Result (Vec ℕ Global) AllocError) → q ≡ p → SpellsPlain fluents actions (text_of fluents actions q) q
    → IfOk r (λ text. text.items ≡ text_of fluents actions p) → IfOk r (λ text. SpellsPlain fluents actions text.items q)
spelled_if fluents actions p q (Err e) same s h = tt
spelled_if fluents actions p q (Ok text) same s h =
    subst (λ (b : List ℕ). SpellsPlain fluents actions b q) (sym (h ∙ ap (text_of fluents actions) (sym same))) s
