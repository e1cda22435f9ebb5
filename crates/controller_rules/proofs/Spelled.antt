-- The text of a controller spells its plan.
use Rattle.std.proofs.Common.{◌<◌, ◌≤◌, ◌^◌, ◌++◌, ℕ, suc, List, [], ◌∷◌, None, length, get_or, codes, refl, sym, subst, arith, lit<}
use Rattle.std.specs.Prelude.{decimal}
use Rattle.std.specs.List.{All}
use Rattle.sexpr_text.specs.Rows as row
use Rattle.sexpr_text.specs.Rows.{Row}
use Rattle.task_core.specs.declared.classes.Class.{Class}
use Rattle.task_core.specs.Names.{IsWord, Name, name_bytes, name_of}
use Rattle.task_core.specs.Tasks.{action_count, action_names, fluent_count, fluent_names}
use Rattle.task_core.specs.declared.tasks.Task.{Task}
use Rattle.plan_document.specs.Faithful.{IsOneNext, IsToldInFull, IsToldRule}
use Rattle.std.proofs.lemmas.List.{get_or_default, length-map}
use Rattle.plan_rules.specs.Plans.{most_contexts, IsAutomatonOf, IsRuleOf, IsContextRuleOf, IsNextOf, IsPlainPlanOf, IsPlanOf}
use Rattle.plan_rules.specs.Readings.{AreSpellable, SpellsPlain}
use Rattle.plan_rules.specs.Rules.{ContextRule, PlainPlan, PlanNext, PlanRule, always, automaton, by_cases, plain_of, table}
use Rattle.plan_rules.specs.declared.rules.Plan.{Plan}
use Rattle.plan_rules.specs.Texts.{atom_text, class_word, context_rule_text, cube_text, in_parentheses, name_at, next_text, rule_text}
use Rattle.plan_rules.proofs.Decimals.{decimal-word}
use Rattle.plan_rules.proofs.Pieces.{Reads, reads_group, reads_none, reads_space, reads_then, reads_word, spelled_whole}
use Rattle.plan_rules.proofs.Printed.{class_is_word, cube_row, fixed, groups, reads_atom, reads_cube, reads_rule, reads_word_then, rule_row, table_shape}
use Rattle.plan_rules.proofs.PrintedContexts.{context_rule_row, next_row, automaton_shape, rule_shape, context-word}
use Rattle.plan_rules.proofs.Spelled.{kind_row, from-row}
use Rattle.controller_rules.specs.Texts.{controller_text, noted_text}
use Rattle.controller_rules.proofs.Comments.{reads_noted}

-- a plan's list, in pieces of at most so many parentheses
reads_list : (d : ℕ) (kind w z : List ℕ) (lines : Row) → IsWord kind → IsWord w → Reads z (suc d) lines
    → Reads (in_parentheses (codes "plan" ++ (32 ∷ (kind ++ (32 ∷ (w ++ (10 ∷ z)))))) ++ 10 ∷ []) (suc (suc d)) (row.group (row.word (codes "plan") (row.word kind (row.word w lines))) row.nil)
reads_list d kind w z lines kind_is w_is reads =
    let e = suc d in
    let after : Reads (w ++ (10 ∷ z)) e (row.word w lines) =
    reads_then w (10 ∷ z) e (row.word w row.nil) lines (λ _ _. refl) (reads_word w e w_is) (reads_space 10 z e lines refl reads) in
    let after_kind : Reads (kind ++ (32 ∷ (w ++ (10 ∷ z)))) e (row.word kind (row.word w lines)) =
    reads_word_then kind (w ++ (10 ∷ z)) e (row.word w lines) kind_is after in
    let inner = codes "plan" ++ (32 ∷ (kind ++ (32 ∷ (w ++ (10 ∷ z))))) in
    let whole = row.word (codes "plan") (row.word kind (row.word w lines)) in
    let inside : Reads inner e whole = reads_word_then (codes "plan") (kind ++ (32 ∷ (w ++ (10 ∷ z)))) e (row.word kind (row.word w lines)) (fixed 112 (codes "lan") refl) after_kind in
    reads_then (in_parentheses inner) (10 ∷ []) (suc e) (row.group whole row.nil) row.nil (λ _ _. refl)
    (reads_group inner e whole inside) (reads_space 10 [] (suc e) row.nil refl (reads_none (suc e)))

reads_next : (fluents : List Name) (contexts d : ℕ) (next : PlanNext) → contexts ≤ most_contexts → IsOneNext next → IsNextOf (length fluents) contexts next → Reads (next_text fluents next) d (next_row fluents next)
reads_next fluents contexts d (always n) small one is = reads_word (decimal n) d (context-word contexts n small is)
reads_next fluents contexts d (by_cases cases) small never is = absurd never

reads_context_rule : (fluents actions : List Name) (contexts d : ℕ) (rule : ContextRule) → contexts ≤ most_contexts → AreSpellable fluents actions → IsContextRuleOf (length fluents) (length actions) contexts rule → IsToldRule rule
    → Reads (context_rule_text fluents actions rule) (suc (suc (suc (suc d)))) (row.group (context_rule_row fluents actions rule) row.nil)
reads_context_rule fluents actions contexts d rule small names is told =
    let e = suc (suc (suc d)) in
    let n = decimal rule.context in
    let x = cube_text fluents rule.cube in
    let y = atom_text (name_at actions rule.action) in
    let z = next_text fluents rule.next in
    let next = next_row fluents rule.next in
    let act = row.group (row.words (name_at actions rule.action)) next in
    let cube = row.group (cube_row fluents rule.cube) act in
    let whole_row = context_rule_row fluents actions rule in
    let after_cube : Reads (y ++ (32 ∷ z)) e act =
    reads_then y (32 ∷ z) e (row.group (row.words (name_at actions rule.action)) row.nil) next (λ _ _. refl)
    (reads_atom (name_at actions rule.action) (suc (suc d)) (names.actions_are.each rule.action [] is.action))
    (reads_space 32 z e next refl (reads_next fluents contexts e rule.next small told.next is.next)) in
    let after_number : Reads (x ++ (32 ∷ (y ++ (32 ∷ z)))) e cube =
    reads_then x (32 ∷ (y ++ (32 ∷ z))) e (row.group (cube_row fluents rule.cube) row.nil) act (λ _ _. refl)
    (reads_cube fluents d rule.cube names.fluents_are.each is.cube)
    (reads_space 32 (y ++ (32 ∷ z)) e act refl after_cube) in
    let after_rule : Reads (n ++ (32 ∷ (x ++ (32 ∷ (y ++ (32 ∷ z)))))) e (row.word n cube) =
    reads_word_then n (x ++ (32 ∷ (y ++ (32 ∷ z)))) e cube (context-word contexts rule.context small is.context) after_number in
    let inner = codes "rule" ++ (32 ∷ (n ++ (32 ∷ (x ++ (32 ∷ (y ++ (32 ∷ z))))))) in
    let inside : Reads inner e whole_row =
    reads_word_then (codes "rule") (n ++ (32 ∷ (x ++ (32 ∷ (y ++ (32 ∷ z)))))) e (row.word n cube) (fixed 114 (codes "ule") refl) after_rule in
    let whole : Reads (in_parentheses inner ++ 10 ∷ []) (suc e) (row.group whole_row row.nil) =
    reads_then (in_parentheses inner) (10 ∷ []) (suc e) (row.group whole_row row.nil) row.nil (λ _ _. refl)
    (reads_group inner e whole_row inside) (reads_space 10 [] (suc e) row.nil refl (reads_none (suc e))) in
    subst (λ t. Reads t (suc e) (row.group whole_row row.nil)) (sym (rule_shape n x y z))
    (reads_space 32 (32 ∷ (in_parentheses inner ++ 10 ∷ [])) (suc e) (row.group whole_row row.nil) refl
    (reads_space 32 (in_parentheses inner ++ 10 ∷ []) (suc e) (row.group whole_row row.nil) refl whole))

-- the whole text of each kind
reads_table : (fluents actions : List Name) (class : Class) (rules : List PlanRule) (steps : List ℕ) → AreSpellable fluents actions → All (IsRuleOf (length fluents) (length actions)) rules → All (λ n. n < 2 ^ 64) steps
    → Reads (controller_text fluents actions (table class rules) steps) 5 (row.group (row.word (codes "plan") (kind_row (table class rules) fluents actions)) row.nil)
reads_table fluents actions class rules steps names all small =
    let z = noted_text (rule_text fluents actions) None rules steps in
    let lines = groups (rule_row fluents actions) rules in
    subst (λ t. Reads t 5 (row.group (row.word (codes "plan") (row.word (codes "table") (row.word (class_word class) lines))) row.nil)) (sym (table_shape (class_word class) z))
    (reads_list 3 (codes "table") (class_word class) z lines (fixed 116 (codes "able") refl) (class_is_word class)
    (reads_noted (IsRuleOf (length fluents) (length actions)) (rule_text fluents actions) (rule_row fluents actions) 4 None rules steps
    (λ rule is. reads_rule fluents actions 0 rule names is) (λ _ _. refl) all small))

-- rules that are of a plan and told in full
record IsGoodRule (fluents actions contexts : ℕ) (rule : ContextRule) : Type 0 where
  of_plan : IsContextRuleOf fluents actions contexts rule
  told : IsToldRule rule

reads_automaton : (fluents actions : List Name) (contexts : ℕ) (rules : List ContextRule) (steps : List ℕ) → AreSpellable fluents actions → IsAutomatonOf (length fluents) (length actions) contexts rules → All IsToldRule rules
    → All (λ n. n < 2 ^ 64) steps
    → Reads (controller_text fluents actions (automaton contexts rules) steps) 5 (row.group (row.word (codes "plan") (kind_row (automaton contexts rules) fluents actions)) row.nil)
reads_automaton fluents actions contexts rules steps names is told small =
    let few : contexts ≤ most_contexts = is.number.last in
    let z = noted_text (context_rule_text fluents actions) None rules steps in
    let lines = groups (context_rule_row fluents actions) rules in
    subst (λ t. Reads t 5 (row.group (row.word (codes "plan") (row.word (codes "automaton") (row.word (decimal contexts) lines))) row.nil)) (sym (automaton_shape (decimal contexts) z))
    (reads_list 3 (codes "automaton") (decimal contexts) z lines (fixed 97 (codes "utomaton") refl) (decimal-word contexts few)
    (reads_noted (IsGoodRule (length fluents) (length actions) contexts) (context_rule_text fluents actions) (context_rule_row fluents actions) 4 None rules steps
    (λ rule good. reads_context_rule fluents actions contexts 0 rule few names good.of_plan good.told) (λ _ _. refl)
    (λ k d inside. record { of_plan = is.each k d inside; told = told k d inside }) small))

pub controller_spells : (fluents actions : List Name) (p : PlainPlan) (steps : List ℕ) → AreSpellable fluents actions → IsPlainPlanOf (length fluents) (length actions) p → IsToldInFull p → All (λ n. n < 2 ^ 64) steps
    → SpellsPlain fluents actions (controller_text fluents actions p steps) p
controller_spells fluents actions (table class rules) steps names all told small =
    let text = controller_text fluents actions (table class rules) steps in
    let whole = spelled_whole text 5 (row.group (row.word (codes "plan") (kind_row (table class rules) fluents actions)) row.nil) (omega arith) (reads_table fluents actions class rules steps names all small) in
    from-row fluents actions (table class rules) text whole.0 names all whole.1 whole.2
controller_spells fluents actions (automaton contexts rules) steps names is told small =
    let text = controller_text fluents actions (automaton contexts rules) steps in
    let whole = spelled_whole text 5 (row.group (row.word (codes "plan") (kind_row (automaton contexts rules) fluents actions)) row.nil) (omega arith) (reads_automaton fluents actions contexts rules steps names is told small) in
    from-row fluents actions (automaton contexts rules) text whole.0 names is whole.1 whole.2

-- over the names of a task
pub task_spells : (task : Task) (plan : Plan) (steps : List ℕ) → IsPlanOf (fluent_count task) (action_count task) plan → IsToldInFull (plain_of plan) → ((i : ℕ) → get_or steps i 0 < 2 ^ 32)
    → SpellsPlain (fluent_names task) (action_names task) (controller_text (fluent_names task) (action_names task) (plain_of plan) steps) (plain_of plan)
task_spells task plan steps is told small =
    controller_spells (fluent_names task) (action_names task) (plain_of plan) steps
    (record { fluents_are = task.fluent_names; actions_are = task.action_names })
    (subst (λ n. IsPlainPlanOf n (length (action_names task)) (plain_of plan)) (sym (length-map task.fluents.items name_bytes))
    (subst (λ n. IsPlainPlanOf (length task.fluents.items) n (plain_of plan)) (sym (length-map task.actions.items name_of)) is))
    told
    (λ k d inside.
    let wide : 2 ^ 32 < 2 ^ 64 = lit< tt in
    let here : get_or steps k 0 < 2 ^ 32 = small k in
    subst (λ n. n < 2 ^ 64) (get_or_default steps k 0 d inside) (omega (arith, here, wide)))
