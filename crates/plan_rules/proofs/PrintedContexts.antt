-- The pieces of an automaton's text, as they are read.
use Rattle.std.proofs.Common.{◌≡◌, ℕ, suc, ◌≤◌, List, [], ◌∷◌, ◌++◌, map, length, codes, refl, sym, subst, arith, append_assoc}
use Rattle.std.specs.Prelude.{decimal}
use Rattle.std.specs.List.{All, flat_map}
use Rattle.task_core.specs.Names.{Name, IsWord, IsName}
use Rattle.sexpr_text.specs.Rows.{Row, nil, word, group, words}
use Rattle.plan_rules.specs.Plans.{most_contexts, IsContextOf, IsCaseOf, IsNextOf, IsContextRuleOf, IsAutomatonOf}
use Rattle.plan_rules.specs.Readings.{AreSpellable}
use Rattle.plan_rules.specs.Rules.{PlanCase, PlanNext, always, by_cases, ContextRule}
use Rattle.plan_rules.specs.Texts.{name_at, spaced, line_feed, in_parentheses, atom_text, cube_text, case_text, next_text, context_rule_text, automaton_text}
use Rattle.plan_rules.proofs.Decimals.{decimal-word}
use Rattle.plan_rules.proofs.Pieces.{Reads, reads_none, reads_space, reads_word, reads_then, reads_group}
use Rattle.plan_rules.proofs.Printed.{groups, cube_row, fixed, reads_spaced, reads_each, reads_atom, reads_word_then, reads_cube}

abbrev pub case_row : List Name → PlanCase → Row
case_row fluents c = group (cube_row fluents c.cube) (word (decimal c.context) nil)

abbrev pub next_row : List Name → PlanNext → Row
next_row fluents (always context) = word (decimal context) nil
next_row fluents (by_cases cases) = group (groups (case_row fluents) cases) nil

abbrev pub context_rule_row : List Name → List Name → ContextRule → Row
context_rule_row fluents actions rule =
    word (codes "rule") (word (decimal rule.context) (group (cube_row fluents rule.cube) (group (words (name_at actions rule.action)) (next_row fluents rule.next))))

pub context-word : (contexts n : ℕ) → contexts ≤ most_contexts → IsContextOf contexts n → IsWord (decimal n)
context-word contexts n small is = let high : n ≤ contexts = is.last in decimal-word n (omega arith)

case_shape : (x n : List ℕ) → in_parentheses (x ++ codes " " ++ n) ≡ in_parentheses (x ++ (32 ∷ n))
case_shape x n = simp append_assoc

reads_case : (fluents : List Name) (contexts d : ℕ) (c : PlanCase) → contexts ≤ most_contexts → All IsName fluents → IsCaseOf (length fluents) contexts c → Reads (case_text fluents c) (suc (suc (suc (suc d)))) (group (case_row fluents c) nil)
reads_case fluents contexts d c small names is =
    let x = cube_text fluents c.cube in
    let n = decimal c.context in
    let inner : Reads (x ++ (32 ∷ n)) (suc (suc (suc d))) (case_row fluents c) =
    reads_then x (32 ∷ n) (suc (suc (suc d))) (group (cube_row fluents c.cube) nil) (word n nil) (λ _ _. refl)
    (reads_cube fluents d c.cube names is.cube)
    (reads_space 32 n (suc (suc (suc d))) (word n nil) refl (reads_word n (suc (suc (suc d))) (context-word contexts c.context small is.context))) in
    subst (λ t. Reads t (suc (suc (suc (suc d)))) (group (case_row fluents c) nil)) (sym (case_shape x n))
    (reads_group (x ++ (32 ∷ n)) (suc (suc (suc d))) (case_row fluents c) inner)

reads_next : (fluents : List Name) (contexts d : ℕ) (next : PlanNext) → contexts ≤ most_contexts → All IsName fluents → IsNextOf (length fluents) contexts next → Reads (next_text fluents next) (suc (suc (suc (suc (suc d))))) (next_row fluents next)
reads_next fluents contexts d (always n) small names is = reads_word (decimal n) (suc (suc (suc (suc (suc d))))) (context-word contexts n small is)
reads_next fluents contexts d (by_cases cases) small names all =
    reads_group (spaced (map (case_text fluents) cases)) (suc (suc (suc (suc d)))) (groups (case_row fluents) cases)
    (reads_spaced (IsCaseOf (length fluents) contexts) (case_text fluents) (case_row fluents) (suc (suc (suc (suc d)))) cases
    (λ c is. reads_case fluents contexts d c small names is) all)

pub rule_shape : (n x y z : List ℕ) → codes "  (rule " ++ n ++ codes " " ++ x ++ codes " " ++ y ++ codes " " ++ z ++ codes ")" ++ line_feed ≡ 32 ∷ 32 ∷ (in_parentheses (codes "rule" ++ (32 ∷ (n ++ (32 ∷ (x ++ (32 ∷ (y ++ (32 ∷ z)))))))) ++ 10 ∷ [])
rule_shape n x y z = simp append_assoc

reads_rule : (fluents actions : List Name) (contexts d : ℕ) (rule : ContextRule) → contexts ≤ most_contexts → AreSpellable fluents actions → IsContextRuleOf (length fluents) (length actions) contexts rule
    → Reads (context_rule_text fluents actions rule) (suc (suc (suc (suc (suc (suc d)))))) (group (context_rule_row fluents actions rule) nil)
reads_rule fluents actions contexts d rule small names is =
    let e = suc (suc (suc (suc (suc d)))) in
    let n = decimal rule.context in
    let x = cube_text fluents rule.cube in
    let y = atom_text (name_at actions rule.action) in
    let z = next_text fluents rule.next in
    let next = next_row fluents rule.next in
    let act = group (words (name_at actions rule.action)) next in
    let cube = group (cube_row fluents rule.cube) act in
    let row = context_rule_row fluents actions rule in
    let after_cube : Reads (y ++ (32 ∷ z)) e act =
    reads_then y (32 ∷ z) e (group (words (name_at actions rule.action)) nil) next (λ _ _. refl)
    (reads_atom (name_at actions rule.action) (suc (suc (suc (suc d)))) (names.actions_are.each rule.action [] is.action))
    (reads_space 32 z e next refl (reads_next fluents contexts d rule.next small names.fluents_are.each is.next)) in
    let after_number : Reads (x ++ (32 ∷ (y ++ (32 ∷ z)))) e cube =
    reads_then x (32 ∷ (y ++ (32 ∷ z))) e (group (cube_row fluents rule.cube) nil) act (λ _ _. refl)
    (reads_cube fluents (suc (suc d)) rule.cube names.fluents_are.each is.cube)
    (reads_space 32 (y ++ (32 ∷ z)) e act refl after_cube) in
    let after_rule : Reads (n ++ (32 ∷ (x ++ (32 ∷ (y ++ (32 ∷ z)))))) e (word n cube) =
    reads_word_then n (x ++ (32 ∷ (y ++ (32 ∷ z)))) e cube (context-word contexts rule.context small is.context) after_number in
    let inner = codes "rule" ++ (32 ∷ (n ++ (32 ∷ (x ++ (32 ∷ (y ++ (32 ∷ z))))))) in
    let inside : Reads inner e row =
    reads_word_then (codes "rule") (n ++ (32 ∷ (x ++ (32 ∷ (y ++ (32 ∷ z)))))) e (word n cube) (fixed 114 (codes "ule") refl) after_rule in
    let whole : Reads (in_parentheses inner ++ 10 ∷ []) (suc e) (group row nil) =
    reads_then (in_parentheses inner) (10 ∷ []) (suc e) (group row nil) nil (λ _ _. refl)
    (reads_group inner e row inside) (reads_space 10 [] (suc e) nil refl (reads_none (suc e))) in
    subst (λ t. Reads t (suc e) (group row nil)) (sym (rule_shape n x y z))
    (reads_space 32 (32 ∷ (in_parentheses inner ++ 10 ∷ [])) (suc e) (group row nil) refl
    (reads_space 32 (in_parentheses inner ++ 10 ∷ []) (suc e) (group row nil) refl whole))

pub automaton_shape : (w z : List ℕ) → codes "(plan automaton " ++ w ++ line_feed ++ z ++ codes ")" ++ line_feed ≡ in_parentheses (codes "plan" ++ (32 ∷ (codes "automaton" ++ (32 ∷ (w ++ (10 ∷ z)))))) ++ 10 ∷ []
automaton_shape w z = simp append_assoc

abbrev pub automaton_row : List Name → List Name → ℕ → List ContextRule → Row
automaton_row fluents actions contexts rules =
    word (codes "plan") (word (codes "automaton") (word (decimal contexts) (groups (context_rule_row fluents actions) rules)))

pub reads_automaton : (fluents actions : List Name) (contexts : ℕ) (rules : List ContextRule) → AreSpellable fluents actions → IsAutomatonOf (length fluents) (length actions) contexts rules
    → Reads (automaton_text fluents actions contexts rules) 7 (group (automaton_row fluents actions contexts rules) nil)
reads_automaton fluents actions contexts rules names is =
    let small : contexts ≤ most_contexts = is.number.last in
    let w = decimal contexts in
    let z = flat_map (context_rule_text fluents actions) rules in
    let lines = groups (context_rule_row fluents actions) rules in
    let row = automaton_row fluents actions contexts rules in
    let after_number : Reads (w ++ (10 ∷ z)) 6 (word w lines) =
    reads_then w (10 ∷ z) 6 (word w nil) lines (λ _ _. refl) (reads_word w 6 (decimal-word contexts small))
    (reads_space 10 z 6 lines refl
    (reads_each (IsContextRuleOf (length fluents) (length actions) contexts) (context_rule_text fluents actions) (context_rule_row fluents actions) 6 rules
    (λ rule of. reads_rule fluents actions contexts 0 rule small names of) (λ _ _. refl) is.each)) in
    let after_kind : Reads (codes "automaton" ++ (32 ∷ (w ++ (10 ∷ z)))) 6 (word (codes "automaton") (word w lines)) =
    reads_word_then (codes "automaton") (w ++ (10 ∷ z)) 6 (word w lines) (fixed 97 (codes "utomaton") refl) after_number in
    let inner = codes "plan" ++ (32 ∷ (codes "automaton" ++ (32 ∷ (w ++ (10 ∷ z))))) in
    let inside : Reads inner 6 row =
    reads_word_then (codes "plan") (codes "automaton" ++ (32 ∷ (w ++ (10 ∷ z)))) 6 (word (codes "automaton") (word w lines)) (fixed 112 (codes "lan") refl) after_kind in
    subst (λ t. Reads t 7 (group row nil)) (sym (automaton_shape w z))
    (reads_then (in_parentheses inner) (10 ∷ []) 7 (group row nil) nil (λ _ _. refl)
    (reads_group inner 6 row inside)
    (reads_space 10 [] 7 nil refl (reads_none 7)))
