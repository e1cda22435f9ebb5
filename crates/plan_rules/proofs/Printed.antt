-- What is printed of a table plan spells it.
use Rattle.std.proofs.Common.{◌≡◌, ℕ, suc, ◌<◌, Bool, true, false, List, [], ◌∷◌, ◌++◌, map, length, codes, refl, sym, subst, append_assoc}
use Rattle.std.proofs.lemmas.Bool.{and_parts}
use Rattle.std.specs.Prelude.{if◌then◌else◌}
use Rattle.std.specs.List.{All, flat_map, list_all}
use Rattle.std.proofs.lemmas.List.Elements.{All-nil, All-cons, All-head, All-tail}
use Rattle.task_core.specs.declared.literals.Lit.{Lit}
use Rattle.task_core.specs.Cubes.{Cube}
use Rattle.sexpr_text.specs.Formed.{is_lower_word_byte}
use Rattle.plan_rules.specs.Plans.{IsRuleOf}
use Rattle.task_core.specs.Names.{Name, IsWord, IsName}
use Rattle.plan_rules.specs.Readings.{AreSpellable}
use Rattle.sexpr_text.specs.Rows.{Row, nil, word, group, words}
use Rattle.plan_rules.specs.Rules.{PlanRule}
use Rattle.plan_rules.specs.Texts.{name_at, spaced, line_feed, in_parentheses, atom_text, literal_text, cube_text, rule_text, class_word, table_text}
use Rattle.task_core.specs.declared.classes.Class.{Class}
use Rattle.task_core.specs.declared.classes.Class.TheVariants.{Weak, Strong, Cyclic}
use Rattle.plan_rules.proofs.Pieces.{Stops, Reads, reads_none, reads_space, reads_word, reads_then, reads_group}

-- a word of the layout itself, by computing
plain_bytes : (w : List ℕ) → list_all is_lower_word_byte w ≡ true → All (λ c. is_lower_word_byte c ≡ true) w
plain_bytes [] h = All-nil (λ c. is_lower_word_byte c ≡ true)
plain_bytes (c ∷ w) h =
    let parts = and_parts (is_lower_word_byte c) (list_all is_lower_word_byte w) h in
    All-cons (λ c. is_lower_word_byte c ≡ true) c w parts.0 (plain_bytes w parts.1)

pub fixed : (c : ℕ) (w : List ℕ) → list_all is_lower_word_byte (c ∷ w) ≡ true → IsWord (c ∷ w)
fixed c w h = record { some = λ e. cc; bytes = plain_bytes (c ∷ w) h }

-- the words of a name
pub reads_words : (name : Name) (d : ℕ) → All IsWord name → Reads (spaced name) d (words name)
reads_words [] d all = reads_none d
reads_words (w ∷ []) d all = reads_word w d (All-head IsWord w [] all)
reads_words (w ∷ v ∷ name) d all =
    reads_then w (32 ∷ spaced (v ∷ name)) d (word w nil) (words (v ∷ name)) (λ _ _. refl)
    (reads_word w d (All-head IsWord w (v ∷ name) all))
    (reads_space 32 (spaced (v ∷ name)) d (words (v ∷ name)) refl (reads_words (v ∷ name) d (All-tail IsWord w (v ∷ name) all)))

-- groups in a row
abbrev pub groups : {X : Type 0} → (X → Row) → List X → Row
groups g [] = nil
groups g (x ∷ xs) = group (g x) (groups g xs)

-- groups with a space between them
pub reads_spaced : {X : Type 0} (P : X → Type 0) (f : X → List ℕ) (g : X → Row) (d : ℕ) (xs : List X) → ((x : X) → P x → Reads (f x) d (group (g x) nil)) → All P xs → Reads (spaced (map f xs)) d (groups g xs)
reads_spaced P f g d [] each all = reads_none d
reads_spaced P f g d (x ∷ []) each all = each x (All-head P x [] all)
reads_spaced P f g d (x ∷ y ∷ xs) each all =
    reads_then (f x) (32 ∷ spaced (map f (y ∷ xs))) d (group (g x) nil) (groups g (y ∷ xs)) (λ _ _. refl)
    (each x (All-head P x (y ∷ xs) all))
    (reads_space 32 (spaced (map f (y ∷ xs))) d (groups g (y ∷ xs)) refl (reads_spaced P f g d (y ∷ xs) each (All-tail P x (y ∷ xs) all)))

-- groups, each in pieces of their own
pub reads_each : {X : Type 0} (P : X → Type 0) (f : X → List ℕ) (g : X → Row) (d : ℕ) (xs : List X) → ((x : X) → P x → Reads (f x) d (group (g x) nil)) → ((x : X) (rest : List ℕ) → Stops (f x ++ rest)) → All P xs → Reads (flat_map f xs) d (groups g xs)
reads_each {X = X} P f g d [] each apart all = reads_none d
reads_each {X = X} P f g d (x ∷ xs) each apart all =
    reads_then (f x) (flat_map f xs) d (group (g x) nil) (groups g xs) (later xs)
    (each x (All-head P x xs all))
    (reads_each P f g d xs each apart (All-tail P x xs all))
  where
    later : (ys : List X) (rest : List ℕ) → Stops rest → Stops (flat_map f ys ++ rest)
    later [] rest stops = stops
    later (y ∷ ys) rest stops = subst Stops (sym (append_assoc (f y) (flat_map f ys) rest)) (apart y (flat_map f ys ++ rest))

-- a name in parentheses
pub reads_atom : (name : Name) (d : ℕ) → IsName name → Reads (atom_text name) (suc d) (group (words name) nil)
reads_atom name d is = reads_group (spaced name) d (words name) (reads_words name d is.each_word)

-- a name after a word and a space
pub reads_word_then : (w : List ℕ) (x : List ℕ) (d : ℕ) (p : Row) → IsWord w → Reads x d p → Reads (w ++ (32 ∷ x)) d (word w p)
reads_word_then w x d p is reads = reads_then w (32 ∷ x) d (word w nil) p (λ _ _. refl) (reads_word w d is) (reads_space 32 x d p refl reads)

-- the forms of a literal
abbrev pub literal_row : List Name → Lit → Row
literal_row fluents l =
    if l.positive then words (name_at fluents l.fluent.0) else word (codes "not") (group (words (name_at fluents l.fluent.0)) nil)

reads_literal : (fluents : List Name) (d : ℕ) (l : Lit) → IsName (name_at fluents l.fluent.0) → Reads (literal_text fluents l) (suc (suc d)) (group (literal_row fluents l) nil)
reads_literal fluents d l is = by_sign (name_at fluents l.fluent.0) is l.positive
  where
    by_sign : (name : Name) → IsName name → (v : Bool) → Reads (if v then atom_text name else in_parentheses (codes "not " ++ atom_text name)) (suc (suc d)) (group (if v then words name else word (codes "not") (group (words name) nil)) nil)
    by_sign name is true = reads_atom name (suc d) is
    by_sign name is false =
        reads_group (codes "not " ++ atom_text name) (suc d) (word (codes "not") (group (words name) nil))
        (reads_word_then (codes "not") (atom_text name) (suc d) (group (words name) nil) (fixed 110 (codes "ot") refl) (reads_atom name d is))

-- the fluent of a literal is one of so many
abbrev pub IsOneOf : ℕ → Lit → Type 0
IsOneOf n l = l.fluent.0 < n

abbrev pub cube_row : List Name → Cube → Row
cube_row fluents cube = groups (literal_row fluents) cube

pub reads_cube : (fluents : List Name) (d : ℕ) (cube : Cube) → All IsName fluents → All (IsOneOf (length fluents)) cube → Reads (cube_text fluents cube) (suc (suc (suc d))) (group (cube_row fluents cube) nil)
reads_cube fluents d cube names all =
    reads_group (spaced (map (literal_text fluents) cube)) (suc (suc d)) (cube_row fluents cube)
    (reads_spaced (IsOneOf (length fluents)) (literal_text fluents) (literal_row fluents) (suc (suc d)) cube
    (λ l known. reads_literal fluents d l (names l.fluent.0 [] known)) all)

-- the forms of a rule
abbrev pub rule_row : List Name → List Name → PlanRule → Row
rule_row fluents actions rule =
    word (codes "rule") (group (cube_row fluents rule.cube) (group (words (name_at actions rule.action)) nil))

rule_shape : (x y : List ℕ) → codes "  (rule " ++ x ++ codes " " ++ y ++ codes ")" ++ line_feed ≡ 32 ∷ 32 ∷ (in_parentheses (codes "rule" ++ (32 ∷ (x ++ (32 ∷ y)))) ++ 10 ∷ [])
rule_shape x y = simp append_assoc

pub reads_rule : (fluents actions : List Name) (d : ℕ) (rule : PlanRule) → AreSpellable fluents actions → IsRuleOf (length fluents) (length actions) rule → Reads (rule_text fluents actions rule) (suc (suc (suc (suc d)))) (group (rule_row fluents actions rule) nil)
reads_rule fluents actions d rule names is =
    let e = suc (suc (suc d)) in
    let x = cube_text fluents rule.cube in
    let y = atom_text (name_at actions rule.action) in
    let last = group (words (name_at actions rule.action)) nil in
    let parts = group (cube_row fluents rule.cube) last in
    let inner = codes "rule" ++ (32 ∷ (x ++ (32 ∷ y))) in
    let in_order : Reads (x ++ (32 ∷ y)) e parts =
    reads_then x (32 ∷ y) e (group (cube_row fluents rule.cube) nil) last (λ _ _. refl)
    (reads_cube fluents d rule.cube names.fluents_are.each is.cube)
    (reads_space 32 y e last refl (reads_atom (name_at actions rule.action) (suc (suc d)) (names.actions_are.each rule.action [] is.action))) in
    let inside : Reads inner e (word (codes "rule") parts) =
    reads_word_then (codes "rule") (x ++ (32 ∷ y)) e parts (fixed 114 (codes "ule") refl) in_order in
    let whole : Reads (in_parentheses inner ++ 10 ∷ []) (suc e) (group (word (codes "rule") parts) nil) =
    reads_then (in_parentheses inner) (10 ∷ []) (suc e) (group (word (codes "rule") parts) nil) nil (λ _ _. refl)
    (reads_group inner e (word (codes "rule") parts) inside)
    (reads_space 10 [] (suc e) nil refl (reads_none (suc e))) in
    subst (λ t. Reads t (suc e) (group (word (codes "rule") parts) nil)) (sym (rule_shape x y))
    (reads_space 32 (32 ∷ (in_parentheses inner ++ 10 ∷ [])) (suc e) (group (word (codes "rule") parts) nil) refl
    (reads_space 32 (in_parentheses inner ++ 10 ∷ []) (suc e) (group (word (codes "rule") parts) nil) refl whole))

pub class_is_word : (class : Class) → IsWord (class_word class)
class_is_word Weak = fixed 119 (codes "eak") refl
class_is_word Strong = fixed 115 (codes "trong") refl
class_is_word Cyclic = fixed 99 (codes "yclic") refl

pub table_shape : (w z : List ℕ) → codes "(plan table " ++ w ++ line_feed ++ z ++ codes ")" ++ line_feed ≡ in_parentheses (codes "plan" ++ (32 ∷ (codes "table" ++ (32 ∷ (w ++ (10 ∷ z)))))) ++ 10 ∷ []
table_shape w z = simp append_assoc

abbrev pub table_row : List Name → List Name → Class → List PlanRule → Row
table_row fluents actions class rules =
    word (codes "plan") (word (codes "table") (word (class_word class) (groups (rule_row fluents actions) rules)))

pub reads_table : (fluents actions : List Name) (class : Class) (rules : List PlanRule) → AreSpellable fluents actions → All (IsRuleOf (length fluents) (length actions)) rules → Reads (table_text fluents actions class rules) 5 (group (table_row fluents actions class rules) nil)
reads_table fluents actions class rules names all =
    let w = class_word class in
    let z = flat_map (rule_text fluents actions) rules in
    let lines = groups (rule_row fluents actions) rules in
    let row = table_row fluents actions class rules in
    let after_class : Reads (w ++ (10 ∷ z)) 4 (word w lines) =
    reads_then w (10 ∷ z) 4 (word w nil) lines (λ _ _. refl) (reads_word w 4 (class_is_word class))
    (reads_space 10 z 4 lines refl
    (reads_each (IsRuleOf (length fluents) (length actions)) (rule_text fluents actions) (rule_row fluents actions) 4 rules
    (λ rule is. reads_rule fluents actions 0 rule names is) (λ _ _. refl) all)) in
    let after_kind : Reads (codes "table" ++ (32 ∷ (w ++ (10 ∷ z)))) 4 (word (codes "table") (word w lines)) =
    reads_word_then (codes "table") (w ++ (10 ∷ z)) 4 (word w lines) (fixed 116 (codes "able") refl) after_class in
    let inner = codes "plan" ++ (32 ∷ (codes "table" ++ (32 ∷ (w ++ (10 ∷ z))))) in
    let inside : Reads inner 4 row =
    reads_word_then (codes "plan") (codes "table" ++ (32 ∷ (w ++ (10 ∷ z)))) 4 (word (codes "table") (word w lines)) (fixed 112 (codes "lan") refl) after_kind in
    subst (λ t. Reads t 5 (group row nil)) (sym (table_shape w z))
    (reads_then (in_parentheses inner) (10 ∷ []) 5 (group row nil) nil (λ _ _. refl)
    (reads_group inner 4 row inside)
    (reads_space 10 [] 5 nil refl (reads_none 5)))
