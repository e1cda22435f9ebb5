-- What rules decide where one more stands at their end.
use Rattle.std.proofs.Common.{◌≡◌, ◌+◌, ◌<◌, ◌++◌, ◌∷◌, ◌&&◌, ◌==◌, ℕ, Bool, true, false, List, [], Option, Some, None, map, take, length, get_or, cond, find, refl, sym, ap, ◌∙◌, Vec}
use Rattle.std.specs.Option.{option_map, option_or}
use Rattle.std.proofs.lemmas.Bool.{eq-eqb, eqb-true}
use Rattle.std.proofs.lemmas.List.{map-append, take_more}
use Rattle.std.proofs.lemmas.List.Folds.{find-append, list_all-append}
use Rattle.std.specs.declared.alloc.Global.{Global}
use Rattle.list_laws.proofs.Booleans.{and_true}
use Rattle.task_core.specs.Cubes.{Cube, matches}
use Rattle.task_core.specs.Vectors.{Vector, same_value, value_of}
use Rattle.task_core.specs.declared.literals.Lit.{Lit}
use Rattle.rule_lookup.specs.RunRules.{in_one_context}
use Rattle.plan_rules.specs.Rules.{ContextRule, context_rule_of, rule_of}
use Rattle.plan_rules.specs.declared.rules.AutoRule.{AutoRule}
use Rattle.plan_rules.specs.declared.rules.Rule.{Rule}
use Rattle.controller_code.specs.FirstMoves.{first_move, move_of, plan_move}
use Rattle.controller_code.specs.declared.left_rules.LeftRule.{LeftRule}
use Rattle.controller_code.specs.declared.steps.Move.{Move}

-- the first of a test's elements, mapped, and what one more element adds
map_or : {X M : Type 0} (f : X → M) (o : Option X) (b : Bool) (x : X)
    → option_map f (option_or o (cond b (Some x) None)) ≡ option_or (option_map f o) (cond b (Some (f x)) None)
map_or f None true x = refl
map_or f None false x = refl
map_or f (Some y) b x = refl

pub found_push : {X M : Type 0} (p : X → Bool) (f : X → M) (xs : List X) (x : X)
    → option_map f (find p (xs ++ x ∷ [])) ≡ option_or (option_map f (find p xs)) (cond (p x) (Some (f x)) None)
found_push p f xs x = ap (option_map f) (find-append p xs (x ∷ [])) ∙ map_or f (find p xs) (p x) x

-- one rule more that is left
pub first_move_push : (xs : List LeftRule) (x : LeftRule) (v : Vector)
    → first_move (xs ++ x ∷ []) v ≡ option_or (first_move xs v) (cond (matches x.cube.items v) (Some x.action) None)
first_move_push xs x v = found_push (λ (rule : LeftRule). matches rule.cube.items v) (λ (rule : LeftRule). rule.action) xs x

-- one rule more of a plan
pub plan_move_push : (rules : List ContextRule) (rule : ContextRule) (context : ℕ) (v : Vector)
    → plan_move (rules ++ rule ∷ []) context v
    ≡ option_or (plan_move rules context v) (cond ((rule.context == context) && matches rule.cube v) (Some (move_of rule)) None)
plan_move_push rules rule context v = found_push (λ (r : ContextRule). (r.context == context) && matches r.cube v) move_of rules rule

-- a literal more
pub matches_push : (cube : Cube) (lit : Lit) (v : Vector)
    → matches (cube ++ lit ∷ []) v ≡ (matches cube v && same_value (value_of v lit.fluent.0) lit.positive)
matches_push cube lit v = list_all-append (λ (l : Lit). same_value (value_of v l.fluent.0) l.positive) cube (lit ∷ []) ∙ ap (λ b. matches cube v && b) (and_true (same_value (value_of v lit.fluent.0) lit.positive))

-- one rule more of those that are left
first_more : (rules : List LeftRule) (i : ℕ) (rule : LeftRule) → i < length rules → rule ≡ get_or rules i rule → (v : Vector)
    → first_move (take (i + 1) rules) v ≡ option_or (first_move (take i rules) v) (cond (matches rule.cube.items v) (Some rule.action) None)
first_more rules i rule lt at v =
    ap (λ xs. first_move xs v) (take_more rules i rule lt ∙ ap (λ x. take i rules ++ x ∷ []) (sym at))
    ∙ first_move_push (take i rules) rule v

-- one element more, mapped
map_more : {A B : Type 0} (f : A → B) (xs : List A) (i : ℕ) (x : A) → i < length xs → x ≡ get_or xs i x
    → map f (take (i + 1) xs) ≡ map f (take i xs) ++ f x ∷ []
map_more f xs i x lt at =
    ap (map f) (take_more xs i x lt) ∙ map-append f (take i xs) (get_or xs i x ∷ []) ∙ ap (λ y. map f (take i xs) ++ f y ∷ []) (sym at)

-- a rule more of a table
pub table_more : (rules : List Rule) (i : ℕ) (rule : Rule) → i < length rules → rule ≡ get_or rules i rule
    → (made after : List LeftRule) (copy : Vec Lit Global) → copy.items ≡ rule.cube.items
    → after ≡ made ++ record { cube = copy; action = record { action = rule.action; next = 1 } } ∷ []
    → (v : Vector) → first_move made v ≡ plan_move (map in_one_context (map rule_of (take i rules))) 1 v
    → first_move after v ≡ plan_move (map in_one_context (map rule_of (take (i + 1) rules))) 1 v
table_more rules i rule lt at made after copy same is v so_far =
    let x : LeftRule = record { cube = copy; action = record { action = rule.action; next = 1 } } in
    ap (λ xs. first_move xs v) is
    ∙ first_move_push made x v
    ∙ ap (λ o. option_or o (cond (matches copy.items v) (Some x.action) None)) so_far
    ∙ ap (λ cube. option_or (plan_move (map in_one_context (map rule_of (take i rules))) 1 v) (cond (matches cube v) (Some x.action) None)) same
    ∙ sym (plan_move_push (map in_one_context (map rule_of (take i rules))) (in_one_context (rule_of rule)) 1 v)
    ∙ ap (λ rs. plan_move rs 1 v) (sym (ap (map in_one_context) (map_more rule_of rules i rule lt at) ∙ map-append in_one_context (map rule_of (take i rules)) (rule_of rule ∷ [])))

plan_more : (rules : List AutoRule) (i : ℕ) (rule : AutoRule) → i < length rules → rule ≡ get_or rules i rule → (context : ℕ) (v : Vector)
    → plan_move (map context_rule_of (take (i + 1) rules)) context v
    ≡ option_or (plan_move (map context_rule_of (take i rules)) context v)
    (cond ((rule.context == context) && matches rule.cube.items v) (Some (move_of (context_rule_of rule))) None)
plan_more rules i rule lt at context v =
    ap (λ rs. plan_move rs context v) (map_more context_rule_of rules i rule lt at)
    ∙ plan_move_push (map context_rule_of (take i rules)) (context_rule_of rule) context v

-- a rule more of an automaton that is one of the context
pub context_more : (rules : List AutoRule) (i : ℕ) (rule : AutoRule) → i < length rules → rule ≡ get_or rules i rule
    → (context : ℕ) → rule.context ≡ context → (made after : List LeftRule) (copy : Vec Lit Global) (move : Move)
    → copy.items ≡ rule.cube.items → move ≡ move_of (context_rule_of rule) → after ≡ made ++ record { cube = copy; action = move } ∷ []
    → (v : Vector) → first_move made v ≡ plan_move (map context_rule_of (take i rules)) context v
    → first_move after v ≡ plan_move (map context_rule_of (take (i + 1) rules)) context v
context_more rules i rule lt at context here made after copy move same moves is v so_far =
    let x : LeftRule = record { cube = copy; action = move } in
    ap (λ xs. first_move xs v) is
    ∙ first_move_push made x v
    ∙ ap (λ o. option_or o (cond (matches copy.items v) (Some move) None)) so_far
    ∙ ap (λ cube. option_or (plan_move (map context_rule_of (take i rules)) context v) (cond (matches cube v) (Some move) None)) same
    ∙ ap (λ m. option_or (plan_move (map context_rule_of (take i rules)) context v) (cond (matches rule.cube.items v) (Some m) None)) moves
    ∙ ap (λ b. option_or (plan_move (map context_rule_of (take i rules)) context v) (cond (b && matches rule.cube.items v) (Some (move_of (context_rule_of rule))) None)) (sym (eq-eqb rule.context context here))
    ∙ sym (plan_more rules i rule lt at context v)

-- and one that is none of the context
pub context_other : (rules : List AutoRule) (i : ℕ) (rule : AutoRule) → i < length rules → rule ≡ get_or rules i rule
    → (context : ℕ) → (rule.context ≡ context → ⊥) → (made after : List LeftRule) → after ≡ made
    → (v : Vector) → first_move made v ≡ plan_move (map context_rule_of (take i rules)) context v
    → first_move after v ≡ plan_move (map context_rule_of (take (i + 1) rules)) context v
context_other rules i rule lt at context other made after is v so_far =
    ap (λ xs. first_move xs v) is ∙ so_far
    ∙ no_more (plan_move (map context_rule_of (take i rules)) context v) (matches rule.cube.items v) (move_of (context_rule_of rule)) (rule.context == context) (λ yes. other (eqb-true rule.context context yes))
    ∙ sym (plan_more rules i rule lt at context v)
  where
    no_more : (o : Option Move) (m : Bool) (move : Move) (b : Bool) → (b ≡ true → ⊥) → o ≡ option_or o (cond (b && m) (Some move) None)
    no_more o m move true never = absurd (never refl)
    no_more None m move false never = refl
    no_more (Some x) m move false never = refl

-- a rule more that is left
pub left_more : (rules : List LeftRule) (i : ℕ) (rule : LeftRule) → i < length rules → rule ≡ get_or rules i rule
    → (made after : List LeftRule) (rest : Vec Lit Global) (v : Vector) → matches rest.items v ≡ matches rule.cube.items v
    → after ≡ made ++ record { cube = rest; action = rule.action } ∷ []
    → first_move made v ≡ first_move (take i rules) v → first_move after v ≡ first_move (take (i + 1) rules) v
left_more rules i rule lt at made after rest v same is so_far =
    let x : LeftRule = record { cube = rest; action = rule.action } in
    ap (λ xs. first_move xs v) is
    ∙ first_move_push made x v
    ∙ ap (λ o. option_or o (cond (matches rest.items v) (Some rule.action) None)) so_far
    ∙ ap (λ b. option_or (first_move (take i rules) v) (cond b (Some rule.action) None)) same
    ∙ sym (first_more rules i rule lt at v)

-- and one that doesn't match
pub left_other : (rules : List LeftRule) (i : ℕ) (rule : LeftRule) → i < length rules → rule ≡ get_or rules i rule
    → (made after : List LeftRule) (v : Vector) → matches rule.cube.items v ≡ false → after ≡ made
    → first_move made v ≡ first_move (take i rules) v → first_move after v ≡ first_move (take (i + 1) rules) v
left_other rules i rule lt at made after v fails is so_far =
    ap (λ xs. first_move xs v) is ∙ so_far
    ∙ no_more (first_move (take i rules) v)
    ∙ ap (λ b. option_or (first_move (take i rules) v) (cond b (Some rule.action) None)) (sym fails)
    ∙ sym (first_more rules i rule lt at v)
  where
    no_more : (o : Option Move) → o ≡ option_or o None
    no_more None = refl
    no_more (Some x) = refl

-- rules that are the same on both sides
pub same_more : (rules others : List LeftRule) (i : ℕ) (rule other : LeftRule) → i < length rules → i < length others
    → rule ≡ get_or rules i rule → other ≡ get_or others i other → rule.cube.items ≡ other.cube.items → rule.action ≡ other.action
    → (v : Vector) → first_move (take i rules) v ≡ first_move (take i others) v
    → first_move (take (i + 1) rules) v ≡ first_move (take (i + 1) others) v
same_more rules others i rule other lt lt' at at' cube action v so_far =
    first_more rules i rule lt at v
    ∙ ap (λ o. option_or o (cond (matches rule.cube.items v) (Some rule.action) None)) so_far
    ∙ ap (λ c. option_or (first_move (take i others) v) (cond (matches c v) (Some rule.action) None)) cube
    ∙ ap (λ m. option_or (first_move (take i others) v) (cond (matches other.cube.items v) (Some m) None)) action
    ∙ sym (first_more others i other lt' at' v)
