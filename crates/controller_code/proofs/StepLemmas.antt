-- Decisions stay where steps are added.
use Rattle.std.proofs.Common.{◌≡◌, ◌<◌, ◌+◌, ◌&&◌, ◌∷◌, ℕ, suc, Bool, true, false, List, Option, Some, None, Ok, Err, Result, IfOk, OnOk, drop, get_or, if◌then◌else◌, length, slice_get, refl, sym, subst, ap, ◌∙◌, arith}
use Rattle.std.proofs.Math.Seq.{drop-cons, drop-length}
use Rattle.std.proofs.lemmas.List.Elements.{All-weaker}
use Rattle.std.specs.declared.alloc.AllocError.{AllocError}
use Rattle.task_core.specs.Cubes.{Cube, matches}
use Rattle.task_core.specs.Vectors.{Vector, same_value, value_of}
use Rattle.task_core.specs.declared.literals.Lit.{Lit}
use Rattle.controller_code.specs.FirstMoves.{AreKnown, DecidesFirst, first_move}
use Rattle.controller_code.specs.Steps.{AreKept, Decides, next_step, asks, stops, takes}
use Rattle.controller_code.specs.declared.growing.Known.{Known}
use Rattle.controller_code.specs.declared.left_rules.LeftRule.{LeftRule}
use Rattle.controller_code.specs.declared.steps.Move.{Move}
use Rattle.controller_code.specs.declared.steps.Step.{Step}
use Rattle.controller_code.specs.declared.steps.Step.TheVariants.{Ask, Stop, Take}
use Rattle.controller_code.specs.declared.steps.Test.{Test}

pub decides_later : (before after : List Step) → AreKept before after → (v : Vector) (k : ℕ) (answer : Option Move)
    → Decides before v k answer → Decides after v k answer
decides_later before after kept v k answer (stops n at) = stops n (kept.same n _ at)
decides_later before after kept v k answer (takes n move at) = takes n move (kept.same n _ at)
decides_later before after kept v k answer (asks n test a at next) =
    asks n test a (kept.same n _ at) (decides_later before after kept v (next_step v test) a next)

pub first_later : (before after : List Step) → AreKept before after → (k : ℕ) (rules : List LeftRule)
    → DecidesFirst before k rules → DecidesFirst after k rules
first_later before after kept k rules d = record { answer = λ v. decides_later before after kept v k (first_move rules v) (d.answer v) }

pub known_later : (before after : List Step) → AreKept before after → (known : List Known)
    → AreKnown before known → AreKnown after known
known_later before after kept known all =
    All-weaker (λ (some : Known). DecidesFirst before some.step some.rules.items) (λ (some : Known). DecidesFirst after some.step some.rules.items)
    (λ some d. first_later before after kept some.step some.rules.items d) known all

pub kept_more : (a b c : List Step) → AreKept a b → AreKept b c → AreKept a c
kept_more a b c one two = record { same = λ k step at. two.same k step (one.same k step at) }

pub kept_same : (a : List Step) → AreKept a a
kept_same a = record { same = λ k step at. at }

pub known_kept : (result : Result ℕ AllocError) (before after : List Step) (known : List Known)
    → OnOk result (AreKept before after) → AreKnown before known → OnOk result (AreKnown after known)
known_kept (Ok k) before after known kept all = known_later before after kept known all
known_kept (Err e) before after known kept all = tt

-- a question
pub asked : (before after : List Step) (test : Test) (result : Result ℕ AllocError)
    → OnOk result (AreKept before after) → IfOk result (λ k. slice_get after k ≡ Some (Ask test))
    → IfOk result (λ k. (v : Vector) (answer : Option Move) → Decides before v (next_step v test) answer → Decides after v k answer)
asked before after test (Ok k) kept added = λ v answer next. asks k test answer added (decides_later before after kept v (next_step v test) answer next)
asked before after test (Err e) kept added = tt

-- past the last rule
pub rest_begun : (rules : List LeftRule) (steps : List Step) (k : ℕ) → slice_get steps k ≡ Some Stop → DecidesFirst steps k (drop (length rules) rules)
rest_begun rules steps k at = subst (DecidesFirst steps k) (sym (drop-length rules)) (record { answer = λ v. stops k at })

-- all literals of a rule hold
pub all_begun : (cube : Cube) (move : Move) (n : ℕ) → n ≡ length cube → (rest : ℕ) (before after : List Step) (k : ℕ) → slice_get after k ≡ Some (Take move)
    → (v : Vector) (other : Option Move) → Decides before v rest other
    → Decides after v k (if matches (drop n cube) v then Some move else other)
all_begun cube move n is rest before after k at v other ends =
    subst (λ (c : Cube). Decides after v k (if matches c v then Some move else other)) (sym (ap (λ m. drop m cube) is ∙ drop-length cube)) (takes k move at)

-- the literals from a place on
drop_more : (cube : Cube) (i n : ℕ) → i + 1 ≡ n → i < length cube → (lit : Lit) → lit ≡ get_or cube i lit → drop i cube ≡ lit ∷ drop n cube
drop_more cube i n next lt lit at =
    drop-cons cube i lit lt ∙ ap (λ x. x ∷ drop (suc i) cube) (sym at) ∙ ap (λ m. lit ∷ drop m cube) (let e : suc i ≡ n = omega arith in e)

-- a literal more
pub all_more : (cube : Cube) (move : Move) (i n : ℕ) → i + 1 ≡ n → i < length cube → (lit : Lit) → lit ≡ get_or cube i lit → (rest : ℕ)
    → (first before after : List Step) → AreKept first before → AreKept before after → (all : ℕ) (test : Test)
    → test.fluent ≡ lit.fluent → test.if_true ≡ (if lit.positive then all else rest) → test.if_false ≡ (if lit.positive then rest else all)
    → (k : ℕ) → slice_get after k ≡ Some (Ask test)
    → ((v : Vector) (other : Option Move) → Decides first v rest other → Decides before v all (if matches (drop n cube) v then Some move else other))
    → (v : Vector) (other : Option Move) → Decides first v rest other
    → Decides after v k (if matches (drop i cube) v then Some move else other)
all_more cube move i n next lt lit at rest first before after kept more all test f t e k added so_far v other ends =
    let here : Decides after v rest other = decides_later before after more v rest other (decides_later first before kept v rest other ends) in
    let there : Decides after v all (if matches (drop n cube) v then Some move else other) = decides_later before after more v all _ (so_far v other ends) in
    let split : drop i cube ≡ lit ∷ drop n cube = drop_more cube i n next lt lit at in
    let answer = λ (c : Cube). if matches c v then Some move else other in
    asks k test (answer (drop i cube)) added
    (subst (λ (c : Cube). Decides after v (next_step v test) (answer c)) (sym split)
    (subst (λ (m : ℕ). Decides after v m (answer (lit ∷ drop n cube))) (sym (leads v lit test all rest f t e))
    (go (value_of v lit.fluent.0) lit.positive (matches (drop n cube) v) here there)))
  where
    leads : (v : Vector) (lit : Lit) (test : Test) (all rest : ℕ) → test.fluent ≡ lit.fluent → test.if_true ≡ (if lit.positive then all else rest)
        → test.if_false ≡ (if lit.positive then rest else all)
        → next_step v test ≡ (if value_of v lit.fluent.0 then (if lit.positive then all else rest) else (if lit.positive then rest else all))
    leads v lit test all rest f t e = cc

    go : (b p m : Bool) → Decides after v rest other → Decides after v all (if m then Some move else other)
        → Decides after v (if b then (if p then all else rest) else (if p then rest else all)) (if same_value b p && m then Some move else other)
    go true true m here there = there
    go true false m here there = here
    go false true m here there = here
    go false false m here there = there

-- a fluent is asked for, and after it the rules that are left
pub forked : (mid after new : List Step) → AreKept mid after → (test : Test) (holding failing rules : List LeftRule)
    → DecidesFirst mid test.if_true holding → DecidesFirst after test.if_false failing
    → ((v : Vector) → value_of v test.fluent.0 ≡ true → first_move holding v ≡ first_move rules v)
    → ((v : Vector) → value_of v test.fluent.0 ≡ false → first_move failing v ≡ first_move rules v)
    → (k : ℕ) → ((v : Vector) (answer : Option Move) → Decides after v (next_step v test) answer → Decides new v k answer)
    → DecidesFirst new k rules
forked mid after new kept test holding failing rules one two if_true if_false k asks_so =
    record { answer = λ v. asks_so v (first_move rules v) (go v (value_of v test.fluent.0) refl) }
  where
    go : (v : Vector) (b : Bool) → value_of v test.fluent.0 ≡ b → Decides after v (if b then test.if_true else test.if_false) (first_move rules v)
    go v true is = subst (Decides after v test.if_true) (if_true v is) (decides_later mid after kept v test.if_true (first_move holding v) (one.answer v))
    go v false is = subst (Decides after v test.if_false) (if_false v is) (two.answer v)

-- no rule is left, or the first asks for nothing
pub stop_decides : (steps : List Step) (k : ℕ) (rules : List LeftRule) → slice_get steps k ≡ Some Stop → ((v : Vector) → first_move rules v ≡ None) → DecidesFirst steps k rules
stop_decides steps k rules at none = record { answer = λ v. subst (Decides steps v k) (sym (none v)) (stops k at) }

pub take_decides : (steps : List Step) (k : ℕ) (rules : List LeftRule) (move : Move) → slice_get steps k ≡ Some (Take move)
    → ((v : Vector) → first_move rules v ≡ Some move) → DecidesFirst steps k rules
take_decides steps k rules move at one = record { answer = λ v. subst (Decides steps v k) (sym (one v)) (takes k move at) }

pub stop_found : (result : Result ℕ AllocError) (steps : List Step) (asked rules : List LeftRule) → asked ≡ rules
    → IfOk result (λ k. slice_get steps k ≡ Some Stop) → ((v : Vector) → first_move asked v ≡ None) → IfOk result (λ k. DecidesFirst steps k rules)
stop_found (Ok k) steps asked rules same at none = subst (DecidesFirst steps k) same (stop_decides steps k asked at none)
stop_found (Err e) steps asked rules same at none = tt

pub take_found : (result : Result ℕ AllocError) (steps : List Step) (asked rules : List LeftRule) → asked ≡ rules → (move : Move)
    → IfOk result (λ k. slice_get steps k ≡ Some (Take move)) → ((v : Vector) → first_move asked v ≡ Some move) → IfOk result (λ k. DecidesFirst steps k rules)
take_found (Ok k) steps asked rules same move at one = subst (DecidesFirst steps k) same (take_decides steps k asked move at one)
take_found (Err e) steps asked rules same move at one = tt
