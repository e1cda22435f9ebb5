-- A turn by the rule that counts.
use Rattle.std.proofs.Common.{◌≡◌, ◌+◌, ◌==◌, ℕ, zero, suc, Bool, true, false, List, [], ◌∷◌, None, Option, Some, drop, if◌then◌else◌, length, refl, slice_get, sym, ap, ◌∙◌, subst, arith}
use Rattle.std.specs.Option.{option_map}
use Rattle.std.proofs.lemmas.Bool.{cond-true, cond-false}
use Rattle.std.proofs.lemmas.List.{length-map}
use Rattle.task_core.specs.States.{vector}
use Rattle.task_core.specs.Systems.{System}
use Rattle.task_core.specs.Vectors.{Vector}
use Rattle.task_core.specs.declared.states.State.{State}
use Rattle.plan_rules.specs.Advices.{Advised, advised_by}
use Rattle.plan_rules.specs.Denoted.{can_execute, denoted_contexts, rule_at}
use Rattle.plan_rules.specs.Rules.{ContextRule}
use Rattle.plan_witness.specs.Runs.{IsCounting}
use Rattle.plan_witness.proofs.Counting.{counting_at}
use Rattle.run_replay.specs.Traces.{Capped, Ends, Stray, Terminal, Unexecutable, most_steps, outcome_state, stepping, turn}
use Rattle.run_replay.specs.Turns.{taking, turn_by}
use Rattle.run_replay.proofs.TurnLemmas.{turn_is}
use Rattle.run_replay.specs.Running.{next_turn_of}
use Rattle.trace.specs.Turns.{IsTurn, numbers_left, plain_steps}
use Rattle.trace.specs.declared.runs.MadeStep.{MadeStep}
use Rattle.trace.specs.declared.turns.Turn.{Turn as CodeTurn}

-- in no context
pub no_context : (sys : System) (rules : List ContextRule) (full : Bool) (number : ℕ) (s : Vector) (context : Option ℕ) (words : List ℕ) → context ≡ None
    → turn sys (denoted_contexts rules) full number s context words ≡ Ends Terminal words
no_context sys rules full number s context words is = ap (λ (k : Option ℕ). turn sys (denoted_contexts rules) full number s k words) is

-- where no rule counts
pub no_rule : (sys : System) (rules : List ContextRule) (full : Bool) (number : ℕ) (s : Vector) (context : Option ℕ) (c : ℕ) (words : List ℕ) → context ≡ Some c → rule_at rules s c ≡ None
    → turn sys (denoted_contexts rules) full number s context words ≡ Ends Terminal words
no_rule sys rules full number s context c words is none =
    ap (λ (k : Option ℕ). turn sys (denoted_contexts rules) full number s k words) is
    ∙ turn_is sys rules full number s c words None (sym (ap (option_map advised_by) none))

-- where this rule counts
pub by_rule : (n : ℕ) (made : CodeTurn) (rest : List ℕ) (sys : System) (rules : List ContextRule) (full : Bool) (number : ℕ) (s : Vector) (context : Option ℕ) (c : ℕ) (words : List ℕ) (k : ℕ) (rule : ContextRule)
    → context ≡ Some c → IsCounting rules (record { state = s; context = c }) k rule
    → IsTurn n number made rest (turn_by sys full number s words (Some (advised_by rule)))
    → IsTurn n number made rest (turn sys (denoted_contexts rules) full number s context words)
by_rule n made rest sys rules full number s context c words k rule is counts turned =
    let same = ap (λ (j : Option ℕ). turn sys (denoted_contexts rules) full number s j words) is
    ∙ turn_is sys rules full number s c words (Some (advised_by rule)) (sym (ap (option_map advised_by) (counting_at rules (record { state = s; context = c }) k rule counts))) in
    subst (IsTurn n number made rest) (sym same) turned

-- where its action can't be executed
pub refused : (sys : System) (full : Bool) (number : ℕ) (s : Vector) (words : List ℕ) (a : Advised) → can_execute sys s a.action ≡ false
    → turn_by sys full number s words (Some a) ≡ Ends (Unexecutable number) words
refused sys full number s words a can =
    cond-false (can_execute sys s a.action) (if full then Ends Capped words else taking sys number s a words) (Ends (Unexecutable number) words) can

-- where it can, and no more steps may be made
pub full_up : (sys : System) (full : Bool) (number : ℕ) (s : Vector) (words : List ℕ) (a : Advised) → can_execute sys s a.action ≡ true → full ≡ true
    → turn_by sys full number s words (Some a) ≡ Ends Capped words
full_up sys full number s words a can is =
    cond-true (can_execute sys s a.action) (if full then Ends Capped words else taking sys number s a words) (Ends (Unexecutable number) words) can
    ∙ cond-true full (Ends Capped words) (taking sys number s a words) is

-- where the number that is taken is none of its outcomes, or leads to no state
pub strays : (sys : System) (number : ℕ) (s : Vector) (action : ℕ) (context : Vector → Option ℕ) (word : ℕ) (words : List ℕ) (a outcomes : ℕ)
    → a ≡ action → None ≡ outcome_state sys s a word → outcomes ≡ sys.outcomes a
    → stepping sys number s action context word words (outcome_state sys s action word) ≡ Ends (Stray number word outcomes) words
strays sys number s action context word words a outcomes same none count =
    ap (stepping sys number s action context word words) (ap (λ (b : ℕ). outcome_state sys s b word) (sym same) ∙ sym none)
    ∙ ap (λ (k : ℕ). Ends (Stray number word k) words) (ap sys.outcomes (sym same) ∙ sym count)

-- the outcome numbers that are left, by the next one
words_left : (words : List ℕ) (k : ℕ) → numbers_left (slice_get words k) (drop (k + 1) words) ≡ drop k words
words_left words k = ap (λ (j : ℕ). numbers_left (slice_get words k) (drop j words)) (let e : k + 1 ≡ suc k = omega arith in e) ∙ drop_more words k
  where
    drop_more : (ws : List ℕ) (j : ℕ) → numbers_left (slice_get ws j) (drop (suc j) ws) ≡ drop j ws
    drop_more [] zero = refl
    drop_more [] (suc j) = refl
    drop_more (word ∷ ws) zero = refl
    drop_more (word ∷ ws) (suc j) = drop_more ws j

-- the next turn, by the number of steps so far
pub next_turn_is : (n : ℕ) (sys : System) (rules : List ContextRule) (steps : List MadeStep) (state : State) (context : Option ℕ) (words : List ℕ) (made : ℕ) (word : Option ℕ) (t : CodeTurn)
    → made ≡ length steps → word ≡ slice_get words made
    → ((rest : List ℕ) → IsTurn n (made + 1) t rest (turn sys (denoted_contexts rules) (made == most_steps) (made + 1) (vector n state) context (numbers_left word rest)))
    → IsTurn n (length steps + 1) t (drop (length steps + 1) words) (next_turn_of sys (denoted_contexts rules) n (plain_steps steps) state context (drop (length steps) words))
next_turn_is n sys rules steps state context words made word t many is turned =
    let k = length steps in
    let left : numbers_left word (drop (k + 1) words) ≡ drop k words =
    ap (λ (w : Option ℕ). numbers_left w (drop (k + 1) words)) (is ∙ ap (slice_get words) many) ∙ words_left words k in
    let long : k ≡ length (plain_steps steps) = sym (length-map steps (λ (x : MadeStep). x.step)) in
    let At : ℕ → ℕ → List ℕ → Type 0 = λ j i l. IsTurn n (j + 1) t (drop (k + 1) words) (turn sys (denoted_contexts rules) (i == most_steps) (i + 1) (vector n state) context l) in
    subst (λ (i : ℕ). At k i (drop k words)) long
    (subst (λ (l : List ℕ). At k k l) left
    (subst (λ (j : ℕ). At j j (numbers_left word (drop (k + 1) words))) many (turned (drop (k + 1) words))))
