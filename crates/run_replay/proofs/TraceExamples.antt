-- Worked examples of traces: a coin of one fluent that is tossed until it shows heads.
use Rattle.std.proofs.Common.{◌≡◌, ℕ, ◌==◌, true, false, not, if◌then◌else◌, [], ◌∷◌, ◌++◌, Some, None, codes, refl, slice_get}
use Rattle.std.specs.Fmt.{digits}
use Rattle.task_core.specs.Vectors.{Vector, value_of}
use Rattle.task_core.specs.Systems.{System}
use Rattle.task_core.specs.ContextPlans.{ContextPlan}
use Rattle.run_replay.specs.TraceTexts.{tally_line, trace_text}
use Rattle.run_replay.specs.Traces.{TraceStep, Terminal, Ended, Capped, Stray, Unexecutable, trace_from}

-- action 0 leads to heads or to tails; action 1 can't be executed
abbrev coin : System
coin = record {
  fluents = 1;
  in_space = λ v. true;
  actions = 2;
  outcomes = λ a. 2;
  initial = (false ∷ []) ∷ [];
  goal = None;
  next = λ s a. if a == 0 then (true ∷ []) ∷ (false ∷ []) ∷ [] else [];
  after = λ s a o. if a == 0 then slice_get ((true ∷ []) ∷ (false ∷ []) ∷ []) o else None;
}

-- toss at tails, in one context
abbrev tosses : ContextPlan
tosses = record {
  act = λ s c. if value_of s 0 then None else Some 0;
  ctxt = λ s c t. Some 1;
}

-- take the action that can't be executed
abbrev fails : ContextPlan
fails = record { act = λ s c. Some 1; ctxt = λ s c t. Some 1 }

-- the step of this number that tosses a coin that shows tails
abbrev toss : ℕ → ℕ → Vector → TraceStep
toss number outcome after = record { number = number; action = 0; outcome = outcome; before = false ∷ []; after = after }

-- tails, then heads, where no rule matches: the last number is left
until_heads : trace_from coin tosses 9 1 (false ∷ []) (Some 1) (1 ∷ 0 ∷ 1 ∷ [])
    ≡ record { steps = toss 1 1 (false ∷ []) ∷ toss 2 0 (true ∷ []) ∷ []; ending = Terminal; left = 1 ∷ [] }
unfolding trace_from
until_heads = refl

-- no number is left
used_up : trace_from coin tosses 9 1 (false ∷ []) (Some 1) (1 ∷ [])
    ≡ record { steps = toss 1 1 (false ∷ []) ∷ []; ending = Ended; left = [] }
unfolding trace_from
used_up = refl

-- the coin has two outcomes: 2 is none of them, and has been taken
stray : trace_from coin tosses 9 1 (false ∷ []) (Some 1) (1 ∷ 2 ∷ 0 ∷ [])
    ≡ record { steps = toss 1 1 (false ∷ []) ∷ []; ending = Stray 2 2 2; left = 0 ∷ [] }
unfolding trace_from
stray = refl

-- after the most steps no number is taken, whether one is left or not
capped : trace_from coin tosses 1 1 (false ∷ []) (Some 1) (1 ∷ 0 ∷ [])
    ≡ record { steps = toss 1 1 (false ∷ []) ∷ []; ending = Capped; left = 0 ∷ [] }
unfolding trace_from
capped = refl

capped_with_none_left : trace_from coin tosses 1 1 (false ∷ []) (Some 1) (1 ∷ [])
    ≡ record { steps = toss 1 1 (false ∷ []) ∷ []; ending = Capped; left = [] }
unfolding trace_from
capped_with_none_left = refl

-- the end of a plan comes before the cap, and so does an action that can't be executed
terminal_at_the_cap : trace_from coin tosses 0 1 (true ∷ []) (Some 1) (0 ∷ []) ≡ record { steps = []; ending = Terminal; left = 0 ∷ [] }
unfolding trace_from
terminal_at_the_cap = refl

unexecutable_at_the_cap : trace_from coin fails 0 1 (true ∷ []) (Some 1) (0 ∷ []) ≡ record { steps = []; ending = Unexecutable 1; left = 0 ∷ [] }
unfolding trace_from
unexecutable_at_the_cap = refl

-- in no context no rule matches
no_context : trace_from coin tosses 9 1 (false ∷ []) None (0 ∷ []) ≡ record { steps = []; ending = Terminal; left = 0 ∷ [] }
unfolding trace_from
no_context = refl

-- the coin that can't show heads: tails is the one state, and outcome 0 leads to no state
abbrev tails : System
tails = record {
  fluents = 1;
  in_space = λ v. not (value_of v 0);
  actions = 1;
  outcomes = λ a. 2;
  initial = (false ∷ []) ∷ [];
  goal = None;
  next = λ s a. if value_of s 0 then [] else (false ∷ []) ∷ [];
  after = λ s a o. if value_of s 0 then None else if o == 1 then Some (false ∷ []) else None;
}

-- its outcome 1 keeps its number, though it is the only one that takes place; outcome 0, which
-- doesn't, is a stray number, and has been taken
outside : trace_from tails tosses 9 1 (false ∷ []) (Some 1) (1 ∷ 0 ∷ 1 ∷ [])
    ≡ record { steps = toss 1 1 (false ∷ []) ∷ []; ending = Stray 2 0 2; left = 1 ∷ [] }
unfolding trace_from
outside = refl

-- the text
tossed_text : trace_text ((codes "toss" ∷ codes "it" ∷ []) ∷ []) (toss 12 1 (false ∷ []) ∷ []) Ended ++ tally_line (codes "steps") 1
    ≡ codes "step 12 (toss it) outcome 1\nend record\ntally steps 1\n"
unfolding digits
tossed_text = refl
