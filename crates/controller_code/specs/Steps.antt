-- A decision as steps that questions lead through: each step answers, or asks for the value of one
-- fluent and names the step where to go on (a binary decision diagram with more than two answers:
-- Fujita, McGeer, Yang 1997).
use Rattle.std.specs.Prelude.{◌≡◌, ◌-◌, ℕ, List, Option, Some, None, if◌then◌else◌, slice_get}
use Rattle.std.specs.Prelude.{slice_index_or}
use Rattle.task_core.specs.Vectors.{Vector, value_of}
use Rattle.controller_code.specs.declared.steps.Move.{Move}
use Rattle.controller_code.specs.declared.steps.Step.{Step}
use Rattle.controller_code.specs.declared.steps.Step.TheVariants.{Ask, Stop, Take}
use Rattle.controller_code.specs.declared.steps.Test.{Test}
use Rattle.controller_code.specs.declared.trees.Tree.{Tree}

-- where to go on after a question
abbrev pub next_step : Vector → Test → ℕ
next_step v test = if value_of v test.fluent.0 then test.if_true else test.if_false

-- followed from step k on in the state v, the steps come to an end with this answer: a move, or none
pub data Decides (steps : List Step) (v : Vector) : ℕ → Option Move → Type 0 where
  stops : (k : ℕ) → slice_get steps k ≡ Some Stop → Decides steps v k None
  takes : (k : ℕ) (move : Move) → slice_get steps k ≡ Some (Take move)
      → Decides steps v k (Some move)
  asks : (k : ℕ) (test : Test) (answer : Option Move) → slice_get steps k ≡ Some (Ask test)
      → Decides steps v (next_step v test) answer → Decides steps v k answer

-- every step of a list is in another, with the same number
pub record AreKept (before after : List Step) : Type 0 where
  pub same : (k : ℕ) (step : Step) → slice_get before k ≡ Some step → slice_get after k ≡ Some step

-- the step where the decision of a context begins; contexts are numbered from 1
abbrev pub start_of : Tree → ℕ → ℕ
start_of tree context = slice_index_or tree.starts.items (context - 1) 0
