-- Which files `replay` fetches: the first, and each later one only once those before it were read and
-- don't decide the answer. `held`, `failed` and `fetched` are what the shelf tells.
use Rattle.std.specs.Prelude.{◌≡◌, [], ◌∷◌, None}
use Rattle.pddl_ast.specs.Trees.{DomainTree, ProblemTree}
use Rattle.pddl_system.specs.Sizes.{first_passed}
use Rattle.pddl_system.specs.Systems.{action_names, fluent_names}
use Rattle.plan_io.specs.Fetches.{Fetches}
use Rattle.plan_io.specs.Held.{Held}
use Rattle.command_base.specs.Answers.{Answer}
use Rattle.command_base.specs.Grounding.{GroundThen}
use Rattle.command_base.specs.PddlTexts.{HoldBoth, ReadBoth}
use Rattle.command_base.specs.Words.{Bytes, ReplayWords}
use Rattle.command_base.specs.Fetching.{HoldsSomePlan, FetchThen, Stops, RefusesPlan, FetchDomain}

-- the two files spell a problem within the limits: `replay` asks for the plan
abbrev pub AsksForRun : (Bytes → Held) → ReplayWords → Type 0
AsksForRun held asked =
    (domain : DomainTree) × (problem : ProblemTree)
    × HoldBoth held asked.domain asked.problem domain problem
    × (first_passed domain problem ≡ None)

-- and the third a plan: `replay` asks for the record
abbrev pub AsksForRecord : (Bytes → Held) → ReplayWords → Type 0
AsksForRecord held asked =
    (domain : DomainTree) × (problem : ProblemTree)
    × HoldBoth held asked.domain asked.problem domain problem
    × HoldsSomePlan held (fluent_names domain problem) (action_names domain problem) asked.plan

-- the file of a plan is fetched, which may decide the answer (`Cause`); or it spells a plan
-- (`HoldsOne`), and then that of a record is
abbrev pub FetchRecord : {S : Type 0} → (S → Bytes → S → Type 0) → ReplayWords
    → (Answer → Type 0) → Type 0 → Answer → S → S → Type 0
FetchRecord {S} fetched asked Cause HoldsOne answer =
    FetchThen fetched asked.plan (Stops Cause answer) HoldsOne
    (Fetches fetched (asked.recorded ∷ []))

-- `replay`: after the problem, which may pass a limit, the plan, and after the plan the record
abbrev pub FetchRun : {S : Type 0} → (Bytes → Held) → (Bytes → Type 0)
    → (S → Bytes → S → Type 0) → ReplayWords → Answer → S → S → Type 0
FetchRun {S} held failed fetched asked answer =
    FetchThen fetched asked.problem
    (Stops (ReadBoth held failed asked.domain asked.problem (λ domain problem.
    GroundThen domain problem (λ answer. ⊥))) answer)
    (AsksForRun held asked)
    (FetchRecord fetched asked
    (ReadBoth held failed asked.domain asked.problem (λ domain problem.
    GroundThen domain problem (RefusesPlan held failed (fluent_names domain problem)
    (action_names domain problem) asked.plan)))
    (AsksForRecord held asked) answer)

-- the fetches of the command with this answer: of its files in their order, each once, up to the one
-- that decides the answer
abbrev pub FetchesToReplay : {S : Type 0} → (Bytes → Held) → (Bytes → Type 0)
    → (S → Bytes → S → Type 0) → ReplayWords → Answer → S → S → Type 0
FetchesToReplay {S} held failed fetched asked answer =
    FetchDomain held failed fetched asked.domain answer
    (FetchRun held failed fetched asked answer)
