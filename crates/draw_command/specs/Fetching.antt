-- Which files a picture is drawn from: the first, and each later one only once those before it were read
-- and don't decide the answer. `held`, `failed` and `fetched` are what the shelf tells.
use Rattle.std.specs.Prelude.{◌≡◌, [], ◌∷◌, None}
use Rattle.command_base.specs.Answers.{Answer}
use Rattle.command_base.specs.Fetching.{FetchDomain, FetchThen, HoldsSomePlan, RefusesPlan, Stops}
use Rattle.command_base.specs.Grounding.{GroundThen}
use Rattle.command_base.specs.PddlTexts.{HoldBoth, ReadBoth}
use Rattle.command_base.specs.Words.{Bytes}
use Rattle.pddl_ast.specs.Trees.{DomainTree, ProblemTree}
use Rattle.pddl_system.specs.Sizes.{first_passed}
use Rattle.pddl_system.specs.Systems.{action_names, fluent_names}
use Rattle.draw_command.specs.Words.{PictureForm, PictureWords, as_graph, as_graph_with, as_page, as_page_with, as_rules}
use Rattle.plan_io.specs.Fetches.{Fetches}
use Rattle.plan_io.specs.Held.{Held}

-- the two files spell a problem within the limits: the plan is asked for
abbrev pub AsksForPlan : (Bytes → Held) → PictureWords → Type 0
AsksForPlan held asked =
    (domain : DomainTree) × (problem : ProblemTree)
    × HoldBoth held asked.domain asked.problem domain problem
    × (first_passed domain problem ≡ None)

-- and the third a plan: the explanation is asked for, where one is to be shown
abbrev pub AsksForRun : (Bytes → Held) → PictureWords → Type 0
AsksForRun held asked =
    (domain : DomainTree) × (problem : ProblemTree)
    × HoldBoth held asked.domain asked.problem domain problem
    × HoldsSomePlan held (fluent_names domain problem) (action_names domain problem) asked.plan

-- the file of the explanation is fetched, where there is one
abbrev pub FetchesRun : {S : Type 0} → (S → Bytes → S → Type 0) → PictureForm → S → S → Type 0
FetchesRun fetched as_graph before after = after ≡ before
FetchesRun fetched (as_graph_with file) before after = Fetches fetched (file ∷ []) before after
FetchesRun fetched as_rules before after = after ≡ before
FetchesRun fetched as_page before after = after ≡ before
FetchesRun fetched (as_page_with file) before after = Fetches fetched (file ∷ []) before after

-- the file of a plan is fetched, which may decide the answer (`Cause`); or it spells a plan
-- (`HoldsOne`), and then that of an explanation may be
abbrev pub FetchPlan : {S : Type 0} → (S → Bytes → S → Type 0) → PictureWords → (Answer → Type 0)
    → Type 0 → Answer → S → S → Type 0
FetchPlan {S} fetched asked Cause HoldsOne answer =
    FetchThen fetched asked.plan (Stops Cause answer) HoldsOne (FetchesRun fetched asked.form)

-- after the problem, which may pass a limit, the plan is fetched, and after that the
-- explanation
abbrev pub FetchPlanAndRun : {S : Type 0} → (Bytes → Held) → (Bytes → Type 0)
    → (S → Bytes → S → Type 0) → PictureWords → Answer → S → S → Type 0
FetchPlanAndRun {S} held failed fetched asked answer =
    FetchThen fetched asked.problem
    (Stops (ReadBoth held failed asked.domain asked.problem (λ domain problem.
    GroundThen domain problem (λ answer. ⊥))) answer)
    (AsksForPlan held asked)
    (FetchPlan fetched asked
    (ReadBoth held failed asked.domain asked.problem (λ domain problem.
    GroundThen domain problem (RefusesPlan held failed (fluent_names domain problem)
    (action_names domain problem) asked.plan)))
    (AsksForRun held asked) answer)

-- the fetches for a picture with this answer: of the files in their order, each once, up to the one
-- that decides the answer
abbrev pub FetchesToPicture : {S : Type 0} → (Bytes → Held) → (Bytes → Type 0)
    → (S → Bytes → S → Type 0) → PictureWords → Answer → S → S → Type 0
FetchesToPicture {S} held failed fetched asked answer =
    FetchDomain held failed fetched asked.domain answer
    (FetchPlanAndRun held failed fetched asked answer)
