-- Which files a command fetches: the first, and each later one only once those before it were read
-- and don't decide the answer. `held`, `failed` and `fetched` are what the shelf tells, as in
-- Reading.
use Rattle.std.specs.Prelude.{◌≡◌, ◌⊎◌, ⊤, List, [], ◌∷◌, None, true}
use Rattle.pddl_ast.specs.Trees.{DomainTree, ProblemTree}
use Rattle.domain_read.specs.Domains.{SpellsDomain}
use Rattle.pddl_system.specs.Sizes.{first_passed}
use Rattle.plan_io.specs.Fetches.{Fetches, MayFetch}
use Rattle.plan_io.specs.Held.{Held}
use Rattle.plan_rules.specs.Rules.{PlainPlan}
use Rattle.task_core.specs.Names.{Name}
use Rattle.command_base.specs.Answers.{Answer, no_memory, refused}
use Rattle.command_base.specs.Grounding.{GoalThen, GroundThen, has_goal_for}
use Rattle.command_base.specs.PddlTexts.{HoldBoth, IsFaultyDomain, ReadBoth}
use Rattle.command_base.specs.PlanFiles.{HoldsPlan, IsFaultyPlan, SpellsPlaced}
use Rattle.command_base.specs.Reading.{Holds, ReadThen}
use Rattle.command_base.specs.Words.{Bytes, CheckWords}

-- the file of this name spells a domain
abbrev pub HoldsDomain : (Bytes → Held) → Bytes → Type 0
HoldsDomain held name = (domain : DomainTree) × Holds held SpellsDomain name domain

-- the file of a domain is fetched, that of the problem only once the first spells a domain, and
-- then come the fetches that Then says
abbrev pub FetchesBoth : {S : Type 0} → (Bytes → Held) → (S → Bytes → S → Type 0) → Bytes → Bytes
    → (S → S → Type 0) → S → S → Type 0
FetchesBoth {S} held fetched domain_name problem_name Then =
    MayFetch fetched ⊤ domain_name
    (MayFetch fetched (HoldsDomain held domain_name) problem_name Then)

-- the two files spell a problem within the limits that has a goal for plans of the kind: `check`
-- asks for the plan
abbrev pub AsksForPlan : (Bytes → Held) → CheckWords → Type 0
AsksForPlan held asked =
    (domain : DomainTree) × (problem : ProblemTree)
    × HoldBoth held asked.domain asked.problem domain problem
    × (has_goal_for asked.kind problem ≡ true) × (first_passed domain problem ≡ None)

-- the file of this name spells a plan
abbrev pub HoldsSomePlan : (Bytes → Held) → List Name → List Name → Bytes → Type 0
HoldsSomePlan held fluents actions name =
    (plan : PlainPlan) × HoldsPlan held fluents actions name plan

-- the file of this name is fetched; then the answer is decided (`Decided`), and nothing more is
-- fetched; or a further file is needed (`Needed`), and there come the fetches that Then says
abbrev pub FetchThen : {S : Type 0} → (S → Bytes → S → Type 0) → Bytes → Type 0 → Type 0
    → (S → S → Type 0) → S → S → Type 0
FetchThen {S} fetched name Decided Needed Then before after =
    (between : S) × fetched before name between
    × ((Decided × (after ≡ between)) ⊎ (Needed × Then between after))

-- the answer is want of memory, or has this cause
abbrev pub Stops : (Answer → Type 0) → Answer → Type 0
Stops Cause answer = (answer ≡ refused no_memory) ⊎ Cause answer

-- the answer is want of memory, or that one of two files is refused
abbrev pub RefusesBoth : (Bytes → Held) → (Bytes → Type 0) → Bytes → Bytes → Answer → Type 0
RefusesBoth held failed domain_name problem_name =
    Stops (ReadBoth held failed domain_name problem_name (λ domain problem answer. ⊥))

-- the file of a domain is fetched; it is refused; or it spells a domain, and then come the fetches
-- that Then says
abbrev pub FetchDomain : {S : Type 0} → (Bytes → Held) → (Bytes → Type 0)
    → (S → Bytes → S → Type 0) → Bytes → Answer → (S → S → Type 0) → S → S → Type 0
FetchDomain {S} held failed fetched name answer =
    FetchThen fetched name
    (Stops (ReadThen held failed name SpellsDomain IsFaultyDomain (λ domain answer. ⊥)) answer)
    (HoldsDomain held name)

-- `check`: after the problem, whose goal may be of another kind and which may pass a limit, the plan
abbrev pub FetchPlan : {S : Type 0} → (Bytes → Held) → (Bytes → Type 0)
    → (S → Bytes → S → Type 0) → CheckWords → Answer → S → S → Type 0
FetchPlan {S} held failed fetched asked answer =
    FetchThen fetched asked.problem
    (Stops (ReadBoth held failed asked.domain asked.problem (λ domain problem.
    GoalThen asked.kind asked.problem problem (GroundThen domain problem (λ answer. ⊥)))) answer)
    (AsksForPlan held asked) (Fetches fetched (asked.plan ∷ []))

-- the plan over these names is refused
abbrev pub RefusesPlan : (Bytes → Held) → (Bytes → Type 0) → List Name → List Name → Bytes
    → Answer → Type 0
RefusesPlan held failed fluents actions name =
    ReadThen held failed name (SpellsPlaced fluents actions) (IsFaultyPlan fluents actions)
    (λ placed answer. ⊥)
