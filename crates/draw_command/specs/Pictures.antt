-- Which answer is a picture, and the answer to the words.
use Rattle.std.specs.Prelude.{◌≡◌, ◌<◌, ◌⊎◌, ℕ, List, [], MatchOption, Option, None, Some, codes, length}
use Rattle.exec_graph.specs.Executions.{ReachesMoreThan}
use Rattle.pddl_ast.specs.Trees.{DomainTree, ProblemTree}
use Rattle.pddl_system.specs.Systems.{action_names, fluent_names, system}
use Rattle.plan_io.specs.Held.{Held}
use Rattle.plan_picture.specs.Pictures.{IsPictureOf, PlainNode}
use Rattle.plan_rules.specs.Rules.{PlainPlan}
use Rattle.task_core.specs.Names.{Name}
use Rattle.task_core.specs.Systems.{System}
use Rattle.task_core.specs.Tasks.{action_names as actions_in, fluent_names as fluents_in}
use Rattle.task_core.specs.Tasks.{initial_states, system_of}
use Rattle.task_core.specs.declared.tasks.Task.{Task}
use Rattle.command_base.specs.Answers.{Answer, Refusal, affirmed, over_limit, refused, text_fault}
use Rattle.command_base.specs.Following.{HasTooManyStates, most_followed}
use Rattle.command_base.specs.Grounding.{GroundThen}
use Rattle.command_base.specs.InitialStates.{InitialThen, empty_init}
use Rattle.command_base.specs.PddlTexts.{ReadBoth}
use Rattle.command_base.specs.PlanFiles.{IsFaultyPlan, PlacedPlan, SpellsPlaced}
use Rattle.command_base.specs.Reading.{ReadThen}
use Rattle.command_base.specs.Words.{Bytes}
use Rattle.plan_page.specs.Explanations.{HasExplanationFault, PlainExplanation, PlainShownRun, TellsExplanation}
use Rattle.plan_page.specs.Pages.{page_of}
use Rattle.plan_picture.specs.Runs.{PlainEdge, run_edges}
use Rattle.plan_picture.specs.Texts.{IsTooLong, most_in_text, picture_text}
use Rattle.rule_picture.specs.Texts.{rules_text}
use Rattle.draw_command.specs.Words.{PictureForm, PictureWords, as_graph, as_graph_with, as_page, as_page_with, as_rules}
use Rattle.sexpr_text.specs.declared.faults.FaultKind.TheVariants.{BadNumber}
use Rattle.sexpr_text.specs.declared.faults.InputFault.{InputFault}
use Rattle.task_core.specs.Initials.{HasTooManyInitial}

-- how many configurations a picture may show as a text in the DOT language, and on a page
abbrev pub most_shown : ℕ
most_shown = 400

abbrev pub most_on_page : ℕ
most_on_page = 20000

abbrev pub most_for : PictureForm → ℕ
most_for as_graph = most_shown
most_for (as_graph_with file) = most_shown
most_for as_rules = most_shown
most_for as_page = most_on_page
most_for (as_page_with file) = most_on_page

-- the text of a picture in this form, on which a run with these edges is shown, or which is handed an
-- explanation
abbrev pub shown_text : PictureForm → List Name → List Name → System → PlainPlan → List PlainNode
    → Option PlainExplanation → List PlainEdge → List ℕ
shown_text as_graph fluents actions sys plan nodes explanation edges =
    picture_text fluents actions plan nodes edges
shown_text (as_graph_with file) fluents actions sys plan nodes explanation edges =
    picture_text fluents actions plan nodes edges
shown_text as_rules fluents actions sys plan nodes explanation edges =
    rules_text fluents actions plan nodes
shown_text as_page fluents actions sys plan nodes explanation edges =
    page_of fluents actions sys plan nodes explanation
shown_text (as_page_with file) fluents actions sys plan nodes explanation edges =
    page_of fluents actions sys plan nodes explanation

-- a text in this form isn't shown: it is too long, or, state by state, has a name that is
abbrev pub IsLongFor : PictureForm → (fluents actions : List Name) → List ℕ → Type 0
IsLongFor as_graph fluents actions text = IsTooLong fluents actions text
IsLongFor (as_graph_with file) fluents actions text = IsTooLong fluents actions text
IsLongFor as_rules fluents actions text = most_in_text < length text
IsLongFor as_page fluents actions text = most_in_text < length text
IsLongFor (as_page_with file) fluents actions text = most_in_text < length text

-- a text in this form is shown, or refused since it is too long
abbrev pub ShowsText : PictureForm → (fluents actions : List Name) → List ℕ → Answer → Type 0
ShowsText form fluents actions text answer =
    (IsLongFor form fluents actions text × (answer ≡ refused (over_limit (codes "file"))))
    ⊎ ((IsLongFor form fluents actions text → ⊥) × (answer ≡ affirmed text))

-- the name of the file of the explanation, where there is one
abbrev pub file_of : PictureForm → Bytes
file_of as_graph = []
file_of (as_graph_with file) = file
file_of as_rules = []
file_of as_page = []
file_of (as_page_with file) = file

-- the edges of the run that an explanation shows, if the plan has it in the picture with these nodes
abbrev pub edges_of : PlainPlan → List PlainNode → Option PlainShownRun → Option (List PlainEdge)
edges_of plan nodes None = Some []
edges_of plan nodes (Some shown) = run_edges plan nodes shown.run

abbrev pub edges_told : PlainPlan → List PlainNode → Option PlainExplanation → Option (List PlainEdge)
edges_told plan nodes None = Some []
edges_told plan nodes (Some explanation) = edges_of plan nodes explanation.shown

-- a number of the explanation in the file of this name is none of the picture
abbrev pub IsStray : Bytes → Answer → Type 0
IsStray name answer =
    (fault : InputFault) × (fault.kind ≡ BadNumber) × (answer ≡ refused (text_fault name fault))

-- the plan has no run that the explanation shows, or has it, and the text is shown
abbrev pub ShowsEdges : PictureForm → (fluents actions : List Name) → System → PlainPlan
    → List PlainNode → Option PlainExplanation → Answer → Type 0
ShowsEdges form fluents actions sys plan nodes explanation answer =
    MatchOption (edges_told plan nodes explanation) (IsStray (file_of form) answer)
    (λ edges. ShowsText form fluents actions
    (shown_text form fluents actions sys plan nodes explanation edges) answer)

-- the text of the picture of a plan is shown: a node for exactly each configuration that it may
-- reach, and an edge for exactly each step that it may take there; rule by rule those of a rule are one
pub record ShowsPicture (form : PictureForm) (fluents actions : List Name) (sys : System)
    (plan : PlainPlan) (explanation : Option PlainExplanation) (answer : Answer) : Type 0 where
  pub nodes : List PlainNode
  pub picture : IsPictureOf sys plan nodes
  pub shown : ShowsEdges form fluents actions sys plan nodes explanation answer

-- there are too many initial states (`TooMany`); or not, but the plan may reach more configurations
-- than are shown at most; or there comes what Then says
abbrev pub DrawThen : Type 0 → ℕ → System → PlainPlan → (Answer → Type 0) → Answer → Type 0
DrawThen TooMany most sys plan Then answer =
    (TooMany × (answer ≡ refused (over_limit (codes "initial"))))
    ⊎ ((TooMany → ⊥) × ReachesMoreThan sys plan most
    × (answer ≡ refused (over_limit (codes "configurations"))))
    ⊎ Then answer

-- the bytes of the file of this name tell no explanation
abbrev pub IsFaultyExplanation : Bytes → Bytes → Refusal → Type 0
IsFaultyExplanation name bytes refusal =
    (fault : InputFault) × HasExplanationFault bytes fault × (refusal ≡ text_fault name fault)

-- the explanation in the file of this name is read, and then comes what Then says of it
abbrev pub ExplanationThen : (Bytes → Held) → (Bytes → Type 0) → Bytes
    → (Option PlainExplanation → Answer → Type 0) → Answer → Type 0
ExplanationThen held failed file Then =
    ReadThen held failed file TellsExplanation IsFaultyExplanation
    (λ (explanation : PlainExplanation). Then (Some explanation))

-- the explanation is read, where there is one, and then comes what Then says of it
abbrev pub RunThen : (Bytes → Held) → (Bytes → Type 0) → PictureForm
    → (Option PlainExplanation → Answer → Type 0) → Answer → Type 0
RunThen held failed as_graph Then = Then None
RunThen held failed (as_graph_with file) Then = ExplanationThen held failed file Then
RunThen held failed as_rules Then = Then None
RunThen held failed as_page Then = Then None
RunThen held failed (as_page_with file) Then = ExplanationThen held failed file Then

-- Private: what follows for a task once the plan and the explanation are read
abbrev pub DrawnOf : PictureWords → ProblemTree → Task → PlainPlan
    → Option PlainExplanation → Answer → Type 0
DrawnOf asked problem task plan explanation =
    DrawThen (HasTooManyInitial task most_followed) (most_for asked.form) (system_of task) plan
    (InitialThen (empty_init asked.problem problem) (initial_states task)
    (ShowsPicture asked.form (fluents_in task) (actions_in task) (system_of task) plan explanation))

-- Private: and before, once a task is at hand
abbrev pub TaskThen : (Bytes → Held) → (Bytes → Type 0) → PictureWords → ProblemTree → Task → Answer
    → Type 0
TaskThen held failed asked problem task =
    ReadThen held failed asked.plan (SpellsPlaced (fluents_in task) (actions_in task))
    (IsFaultyPlan (fluents_in task) (actions_in task))
    (λ placed. RunThen held failed asked.form (DrawnOf asked problem task placed.plan))

-- what follows once the plan and the explanation are read: the plan is followed; there is no initial state, or
-- there is one, and the picture is shown
abbrev pub DrawnThen : PictureWords → DomainTree → ProblemTree → PlacedPlan
    → Option PlainExplanation → Answer → Type 0
DrawnThen asked domain problem placed explanation =
    DrawThen (HasTooManyStates domain problem) (most_for asked.form) (system domain problem)
    placed.plan
    (InitialThen (empty_init asked.problem problem) (system domain problem).initial
    (ShowsPicture asked.form (fluent_names domain problem) (action_names domain problem)
    (system domain problem) placed.plan explanation))

-- what follows once both are read and within the limits: the plan is read, the explanation, and it is drawn
abbrev pub PictureThen : (Bytes → Held) → (Bytes → Type 0) → PictureWords → DomainTree
    → ProblemTree → Answer → Type 0
PictureThen held failed asked domain problem =
    ReadThen held failed asked.plan
    (SpellsPlaced (fluent_names domain problem) (action_names domain problem))
    (IsFaultyPlan (fluent_names domain problem) (action_names domain problem))
    (λ placed. RunThen held failed asked.form (DrawnThen asked domain problem placed))

-- what follows once both are read
abbrev pub IsPictured : (Bytes → Held) → (Bytes → Type 0) → PictureWords → DomainTree
    → ProblemTree → Answer → Type 0
IsPictured held failed asked domain problem =
    GroundThen domain problem (PictureThen held failed asked domain problem)

-- the answer
abbrev pub IsPictureAnswer : (Bytes → Held) → (Bytes → Type 0) → PictureWords → Answer → Type 0
IsPictureAnswer held failed asked =
    ReadBoth held failed asked.domain asked.problem (IsPictured held failed asked)
