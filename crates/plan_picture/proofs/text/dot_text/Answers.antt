use Rattle.std.proofs.Common.{◌≡◌, ◌<◌, ◌∙◌, ℕ, List, IfOk, ap, arith, inr, length, map, subst}
use Rattle.std.proofs.lemmas.List.{length-map}
use Rattle.std.specs.Prelude.{Vec}
use Rattle.std.specs.declared.alloc.Global.{Global}
use Rattle.task_core.specs.Names.{name_bytes}
use Rattle.task_core.specs.Tasks.{action_names, fluent_count, fluent_names}
use Rattle.plan_rules.specs.Rules.{PlainPlan, plain_of}
use Rattle.plan_picture.specs.Labels.{bytes_of, is_marked, text_of_shown}
use Rattle.plan_picture.specs.Pictures.{PlainStep}
use Rattle.plan_picture.specs.Texts.{graph_text, has_contexts, is_on, most_in_text, name_label, picture_text}
use Rattle.plan_picture.specs.Values.{edge_value, node_value}
use Rattle.plan_picture.specs.declared.pictures.Node.{Node}
use Rattle.plan_picture.specs.declared.runs.Edge.{Edge}
use Rattle.plan_picture.specs.declared.text.Shown.{Shown}
use Rattle.task_core.specs.declared.tasks.Task.{Task}
use Rattle.plan_picture.proofs.TextOfShown.{text_is}
use Rattle.plan_picture.proofs.text.dot_text.Goals as goal

-- the text of what is shown of a task and a plan is that of the picture
text_of_all : (shown : Shown) (task : Task) (plan : PlainPlan) (nodes : List Node) (edges : List Edge) (contexts : shown.tells_contexts ≡ has_contexts plan)
    (names : bytes_of shown.labels.now.fluents.items ≡ map name_label (fluent_names task)) (others : bytes_of shown.labels.now.actions.items ≡ map name_label (action_names task))
    (marks : (number : ℕ) (step : PlainStep) → is_marked shown.marks.now.keys number step ≡ is_on (map edge_value edges) number step)
    → text_of_shown shown nodes ≡ picture_text (fluent_names task) (action_names task) plan (map (node_value (fluent_count task)) nodes) (map edge_value edges)
text_of_all shown task plan nodes edges contexts names others marks =
    let labels = shown.labels.now.fluents.items in
    let bytes : Vec ℕ Global → List ℕ = λ label. label.items in
    let many : length labels ≡ fluent_count task =
    omega (arith, ap length names, length-map labels bytes, length-map (fluent_names task) name_label, length-map task.fluents.items name_bytes) in
    text_is shown (fluent_count task) nodes (map name_label (fluent_names task)) (map name_label (action_names task)) (is_on (map edge_value edges)) many names others marks
    ∙ ap (λ told. graph_text told (map name_label (fluent_names task)) (map name_label (action_names task)) (is_on (map edge_value edges)) (map (node_value (fluent_count task)) nodes)) contexts

pub returns-clause-text : goal.returns-clause-text
returns-clause-text c =
    let shown = c.new-shown.result in
    let all = text_of_all shown c.args.task.now (plain_of c.args.plan.now) c.args.picture.now.nodes.items c.args.edges.now c.new-shown.ensures.contexts
    (rw c.new-shown.ensures.labels c.in_ok-labels.ensures.fluents) (rw c.new-shown.ensures.labels c.in_ok-labels.ensures.actions) (rw c.new-shown.ensures.marks c.in_ok-marks.ensures) in
    subst (λ wanted. IfOk c.shown_text.result (λ text. text.items ≡ wanted)) all (rw c.deref.ensures.value at c.shown_text.ensures.text)

pub returns-clause-long : goal.returns-clause-long
returns-clause-long c = λ is.
    let shown = c.new-shown.result in
    let all = text_of_all shown c.args.task.now (plain_of c.args.plan.now) c.args.picture.now.nodes.items c.args.edges.now c.new-shown.ensures.contexts
    (rw c.new-shown.ensures.labels c.in_ok-labels.ensures.fluents) (rw c.new-shown.ensures.labels c.in_ok-labels.ensures.actions) (rw c.new-shown.ensures.marks c.in_ok-marks.ensures) in
    inr (subst (λ wanted. most_in_text < length wanted) all (rw c.deref.ensures.value at (c.shown_text.ensures.long is)))
