-- The text of what is shown is that of a picture.
use Rattle.std.proofs.Common.{◌≡◌, ◌∙◌, ℕ, Bool, List, ◌++◌, codes, map, length, ap, sym}
use Rattle.plan_rules.specs.Texts.{line_feed}
use Rattle.plan_picture.specs.Labels.{bytes_of, is_marked, line_of_node, line_of_step, lines_from, text_of_shown}
use Rattle.plan_picture.specs.Pictures.{PlainStep}
use Rattle.plan_picture.specs.Texts.{graph_text, node_line, numbered, step_line, step_lines}
use Rattle.plan_picture.specs.Values.{node_value, step_value}
use Rattle.plan_picture.specs.declared.pictures.Node.{Node}
use Rattle.plan_picture.specs.declared.pictures.Step.{Step}
use Rattle.plan_picture.specs.declared.text.Shown.{Shown}
use Rattle.plan_picture.proofs.Numbered.{flat_map_map, flat_map_same, numbered_map, numbered_same}

module _ (shown : Shown) (n : ℕ) (nodes : List Node) (fluents actions : List (List ℕ)) (marked : ℕ → PlainStep → Bool)
    (many : length shown.labels.now.fluents.items ≡ n) (names : bytes_of shown.labels.now.fluents.items ≡ fluents) (others : bytes_of shown.labels.now.actions.items ≡ actions)
    (marks : (number : ℕ) (step : PlainStep) → is_marked shown.marks.now.keys number step ≡ marked number step) where
  nodes_are : numbered (line_of_node shown) 0 nodes ≡ numbered (node_line shown.tells_contexts fluents) 0 (map (node_value n) nodes)
  nodes_are =
      ap (λ (labels : List (List ℕ)). numbered (λ i x. node_line shown.tells_contexts labels i (node_value (length shown.labels.now.fluents.items) x)) 0 nodes) names
      ∙ ap (λ k. numbered (λ i x. node_line shown.tells_contexts fluents i (node_value k x)) 0 nodes) many
      ∙ sym (numbered_map (node_line shown.tells_contexts fluents) (node_value n) 0 nodes)

  step_is : (number : ℕ) (step : Step) → line_of_step shown number step ≡ step_line actions (marked number (step_value step)) number (step_value step)
  step_is number step =
      ap (λ (labels : List (List ℕ)). step_line labels (is_marked shown.marks.now.keys number (step_value step)) number (step_value step)) others
      ∙ ap (λ b. step_line actions b number (step_value step)) (marks number (step_value step))

  steps_are : (number : ℕ) (node : Node) → lines_from shown number node ≡ step_lines actions marked number (node_value n node)
  steps_are number node =
      flat_map_same (line_of_step shown number) (λ step. step_line actions (marked number (step_value step)) number (step_value step)) (step_is number) node.steps.items
      ∙ sym (flat_map_map (λ step. step_line actions (marked number step) number step) step_value node.steps.items)

  all_steps_are : numbered (lines_from shown) 0 nodes ≡ numbered (step_lines actions marked) 0 (map (node_value n) nodes)
  all_steps_are =
      numbered_same (lines_from shown) (λ i x. step_lines actions marked i (node_value n x)) steps_are 0 nodes
      ∙ sym (numbered_map (step_lines actions marked) (node_value n) 0 nodes)

  pub text_is : text_of_shown shown nodes ≡ graph_text shown.tells_contexts fluents actions marked (map (node_value n) nodes)
  text_is =
      ap (λ (rest : List ℕ). codes "digraph plan {" ++ line_feed ++ rest ++ numbered (lines_from shown) 0 nodes ++ codes "}" ++ line_feed) nodes_are
      ∙ ap (λ (rest : List ℕ). codes "digraph plan {" ++ line_feed ++ numbered (node_line shown.tells_contexts fluents) 0 (map (node_value n) nodes) ++ rest ++ codes "}" ++ line_feed) all_steps_are
