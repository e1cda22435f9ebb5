-- What stays where one node list extends another.
use Rattle.std.proofs.Common.{◌≡◌, ℕ, List, [], ◌++◌, sym, ap, subst, ◌∙◌}
use Rattle.std.proofs.lemmas.List.{append-nil, append_assoc}
use Rattle.dd_nodes.specs.declared.node.Node.{Node}
use Rattle.dd_nodes.specs.NodeList.{IsNumber, node_at, function, StandsBelow, StandsFrom, IsReduced, Extends}
use Rattle.dd_nodes.proofs.Extension.{number_kept, node_at_kept, function_kept}

pub extends_same : (nodes : List Node) → Extends nodes nodes
extends_same nodes = record { more = []; appended = sym (append-nil nodes) }

pub extends_more : (a b c : List Node) → Extends a b → Extends b c → Extends a c
extends_more a b c first second = record {
  more = first.more ++ second.more;
  appended = second.appended ∙ ap (λ l. l ++ second.more) first.appended ∙ append_assoc a first.more second.more;
}

module _ (before after : List Node) (extends : Extends before after) where
  pub extends_number : (n : ℕ) → IsNumber before n → IsNumber after n
  extends_number n number = subst (λ l. IsNumber l n) (sym extends.appended) (number_kept before extends.more n number)

  pub extends_node : (n : ℕ) → IsNumber before n → node_at after n ≡ node_at before n
  extends_node n number = ap (λ l. node_at l n) extends.appended ∙ node_at_kept before extends.more n number

  pub extends_from : (v n : ℕ) → IsNumber before n → StandsFrom before v n → StandsFrom after v n
  extends_from v n number from node there = from node (sym (extends_node n number) ∙ there)

  pub extends_below : (v n : ℕ) → IsNumber before n → StandsBelow before v n → StandsBelow after v n
  extends_below v n number below node there = below node (sym (extends_node n number) ∙ there)

  pub extends_from_back : (v n : ℕ) → IsNumber before n → StandsFrom after v n → StandsFrom before v n
  extends_from_back v n number from node there = from node (extends_node n number ∙ there)

  pub extends_function : (vars : ℕ) → IsReduced vars before → (n : ℕ) → IsNumber before n → function after n ≡ function before n
  extends_function vars reduced n number =
      ap (λ l. function l n) extends.appended ∙ (λ i values. function_kept before extends.more vars reduced n number values i)
