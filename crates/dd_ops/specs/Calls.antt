-- What a call of `Ops` answers, and what it leaves.
use Rattle.std.specs.Prelude.{◌≡◌, ℕ, ◌≤◌, length, Result, IfOk, IfErr}
use Rattle.dd_nodes.specs.declared.node.DdErr.{DdErr}
use Rattle.dd_nodes.specs.declared.node.DdErr.TheVariants.{Full}
use Rattle.dd_nodes.specs.declared.node.Ref.{Ref}
use Rattle.dd_nodes.specs.NodeList.{IsNumber, Extends, function}
use Rattle.dd_nodes.specs.Subfunctions.{Function}
use Rattle.dd_nodes.specs.Table.{NodeTable, IsNodeTable}

-- a call answers a number of the table that has the wanted function, and is refused only where the
-- table is full, as it wants no memory; whether it answers or refuses, it leaves a table, with the variables, the limit and each earlier node as they were, and so each
-- earlier number and its function
pub record Answers (wanted : Function) (before after : NodeTable)
    (result : Result Ref DdErr) : Type 0 where
  pub value : IfOk result (λ r. function after.nodes r.0 ≡ wanted)
  pub in_table : IfOk result (λ r. IsNumber after.nodes r.0)
  pub only_full : IfErr result (λ e. e ≡ Full)
  pub table : IsNodeTable after
  pub vars : after.vars ≡ before.vars
  pub limit : after.limit ≡ before.limit
  pub nodes : Extends before.nodes after.nodes
  pub longer : length before.nodes ≤ length after.nodes
  pub earlier : (n : ℕ) → IsNumber before.nodes n → function after.nodes n ≡ function before.nodes n
