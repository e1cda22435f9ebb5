-- What the steps within a substitution add and lack.
use Rattle.std.proofs.Common.{List, None, Option, Some, arith, false, is_some, refl, subst, ℕ, ◌<◌, ◌^◌, ◌≡◌, ◌≤◌}
use Rattle.std.specs.List.{All}
use Rattle.std.specs.Option.{option_map_or}
use Rattle.dd_nodes.specs.declared.node.Node.{Node}
use Rattle.dd_nodes.specs.declared.node.Ref.{Ref}
use Rattle.dd_nodes.specs.NodeList.{Values, IsNumber, node_at, function, IsReduced, Extends}
use Rattle.dd_nodes.proofs.NodeLemmas.{node_place}
use Rattle.dd_nodes.proofs.Extending.{extends_function}
use Rattle.dd_ops.specs.Answers.{AreNumbers}
use Rattle.dd_ops.specs.Operations.{listed, variable, replaced, subst_of}
use Rattle.dd_ops.specs.Growth.{grow, IsPart, AddsParts, LacksPart, subst_pieces, pieces_of_subst}
use Rattle.dd_nodes.proofs.Dependence.{sub_self, sub_hi, sub_lo, depends_number}
use Rattle.dd_ops.proofs.GrowthSteps.{adds_weaker, lacks_weaker}
use Rattle.dd_ops.proofs.GrowthSubst.{grow_subst, part_result, part_variable, sees_variable, subst_pieces_sub}

module _ (vars : ℕ) where
  -- replacements have the same functions in a longer list, and so a substitution has the same
  -- pieces
  pub replaced_kept : (before after : List Node) → IsReduced vars before → Extends before after → (entries : List (ℕ × Ref)) → AreNumbers before entries
      → (values : Values) (v : ℕ) → replaced after entries values v ≡ replaced before entries values v
  replaced_kept before after reduced extends entries numbers values v = by (listed entries v) (numbers v)
    where
      by : (o : Option Ref) → ((g : Ref) → o ≡ Some g → IsNumber before g.0)
          → option_map_or (λ (g : Ref). function after g.0 values) o (values v) ≡ option_map_or (λ (g : Ref). function before g.0 values) o (values v)
      by None number = refl
      by (Some g) number = λ i. extends_function before after extends vars reduced g.0 (number g refl) i values

  pub pieces_kept : (before after : List Node) → IsReduced vars before → Extends before after → (entries : List (ℕ × Ref)) → AreNumbers before entries
      → (n : ℕ) → IsNumber before n → pieces_of_subst vars after entries n ≡ pieces_of_subst vars before entries n
  pieces_kept before after reduced extends entries numbers n number =
      λ i. subst_pieces vars (extends_function before after extends vars reduced n number i) (λ v. is_some (listed entries v))
      (λ values v. replaced_kept before after reduced extends entries numbers values v i)

  module _ (nodes : List Node) (reduced : IsReduced vars nodes) (entries : List (ℕ × Ref)) where
    -- a substitution in a number adds at most the square of the number of states
    pub grow_of_subst : (n : ℕ) → grow vars nodes (pieces_of_subst vars nodes entries n) ≤ 4 ^ vars
    grow_of_subst n = grow_subst vars nodes (function nodes n) (λ v. is_some (listed entries v)) (replaced nodes entries) (depends_number vars nodes reduced n)

    -- the result is a part
    pub result_part : (n : ℕ) → IsPart vars (pieces_of_subst vars nodes entries n) (subst_of nodes entries (function nodes n))
    result_part n = part_result vars (function nodes n) (λ v. is_some (listed entries v)) (replaced nodes entries) (function nodes n) (sub_self vars (function nodes n))

    module _ (n : ℕ) (node : Node) (there : node_at nodes n ≡ Some node) where
      -- and so is the node's variable, unless it is listed
      pub variable_part : is_some (listed entries node.var) ≡ false → IsPart vars (pieces_of_subst vars nodes entries n) (variable node.var)
      variable_part unlisted = part_variable vars (function nodes n) (λ v. is_some (listed entries v)) (replaced nodes entries) node.var
          (reduced.in_range n node there)
          (sees_variable vars nodes reduced (function nodes n) (depends_number vars nodes reduced n) n node there (sub_self vars (function nodes n)))
          unlisted

      -- the pieces of the substitution in a child are parts
      pub hi_parts : All (λ piece. IsPart vars (pieces_of_subst vars nodes entries n) piece) (pieces_of_subst vars nodes entries node.hi.0)
      hi_parts = subst_pieces_sub vars (function nodes n) (function nodes node.hi.0) (λ v. is_some (listed entries v)) (replaced nodes entries)
          (depends_number vars nodes reduced n) (sub_hi vars nodes reduced n node there)

      pub lo_parts : All (λ piece. IsPart vars (pieces_of_subst vars nodes entries n) piece) (pieces_of_subst vars nodes entries node.lo.0)
      lo_parts = subst_pieces_sub vars (function nodes n) (function nodes node.lo.0) (λ v. is_some (listed entries v)) (replaced nodes entries)
          (depends_number vars nodes reduced n) (sub_lo vars nodes reduced n node there)

      -- so what the substitution in a child adds or lacks, in a list that maybe became longer, the
      -- substitution in the node does
      module _ (numbers : AreNumbers nodes entries) (before after : List Node) (extends : Extends nodes before) where
        pub hi_adds : AddsParts vars (pieces_of_subst vars before entries node.hi.0) before after → AddsParts vars (pieces_of_subst vars nodes entries n) before after
        hi_adds adds =
            let place = node_place nodes n node there in
            let within = place.1 in
            let lower : node.hi.0 < n = reduced.hi_before n node there in
            adds_weaker vars (pieces_of_subst vars nodes entries n) (pieces_of_subst vars nodes entries node.hi.0) hi_parts before after
            (subst (λ pieces. AddsParts vars pieces before after) (pieces_kept nodes before reduced extends entries numbers node.hi.0 (omega arith)) adds)

        pub lo_adds : AddsParts vars (pieces_of_subst vars before entries node.lo.0) before after → AddsParts vars (pieces_of_subst vars nodes entries n) before after
        lo_adds adds =
            let place = node_place nodes n node there in
            let within = place.1 in
            let lower : node.lo.0 < n = reduced.lo_before n node there in
            adds_weaker vars (pieces_of_subst vars nodes entries n) (pieces_of_subst vars nodes entries node.lo.0) lo_parts before after
            (subst (λ pieces. AddsParts vars pieces before after) (pieces_kept nodes before reduced extends entries numbers node.lo.0 (omega arith)) adds)

        pub hi_lacks : LacksPart vars (pieces_of_subst vars before entries node.hi.0) after → LacksPart vars (pieces_of_subst vars nodes entries n) after
        hi_lacks lacks =
            let place = node_place nodes n node there in
            let within = place.1 in
            let lower : node.hi.0 < n = reduced.hi_before n node there in
            lacks_weaker vars (pieces_of_subst vars nodes entries n) (pieces_of_subst vars nodes entries node.hi.0) hi_parts after
            (subst (λ pieces. LacksPart vars pieces after) (pieces_kept nodes before reduced extends entries numbers node.hi.0 (omega arith)) lacks)

        pub lo_lacks : LacksPart vars (pieces_of_subst vars before entries node.lo.0) after → LacksPart vars (pieces_of_subst vars nodes entries n) after
        lo_lacks lacks =
            let place = node_place nodes n node there in
            let within = place.1 in
            let lower : node.lo.0 < n = reduced.lo_before n node there in
            lacks_weaker vars (pieces_of_subst vars nodes entries n) (pieces_of_subst vars nodes entries node.lo.0) lo_parts after
            (subst (λ pieces. LacksPart vars pieces after) (pieces_kept nodes before reduced extends entries numbers node.lo.0 (omega arith)) lacks)
