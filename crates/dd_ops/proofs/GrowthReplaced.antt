-- What the substitutions in a node's children add and lack, the substitution in the node does.
use Rattle.std.proofs.Common.{◌≡◌, ℕ, ◌<◌, Bool, true, false, cond, List, [], ◌∷◌, Some, is_some, refl, sym, ap, subst, ◌∙◌, arith, if◌then◌else◌, None, Option}
use Rattle.std.proofs.lemmas.List.Elements.{All-nil}
use Rattle.dd_nodes.specs.declared.node.Node.{Node}
use Rattle.dd_nodes.specs.declared.node.Ref.{Ref}
use Rattle.dd_nodes.specs.NodeList.{Values, IsNumber, node_at, function}
use Rattle.dd_nodes.specs.Subfunctions.{Function}
use Rattle.dd_nodes.specs.Table.{NodeTable, IsNodeTable}
use Rattle.dd_nodes.proofs.NodeLemmas.{node_place, function_node}
use Rattle.dd_nodes.proofs.Extending.{extends_function}
use Rattle.dd_ops.specs.Operations.{variable, listed, replaced, subst_of}
use Rattle.dd_ops.specs.Answers.{AreNumbers, IsReplaced, Keeps, IsFullFor, pieces_of_variable, asked_of}
use Rattle.dd_ops.specs.Growth.{IsPart, AddsParts, pieces_of_subst}
use Rattle.dd_ops.proofs.GrowthSubstSteps.{pieces_kept, result_part, variable_part, hi_parts, lo_parts}
use Rattle.dd_ops.proofs.GrowthTables.{AreParts, one_part, own_parts, adds_first, adds_then, full_parts}

-- a variable that is not listed is its own piece
pub unlisted_pieces : (map : List (ℕ × Ref)) (v : ℕ) → listed map v ≡ None → variable v ∷ [] ≡ pieces_of_variable map v
unlisted_pieces map v none = ap (λ (o : Option Ref). if is_some o then [] else variable v ∷ []) (sym none)

module _ (map : List (ℕ × Ref)) where
  -- the pieces of the substitution in a number of a table
  abbrev pub pieces_in : NodeTable → ℕ → List Function
  pieces_in t n = pieces_of_subst t.vars t.nodes map n

  module _ (t0 : NodeTable) (table0 : IsNodeTable t0) (numbers : AreNumbers t0.nodes map) where
    -- a table that keeps the nodes has the same pieces
    pub pieces_later : (t1 : NodeTable) → Keeps t0 t1 → (n : ℕ) → IsNumber t0.nodes n → pieces_in t1 n ≡ pieces_in t0 n
    pieces_later t1 kept n number =
        ap (λ v. pieces_of_subst v t1.nodes map n) kept.vars
        ∙ pieces_kept t0.vars t0.nodes t1.nodes table0.reduced kept.nodes map numbers n number

    -- the substitution in a node of the table t0: that in the child lo leaves t1, and that in hi
    -- leaves t2
    module _ (f : ℕ) (node : Node) (there : node_at t0.nodes f ≡ Some node) where
      hi_number : IsNumber t0.nodes node.hi.0
      hi_number =
          let place : IsNumber t0.nodes f = (node_place t0.nodes f node there).1 in
          let lower : node.hi.0 < f = table0.reduced.hi_before f node there in
          omega arith

      module _ (t1 : NodeTable) (kept1 : Keeps t0 t1) where
        pub replaced_lo_adds : AddsParts t0.vars (pieces_of_subst t0.vars t0.nodes map node.lo.0) t0.nodes t1.nodes → AddsParts t0.vars (pieces_of_subst t0.vars t0.nodes map f) t0.nodes t1.nodes
        replaced_lo_adds adds = adds_first (pieces_in t0 f) (pieces_in t0 node.lo.0) t0 t1 (lo_parts t0.vars t0.nodes table0.reduced map f node there) adds

        pub replaced_lo_full : IsFullFor (pieces_of_subst t0.vars t0.nodes map node.lo.0) t1 → IsFullFor (pieces_of_subst t0.vars t0.nodes map f) t1
        replaced_lo_full full = full_parts (pieces_in t0 f) (pieces_in t0 node.lo.0) t0 t1 kept1.vars (lo_parts t0.vars t0.nodes table0.reduced map f node there) full

        hi_parts_later : AreParts t0.vars (pieces_in t0 f) (pieces_in t1 node.hi.0)
        hi_parts_later = subst (AreParts t0.vars (pieces_in t0 f)) (sym (pieces_later t1 kept1 node.hi.0 hi_number)) (hi_parts t0.vars t0.nodes table0.reduced map f node there)

        module _ (adds1 : AddsParts t0.vars (pieces_of_subst t0.vars t0.nodes map node.lo.0) t0.nodes t1.nodes) (t2 : NodeTable) (kept2 : Keeps t1 t2) where
          pub replaced_hi_adds : AddsParts t1.vars (pieces_of_subst t1.vars t1.nodes map node.hi.0) t1.nodes t2.nodes → AddsParts t0.vars (pieces_of_subst t0.vars t0.nodes map f) t0.nodes t2.nodes
          replaced_hi_adds adds = adds_then (pieces_in t0 f) (pieces_in t1 node.hi.0) t0 t1 t2 (replaced_lo_adds adds1) kept1.vars hi_parts_later adds

          pub replaced_hi_full : IsFullFor (pieces_of_subst t1.vars t1.nodes map node.hi.0) t2 → IsFullFor (pieces_of_subst t0.vars t0.nodes map f) t2
          replaced_hi_full full = full_parts (pieces_in t0 f) (pieces_in t1 node.hi.0) t0 t2 (kept2.vars ∙ kept1.vars) hi_parts_later full

          -- the substitution is completed from there, and that leaves t3
          module _ (adds2 : AddsParts t1.vars (pieces_of_subst t1.vars t1.nodes map node.hi.0) t1.nodes t2.nodes) where
            kept : Keeps t0 t2
            kept = let sum = replaced_hi_adds adds2 in record { vars = kept2.vars ∙ kept1.vars; limit = kept2.limit ∙ kept1.limit; nodes = sum.extends }

            same_parts : AreParts t0.vars (pieces_in t0 f) (pieces_in t2 f)
            same_parts = subst (AreParts t0.vars (pieces_in t0 f)) (sym (pieces_later t2 kept f (node_place t0.nodes f node there).1)) (own_parts t0.vars (pieces_in t0 f))

            pub replaced_rest_adds : (t3 : NodeTable) → AddsParts t2.vars (pieces_of_subst t2.vars t2.nodes map f) t2.nodes t3.nodes → AddsParts t0.vars (pieces_of_subst t0.vars t0.nodes map f) t0.nodes t3.nodes
            replaced_rest_adds t3 adds = adds_then (pieces_in t0 f) (pieces_in t2 f) t0 t2 t3 (replaced_hi_adds adds2) (kept2.vars ∙ kept1.vars) same_parts adds

            pub replaced_rest_full : (t3 : NodeTable) → t3.vars ≡ t2.vars → IsFullFor (pieces_of_subst t2.vars t2.nodes map f) t3 → IsFullFor (pieces_of_subst t0.vars t0.nodes map f) t3
            replaced_rest_full t3 same full = full_parts (pieces_in t0 f) (pieces_in t2 f) t0 t3 (same ∙ kept2.vars ∙ kept1.vars) same_parts full

      -- the function that replaces the node's variable is made first, and that leaves t1; then the
      -- question on it and the children's answers is answered
      variable_parts : AreParts t0.vars (pieces_in t0 f) (pieces_of_variable map node.var)
      variable_parts = by (is_some (listed map node.var)) refl
        where
          by : (b : Bool) → is_some (listed map node.var) ≡ b → AreParts t0.vars (pieces_in t0 f) (if b then [] else variable node.var ∷ [])
          by true is_listed = All-nil (λ part. IsPart t0.vars (pieces_in t0 f) part)
          by false unlisted = one_part t0.vars (pieces_in t0 f) (variable node.var) (variable_part t0.vars t0.nodes table0.reduced map f node there unlisted)

      module _ (t1 : NodeTable) (kept1 : Keeps t0 t1) where
        pub variable_adds : AddsParts t0.vars (pieces_of_variable map node.var) t0.nodes t1.nodes → AddsParts t0.vars (pieces_of_subst t0.vars t0.nodes map f) t0.nodes t1.nodes
        variable_adds adds = adds_first (pieces_in t0 f) (pieces_of_variable map node.var) t0 t1 variable_parts adds

        pub variable_full : IsFullFor (pieces_of_variable map node.var) t1 → IsFullFor (pieces_of_subst t0.vars t0.nodes map f) t1
        variable_full full = full_parts (pieces_in t0 f) (pieces_of_variable map node.var) t0 t1 kept1.vars variable_parts full

        module _ (test hi lo : Ref) (value : (values : Values) → function t1.nodes test.0 values ≡ replaced t0.nodes map values node.var)
            (hi_is : IsReplaced t0.nodes map node.hi.0 hi.0) (lo_is : IsReplaced t0.nodes map node.lo.0 lo.0) where
          -- the question asks for the substitution's result
          asks_result : asked_of t1.nodes (record { f = test; g = hi; h = lo }) ≡ subst_of t0.nodes map (function t0.nodes f)
          asks_result = λ i values. (
              (λ j. cond (value values j)
              ((extends_function t0.nodes t1.nodes kept1.nodes t0.vars table0.reduced hi.0 hi_is.number ∙ hi_is.value) j values)
              ((extends_function t0.nodes t1.nodes kept1.nodes t0.vars table0.reduced lo.0 lo_is.number ∙ lo_is.value) j values))
              ∙ sym (function_node t0.nodes t0.vars table0.reduced f node (replaced t0.nodes map values) there)) i

          answer_parts : AreParts t0.vars (pieces_in t0 f) (asked_of t1.nodes (record { f = test; g = hi; h = lo }) ∷ [])
          answer_parts = subst (λ g. AreParts t0.vars (pieces_in t0 f) (g ∷ [])) (sym asks_result)
              (one_part t0.vars (pieces_in t0 f) (subst_of t0.nodes map (function t0.nodes f)) (result_part t0.vars t0.nodes table0.reduced map f))

          pub replaced_answer_adds : AddsParts t0.vars (pieces_of_variable map node.var) t0.nodes t1.nodes → (t2 : NodeTable)
              → AddsParts t1.vars (asked_of t1.nodes (record { f = test; g = hi; h = lo }) ∷ []) t1.nodes t2.nodes → AddsParts t0.vars (pieces_of_subst t0.vars t0.nodes map f) t0.nodes t2.nodes
          replaced_answer_adds adds1 t2 adds2 = adds_then (pieces_in t0 f) (asked_of t1.nodes (record { f = test; g = hi; h = lo }) ∷ []) t0 t1 t2 (variable_adds adds1) kept1.vars answer_parts adds2

          pub replaced_answer_full : (t2 : NodeTable) → t2.vars ≡ t1.vars → IsFullFor (asked_of t1.nodes (record { f = test; g = hi; h = lo }) ∷ []) t2 → IsFullFor (pieces_of_subst t0.vars t0.nodes map f) t2
          replaced_answer_full t2 same full = full_parts (pieces_in t0 f) (asked_of t1.nodes (record { f = test; g = hi; h = lo }) ∷ []) t0 t2 (same ∙ kept1.vars) answer_parts full
