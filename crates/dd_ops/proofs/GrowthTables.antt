-- One call of a table after another.
use Rattle.std.proofs.Common.{◌≡◌, ℕ, zero, suc, List, [], ◌∷◌, length, slice_index_or, ◌<◌, refl, sym, subst, arith}
use Rattle.std.specs.List.{All}
use Rattle.dd_nodes.specs.Subfunctions.{Function}
use Rattle.dd_nodes.specs.Table.{NodeTable}
use Rattle.dd_ops.specs.Answers.{IsFullFor}
use Rattle.dd_ops.specs.Growth.{IsPart, AddsParts}
use Rattle.dd_nodes.proofs.Dependence.{sub_self}
use Rattle.dd_ops.proofs.GrowthSteps.{adds_chain, adds_weaker, lacks_weaker}

-- pieces that are parts of other pieces
abbrev pub AreParts : ℕ → List Function → List Function → Type 0
AreParts vars pieces others = All (λ part. IsPart vars pieces part) others

pub one_part : (vars : ℕ) (pieces : List Function) (part : Function) → IsPart vars pieces part → AreParts vars pieces (part ∷ [])
one_part vars pieces part is_part zero d within = is_part
one_part vars pieces part is_part (suc k) d within = absurd (omega arith)

-- what the first call adds for parts is added for the pieces
pub adds_first : (pieces others : List Function) (a b : NodeTable) → AreParts a.vars pieces others → AddsParts a.vars others a.nodes b.nodes → AddsParts a.vars pieces a.nodes b.nodes
adds_first pieces others a b parts adds = adds_weaker a.vars pieces others parts a.nodes b.nodes adds

-- and what a later call adds
pub adds_then : (pieces others : List Function) (a b c : NodeTable) → AddsParts a.vars pieces a.nodes b.nodes → b.vars ≡ a.vars → AreParts a.vars pieces others
    → AddsParts b.vars others b.nodes c.nodes → AddsParts a.vars pieces a.nodes c.nodes
adds_then pieces others a b c first same parts second = adds_chain a.vars pieces a.nodes b.nodes c.nodes first
    (adds_weaker a.vars pieces others parts b.nodes c.nodes (subst (λ v. AddsParts v others b.nodes c.nodes) same second))

-- a table that is full for parts is full for the pieces
pub full_parts : (pieces others : List Function) (a t : NodeTable) → t.vars ≡ a.vars → AreParts a.vars pieces others → IsFullFor others t → IsFullFor pieces t
full_parts pieces others a t same parts full = record {
  at_limit = full.at_limit;
  lacks = lacks_weaker t.vars pieces others (subst (λ v. AreParts v pieces others) (sym same) parts) t.nodes full.lacks;
}

-- each piece is a part of the pieces
pub own_parts : (vars : ℕ) (pieces : List Function) → AreParts vars pieces pieces
own_parts vars pieces k d within = (k, slice_index_or pieces k d, within, within_same pieces k d (slice_index_or pieces k d) within, sub_self vars (slice_index_or pieces k d))
  where
    within_same : {X : Type 0} (xs : List X) (k : ℕ) (d e : X) → k < length xs → slice_index_or xs k e ≡ slice_index_or xs k d
    within_same [] k d e within = absurd (omega arith)
    within_same (x ∷ xs) zero d e within = refl
    within_same (x ∷ xs) (suc k) d e within = within_same xs k d e (omega arith)
