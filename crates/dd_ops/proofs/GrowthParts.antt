-- Subfunctions of a choice, and parts of pieces.
use Rattle.std.proofs.Common.{◌≡◌, ℕ, zero, suc, ◌<◌, Bool, cond, List, [], ◌∷◌, refl, sym, subst, arith}
use Rattle.dd_nodes.specs.NodeList.{Values, with_value}
use Rattle.dd_nodes.specs.Subfunctions.{Function, DependsOnly, IsSubfunction}
use Rattle.dd_nodes.proofs.Dependence.{sub_at, sub_chain, sub_same}
use Rattle.dd_ops.specs.Operations.{ite_of}
use Rattle.dd_ops.specs.Growth.{IsPart}

pub depends_ite : (low vars : ℕ) (f g h : Function) → DependsOnly low vars f → DependsOnly low vars g → DependsOnly low vars h → DependsOnly low vars (ite_of f g h)
depends_ite low vars f g h of_f of_g of_h s t agree = λ i. cond (of_f s t agree i) (of_g s t agree i) (of_h s t agree i)

module _ (vars : ℕ) where
  -- the same of a choice whose three functions each become another where v is fixed
  pub sub_ite : (v : ℕ) (b : Bool) (f g h f' g' h' : Function) → v < vars → DependsOnly v vars f → DependsOnly v vars g → DependsOnly v vars h
      → ((values : Values) → f' values ≡ f (with_value values v b)) → ((values : Values) → g' values ≡ g (with_value values v b)) → ((values : Values) → h' values ≡ h (with_value values v b))
      → IsSubfunction vars (ite_of f g h) (ite_of f' g' h')
  sub_ite v b f g h f' g' h' within of_f of_g of_h same_f same_g same_h =
      sub_at vars v b (ite_of f g h) (ite_of f' g' h') within (depends_ite v vars f g h of_f of_g of_h)
      (λ values i. cond (same_f values i) (same_g values i) (same_h values i))

  -- a subfunction of a part is a part
  pub part_chain : (pieces : List Function) (f g : Function) → IsPart vars pieces f → IsSubfunction vars f g → IsPart vars pieces g
  part_chain pieces f g part sub = (part.0, part.1, part.2, part.3, sub_chain vars part.1 f g part.4 sub)

  -- a function that equals a part is one
  pub part_same : (pieces : List Function) (f g : Function) → ((values : Values) → g values ≡ f values) → IsPart vars pieces f → IsPart vars pieces g
  part_same pieces f g same part = part_chain pieces f g part (sub_same vars f g same)

  -- the parts of one piece
  pub part_only : (piece g : Function) → IsSubfunction vars piece g → IsPart vars (piece ∷ []) g
  part_only piece g sub = (0, piece, omega arith, refl, sub)

  pub part_of_only : (piece g : Function) → IsPart vars (piece ∷ []) g → IsSubfunction vars piece g
  part_of_only piece g (zero, x, within, at, sub) = subst (λ y. IsSubfunction vars y g) (sym at) sub
  part_of_only piece g (suc k, x, within, at, sub) = absurd (omega arith)
