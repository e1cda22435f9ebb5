-- The flaws of goals in computation tree logic stand in the order of the text.
use Rattle.std.proofs.Common.{ℕ, ◌+◌, ◌-◌, ◌≤◌, ◌==◌, [], ◌∷◌, ◌++◌, arith}
use Rattle.sexpr_text.specs.declared.forms.Span.{Span}
use Rattle.sexpr_text.specs.declared.faults.FaultKind.TheVariants.{BadForm, QuantifiedGoal}
use Rattle.sexpr_text.specs.Forest.{Forest, nothing, word, group}
use Rattle.sexpr_text.specs.Formed.{IsRising}
use Rattle.sexpr_text.specs.Flaws.{IsInOrder, flaw_at}
use Rattle.sexpr_text.proofs.FlawLaws.{in_order-from, in_order-append}
use Rattle.pddl_ast.specs.Known.{Known}
use Rattle.pddl_ast.specs.Atoms.{count}
use Rattle.pddl_ast.specs.Formulas.{bad_list}
use Rattle.pddl_ast.specs.Goals.{quantifies_operator, plain_flaws, temporals_flaws, temporal_flaws}
use Rattle.pddl_ast.proofs.Orders.{either, at_form}
use Rattle.pddl_ast.proofs.TreeOrders.{at_list, within, formula-in_order}
use Rattle.pddl_ast.proofs.GoalCases.{temporal_cases}

mutual
  pub temporals-in_order : (known : Known) (row : Forest) (lo hi : ℕ) → IsRising lo hi row → IsInOrder lo hi (temporals_flaws known row)
  temporals-in_order known nothing lo hi h = h
  temporals-in_order known (word span w rest) lo hi (a, b, c, d, e) =
      at_form lo hi span BadForm (temporals_flaws known rest) a b (temporals-in_order known rest span.end hi e)
  temporals-in_order known (group span parts rest) lo hi (a, b, c, d) =
      in_order-from lo span.start hi (temporal_flaws known parts span ++ temporals_flaws known rest) a
      (in_order-append span.start span.end hi (temporal_flaws known parts span) (temporals_flaws known rest)
      (temporal-in_order known parts span b c) (temporals-in_order known rest span.end hi d))

  pub temporal-in_order : (known : Known) (parts : Forest) (span : Span) → span.start + 2 ≤ span.end
      → IsRising (span.start + 1) (span.end - 1) parts → IsInOrder span.start span.end (temporal_flaws known parts span)
  temporal-in_order known nothing span h r = omega arith
  temporal-in_order known (group inner parts rest) span h r = at_list span h
  temporal-in_order known (word head w parts) span h (a, b, c, d, e) =
      let row : IsInOrder span.start span.end (temporals_flaws known parts)
      = within span head.end (temporals_flaws known parts) (omega arith) (temporals-in_order known parts head.end (span.end - 1) e) in
      let bad : IsInOrder span.start span.end (bad_list span) = at_list span h in
      let one = either span.start span.end (temporals_flaws known parts) (bad_list span) (count parts == 1) row bad in
      let two = either span.start span.end (temporals_flaws known parts) (bad_list span) (count parts == 2) row bad in
      let plain : IsInOrder span.start span.end (plain_flaws known (word head w parts) span)
      = formula-in_order known (word head w parts) span [] h (a, b, c, d, e) in
      let quantified : IsInOrder span.start span.end (flaw_at span QuantifiedGoal ∷ []) = (omega arith, omega arith) in
      temporal_cases (λ flaws tree. IsInOrder span.start span.end flaws) known span head w parts
      (λ operator. one) (λ operator. two) row row one two
      (either span.start span.end (flaw_at span QuantifiedGoal ∷ []) (plain_flaws known (word head w parts) span) (quantifies_operator parts) quantified plain)
      plain
