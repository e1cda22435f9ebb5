use Rattle.std.proofs.Common.{◌≡◌, ◌∙◌, ℕ, sym, ap, decimal, arith, rules}
use Rattle.std.specs.Prelude.{Some, None}
use Rattle.std.specs.ControlFlow.{continue_value}
use Rattle.std.specs.Result.{result_ok}
use Rattle.command_base.specs.Words.{IsNodeLimit}
use Rattle.command_base.proofs.NodeNumerals.{not_parsed, parsed_as}
use Rattle.pulgazer_top.proofs.requests.node_limit.Goals as goal

pub returns-in_err-number : goal.returns-in_err-number
returns-in_err-number c =
    let none : result_ok c.parse.result ≡ None = sym c.ok.ensures.value ∙ c.branch-number.ensures ∙ ap continue_value c.in_err-number.is in
    let bad : (n : ℕ) → IsNodeLimit n → c.args.word.now ≡ decimal n → ⊥ = λ n limit is. not_parsed c.args.word.now c.parse.result n c.parse.ensures.value.0 none limit.1 is in
    search (rules, bad)

pub returns-then-not-is_node_limit : goal.returns-then-not-is_node_limit
returns-then-not-is_node_limit c n limit is =
    let some : result_ok c.parse.result ≡ Some c.in_ok-number.number = sym c.ok.ensures.value ∙ c.branch-number.ensures ∙ ap continue_value c.in_ok-number.is in
    let same = parsed_as c.args.word.now c.parse.result c.in_ok-number.number n c.parse.ensures.value.0 some limit.1 is in
    let least = limit.0 in
    let most = limit.1 in
    grind (arith, same, least, most, c.is_node_limit.ensures, c.if-not-is_node_limit.ensures)

pub returns-then-not-is_decimal_of : goal.returns-then-not-is_decimal_of
returns-then-not-is_decimal_of c n limit is =
    let some : result_ok c.parse.result ≡ Some c.in_ok-number.number = sym c.ok.ensures.value ∙ c.branch-number.ensures ∙ ap continue_value c.in_ok-number.is in
    let same = parsed_as c.args.word.now c.parse.result c.in_ok-number.number n c.parse.ensures.value.0 some limit.1 is in
    let written : c.args.word.now ≡ decimal c.in_ok-number.number = is ∙ ap decimal (sym same) in
    grind (arith, written, c.is_decimal_of.ensures, c.if-not-is_decimal_of.ensures)
