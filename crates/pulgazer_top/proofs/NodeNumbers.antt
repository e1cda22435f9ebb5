-- A number of nodes is read out of its word.
use Rattle.std.proofs.Common.{◌≡◌, ◌≤◌, ◌<◌, ◌^◌, ◌∙◌, ℕ, Bool, true, arith, ap, decimal, refl, subst, sym}
use Rattle.std.specs.Prelude.{Result, Ok, Err, if◌then◌else◌, nat_le}
use Rattle.std.specs.Str.{bytes_eq}
use Rattle.std.specs.Str.Parse.{digits_value}
use Rattle.std.proofs.lemmas.Bool.{le-leb}
use Rattle.std.proofs.lemmas.Fmt.{decimal_is_IsNumeral}
use Rattle.std.proofs.lemmas.Slice.Eq.{bytes_eq-Decides}
use Rattle.command_base.specs.Words.{Bytes, IsNodeLimit, most_nodes}
use Rattle.pulgazer_top.specs.Mistakes.{Mistake, mistake}
use Rattle.pulgazer_top.specs.Requests.{is_node_number, nodes_in}
use Rattle.pulgazer_top.specs.declared.mistakes.Why.TheVariants.{BadNodes}

pub nodes_are : (word : Bytes) (n : ℕ) → IsNodeLimit n → word ≡ decimal n → Ok n ≡ nodes_in word
nodes_are word n limit is =
    let most = limit.1 in
    let small : n < 2 ^ 64 = omega (arith, most) in
    let value : digits_value 10 word ≡ n = ap (digits_value 10) is ∙ (decimal_is_IsNumeral n small).1 in
    let least : nat_le 1 n ≡ true = le-leb 1 n limit.0 in
    let within : nat_le n most_nodes ≡ true = le-leb n most_nodes most in
    let written : bytes_eq word (decimal n) ≡ true = (bytes_eq-Decides word (decimal n)).1 is in
    let good : is_node_number word n ≡ true = rw (least, within, written) refl in
    let told : (if is_node_number word n then Ok n else Err (mistake word BadNodes)) ≡ Ok n = ap (λ (b : Bool). if b then Ok n else Err (mistake word BadNodes)) good in
    sym (subst (λ (v : ℕ). (if is_node_number word v then Ok v else Err (mistake word BadNodes)) ≡ Ok n) (sym value) told)
