-- What parsing a word says of the numbers that it may write.
use Rattle.std.proofs.Common.{◌≡◌, ◌≤◌, ◌∙◌, ℕ, sym, ap, arith, decimal}
use Rattle.std.specs.Prelude.{Option, Some, None, Result, unwrap_or}
use Rattle.std.specs.Result.{result_ok}
use Rattle.std.specs.Str.Parse.{ParsesUnsigned}
use Rattle.std.proofs.lemmas.Fmt.{parse-decimal}
use Rattle.command_base.specs.Words.{Bytes, most_nodes}

-- a word that is no number of the type writes none that may be asked for
pub not_parsed : {E : Type 0} (word : Bytes) (r : Result ℕ E) (n : ℕ) → ParsesUnsigned 32 10 word r → result_ok r ≡ None → n ≤ most_nodes → word ≡ decimal n → ⊥
not_parsed word r n parses none few is =
    let ok = parse-decimal 32 n word r (omega (arith, few)) (omega (arith, few)) is parses in
    cc (ap result_ok ok, none)

-- and a word that is one writes no other
pub parsed_as : {E : Type 0} (word : Bytes) (r : Result ℕ E) (m n : ℕ) → ParsesUnsigned 32 10 word r → result_ok r ≡ Some m → n ≤ most_nodes → word ≡ decimal n → m ≡ n
parsed_as word r m n parses some few is =
    let ok = parse-decimal 32 n word r (omega (arith, few)) (omega (arith, few)) is parses in
    ap (λ (o : Option ℕ). unwrap_or o m) (sym some ∙ ap result_ok ok)
