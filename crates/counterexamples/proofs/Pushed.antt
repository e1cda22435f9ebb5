-- Texts that are appended one after another.
use Rattle.std.proofs.Common.{◌≡◌, ℕ, List, ◌++◌, Result, Ok, Err, OnOk}
use Rattle.std.specs.Bool.{if◌then◌else◌}
use Rattle.std.specs.Result.{is_ok}
use Rattle.list_laws.proofs.Elements.{pushed_four, pushed_two}
use Rattle.list_laws.proofs.Options.{on_ok}

-- six texts, of which the last may fail
pub pushed_six : {A E : Type 0} (r : Result A E) (old a b c d e f m1 m2 m3 m4 m5 new : List ℕ) → m1 ≡ old ++ a → m2 ≡ m1 ++ b → m3 ≡ m2 ++ c → m4 ≡ m3 ++ d → m5 ≡ m4 ++ e → OnOk r (new ≡ m5 ++ f)
    → OnOk r (new ≡ old ++ (((((a ++ b) ++ c) ++ d) ++ e) ++ f))
pushed_six r old a b c d e f m1 m2 m3 m4 m5 new p q s t u last =
    on_ok r (new ≡ m5 ++ f) (new ≡ old ++ (((((a ++ b) ++ c) ++ d) ++ e) ++ f))
    (λ is. pushed_two old ((((a ++ b) ++ c) ++ d) ++ e) f m5 new (pushed_two old (((a ++ b) ++ c) ++ d) e m4 m5 (pushed_four old a b c d m1 m2 m3 m4 p q s t) u) is) last

pub when_ok : {A E : Type 0} (r : Result A E) (old text new : List ℕ) → new ≡ (if is_ok r then old ++ text else old) → OnOk r (new ≡ old ++ text)
when_ok (Ok x) old text new e = e
when_ok (Err e) old text new f = tt
