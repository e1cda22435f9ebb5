-- What is escaped has no markup.
use Rattle.std.proofs.Common.{◌≡◌, ◌==◌, ℕ, List, [], ◌∷◌, Bool, true, false, refl}
use Rattle.std.proofs.lemmas.List.Elements.{All-append, All-from_recursion, All-nil}
use Rattle.std.specs.Prelude.{All, codes}
use Rattle.plan_page.specs.Pages.{escaped, escaped_byte, is_markup}

abbrev Free : ℕ → Type 0
Free byte = is_markup byte ≡ false

less : All Free (codes "\\u003c")
less = All-from_recursion Free (codes "\\u003c") (refl, (refl, (refl, (refl, (refl, (refl, tt))))))

more : All Free (codes "\\u003e")
more = All-from_recursion Free (codes "\\u003e") (refl, (refl, (refl, (refl, (refl, (refl, tt))))))

ampersand : All Free (codes "\\u0026")
ampersand = All-from_recursion Free (codes "\\u0026") (refl, (refl, (refl, (refl, (refl, (refl, tt))))))

by_third : (byte : ℕ) (t : Bool) → (byte == 38) ≡ t → (byte == 60) ≡ false → (byte == 62) ≡ false → All Free (escaped_byte byte)
by_third byte true is first second = rw (first, second, is) ampersand
by_third byte false is first second =
    let free : Free byte = rw (first, second, is) refl in
    rw (first, second, is) (All-from_recursion Free (byte ∷ []) (free, tt))

by_second : (byte : ℕ) (t : Bool) → (byte == 62) ≡ t → (byte == 60) ≡ false → All Free (escaped_byte byte)
by_second byte true is first = rw (first, is) more
by_second byte false is first = by_third byte (byte == 38) refl first is

by_first : (byte : ℕ) (t : Bool) → (byte == 60) ≡ t → All Free (escaped_byte byte)
by_first byte true is = rw is less
by_first byte false is = by_second byte (byte == 62) refl is

pub escaped_free : (bytes : List ℕ) → All Free (escaped bytes)
escaped_free [] = All-nil Free
escaped_free (byte ∷ bytes) = All-append Free (escaped_byte byte) (escaped bytes) (by_first byte (byte == 60) refl) (escaped_free bytes)
