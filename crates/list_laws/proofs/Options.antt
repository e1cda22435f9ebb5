-- Options and results, and lists that are empty because a list that is put together of them is.
use Rattle.std.proofs.Common.{◌≡◌, Option, None, Some, List, [], ◌∷◌, ◌++◌, Result, Ok, Err, OnOk, refl, subst, true, false}
use Rattle.std.proofs.lemmas.Bool.{false≢true}
use Rattle.std.specs.Prelude.{IsSome, IfSome}
use Rattle.std.specs.Option.{option_map_or}

-- there is a value where there is one
pub some_value : {T : Type 0} (o : Option T) → IsSome o → (x : T) × (o ≡ Some x)
some_value None e = absurd (false≢true e)
some_value (Some x) e = (x, refl)

-- nothing is asked of a value
pub if_any : {X : Type 0} (o : Option X) → IfSome o (λ _. Unit {0})
if_any None = tt
if_any (Some x) = tt

pub nil-first : {X : Type 0} (xs ys : List X) → xs ++ ys ≡ [] → xs ≡ []
nil-first [] ys e = refl
nil-first (x ∷ xs) ys e = cc

pub nil-second : {X : Type 0} (xs ys : List X) → xs ++ ys ≡ [] → ys ≡ []
nil-second [] ys e = e
nil-second (x ∷ xs) ys e = cc

-- what holds for a value, or for the default, where no fault is found in it
pub in_option : {X Y F : Type 0} (P : Y → Type 0) (f : X → List F) (g : X → Y) (d : List F) (e : Y) (o : Option X) → ((x : X) → f x ≡ [] → P (g x)) → (d ≡ [] → P e) → option_map_or f o d ≡ [] → P (option_map_or g o e)
in_option P f g d e None each none h = none h
in_option P f g d e (Some x) each none h = each x h

-- what holds for a value holds for the one that is there
pub some_has : {T : Type 0} (o : Option T) (P : T → Type 0) (x : T) → o ≡ Some x → IfSome o P → P x
some_has o P x is has = subst (λ (p : _). IfSome p P) is has

-- what follows where a call went well
pub on_ok : {A E : Type 0} (r : Result A E) (P Q : Type 0) → (P → Q) → OnOk r P → OnOk r Q
on_ok (Ok x) P Q f p = f p
on_ok (Err e) P Q f p = p
