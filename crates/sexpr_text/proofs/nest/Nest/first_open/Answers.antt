use Rattle.std.proofs.Common.{◌≡◌, List, [], ◌∷◌, map, refl, ap, sym, ◌∙◌}
use Rattle.std.specs.Prelude.{Some, slice_get}
use Rattle.sexpr_text.specs.Pending.{pending_of}
use Rattle.sexpr_text.proofs.nest.Nest.first_open.Goals as goal

-- a list with a first element
first_of : {A : Type 0} (xs : List A) (x : A) → slice_get xs 0 ≡ Some x → (rest : List A) × (xs ≡ x ∷ rest)
first_of [] x h = absurd (cc)
first_of (y ∷ ys) x h =
    let same : y ≡ x = cc in
    (ys, ap (λ z. z ∷ ys) same)

pub returns-in-Some : goal.returns-in-Some
returns-in-Some c =
    let found = first_of c.args.self.now.pending.items c.in-Some.open.now
    (ap (λ xs. slice_get xs 0) (sym c.deref.ensures.value) ∙ sym c.in-Some.ensures.value) in
    (pending_of c.in-Some.open.now, map pending_of found.0, ap (map pending_of) found.1, refl)
