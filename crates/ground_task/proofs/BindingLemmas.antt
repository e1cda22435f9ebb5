-- A loop over the bindings of variables by their numbers.
use Rattle.std.proofs.Common.{◌≡◌, ℕ, ◌<◌, ◌≤◌, List, ◌++◌, length, take, sym, ap, ◌∙◌, arith}
use Rattle.std.proofs.lemmas.List.{take_at}
use Rattle.pddl_system.specs.Objects.{bindings}
use Rattle.pddl_system.specs.Sizes.{binding_count}
use Rattle.pddl_system.proofs.Counts.{bindings_are_counted}

-- a number below the count is that of a binding
pub bound_below : (objects : ℕ → List ℕ) (types : List ℕ) (count number : ℕ) → count ≡ binding_count objects types → number < count → number < length (bindings objects types)
bound_below objects types count number counts below =
    let whole : length (bindings objects types) ≡ binding_count objects types = bindings_are_counted objects types in
    omega arith

-- one that is not below it is past the last
pub bound_end : (objects : ℕ → List ℕ) (types : List ℕ) (count number : ℕ) → count ≡ binding_count objects types → count ≤ number → length (bindings objects types) ≤ number
bound_end objects types count number counts past =
    let whole : length (bindings objects types) ≡ binding_count objects types = bindings_are_counted objects types in
    omega arith

-- the scope after a binding is taken back
pub unbound : (outer entered after scope chosen : List ℕ) (n : ℕ) → entered ≡ scope ++ chosen → scope ≡ outer → after ≡ entered → n ≡ length outer → take n after ≡ outer
unbound outer entered after scope chosen n bound same kept is =
    ap (take n) (kept ∙ bound ∙ ap (λ s. s ++ chosen) same) ∙ take_at outer chosen n (sym is)
