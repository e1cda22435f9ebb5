-- Private: what the cache of an `Ops` holds, by the pairs of its map.
use Rattle.std.specs.Prelude.{◌≡◌, ℕ, Bool, List, ◌⊎◌, if◌then◌else◌}
use Rattle.std.specs.List.{Contains}
use Rattle.dd_cache.specs.declared.key.Key.{Key}
use Rattle.dd_nodes.specs.declared.node.Node.{Node}
use Rattle.dd_nodes.specs.declared.node.Ref.{Ref}
use Rattle.dd_ops.specs.Answers.{IsAnswer, IsCofactor, IsReplaced}
use Rattle.dd_ops.specs.declared.question.Question.{Question}

-- the key of a question
abbrev pub key_of_question : Question → Key
key_of_question q = record { op = 0; a = q.f.0; b = q.g.0; c = q.h.0; call = 0 }

-- the key of f with variable v fixed at b
abbrev pub key_of_cofactor : ℕ → ℕ → Bool → Key
key_of_cofactor f v b = record { op = 1; a = f; b = v; c = if b then 1 else 0; call = 0 }

-- the key of f with the variables replaced that a call lists
abbrev pub key_of_subst : ℕ → ℕ → Key
key_of_subst call f = record { op = 2; a = f; b = 0; c = 0; call = call }

-- what the keys ask for
abbrev pub IsQuestion : Key → Type 0
IsQuestion key = key.op ≡ 0

abbrev pub IsFixed : Key → Type 0
IsFixed key = key.op ≡ 1

abbrev pub IsOfCall : ℕ → Key → Type 0
IsOfCall call key = (key.op ≡ 2) × (key.call ≡ call)

-- a call adds answers to questions, and what it has replaced itself
abbrev pub MayAdd : ℕ → Key → Type 0
MayAdd call key = IsQuestion key ⊎ IsOfCall call key

-- each value of a question is its answer
abbrev pub Remembers : List Node → List (Key × ℕ) → Type 0
Remembers nodes pairs =
    (q : Question) (r : ℕ) → Contains pairs (key_of_question q, r) → IsAnswer nodes q r

-- each value of a cofactor is that cofactor
abbrev pub RemembersCofactors : List Node → List (Key × ℕ) → Type 0
RemembersCofactors nodes pairs =
    (f v : ℕ) (b : Bool) (r : ℕ) → Contains pairs (key_of_cofactor f v b, r)
    → IsCofactor nodes v b f r

-- each value that a call has put in has the variables replaced that the call lists
abbrev pub RemembersReplaced : List Node → List (ℕ × Ref) → ℕ → List (Key × ℕ) → Type 0
RemembersReplaced nodes map call pairs =
    (f r : ℕ) → Contains pairs (key_of_subst call f, r) → IsReplaced nodes map f r

-- each pair after was there before, or is of a kind
abbrev pub AddsPairs : (Key → Type 0) → List (Key × ℕ) → List (Key × ℕ) → Type 0
AddsPairs IsNew before after =
    (key : Key) (value : ℕ) → Contains after (key, value)
    → Contains before (key, value) ⊎ IsNew key

-- each pair after was there before, or is this one
abbrev pub AddsPair : Key → ℕ → List (Key × ℕ) → List (Key × ℕ) → Type 0
AddsPair key value before after =
    (k : Key) (v : ℕ) → Contains after (k, v)
    → Contains before (k, v) ⊎ ((k ≡ key) × (v ≡ value))
