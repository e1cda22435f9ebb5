-- Where the shelf tells of a file and no fault came, a command that reads it has one answer at
-- most, if what comes after it has.
use Rattle.std.proofs.Common.{◌≡◌, ◌≢◌, length, ◌≤◌, inl, inr, refl, subst, sym, ap, ◌∙◌, arith}
use Rattle.plan_io.specs.Held.{Held, Untold, Missing, Holds as HoldsBytes, Gives, MayExceed}
use Rattle.command_base.specs.Answers.{Answer, refused, Refusal}
use Rattle.command_base.specs.Reading.{file_limit, IsFile, Holds, IsMisspelled, IsUnreadable, IsTooLong, IsRefusedFile, ReadThen}
use Rattle.command_base.specs.Words.{Bytes}

-- an answer of the one kind is one of the other
abbrev pub Decides : (Answer → Type 0) → (Answer → Type 0) → Type 0
Decides P Q = (a b : Answer) → P a → Q b → a ≡ b

-- no text spells two trees, none is refused in two ways, and none that spells a tree is refused
pub record IsGrammar {X : Type 0} (Spells : Bytes → X → Type 0) (Wrong : Bytes → Bytes → Refusal → Type 0) : Type 0 where
  pub one_tree : (bytes : Bytes) (t u : X) → Spells bytes t → Spells bytes u → t ≡ u
  pub one_refusal : (name bytes : Bytes) (r s : Refusal) → Wrong name bytes r → Wrong name bytes s → r ≡ s
  pub not_both : (name bytes : Bytes) (r : Refusal) (t : X) → Wrong name bytes r → Spells bytes t → ⊥

-- a told file has one text at most
one_text : (file : Held) (text other : Bytes) → file ≢ Untold → Gives file text → Gives file other → text ≡ other
one_text Untold text other told gives also = absurd (told refl)
one_text Missing text other told gives also = absurd gives
one_text (HoldsBytes bytes) text other told gives also = gives ∙ sym also

missing_no_file : (held : Bytes → Held) (failed : Bytes → Type 0) (name text : Bytes) (r : Refusal)
    → (failed name → ⊥) → IsUnreadable held failed name r → IsFile held name text → ⊥
missing_no_file held failed name text r quiet (is, inl missing) file = subst (λ h. Gives h text) missing file.gives
missing_no_file held failed name text r quiet (is, inr fault) file = quiet fault

long_no_text : (file : Held) (text : Bytes) → file ≢ Untold → MayExceed file_limit file → Gives file text → length text ≤ file_limit → ⊥
long_no_text Untold text told long gives short = told refl
long_no_text Missing text told long gives short = long
long_no_text (HoldsBytes bytes) text told long gives short = omega (arith, ap length gives)

long_no_file : (held : Bytes → Held) (name text : Bytes) (r : Refusal) → held name ≢ Untold → IsTooLong held name r → IsFile held name text → ⊥
long_no_file held name text r told (is, long) file = long_no_text (held name) text told long file.gives file.short

missing_not_long : (held : Bytes → Held) (failed : Bytes → Type 0) (name : Bytes) (r s : Refusal)
    → (failed name → ⊥) → IsUnreadable held failed name r → IsTooLong held name s → ⊥
missing_not_long held failed name r s quiet (is, inl missing) (is', long) = subst (MayExceed file_limit) missing long
missing_not_long held failed name r s quiet (is, inr fault) long = quiet fault

one_misspelling : {X : Type 0} (held : Bytes → Held) (Spells : Bytes → X → Type 0) (Wrong : Bytes → Bytes → Refusal → Type 0) (name : Bytes) (r s : Refusal)
    → held name ≢ Untold → IsGrammar Spells Wrong → IsMisspelled held Wrong name r → IsMisspelled held Wrong name s → r ≡ s
one_misspelling held Spells Wrong name r s told grammar m n =
    let same = one_text (held name) n.bytes m.bytes told n.file.gives m.file.gives in
    grammar.one_refusal name m.bytes r s m.wrong (subst (λ text. Wrong name text s) same n.wrong)

-- a file is refused in one way at most
one_refusal : {X : Type 0} (held : Bytes → Held) (failed failed' : Bytes → Type 0) (Spells : Bytes → X → Type 0) (Wrong : Bytes → Bytes → Refusal → Type 0)
    (name : Bytes) (r s : Refusal) → held name ≢ Untold → (failed name → ⊥) → (failed' name → ⊥) → IsGrammar Spells Wrong
    → IsRefusedFile held failed Wrong name r → IsRefusedFile held failed' Wrong name s → r ≡ s
one_refusal held failed failed' Spells Wrong name r s told quiet quiet' grammar (inl u) (inl v) = u.0 ∙ sym v.0
one_refusal held failed failed' Spells Wrong name r s told quiet quiet' grammar (inl u) (inr (inl l)) =
    absurd (missing_not_long held failed name r s quiet u l)
one_refusal held failed failed' Spells Wrong name r s told quiet quiet' grammar (inl u) (inr (inr m)) =
    absurd (missing_no_file held failed name m.bytes r quiet u m.file)
one_refusal held failed failed' Spells Wrong name r s told quiet quiet' grammar (inr (inl l)) (inl v) =
    absurd (missing_not_long held failed' name s r quiet' v l)
one_refusal held failed failed' Spells Wrong name r s told quiet quiet' grammar (inr (inl l)) (inr (inl k)) = l.0 ∙ sym k.0
one_refusal held failed failed' Spells Wrong name r s told quiet quiet' grammar (inr (inl l)) (inr (inr m)) =
    absurd (long_no_file held name m.bytes r told l m.file)
one_refusal held failed failed' Spells Wrong name r s told quiet quiet' grammar (inr (inr m)) (inl v) =
    absurd (missing_no_file held failed' name m.bytes s quiet' v m.file)
one_refusal held failed failed' Spells Wrong name r s told quiet quiet' grammar (inr (inr m)) (inr (inl k)) =
    absurd (long_no_file held name m.bytes s told k m.file)
one_refusal held failed failed' Spells Wrong name r s told quiet quiet' grammar (inr (inr m)) (inr (inr n)) =
    one_misspelling held Spells Wrong name r s told grammar m n

-- a file that is refused spells no tree
refused_no_tree : {X : Type 0} (held : Bytes → Held) (failed : Bytes → Type 0) (Spells : Bytes → X → Type 0) (Wrong : Bytes → Bytes → Refusal → Type 0)
    (name : Bytes) (r : Refusal) (t : X) → held name ≢ Untold → (failed name → ⊥) → IsGrammar Spells Wrong
    → IsRefusedFile held failed Wrong name r → Holds held Spells name t → ⊥
refused_no_tree held failed Spells Wrong name r t told quiet grammar (inl u) holds = missing_no_file held failed name holds.bytes r quiet u holds.file
refused_no_tree held failed Spells Wrong name r t told quiet grammar (inr (inl l)) holds = long_no_file held name holds.bytes r told l holds.file
refused_no_tree held failed Spells Wrong name r t told quiet grammar (inr (inr m)) holds =
    let same = one_text (held name) holds.bytes m.bytes told holds.file.gives m.file.gives in
    grammar.not_both name m.bytes r t m.wrong (subst (λ text. Spells text t) same holds.spelled)

-- a file spells one tree at most
pub one_tree : {X : Type 0} (held : Bytes → Held) (Spells : Bytes → X → Type 0) (Wrong : Bytes → Bytes → Refusal → Type 0) (name : Bytes) (t u : X)
    → held name ≢ Untold → IsGrammar Spells Wrong → Holds held Spells name t → Holds held Spells name u → t ≡ u
one_tree held Spells Wrong name t u told grammar h k =
    let same = one_text (held name) k.bytes h.bytes told k.file.gives h.file.gives in
    grammar.one_tree h.bytes t u h.spelled (subst (λ text. Spells text u) same k.spelled)

-- reading a file, and then what decides the answer, decides the answer
pub read_decides : {X : Type 0} (held : Bytes → Held) (failed failed' : Bytes → Type 0) (name : Bytes) (Spells : Bytes → X → Type 0) (Wrong : Bytes → Bytes → Refusal → Type 0)
    (Then Then' : X → Answer → Type 0) → held name ≢ Untold → (failed name → ⊥) → (failed' name → ⊥) → IsGrammar Spells Wrong
    → ((t : X) → Holds held Spells name t → Decides (Then t) (Then' t))
    → Decides (ReadThen held failed name Spells Wrong Then) (ReadThen held failed' name Spells Wrong Then')
read_decides held failed failed' name Spells Wrong Then Then' told quiet quiet' grammar next a b (inl (r, is, wrong)) (inl (s, is', wrong')) =
    is ∙ ap refused (one_refusal held failed failed' Spells Wrong name r s told quiet quiet' grammar wrong wrong') ∙ sym is'
read_decides held failed failed' name Spells Wrong Then Then' told quiet quiet' grammar next a b (inl (r, is, wrong)) (inr (u, holds, then)) =
    absurd (refused_no_tree held failed Spells Wrong name r u told quiet grammar wrong holds)
read_decides held failed failed' name Spells Wrong Then Then' told quiet quiet' grammar next a b (inr (t, holds, then)) (inl (s, is', wrong')) =
    absurd (refused_no_tree held failed' Spells Wrong name s t told quiet' grammar wrong' holds)
read_decides held failed failed' name Spells Wrong Then Then' told quiet quiet' grammar next a b (inr (t, holds, then)) (inr (u, holds', then')) =
    let same = one_tree held Spells Wrong name u t told grammar holds' holds in
    next t holds a b then (subst (λ x. Then' x b) same then')

-- where the file spells a tree, the answer is what comes after it
pub read_as : {X : Type 0} (held : Bytes → Held) (failed : Bytes → Type 0) (name : Bytes) (Spells : Bytes → X → Type 0) (Wrong : Bytes → Bytes → Refusal → Type 0)
    (Then : X → Answer → Type 0) (t : X) (a : Answer) → held name ≢ Untold → (failed name → ⊥) → IsGrammar Spells Wrong
    → Holds held Spells name t → ReadThen held failed name Spells Wrong Then a → Then t a
read_as held failed name Spells Wrong Then t a told quiet grammar holds (inl (r, is, wrong)) =
    absurd (refused_no_tree held failed Spells Wrong name r t told quiet grammar wrong holds)
read_as held failed name Spells Wrong Then t a told quiet grammar holds (inr (u, holds', then)) =
    subst (λ x. Then x a) (one_tree held Spells Wrong name u t told grammar holds' holds) then
