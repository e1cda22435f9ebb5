-- Files that were kept, one after another.
use Rattle.std.proofs.Common.{◌≡◌, ℕ, zero, suc, ◌+◌, ◌<◌, ◌⊎◌, ◌++◌, List, [], ◌∷◌, get_or, length, take, string_bytes, subst, sym, inl, inr, refl, arith}
use Rattle.plan_io.specs.Held.{Gives, Held}
use Rattle.answer_help.specs.Keeping.{AreToldAs, IsKeptAfter, Kept, NamesNone, kept, kept_files}
use Rattle.answer_help.specs.declared.keeping.KeptFile.{KeptFile}

pub told_at : (held : List ℕ → Held) (files : List KeptFile) (i : ℕ) (file : KeptFile) → i < length files → file ≡ get_or files i file
    → AreToldAs held (kept_files files) → Gives (held (string_bytes file.name)) file.bytes.items
told_at held [] i file within is told = absurd (omega (arith, within))
told_at held (x ∷ xs) zero file within is told = subst (λ (f : KeptFile). Gives (held (string_bytes f.name)) f.bytes.items) (sym is) told.0
told_at held (x ∷ xs) (suc i) file within is told = told_at held xs i file (omega (arith, within)) is told.1

pub none_more : (files : List KeptFile) (i : ℕ) (file : KeptFile) (name : List ℕ) → i < length files → file ≡ get_or files i file → (string_bytes file.name ≡ name → ⊥)
    → NamesNone (kept_files (take i files)) name → NamesNone (kept_files (take (suc i) files)) name
none_more [] i file name within is other none = absurd (omega (arith, within))
none_more (x ∷ xs) zero file name within is other none = (subst (λ (f : KeptFile). string_bytes f.name ≡ name → ⊥) is other, tt)
none_more (x ∷ xs) (suc i) file name within is other none = (none.0, none_more xs i file name (omega (arith, within)) is other none.1)

-- what is told of the kept files stays so when one more is kept
pub told_more : (held : List ℕ → Held) (files : List Kept) (name bytes : List ℕ) → AreToldAs held files → Gives (held name) bytes → AreToldAs held (files ++ kept name bytes ∷ [])
told_more held [] name bytes told gives = (gives, tt)
told_more held (file ∷ files) name bytes told gives = (told.0, told_more held files name bytes told.1 gives)

pub told_as : (held held' : List ℕ → Held) (files : List Kept) → ((name : List ℕ) → held' name ≡ held name) → AreToldAs held files → AreToldAs held' files
told_as held held' [] same told = tt
told_as held held' (file ∷ files) same told =
    (subst (λ (h : Held). Gives h file.bytes) (sym (same file.name)) told.0, told_as held held' files same told.1)

pub told_kept : (held : List ℕ → Held) (before after : List Kept) (name : List ℕ) → IsKeptAfter held before name after → AreToldAs held before → AreToldAs held after
told_kept held before after name (inl same) told = subst (AreToldAs held) (sym same) told
told_kept held before after name (inr (bytes, gives, more)) told = subst (AreToldAs held) (sym more) (told_more held before name bytes told gives)
