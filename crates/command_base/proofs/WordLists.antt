-- A list of words, by its first word and the rest, as a slice pattern takes it apart.
use Rattle.std.proofs.Common.{◌≡◌, ◌-◌, ◌≤◌, ◌++◌, ◌∙◌, Bool, true, false, List, [], ◌∷◌, map, length, get_or, take, drop, refl, subst, sym, ap, arith, codes, Option, None, Some}
use Rattle.std.proofs.lemmas.List.{take_all}
use Rattle.std.specs.Prelude.{MatchOption}
use Rattle.plan_rules.specs.Texts.{class_word}
use Rattle.task_core.specs.declared.classes.Class.{Class}
use Rattle.command_base.specs.Values.{plan_words_of}
use Rattle.command_base.specs.Words.{Bytes, IsNodeLimit, MayBeCertified, PlanKind, PlanOptions, PlanWords, SaysOptions, SaysPlan, cert_words, kind_word, of_class}
use Rattle.command_base.specs.declared.words.PlanWords.{PlanWords as CodePlanWords}

pub first_and_rest : {X Y : Type 0} (f : X → Y) (xs : List X) (a : X) → 1 ≤ length xs → a ≡ get_or xs 0 a
    → map f xs ≡ f a ∷ map f (take (length xs - 1) (drop 1 xs))
first_and_rest f [] a some is = absurd (omega arith)
first_and_rest f (x ∷ xs) a some is =
    let rest : map f xs ≡ map f (take (length (x ∷ xs) - 1) xs) = ap (map f) (sym (take_all (length (x ∷ xs) - 1) xs (omega arith))) in
    cc (is, rest)

-- words that ask for a plan, with a certificate or without it
by_form : (words : List Bytes) → ((asked : PlanWords) → asked.certified ≡ false → SaysPlan words asked → ⊥) → ((asked : PlanWords) → asked.certified ≡ true → SaysPlan words asked → ⊥)
    → (asked : PlanWords) (certified : Bool) → asked.certified ≡ certified → SaysPlan words asked → ⊥
by_form words plain wanted asked false is says = plain asked is says
by_form words plain wanted asked true is says = wanted asked is says

pub neither_form : (words : List Bytes) (r : Option CodePlanWords) → ((asked : PlanWords) → asked.certified ≡ false → SaysPlan words asked → ⊥)
    → MatchOption r ((asked : PlanWords) → asked.certified ≡ true → SaysPlan words asked → ⊥) (λ asked. SaysPlan words (plan_words_of asked))
    → MatchOption r ((asked : PlanWords) → SaysPlan words asked → ⊥) (λ asked. SaysPlan words (plan_words_of asked))
neither_form words (Some asked) plain said = said
neither_form words None plain said = λ asked says. by_form words plain said asked asked.certified refl says

-- the words of each form, one by one
pub as_plain : (words : List Bytes) (asked : PlanWords) → asked.certified ≡ false → (says : SaysPlan words asked)
    → words ≡ codes "plan" ∷ kind_word asked.kind ∷ asked.domain ∷ asked.problem ∷ says.rest
as_plain words asked plain says =
    says.written ∙ ap (λ (b : Bool). codes "plan" ∷ kind_word asked.kind ∷ asked.domain ∷ asked.problem ∷ (cert_words b ++ says.rest)) plain

pub as_certified : (words : List Bytes) (asked : PlanWords) → asked.certified ≡ true → (says : SaysPlan words asked)
    → words ≡ codes "plan" ∷ kind_word asked.kind ∷ asked.domain ∷ asked.problem ∷ codes "--cert" ∷ says.rest
as_certified words asked wanted says =
    says.written ∙ ap (λ (b : Bool). codes "plan" ∷ kind_word asked.kind ∷ asked.domain ∷ asked.problem ∷ (cert_words b ++ says.rest)) wanted

-- a slice of words, by its first three or four and the rest
pub first_three : {X Y : Type 0} (f : X → Y) (xs : List X) (a b c : X) → 3 ≤ length xs → a ≡ get_or xs 0 a → b ≡ get_or xs 1 b → c ≡ get_or xs 2 c
    → map f xs ≡ f a ∷ f b ∷ f c ∷ map f (take (length xs - 3) (drop 3 xs))
first_three f [] a b c long one two three = absurd (omega (arith, long))
first_three f (x ∷ []) a b c long one two three = absurd (omega (arith, long))
first_three f (x ∷ y ∷ []) a b c long one two three = absurd (omega (arith, long))
first_three f (x ∷ y ∷ z ∷ xs) a b c long one two three =
    let rest : map f xs ≡ map f (take (length (x ∷ y ∷ z ∷ xs) - 3) xs) = ap (map f) (sym (take_all (length (x ∷ y ∷ z ∷ xs) - 3) xs (omega arith))) in
    cc (one, two, three, rest)

pub first_four : {X Y : Type 0} (f : X → Y) (xs : List X) (a b c d : X) → 4 ≤ length xs → a ≡ get_or xs 0 a → b ≡ get_or xs 1 b → c ≡ get_or xs 2 c → d ≡ get_or xs 3 d
    → map f xs ≡ f a ∷ f b ∷ f c ∷ f d ∷ map f (take (length xs - 4) (drop 4 xs))
first_four f [] a b c d long one two three four = absurd (omega (arith, long))
first_four f (x ∷ []) a b c d long one two three four = absurd (omega (arith, long))
first_four f (x ∷ y ∷ []) a b c d long one two three four = absurd (omega (arith, long))
first_four f (x ∷ y ∷ z ∷ []) a b c d long one two three four = absurd (omega (arith, long))
first_four f (x ∷ y ∷ z ∷ w ∷ xs) a b c d long one two three four =
    let rest : map f xs ≡ map f (take (length (x ∷ y ∷ z ∷ w ∷ xs) - 4) xs) = ap (map f) (sym (take_all (length (x ∷ y ∷ z ∷ w ∷ xs) - 4) xs (omega arith))) in
    cc (one, two, three, four, rest)

-- words that end with no options
pub no_plain : (words : List Bytes) (k d p : Bytes) (rest : List Bytes) → words ≡ k ∷ d ∷ p ∷ rest
    → ((options : PlanOptions) → IsNodeLimit options.nodes → SaysOptions rest options → ⊥)
    → (asked : PlanWords) → asked.certified ≡ false → SaysPlan (codes "plan" ∷ words) asked → ⊥
no_plain words k d p rest split none asked plain says =
    let is = as_plain (codes "plan" ∷ words) asked plain says in
    let rests : says.rest ≡ rest = ap (λ (ws : List Bytes). drop 4 ws) (sym is ∙ ap (λ (ws : List Bytes). codes "plan" ∷ ws) split) in
    none asked.options says.room (subst (λ (ws : List Bytes). SaysOptions ws asked.options) rests says.options)

pub no_certified : (words : List Bytes) (k d p o : Bytes) (rest : List Bytes) → words ≡ k ∷ d ∷ p ∷ o ∷ rest
    → ((options : PlanOptions) → IsNodeLimit options.nodes → SaysOptions rest options → ⊥)
    → (asked : PlanWords) → asked.certified ≡ true → SaysPlan (codes "plan" ∷ words) asked → ⊥
no_certified words k d p o rest split none asked wanted says =
    let is = as_certified (codes "plan" ∷ words) asked wanted says in
    let rests : says.rest ≡ rest = ap (λ (ws : List Bytes). drop 5 ws) (sym is ∙ ap (λ (ws : List Bytes). codes "plan" ∷ ws) split) in
    none asked.options says.room (subst (λ (ws : List Bytes). SaysOptions ws asked.options) rests says.options)

-- words that ask for a certificate
pub says_certified : (words : List Bytes) (k d p o : Bytes) (rest : List Bytes) (class : Class) (asked : PlanWords) → words ≡ k ∷ d ∷ p ∷ o ∷ rest → o ≡ codes "--cert"
    → asked.kind ≡ of_class class → k ≡ class_word class → asked.domain ≡ d → asked.problem ≡ p → asked.certified ≡ true → IsNodeLimit asked.options.nodes → SaysOptions rest asked.options
    → SaysPlan (codes "plan" ∷ words) asked
says_certified words k d p o rest class asked split cert kind named domain problem wanted room options =
    let ends : cert_words asked.certified ++ rest ≡ codes "--cert" ∷ rest = ap (λ (b : Bool). cert_words b ++ rest) wanted in
    let kinds : kind_word asked.kind ≡ class_word class = ap kind_word kind in
    record {
      room = room;
      rest = rest;
      written = cc (split, cert, kinds, named, domain, problem, ends);
      options = options;
      for_class = subst (λ (l : PlanKind). MayBeCertified l asked.certified) (sym kind) tt;
    }
