-- What the cache holds after something was put in.
use Rattle.std.proofs.Common.{◌≡◌, ℕ, ◌+◌, ◌<◌, Bool, true, false, if◌then◌else◌, List, [], Contains, ⊎_elim, inl, inr, refl, sym, ap, subst, arith}
use Rattle.dd_cache.specs.declared.key.Key.{Key}
use Rattle.dd_nodes.specs.declared.node.Node.{Node}
use Rattle.dd_nodes.specs.declared.node.Ref.{Ref}
use Rattle.dd_nodes.specs.Table.{NodeTable, IsNodeTable}
use Rattle.dd_ops.specs.declared.question.Question.{Question}
use Rattle.dd_ops.specs.Answers.{AreNumbers, IsAnswer, IsCofactor, IsReplaced, Keeps}
use Rattle.dd_ops.specs.Cached.{key_of_question, key_of_cofactor, key_of_subst, IsQuestion, IsFixed, IsOfCall, MayAdd, Remembers, RemembersCofactors, RemembersReplaced, AddsPairs, AddsPair}
use Rattle.dd_ops.specs.Known.{AreKnown, AreEmpty, IsKnownAs, IsCacheOf}
use Rattle.dd_ops.specs.declared.known.KnownList.{KnownList}
use Rattle.std.proofs.Common.{drop, take, ◌∙◌, ◌≤◌}
use Rattle.std.proofs.lemmas.Option.{none-some}
use Rattle.dd_ops.proofs.QuestionLemmas.{answer_extends}
use Rattle.dd_ops.proofs.CofactorLemmas.{cofactor_extends}
use Rattle.dd_ops.proofs.SubstLemmas.{is_replaced_extends, numbers_extend}

-- the keys tell their questions apart
question_from_key : (p q : Question) → key_of_question p ≡ key_of_question q → p ≡ q
question_from_key p q e = λ i. record { f = record { 0 = (e i).a }; g = record { 0 = (e i).b }; h = record { 0 = (e i).c } }

bit_same : (b d : Bool) → ◌≡◌ {A = ℕ} (if b then 1 else 0) (if d then 1 else 0) → b ≡ d
bit_same true true e = refl
bit_same true false e = absurd (omega (arith, e))
bit_same false true e = absurd (omega (arith, e))
bit_same false false e = refl

module _ (before after : List (Key × ℕ)) where
  -- one pair more
  pub question_added : (nodes : List Node) (q : Question) (r : ℕ) → AddsPair (key_of_question q) r before after → Remembers nodes before → IsAnswer nodes q r → Remembers nodes after
  question_added nodes q r adds remembers answer p s has = ⊎_elim
      (λ (was : Contains before (key_of_question p, s)). remembers p s was)
      (λ (is : (key_of_question p ≡ key_of_question q) × (s ≡ r)).
      subst (λ (o : Question). IsAnswer nodes o s) (sym (question_from_key p q is.0)) (subst (λ n. IsAnswer nodes q n) (sym is.1) answer))
      (adds (key_of_question p) s has)

  pub cofactor_added : (nodes : List Node) (f v : ℕ) (b : Bool) (r : ℕ) → AddsPair (key_of_cofactor f v b) r before after → RemembersCofactors nodes before → IsCofactor nodes v b f r → RemembersCofactors nodes after
  cofactor_added nodes f v b r adds remembers answer g w d s has = ⊎_elim
      (λ (was : Contains before (key_of_cofactor g w d, s)). remembers g w d s was)
      (λ (is : (key_of_cofactor g w d ≡ key_of_cofactor f v b) × (s ≡ r)).
      let bit : d ≡ b = bit_same d b (ap (λ (key : Key). key.c) is.0) in
      let variable : w ≡ v = ap (λ (key : Key). key.b) is.0 in
      let number : g ≡ f = ap (λ (key : Key). key.a) is.0 in
      subst (λ n. IsCofactor nodes w d n s) (sym number) (subst (λ u. IsCofactor nodes u d f s) (sym variable)
      (subst (λ c. IsCofactor nodes v c f s) (sym bit) (subst (λ n. IsCofactor nodes v b f n) (sym is.1) answer))))
      (adds (key_of_cofactor g w d) s has)

  pub replaced_added : (nodes : List Node) (map : List (ℕ × Ref)) (call f r : ℕ) → AddsPair (key_of_subst call f) r before after → RemembersReplaced nodes map call before → IsReplaced nodes map f r → RemembersReplaced nodes map call after
  replaced_added nodes map call f r adds remembers answer g s has = ⊎_elim
      (λ (was : Contains before (key_of_subst call g, s)). remembers g s was)
      (λ (is : (key_of_subst call g ≡ key_of_subst call f) × (s ≡ r)).
      subst (λ n. IsReplaced nodes map n s) (sym (ap (λ (key : Key). key.a) is.0)) (subst (λ n. IsReplaced nodes map f n) (sym is.1) answer))
      (adds (key_of_subst call g) s has)

  pub pair_of_kind : (IsNew : Key → Type 0) (key : Key) (value : ℕ) → IsNew key → AddsPair key value before after → AddsPairs IsNew before after
  pair_of_kind IsNew key value new adds k v has = ⊎_elim
      (λ (was : Contains before (k, v)). inl was)
      (λ (is : (k ≡ key) × (v ≡ value)). inr (subst IsNew (sym is.0) new))
      (adds k v has)

  -- no pair more
  pub same_pairs : (IsNew : Key → Type 0) → after ≡ before → AddsPairs IsNew before after
  same_pairs IsNew same key value has = inl (subst (λ (pairs : List (Key × ℕ)). Contains pairs (key, value)) same has)

  -- pairs of another kind
  module _ (nodes : List Node) where
    pub cofactors_beside_questions : AddsPairs IsQuestion before after → RemembersCofactors nodes before → RemembersCofactors nodes after
    cofactors_beside_questions adds remembers f v b r has = ⊎_elim
        (λ (was : Contains before (key_of_cofactor f v b, r)). remembers f v b r was)
        (λ (new : 1 ≡ 0). absurd (omega (arith, new)))
        (adds (key_of_cofactor f v b) r has)

    pub cofactors_beside_call : (call : ℕ) → AddsPairs (MayAdd call) before after → RemembersCofactors nodes before → RemembersCofactors nodes after
    cofactors_beside_call call adds remembers f v b r has = ⊎_elim
        (λ (was : Contains before (key_of_cofactor f v b, r)). remembers f v b r was)
        (⊎_elim
        (λ (question : 1 ≡ 0). absurd (omega (arith, question)))
        (λ (mine : (1 ≡ 2) × (0 ≡ call)). absurd (omega (arith, mine.0))))
        (adds (key_of_cofactor f v b) r has)

    pub questions_beside_fixed : AddsPairs IsFixed before after → Remembers nodes before → Remembers nodes after
    questions_beside_fixed adds remembers q r has = ⊎_elim
        (λ (was : Contains before (key_of_question q, r)). remembers q r was)
        (λ (new : 0 ≡ 1). absurd (omega (arith, new)))
        (adds (key_of_question q) r has)

    pub questions_beside_call : (call : ℕ) → AddsPairs (IsOfCall call) before after → Remembers nodes before → Remembers nodes after
    questions_beside_call call adds remembers q r has = ⊎_elim
        (λ (was : Contains before (key_of_question q, r)). remembers q r was)
        (λ (mine : (0 ≡ 2) × (0 ≡ call)). absurd (omega (arith, mine.0)))
        (adds (key_of_question q) r has)

    pub replaced_beside_questions : (map : List (ℕ × Ref)) (call : ℕ) → AddsPairs IsQuestion before after → RemembersReplaced nodes map call before → RemembersReplaced nodes map call after
    replaced_beside_questions map call adds remembers f r has = ⊎_elim
        (λ (was : Contains before (key_of_subst call f, r)). remembers f r was)
        (λ (new : 2 ≡ 0). absurd (omega (arith, new)))
        (adds (key_of_subst call f) r has)

  -- what a substitution may add
  pub adds_questions : (call : ℕ) → AddsPairs IsQuestion before after → AddsPairs (MayAdd call) before after
  adds_questions call adds key value has = ⊎_elim (λ (was : Contains before (key, value)). inl was) (λ (new : IsQuestion key). inr (inl new)) (adds key value has)

  pub adds_own : (call : ℕ) → AddsPairs (IsOfCall call) before after → AddsPairs (MayAdd call) before after
  adds_own call adds key value has = ⊎_elim (λ (was : Contains before (key, value)). inl was) (λ (new : IsOfCall call key). inr (inr new)) (adds key value has)

-- two steps in turn
pub adds_more : (IsNew : Key → Type 0) (a b c : List (Key × ℕ)) → AddsPairs IsNew a b → AddsPairs IsNew b c → AddsPairs IsNew a c
adds_more IsNew a b c first second key value has = ⊎_elim
    (λ (was : Contains b (key, value)). first key value was)
    (λ (new : IsNew key). inr new)
    (second key value has)

-- an empty cache holds nothing
no_pair : (pairs : List (Key × ℕ)) → pairs ≡ [] → (key : Key) (value : ℕ) → Contains pairs (key, value) → ◌≡◌ {A = ℕ} 0 1
no_pair pairs none key value has =
    let nowhere : Contains [] (key, value) = subst (λ (ps : List (Key × ℕ)). Contains ps (key, value)) none has in
    absurd (omega (arith, nowhere.1))

-- so no list has a number
pub none_known : (nodes : List Node) (places : List KnownList) (entries : List (ℕ × Ref)) (pairs : List (Key × ℕ)) (next : ℕ) → AreEmpty places → pairs ≡ [] → 0 < next → AreKnown nodes places entries pairs next
none_known nodes places entries pairs next empty none some = record {
  meaning = λ _. [];
  some = some;
  numbers = λ number v g is. absurd (none-some g is);
  placed = λ k list at. let is = empty k list at in
      (omega (arith, is.0, some), omega (arith, is.2), sym (ap (λ n. drop list.start (take n entries)) is.2 ∙ ap (λ n. drop n (take 0 entries)) is.1));
  replaced = λ number f r has. absurd (omega (arith, no_pair pairs none (key_of_subst number f) r has));
}

pub empty_cache : (t : NodeTable) (places : List KnownList) (entries : List (ℕ × Ref)) (pairs : List (Key × ℕ)) (next : ℕ) → IsNodeTable t → AreEmpty places → pairs ≡ [] → 0 < next → IsCacheOf t places entries pairs next
empty_cache t places entries pairs next table empty none some = record {
  table = table;
  questions = λ q r has. absurd (omega (arith, no_pair pairs none (key_of_question q) r has));
  cofactors = λ f v b r has. absurd (omega (arith, no_pair pairs none (key_of_cofactor f v b) r has));
  known = none_known t.nodes places entries pairs next empty none some;
}

-- what a list's number has is what the list has
pub known_memo : (nodes : List Node) (places : List KnownList) (entries : List (ℕ × Ref)) (pairs : List (Key × ℕ)) (next : ℕ) (map : List (ℕ × Ref)) (number : ℕ)
    → IsKnownAs nodes places entries pairs next map number → RemembersReplaced nodes map number pairs
known_memo nodes places entries pairs next map number is f r has = subst (λ (m : List (ℕ × Ref)). IsReplaced nodes m f r) is.means (is.known.replaced number f r has).1

-- what is remembered stays right where the table grows
module _ (t0 t1 : NodeTable) (kept : Keeps t0 t1) (table : IsNodeTable t0) where
  pub questions_extend : (pairs : List (Key × ℕ)) → Remembers t0.nodes pairs → Remembers t1.nodes pairs
  questions_extend pairs remembers q r has = answer_extends t0.nodes t1.nodes kept.nodes t0.vars table.reduced q r (remembers q r has)

  pub cofactors_extend : (pairs : List (Key × ℕ)) → RemembersCofactors t0.nodes pairs → RemembersCofactors t1.nodes pairs
  cofactors_extend pairs remembers f v b r has = cofactor_extends t0.nodes t1.nodes kept.nodes t0.vars table.reduced v b f r (remembers f v b r has)

  pub replaced_extend : (map : List (ℕ × Ref)) → AreNumbers t0.nodes map → (call : ℕ) (pairs : List (Key × ℕ)) → RemembersReplaced t0.nodes map call pairs → RemembersReplaced t1.nodes map call pairs
  replaced_extend map numbers call pairs remembers f r has = is_replaced_extends t0.nodes t1.nodes kept.nodes t0.vars table.reduced map numbers f r (remembers f r has)

  -- so do the lists with numbers, where the cache has no more of them
  known_extend : (places : List KnownList) (entries : List (ℕ × Ref)) (before after : List (Key × ℕ)) (next : ℕ) → AreKnown t0.nodes places entries before next
      → ((number f r : ℕ) → Contains after (key_of_subst number f, r) → Contains before (key_of_subst number f, r)) → AreKnown t1.nodes places entries after next
  known_extend places entries before after next known fewer = record {
    meaning = known.meaning;
    some = known.some;
    numbers = λ number. numbers_extend t0.nodes t1.nodes kept.nodes t0.vars table.reduced (known.meaning number) (known.numbers number);
    placed = known.placed;
    replaced = λ number f r has. let was = known.replaced number f r (fewer number f r has) in
        (was.0, is_replaced_extends t0.nodes t1.nodes kept.nodes t0.vars table.reduced (known.meaning number) (known.numbers number) f r was.1);
  }

  -- and where it has more of one list
  known_more : (places : List KnownList) (entries : List (ℕ × Ref)) (within after : List (Key × ℕ)) (next : ℕ) (map : List (ℕ × Ref)) (own : ℕ) → IsKnownAs t0.nodes places entries within next map own
      → RemembersReplaced t1.nodes map own after → AddsPairs (MayAdd own) within after → AreKnown t1.nodes places entries after next
  known_more places entries within after next map own is memo adds = record {
    meaning = is.known.meaning;
    some = is.known.some;
    numbers = λ number. numbers_extend t0.nodes t1.nodes kept.nodes t0.vars table.reduced (is.known.meaning number) (is.known.numbers number);
    placed = is.known.placed;
    replaced = λ number f r has. ⊎_elim
        (λ (was : Contains within (key_of_subst number f, r)). let old = is.known.replaced number f r was in
        (old.0, is_replaced_extends t0.nodes t1.nodes kept.nodes t0.vars table.reduced (is.known.meaning number) (is.known.numbers number) f r old.1))
        (⊎_elim
        (λ (question : 2 ≡ 0). absurd (omega (arith, question)))
        (λ (mine : (◌≡◌ {A = ℕ} 2 2) × (number ≡ own)). let same : number ≡ own = mine.1 in
        (omega (arith, same, is.below), subst (λ (m : List (ℕ × Ref)). IsReplaced t1.nodes m f r) (sym (ap is.known.meaning same ∙ is.means)) (memo f r (subst (λ n. Contains after (key_of_subst n f, r)) same has)))))
        (adds (key_of_subst number f) r has);
  }

  -- the cache of an `Ops` after each operation
  module _ (places : List KnownList) (entries : List (ℕ × Ref)) (before after : List (Key × ℕ)) (next : ℕ) (cache : IsCacheOf t0 places entries before next) (table1 : IsNodeTable t1) where
    pub cache_after_answer : Remembers t1.nodes after → AddsPairs IsQuestion before after → IsCacheOf t1 places entries after next
    cache_after_answer questions adds = record {
      table = table1;
      questions = questions;
      cofactors = cofactors_beside_questions before after t1.nodes adds (cofactors_extend before cache.cofactors);
      known = known_extend places entries before after next cache.known (λ number f r has. ⊎_elim
          (λ (was : Contains before (key_of_subst number f, r)). was)
          (λ (new : 2 ≡ 0). absurd (omega (arith, new)))
          (adds (key_of_subst number f) r has));
    }

    pub cache_after_cofactor : RemembersCofactors t1.nodes after → AddsPairs IsFixed before after → IsCacheOf t1 places entries after next
    cache_after_cofactor cofactors adds = record {
      table = table1;
      questions = questions_beside_fixed before after t1.nodes adds (questions_extend before cache.questions);
      cofactors = cofactors;
      known = known_extend places entries before after next cache.known (λ number f r has. ⊎_elim
          (λ (was : Contains before (key_of_subst number f, r)). was)
          (λ (new : 2 ≡ 1). absurd (omega (arith, new)))
          (adds (key_of_subst number f) r has));
    }

  pub cache_after_subst : (places : List KnownList) (entries : List (ℕ × Ref)) (old_places : List KnownList) (old_entries : List (ℕ × Ref)) (before within after : List (Key × ℕ)) (old next : ℕ) (map : List (ℕ × Ref)) (own : ℕ)
      → IsCacheOf t0 old_places old_entries before old → IsNodeTable t1
      → ((key : Key) (value : ℕ) → Contains within (key, value) → Contains before (key, value)) → IsKnownAs t0.nodes places entries within next map own
      → Remembers t1.nodes after → RemembersReplaced t1.nodes map own after → AddsPairs (MayAdd own) within after → IsCacheOf t1 places entries after next
  cache_after_subst places entries old_places old_entries before within after old next map own cache table1 fewer known questions memo adds = record {
    table = table1;
    questions = questions;
    cofactors = cofactors_beside_call within after t1.nodes own adds (cofactors_extend within (λ f v b r has. cache.cofactors f v b r (fewer (key_of_cofactor f v b) r has)));
    known = known_more places entries within after next map own known memo adds;
  }

  pub cache_after_node : (places : List KnownList) (entries : List (ℕ × Ref)) (pairs : List (Key × ℕ)) (next : ℕ) → IsCacheOf t0 places entries pairs next → IsNodeTable t1 → IsCacheOf t1 places entries pairs next
  cache_after_node places entries pairs next cache table1 = record {
    table = table1;
    questions = questions_extend pairs cache.questions;
    cofactors = cofactors_extend pairs cache.cofactors;
    known = known_extend places entries pairs pairs next cache.known (λ number f r has. has);
  }
