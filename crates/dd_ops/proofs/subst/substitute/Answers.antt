-- A number below the replaced variables is its own answer, and the table by variable holds what the
-- list gives.
use Rattle.std.proofs.Common.{refl, ◌≤◌, List, ℕ, sym, subst}
use Rattle.dd_nodes.specs.declared.node.Ref.{Ref}
use Rattle.dd_ops.specs.Answers.{IsIndexed, StayFrom}
use Rattle.dd_ops.specs.Cached.{AddsPairs, MayAdd, Remembers, RemembersReplaced}
use Rattle.dd_cache.specs.declared.key.Key.{Key}
use Rattle.dd_ops.proofs.CachedLemmas.{same_pairs, adds_more}
use Rattle.dd_ops.proofs.QuestionLemmas.{from_level}
use Rattle.dd_ops.proofs.ReplacedLemmas.{stays_own}
use Rattle.dd_ops.proofs.SubstLemmas.{listed_numbers}
use Rattle.dd_ops.proofs.subst.substitute.Goals as goal

pub returns-then-end-level-clause-answer : goal.returns-then-end-level-clause-answer
returns-then-end-level-clause-answer c = stays_own c.args.dd.now c.requires.table c.args.map.now c.end_of-end.result c.end_of-end.ensures.stay c.args.f.0 c.requires.number
    (from_level c.args.dd.now.nodes c.end_of-end.result c.args.f.0 (subst (λ l. c.end_of-end.result ≤ l) c.level.ensures c.if-end-level.true))

pub returns-then-end-level-clause-others : goal.returns-then-end-level-clause-others
returns-then-end-level-clause-others c = same_pairs c.args.cache.now.pairs c.args.cache.now.pairs (MayAdd c.args.call) refl

pub replace-requires-clause-images : goal.replace-requires-clause-images
replace-requires-clause-images c = subst (λ (map : List (ℕ × Ref)). IsIndexed c.args.dd.now.nodes map c.new-images.result.by_var c.new-images.result.end) (sym c.new-images.ensures.map)
    (record {
      numbers = listed_numbers c.args.dd.now.nodes c.args.map.now c.requires.map;
      found = c.new-images.ensures.found;
      stay = subst (λ end. StayFrom c.args.dd.now.nodes c.args.map.now end) (sym c.new-images.ensures.end) c.end_of-end.ensures.stay;
    })

pub replace-requires-clause-memo : goal.replace-requires-clause-memo
replace-requires-clause-memo c = subst (λ (number : ℕ). RemembersReplaced c.args.dd.now.nodes c.new-images.result.map.now number c.recall_replaced.new.cache.pairs) (sym c.new-images.ensures.number)
    (subst (λ (map : List (ℕ × Ref)). RemembersReplaced c.args.dd.now.nodes map c.args.call c.recall_replaced.new.cache.pairs) (sym c.new-images.ensures.map)
    (subst (λ (pairs : List (Key × ℕ)). RemembersReplaced c.args.dd.now.nodes c.args.map.now c.args.call pairs) (sym c.recall_replaced.ensures.same) c.requires.memo))

pub replace-requires-clause-questions : goal.replace-requires-clause-questions
replace-requires-clause-questions c = subst (λ (pairs : List (Key × ℕ)). Remembers c.args.dd.now.nodes pairs) (sym c.recall_replaced.ensures.same) c.requires.questions

pub returns-in-Some-clause-answer : goal.returns-in-Some-clause-answer
returns-in-Some-clause-answer c = c.in-Some.ensures.answer c.args.dd.now.nodes c.args.map.now c.requires.memo

pub returns-in-Some-clause-questions : goal.returns-in-Some-clause-questions
returns-in-Some-clause-questions c = subst (λ (pairs : List (Key × ℕ)). Remembers c.args.dd.now.nodes pairs) (sym c.recall_replaced.ensures.same) c.requires.questions

pub returns-in-Some-clause-memo : goal.returns-in-Some-clause-memo
returns-in-Some-clause-memo c = subst (λ (pairs : List (Key × ℕ)). RemembersReplaced c.args.dd.now.nodes c.args.map.now c.args.call pairs) (sym c.recall_replaced.ensures.same) c.requires.memo

pub returns-clause-memo : goal.returns-clause-memo
returns-clause-memo c = subst (λ (map : List (ℕ × Ref)). RemembersReplaced c.replace.new.dd.nodes map c.args.call c.replace.new.cache.pairs) c.new-images.ensures.map
    (subst (λ (number : ℕ). RemembersReplaced c.replace.new.dd.nodes c.new-images.result.map.now number c.replace.new.cache.pairs) c.new-images.ensures.number c.replace.ensures.memo)

pub returns-clause-others : goal.returns-clause-others
returns-clause-others c =
    adds_more (MayAdd c.args.call) c.args.cache.now.pairs c.recall_replaced.new.cache.pairs c.replace.new.cache.pairs
    (same_pairs c.args.cache.now.pairs c.recall_replaced.new.cache.pairs (MayAdd c.args.call) c.recall_replaced.ensures.same)
    (subst (λ (number : ℕ). AddsPairs (MayAdd number) c.recall_replaced.new.cache.pairs c.replace.new.cache.pairs) c.new-images.ensures.number c.replace.ensures.others)
