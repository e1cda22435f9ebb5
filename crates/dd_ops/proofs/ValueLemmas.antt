-- The functions of the operations that are one if-then-else with constants.
use Rattle.std.proofs.Common.{[], ◌∷◌, length, length-append, arith, ◌≤◌, ◌+◌, ◌≡◌, ℕ, Bool, true, false, not, ◌&&◌, ◌||◌, cond, List, refl, sym, ap, ◌∙◌, if◌then◌else◌}
use Rattle.dd_nodes.specs.declared.node.Node.{Node}
use Rattle.std.proofs.Common.{Result, Ok, Err, IfOk, IfErr, subst}
use Rattle.dd_nodes.specs.declared.node.DdErr.{DdErr}
use Rattle.dd_nodes.specs.declared.node.DdErr.TheVariants.{Full}
use Rattle.dd_nodes.specs.NodeList.{Values, function, IsNumber, Extends}
use Rattle.dd_ops.specs.Calls.{Answers}
use Rattle.dd_ops.specs.Growth.{Grows}
use Rattle.dd_nodes.specs.Table.{NodeTable, IsNodeTable}
use Rattle.dd_nodes.proofs.Extending.{extends_function, extends_more}
use Rattle.dd_ops.specs.declared.question.Question.{Question}
use Rattle.dd_ops.specs.Answers.{AreNumbers, IsAsked, IsAnswer, IsCofactor, IsReplaced, Keeps}
use Rattle.dd_nodes.specs.declared.node.Ref.{Ref}
use Rattle.dd_ops.proofs.SubstLemmas.{subst_extends}
use Rattle.dd_ops.proofs.QuestionLemmas.{asked_function}
use Rattle.dd_nodes.specs.Subfunctions.{Function}
use Rattle.dd_nodes.proofs.NodeLemmas.{function_false, function_true}
use Rattle.dd_ops.specs.Operations.{variable, not_of, and_of, or_of, minus_of, ite_of, cofactor_of, subst_of}

module _ (nodes : List Node) where
  false_number : function nodes 0 ≡ (λ _. false)
  false_number = λ i values. function_false nodes values i

  true_number : function nodes 1 ≡ (λ _. true)
  true_number = λ i values. function_true nodes values i

  pub ite_not : (f : Function) → ite_of f (function nodes 0) (function nodes 1) ≡ not_of f
  ite_not f = (λ i. ite_of f (false_number i) (true_number i)) ∙ (λ i values. by (f values) i)
    where
      by : (b : Bool) → cond b false true ≡ not b
      by true = refl
      by false = refl

  pub ite_and : (f g : Function) → ite_of f g (function nodes 0) ≡ and_of f g
  ite_and f g = (λ i. ite_of f g (false_number i)) ∙ (λ i values. by (f values) (g values) i)
    where
      by : (b c : Bool) → cond b c false ≡ (b && c)
      by true c = refl
      by false c = refl

  pub ite_or : (f g : Function) → ite_of f (function nodes 1) g ≡ or_of f g
  ite_or f g = (λ i. ite_of f (true_number i) g) ∙ (λ i values. by (f values) (g values) i)
    where
      by : (b c : Bool) → cond b true c ≡ (b || c)
      by true c = refl
      by false c = refl

  pub ite_minus : (f g : Function) → ite_of g (function nodes 0) f ≡ minus_of f g
  ite_minus f g = (λ i. ite_of g (false_number i) f) ∙ (λ i values. by (f values) (g values) i)
    where
      by : (b c : Bool) → cond c false b ≡ (b && not c)
      by true true = refl
      by true false = refl
      by false true = refl
      by false false = refl

  -- a node whose children are the constants
  pub node_variable : (v : ℕ) (values : Values) → (if values v then function nodes 1 values else function nodes 0 values) ≡ variable v values
  node_variable v values = (λ i. cond (values v) (function_true nodes values i) (function_false nodes values i)) ∙ by (values v)
    where
      by : (b : Bool) → cond b true false ≡ b
      by true = refl
      by false = refl

-- what follows of the value of an `Ok`
pub ok_then : {X Y : Type 0} {P Q : X → Type 0} (r : Result X Y) → IfOk r P → ((x : X) → P x → Q x) → IfOk r Q
ok_then (Ok x) p follows = follows x p
ok_then (Err y) p follows = tt

pub ok_both : {X Y : Type 0} {P Q R : X → Type 0} (r : Result X Y) → IfOk r P → IfOk r Q → ((x : X) → P x → Q x → R x) → IfOk r R
ok_both (Ok x) p q follows = follows x p q
ok_both (Err y) p q follows = tt

-- a table that a value shows, and what a call leaves of it
module _ (inside now after : NodeTable) (is : inside ≡ now) (table : IsNodeTable inside) (kept : Keeps inside after) where
  pub earlier_function : (n : ℕ) → IsNumber now.nodes n → function after.nodes n ≡ function now.nodes n
  earlier_function n number =
      extends_function inside.nodes after.nodes kept.nodes inside.vars table.reduced n (subst (λ (t : NodeTable). IsNumber t.nodes n) (sym is) number)
      ∙ ap (λ (t : NodeTable). function t.nodes n) is

  pub longer : length now.nodes ≤ length after.nodes
  longer =
      let grown : length after.nodes ≡ length inside.nodes + length kept.nodes.more = ap length kept.nodes.appended ∙ length-append inside.nodes kept.nodes.more in
      let same : length inside.nodes ≡ length now.nodes = ap (λ (t : NodeTable). length t.nodes) is in
      omega arith

  pub answer_function : (q : Question) → IsAsked now.nodes q → (r : ℕ) → IsAnswer after.nodes q r
      → function after.nodes r ≡ ite_of (function now.nodes q.f.0) (function now.nodes q.g.0) (function now.nodes q.h.0)
  answer_function q asked r answer =
      answer.value
      ∙ asked_function inside.nodes after.nodes kept.nodes inside.vars table.reduced q (subst (λ (t : NodeTable). IsAsked t.nodes q) (sym is) asked)
      ∙ ap (λ (t : NodeTable). ite_of (function t.nodes q.f.0) (function t.nodes q.g.0) (function t.nodes q.h.0)) is

  pub cofactor_function : (f v : ℕ) (b : Bool) → IsNumber now.nodes f → (r : ℕ) → IsCofactor after.nodes v b f r → function after.nodes r ≡ cofactor_of (function now.nodes f) v b
  cofactor_function f v b number r answer = answer.value ∙ ap (λ g. cofactor_of g v b) (earlier_function f number)

  pub subst_function : (map : List (ℕ × Ref)) → AreNumbers now.nodes map → (f : ℕ) → IsNumber now.nodes f → (r : ℕ) → IsReplaced after.nodes map f r
      → function after.nodes r ≡ subst_of now.nodes map (function now.nodes f)
  subst_function map numbers f number r answer =
      answer.value
      ∙ subst_extends inside.nodes after.nodes kept.nodes inside.vars table.reduced map (subst (λ (t : NodeTable). AreNumbers t.nodes map) (sym is) numbers) f (subst (λ (t : NodeTable). IsNumber t.nodes f) (sym is) number)
      ∙ ap (λ (t : NodeTable). subst_of t.nodes map (function t.nodes f)) is

  -- a call that keeps the nodes answers what its number denotes
  pub answers : IsNodeTable after → (wanted : Function) (r : Result Ref DdErr) → IfOk r (λ (k : Ref). function after.nodes k.0 ≡ wanted) → IfOk r (λ (k : Ref). IsNumber after.nodes k.0)
      → IfErr r (λ (e : DdErr). e ≡ Full) → Answers wanted now after r
  answers later wanted r value number only_full = record {
    value = value;
    in_table = number;
    only_full = only_full;
    table = later;
    vars = kept.vars ∙ ap (λ (t : NodeTable). t.vars) is;
    limit = kept.limit ∙ ap (λ (t : NodeTable). t.limit) is;
    nodes = subst (λ (t : NodeTable). Extends t.nodes after.nodes) is kept.nodes;
    longer = longer;
    earlier = earlier_function;
  }

-- the operations that are one if-then-else with constants
module _ (before after : NodeTable) (r : Result Ref DdErr) where
  pub answers_not : (f : Function) → Answers (ite_of f (function before.nodes 0) (function before.nodes 1)) before after r → Answers (not_of f) before after r
  answers_not f answer = subst (λ (w : Function). Answers w before after r) (ite_not before.nodes f) answer

  pub answers_and : (f g : Function) → Answers (ite_of f g (function before.nodes 0)) before after r → Answers (and_of f g) before after r
  answers_and f g answer = subst (λ (w : Function). Answers w before after r) (ite_and before.nodes f g) answer

  pub answers_or : (f g : Function) → Answers (ite_of f (function before.nodes 1) g) before after r → Answers (or_of f g) before after r
  answers_or f g answer = subst (λ (w : Function). Answers w before after r) (ite_or before.nodes f g) answer

  pub answers_minus : (f g : Function) → Answers (ite_of g (function before.nodes 0) f) before after r → Answers (minus_of f g) before after r
  answers_minus f g answer = subst (λ (w : Function). Answers w before after r) (ite_minus before.nodes f g) answer

  pub grows_not : (f : Function) → Grows (ite_of f (function before.nodes 0) (function before.nodes 1) ∷ []) before after r → Grows (not_of f ∷ []) before after r
  grows_not f growth = subst (λ (w : Function). Grows (w ∷ []) before after r) (ite_not before.nodes f) growth

  pub grows_and : (f g : Function) → Grows (ite_of f g (function before.nodes 0) ∷ []) before after r → Grows (and_of f g ∷ []) before after r
  grows_and f g growth = subst (λ (w : Function). Grows (w ∷ []) before after r) (ite_and before.nodes f g) growth

  pub grows_or : (f g : Function) → Grows (ite_of f (function before.nodes 1) g ∷ []) before after r → Grows (or_of f g ∷ []) before after r
  grows_or f g growth = subst (λ (w : Function). Grows (w ∷ []) before after r) (ite_or before.nodes f g) growth

  pub grows_minus : (f g : Function) → Grows (ite_of g (function before.nodes 0) f ∷ []) before after r → Grows (minus_of f g ∷ []) before after r
  grows_minus f g growth = subst (λ (w : Function). Grows (w ∷ []) before after r) (ite_minus before.nodes f g) growth

-- what an if-then-else answers after another call, it answers of the table before both
module _ (t0 t1 t2 : NodeTable) (other : Function) (r0 r : Result Ref DdErr) (first : Answers other t0 t1 r0) where
  pub ite_later : (f g h : ℕ) → IsNumber t0.nodes f → IsNumber t0.nodes g → IsNumber t0.nodes h
      → Answers (ite_of (function t1.nodes f) (function t1.nodes g) (function t1.nodes h)) t1 t2 r → Answers (ite_of (function t0.nodes f) (function t0.nodes g) (function t0.nodes h)) t0 t2 r
  ite_later f g h is_f is_g is_h second =
      let longer_first : length t0.nodes ≤ length t1.nodes = first.longer in
      let longer_second : length t1.nodes ≤ length t2.nodes = second.longer in
      record {
        value = ok_then r second.value (λ (k : Ref) value. value ∙ (λ i. ite_of (first.earlier f is_f i) (first.earlier g is_g i) (first.earlier h is_h i)));
        in_table = second.in_table;
        only_full = second.only_full;
        table = second.table;
        vars = second.vars ∙ first.vars;
        limit = second.limit ∙ first.limit;
        nodes = extends_more t0.nodes t1.nodes t2.nodes first.nodes second.nodes;
        longer = omega arith;
        earlier = λ n number. second.earlier n (omega arith) ∙ first.earlier n number;
      }
