use Rattle.std.proofs.Common.{sym, ◌∙◌, arith}
use Rattle.std.proofs.lemmas.Bool.{false≢true}
use Rattle.exec_graph.specs.Values.{followers_at}
use Rattle.goal_witness.proofs.Kept.{kept_follows, kept_from, kept_marked}
use Rattle.goal_witness.proofs.rounds.follows_in.Goals as goal

pub is_marked-requires : goal.is_marked-requires
is_marked-requires g c = let n = c.requires.zone.count in omega (arith, n, c.requires.other)

pub returns-then-not-is_marked : goal.returns-then-not-is_marked
returns-then-not-is_marked g c = (
  (λ e. absurd (false≢true e)),
  (λ x. absurd (false≢true (sym c.if-not-is_marked.true ∙ (c.is_marked.ensures ∙ kept_marked (followers_at c.args.zone.now.graph.now) c.args.zone.now.inside.now c.args.number c.args.other x)))),
)

pub returns : goal.returns
returns g c = (
  (λ e. kept_from (followers_at c.args.zone.now.graph.now) c.args.zone.now.inside.now c.args.number c.args.other (c.follows.ensures.0 e) (sym c.is_marked.ensures ∙ c.if-not-is_marked.false)),
  (λ x. c.follows.ensures.1 (kept_follows (followers_at c.args.zone.now.graph.now) c.args.zone.now.inside.now c.args.number c.args.other x)),
)
