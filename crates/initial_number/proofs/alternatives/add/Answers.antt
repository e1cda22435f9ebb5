use Rattle.std.proofs.Common.{subst, sym}
use Rattle.task_core.specs.States.{ShowsVectors, vector}
use Rattle.task_core.specs.Initial.{add_state}
use Rattle.task_core.proofs.StateLists.{shows_added}
use Rattle.initial_number.proofs.alternatives.add.Goals as goal

pub returns : goal.returns
returns c = λ n vs within shows.
    subst (λ keys. ShowsVectors n keys (add_state vs (vector n c.args.state))) (sym c.in_ok-insert_full.ensures.keys)
    (shows_added n c.args.made.now.keys vs c.args.state within shows)
