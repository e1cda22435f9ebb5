use Rattle.std.proofs.lemmas.Bool.{false≢true}
use Rattle.slot_board.proofs.Endings.{ends_with}
use Rattle.cert_check.proofs.judging.adds_nothing.Goals as goal

pub returns-in-Weak : goal.returns-in-Weak
returns-in-Weak c start f g has board f_small g_small = (has, λ e. absurd (false≢true e))

pub returns-in-Strong : goal.returns-in-Strong
returns-in-Strong c start f g has board f_small g_small = (has, λ e. absurd (false≢true e))

pub returns-in-Cyclic : goal.returns-in-Cyclic
returns-in-Cyclic c start f g has board f_small g_small =
    ends_with start c.has_nothing_new.new.enc c.has_nothing_new.new.board.slots.items _ _ c.has_nothing_new.result (λ found now. (now.0, λ is. (c.in-Cyclic.is, now.1.0 is)))
    (c.has_nothing_new.ensures start f g has board f_small g_small)
