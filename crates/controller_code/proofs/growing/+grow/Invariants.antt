-- How many questions may still be asked falls.
use Rattle.controller_code.proofs.growing.+grow.Given as goal

abbrev pub decreases-grow : goal.decreases-grow
decreases-grow l = l.questions
