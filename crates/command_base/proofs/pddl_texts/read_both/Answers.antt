use Rattle.command_base.proofs.pddl_texts.read_both.Goals as goal

pub returns-clause-holds : goal.returns-clause-holds
returns-clause-holds g c =
    let read = c.in_ok-read.ensures in
    record {
      holds_domain = record { bytes = _; file = read.domain_file; spelled = read.domain_spelled };
      holds_problem = record { bytes = _; file = read.problem_file; spelled = read.problem_spelled };
    }
