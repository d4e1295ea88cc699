use Rattle.sexpr.proofs.Spelling.{spelled_next}
use Rattle.sexpr.proofs.Respelling.{read_next, end_next}
use Rattle.sexpr.proofs.laws.tokens_are_spelled.Goals as goal

pub returns-clause-spelled : goal.returns-clause-spelled
returns-clause-spelled c = spelled_next

pub returns-clause-read : goal.returns-clause-read
returns-clause-read c = read_next

pub returns-clause-end : goal.returns-clause-end
returns-clause-end c = end_next
