-- By recursion on the commands.
use Rattle.alethe_text.proofs.ShortLists.{commands_short_at}
use Rattle.alethe_text.proofs.laws.proofs_are_short.Goals as goal

pub returns-clause-clauses : goal.returns-clause-clauses
returns-clause-clauses c source settings before proof after i h = (commands_short_at c.tokens_are_spelled.ensures.spelled source settings before proof after i h).0

pub returns-clause-premises : goal.returns-clause-premises
returns-clause-premises c source settings before proof after i h = (commands_short_at c.tokens_are_spelled.ensures.spelled source settings before proof after i h).1
