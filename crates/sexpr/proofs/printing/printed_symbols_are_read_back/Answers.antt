use Rattle.sexpr.proofs.ReadingBack.{reads_back}
use Rattle.sexpr.proofs.printing.printed_symbols_are_read_back.Goals as goal

pub returns : goal.returns
returns c = reads_back
