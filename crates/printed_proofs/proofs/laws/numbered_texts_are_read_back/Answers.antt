use Rattle.printed_proofs.proofs.NumberedCommands.{text_printed}
use Rattle.printed_proofs.proofs.laws.numbered_texts_are_read_back.Goals as goal

pub returns : goal.returns
returns c = text_printed
