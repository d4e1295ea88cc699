use Rattle.term_reader.proofs.ViewsStay.{reader_stays}
use Rattle.term_reader.proofs.view_laws.readers_stay.Goals as goal

pub returns : goal.returns
returns c s z v w r sc p adds terms h = reader_stays s z v w adds terms r sc p h
