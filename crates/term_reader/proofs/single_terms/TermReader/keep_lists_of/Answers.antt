-- No list is kept any more, so those that are kept are right.
use Rattle.std.proofs.Common.{reverse, sym, subst}
use Rattle.term_reader.specs.ProblemViews.{IsReaderOf}
use Rattle.term_reader.specs.ReadingViews.{reader_in}
use Rattle.term_reader.proofs.PushedVariables.{reader_keeping}
use Rattle.term_reader.proofs.single_terms.TermReader.keep_lists_of.Goals as goal

pub returns : goal.returns
returns c s v sc p h =
    let r = c.self.inside in
    reader_keeping s v (record { reader = reader_in r.settings r.reader; pushed = reverse r.pushed.items; lately = r.lately }) c.turn_to.new.self sc p
    c.turn_to.ensures (subst (λ q. IsReaderOf s v q sc p) (sym c.self.view_is) h)
