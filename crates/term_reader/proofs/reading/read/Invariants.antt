use Rattle.term_reader.specs.Credits.{effort}
use Rattle.term_reader.specs.ReadingViews.{reader_in}
use Rattle.term_reader.proofs.ReadingTurns.{IsUnderWay}
use Rattle.term_reader.specs.KeptEntries.{KeepsEntries}
use Rattle.term_reader.proofs.reading.read.Given as goal

abbrev pub invariant-turns : goal.invariant-turns
invariant-turns l =
    IsUnderWay l.fn.items l.fn.k l.fn.symbols l.fn.terms (reader_in l.fn.settings l.fn.reader) l.symbols l.terms (reader_in l.fn.settings l.reader) l.turn
    × KeepsEntries l.fn.reader.names l.reader.names

abbrev pub decreases-turns : goal.decreases-turns
decreases-turns l = effort l.fn.items.nodes l.reader.frames l.turn
