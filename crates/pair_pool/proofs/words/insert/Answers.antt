use Rattle.std.proofs.Common.{length}
use Rattle.pair_pool.specs.Words.{cell_word, probe_start}
use Rattle.pair_pool.specs.Writes.{IsStopAt}
use Rattle.pair_pool.proofs.TableLemmas.{IsTable-set, not_there}
use Rattle.pair_pool.proofs.words.insert.Goals as goal

-- what `find` says of the empty place where it stopped, over the words and the cell of the call
stop :
    (c : goal.After-words-1) →
    IsStopAt c.args.words.now.items (probe_start (length c.args.words.now.items) c.args.first c.args.second)
    (cell_word c.args.first c.args.second) c.in-Free.place 0
stop c =
    rw (c.requires.size, ← c.start_of.ensures, ← c.word_of-wanted.ensures.value, ← c.deref.ensures.value) c.in-Free.ensures

pub returns-in-Free-clause-table : goal.returns-in-Free-clause-table
returns-in-Free-clause-table c =
    let here = stop c in
    rw c.word_of-wanted.ensures.value
    (IsTable-set _ c.requires.table c.args.first c.args.second c.in-Free.place c.requires.first c.requires.second
    here.inside here.stops here.reached)

pub returns-in-Free-clause-was_there : goal.returns-in-Free-clause-was_there
returns-in-Free-clause-was_there c q stands =
    let here = stop c in
    absurd
    (not_there _ c.requires.table c.args.first c.args.second c.in-Free.place here.reached here.stops q stands)
