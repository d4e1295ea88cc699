-- A list that is found was read before; what is read now is kept where no name was given.
use Rattle.std.proofs.Common.{◌≡◌, ap, length, arith}
use Rattle.std.proofs.lemmas.Bool.Decides.{nat_tests}
use Rattle.std.proofs.lemmas.Result.{err_from_is_err_and}
use Rattle.term_names.specs.Entries.{EntriesView}
use Rattle.term_names.specs.Known.{base_of}
use Rattle.term_reader.specs.ReadingViews.{reader_in}
use Rattle.term_reader.proofs.Coming.{faulted}
use Rattle.term_reader.proofs.ReadLately.{list_found, read_kept}
use Rattle.term_reader.proofs.reading_once.read_once.Goals as goal

pub returns-in-Some-find-clause-reads : goal.returns-in-Some-find-clause-reads
returns-in-Some-find-clause-reads c sc p idle right =
    list_found _ _ (reader_in c.args.settings.now c.args.reader.now) sc p c.args.items.now c.args.k _ c.in-Some-find.value c.args.lately.now idle c.in-Some.ensures (c.in-Some-find.ensures _ p sc right) right

pub returns-in_err-value-clause-reads : goal.returns-in_err-value-clause-reads
returns-in_err-value-clause-reads c sc p idle right =
    let is = err_from_is_err_and c.from_residual.result c.from_residual.ensures.1 in
    rw (is.1, is.2) (faulted (c.in_err-value.ensures.reads sc p idle))

pub returns-clause-reads : goal.returns-clause-reads
returns-clause-reads c sc p idle right =
    let count : length c.read.new.reader.names.own.named ≡ length c.args.reader.now.names.own.named = grind (arith, nat_tests, c.named_count.ensures, c.named_count-named.ensures, c.if-named_count-named.false) in
    let own = c.in_ok-value.ensures.own.same count in
    read_kept _ _ _ _ (reader_in c.args.settings.now c.args.reader.now) (reader_in c.args.settings.now c.read.new.reader) sc p c.args.items.now c.args.k c.list_bytes-list.result c.in_ok-value.value
    c.args.lately.now c.remember.new.lately idle c.list_bytes-list.ensures
    (ap (λ (o : EntriesView). record { base = base_of c.args.settings.now.base; own = o }) own)
    c.read.ensures.grow right (λ u h is. c.in_ok-remember.ensures _ p u h is) (c.in_ok-value.ensures.reads sc p idle)
