use Rattle.std.proofs.lemmas.Bool.{OnTrue_at, OnFalse_at}
use Rattle.schema_match.proofs.Loops.{told_fits}
use Rattle.schema_match.proofs.matching.fits.Goals as goal

pub returns-clause-fits : goal.returns-clause-fits
returns-clause-fits c ps ts is refer =
    told_fits c.args.symbols.now c.args.terms.now c.fits_with.new.letters ps ts c.in_ok-yes.yes
    (λ e. OnTrue_at e c.in_ok-yes.ensures.fits ps ts is refer) (λ e. OnFalse_at e c.in_ok-yes.ensures.other ps ts is refer)
