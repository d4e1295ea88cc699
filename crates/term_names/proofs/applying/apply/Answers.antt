use Rattle.term_names.proofs.AppliedSymbols.{term-refused}
use Rattle.term_names.proofs.applying.apply.Goals as goal

pub returns-in-Symbol-clause-makes : goal.returns-in-Symbol-clause-makes
returns-in-Symbol-clause-makes c = λ m ts head values. c.apply_symbol.ensures.makes m ts (rw c.in-Symbol.is at head) values

pub returns-in-Fixed-clause-makes : goal.returns-in-Fixed-clause-makes
returns-in-Fixed-clause-makes c =
    λ m ts head values. term-refused _ c.args.terms.now c.args.from c.args.values.now m ts c.requires.some values (rw c.in-Fixed.is at head)
