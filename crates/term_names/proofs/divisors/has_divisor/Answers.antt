-- Fewer than two terms have no second one.
use Rattle.std.proofs.Common.{refl}
use Rattle.term_model.specs.Terms.{list_of}
use Rattle.term_names.proofs.DivisorLemmas.{none_divided}
use Rattle.term_names.proofs.divisors.has_divisor.Goals as goal

pub returns-in_default-clause-divisor : goal.returns-in_default-clause-divisor
returns-in_default-clause-divisor c us refer =
    none_divided us c.args.args.now c.args.symbols.now c.args.terms.now (list_of us) refl refer c.in_default.len_below
