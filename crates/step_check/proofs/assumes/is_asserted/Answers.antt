use Rattle.std.proofs.Common.{refl}
use Rattle.step_check.proofs.AssumeLemmas.{known}
use Rattle.step_check.proofs.assumes.is_asserted.Goals as goal

pub is_asserted-requires-clause-known : goal.is_asserted-requires-clause-known
is_asserted-requires-clause-known c = known c.args.symbols.now c.args.terms.now c.args.terms.now c.args.r refl c.requires.term

pub returns-in-Check-clause-asserted : goal.returns-in-Check-clause-asserted
returns-in-Check-clause-asserted c = rw c.in-Check.is c.is_asserted.ensures.asserted

pub returns-in-Strict-clause-asserted : goal.returns-in-Strict-clause-asserted
returns-in-Strict-clause-asserted c = rw c.in-Strict.is c.has.ensures
