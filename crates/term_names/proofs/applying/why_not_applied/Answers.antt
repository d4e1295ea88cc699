-- By the symbol's leaf and the sorts of the arguments.
use Rattle.std.proofs.Common.{sym, ◌∙◌, arith}
use Rattle.term_names.proofs.AppliedSymbols.{values-sorts}
use Rattle.term_names.proofs.applying.why_not_applied.Goals as goal

pub sorts_from-requires : goal.sorts_from-requires
sorts_from-requires c = omega (arith, c.requires.some)

pub returns-in-Symbol : goal.returns-in-Symbol
returns-in-Symbol c v m ts head values =
    c.why_not_symbol.ensures m ts (rw c.in-Symbol.is at head) (sym (c.sorts_from.ensures ∙ values-sorts c.args.tables.now.symbols.now v _ ts values))
