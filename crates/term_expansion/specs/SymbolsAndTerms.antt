-- Public. Symbols and terms as one: what references stand for needs both.
use Rattle.sym_table.specs.Table as table
use Rattle.sym_table.specs.Table.{Table}
use Rattle.term_pool.specs.Views.{TermsView, KeepsTerms}

pub record SymbolsAndTerms : Type 0 where
  pub symbols : Table
  pub terms : TermsView

abbrev pub both : Table → TermsView → SymbolsAndTerms
both s v = record { symbols = s; terms = v }

-- what stood for something still does
pub record Grow (old new : SymbolsAndTerms) : Type 0 where
  pub symbols : table.Keeps old.symbols new.symbols
  pub terms : KeepsTerms old.terms new.terms
