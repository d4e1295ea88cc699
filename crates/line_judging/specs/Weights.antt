-- Public. Lines whose terms stand in the pool.
use Rattle.std.specs.Prelude.{◌<◌}
use Rattle.sym_table.specs.Table.{Table}
use Rattle.term_pool.specs.Views.{TermsView, IsTerm}
use Rattle.linear_lines.specs.declared.lines.Line.{Line}

-- the references of the line stand for terms, and its denominator is a number
pub record IsLineOfTerms (s : Table) (v : TermsView) (line : Line) : Type 0 where
  pub first : IsTerm s v line.comparison.first
  pub second : IsTerm s v line.comparison.second
  pub some : 0 < line.denominator
