-- Public. Literals with and without `not`.
use Rattle.std.specs.Prelude.{◌≡◌, ℕ}
use Rattle.sym_table.specs.Table.{Table}
use Rattle.term_model.specs.Terms.{Term, not_of}
use Rattle.term_pool.specs.Views.{TermsView, RefersTo}
use Rattle.rule_model.specs.Clausal.{as_it_stands}
use Rattle.schema_match.specs.declared.signs.Sign.{Sign}
use Rattle.schema_match.specs.declared.signs.Sign.TheVariants.{Itself, Negation}

abbrev pub sign_of : Sign → Term → Term
sign_of Itself t = as_it_stands t
sign_of Negation t = not_of t

-- the literal stands with this sign for the term of a reference
pub record IsSigned (s : Table) (v : TermsView) (sign : Sign) (a : ℕ) (literal : Term) : Type 0 where
  pub means : Term
  pub refers : RefersTo s v a means
  pub is : literal ≡ sign_of sign means
