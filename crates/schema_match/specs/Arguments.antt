-- Public. Applications, with or without a sign, and their arguments.
use Rattle.std.specs.Prelude.{◌≡◌, ◌≢◌, ℕ, List, ◌∷◌, length}
use Rattle.sym_table.specs.Table.{Table}
use Rattle.term_model.specs.declared.symbols.Op.{Op}
use Rattle.term_model.specs.Terms.{Term, operation, terms_of}
use Rattle.term_pool.specs.Reading.{arguments_of}
use Rattle.term_pool.specs.Views.{TermsView, RefersTo, ReferToAll}
use Rattle.schema_match.specs.declared.signs.Sign.{Sign}
use Rattle.schema_match.specs.Signs.{sign_of}

-- by some table, r stands for a term with so many arguments
pub record HasSoMany (v : TermsView) (r count : ℕ) : Type 0 where
  pub symbols : Table
  pub means : Term
  pub refers : RefersTo symbols v r means
  pub many : length (arguments_of means) ≡ count

-- the literal is the application with a sign, and the references are those of its arguments
pub record HasArguments (s : Table) (v : TermsView) (op : Op) (sign : Sign) (literal : Term) (items : List ℕ) : Type 0 where
  pub first : Term
  pub others : List Term
  pub is : literal ≡ sign_of sign (operation op (terms_of (first ∷ others)))
  pub refer : ReferToAll s v items (first ∷ others)

abbrev pub HasNoArguments : Op → Sign → Term → Type 0
HasNoArguments op sign literal =
    (first : Term) (others : List Term) → literal ≢ sign_of sign (operation op (terms_of (first ∷ others)))
