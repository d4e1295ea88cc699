-- Private. The two terms to which an operator is applied, and the operators of an order.
use Rattle.std.specs.Prelude.{ℕ, ◌≡◌, Bool, true, false}
use Rattle.sym_table.specs.Table.{Table}
use Rattle.term_model.specs.declared.symbols.Op.{Op}
use Rattle.term_model.specs.Terms.{Term, operation, term, no_terms}
use Rattle.term_pool.specs.Views.{TermsView, RefersTo}

-- the references stand for the operands of the application that the term is
pub record AreOperands (s : Table) (v : TermsView) (op : Op) (p : ℕ × ℕ) (t : Term) : Type 0 where
  pub first : Term
  pub second : Term
  pub first_refers : RefersTo s v p.0 first
  pub second_refers : RefersTo s v p.1 second
  pub is : t ≡ operation op (term first (term second no_terms))

-- whether an operator is that of an order
abbrev pub orders : Op → Bool
orders Op.LessEq = true
orders Op.Less = true
orders Op.GreaterEq = true
orders Op.Greater = true
orders _ = false
