-- Private. Terms that are joined by `and`, implications from such terms, and the steps that make them.
use Rattle.std.specs.Prelude.{◌≡◌, ℕ, List, [], ◌∷◌}
use Rattle.sym_table.specs.Table.{Table}
use Rattle.term_model.specs.declared.symbols.Op.{Op}
use Rattle.term_model.specs.Terms.{Term, operation, term, no_terms}
use Rattle.term_pool.specs.Views.{TermsView, RefersTo}
use Rattle.rules_simplify.specs.declared.conjoining.FromConjunction.{FromConjunction}

-- the references stand for the operands of the application that the term is
pub record AreOperands (s : Table) (v : TermsView) (op : Op) (p : ℕ × ℕ) (t : Term) : Type 0 where
  pub first : Term
  pub second : Term
  pub first_refers : RefersTo s v p.0 first
  pub second_refers : RefersTo s v p.1 second
  pub is : t ≡ operation op (term first (term second no_terms))

abbrev pub conjunction : Term → Term → Term
conjunction t u = operation Op.And (term t (term u no_terms))

abbrev pub implication_of : Term → Term → Term
implication_of t u = operation Op.Implies (term t (term u no_terms))

-- a term to which others are joined by `and` one after the other
abbrev pub conjoined : Term → List Term → Term
conjoined t [] = t
conjoined t (u ∷ us) = conjoined (conjunction t u) us

-- the term is the implication of the references
pub record IsFrom (s : Table) (v : TermsView) (from : FromConjunction) (t : Term) : Type 0 where
  pub first : Term
  pub second : Term
  pub conclusion : Term
  pub first_refers : RefersTo s v from.first first
  pub second_refers : RefersTo s v from.second second
  pub conclusion_refers : RefersTo s v from.conclusion conclusion
  pub is : t ≡ implication_of (conjunction first second) conclusion

pub record IsSomeFrom (s : Table) (v : TermsView) (from : FromConjunction) : Type 0 where
  pub means : Term
  pub is : IsFrom s v from means
