-- The operands of an application.
use Rattle.std.proofs.Common.{◌≡◌, ◌↔◌, ◌∙◌, ℕ, Bool, IsTrue, Some, refl, sym, ap}
use Rattle.std.specs.List.{slice_get}
use Rattle.sym_table.specs.Table.{Table}
use Rattle.term_model.specs.declared.symbols.Op.{Op}
use Rattle.term_model.specs.Terms.{Term, operation, term, no_terms, not_of}
use Rattle.term_pool.specs.Reading.{arguments_of}
use Rattle.term_pool.specs.Views.{TermsView, IsTerm, RefersTo}
use Rattle.term_pool.proofs.References.{AreOne}
use Rattle.rule_model.proofs.ArgumentLists.{same_inside}
use Rattle.term_parts.specs.Parts.{IsOver, StandsUnder}
use Rattle.term_parts.proofs.PartLemmas.{over_two}
use Rattle.rules_simplify.specs.Conjoined.{AreOperands}

pub two_are_over : (op : Op) (t x y : Term) → t ≡ operation op (term x (term y no_terms)) → IsOver op 2 t
two_are_over op t x y e = rw e (refl, refl)

pub operands_are : (s : Table) (v : TermsView) (op : Op) (a b : ℕ) (t : Term) → IsOver op 2 t → ((x : Term) → slice_get (arguments_of t) 0 ≡ Some x → RefersTo s v a x) → ((x : Term) → slice_get (arguments_of t) 1 ≡ Some x → RefersTo s v b x) → AreOperands s v op (a, b) t
operands_are s v op a b t is first second =
    let two = over_two op t is in
    record {
      first = two.0;
      second = two.1;
      first_refers = first two.0 (ap (λ x. slice_get (arguments_of x) 0) two.2);
      second_refers = second two.1 (ap (λ x. slice_get (arguments_of x) 1) two.2);
      is = two.2;
    }

-- the operands of a term are terms
module _ (s : Table) (v : TermsView) (op : Op) (r : ℕ) (p : ℕ × ℕ) (are : (t : Term) → RefersTo s v r t → AreOperands s v op p t) (is : IsTerm s v r) where
  pub first_is_term : IsTerm s v p.0
  first_is_term = let both = are is.means is.refers in record { means = both.first; refers = both.first_refers }

  pub second_is_term : IsTerm s v p.1
  second_is_term = let both = are is.means is.refers in record { means = both.second; refers = both.second_refers }

pub negation_told : (s : Table) (v : TermsView) → AreOne s v → (inner r : ℕ) (t u : Term) (b : Bool) → StandsUnder s v inner t → RefersTo s v r u → IsTrue b ↔ (inner ≡ r) → IsTrue b ↔ (t ≡ not_of u)
negation_told s v one inner r t u b under refers test =
    let same = one inner r under.inner u under.refers refers in
    (λ e. under.is ∙ ap not_of (same.0 (test.0 e)), λ e. test.1 (same.1 (same_inside under.inner u (sym under.is ∙ e))))
