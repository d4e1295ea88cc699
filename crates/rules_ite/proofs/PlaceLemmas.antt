-- The arguments of applications at their places.
use Rattle.std.proofs.Common.{◌≡◌, ◌<◌, ℕ, length, Some, refl, ◌∙◌, ap}
use Rattle.std.specs.List.{slice_get}
use Rattle.sym_table.specs.Table.{Table}
use Rattle.term_model.specs.declared.symbols.Op.{Op}
use Rattle.term_model.specs.Terms.{Term, Terms, numeral, variable, operation, call, let_in, term, no_terms, list_of}
use Rattle.term_parts.specs.Parts.{IsOver}
use Rattle.term_pool.specs.Reading.{arguments_of, IsLet, HasArgument}
use Rattle.term_pool.specs.Views.{TermsView, RefersTo, IsTerm}
use Rattle.schema_match.proofs.Counts.{three}
use Rattle.schema_match.proofs.OverLemmas.{over_term}

-- an application to so many arguments has one at each place
pub has_place : (s : Table) (v w : TermsView) (r n i : ℕ) (op : Op) → w ≡ v → IsTerm s v r → ((t : Term) → RefersTo s v r t → IsOver op n t) → i < n → HasArgument w r i
has_place s v w r n i op same is over below =
    rw same
    (let argument : HasArgument v r i = record {
      symbols = s;
      means = is.means;
      refers = is.refers;
      there = within (over_term op n is.means (over is.means is.refers));
    } in
    argument)
  where
    within : ((us : Terms) × (is.means ≡ operation op us) × (length (list_of us) ≡ n) × (arguments_of is.means ≡ list_of us) × (IsLet is.means → ⊥)) → i < length (arguments_of is.means)
    within (us, e, count, arguments, no_let) = rw (arguments, count) below

-- applications to three arguments
pub over_three : (op : Op) (t : Term) → IsOver op 3 t → (a : Term) × (b : Term) × (c : Term) × (t ≡ operation op (term a (term b (term c no_terms))))
over_three op (operation o ts) h = (let is = three ts h.1 in (is.0, is.1, is.2, ap (λ o. operation o ts) h.0 ∙ ap (operation op) is.3))
over_three op (numeral z) h = absurd h
over_three op (variable x) h = absurd h
over_three op (call f us) h = absurd h
over_three op (let_in bs u) h = absurd h

-- the arguments at their places
pub first_of_three : (op : Op) (t a b c : Term) → t ≡ operation op (term a (term b (term c no_terms))) → slice_get (arguments_of t) 0 ≡ Some a
first_of_three op t a b c e = rw e refl

pub second_of_three : (op : Op) (t a b c : Term) → t ≡ operation op (term a (term b (term c no_terms))) → slice_get (arguments_of t) 1 ≡ Some b
second_of_three op t a b c e = rw e refl

pub third_of_three : (op : Op) (t a b c : Term) → t ≡ operation op (term a (term b (term c no_terms))) → slice_get (arguments_of t) 2 ≡ Some c
third_of_three op t a b c e = rw e refl
