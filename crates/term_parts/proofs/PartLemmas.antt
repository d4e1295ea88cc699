-- Cited by crates above. What a term is an application of, and its arguments.
use Rattle.std.proofs.Common.{◌≡◌, ◌≢◌, ◌↔◌, ◌<◌, ℕ, length, false, refl, sym, ◌∙◌, ap, subst, arith, IsTrue, nat_eq, Some}
use Rattle.std.specs.List.{slice_get}
use Rattle.std.proofs.lemmas.Bool.{eqb-true, eq-eqb}
use Rattle.sym_table.specs.Leaf.{operator}
use Rattle.sym_table.specs.Table.{Table, IsTable, IsLeaf}
use Rattle.term_model.specs.declared.symbols.Op.{Op}
use Rattle.term_model.specs.Flips.{equality}
use Rattle.term_model.specs.Terms.{Term, numeral, variable, operation, call, let_in, term, no_terms, not_of}
use Rattle.term_pool.specs.Building.{IsAppliedLeaf}
use Rattle.term_pool.specs.Reading.{arguments_of, IsLet, HasArgument}
use Rattle.term_pool.specs.Views.{TermsView, RefersTo, IsTerm}
use Rattle.rule_model.specs.Clausal.{as_it_stands}
use Rattle.term_parts.specs.Parts.{IsOver, StandsUnder, AreSidesOf}

-- a head that is the operator's leaf, with so many arguments
pub over_is : (s : Table) (k n : ℕ) (op : Op) (t : Term) → IsLeaf s k (operator op) → IsAppliedLeaf s k (arguments_of t) t → ((IsLet t → ⊥) → n ≡ length (arguments_of t)) → IsOver op n t
over_is s k n op (numeral z) leaf app count = absurd (let e = app.0 in cc)
over_is s k n op (variable x) leaf app count = absurd (let e = app.0 in cc)
over_is s k n op (operation o ts) leaf app count = (let e = app.0 in cc, sym (count (λ h. h)))
over_is s k n op (call f ts) leaf app count = absurd (let e = app.0 in cc)
over_is s k n op (let_in bs u) leaf app count = absurd app

-- the number of arguments is one
pub one_count : (m n : ℕ) (op : Op) (t : Term) → IsOver op m t → IsOver op n t → m ≡ n
one_count m n op (operation o us) h k = sym h.1 ∙ k.1
one_count m n op (numeral z) h k = absurd h
one_count m n op (variable x) h k = absurd h
one_count m n op (call f us) h k = absurd h
one_count m n op (let_in bs u) h k = absurd h

pub over_exactly : (s : Table) (k m n : ℕ) (op : Op) (t : Term) → IsLeaf s k (operator op) → IsAppliedLeaf s k (arguments_of t) t → ((IsLet t → ⊥) → m ≡ length (arguments_of t)) → IsTrue (nat_eq m n) ↔ IsOver op n t
over_exactly s k m n op t leaf app count =
    let is = over_is s k m op t leaf app count in
    (λ e. subst (λ i. IsOver op i t) (eqb-true m n e) is, λ h. eq-eqb m n (one_count m n op t is h))

-- a head that is another leaf
pub other_head : (s : Table) (j k n : ℕ) (op : Op) (t : Term) → IsTable s → IsLeaf s j (operator op) → k ≢ j → IsAppliedLeaf s k (arguments_of t) t → ¬ IsOver op n t
other_head s j k n op (numeral z) table leaf other app h = h
other_head s j k n op (variable x) table leaf other app h = h
other_head s j k n op (operation o ts) table leaf other app h =
    other (table.apart k j (operator op) (operator op) (rw (← h.0) app.0) leaf refl refl)
other_head s j k n op (call f ts) table leaf other app h = h
other_head s j k n op (let_in bs u) table leaf other app h = h

pub let_is_not_over : (n : ℕ) (op : Op) (t : Term) → IsLet t → ¬ IsOver op n t
let_is_not_over n op (numeral z) is h = h
let_is_not_over n op (variable x) is h = h
let_is_not_over n op (operation o ts) is h = is
let_is_not_over n op (call f ts) is h = h
let_is_not_over n op (let_in bs u) is h = h

-- a test that fails
pub false_is : {P : Type 0} → ¬ P → IsTrue false ↔ P
false_is n = (λ e. absurd cc, λ h. absurd (n h))

-- applications to one and to two arguments
pub over_one : (op : Op) (t : Term) → IsOver op 1 t → (a : Term) × (t ≡ operation op (term a no_terms))
over_one op (operation o (term a no_terms)) h = (a, ap (λ x. operation x (term a no_terms)) h.0)
over_one op (operation o no_terms) h = absurd (let e = h.1 in omega (arith, e))
over_one op (operation o (term a (term b ts))) h = absurd (let e = h.1 in omega (arith, e))
over_one op (numeral z) h = absurd h
over_one op (variable x) h = absurd h
over_one op (call f us) h = absurd h
over_one op (let_in bs u) h = absurd h

pub over_two : (op : Op) (t : Term) → IsOver op 2 t → (a : Term) × (b : Term) × (t ≡ operation op (term a (term b no_terms)))
over_two op (operation o (term a (term b no_terms))) h = (a, b, ap (λ x. operation x (term a (term b no_terms))) h.0)
over_two op (operation o no_terms) h = absurd (let e = h.1 in omega (arith, e))
over_two op (operation o (term a no_terms)) h = absurd (let e = h.1 in omega (arith, e))
over_two op (operation o (term a (term b (term c ts)))) h = absurd (let e = h.1 in omega (arith, e))
over_two op (numeral z) h = absurd h
over_two op (variable x) h = absurd h
over_two op (call f us) h = absurd h
over_two op (let_in bs u) h = absurd h

pub not_is_over : (t u : Term) → t ≡ not_of u → IsOver Op.Not 1 t
not_is_over t u e = rw e (refl, refl)

pub equality_is_over : (t u w : Term) → t ≡ equality u w → IsOver Op.Equal 2 t
equality_is_over t u w e = rw e (refl, refl)

count_of : (op : Op) (n : ℕ) (t : Term) → IsOver op n t → length (arguments_of t) ≡ n
count_of op n (operation o us) h = h.1
count_of op n (numeral z) h = absurd h
count_of op n (variable x) h = absurd h
count_of op n (call f us) h = absurd h
count_of op n (let_in bs u) h = absurd h

-- there is an argument at a place below the number
pub has_argument : (s : Table) (v : TermsView) (r n i : ℕ) (op : Op) → IsTerm s v r → ((t : Term) → RefersTo s v r t → IsOver op n t) → i < n → HasArgument v r i
has_argument s v r n i op is over below =
    record {
      symbols = s;
      means = is.means;
      refers = is.refers;
      there = let e = count_of op n is.means (over is.means is.refers) in omega (arith, e, below);
    }

-- the argument of a negation, and the sides of an equality
pub negated_is : (s : Table) (v : TermsView) (r a : ℕ) (t : Term) → IsOver Op.Not 1 t → ((b : Term) → slice_get (arguments_of t) 0 ≡ Some b → RefersTo s v a b) → StandsUnder s v a t
negated_is s v r a t is argument =
    let one = over_one Op.Not t is in
    record { inner = one.0; refers = argument one.0 (ap (λ x. slice_get (arguments_of x) 0) one.1); is = one.1 }

pub sides_are : (s : Table) (v : TermsView) (a b : ℕ) (t : Term) → IsOver Op.Equal 2 t → ((x : Term) → slice_get (arguments_of t) 0 ≡ Some x → RefersTo s v a x) → ((x : Term) → slice_get (arguments_of t) 1 ≡ Some x → RefersTo s v b x) → AreSidesOf s v as_it_stands (a, b) t
sides_are s v a b t is first second =
    let two = over_two Op.Equal t is in
    record {
      left = two.0;
      right = two.1;
      left_refers = first two.0 (ap (λ x. slice_get (arguments_of x) 0) two.2);
      right_refers = second two.1 (ap (λ x. slice_get (arguments_of x) 1) two.2);
      is = two.2;
    }

pub under_is_term : (s : Table) (v : TermsView) (r a : ℕ) → IsTerm s v r → ((t : Term) → RefersTo s v r t → StandsUnder s v a t) → IsTerm s v a
under_is_term s v r a is under =
    let inner = under is.means is.refers in record { means = inner.inner; refers = inner.refers }

-- an equality under a negation
pub denied_are : (s : Table) (v : TermsView) (a : ℕ) (p : ℕ × ℕ) (t : Term) → StandsUnder s v a t → ((u : Term) → RefersTo s v a u → AreSidesOf s v as_it_stands p u) → AreSidesOf s v not_of p t
denied_are s v a p t under sides =
    let inner = sides under.inner under.refers in
    record {
      left = inner.left;
      right = inner.right;
      left_refers = inner.left_refers;
      right_refers = inner.right_refers;
      is = under.is ∙ ap not_of inner.is;
    }

pub not_denied : (s : Table) (v : TermsView) (a : ℕ) (t u w : Term) → StandsUnder s v a t → ((x y z : Term) → RefersTo s v a x → x ≢ equality y z) → t ≢ not_of (equality u w)
not_denied s v a t u w under other e =
    other under.inner u w under.refers (let f : not_of under.inner ≡ not_of (equality u w) = sym under.is ∙ e in cc)
