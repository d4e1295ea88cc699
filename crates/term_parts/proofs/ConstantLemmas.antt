-- Constants are read by their form.
use Rattle.std.proofs.Common.{◌≡◌, ℕ, ℤ, pos, neg_ℤ, ◌≤ℤ◌, ◌-ℤ◌, FitsSigned, to_z, of_z, Some, None, refl, sym, ap, ◌∙◌, arith}
use Rattle.std.proofs.lemmas.Int.{ints}
use Rattle.std.specs.List.{slice_get}
use mir.Syntax.{w128}
use Rattle.sym_table.specs.Table.{Table}
use Rattle.term_model.specs.declared.symbols.Op.{Op}
use Rattle.term_model.specs.Terms.{Term, numeral, variable, operation, call, let_in, no_terms, term}
use Rattle.term_parts.specs.Numerals.{numeral_number}
use Rattle.term_parts.specs.Parts.{IsOver}
use Rattle.term_parts.proofs.PartLemmas.{over_one}
use Rattle.term_pool.specs.declared.shape.Shape.{Shape}
use Rattle.term_pool.specs.Reading.{IsShapeOf, arguments_of}
use Rattle.term_pool.specs.Views.{TermsView, RefersTo}
use Rattle.rule_model.specs.Constants.{constant_of}

-- numerals by their shape
pub numeral_shape : (s : Table) (t : Term) (n : ℤ) → IsShapeOf s t (Shape.Num n) → Some n ≡ numeral_number t
numeral_shape s (numeral k) n h = cc
numeral_shape s (variable x) n h = absurd (let e = h.2 in cc)
numeral_shape s (operation op ts) n h = absurd (let e = h.2 in cc)
numeral_shape s (call f ts) n h = absurd (let e = h.2 in cc)
numeral_shape s (let_in bs u) n h = absurd cc

pub natural_shape : (s : Table) (t : Term) (n : ℤ) → IsShapeOf s t (Shape.Num n) → pos 0 ≤ℤ n
natural_shape s (numeral k) n h = let e : n ≡ pos k = cc in rw e (omega (arith, ints))
natural_shape s (variable x) n h = absurd (let e = h.2 in cc)
natural_shape s (operation op ts) n h = absurd (let e = h.2 in cc)
natural_shape s (call f ts) n h = absurd (let e = h.2 in cc)
natural_shape s (let_in bs u) n h = absurd cc

pub other_shape : (s : Table) (t : Term) (shape : Shape) → IsShapeOf s t shape → ((n : ℤ) → shape ≡ Shape.Num n → ⊥) → None ≡ numeral_number t
other_shape s (numeral k) shape h other = absurd (other (pos k) h)
other_shape s _ shape h other = refl

-- constants by the application of `-` to one term
pub no_minus : (t : Term) → ¬ IsOver Op.Minus 1 t → numeral_number t ≡ constant_of t
no_minus (operation Op.Minus (term x no_terms)) other = absurd (other (refl, refl))
no_minus (operation Op.Minus (term (numeral n) (term y ts))) other = refl
no_minus _ other = refl

pub record IsMinus (s : Table) (v : TermsView) (a : ℕ) (t : Term) : Type 0 where
  pub inner : Term
  pub refers : RefersTo s v a inner
  pub is : t ≡ operation Op.Minus (term inner no_terms)

pub minus_refers : (s : Table) (v : TermsView) (a : ℕ) (t : Term) → IsOver Op.Minus 1 t
    → ((x : Term) → slice_get (arguments_of t) 0 ≡ Some x → RefersTo s v a x) → IsMinus s v a t
minus_refers s v a t over argument =
    let one = over_one Op.Minus t over in
    record { inner = one.0; refers = argument one.0 (ap (λ y. slice_get (arguments_of y) 0) one.1); is = one.1 }

pub negated_back : (n : ℤ) → pos 0 ≤ℤ n → FitsSigned w128 n → to_z w128 (of_z w128 (pos 0 -ℤ to_z w128 (of_z w128 n))) ≡ neg_ℤ n
negated_back n natural fits = omega (arith, ints)

minus_of : (x : Term) (n : ℤ) → Some n ≡ numeral_number x → Some (neg_ℤ n) ≡ constant_of (operation Op.Minus (term x no_terms))
minus_of (numeral k) n e = let same : n ≡ pos k = cc in ap (λ z. Some (neg_ℤ z)) same
minus_of _ n e = absurd cc

no_minus_of : (x : Term) → None ≡ numeral_number x → None ≡ constant_of (operation Op.Minus (term x no_terms))
no_minus_of (numeral k) e = absurd cc
no_minus_of _ e = refl

module _ (s : Table) (v : TermsView) (a : ℕ) (t : Term) (is : IsMinus s v a t) where
  pub minus_number : (n : ℤ) → Some n ≡ numeral_number is.inner → Some (neg_ℤ n) ≡ constant_of t
  minus_number n e = minus_of is.inner n e ∙ ap constant_of (sym is.is)

  pub minus_no_number : None ≡ numeral_number is.inner → None ≡ constant_of t
  minus_no_number e = no_minus_of is.inner e ∙ ap constant_of (sym is.is)
