-- Public. The order of sides by references, and all that is made on the way from a term to its form, and to join two terms.
use Rattle.std.specs.Prelude.{◌≡◌, ◌⊎◌, ℕ, ◌≤◌}
use Rattle.sym_table.specs.Table.{Table}
use Rattle.term_model.specs.Flips.{equality}
use Rattle.term_model.specs.Terms.{Term, Terms, terms_of}
use Rattle.term_pool.specs.Reading.{arguments_of}
use Rattle.term_pool.specs.Views.{TermsView, RefersTo}
use Rattle.flip_steps.specs.Forms.{IsFormOf, AreFormsOf}
use Rattle.flip_steps.specs.Subterms.{IsWithin, with_arguments}

-- The order of sides: the reference of the one is not greater than that of the other. A pass that comes to know more knows more of
-- it.
pub record StandsBefore (s : Table) (v : TermsView) (a b : Term) : Type 0 where
  pub left : ℕ
  pub right : ℕ
  pub left_refers : RefersTo s v left a
  pub right_refers : RefersTo s v right b
  pub order : left ≤ right

-- a term on the way to the form of t: t itself, its head over the forms of its arguments, and its form
pub data IsStage (s : Table) (v : TermsView) (t : Term) : Term → Type 0 where
  itself : IsStage s v t t
  refilled : (us : Terms) → AreFormsOf (StandsBefore s v) (terms_of (arguments_of t)) us → IsStage s v t (with_arguments t us)
  formed : (f : Term) → IsFormOf (StandsBefore s v) t f → IsStage s v t f

-- such a term, or an equality of two of them
pub data IsMadeFor (s : Table) (v : TermsView) (t : Term) : Term → Type 0 where
  stage : (x : Term) → IsStage s v t x → IsMadeFor s v t x
  equated : (x y : Term) → IsStage s v t x → IsStage s v t y → IsMadeFor s v t (equality x y)

-- x is made for the term of the reference
pub record IsMadeAt (s : Table) (v : TermsView) (r : ℕ) (x : Term) : Type 0 where
  pub term : Term
  pub refers : RefersTo s v r term
  pub made : IsMadeFor s v term x

-- r stands for a term that stands in that of another reference, outside lets
pub record StandsIn (s : Table) (v : TermsView) (root r : ℕ) : Type 0 where
  pub whole : Term
  pub whole_refers : RefersTo s v root whole
  pub term : Term
  pub refers : RefersTo s v r term
  pub within : IsWithin whole term

-- x is made for a term that stands in that of the reference, outside lets
pub record IsMadeFrom (s : Table) (v : TermsView) (root : ℕ) (x : Term) : Type 0 where
  pub from : ℕ
  pub stands : StandsIn s v root from
  pub made : IsMadeAt s v from x

-- x is `(= a b)`, where the references stand for a and b
pub record IsEqualityOf (s : Table) (v : TermsView) (a b : ℕ) (x : Term) : Type 0 where
  pub left : Term
  pub right : Term
  pub left_refers : RefersTo s v a left
  pub right_refers : RefersTo s v b right
  pub is : x ≡ equality left right

-- what is made to join two terms
abbrev pub IsMadeToJoin : Table → TermsView → ℕ → ℕ → Term → Type 0
IsMadeToJoin s v a b x = (IsMadeFrom s v a x ⊎ IsMadeFrom s v b x) ⊎ IsEqualityOf s v a b x
