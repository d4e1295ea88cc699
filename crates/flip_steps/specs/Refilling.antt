-- Private. An application over the forms of its arguments, and the same with its sides in order.
use Rattle.std.specs.Prelude.{◌≡◌, ℕ, List}
use Rattle.sym_table.specs.Table.{Table}
use Rattle.term_model.specs.Terms.{Term, Terms, terms_of}
use Rattle.term_pool.specs.Building.{IsAppliedLeaf}
use Rattle.term_pool.specs.Reading.{arguments_of}
use Rattle.term_pool.specs.Views.{TermsView, RefersTo, ReferToAll}
use Rattle.flip_steps.specs.Forms.{HasSidesInOrder, AreFormsOf}
use Rattle.flip_steps.specs.declared.refilling.Stages.{Stages}
use Rattle.flip_steps.specs.Stages.{StandsBefore}
use Rattle.flip_steps.specs.Subterms.{with_arguments}

-- the references stand for the forms of the arguments of an application of this head
pub record AreArgumentForms (s : Table) (v : TermsView) (whole head : ℕ) (forms : List ℕ) : Type 0 where
  pub term : Term
  pub refers : RefersTo s v whole term
  pub applied : IsAppliedLeaf s head (arguments_of term) term
  pub us : List Term
  pub refer : ReferToAll s v forms us
  pub are : AreFormsOf (StandsBefore s v) (terms_of (arguments_of term)) (terms_of us)

-- x is the term over the forms of its arguments
pub record IsRefillingOf (s : Table) (v : TermsView) (whole : ℕ) (x : Term) : Type 0 where
  pub term : Term
  pub refers : RefersTo s v whole term
  pub us : Terms
  pub are : AreFormsOf (StandsBefore s v) (terms_of (arguments_of term)) us
  pub is : x ≡ with_arguments term us

-- the reference stands for the application over these forms
pub record IsRefilled (s : Table) (v : TermsView) (whole head : ℕ) (forms : List ℕ) (refilled : ℕ) : Type 0 where
  pub given : AreArgumentForms s v whole head forms
  pub refers : RefersTo s v refilled (with_arguments given.term (terms_of given.us))

-- the reference stands for the application of the head to these terms
pub record IsApplicationOf (s : Table) (v : TermsView) (head : ℕ) (args : List ℕ) (r : ℕ) : Type 0 where
  pub term : Term
  pub refers : RefersTo s v r term
  pub ts : List Term
  pub refer : ReferToAll s v args ts
  pub applied : IsAppliedLeaf s head ts term

-- x is what a reference stands for, with its sides in order
pub record IsInOrderOf (s : Table) (v : TermsView) (r : ℕ) (x : Term) : Type 0 where
  pub inner : Term
  pub refers : RefersTo s v r inner
  pub order : HasSidesInOrder (StandsBefore s v) inner x

pub record IsOrdered (s : Table) (v : TermsView) (r f : ℕ) : Type 0 where
  pub form : Term
  pub refers : RefersTo s v f form
  pub is : IsInOrderOf s v r form

-- an application, the same over the forms of its arguments, and its form
pub record AreStages (s : Table) (v : TermsView) (head : ℕ) (forms : List ℕ) (x : Stages) : Type 0 where
  pub given : AreArgumentForms s v x.whole head forms
  pub refilled_refers : RefersTo s v x.refilled (with_arguments given.term (terms_of given.us))
  pub last : Term
  pub form_refers : RefersTo s v x.form last
  pub order : HasSidesInOrder (StandsBefore s v) (with_arguments given.term (terms_of given.us)) last
