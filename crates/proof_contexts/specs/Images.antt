-- Public. The terms that anchors bind variables to, and their images.
use Rattle.std.specs.Prelude.{◌≡◌, ℕ, List, Some, slice_get}
use Rattle.rule_model.specs.Replacement.{Replacement}
use Rattle.rule_model.specs.Substitution.{put_in}
use Rattle.term_model.specs.Terms.{Var, Term}

-- the term is the image of a variable that an anchor with these bindings has, where q is put in outside
pub record IsImageIn (q : Replacement) (bound : List (Var × Term)) (t : Term) : Type 0 where
  pub at : ℕ
  pub binding : Var × Term
  pub there : slice_get bound at ≡ Some binding
  pub is : t ≡ put_in q binding.1
