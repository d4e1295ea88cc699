-- Public. What is remembered of terms: their forms, and the links that say that a term and its form are equal.
use Rattle.std.specs.Prelude.{◌≡◌, ◌≢◌, ◌⊎◌, ◌^◌, ◌≤◌, ℕ, List, nat_eq, Option, Some, None, Contains}
use Rattle.std.specs.HashMap.{get, hash_map_len}
use Rattle.proof_store.specs.AddedSteps.{AddedStep}
use Rattle.proof_store.specs.declared.added.Link.{Link}
use Rattle.sym_table.specs.Table.{Table}
use Rattle.term_model.specs.Terms.{Term}
use Rattle.term_pool.specs.Views.{TermsView, RefersTo}
use Rattle.equality_steps.specs.Links.{LinkEquates}
use Rattle.equality_steps.specs.declared.site.Site.{Site}
use Rattle.flip_steps.specs.declared.forms.Formed.{Formed}
use Rattle.flip_steps.specs.declared.forms.Forms.{Forms}
use Rattle.flip_steps.specs.Forms.{IsFormOf}
use Rattle.flip_steps.specs.Stages.{StandsBefore, StandsIn}

-- the link says `(= a b)`, and there is none where the references are one
abbrev pub IsEquatedBy : Site → TermsView → List AddedStep → Option Link → ℕ → ℕ → Type 0
IsEquatedBy p v steps None a b = a ≡ b
IsEquatedBy p v steps (Some link) a b = (a ≢ b) × LinkEquates p v steps link a b

-- the reference of the form, and a link that says that the term is equal to it
pub record IsFormedAs (p : Site) (v : TermsView) (steps : List AddedStep) (r : ℕ) (x : Formed) : Type 0 where
  pub term : Term
  pub form : Term
  pub refers : RefersTo p.symbols.now v r term
  pub form_refers : RefersTo p.symbols.now v x.form form
  pub is : IsFormOf (StandsBefore p.symbols.now v) term form
  pub link : IsEquatedBy p v steps x.link r x.form

-- this is remembered of the term of a cell
abbrev pub IsRememberedAs : Forms → ℕ → Formed → Type 0
IsRememberedAs forms r x = get nat_eq forms.formed r ≡ Some x

pub record IsRemembered (forms : Forms) (r : ℕ) : Type 0 where
  pub formed : Formed
  pub is : IsRememberedAs forms r formed

-- what is remembered is right
abbrev pub AreForms : Site → TermsView → List AddedStep → Forms → Type 0
AreForms p v steps forms = (r : ℕ) (x : Formed) → IsRememberedAs forms r x → IsFormedAs p v steps r x

-- of how many terms the form is remembered
abbrev pub count_of : Forms → ℕ
count_of forms = hash_map_len forms.formed

-- r is a cell, and stands for a term that stands in that of another reference, outside lets
pub record IsCellWithin (s : Table) (v : TermsView) (root r : ℕ) : Type 0 where
  pub cell : 2 ^ 30 ≤ r
  pub stands : StandsIn s v root r

-- what is remembered now, and was not before, are cells within one of two terms
abbrev pub MeetsWithin : Table → TermsView → ℕ → ℕ → Forms → Forms → Type 0
MeetsWithin s v a b old new = (r : ℕ) → IsRemembered new r → IsRemembered old r ⊎ (IsCellWithin s v a r ⊎ IsCellWithin s v b r)

-- a cell within one of some terms
pub record IsCellWithinAny (s : Table) (v : TermsView) (roots : List ℕ) (r : ℕ) : Type 0 where
  pub root : ℕ
  pub among : Contains roots root
  pub within : IsCellWithin s v root r
