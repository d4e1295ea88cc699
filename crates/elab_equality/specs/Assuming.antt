-- Private. What an assume takes from the assertions, and the clauses that lead from there to its term.
use Rattle.std.specs.Prelude.{◌≡◌, ℕ, List, [], ◌∷◌, Contains}
use Rattle.proof_store.specs.AddedSteps.{AddedStep}
use Rattle.proof_store.specs.declared.added.Link.{Link}
use Rattle.rule_model.specs.Reading.{scope_at}
use Rattle.term_model.specs.Terms.{Term, not_of}
use Rattle.term_pool.specs.Views.{TermsView, RefersTo}
use Rattle.equality_steps.specs.declared.site.Site.{Site}
use Rattle.equality_steps.specs.Links.{LinkSays}
use Rattle.equality_steps.specs.Sites.{IsLiteralAt}
use Rattle.equality_blocks.specs.Commands.{clause_of_command}
use Rattle.equality_blocks.specs.Made.{IsMadeFor}
use Rattle.equality_blocks.specs.Pairs.{IsFirstAsserted}

-- the command assumes the term of the one reference, and the other is that of the first assertion which is equal to it up to flips
pub record IsAssumedBy (p : Site) (v : TermsView) (first assumed : ℕ) : Type 0 where
  pub term : Term
  pub clause : clause_of_command p ≡ assumed ∷ []
  pub refers : RefersTo p.symbols.now v assumed term
  pub first_is : IsFirstAsserted p v term first

-- the reference stands for an assertion that may be assumed for the command, and is made for it
pub record MayBeAsserted (p : Site) (v : TermsView) (a : ℕ) : Type 0 where
  pub outer : scope_at p.proof.now p.command ≡ 0
  pub among : Contains p.asserted.now a
  pub term : Term
  pub refers : RefersTo p.symbols.now v a term
  pub fits : IsLiteralAt p term
  pub made : IsMadeFor p v term

-- the reference stands for a term whose negation is made for the command
pub record IsDeniable (p : Site) (v : TermsView) (a : ℕ) : Type 0 where
  pub term : Term
  pub refers : RefersTo p.symbols.now v a term
  pub made : IsMadeFor p v (not_of term)

-- the one reference stands for a term, and the other for its negation
pub record IsNegation (p : Site) (v : TermsView) (a negation : ℕ) : Type 0 where
  pub term : Term
  pub refers : RefersTo p.symbols.now v a term
  pub negation_refers : RefersTo p.symbols.now v negation (not_of term)

-- the link says the one literal for which the reference stands
pub record SaysUnit (p : Site) (v : TermsView) (steps : List AddedStep) (link : Link) (a : ℕ) : Type 0 where
  pub term : Term
  pub refers : RefersTo p.symbols.now v a term
  pub says : LinkSays p v steps link (term ∷ [])

-- the link says `(not a)` `b`
pub record SaysImplied (p : Site) (v : TermsView) (steps : List AddedStep) (link : Link) (a b : ℕ) : Type 0 where
  pub left : Term
  pub right : Term
  pub left_refers : RefersTo p.symbols.now v a left
  pub right_refers : RefersTo p.symbols.now v b right
  pub says : LinkSays p v steps link (not_of left ∷ right ∷ [])

-- the link says a clause that has no other literal than the one for which the reference stands
pub record SaysNoOther (p : Site) (v : TermsView) (steps : List AddedStep) (link : Link) (b : ℕ) : Type 0 where
  pub term : Term
  pub refers : RefersTo p.symbols.now v b term
  pub clause : List Term
  pub says : LinkSays p v steps link clause
  pub each : (x : Term) → Contains clause x → x ≡ term

-- the terms of the references are made for the command, and so is the negation of the first one, which may stand there as a literal
pub record AreMadeLiterals (p : Site) (v : TermsView) (a b : ℕ) : Type 0 where
  pub left : Term
  pub right : Term
  pub left_refers : RefersTo p.symbols.now v a left
  pub right_refers : RefersTo p.symbols.now v b right
  pub fits : IsLiteralAt p left
  pub left_made : IsMadeFor p v left
  pub denied_made : IsMadeFor p v (not_of left)
  pub right_made : IsMadeFor p v right
