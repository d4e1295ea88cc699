-- Public. What the links of added steps say: the clauses that they name, over terms.
use Rattle.std.specs.Prelude.{ℕ, List, [], ◌∷◌, length}
use Rattle.std.specs.List.{AllZip}
use Rattle.term_model.specs.Flips.{equality}
use Rattle.term_model.specs.Terms.{Term}
use Rattle.term_pool.specs.Views.{TermsView, RefersTo, ReferToAll}
use Rattle.proof_store.specs.AddedSteps.{AddedStep}
use Rattle.proof_store.specs.declared.added.Link.{Link}
use Rattle.rule_model.specs.Reading.{premises_at}
use Rattle.elaborator.specs.Blocks.{IsLink}
use Rattle.elaborator.specs.Sources.{linked_clause}
use Rattle.equality_steps.specs.declared.site.Site.{Site}

-- the link names a premise of the command, or one of so many added steps
abbrev pub IsLinkAt : Site → ℕ → Link → Type 0
IsLinkAt p number link = IsLink (premises_at p.proof.now p.command) number link

-- the link names a premise of the command or an added step, whose clause stands for these literals
pub record LinkSays (p : Site) (v : TermsView) (steps : List AddedStep) (link : Link) (clause : List Term) : Type 0 where
  pub names : IsLinkAt p (length steps) link
  pub stands : ReferToAll p.symbols.now v (linked_clause p.proof.now steps link) clause

-- the links say these clauses, in order
abbrev pub LinksSay : Site → TermsView → List AddedStep → List Link → List (List Term) → Type 0
LinksSay p v steps links clauses = AllZip (LinkSays p v steps) links clauses

-- the link says `(= a b)`, where the references stand for a and b
pub record LinkEquates (p : Site) (v : TermsView) (steps : List AddedStep) (link : Link) (a b : ℕ) : Type 0 where
  pub left : Term
  pub right : Term
  pub left_refers : RefersTo p.symbols.now v a left
  pub right_refers : RefersTo p.symbols.now v b right
  pub says : LinkSays p v steps link (equality left right ∷ [])
