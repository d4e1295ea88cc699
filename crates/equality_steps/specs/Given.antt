-- Public. What is asked for a step by a rule of equality with premises, by the links that it rests on.
use Rattle.std.specs.Prelude.{◌≡◌, ◌≢◌, ℕ, List, [], Contains}
use Rattle.term_model.specs.Flips.{equality}
use Rattle.term_model.specs.Terms.{Var, Term, not_of}
use Rattle.term_pool.specs.Views.{TermsView, RefersTo, ReferToAll}
use Rattle.proof_store.specs.AddedSteps.{AddedStep}
use Rattle.proof_store.specs.declared.added.Link.{Link}
use Rattle.rule_model.specs.Clausal.{HasEach}
use Rattle.rule_model.specs.Congruence.{Head, applied, AreDifferences, IsChain}
use Rattle.rule_model.specs.Contexts.{images}
use Rattle.rule_model.specs.Substitution.{put_in}
use Rattle.elaborator.specs.Sources.{own_anchors}
use Rattle.elaboration_laws.specs.StrictBlocks.{AnchorsStand}
use Rattle.equality_steps.specs.Links.{LinkSays, LinksSay}
use Rattle.equality_steps.specs.declared.site.Site.{Site}
use Rattle.equality_steps.specs.Sites.{AreSides, AreLiteralsAt}

-- `(= whole turned)` may be given by eq_symmetric: the references stand for `(= a b)` and `(= b a)`
pub record AreTurned (p : Site) (v : TermsView) (whole turned : ℕ) : Type 0 where
  pub left : Term
  pub right : Term
  pub whole_refers : RefersTo p.symbols.now v whole (equality left right)
  pub turned_refers : RefersTo p.symbols.now v turned (equality right left)
  pub sides : AreSides p left right

-- the links, one or more, say a chain of equalities from the one term to the other
pub record AreChained (p : Site) (v : TermsView) (steps : List AddedStep) (links : List Link) (a b : ℕ) : Type 0 where
  pub left : Term
  pub right : Term
  pub left_refers : RefersTo p.symbols.now v a left
  pub right_refers : RefersTo p.symbols.now v b right
  pub clauses : List (List Term)
  pub say : LinksSay p v steps links clauses
  pub some : clauses ≢ []
  pub chain : IsChain clauses left right

-- The references stand for applications of one head to one argument or more, and the links say `(= ti ui)` for each place where
-- the arguments differ, in order.
pub record AreLinkedArguments (p : Site) (v : TermsView) (steps : List AddedStep) (links : List Link) (a b : ℕ) : Type 0 where
  pub head : Head
  pub ts : List Term
  pub us : List Term
  pub some : ts ≢ []
  pub left_refers : RefersTo p.symbols.now v a (applied head ts)
  pub right_refers : RefersTo p.symbols.now v b (applied head us)
  pub clauses : List (List Term)
  pub say : LinksSay p v steps links clauses
  pub differences : AreDifferences clauses ts us

-- the references stand for terms that become the same where the images of the variables that open anchors bind are put in
pub record AreSameInContext (p : Site) (v : TermsView) (a b : ℕ) : Type 0 where
  pub left : Term
  pub right : Term
  pub left_refers : RefersTo p.symbols.now v a left
  pub right_refers : RefersTo p.symbols.now v b right
  pub anchors : List (List (Var × Term))
  pub anchors_stand : AnchorsStand p.symbols.now v (own_anchors p.proof.now p.command) anchors
  pub same : put_in (images anchors) left ≡ put_in (images anchors) right

-- The references stand for an atom and its negation; the first link says a clause in which the negation is, and the second one in
-- which the atom is.
pub record AreOpposed (p : Site) (v : TermsView) (steps : List AddedStep) (left right : Link) (atom negation : ℕ) : Type 0 where
  pub term : Term
  pub atom_refers : RefersTo p.symbols.now v atom term
  pub negation_refers : RefersTo p.symbols.now v negation (not_of term)
  pub left_clause : List Term
  pub left_says : LinkSays p v steps left left_clause
  pub left_has : Contains left_clause (not_of term)
  pub right_clause : List Term
  pub right_says : LinkSays p v steps right right_clause
  pub right_has : Contains right_clause term

-- each literal that the link says is one of those for which the references stand
pub record HasEachLiteral (p : Site) (v : TermsView) (steps : List AddedStep) (link : Link) (clause : List ℕ) : Type 0 where
  pub given : List Term
  pub says : LinkSays p v steps link given
  pub terms : List Term
  pub refer : ReferToAll p.symbols.now v clause terms
  pub each : HasEach given terms
  pub literals : AreLiteralsAt p v clause
