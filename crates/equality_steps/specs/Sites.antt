-- Public. Where steps are added for a command of a proof, and which terms may stand there.
use Rattle.std.specs.Prelude.{ℕ, List, All, Contains}
use Rattle.sym_table.specs.Table.{Table, IsLeaf}
use Rattle.term_model.specs.declared.symbols.Sort.{Sort}
use Rattle.term_model.specs.FreeVariables.{IsFree}
use Rattle.term_model.specs.Sorts.{IsOf}
use Rattle.term_model.specs.Terms.{Var, Term}
use Rattle.term_pool.specs.StandsFor.{variable_leaf}
use Rattle.term_pool.specs.Views.{TermsView, RefersTo, ReferToAll}
use Rattle.rule_model.specs.Reading.{clause_at, premises_at}
use Rattle.elaborator.specs.Sources.{own_anchors}
use Rattle.elaboration_laws.specs.StrictBlocks.{AnchorsStand}
use Rattle.equality_steps.specs.declared.site.Site.{Site}

-- one of these anchors binds the variable, by its leaf
pub record BindsVariable (s : Table) (anchors : List (List (ℕ × ℕ))) (x : Var) : Type 0 where
  pub anchor : List (ℕ × ℕ)
  pub among : Contains anchors anchor
  pub binding : ℕ × ℕ
  pub bound : Contains anchor binding
  pub leaf : IsLeaf s binding.0 (variable_leaf x)

-- The anchors that are open where the command belongs bind each variable that stands free in the term. It is `IsClosedUnder` of
-- `rule_model`, over the leaves of variables.
abbrev pub IsClosedAt : Site → Term → Type 0
IsClosedAt p t = (x : Var) → IsFree x t → BindsVariable p.symbols.now (own_anchors p.proof.now p.command) x

-- a term of this sort that may stand there as a side of an equality, and a literal that may
abbrev pub IsSideAt : Site → Sort → Term → Type 0
IsSideAt p sort t = IsOf t sort × IsClosedAt p t

abbrev pub IsLiteralAt : Site → Term → Type 0
IsLiteralAt p t = IsSideAt p Sort.Bool t

-- the reference stands for a term that may stand there as a side
pub record IsTermAt (p : Site) (v : TermsView) (r : ℕ) : Type 0 where
  pub sort : Sort
  pub term : Term
  pub refers : RefersTo p.symbols.now v r term
  pub fits : IsSideAt p sort term

-- two terms may stand there as the sides of one equality; and references stand for two such terms
pub record AreSides (p : Site) (t u : Term) : Type 0 where
  pub sort : Sort
  pub left : IsSideAt p sort t
  pub right : IsSideAt p sort u

pub record AreSidesAt (p : Site) (v : TermsView) (a b : ℕ) : Type 0 where
  pub left : Term
  pub right : Term
  pub left_refers : RefersTo p.symbols.now v a left
  pub right_refers : RefersTo p.symbols.now v b right
  pub sides : AreSides p left right

-- the references stand for literals that may stand there
pub record AreLiteralsAt (p : Site) (v : TermsView) (refs : List ℕ) : Type 0 where
  pub clause : List Term
  pub refer : ReferToAll p.symbols.now v refs clause
  pub fit : All (IsLiteralAt p) clause

-- What is asked of the command: what the anchors bind that are open where it belongs stands for terms, and the literals of its
-- premises may stand there.
pub record IsSite (p : Site) (v : TermsView) : Type 0 where
  pub anchors : List (List (Var × Term))
  pub anchors_stand : AnchorsStand p.symbols.now v (own_anchors p.proof.now p.command) anchors
  pub premises : (i : ℕ) → Contains (premises_at p.proof.now p.command) i → AreLiteralsAt p v (clause_at p.proof.now i)
