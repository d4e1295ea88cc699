-- Private. Arguments that are equal up to flips or the sides of a premise, and the links that say so.
use Rattle.std.specs.Prelude.{◌≡◌, ◌<◌, ◌++◌, ℕ, List, [], ◌∷◌, Option, option_to_list, slice_get, Some}
use Rattle.std.specs.List.{AllZip}
use Rattle.proof_store.specs.AddedSteps.{AddedStep}
use Rattle.proof_store.specs.declared.added.Link.{Link}
use Rattle.rule_model.specs.Congruence.{IsLinked}
use Rattle.rule_model.specs.Reading.{premises_at, premise_clauses}
use Rattle.rule_model.specs.RuleNames.{IsJudged, kind_of}
use Rattle.rule_model.specs.Scopes.{commands_in}
use Rattle.term_model.specs.Flips.{equality, EqualUpToFlips}
use Rattle.term_model.specs.Terms.{Term}
use Rattle.term_pool.specs.Views.{TermsView, RefersTo, ReferToAll}
use Rattle.equality_steps.specs.declared.site.Site.{Site}
use Rattle.equality_steps.specs.Sites.{AreSides}
use Rattle.flip_steps.specs.Memory.{IsEquatedBy}
use Rattle.equality_blocks.specs.Counts.{IsRootOf}
use Rattle.equality_blocks.specs.Pairs.{ArePaired}
use Rattle.equality_ways.specs.declared.table.Table.{Table}
use Rattle.equality_ways.specs.Sides.{AreSidesOfUnits}
use Rattle.equality_ways.specs.Tables.{IsTableOf}
use Rattle.flip_steps.specs.Stages.{StandsIn}

-- the clauses of the command's premises
abbrev pub ArePremises : Site → TermsView → List (List Term) → Type 0
ArePremises p v premises = AllZip (ReferToAll p.symbols.now v) (premise_clauses p.proof.now p.command) premises

-- the table is of the sides of the premises
pub record IsGiven (p : Site) (v : TermsView) (table : Table) : Type 0 where
  pub within : p.command < commands_in p.proof.now
  pub premises : List (List Term)
  pub are : ArePremises p v premises
  pub sides : List (Option (ℕ × ℕ))
  pub sides_are : AreSidesOfUnits p.symbols.now v sides premises
  pub table_is : IsTableOf sides table

-- the reference stands for a term that stands in one of the command, outside lets
pub record IsInCommand (p : Site) (v : TermsView) (r : ℕ) : Type 0 where
  pub root : ℕ
  pub is : IsRootOf p v root
  pub stands : StandsIn p.symbols.now v root r

-- Two terms that the command pairs, which may stand as the sides of an equality, are equal up to flips or the sides of a premise.
pub record IsPair (p : Site) (v : TermsView) (a b : ℕ) : Type 0 where
  pub left : Term
  pub right : Term
  pub left_refers : RefersTo p.symbols.now v a left
  pub right_refers : RefersTo p.symbols.now v b right
  pub left_in : IsInCommand p v a
  pub right_in : IsInCommand p v b
  pub sides : AreSides p left right
  pub paired : ArePaired p v left right
  pub premises : List (List Term)
  pub are : ArePremises p v premises
  pub linked : IsLinked premises left right

-- the links say in order that a term and the one at its place are equal, where these differ
abbrev pub AreLinkedBy : Site → TermsView → List AddedStep → List ℕ → List ℕ → List Link → Type 0
AreLinkedBy p v steps [] [] links = links ≡ []
AreLinkedBy p v steps [] (b ∷ bs) links = ⊥
AreLinkedBy p v steps (a ∷ ls) [] links = ⊥
AreLinkedBy p v steps (a ∷ ls) (b ∷ bs) links =
    (link : Option Link) × (rest : List Link) × IsEquatedBy p v steps link a b × (links ≡ option_to_list link ++ rest) × AreLinkedBy p v steps ls bs rest

-- the link is to the premise at this place
pub record IsPremiseLink (p : Site) (place : ℕ) (link : Link) : Type 0 where
  pub premise : ℕ
  pub there : slice_get (premises_at p.proof.now p.command) place ≡ Some premise
  pub is : link ≡ Link.Old premise

-- two terms that are equal up to flips, which the command pairs and which may stand as the sides of an equality
pub record AreFlips (p : Site) (v : TermsView) (a b : ℕ) : Type 0 where
  pub left : Term
  pub right : Term
  pub left_refers : RefersTo p.symbols.now v a left
  pub right_refers : RefersTo p.symbols.now v b right
  pub left_in : IsInCommand p v a
  pub right_in : IsInCommand p v b
  pub sides : AreSides p left right
  pub paired : ArePaired p v left right
  pub equal : EqualUpToFlips left right

-- the block ends in a step that says `(= a b)`, by a rule that has a condition
pub record EndsIn (p : Site) (v : TermsView) (block : List AddedStep) (a b : ℕ) : Type 0 where
  pub before : List AddedStep
  pub last : AddedStep
  pub is : block ≡ before ++ last ∷ []
  pub judged : IsJudged (kind_of last.rule)
  pub left : Term
  pub right : Term
  pub left_refers : RefersTo p.symbols.now v a left
  pub right_refers : RefersTo p.symbols.now v b right
  pub stands : ReferToAll p.symbols.now v last.clause (equality left right ∷ [])
