-- Private. Two predicates of which the command's clause denies one and has the other.
use Rattle.std.specs.Prelude.{◌≡◌, ◌⊎◌, ◌++◌, ℕ, Bool, true, false, List, [], ◌∷◌, length}
use Rattle.term_model.specs.declared.symbols.Sort.{Sort}
use Rattle.term_model.specs.Terms.{Term, not_of}
use Rattle.term_pool.specs.Views.{TermsView, RefersTo, ReferToAll}
use Rattle.rule_model.specs.declared.rules.Mode.{Mode}
use Rattle.rule_model.specs.Congruence.{AreCongruent, HangTogetherDenied, denials, units}
use Rattle.equality_steps.specs.declared.site.Site.{Site}
use Rattle.equality_ways.specs.declared.table.Table.{Table}
use Rattle.equality_blocks.specs.Commands.{clause_of_command}
use Rattle.elab_denials.specs.declared.matching.Match.{Match}
use Rattle.elab_denials.specs.declared.predicates.Plan.{Plan}
use Rattle.elab_denials.specs.Owing.{AreRepairable, IsGiven}
use Rattle.elab_denials.specs.Stating.{AreStated, AreTurnable, IsBegun, IsNarrow}
use Rattle.elab_denials.specs.Working.{IsPlaceAt}

-- the clause ends in the two literals, in either order
pub record AreLastTwo (clause : List ℕ) (one other : ℕ) : Type 0 where
  pub before : List ℕ
  pub is : (clause ≡ before ++ one ∷ other ∷ []) ⊎ (clause ≡ before ++ other ∷ one ∷ [])

pub record EndsInTwo (clause : List ℕ) (one other : ℕ) : Type 0 where
  pub before : List ℕ
  pub is : clause ≡ before ++ one ∷ other ∷ []

pub record AreTwo (pairs : List (ℕ × ℕ)) : Type 0 where
  pub one : ℕ × ℕ
  pub other : ℕ × ℕ
  pub is : pairs ≡ one ∷ other ∷ []

-- The command's clause denies equalities, and then denies a predicate and has another, or the other way round; the arguments of the two
-- hang together by the equalities.
pub record GivesOther (p : Site) (v : TermsView) : Type 0 where
  pub es : List (Term × Term)
  pub rest : List Term
  pub stands : ReferToAll p.symbols.now v (clause_of_command p) (denials es ++ rest)
  pub left : Term
  pub right : Term
  pub rest_is : (rest ≡ not_of left ∷ right ∷ []) ⊎ (rest ≡ right ∷ not_of left ∷ [])
  pub congruent : AreCongruent (HangTogetherDenied Mode.Check) (units es) left right

-- applications that may be stated, and are of Bool
pub record AreStatedTruths (p : Site) (v : TermsView) (a b : ℕ) (pairs : List (ℕ × ℕ)) : Type 0 where
  pub stated : AreStated p v a b pairs
  pub truths : stated.sides.sort ≡ Sort.Bool

pub record HaveStatedTruths (p : Site) (v : TermsView) (a b : ℕ) : Type 0 where
  pub pairs : List (ℕ × ℕ)
  pub stated : AreStatedTruths p v a b pairs

-- Two equalities that are linked crosswise; behind the pairs stands one more, of the sides of the first equality, exchanged.
pub record AreOpened (p : Site) (v : TermsView) (a b : ℕ) (pairs : List (ℕ × ℕ)) : Type 0 where
  pub crossed : List (ℕ × ℕ)
  pub turnable : AreTurnable p v a b crossed
  pub pairs_are : pairs ≡ turnable.inner ∷ turnable.outer ∷ (turnable.inner.0, turnable.outer.0) ∷ []
  pub place : IsPlaceAt p v turnable.inner.0 turnable.outer.0

abbrev pub AreImplyingBy : Site → TermsView → ℕ → ℕ → List (ℕ × ℕ) → Bool → Type 0
AreImplyingBy p v a b pairs true = AreOpened p v a b pairs
AreImplyingBy p v a b pairs false = AreStatedTruths p v a b pairs

-- the command's clause has `(not a)` and `b`, of two applications that are matched
pub record IsToImply (p : Site) (v : TermsView) (m : Match) : Type 0 where
  pub left : Term
  pub right : Term
  pub left_refers : RefersTo p.symbols.now v m.left left
  pub right_refers : RefersTo p.symbols.now v m.right right
  pub denied : IsGiven p v (not_of left)
  pub given : IsGiven p v right
  pub ready : AreImplyingBy p v m.left m.right m.pairs.items m.crossed

pub record IsBegunImplied (p : Site) (v : TermsView) (table : Table) (m : Match) : Type 0 where
  pub repairable : AreRepairable p v table m.pairs.items
  pub imply : IsToImply p v m
  pub narrow : IsNarrow p v (length m.pairs.items)

-- what the steps begin with
abbrev pub IsBegunBy : Site → TermsView → Table → Match → Bool → Type 0
IsBegunBy p v table m true = IsBegunImplied p v table m
IsBegunBy p v table m false = IsBegun p v table m

abbrev pub IsPlanned : Site → TermsView → Plan → Type 0
IsPlanned p v plan = IsBegunBy p v plan.table plan.found plan.implies
