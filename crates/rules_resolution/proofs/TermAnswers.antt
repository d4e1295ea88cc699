-- What is found of literals over references is so of the terms for which the references stand.
use Rattle.std.proofs.Common.{◌≡◌, ◌↔◌, ℕ, Bool, true, false, IsTrue, IfSome, IfNone, List, map, refl, sym, ◌∙◌, ap, subst}
use Rattle.std.specs.Borrow.{Bor}
use Rattle.std.specs.Global.{Vec}
use Rattle.sym_table.specs.Table.{Table}
use Rattle.term_model.specs.Terms.{Term}
use Rattle.term_parts.specs.Judging.{ReferToClauses, TellsEach, met_if}
use Rattle.term_parts.specs.declared.steps.Step.{Step}
use Rattle.term_parts.proofs.JudgingLemmas.{is_narrow, tells_if}
use Rattle.term_pool.specs.Views.{TermsView, RefersTo, ReferToAll}
use Rattle.rule_model.specs.declared.kinds.Family.{Family}
use Rattle.rule_model.specs.declared.kinds.Kind.{Kind}
use Rattle.rule_model.specs.declared.literal.Literal.{Literal}
use Rattle.rule_model.specs.declared.rules.Rule.{Rule}
use Rattle.rule_model.specs.Conditions.{MeetsRule}
use Rattle.rule_model.specs.Judged.{Judged}
use Rattle.rule_model.specs.Renaming.{KeepsAtomsApart, AreLiteralImages, AreAllImages}
use Rattle.rule_model.specs.Resolution.{as_clause, Resolves, ResolvesInCheck}
use Rattle.rule_model.specs.RuleNames.{kind_of}
use Rattle.rule_model.proofs.Renamings.{leads_renamed, contradicts_renamed, follows_renamed}
use Rattle.rules_resolution.specs.declared.end.End.{End}
use Rattle.clause_chain.specs.Chaining.{clauses_of}
use Rattle.rules_resolution.specs.Ends.{IsEnd, trail_from}
use Rattle.rules_resolution.specs.Literal.{Lit}
use Rattle.rules_resolution.specs.Shows.{Shows}
use Rattle.rules_resolution.specs.Steps.{StandsWithPivots}
use Rattle.rules_resolution.specs.TermLiterals.{AreLiteralsOf, AreClausesOf}
use Rattle.rules_resolution.proofs.Ends.{follows_by_end}
use Rattle.rules_resolution.proofs.TermLiterals.{are_images, are_all_images}

-- an end says the same of clauses with other names for their atoms
end_renamed : {A B : Type 0} (R : A → B → Type 0) → KeepsAtomsApart R → (ps : List (List (Literal A))) (qs : List (List (Literal B)))
    (g : List (Literal A)) (h : List (Literal B)) (units : List (ℕ × ℕ)) → AreAllImages R ps qs → AreLiteralImages R g h
    → (end : End) → IsEnd end ps g units → IsEnd end qs h units
end_renamed R one ps qs g h units zs z End.Contradiction is = (is.0, (contradicts_renamed R one g h z).0 is.1)
end_renamed R one ps qs g h units zs z (End.Conflict last) is = (
  λ wrong. is.0 ((contradicts_renamed R one g h z).1 wrong),
  (leads_renamed R one ps qs g h units last zs z).0 is.1,
)
end_renamed R one ps qs g h units zs z End.Stuck is = λ follows. is ((follows_renamed R one ps qs g h zs z).1 follows)

-- premises and a clause of terms, for which references stand
module _ (s : Table) (v : TermsView) (premises : List (Bor (List ℕ))) (clause : List ℕ) (units : List (ℕ × ℕ)) where
  abbrev pub IsEndOfTerms : End → Type 0
  IsEndOfTerms end =
      (ps : List (List Term)) (ts : List Term) → ReferToClauses s v premises ps → ReferToAll s v clause ts → IsEnd end (map as_clause ps) (as_clause ts) units

  pub end_of_terms : KeepsAtomsApart (RefersTo s v) → (clauses : List (Vec Lit)) (goal : List Lit) → AreClausesOf s v premises clauses
      → AreLiteralsOf s v clause goal → (end : End) → IsEnd end (clauses_of clauses) goal units → IsEndOfTerms end
  end_of_terms one clauses goal clauses_are goal_is end is ps ts refer refers =
      end_renamed (RefersTo s v) one (clauses_of clauses) (map as_clause ps) goal (as_clause ts) units
      (are_all_images s v premises clauses ps clauses_are refer) (are_images s v clause goal ts goal_is refers) end is

  -- what the trail of an end shows of them
  pub shown_of_terms : (end : End) → IsEndOfTerms end
      → IfSome (trail_from end units) (λ trail. (ps : List (List Term)) (ts : List Term) → ReferToClauses s v premises ps → ReferToAll s v clause ts
      → Shows (map as_clause ps) (as_clause ts) trail)
  shown_of_terms End.Contradiction is = is
  shown_of_terms (End.Conflict last) is = is
  shown_of_terms End.Stuck is = tt

  pub none_of_terms : (end : End) → IsEndOfTerms end
      → IfNone (trail_from end units) ((ps : List (List Term)) (ts : List Term) → ReferToClauses s v premises ps → ReferToAll s v clause ts
      → ResolvesInCheck ps ts → ⊥)
  none_of_terms End.Contradiction is = tt
  none_of_terms (End.Conflict last) is = tt
  none_of_terms End.Stuck is = is

-- what an end says of whether the clause follows
pub end_tells : (premises : List (List Term)) (clause : List Term) (units : List (ℕ × ℕ)) (end : End)
    → IsEnd end (map as_clause premises) (as_clause clause) units → (end ≡ End.Stuck → ⊥) → IsTrue true ↔ ResolvesInCheck premises clause
end_tells premises clause units end is found = (
  λ yes. follows_by_end (map as_clause premises) (as_clause clause) units end is found,
  λ resolves. refl,
)

-- where propagation is stuck, it does not
pub stuck_tells : (premises : List (List Term)) (clause : List Term) (units : List (ℕ × ℕ)) (end : End)
    → IsEnd end (map as_clause premises) (as_clause clause) units → end ≡ End.Stuck → IsTrue false ↔ ResolvesInCheck premises clause
stuck_tells premises clause units end is stuck =
    let none = rw stuck at is in (
      λ yes. absurd cc,
      λ resolves. absurd (none resolves),
    )

-- what either rule of resolution asks
asks : (rule : Rule) (j : Judged) → kind_of rule ≡ Kind.Judged Family.Resolution → MeetsRule rule j ↔ Resolves j.mode j.pivots j.premises j.clause
asks Rule.Resolution j is = (λ met. met, λ resolves. resolves)
asks Rule.ThResolution j is = (λ met. met, λ resolves. resolves)
asks _ j is = absurd cc

-- what a test of that tells of the steps for which references and pivots stand
pub told_by_test : {s : Table} {v : TermsView} (step : Step) (pivots : List (ℕ × Bool)) → kind_of step.rule ≡ Kind.Judged Family.Resolution → (b : Bool)
    → ((j : Judged) → StandsWithPivots s v step pivots j → IsTrue b ↔ Resolves step.mode j.pivots j.premises j.clause)
    → TellsEach (StandsWithPivots s v step pivots) (met_if b)
told_by_test step pivots is b test j stands =
    let kind = ap kind_of stands.step.rule ∙ is in
    let told = subst (λ m. IsTrue b ↔ Resolves m j.pivots j.premises j.clause) (sym stands.step.mode) (test j stands) in
    let condition = asks j.rule j kind in
    tells_if b (is_narrow j.rule Family.Resolution j (λ e. cc) kind) (λ h. condition.1 (told.0 h), λ h. told.1 (condition.0 h))
