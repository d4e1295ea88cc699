-- What the rules of this family ask of a step, and clauses of terms of Bool by their references.
use Rattle.std.proofs.Common.{◌≡◌, ◌↔◌, ℕ, List, [], ◌∷◌, refl, subst}
use Rattle.sym_table.specs.Table.{Table}
use Rattle.term_model.specs.Terms.{Term}
use Rattle.term_pool.specs.Views.{TermsView, ReferToAll}
use Rattle.term_pool.proofs.References.{AreOne}
use Rattle.rule_model.specs.declared.kinds.Family.{Family}
use Rattle.rule_model.specs.declared.kinds.Kind.{Kind}
use Rattle.rule_model.specs.declared.rules.Rule.{Rule}
use Rattle.rule_model.specs.Conditions.{IsClauseOfTruths, Met, MeetsRule}
use Rattle.rule_model.specs.Judged.{Judged}
use Rattle.rule_model.specs.RuleNames.{kind_of}
use Rattle.term_parts.specs.Judging.{StandForTruths}
use Rattle.rules_ite.specs.Steps.{MeetsDefinition}

-- a rule of this family asks what its case asks
rule_meets : (rule : Rule) (j : Judged) → kind_of rule ≡ Kind.Judged Family.Ite → MeetsRule rule j ↔ MeetsDefinition rule j.premises j.clause
rule_meets Rule.ItePos1 j is = (λ h. h, λ h. h)
rule_meets Rule.ItePos2 j is = (λ h. h, λ h. h)
rule_meets Rule.IteNeg1 j is = (λ h. h, λ h. h)
rule_meets Rule.IteNeg2 j is = (λ h. h, λ h. h)
rule_meets Rule.Ite1 j is = (λ h. h, λ h. h)
rule_meets Rule.Ite2 j is = (λ h. h, λ h. h)
rule_meets Rule.NotIte1 j is = (λ h. h, λ h. h)
rule_meets Rule.NotIte2 j is = (λ h. h, λ h. h)
rule_meets Rule.ConnectiveDef j is = (λ h. h, λ h. h)
rule_meets Rule.IteIntro j is = (λ h. h, λ h. h)
rule_meets Rule.DistinctElim j is = (λ h. h, λ h. h)
rule_meets _ j is = absurd cc

pub asks : (j : Judged) → kind_of j.rule ≡ Kind.Judged Family.Ite → Met j ↔ MeetsDefinition j.rule j.premises j.clause
asks j is = rule_meets j.rule j is

-- clauses of references of terms of Bool
module _ (s : Table) (v : TermsView) where
  -- references stand for one list of terms
  one_clause : AreOne s v → (rs : List ℕ) (ts us : List Term) → ReferToAll s v rs ts → ReferToAll s v rs us → ts ≡ us
  one_clause one [] [] [] ts_refer us_refer = refl
  one_clause one [] [] (u ∷ us) ts_refer us_refer = absurd us_refer
  one_clause one [] (t ∷ ts) us ts_refer us_refer = absurd ts_refer
  one_clause one (r ∷ rs) [] us ts_refer us_refer = absurd ts_refer
  one_clause one (r ∷ rs) (t ∷ ts) [] ts_refer us_refer = absurd us_refer
  one_clause one (r ∷ rs) (t ∷ ts) (u ∷ us) ts_refer us_refer =
      let first : t ≡ u = (one r r t u ts_refer.0 us_refer.0).0 refl in
      let others : ts ≡ us = one_clause one rs ts us ts_refer.1 us_refer.1 in
      cc

  pub clause_of_truths : AreOne s v → (rs : List ℕ) (ts : List Term) → StandForTruths s v rs → ReferToAll s v rs ts → IsClauseOfTruths ts
  clause_of_truths one rs ts are refer = subst IsClauseOfTruths (one_clause one rs are.clause ts are.refer refer) are.truths
