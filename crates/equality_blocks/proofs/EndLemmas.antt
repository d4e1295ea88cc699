-- Cited by crates above. Steps whose last one has the literal of the command are in its place.
use Rattle.std.proofs.Common.{◌≡◌, ◌-◌, ℕ, List, [], ◌∷◌, ◌++◌, length, slice_get, Some, None, refl, sym, ◌∙◌, ap, subst}
use Rattle.pair_pool.specs.Views.{IsOneToOne}
use Rattle.sym_table.specs.Table.{IsTable}
use Rattle.term_model.proofs.Basics.{same_some}
use Rattle.term_model.specs.Terms.{Term}
use Rattle.term_pool.specs.Views.{TermsView, RefersTo, ReferToAll}
use Rattle.term_pool.proofs.TermLemmas.{equal_where}
use Rattle.proof_store.specs.AddedSteps.{AddedStep}
use Rattle.rule_model.specs.declared.kinds.Family.{Family}
use Rattle.rule_model.specs.declared.kinds.Kind.{Kind}
use Rattle.rule_model.specs.declared.rules.Rule.{Rule}
use Rattle.rule_model.specs.Reading.{closes_at}
use Rattle.rule_model.specs.RuleNames.{kind_of, IsJudged}
use Rattle.equality_steps.specs.declared.site.Site.{Site}
use Rattle.equality_steps.specs.Blocks.{EndsBy, IsBlockAt}
use Rattle.equality_blocks.specs.Blocks.{EndsInClause, IsBlockFor}
use Rattle.equality_blocks.specs.Commands.{IsToElaborate, clause_of_command}
use Rattle.equality_blocks.specs.Counts.{IsFew}
use Rattle.equality_blocks.specs.Made.{AreMadeSteps}
use Rattle.equality_blocks.proofs.BlockLemmas.{last_place}

module _ (p : Site) (v : TermsView) (block before : List AddedStep) (last : AddedStep) (is : block ≡ before ++ last ∷ []) (rule : Rule) (by : EndsBy block rule)
    (judged : IsJudged (kind_of rule)) where
  same_last : by.last ≡ last
  same_last = same_some (sym (last_place by.before by.last block by.is) ∙ last_place before last block is)

  last_judged : IsJudged (kind_of last.rule)
  last_judged = subst (λ r. IsJudged (kind_of r)) (sym by.by ∙ ap (λ (a : AddedStep). a.rule) same_last) judged

  -- the last step has the clause
  pub ends_in_clause : last.clause ≡ clause_of_command p → EndsInClause p block
  ends_in_clause clause = record { before = before; last = last; is = is; judged = last_judged; clause = clause }

  -- its clause is the one literal of the command's
  pub ends_in_literal : IsTable p.symbols.now → IsOneToOne v.pass → (literal : ℕ) (t : Term) → clause_of_command p ≡ literal ∷ []
      → RefersTo p.symbols.now v literal t → ReferToAll p.symbols.now v last.clause (t ∷ []) → EndsInClause p block
  ends_in_literal table one literal t clause refers stands = ends_in_clause (go last.clause stands ∙ sym clause)
    where
      go : (rs : List ℕ) → ReferToAll p.symbols.now v rs (t ∷ []) → rs ≡ literal ∷ []
      go [] h = absurd h
      go (r ∷ (q ∷ rs)) h = absurd h.1
      go (r ∷ []) h = ap (λ x. x ∷ []) ((equal_where p.symbols.now v table one r literal t t h.0 refers).1 refl)

pub block_for : (p : Site) (v : TermsView) (block : List AddedStep) → IsToElaborate p v → closes_at p.proof.now p.command ≡ None → IsBlockAt p v block
    → AreMadeSteps p v block → IsFew p v (length block) → EndsInClause p block → IsBlockFor p v block
block_for p v block command closes steps made few ends = record {
  command = command;
  closes_nothing = closes;
  steps = steps;
  ends = ends;
  made = made;
  few = few;
}
