-- Private. Work whose last step says what the clause does is in the place of the command.
use Rattle.std.proofs.Common.{◌≡◌, inl, inr, ℕ, List, [], ◌∷◌, length, None, Result, Ok, Err, OnOk, refl, sym, ◌∙◌, ap, subst}
use Rattle.term_model.specs.Flips.{equality}
use Rattle.term_parts.specs.declared.answers.RuleStop.{RuleStop}
use Rattle.term_pool.specs.Views.{TermsView, KeepsTerms, ReferToAll}
use Rattle.term_pool.proofs.TermLemmas.{equal_where}
use Rattle.proof_store.specs.AddedSteps.{AddedStep}
use Rattle.rule_model.specs.declared.rules.Rule.{Rule}
use Rattle.rule_model.specs.Reading.{closes_at}
use Rattle.rule_model.specs.RuleNames.{kind_of, IsJudged}
use Rattle.equality_steps.specs.Blocks.{EndsBy}
use Rattle.equality_steps.specs.declared.site.Site.{Site}
use Rattle.flip_steps.proofs.OrderLemmas.{refers_later}
use Rattle.equality_blocks.specs.Blocks.{IsBlockFor}
use Rattle.equality_blocks.specs.Commands.{IsToElaborate}
use Rattle.equality_blocks.specs.Counts.{IsFew}
use Rattle.equality_blocks.specs.Made.{IsMadeFor, literal, stated}
use Rattle.equality_blocks.proofs.EndLemmas.{block_for, ends_in_literal}
use Rattle.elab_equality.specs.declared.work.Work.{Work}
use Rattle.elab_equality.specs.Linked.{EndsIn}
use Rattle.elab_equality.specs.Walking.{EndsByEither, IsClauseOfSides, MayEqualItself}
use Rattle.elab_equality.specs.Work.{AreMadeEqual, IsWork}
use Rattle.elab_equality.proofs.ClauseLemmas.{clause_literal, clause_sides}

pub sides_later : (p : Site) (u v : TermsView) (a b : ℕ) → KeepsTerms u v → IsClauseOfSides p u a b → IsClauseOfSides p v a b
sides_later p u v a b keeps h = record {
  literal = h.literal;
  clause = h.clause;
  left = h.left;
  right = h.right;
  literal_refers = refers_later p.symbols.now u v h.literal (equality h.left h.right) keeps h.literal_refers;
  left_refers = refers_later p.symbols.now u v a h.left keeps h.left_refers;
  right_refers = refers_later p.symbols.now u v b h.right keeps h.right_refers;
}

-- the equality of the sides is made for the command, and that of a side with itself where they are one
module _ (p : Site) (v : TermsView) (job : IsToElaborate p v) (a b : ℕ) (sides : IsClauseOfSides p v a b) where
  clause_made : IsMadeFor p v (equality sides.left sides.right)
  clause_made = stated (equality sides.left sides.right) (literal (equality sides.left sides.right) (clause_literal p v job a b sides))

  pub sides_made : AreMadeEqual p v a b
  sides_made = record { left = sides.left; right = sides.right; left_refers = sides.left_refers; right_refers = sides.right_refers; made = clause_made }

  pub may_equal_itself : a ≡ b → MayEqualItself p v a
  may_equal_itself same =
      let fit = clause_sides p v job a b sides in
      let is = (equal_where p.symbols.now v job.table job.known a b sides.left sides.right sides.left_refers sides.right_refers).0 same in
      record {
        sort = fit.sort;
        term = sides.left;
        refers = sides.left_refers;
        fits = fit.left;
        made = subst (λ x. IsMadeFor p v (equality sides.left x)) (sym is) clause_made;
      }

-- the last step is by one of the two rules
pub by_trans : {X : Type 0} (r : Result X RuleStop) (steps : List AddedStep) → OnOk r (EndsBy steps Rule.Trans) → OnOk r (EndsByEither steps)
by_trans (Ok x) steps h = inl h
by_trans (Err e) steps h = tt

pub by_reflexive : {X : Type 0} (r : Result X RuleStop) (steps : List AddedStep) → OnOk r (EndsBy steps Rule.EqReflexive) → OnOk r (EndsByEither steps)
by_reflexive (Ok x) steps h = inr h
by_reflexive (Err e) steps h = tt

pub ends_other : {X : Type 0} (p : Site) (v : TermsView) (r : Result X RuleStop) (steps : List AddedStep) (a b : ℕ) → a ≡ b → OnOk r (EndsIn p v steps a a)
    → OnOk r (EndsIn p v steps a b)
ends_other p v r steps a b same h = subst (λ x. OnOk r (EndsIn p v steps a x)) same h

module _ (p : Site) (v : TermsView) (job : IsToElaborate p v) (closes : closes_at p.proof.now p.command ≡ None) (w : Work) (work : IsWork p v w) (a b : ℕ)
    (sides : IsClauseOfSides p v a b) (ends : EndsIn p v w.block a b) (few : IsFew p v (length w.block)) where
  said : equality ends.left ends.right ≡ equality sides.left sides.right
  said =
      ap (λ x. equality x ends.right) ((equal_where p.symbols.now v job.table job.known a a ends.left sides.left ends.left_refers sides.left_refers).0 refl)
      ∙ ap (λ y. equality sides.left y) ((equal_where p.symbols.now v job.table job.known b b ends.right sides.right ends.right_refers sides.right_refers).0 refl)

  ended : (rule : Rule) → EndsBy w.block rule → IsJudged (kind_of rule) → IsBlockFor p v w.block
  ended rule by judged =
      block_for p v w.block job closes work.block work.made few
      (ends_in_literal p v w.block ends.before ends.last ends.is rule by judged job.table job.known sides.literal (equality sides.left sides.right) sides.clause
      sides.literal_refers (subst (λ t. ReferToAll p.symbols.now v ends.last.clause (t ∷ [])) said ends.stands))

  pub ended_either : EndsByEither w.block → IsBlockFor p v w.block
  ended_either (inl by) = ended Rule.Trans by (record { family = _; is = refl })
  ended_either (inr by) = ended Rule.EqReflexive by (record { family = _; is = refl })
