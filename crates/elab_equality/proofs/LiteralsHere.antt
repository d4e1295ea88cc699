-- Private. The literals of a command may stand where it belongs.
use Rattle.std.proofs.Common.{◌⊎◌, inl, inr, ℕ, Contains, sym, subst}
use Rattle.term_model.specs.Terms.{Term}
use Rattle.term_pool.specs.Views.{TermsView}
use Rattle.rule_model.specs.Contexts.{IsClosedUnder}
use Rattle.rule_model.specs.Judged.{anchors_at}
use Rattle.rule_model.specs.Reading.{clause_at, closes_at, premises_at}
use Rattle.elaboration_laws.proofs.Anchors.{own_list}
use Rattle.elaboration_laws.proofs.Reading.{closes_same}
use Rattle.equality_steps.specs.declared.site.Site.{Site}
use Rattle.equality_steps.specs.Sites.{IsClosedAt, IsLiteralAt}
use Rattle.equality_steps.proofs.LawLemmas.{closed_under}
use Rattle.equality_blocks.specs.Commands.{IsToElaborate, IsLiteralOfCommand}
use Rattle.equality_blocks.proofs.ClosedLiterals.{given_closed, own_closed, own_sorted, premise_sorted}
use Rattle.equality_blocks.proofs.LiteralLemmas.{formed_terms, literal_there, own_anchors_stand, within_terms}

pub literal_fits : (p : Site) (v : TermsView) → IsToElaborate p v → (t : Term) → IsLiteralOfCommand p v t → IsLiteralAt p t
literal_fits p v h t k = go (literal_there p v h t k)
  where
    closed : IsClosedUnder (own_list (closes_at h.proof p.command) (anchors_at h.proof p.command)) t → IsClosedAt p t
    closed c =
        (closed_under p v _ t (own_anchors_stand p v h)).1
        (subst (λ o. IsClosedUnder (own_list o (anchors_at h.proof p.command)) t) (sym (closes_same p.symbols.now v p.proof.now h.proof h.stand p.command)) c)

    go : Contains (clause_at h.proof p.command) t ⊎ ((j : ℕ) × Contains (premises_at h.proof p.command) j × Contains (clause_at h.proof j) t) → IsLiteralAt p t
    go (inl own) = (
      own_sorted h.proof (formed_terms p v h) p.command (within_terms p v h) h.sorted t own,
      closed (own_closed h.proof (formed_terms p v h) p.command (within_terms p v h) h.sorted t own),
    )
    go (inr (j, among, has)) = (
      premise_sorted h.proof (formed_terms p v h) p.command (within_terms p v h) h.sorted j among t has,
      closed (given_closed h.proof (formed_terms p v h) p.command (within_terms p v h) h.sorted j among t has),
    )
