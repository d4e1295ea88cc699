-- Steps in the place of a command that is no resolution, where all is known that is of the terms: they may be added, they are strict, they
-- fit, and there are few of them.
use Rattle.std.proofs.Common.{◌≡◌, ◌⊎◌, inl, inr, ℕ, List, length, slice_get, Some}
use Rattle.pair_pool.specs.Views.{Grows, IsOneToOne}
use Rattle.sym_table.specs.Table.{Table}
use Rattle.term_model.specs.Terms.{Var, Term}
use Rattle.term_pool.specs.Views.{TermsView, ReferToAll}
use Rattle.proof_store.specs.AddedSteps.{AddedStep}
use Rattle.proof_store.specs.Meaning.{StandForItems}
use Rattle.rule_model.specs.declared.statuses.Status.{Status}
use Rattle.rule_model.specs.Commands.{Line, lines_in}
use Rattle.rule_model.specs.Proofs.{ProofItems}
use Rattle.rule_model.specs.Scopes.{outermost}
use Rattle.rule_model.specs.Statuses.{Checking}
use Rattle.elaborator.specs.Blocks.{IsBlockOf}
use Rattle.elaboration_laws.specs.StrictBlocks.{IsFittingBlock, IsStrictBlock}
use Rattle.equality_steps.specs.declared.site.Site.{Site}
use Rattle.equality_blocks.specs.Blocks.{IsBlockFor, IsClosingBlockFor, IsReplacementFor}
use Rattle.equality_blocks.specs.Counts.{IsFew}
use Rattle.elaboration.specs.Elaborated.{IsFewBlock}
use Rattle.elaboration.specs.Replaced.{IsRelinking}
use Rattle.elaboration.proofs.Sites.{of_site, to_site}

-- the laws of `equality_blocks`, of blocks by which a command is replaced
abbrev pub Grow : (Site → TermsView → List AddedStep → Type 0) → Type 0
Grow IsBlock =
    (p : Site) (v w : TermsView) (block : List AddedStep) → Grows v.pass w.pass → IsOneToOne w.pass → IsBlock p v block → IsBlock p w block

abbrev pub AreStrict : (Site → TermsView → List AddedStep → Type 0) → Type 0
AreStrict IsBlock =
    (p : Site) (v : TermsView) (c : Checking) (proof : ProofItems Var Term) (block : List AddedStep) →
    StandForItems p.symbols.now v p.proof.now proof → ReferToAll p.symbols.now v p.asserted.now c.assertions → IsBlock p v block →
    IsStrictBlock p.symbols.now v c p.proof.now proof p.command block

abbrev pub AreFitting : (Site → TermsView → List AddedStep → Type 0) → Type 0
AreFitting IsBlock =
    (p : Site) (v : TermsView) (c : Checking) (proof : ProofItems Var Term) (block : List AddedStep) →
    StandForItems p.symbols.now v p.proof.now proof → ReferToAll p.symbols.now v p.asserted.now c.assertions → IsBlock p v block →
    IsFittingBlock p.symbols.now v c p.proof.now proof p.command block

abbrev pub MayAllBeAdded : (Site → TermsView → List AddedStep → Type 0) → Type 0
MayAllBeAdded IsBlock =
    (p : Site) (v : TermsView) (line : Line ℕ ℕ) (block : List AddedStep) → slice_get (lines_in outermost p.proof.now) p.command ≡ Some line →
    IsBlock p v block → IsBlockOf line block

pub record Replace (IsBlock : Site → TermsView → List AddedStep → Type 0) : Type 0 where
  pub grow : Grow IsBlock
  pub strict : AreStrict IsBlock
  pub fitting : AreFitting IsBlock
  pub added : MayAllBeAdded IsBlock

-- of blocks that close nothing, and of those that close a scope
pub both_replace : Replace IsBlockFor → Replace IsClosingBlockFor → Replace IsReplacementFor
both_replace one other = record {
  grow = λ p v w block more known h. elim h [ inl b ↦ inl (one.grow p v w block more known b) | inr b ↦ inr (other.grow p v w block more known b) ];
  strict = λ p v c proof block stand refer h. elim h [
    | inl b ↦ one.strict p v c proof block stand refer b
    | inr b ↦ other.strict p v c proof block stand refer b
  ];
  fitting = λ p v c proof block stand refer h. elim h [
    | inl b ↦ one.fitting p v c proof block stand refer b
    | inr b ↦ other.fitting p v c proof block stand refer b
  ];
  added = λ p v line block there h. elim h [ inl b ↦ one.added p v line block there b | inr b ↦ other.added p v line block there b ];
}

few_of : (p : Site) (v : TermsView) (block : List AddedStep) → IsReplacementFor p v block → IsFew p v (length block)
few_of p v block (inl b) = b.few
few_of p v block (inr b) = b.few

module _ (replace : Replace IsReplacementFor) (s : Table) (w : TermsView) (known : IsOneToOne w.pass) (asserted : List ℕ) (refs : ProofItems ℕ ℕ)
    (strict : List Status) (i : ℕ) (block : List AddedStep) (h : IsRelinking s w asserted refs strict i block) where
  pub steps_now : IsReplacementFor h.site w block
  steps_now = replace.grow h.site h.view w block h.more known h.steps

  pub relinked_added : (l : Line ℕ ℕ) → slice_get (lines_in outermost refs) i ≡ Some l → IsBlockOf l block
  relinked_added =
      of_site (λ z a r k. (l : Line ℕ ℕ) → slice_get (lines_in outermost r) k ≡ Some l → IsBlockOf l block) s asserted refs i h.site h.is_site
      (λ l there. replace.added h.site w l block there steps_now)

  module _ (c : Checking) (proof : ProofItems Var Term) where
    pub relinked_strict : StandForItems s w refs proof → ReferToAll s w asserted c.assertions → IsStrictBlock s w c refs proof i block
    relinked_strict =
        of_site (λ z a r k. StandForItems z w r proof → ReferToAll z w a c.assertions → IsStrictBlock z w c r proof k block) s asserted refs i h.site h.is_site
        (λ stand refer. replace.strict h.site w c proof block stand refer steps_now)

    pub relinked_fits : StandForItems s w refs proof → ReferToAll s w asserted c.assertions → IsFittingBlock s w c refs proof i block
    relinked_fits =
        of_site (λ z a r k. StandForItems z w r proof → ReferToAll z w a c.assertions → IsFittingBlock z w c r proof k block) s asserted refs i h.site h.is_site
        (λ stand refer. replace.fitting h.site w c proof block stand refer steps_now)

  pub relinked_few : IsFewBlock s w asserted refs strict i block
  relinked_few = record { relinked = h.relinked; site = h.site; is_site = h.is_site; few = few_of h.site w block steps_now }
