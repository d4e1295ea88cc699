-- What is said of steps and of a proof stays so where more is known of the terms.
use Rattle.std.proofs.Common.{ℕ, List, inl, inr, map}
use Rattle.sym_table.specs.Table.{Table}
use Rattle.sym_table.proofs.Tables.{keeps_table}
use Rattle.term_model.proofs.Zips.{zip_weaken}
use Rattle.term_model.specs.Terms.{Var, Term}
use Rattle.term_pool.specs.Views.{TermsView, RefersTo, ReferToAll}
use Rattle.worker_crew.specs.Pieces.{Extends}
use Rattle.proof_store.specs.AddedSteps.{AddedStep}
use Rattle.proof_store.specs.Meaning.{IsPivotOf, StandForItems}
use Rattle.proof_store.proofs.MeaningLemmas.{items_stay}
use Rattle.rule_model.specs.declared.statuses.Status.{Status}
use Rattle.rule_model.specs.Proofs.{ProofItems}
use Rattle.elab_resolution.specs.Adding.{linked_clause}
use Rattle.pair_pool.specs.Views.{Grows}
use Rattle.equality_steps.specs.declared.site.Site.{Site}
use Rattle.equality_blocks.specs.Made.{IsPlacedFor as IsPlacedForCommand}
use Rattle.elaboration.specs.Elaborated.{IsMadeForRelinked, IsNearReplaced, IsPlacedFor}
use Rattle.elaboration.specs.Replaced.{CanBeReplaced, IsKeptOrReplaced, IsRelinking, IsReplacement, IsTermStep}

-- of the law of `equality_blocks`
abbrev pub PlacedGrows : Type 0
PlacedGrows = (p : Site) (v w : TermsView) (t : Term) → Grows v.pass w.pass → IsPlacedForCommand p v t → IsPlacedForCommand p w t

module _ (s : Table) (v w : TermsView) (more : Extends v w) where
  refers_later : (r : ℕ) (t : Term) → RefersTo s v r t → RefersTo s w r t
  refers_later r t h = record { tree = h.tree; known = more.grows r h.tree h.known; stands = h.stands }

  pub refer_later : (rs : List ℕ) (ts : List Term) → ReferToAll s v rs ts → ReferToAll s w rs ts
  refer_later rs ts h = zip_weaken (RefersTo s v) (RefersTo s w) refers_later rs ts h

  pub stand_later : (refs : ProofItems ℕ ℕ) (proof : ProofItems Var Term) → StandForItems s v refs proof → StandForItems s w refs proof
  stand_later refs proof h = items_stay s s v w (keeps_table s) refers_later refs proof h

  step_later : (refs : ProofItems ℕ ℕ) (proof : ProofItems Var Term) (i : ℕ) (before : List AddedStep) (a : AddedStep)
      → IsTermStep s v refs proof i before a → IsTermStep s w refs proof i before a
  step_later refs proof i before a h = record {
    links = h.links;
    rule = h.rule;
    clause = h.clause;
    clause_refers = refer_later a.clause h.clause h.clause_refers;
    truths = h.truths;
    near = h.near;
    pivots = h.pivots;
    pivots_refer =
        zip_weaken (IsPivotOf s v) (IsPivotOf s w) (λ p q x. record { term = refers_later p.0 q.0 x.term; truth = x.truth }) a.pivots h.pivots h.pivots_refer;
    near_pivots = h.near_pivots;
    premises = h.premises;
    premises_refer =
        zip_weaken (ReferToAll s v) (ReferToAll s w) refer_later (map (linked_clause refs before) a.premises) h.premises h.premises_refer;
    met = h.met;
  }

  module _ (asserted : List ℕ) (refs : ProofItems ℕ ℕ) (strict : List Status) where
    abbrev pub can_later : CanBeReplaced s v asserted refs strict → CanBeReplaced s w asserted refs strict
    can_later h = record {
      proof = h.proof;
      stand = stand_later refs h.proof h.stand;
      formed = h.formed;
      short = h.short;
      sorted = h.sorted;
      well_sorted = h.well_sorted;
      assertions = h.assertions;
      refer = refer_later asserted h.assertions h.refer;
      truths = h.truths;
      count = h.count;
      ok = h.ok;
    }

    replacement_later : (i : ℕ) (block : List AddedStep) → IsReplacement s v refs strict i block → IsReplacement s w refs strict i block
    replacement_later i block h = record {
      proof = h.proof;
      stand = stand_later refs h.proof h.stand;
      short = h.short;
      each = λ k a e. step_later refs h.proof i _ a (h.each k a e);
      ends = h.ends;
    }

    relinking_later : (i : ℕ) (block : List AddedStep) → IsRelinking s v asserted refs strict i block → IsRelinking s w asserted refs strict i block
    relinking_later i block h = record {
      relinked = h.relinked;
      site = h.site;
      is_site = h.is_site;
      view = h.view;
      more = λ r tree known. more.grows r tree (h.more r tree known);
      steps = h.steps;
    }

    pub said_later : (i : ℕ) (block : List AddedStep) → IsKeptOrReplaced s v asserted refs strict i block → IsKeptOrReplaced s w asserted refs strict i block
    said_later i block (inl kept) = inl kept
    said_later i block (inr (inl h)) = inr (inl (replacement_later i block h))
    said_later i block (inr (inr h)) = inr (inr (relinking_later i block h))

    near_later : (t : Term) → IsNearReplaced s v refs strict t → IsNearReplaced s w refs strict t
    near_later t h = record { proof = h.proof; stand = stand_later refs h.proof h.stand; index = h.index; replaced = h.replaced; near = h.near }

    made_later : PlacedGrows → (t : Term) → IsMadeForRelinked s v asserted refs strict t → IsMadeForRelinked s w asserted refs strict t
    made_later law t h = record {
      index = h.index;
      relinked = h.relinked;
      site = h.site;
      is_site = h.is_site;
      made = law h.site v w t more.grows h.made;
    }

    pub placed_later : PlacedGrows → (t : Term) → IsPlacedFor s v asserted refs strict t → IsPlacedFor s w asserted refs strict t
    placed_later law t (inl h) = inl (near_later t h)
    placed_later law t (inr h) = inr (made_later law t h)
