-- What is said of a proof and of assertions, as the pass comes to know more.
use Rattle.std.proofs.Common.{◌≡◌, ℕ, List, inl, inr, sym, subst, refl}
use Rattle.pair_pool.specs.Views.{PassView, IsOneToOne}
use Rattle.proof_store.specs.Checks.{StandForSome}
use Rattle.proof_store.specs.Meaning.{StandForItems}
use Rattle.rule_model.specs.declared.statuses.Status.{Status}
use Rattle.rule_model.specs.Conditions.{IsClauseOfTruths}
use Rattle.rule_model.specs.Proofs.{ProofItems}
use Rattle.rule_model.specs.Reading.{clause_at, rule_at}
use Rattle.rule_model.specs.declared.rules.Rule.{Rule}
use Rattle.sym_table.specs.Table.{Table, IsTable, Keeps}
use Rattle.sym_table.proofs.Tables.{keeps_table}
use Rattle.term_model.specs.Terms.{Var, Term}
use Rattle.term_model.proofs.Zips.{zip_weaken}
use Rattle.term_pool.specs.Views.{TermsView, KeepsPass, KeepsTerms, RefersTo, ReferToAll}
use Rattle.term_reader.specs.declared.flags.Flags.{Flags}
use Rattle.proof_contexts.specs.OpenAnchors.{AreKept, IsAnchorImage}
use Rattle.term_pool.specs.Placing.{LacksCellOf, PlacesCellsOf}
use Rattle.term_pool.proofs.PlacedCells.{lacks_more, places_more, places_more_then, places_none}
use Rattle.proof_contexts.specs.declared.scopes.OpenScopes.{OpenScopes}
use Rattle.rules_refl.specs.Sides.{IsSideOf}
use Rattle.step_check.specs.Statuses.{IsPlacedOf, LacksRoomForPlaced, PlacesOnly}
use Rattle.step_check.specs.Steps.{IsStatusOf}

-- the laws of `proof_store`
abbrev pub ProofsStay : Type 0
ProofsStay = (s z : Table) (v w : TermsView) (refs : ProofItems ℕ ℕ) (proof : ProofItems Var Term) → Keeps s z → KeepsTerms v w → StandForItems s v refs proof → StandForItems z w refs proof

abbrev pub StandForOne : Type 0
StandForOne = (s : Table) (v : TermsView) (refs : ProofItems ℕ ℕ) (p q : ProofItems Var Term) → IsTable s → IsOneToOne v.pass → StandForItems s v refs p → StandForItems s v refs q → p ≡ q

pub some_stand : (s : Table) (v : TermsView) (refs : ProofItems ℕ ℕ) (x : OpenScopes) → AreKept s v refs x → StandForSome s v refs
some_stand s v refs x h = record { proof = h.proof; stand = h.stand }

-- references stand for the same terms where each reference does
pub refer_where : (s : Table) (v w : TermsView) → ((r : ℕ) (t : Term) → RefersTo s v r t → RefersTo s w r t) → (rs : List ℕ) (ts : List Term) → ReferToAll s v rs ts → ReferToAll s w rs ts
refer_where s v w stay rs ts h = zip_weaken (RefersTo s v) (RefersTo s w) stay rs ts h

pub refer_later : (s : Table) (v w : TermsView) → KeepsTerms v w → (rs : List ℕ) (ts : List Term) → ReferToAll s v rs ts → ReferToAll s w rs ts
refer_later s v w keeps = refer_where s v w (λ r t h. record { tree = h.tree; known = keeps.pass.grows r h.tree h.known; stands = h.stands })

module _ (stay : ProofsStay) (s : Table) (v w : TermsView) (keeps : KeepsTerms v w) (refs : ProofItems ℕ ℕ) where
  pub status_earlier : (flags : Flags) (asserted : List ℕ) (i : ℕ) (status : Status) → IsStatusOf flags s w asserted refs i status → IsStatusOf flags s v asserted refs i status
  status_earlier flags asserted i status h proof ts stand all =
      h proof ts (stay s s v w refs proof (keeps_table s) keeps stand) (refer_later s v w keeps asserted ts all)

  pub lacks_earlier : (z : TermsView) → LacksRoomForPlaced s w z refs → LacksRoomForPlaced s v z refs
  lacks_earlier z h proof stand = h proof (stay s s v w refs proof (keeps_table s) keeps stand)

  -- by the proof for which the references stood before
  pub sorted_later : StandForOne → IsTable s → IsOneToOne w.pass → StandForSome s v refs → (i : ℕ) → ((of : ProofItems Var Term) → StandForItems s v refs of → IsClauseOfTruths (clause_at of i)) → (of : ProofItems Var Term) → StandForItems s w refs of → IsClauseOfTruths (clause_at of i)
  sorted_later one table known some i sorted of stand =
      let same = one s w refs some.proof of table known (stay s s v w refs some.proof (keeps_table s) keeps some.stand) stand in
      subst (λ p. IsClauseOfTruths (clause_at p i)) same (sorted some.proof some.stand)

pub kept_same_terms : (s : Table) (v w : TermsView) (refs : ProofItems ℕ ℕ) (x : OpenScopes) → w ≡ v → AreKept s v refs x → AreKept s w refs x
kept_same_terms s v w refs x same h = subst (λ z. AreKept s z refs x) (sym same) h

-- what is placed, and what lacked room, is one of the terms that refl compares
side_is_placed : (of : ProofItems Var Term) (i : ℕ) → rule_at of i ≡ Rule.Refl → (t : Term) → IsSideOf of i t → IsPlacedOf of t
side_is_placed of i is t side = inr (record { index = i; refl = is; side = side })

module _ (s : Table) (of : ProofItems Var Term) where
  pub lacks_side : (new : PassView) (i : ℕ) → rule_at of i ≡ Rule.Refl → LacksCellOf s new (IsSideOf of i) → LacksCellOf s new (IsPlacedOf of)
  lacks_side new i is h = lacks_more s new (IsSideOf of i) (IsPlacedOf of) (side_is_placed of i is) h

  pub lacks_image : (new : PassView) → LacksCellOf s new (IsAnchorImage of) → LacksCellOf s new (IsPlacedOf of)
  lacks_image new h = lacks_more s new (IsAnchorImage of) (IsPlacedOf of) (λ t image. inl image) h

  pub places_image : (old new : PassView) → PlacesCellsOf s old new (IsAnchorImage of) → PlacesCellsOf s old new (IsPlacedOf of)
  places_image old new h = places_more s old new (IsAnchorImage of) (IsPlacedOf of) (λ t image. inl image) h

  -- first the images of the scope, and then the sides
  pub places_side : (old mid new : PassView) (i : ℕ) → rule_at of i ≡ Rule.Refl → KeepsPass mid new → PlacesCellsOf s old mid (IsAnchorImage of) → PlacesCellsOf s mid new (IsSideOf of i) → PlacesCellsOf s old new (IsPlacedOf of)
  places_side old mid new i is keeps h g =
      places_more_then s old mid new (IsPlacedOf of) keeps (places_image old mid h)
      (places_more s mid new (IsSideOf of i) (IsPlacedOf of) (side_is_placed of i is) g)

pub places_only_none : (s : Table) (v w : TermsView) (refs : ProofItems ℕ ℕ) → w ≡ v → PlacesOnly s v w refs
places_only_none s v w refs same of stand =
    subst (λ z. PlacesCellsOf s v.pass z.pass (IsPlacedOf of)) (sym same) (places_none s v.pass v.pass (IsPlacedOf of) refl)

pub places_only_then : ProofsStay → (s : Table) (u v w : TermsView) (refs : ProofItems ℕ ℕ) → KeepsTerms u v → KeepsTerms v w → PlacesOnly s u v refs → PlacesOnly s v w refs → PlacesOnly s u w refs
places_only_then stay s u v w refs before keeps h g of stand =
    places_more_then s u.pass v.pass w.pass (IsPlacedOf of) keeps.pass (h of stand) (g of (stay s s u v refs of (keeps_table s) before stand))
