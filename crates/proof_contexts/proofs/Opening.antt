-- A scope is entered that stands directly in the one that was entered last.
use Rattle.std.proofs.Common.{◌≡◌, ◌++◌, ℕ, List, [], ◌∷◌, reverse, Some, refl, sym, ◌∙◌, subst}
use Rattle.std.specs.List.{AllZip}
use Rattle.contexts.specs.declared.kept.Substitution.{Substitution}
use Rattle.contexts.specs.Kept.{IsRight, all_bindings, frames_of}
use Rattle.contexts.specs.PutIn.{StandForReplacement, AreReplacementBy, joined}
use Rattle.pair_pool.specs.Views.{PassView, IsOneToOne}
use Rattle.term_pool.specs.Bindings.{IsBindingOf}
use Rattle.proof_store.specs.Meaning.{StandForItems}
use Rattle.rule_model.specs.Contexts.{images, put_in_each}
use Rattle.rule_model.specs.Proofs.{ProofItems}
use Rattle.rule_model.specs.Reading.{parent_at, bindings_at}
use Rattle.sym_table.specs.Table.{Table, IsTable}
use Rattle.term_model.proofs.Zips.{zip_append}
use Rattle.term_model.specs.Terms.{Var, Term}
use Rattle.term_pool.specs.Views.{TermsView, IsTerm, KeepsTerms}
use Rattle.proof_contexts.specs.declared.scopes.OpenScopes.{OpenScopes}
use Rattle.proof_contexts.specs.Images.{IsImageIn}
use Rattle.proof_contexts.specs.Bindings.{BindTerms}
use Rattle.proof_contexts.specs.OpenAnchors.{IsLevel, AreLevels, IsAnchorImage, scopes_entered, AreKept}
use Rattle.term_pool.specs.Placing.{PlacesCellsOf, LacksCellOf}
use Rattle.proof_contexts.proofs.Levels.{BindingsStay, levels_later, stand_later, scopes_more, level_here}
use Rattle.term_pool.proofs.PlacedCells.{places_more, lacks_more}

pub one_term : (s : Table) (v : TermsView) (b : ℕ × ℕ) → BindTerms s v (b ∷ []) → IsTerm s v b.1
one_term s v b h = go h.bound h.are
  where
    go : (bound : List (Var × Term)) → AllZip (IsBindingOf s v) (b ∷ []) bound → IsTerm s v b.1
    go [] are = absurd are
    go (c ∷ cs) are = record { means = c.1; refers = are.0.term }

-- the laws of `proof_store` on a proof and the one for which it stands
abbrev pub BindingsCorrespond : Type 0
BindingsCorrespond = (s : Table) (v : TermsView) (refs : ProofItems ℕ ℕ) (proof : ProofItems Var Term) (k : ℕ) → StandForItems s v refs proof → AllZip (IsBindingOf s v) (bindings_at refs k) (bindings_at proof k)

abbrev pub StandForOne : Type 0
StandForOne = (s : Table) (v : TermsView) (refs : ProofItems ℕ ℕ) (p q : ProofItems Var Term) → IsTable s → IsOneToOne v.pass → StandForItems s v refs p → StandForItems s v refs q → p ≡ q

module _ (s : Table) (v : TermsView) (refs : ProofItems ℕ ℕ) (x : OpenScopes) (kept : AreKept s v refs x) (k : ℕ) (parent : parent_at refs k ≡ Some x.here) (same_parent : parent_at refs k ≡ parent_at kept.proof k) where
  -- the bindings of the new frame stand for the images of the anchor's variables
  pub inner_stand : (stay : BindingsStay) (w : TermsView) (sub : Substitution) → KeepsTerms v w → frames_of sub ≡ frames_of x.substitution → (list : List (ℕ × ℕ)) → AllZip (IsBindingOf s w) list (put_in_each (images (level_here s v refs x kept).anchors) (bindings_at kept.proof k)) → StandForReplacement s w (list ++ all_bindings sub) (images (bindings_at kept.proof k ∷ (level_here s v refs x kept).anchors))
  inner_stand stay w sub grows same list zip =
      zip_append (IsBindingOf s w) list (put_in_each (images (level_here s v refs x kept).anchors) (bindings_at kept.proof k)) (all_bindings sub) (images (level_here s v refs x kept).anchors) zip
      (stand_later stay s v w x.substitution sub grows same (images (level_here s v refs x kept).anchors) (level_here s v refs x kept).stand)

  pub inner_replacement : (stay : BindingsStay) (w : TermsView) (sub : Substitution) → KeepsTerms v w → frames_of sub ≡ frames_of x.substitution → (list : List (ℕ × ℕ)) → AllZip (IsBindingOf s w) list (put_in_each (images (level_here s v refs x kept).anchors) (bindings_at kept.proof k)) → AreReplacementBy s w (list ++ all_bindings sub)
  inner_replacement stay w sub grows same list zip = record {
    means = images (bindings_at kept.proof k ∷ (level_here s v refs x kept).anchors);
    are = inner_stand stay w sub grows same list zip;
  }

  pub kept_in : (stay : BindingsStay) (w : TermsView) (sub : Substitution) → KeepsTerms v w → frames_of sub ≡ frames_of x.substitution → (list : List (ℕ × ℕ)) → AllZip (IsBindingOf s w) list (put_in_each (images (level_here s v refs x kept).anchors) (bindings_at kept.proof k)) → (new : OpenScopes) → StandForItems s w refs kept.proof → new.here ≡ k → new.around.items ≡ x.around.items ++ x.here ∷ [] → frames_of new.substitution ≡ list ∷ frames_of sub → IsRight w new.substitution → AreKept s w refs new
  kept_in stay w sub grows same list zip new stand here around frames right = record {
    proof = kept.proof;
    stand = stand;
    levels = subst (λ h. AreLevels s w kept.proof (h ∷ reverse new.around.items) (frames_of new.substitution)) (sym here)
        (subst (λ ks. AreLevels s w kept.proof (k ∷ reverse ks) (frames_of new.substitution)) (sym around)
        (subst (λ ks. AreLevels s w kept.proof (k ∷ ks) (frames_of new.substitution)) (sym (scopes_more x.around.items x.here))
        (subst (AreLevels s w kept.proof (k ∷ x.here ∷ reverse x.around.items)) (sym frames)
        (level, tt, outer))));
    right = right;
  }
    where
      level : IsLevel s w kept.proof k (joined (list ∷ frames_of sub))
      level = record {
        anchors = bindings_at kept.proof k ∷ (level_here s v refs x kept).anchors;
        are_open = (x.here, sym same_parent ∙ parent, refl, (level_here s v refs x kept).are_open);
        stand = inner_stand stay w sub grows same list zip;
      }

      outer : AreLevels s w kept.proof (x.here ∷ reverse x.around.items) (frames_of sub)
      outer = subst (AreLevels s w kept.proof (scopes_entered x)) (sym same) (levels_later stay s v w grows kept.proof (scopes_entered x) (frames_of x.substitution) kept.levels)

  is_image : (t : Term) → IsImageIn (images (level_here s v refs x kept).anchors) (bindings_at kept.proof k) t → IsAnchorImage kept.proof t
  is_image t h = record {
    scope = k;
    anchor = bindings_at kept.proof k;
    outer = (level_here s v refs x kept).anchors;
    are_open = (x.here, sym same_parent ∙ parent, refl, (level_here s v refs x kept).are_open);
    among = h;
  }

  -- what is placed for the images of the anchor's variables
  pub places_images : StandForOne → IsTable s → IsOneToOne v.pass → (new : PassView) → PlacesCellsOf s v.pass new (IsImageIn (images (level_here s v refs x kept).anchors) (bindings_at kept.proof k)) → (of : ProofItems Var Term) → StandForItems s v refs of → PlacesCellsOf s v.pass new (IsAnchorImage of)
  places_images one table known new h of stands =
      subst (λ p. PlacesCellsOf s v.pass new (IsAnchorImage p)) (one s v refs kept.proof of table known kept.stand stands)
      (places_more s v.pass new (IsImageIn (images (level_here s v refs x kept).anchors) (bindings_at kept.proof k)) (IsAnchorImage kept.proof) is_image h)

  pub lacks_images : StandForOne → IsTable s → IsOneToOne v.pass → (new : PassView) → LacksCellOf s new (IsImageIn (images (level_here s v refs x kept).anchors) (bindings_at kept.proof k)) → (of : ProofItems Var Term) → StandForItems s v refs of → LacksCellOf s new (IsAnchorImage of)
  lacks_images one table known new h of stands =
      subst (λ p. LacksCellOf s new (IsAnchorImage p)) (one s v refs kept.proof of table known kept.stand stands)
      (lacks_more s new (IsImageIn (images (level_here s v refs x kept).anchors) (bindings_at kept.proof k)) (IsAnchorImage kept.proof) is_image h)
