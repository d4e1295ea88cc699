-- Private. The images of what open anchors bind are put into the sides of a refl.
use Rattle.std.proofs.Common.{◌≡◌, inl, inr, ℕ, List, None, refl, sym, ◌∙◌, subst}
use Rattle.term_model.specs.Flips.{equality}
use Rattle.term_model.specs.Terms.{Var, Term, not_of}
use Rattle.term_pool.specs.Placing.{LacksCellOf, LacksRoomFor, PlacesCellsOf, PlacesTerm}
use Rattle.term_pool.specs.Views.{TermsView, KeepsTerms, RefersTo}
use Rattle.term_pool.proofs.PlacedCells.{lacks_for_term, lacks_more, places_more, places_more_then, places_of_term}
use Rattle.proof_contexts.specs.OpenAnchors.{AreOpenIn, IsAnchorImage, scope_of}
use Rattle.proof_contexts.specs.declared.scopes.OpenScopes.{OpenScopes}
use Rattle.rule_model.specs.declared.rules.Rule.{Rule}
use Rattle.rule_model.specs.Contexts.{images}
use Rattle.rule_model.specs.Judged.{anchors_at}
use Rattle.rule_model.specs.Proofs.{ProofItems}
use Rattle.rule_model.specs.Reading.{closes_at, scope_at}
use Rattle.rule_model.specs.Substitution.{put_in}
use Rattle.elaborator.specs.Sources.{own_anchors}
use Rattle.elaboration_laws.specs.StrictBlocks.{AnchorsStand}
use Rattle.elaboration_laws.proofs.Reading.{anchors_stand, closes_same, scope_same}
use Rattle.equality_steps.specs.declared.site.Site.{Site}
use Rattle.equality_steps.proofs.LawLemmas.{own_same}
use Rattle.flip_steps.proofs.OrderLemmas.{refers_later}
use Rattle.equality_blocks.specs.Commands.{IsToElaborate, rule_of_command}
use Rattle.equality_blocks.specs.Made.{IsPlacedFor, paired, right, stated}
use Rattle.equality_blocks.specs.Pairs.{AreEquated, IsPutIn, linked, put_in_one}
use Rattle.equality_blocks.proofs.Growing.{anchors_more, items_more}
use Rattle.equality_blocks.proofs.StayLemmas.{placed_later}
use Rattle.elab_equality.specs.Reflecting.{IsImageOf, IsInScope, IsSideOfClause}
use Rattle.elab_equality.specs.Walking.{IsClauseOfSides}
use Rattle.elab_equality.proofs.ClauseLemmas.{clause_literal}
use Rattle.elab_equality.proofs.ReflectLemmas.{refl_closes}

-- one call places cells of terms that are placed for the command, and then another
pub placed_then : (p : Site) (u v w : TermsView) → KeepsTerms v w → PlacesCellsOf p.symbols.now u.pass v.pass (IsPlacedFor p v)
    → PlacesCellsOf p.symbols.now v.pass w.pass (IsPlacedFor p w) → PlacesCellsOf p.symbols.now u.pass w.pass (IsPlacedFor p w)
placed_then p u v w keeps h k =
    places_more_then p.symbols.now u.pass v.pass w.pass (IsPlacedFor p w) keeps.pass
    (places_more p.symbols.now u.pass v.pass (IsPlacedFor p v) (IsPlacedFor p w) (placed_later p v w keeps) h) k

-- what is placed where a scope is entered
module _ (p : Site) (u v : TermsView) (job : IsToElaborate p u) (rule : rule_of_command p ≡ Rule.Refl) (keeps : KeepsTerms u v) where
  image_placed : (t : Term) → IsAnchorImage job.proof t → IsPlacedFor p v t
  image_placed t h = inr (record {
    rule = rule;
    proof = job.proof;
    stand = items_more p.symbols.now u v keeps.pass.grows p.proof.now job.proof job.stand;
    image = h;
  })

  pub scope_placed : PlacesCellsOf p.symbols.now u.pass v.pass (IsAnchorImage job.proof) → PlacesCellsOf p.symbols.now u.pass v.pass (IsPlacedFor p v)
  scope_placed h = places_more p.symbols.now u.pass v.pass (IsAnchorImage job.proof) (IsPlacedFor p v) image_placed h

  pub scope_lacks : LacksCellOf p.symbols.now v.pass (IsAnchorImage job.proof) → LacksCellOf p.symbols.now v.pass (IsPlacedFor p v)
  scope_lacks h = lacks_more p.symbols.now v.pass (IsAnchorImage job.proof) (IsPlacedFor p v) image_placed h

-- a side of the clause
equated_later : (p : Site) (v w : TermsView) → KeepsTerms v w → (t u : Term) → AreEquated p v t u → AreEquated p w t u
equated_later p v w keeps t u h = elim h [
  | inl k ↦ inl (record { reference = k.reference; among = k.among; refers = refers_later p.symbols.now v w k.reference (equality t u) keeps k.refers })
  | inr k ↦ inr (record { reference = k.reference; among = k.among; refers = refers_later p.symbols.now v w k.reference (not_of (equality t u)) keeps k.refers })
]

pub side_later : (p : Site) (v w : TermsView) → KeepsTerms v w → (r : ℕ) → IsSideOfClause p v r → IsSideOfClause p w r
side_later p v w keeps r h = record {
  term = h.term;
  other = h.other;
  refers = refers_later p.symbols.now v w r h.term keeps h.refers;
  equated = elim h.equated [ inl k ↦ inl (equated_later p v w keeps h.term h.other k) | inr k ↦ inr (equated_later p v w keeps h.other h.term k) ];
}

pub left_side : (p : Site) (v : TermsView) → IsToElaborate p v → (a b : ℕ) → IsClauseOfSides p v a b → IsSideOfClause p v a
left_side p v job a b e = record { term = e.left; other = e.right; refers = e.left_refers; equated = inl (inl (clause_literal p v job a b e)) }

pub right_side : (p : Site) (v : TermsView) → IsToElaborate p v → (a b : ℕ) → IsClauseOfSides p v a b → IsSideOfClause p v b
right_side p v job a b e = record { term = e.right; other = e.left; refers = e.right_refers; equated = inr (inl (clause_literal p v job a b e)) }

put_in_later : (p : Site) (v w : TermsView) → KeepsTerms v w → (t u : Term) → IsPutIn p v t u → IsPutIn p w t u
put_in_later p v w keeps t u h = record {
  rule = h.rule;
  anchors = h.anchors;
  anchors_stand = anchors_more p.symbols.now v w keeps.pass.grows (own_anchors p.proof.now p.command) h.anchors h.anchors_stand;
  other = h.other;
  side = elim h.side [ inl k ↦ inl (equated_later p v w keeps t h.other k) | inr k ↦ inr (equated_later p v w keeps h.other t k) ];
  is = h.is;
}

pub image_later : (p : Site) (v w : TermsView) → KeepsTerms v w → (r q : ℕ) → IsImageOf p v r q → IsImageOf p w r q
image_later p v w keeps r q h = record {
  term = h.term;
  image = h.image;
  refers = refers_later p.symbols.now v w r h.term keeps h.refers;
  image_refers = refers_later p.symbols.now v w q h.image keeps h.image_refers;
  put_in = put_in_later p v w keeps h.term h.image h.put_in;
}

-- of the law of `proof_contexts`
abbrev pub AreAnchorsOfScopes : Type 0
AreAnchorsOfScopes = (proof : ProofItems Var Term) (i : ℕ) → closes_at proof i ≡ None → AreOpenIn proof (scope_at proof i) (anchors_at proof i)

-- the images are put into a side
module _ (law : AreAnchorsOfScopes) (p : Site) (u : TermsView) (job : IsToElaborate p u) (rule : rule_of_command p ≡ Rule.Refl) (x : OpenScopes) (scope : IsInScope p u x) where
  abbrev pub anchors : List (List (Var × Term))
  anchors = anchors_at job.proof p.command

  pub open_here : AreOpenIn job.proof (scope_of x) anchors
  open_here =
      subst (λ k. AreOpenIn job.proof k anchors) (sym (scope.here ∙ scope_same p.symbols.now u p.proof.now job.proof job.stand p.command))
      (law job.proof p.command
      (sym (closes_same p.symbols.now u p.proof.now job.proof job.stand p.command) ∙ refl_closes p u job rule))

  stand_here : AnchorsStand p.symbols.now u (own_anchors p.proof.now p.command) anchors
  stand_here =
      subst (λ xs. AnchorsStand p.symbols.now u xs anchors) (sym (own_same p.proof.now p.command (refl_closes p u job rule)))
      (anchors_stand p.symbols.now u p.proof.now job.proof job.stand p.command)

  module _ (r : ℕ) (side : IsSideOfClause p u r) where
    abbrev pub side_image : Term
    side_image = put_in (images anchors) side.term

    put_here : IsPutIn p u side.term side_image
    put_here = record { rule = rule; anchors = anchors; anchors_stand = stand_here; other = side.other; side = side.equated; is = refl }

    image_made : (v : TermsView) → KeepsTerms u v → IsPlacedFor p v side_image
    image_made v keeps =
        inl (stated side_image (paired side.term side_image side_image
        (inl (linked side.term side_image (put_in_one (put_in_later p u v keeps side.term side_image put_here)))) right))

    pub image_of : (v : TermsView) → KeepsTerms u v → (q : ℕ) → RefersTo p.symbols.now v q side_image → IsImageOf p v r q
    image_of v keeps q refers = record {
      term = side.term;
      image = side_image;
      refers = refers_later p.symbols.now u v r side.term keeps side.refers;
      image_refers = refers;
      put_in = put_in_later p u v keeps side.term side_image put_here;
    }

    pub side_placed : (v : TermsView) → KeepsTerms u v → PlacesTerm p.symbols.now u.pass v.pass side_image
        → PlacesCellsOf p.symbols.now u.pass v.pass (IsPlacedFor p v)
    side_placed v keeps placed = places_of_term p.symbols.now u.pass v.pass (IsPlacedFor p v) side_image (image_made v keeps) placed

    pub side_lacks : (v : TermsView) → KeepsTerms u v → LacksRoomFor p.symbols.now v.pass side_image → LacksCellOf p.symbols.now v.pass (IsPlacedFor p v)
    side_lacks v keeps lacks = lacks_for_term p.symbols.now v.pass (IsPlacedFor p v) side_image (image_made v keeps) lacks
