-- Both sides of a step after substitution.
use Rattle.std.proofs.Common.{ℕ, List, inl, inr, refl}
use Rattle.pair_pool.specs.Views.{IsKnown, PassView}
use Rattle.sym_table.specs.Table.{Table}
use Rattle.term_model.specs.Terms.{Term}
use Rattle.term_pool.specs.Views.{TermsView, RefersTo, KeepsPass, KeepsTerms}
use Rattle.term_pool.specs.Placing.{PlacesTerm, LacksRoomFor, PlacesCellsOf, LacksCellOf}
use Rattle.rule_model.specs.Contexts.{images}
use Rattle.rule_model.specs.Judged.{Judged}
use Rattle.rule_model.specs.Proofs.{ProofItems}
use Rattle.rule_model.specs.Replacement.{Replacement}
use Rattle.rule_model.specs.Substitution.{put_in}
use Rattle.term_pool.proofs.PlacedCells.{places_of_term, places_more, places_more_then, lacks_for_term, lacks_more}
use Rattle.proof_contexts.specs.declared.scopes.OpenScopes.{OpenScopes}
use Rattle.schema_match.specs.Equations.{StatesEquality}
use Rattle.term_parts.specs.declared.steps.Step.{Step}
use Rattle.rules_refl.specs.Sides.{IsEither, IsSubstitutedSide}
use Rattle.rules_refl.specs.Steps.{StandsInScope, AreSidesHere}

pub refers_later : (s : Table) (v w : TermsView) (r : ℕ) (t : Term) → KeepsTerms v w → RefersTo s v r t → RefersTo s w r t
refers_later s v w r t keeps h = record { tree = h.tree; known = keeps.pass.grows r h.tree h.known; stands = h.stands }

module _ (s : Table) (old new : PassView) (a b : Term) where
  pub left_placed : PlacesTerm s old new a → PlacesCellsOf s old new (IsEither a b)
  left_placed h = places_of_term s old new (IsEither a b) a (inl refl) h

  pub right_placed : PlacesTerm s old new b → PlacesCellsOf s old new (IsEither a b)
  right_placed h = places_of_term s old new (IsEither a b) b (inr refl) h

  pub left_lacks : LacksRoomFor s new a → LacksCellOf s new (IsEither a b)
  left_lacks h = lacks_for_term s new (IsEither a b) a (inl refl) h

  pub right_lacks : LacksRoomFor s new b → LacksCellOf s new (IsEither a b)
  right_lacks h = lacks_for_term s new (IsEither a b) b (inr refl) h

pub both_placed : (s : Table) (old mid new : PassView) (a b : Term) → KeepsPass mid new → PlacesTerm s old mid a → PlacesTerm s mid new b
    → PlacesCellsOf s old new (IsEither a b)
both_placed s old mid new a b keeps first second =
    places_more_then s old mid new (IsEither a b) keeps (left_placed s old mid a b first) (right_placed s mid new a b second)

-- the sides of the equality that a step states are either of the two
module _ {s : Table} {v : TermsView} {refs : ProofItems ℕ ℕ} {scopes : OpenScopes} {p : ℕ × ℕ} (step : Step) (j : Judged)
    (stands : StandsInScope s v refs scopes step j) (states : StatesEquality s v p j.premises j.clause) where
  abbrev Either : List Replacement → Term → Term → Term → Type 0
  Either anchors t u x = IsEither (put_in (images anchors) t) (put_in (images anchors) u) x

  abbrev Side : Term → Type 0
  Side x = IsSubstitutedSide j.anchors j.premises j.clause x

  is_side : (x : Term) → Either j.anchors states.left states.right x → Side x
  is_side x h = record { left = states.left; right = states.right; none = states.none; literal = states.literal; is = h }

  pub sides_here : AreSidesHere s v refs scopes p j.anchors states.left states.right
  sides_here = record { here = stands.anchors; left = states.left_refers; right = states.right_refers }

  pub places_sides : (old new : PassView)
      → ((anchors : List Replacement) (t u : Term) → AreSidesHere s v refs scopes p anchors t u → PlacesCellsOf s old new (Either anchors t u))
      → PlacesCellsOf s old new Side
  places_sides old new h =
      places_more s old new (Either j.anchors states.left states.right) Side is_side (h j.anchors states.left states.right sides_here)

  pub lacks_sides : (new : PassView)
      → ((anchors : List Replacement) (t u : Term) → AreSidesHere s v refs scopes p anchors t u → LacksCellOf s new (Either anchors t u))
      → LacksCellOf s new Side
  lacks_sides new h = lacks_more s new (Either j.anchors states.left states.right) Side is_side (h j.anchors states.left states.right sides_here)

pub known_later : (v w : TermsView) (r : ℕ) → KeepsTerms v w → IsKnown v.pass r → IsKnown w.pass r
known_later v w r keeps h = record { tree = h.tree; stands = keeps.pass.grows r h.tree h.stands }
