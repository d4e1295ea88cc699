-- References and terms in step.
use Rattle.std.proofs.Common.{◌≡◌, ◌<◌, ℕ, zero, suc, List, [], ◌∷◌, length, slice_index_or, refl, subst, arith}
use Rattle.std.specs.List.{AllZip}
use Rattle.sym_table.specs.Table.{Table}
use Rattle.term_model.specs.Terms.{Term}
use Rattle.term_pool.specs.Views.{TermsView, RefersTo}

module _ (s : Table) (v : TermsView) where
  pub zip_at : (rs : List ℕ) (ts : List Term) (k d : ℕ) (e : Term) → AllZip (RefersTo s v) rs ts → k < length rs → RefersTo s v (slice_index_or rs k d) (slice_index_or ts k e)
  zip_at [] ts k d e h below = absurd (omega arith)
  zip_at (r ∷ rs) [] k d e h below = absurd h
  zip_at (r ∷ rs) (t ∷ ts) zero d e h below = h.0
  zip_at (r ∷ rs) (t ∷ ts) (suc k) d e h below = zip_at rs ts k d e h.1 (omega arith)

  -- a clause of one literal
  pub zip_one : (r : ℕ) (rs : List ℕ) (ts : List Term) → rs ≡ r ∷ [] → AllZip (RefersTo s v) rs ts → (t : Term) × (ts ≡ t ∷ []) × RefersTo s v r t
  zip_one r rs ts e h = go ts (subst (λ xs. AllZip (RefersTo s v) xs ts) e h)
    where
      go : (ts : List Term) → AllZip (RefersTo s v) (r ∷ []) ts → (t : Term) × (ts ≡ t ∷ []) × RefersTo s v r t
      go [] h = absurd h
      go (t ∷ []) h = (t, refl, h.0)
      go (t ∷ u ∷ ts) h = absurd h.1
