-- Cited by crates above. What a pass keeps as it comes to know more, parts of trees, and cells that are placed.
use Rattle.std.proofs.Common.{◌≡◌, ℕ, ◌⊎◌, inl, inr, refl, ◌∙◌, subst}
use Rattle.pair_pool.specs.Trees.{Tree, leaf, cell}
use Rattle.pair_pool.specs.Views.{PassView, IsPlaced, IsUnchanged}
use Rattle.term_pool.specs.Building.{IsCellIn, PlacesOnlyIn, IsFullIn}
use Rattle.term_pool.specs.Trees.{IsPartOf}
use Rattle.term_pool.specs.Views.{TermsView, KeepsPass, KeepsTerms}

pub keeps-refl : (p : PassView) → KeepsPass p p
keeps-refl p = record { places = refl; shares = refl; grows = λ r t k. k; sees = λ r a b k. k }

pub keeps-trans : (p q r : PassView) → KeepsPass p q → KeepsPass q r → KeepsPass p r
keeps-trans p q r h k = record {
  places = k.places ∙ h.places;
  shares = k.shares ∙ h.shares;
  grows = λ n t e. k.grows n t (h.grows n t e);
  sees = λ n a b e. k.sees n a b (h.sees n a b e);
}

pub terms-refl : (v : TermsView) → KeepsTerms v v
terms-refl v = record { pool = refl; pass = keeps-refl v.pass }

pub terms-trans : (u v w : TermsView) → KeepsTerms u v → KeepsTerms v w → KeepsTerms u w
terms-trans u v w h k = record { pool = k.pool ∙ h.pool; pass = keeps-trans u.pass v.pass w.pass h.pass k.pass }

pub part-refl : (t : Tree) → IsPartOf t t
part-refl (leaf k) = refl
part-refl (cell a b) = inl refl

pub part-trans : (s t u : Tree) → IsPartOf s t → IsPartOf t u → IsPartOf s u
part-trans s t (leaf k) h e = subst (λ z. IsPartOf s z) e h
part-trans s t (cell a b) h (inl e) = subst (λ z. IsPartOf s z) e h
part-trans s t (cell a b) h (inr (inl e)) = inr (inl (part-trans s t a h e))
part-trans s t (cell a b) h (inr (inr e)) = inr (inr (part-trans s t b h e))

-- a cell stays a cell of the tree
pub in_later : (p q : PassView) → KeepsPass p q → (a b : ℕ) (t : Tree) → IsCellIn p a b t → IsCellIn q a b t
in_later p q k a b t h = record {
  first = h.first;
  second = h.second;
  first_known = k.grows a h.first h.first_known;
  second_known = k.grows b h.second h.second_known;
  part = h.part;
}

pub placed-none : (p q : PassView) (t : Tree) → q.placed ≡ p.placed → PlacesOnlyIn p q t
placed-none p q t e r a b h = inl (rw e at h)

pub placed-trans : (p q r : PassView) (t : Tree) → KeepsPass q r → PlacesOnlyIn p q t → PlacesOnlyIn q r t → PlacesOnlyIn p r t
placed-trans p q r t k h j n a b e = elim (j n a b e) [ inl x ↦ go (h n a b x) | inr y ↦ inr y ]
  where
    go : IsPlaced p n a b ⊎ IsCellIn q a b t → IsPlaced p n a b ⊎ IsCellIn r a b t
    go (inl x) = inl x
    go (inr y) = inr (in_later q r k a b t y)

-- a cell of a part is a cell of the whole
pub in_larger : (p : PassView) (a b : ℕ) (s t : Tree) → IsPartOf s t → IsCellIn p a b s → IsCellIn p a b t
in_larger p a b s t part h = record {
  first = h.first;
  second = h.second;
  first_known = h.first_known;
  second_known = h.second_known;
  part = part-trans (cell h.first h.second) s t h.part part;
}

pub placed-larger : (p q : PassView) (s t : Tree) → IsPartOf s t → PlacesOnlyIn p q s → PlacesOnlyIn p q t
placed-larger p q s t part h r a b e = elim (h r a b e) [ inl x ↦ inl x | inr y ↦ inr (in_larger q a b s t part y) ]

pub full-larger : (p : PassView) (s t : Tree) → IsPartOf s t → IsFullIn p s → IsFullIn p t
full-larger p s t part h = record { first = h.first; second = h.second; wanted = in_larger p h.first h.second s t part h.wanted; full = h.full }

-- what is unchanged is the same
pub same_pass : (old new : PassView) → IsUnchanged old new → new ≡ old
same_pass old new h = λ i. record {
  places = h.places i;
  shares = h.shares i;
  seen = h.seen i;
  known = h.known i;
  placed = h.placed i;
}

pub same_terms : (v w : TermsView) → KeepsTerms v w → IsUnchanged v.pass w.pass → w ≡ v
same_terms v w k u = λ i. record { pool = k.pool i; pass = same_pass v.pass w.pass u i }
