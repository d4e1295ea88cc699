-- Cells that are interned, and the trees that they belong to.
use Rattle.std.proofs.Common.{◌≡◌, ℕ, ◌⊎◌, inl, inr, refl}
use Rattle.pair_pool.specs.Trees.{Tree, cell}
use Rattle.pair_pool.specs.Views.{PassView, Knows, IsPlaced}
use Rattle.term_pool.proofs.Keeping.{part-refl, part-trans, placed-trans, placed-none, placed-larger, full-larger}
use Rattle.term_pool.specs.Building.{IsCellIn, PlacesOnlyIn, IsFullIn, Interns, Refuses}
use Rattle.term_pool.specs.Trees.{IsPartOf}
use Rattle.term_pool.specs.Views.{TermsView, KeepsPass, KeepsTerms}

pub first-part : (a b : Tree) → IsPartOf a (cell a b)
first-part a b = inr (inl (part-refl a))

pub second-part : (a b : Tree) → IsPartOf b (cell a b)
second-part a b = inr (inr (part-refl b))

-- a cell that is interned, or for which there is no room
pub interned_places : (p q : PassView) (a b n : ℕ) (s t : Tree) → Knows p a s → Knows p b t → Interns p q a b n → PlacesOnlyIn p q (cell s t)
interned_places p q a b n s t known_s known_t i m c d e = go (i.placed m c d e)
  where
    go : IsPlaced p m c d ⊎ ((c ≡ a) × (d ≡ b)) → IsPlaced p m c d ⊎ IsCellIn q c d (cell s t)
    go (inl x) = inl x
    go (inr y) = inr (record {
      first = s;
      second = t;
      first_known = rw y.0 (i.keeps.grows a s known_s);
      second_known = rw y.1 (i.keeps.grows b t known_t);
      part = inl refl;
    })

pub refused_full : (p q : PassView) (a b : ℕ) (s t : Tree) → Knows p a s → Knows p b t → Refuses p q a b → IsFullIn q (cell s t)
refused_full p q a b s t known_s known_t i = record {
  first = a;
  second = b;
  wanted = record {
    first = s;
    second = t;
    first_known = i.keeps.grows a s known_s;
    second_known = i.keeps.grows b t known_t;
    part = inl refl;
  };
  full = i.full;
}

-- The cell of two references in a third: (cell (cell s t) u), and (cell h (cell s t)).
pub record Pairs (p q r : PassView) (m n : ℕ) (whole : Tree) : Type 0 where
  pub stands : Knows r n whole
  pub placed : PlacesOnlyIn p r whole

pub in_front : (p q r : PassView) (a b c m n : ℕ) (s t u : Tree) → Knows p a s → Knows p b t → Knows p c u → Interns p q a b m → Interns q r m c n → Pairs p q r m n (cell (cell s t) u)
in_front p q r a b c m n s t u ka kb kc i j =
    let first = i.stands s t ka kb in
    let third = i.keeps.grows c u kc in
    record {
      stands = j.stands (cell s t) u first third;
      placed = placed-trans p q r (cell (cell s t) u) j.keeps
          (placed-larger p q (cell s t) (cell (cell s t) u) (first-part (cell s t) u) (interned_places p q a b m s t ka kb i))
          (interned_places q r m c n (cell s t) u first third j);
    }

pub behind : (p q r : PassView) (h a b m n : ℕ) (k : Tree) (s t : Tree) → Knows p h k → Knows p a s → Knows p b t → Interns p q a b m → Interns q r h m n → Pairs p q r m n (cell k (cell s t))
behind p q r h a b m n k s t kh ka kb i j =
    let rest = i.stands s t ka kb in
    let head = i.keeps.grows h k kh in
    record {
      stands = j.stands k (cell s t) head rest;
      placed = placed-trans p q r (cell k (cell s t)) j.keeps
          (placed-larger p q (cell s t) (cell k (cell s t)) (second-part k (cell s t)) (interned_places p q a b m s t ka kb i))
          (interned_places q r h m n k (cell s t) head rest j);
    }

pub keeps_pool : (v w : TermsView) → w.pool ≡ v.pool → KeepsPass v.pass w.pass → KeepsTerms v w
keeps_pool v w e k = record { pool = e; pass = k }

pub front_refused : (p q r : PassView) (a b c m : ℕ) (s t u : Tree) → Knows p a s → Knows p b t → Knows p c u → Interns p q a b m → Refuses q r m c → IsFullIn r (cell (cell s t) u) × PlacesOnlyIn p r (cell (cell s t) u)
front_refused p q r a b c m s t u ka kb kc i j =
    let first = i.stands s t ka kb in
    let third = i.keeps.grows c u kc in (
      refused_full q r m c (cell s t) u first third j,
      placed-trans p q r (cell (cell s t) u) j.keeps
          (placed-larger p q (cell s t) (cell (cell s t) u) (first-part (cell s t) u) (interned_places p q a b m s t ka kb i))
          (placed-none q r (cell (cell s t) u) j.placed),
    )

pub behind_refused : (p q r : PassView) (h a b m : ℕ) (k s t : Tree) → Knows p h k → Knows p a s → Knows p b t → Interns p q a b m → Refuses q r h m → IsFullIn r (cell k (cell s t)) × PlacesOnlyIn p r (cell k (cell s t))
behind_refused p q r h a b m k s t kh ka kb i j =
    let rest = i.stands s t ka kb in
    let head = i.keeps.grows h k kh in (
      refused_full q r h m k (cell s t) head rest j,
      placed-trans p q r (cell k (cell s t)) j.keeps
          (placed-larger p q (cell s t) (cell k (cell s t)) (second-part k (cell s t)) (interned_places p q a b m s t ka kb i))
          (placed-none q r (cell k (cell s t)) j.placed),
    )

pub in_first_cell : (k s t : Tree) → IsPartOf s (cell (cell k s) t)
in_first_cell k s t = part-trans s (cell k s) (cell (cell k s) t) (second-part k s) (first-part (cell k s) t)

pub first_in_rest : (k s t : Tree) → IsPartOf s (cell k (cell s t))
first_in_rest k s t = part-trans s (cell s t) (cell k (cell s t)) (first-part s t) (second-part k (cell s t))

pub second_in_rest : (k s t : Tree) → IsPartOf t (cell k (cell s t))
second_in_rest k s t = part-trans t (cell s t) (cell k (cell s t)) (second-part s t) (second-part k (cell s t))

-- a cell that was refused, as a part of a whole
pub refused_part : (p q : PassView) (a b : ℕ) (s t whole : Tree) → Knows p a s → Knows p b t → Refuses p q a b → IsPartOf (cell s t) whole → IsFullIn q whole × PlacesOnlyIn p q whole
refused_part p q a b s t whole ka kb i part =
    (full-larger q (cell s t) whole part (refused_full p q a b s t ka kb i), placed-none p q whole i.placed)
