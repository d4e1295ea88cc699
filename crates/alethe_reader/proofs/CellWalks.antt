-- A walk that meets each reference of a term once: its leaves, and its cells.
use Rattle.std.proofs.Common.{◌≡◌, ◌⊎◌, inl, inr, ◌<◌, ◌≤◌, ◌^◌, ℕ, List, [], ◌∷◌, ◌++◌, true, false, sym, subst, Contains, arith}
use Rattle.std.proofs.lemmas.List.Elements.{Contains-push, Contains-push_cases, Contains-append_left}
use Rattle.pair_pool.specs.Trees.{Tree, leaf, cell}
use Rattle.pair_pool.specs.Views.{PassView, Knows, IsKnown, IsOneToOne, HasPartsOfTrees}
use Rattle.term_pool.specs.Views.{IsKnownCell}
use Rattle.term_pool.proofs.Depth.{is_cell}
use Rattle.alethe_reader.specs.NeededImages.{HasLeavesAmong, IsMet}

-- a reference of the tree was met or is left
pub record IsTreeThere (p : PassView) (met left : List ℕ) (t : Tree) : Type 0 where
  pub reference : ℕ
  pub known : Knows p reference t
  pub there : Contains met reference ⊎ Contains left reference

-- The parts of what was met were met, or are left.
pub record IsWalk (p : PassView) (r : ℕ) (met left : List ℕ) : Type 0 where
  pub known : (q : ℕ) → Contains left q → IsKnown p q
  pub begun : Contains met r ⊎ Contains left r
  pub closed : (q : ℕ) (s t : Tree) → Contains met q → Knows p q (cell s t) → IsTreeThere p met left s × IsTreeThere p met left t

pub walk_begins : (p : PassView) (r : ℕ) (met left : List ℕ) → met ≡ [] → left ≡ r ∷ [] → IsKnown p r → IsWalk p r met left
walk_begins p r met left none one known = rw (none, one) (record {
  known = λ q k. elim (Contains-push_cases [] r q k) [ inl n ↦ absurd (omega (arith, n.1)) | inr e ↦ subst (IsKnown p) e known ];
  begun = inr (Contains-push [] r);
  closed = λ q s t k. absurd (omega (arith, k.1));
})

module _ (p : PassView) (r : ℕ) (met rest : List ℕ) (q : ℕ) (h : IsWalk p r met (rest ++ q ∷ [])) where
  pub walked_to : IsKnown p q
  walked_to = h.known q (Contains-push rest q)

  pub walked_cell : HasPartsOfTrees p → 2 ^ 30 ≤ q → IsKnownCell p q
  walked_cell parts high = is_cell p parts q walked_to.tree walked_to.stands high

  module _ (new left : List ℕ) (more_met : (x : ℕ) → Contains met x → Contains new x) (more_left : (x : ℕ) → Contains rest x → Contains left x) (now : Contains new q) where
    moved : (x : ℕ) → Contains met x ⊎ Contains (rest ++ q ∷ []) x → Contains new x ⊎ Contains left x
    moved x (inl k) = inl (more_met x k)
    moved x (inr k) = elim (Contains-push_cases rest q x k) [ inl before ↦ inr (more_left x before) | inr same ↦ inl (subst (Contains new) same now) ]

    moved_tree : (t : Tree) → IsTreeThere p met (rest ++ q ∷ []) t → IsTreeThere p new left t
    moved_tree t k = record { reference = k.reference; known = k.known; there = moved k.reference k.there }

    moved_parts : (x : ℕ) (s t : Tree) → Contains met x → Knows p x (cell s t) → IsTreeThere p new left s × IsTreeThere p new left t
    moved_parts x s t k known = let g = h.closed x s t k known in (moved_tree s g.0, moved_tree t g.1)

  -- it was met before
  pub walk_skips : (new : List ℕ) → IsMet met new q false → IsWalk p r new rest
  walk_skips new is = subst (λ (ms : List ℕ). IsWalk p r ms rest) (sym is.1) (record {
    known = λ x k. h.known x (Contains-append_left rest (q ∷ []) x k);
    begun = moved met rest (λ x k. k) (λ x k. k) is.0 r h.begun;
    closed = λ x s t k known. moved_parts met rest (λ x k. k) (λ x k. k) is.0 x s t k known;
  })

  module _ (new : List ℕ) (is : IsMet met new q true) where
    kept : (x : ℕ) → Contains met x → Contains new x
    kept x k = subst (λ (ms : List ℕ). Contains ms x) (sym is.1) (Contains-append_left met (q ∷ []) x k)

    here : Contains new q
    here = subst (λ (ms : List ℕ). Contains ms q) (sym is.1) (Contains-push met q)

    met_or : (x : ℕ) → Contains new x → Contains met x ⊎ (q ≡ x)
    met_or x k = Contains-push_cases met q x (subst (λ (ms : List ℕ). Contains ms x) is.1 k)

    -- a leaf
    pub walk_leaf : IsOneToOne p → q < 2 ^ 30 → IsWalk p r new rest
    walk_leaf one low = record {
      known = λ x k. h.known x (Contains-append_left rest (q ∷ []) x k);
      begun = moved new rest kept (λ x k. k) here r h.begun;
      closed = λ x s t k known. elim (met_or x k) [ inl before ↦ moved_parts new rest kept (λ x k. k) here x s t before known | inr same ↦ absurd (omega (arith, one.high x s t known, same)) ];
    }

    -- a cell
    pub walk_opens : HasPartsOfTrees p → (a b : ℕ) → 2 ^ 30 ≤ q → ((s t : Tree) → Knows p q (cell s t) → Knows p a s) → ((s t : Tree) → Knows p q (cell s t) → Knows p b t)
        → (left : List ℕ) → left ≡ (rest ++ a ∷ []) ++ b ∷ [] → IsWalk p r new left
    walk_opens parts a b high first second left is_left = subst (IsWalk p r new) (sym is_left) (record {
      known = λ x k. elim (Contains-push_cases (rest ++ a ∷ []) b x k) [
        | inl before ↦ elim (Contains-push_cases rest a x before) [ inl old ↦ h.known x (Contains-append_left rest (q ∷ []) x old) | inr same ↦ subst (IsKnown p) same (record { tree = c.first; stands = first c.first c.second c.stands }) ]
        | inr same ↦ subst (IsKnown p) same (record { tree = c.second; stands = second c.first c.second c.stands })
      ];
      begun = moved new ((rest ++ a ∷ []) ++ b ∷ []) kept wider here r h.begun;
      closed = λ x s t k known. elim (met_or x k) [
        | inl before ↦ moved_parts new ((rest ++ a ∷ []) ++ b ∷ []) kept wider here x s t before known
        | inr same ↦ opened s t (subst (λ y. Knows p y (cell s t)) (sym same) known)
      ];
    })
      where
        c : IsKnownCell p q
        c = walked_cell parts high

        wider : (x : ℕ) → Contains rest x → Contains ((rest ++ a ∷ []) ++ b ∷ []) x
        wider x k = Contains-append_left (rest ++ a ∷ []) (b ∷ []) x (Contains-append_left rest (a ∷ []) x k)

        opened : (s t : Tree) → Knows p q (cell s t) → IsTreeThere p new ((rest ++ a ∷ []) ++ b ∷ []) s × IsTreeThere p new ((rest ++ a ∷ []) ++ b ∷ []) t
        opened s t known = (
          record { reference = a; known = first s t known; there = inr (Contains-append_left (rest ++ a ∷ []) (b ∷ []) a (Contains-push rest a)) },
          record { reference = b; known = second s t known; there = inr (Contains-push (rest ++ a ∷ []) b) },
        )

-- nothing is left
module _ (p : PassView) (parts : HasPartsOfTrees p) (r : ℕ) (met left : List ℕ) (none : left ≡ []) (h : IsWalk p r met left) where
  was_met : (q : ℕ) → Contains met q ⊎ Contains left q → Contains met q
  was_met q (inl k) = k
  was_met q (inr k) = absurd (let g = subst (λ (xs : List ℕ). Contains xs q) none k in omega (arith, g.1))

  leaves_met : (t : Tree) (q : ℕ) → Contains met q → Knows p q t → HasLeavesAmong met t
  leaves_met (leaf k) q there known = subst (Contains met) (parts.leaf_number q k known).0 there
  leaves_met (cell s t) q there known =
      let g = h.closed q s t there known in
      (leaves_met s g.0.reference (was_met g.0.reference g.0.there) g.0.known, leaves_met t g.1.reference (was_met g.1.reference g.1.there) g.1.known)

  pub walk_ends : (t : Tree) → Knows p r t → HasLeavesAmong met t
  walk_ends t known = leaves_met t r (was_met r h.begun) known
