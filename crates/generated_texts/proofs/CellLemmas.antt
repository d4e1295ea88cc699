-- Private. As many distinct cells by one table as by another.
use Rattle.std.proofs.Common.{◌≡◌, ◌⊎◌, ◌≤◌, ℕ, suc, inl, inr, refl, sym, ◌∙◌, arith, List, [], ◌∷◌, length}
use Rattle.pair_pool.specs.Trees.{Tree}
use Rattle.term_model.specs.Terms.{Term}
use Rattle.term_pool.specs.CellCounts.{Has, AreApart}
use Rattle.generated_texts.specs.Cells.{HasCells}
use Rattle.generated_texts.proofs.LikeTrees.{IsLike, one_like, like_part_of_any, like_cell}

-- a list without one of its items
record Without {X : Type 0} (xs : List X) (x : X) : Type 0 where
  others : List X
  count : length xs ≡ suc (length others)
  each : (y : X) → Has xs y → (y ≡ x) ⊎ Has others y

without_first : {X : Type 0} (z : X) (xs : List X) (x : X) → x ≡ z → Without (z ∷ xs) x
without_first {X} z xs x e = record { others = xs; count = omega arith; each = each }
  where
    each : (y : X) → Has (z ∷ xs) y → (y ≡ x) ⊎ Has xs y
    each y (inl f) = inl (f ∙ sym e)
    each y (inr h) = inr h

without_later : {X : Type 0} (z : X) (xs : List X) (x : X) → Without xs x → Without (z ∷ xs) x
without_later {X} z xs x rest = record { others = z ∷ rest.others; count = omega (arith, rest.count); each = each }
  where
    behind : (y : X) → (y ≡ x) ⊎ Has rest.others y → (y ≡ x) ⊎ Has (z ∷ rest.others) y
    behind y (inl f) = inl f
    behind y (inr k) = inr (inr k)

    each : (y : X) → Has (z ∷ xs) y → (y ≡ x) ⊎ Has (z ∷ rest.others) y
    each y (inl f) = inr (inl f)
    each y (inr k) = behind y (rest.each y k)

without : {X : Type 0} (xs : List X) (x : X) → Has xs x → Without xs x
without [] x h = absurd h
without (z ∷ xs) x (inl e) = without_first z xs x e
without (z ∷ xs) x (inr h) = without_later z xs x (without xs x h)

-- an item of its own for each item of a list
abbrev HasOwn : {X : Type 0} → (X → X → Type 0) → List X → List X → Type 0
HasOwn {X} R xs ys = (x : X) → Has xs x → (y : X) × Has ys y × R x y

-- those of the other items are others
own_others : {X : Type 0} (R : X → X → Type 0) → ((x z y : X) → R x y → R z y → x ≡ z) → (x : X) (xs ys : List X) → (Has xs x → ⊥) →
    HasOwn R (x ∷ xs) ys → (y : X) → R x y → (rest : Without ys y) → HasOwn R xs rest.others
own_others {X} R one x xs ys other own y r rest w h = let found = own w (inr h) in among found.0 found.2 (rest.each found.0 found.1)
  where
    among : (z : X) → R w z → (z ≡ y) ⊎ Has rest.others z → (z : X) × Has rest.others z × R w z
    among z q (inl e) =
        let same : w ≡ x = one w x y (rw (sym e) q) r in
        absurd (other (rw (sym same) h))
    among z q (inr k) = (z, k, q)

-- where each of different items has one of a list that is its own, they are no more than the list has
pub no_more : {X : Type 0} (R : X → X → Type 0) → ((x z y : X) → R x y → R z y → x ≡ z) → (xs ys : List X) → AreApart xs →
    HasOwn R xs ys → length xs ≤ length ys
no_more R one [] ys apart own = omega arith
no_more R one (x ∷ xs) ys apart own =
    let mine = own x (inl refl) in
    let rest = without ys mine.0 mine.1 in
    let less = no_more R one xs rest.others apart.1 (own_others R one x xs ys apart.0 own mine.0 mine.2 rest) in
    omega (arith, less, rest.count)

pub no_more_cells : (terms : List Term) (m n : ℕ) → HasCells terms m → HasCells terms n → m ≤ n
no_more_cells terms m n h k = let less = no_more (IsLike h.table k.table) (one_like h.table k.table h.is_table) h.counts.cells k.counts.cells h.counts.apart own in omega (arith, less, h.counts.count, k.counts.count)
  where
    own : (x : Tree) → Has h.counts.cells x → (y : Tree) × Has k.counts.cells y × IsLike h.table k.table x y
    own x there =
        let is = h.counts.sound x there in
        let found = like_part_of_any h.table k.table h.is_table k.is_table terms h.trees k.trees h.stand k.stand x is.1 in
        (found.tree, k.counts.complete found.tree (like_cell h.table k.table x found.tree found.like is.0) found.is_part, found.like)

pub one_count : (terms : List Term) (m n : ℕ) → HasCells terms m → HasCells terms n → m ≡ n
one_count terms m n h k = let p = no_more_cells terms m n h k in let q = no_more_cells terms n m k h in omega (arith, p, q)
