-- Cells in which no variable stands become themselves.
use Rattle.std.proofs.Common.{◌≡◌, ◌≢◌, ◌≤◌, ◌<◌, ◌+◌, ◌-◌, ◌^◌, ◌&&◌, ◌⊎◌, inl, inr, ℕ, List, [], ◌++◌, length, replicate, Option, Some, None, Bool, true, false, nat_eq, nat_le, slice_index_or, get_or, if◌then◌else◌, refl, sym, ◌∙◌, ap, subst, All, ◌∷◌, arith}
use Rattle.std.proofs.Math.ListN.{get_or-append}
use Rattle.std.proofs.Math.Seq.{get_or-append_seam}
use Rattle.std.proofs.lemmas.List.Elements.{All-nil}
use Rattle.std.proofs.lemmas.Bool.{cases_eq, cases_lt}
use Rattle.std.proofs.lemmas.List.{get_or-replicate, get_or_past, length-replicate, length-append}
use Rattle.std.specs.List.{list_any}
use Rattle.pair_pool.specs.Trees.{Tree, leaf, cell}
use Rattle.pair_pool.specs.Views.{PassView, Knows, IsKnown, IsOneToOne, HasPartsOfTrees}
use Rattle.term_pool.specs.Heights.{is_let_head}
use Rattle.term_pool.specs.Trees.{pair_leaves}
use Rattle.term_pool.specs.Views.{KeepsPass, IsKnownCell}
use Rattle.term_pool.proofs.Depth.{is_cell}
use Rattle.contexts.specs.declared.closed.Closed.{Closed}
use Rattle.contexts.specs.declared.closed.Mark.{Mark}
use Rattle.contexts.specs.declared.memo.Memo.{Memo}
use Rattle.contexts.specs.declared.places.Place.{Place}
use Rattle.contexts.specs.declared.places.Place.TheVariants.{Term, Bindings}
use Rattle.contexts.specs.Becoming.{image, becomes, let_becomes, bindings_become, binding_becomes, Images, IsImageAt, AreImages, Look, look_of}
use Rattle.contexts.specs.Closed.{says_closed, has_plain, is_closed, HasPlainLeaves, IsClosed, IsClosedFor, KeepsPlain, found_for}
use Rattle.contexts.specs.Remembering.{remembered}

-- where nothing is put in for plain leaves
module _ (c : Closed) (f : ℕ → Tree) (same : (k : ℕ) → has_plain c k ≡ true → f k ≡ leaf k) where
  image_same : (hidden : List ℕ) (k : ℕ) → has_plain c k ≡ true → image f hidden k ≡ leaf k
  image_same hidden k plain = go (list_any (nat_eq k) hidden)
    where
      go : (b : Bool) → (if b then leaf k else f k) ≡ leaf k
      go true = refl
      go false = same k plain

  mutual
    pub becomes_same : (t : Tree) (hidden : List ℕ) → HasPlainLeaves c t → becomes f hidden t ≡ t
    becomes_same (leaf k) hidden h = image_same hidden k h
    becomes_same (cell a b) hidden h = go (is_let_head a) (let_same b hidden h.1) (becomes_same a hidden h.0) (becomes_same b hidden h.1)
      where
        go : (t : Bool) → let_becomes f hidden b ≡ b → becomes f hidden a ≡ a → becomes f hidden b ≡ b → (if t then cell a (let_becomes f hidden b) else cell (becomes f hidden a) (becomes f hidden b)) ≡ cell a b
        go true below x y = ap (cell a) below
        go false below x y = cc

    let_same : (t : Tree) (hidden : List ℕ) → HasPlainLeaves c t → let_becomes f hidden t ≡ t
    let_same (leaf k) hidden h = refl
    let_same (cell list u) hidden h =
        let x = bindings_same list hidden h.0 in
        let y = becomes_same u (hidden ++ pair_leaves list) h.1 in
        cc

    bindings_same : (t : Tree) (hidden : List ℕ) → HasPlainLeaves c t → bindings_become f hidden t ≡ t
    bindings_same (leaf k) hidden h = refl
    bindings_same (cell pair rest) hidden h =
        let x = binding_same pair hidden h.0 in
        let y = bindings_same rest hidden h.1 in
        cc

    binding_same : (t : Tree) (hidden : List ℕ) → HasPlainLeaves c t → binding_becomes f hidden t ≡ t
    binding_same (leaf k) hidden h = refl
    binding_same (cell x t) hidden h = ap (cell x) (becomes_same t hidden h.1)

-- by images
image_none : (p : PassView) (o : Option ℕ) (k : ℕ) (t : Tree) → o ≡ None → IsImageAt p o k t → t ≡ leaf k
image_none p None k t e h = h
image_none p (Some r) k t e h = absurd cc

pub closed_same : (p : PassView) (images : Images) (c : Closed) → IsClosedFor p (look_of images) c → (f : ℕ → Tree) → AreImages p images f → (r : ℕ) → is_closed c r ≡ true → IsOneToOne p → (t : Tree) → Knows p r t → (hidden : List ℕ) → becomes f hidden t ≡ t
closed_same p images c h f are r told one t known hidden =
    let m = h.marks r told in
    becomes_same c f (λ k plain. image_none p (look_of images k) k (f k) (h.apart k plain) (are k)) t hidden
    (subst (HasPlainLeaves c) (one.one_tree r m.tree t m.known known) m.plain)

-- what is found for a cell
pub found_none : (c : Closed) (memo : Memo) (place : Place) → found_for c memo place ≡ None → remembered memo place ≡ None
found_none c memo (Bindings r layer) e = e
found_none c memo (Term r layer) e = go (is_closed c r) e
  where
    go : (b : Bool) → (if b then Some r else remembered memo (Term r layer)) ≡ None → remembered memo (Term r layer) ≡ None
    go true e = absurd cc
    go false e = e

-- as a pass comes to know more
closed_one : (p q : PassView) → KeepsPass p q → (c : Closed) (r : ℕ) → IsClosed p c r → IsClosed q c r
closed_one p q k c r h = record { tree = h.tree; known = k.grows r h.tree h.known; plain = h.plain }

pub closed_later : (p q : PassView) → KeepsPass p q → (put : Look) (c : Closed) → IsClosedFor p put c → IsClosedFor q put c
closed_later p q k put c h = record { marks = λ r told. closed_one p q k c r (h.marks r told); apart = h.apart }

-- as what is put in changes
pub closed_again : (p : PassView) (put other : Look) (c : Closed) → ((k : ℕ) → put k ≡ None → other k ≡ None) → IsClosedFor p put c → IsClosedFor p other c
closed_again p put other c none h = record { marks = h.marks; apart = λ k plain. none k (h.apart k plain) }

-- what is told
pub plain_more : (c d : Closed) → KeepsPlain c d → (t : Tree) → HasPlainLeaves c t → HasPlainLeaves d t
plain_more c d more (leaf k) h = more k h
plain_more c d more (cell a b) h = (plain_more c d more a h.0, plain_more c d more b h.1)

pub closed_more : (p : PassView) (c d : Closed) → KeepsPlain c d → (r : ℕ) → IsClosed p c r → IsClosed p d r
closed_more p c d more r h = record { tree = h.tree; known = h.known; plain = plain_more c d more h.tree h.plain }

and_second : (a b : Bool) → (a && b) ≡ true → b ≡ true
and_second true b e = e
and_second false b e = absurd cc

-- nothing is marked
pub none_marked : (c : Closed) → ((n : ℕ) → slice_index_or c.marks.items n Mark.Untold ≡ Mark.Untold) → (p : PassView) (put : Look) → ((k : ℕ) → has_plain c k ≡ true → put k ≡ None) → IsClosedFor p put c
none_marked c none p put apart = record {
  marks = λ r told. absurd (let e = and_second (nat_le (2 ^ 30) r) _ told in let f = ap says_closed (none (r - 2 ^ 30)) in cc);
  apart = apart;
}

pub nothing_there : {X : Type 0} (xs : List X) (n : ℕ) (d : X) → xs ≡ [] → slice_index_or xs n d ≡ d
nothing_there xs n d e = rw e (get_or_past [] n d (omega arith))

pub all_alike : {X : Type 0} (m n : ℕ) (d : X) → slice_index_or (replicate m d) n d ≡ d
all_alike m n d = go (cases_lt n m)
  where
    go : (n < m) ⊎ (m ≤ n) → slice_index_or (replicate m d) n d ≡ d
    go (inl less) = get_or-replicate m n d d less
    go (inr past) = get_or_past (replicate m d) n d (omega (arith, length-replicate m d))

-- one leaf more is plain
pub kept_plain : (c d : Closed) (n : ℕ) → has_plain d n ≡ true → ((k : ℕ) → k ≢ n → has_plain d k ≡ has_plain c k) → KeepsPlain c d
kept_plain c d n here others k plain = go (cases_eq k n)
  where
    go : (k ≡ n) ⊎ (k ≢ n) → has_plain d k ≡ true
    go (inl same) = ap (has_plain d) same ∙ here
    go (inr apart) = others k apart ∙ plain

pub plain_added : (p : PassView) (put : Look) (c d : Closed) (n : ℕ) → d.marks.items ≡ c.marks.items → has_plain d n ≡ true → ((k : ℕ) → k ≢ n → has_plain d k ≡ has_plain c k) → put n ≡ None → IsClosedFor p put c → IsClosedFor p put d
plain_added p put c d n marks here others none h = record {
  marks = λ r told. closed_more p c d (kept_plain c d n here others) r (h.marks r (rw marks at told));
  apart = λ k plain. go k plain (cases_eq k n);
}
  where
    go : (k : ℕ) → has_plain d k ≡ true → (k ≡ n) ⊎ (k ≢ n) → put k ≡ None
    go k plain (inl same) = ap put same ∙ none
    go k plain (inr apart) = h.apart k (sym (others k apart) ∙ plain)

-- the parts of a cell
pub leaf_closed : (p : PassView) (c : Closed) (r : ℕ) → has_plain c r ≡ true → Knows p r (leaf r) → IsClosed p c r
leaf_closed p c r plain itself = record { tree = leaf r; known = itself; plain = plain }

pub itself_known : (p : PassView) → IsOneToOne p → HasPartsOfTrees p → (r : ℕ) (t : Tree) → Knows p r t → r < 2 ^ 30 → Knows p r (leaf r)
itself_known p one parts r (leaf k) known low = subst (λ j. Knows p r (leaf j)) (sym (parts.leaf_number r k known).0) known
itself_known p one parts r (cell a b) known low = absurd (let above = one.high r a b known in omega arith)

pub cell_closed : (p : PassView) → IsOneToOne p → (c : Closed) (r a b : ℕ) (s t : Tree) → Knows p r (cell s t) → Knows p a s → Knows p b t → IsClosed p c a → IsClosed p c b → IsClosed p c r
cell_closed p one c r a b s t known first second x y = record {
  tree = cell s t;
  known = known;
  plain = (subst (HasPlainLeaves c) (one.one_tree a x.tree s x.known first) x.plain, subst (HasPlainLeaves c) (one.one_tree b y.tree t y.known second) y.plain);
}

pub known_cell : (p : PassView) → HasPartsOfTrees p → (r : ℕ) → IsKnown p r → 2 ^ 30 ≤ r → IsKnownCell p r
known_cell p parts r h above = is_cell p parts r h.tree h.stands above

-- the cells on the way
pub none_known : (p : PassView) (xs : List ℕ) → xs ≡ [] → All (IsKnownCell p) xs
none_known p xs e = rw e (All-nil (IsKnownCell p))

more_known : (ys xs : List ℕ) (r : ℕ) → xs ≡ ys ++ r ∷ [] → length xs ≡ length ys + 1
more_known ys xs r e = ap length e ∙ length-append ys (r ∷ [])

pub known_first : (p : PassView) (ys xs : List ℕ) (r : ℕ) → xs ≡ ys ++ r ∷ [] → All (IsKnownCell p) xs → All (IsKnownCell p) ys
known_first p ys xs r e h k d below =
    subst (IsKnownCell p) (ap (λ (zs : List ℕ). get_or zs k d) e ∙ get_or-append ys (r ∷ []) d k below)
    (h k d (let n = more_known ys xs r e in omega arith))

pub known_above : (p : PassView) (ys xs : List ℕ) (r : ℕ) → xs ≡ ys ++ r ∷ [] → All (IsKnownCell p) xs → IsKnownCell p r
known_above p ys xs r e h =
    subst (IsKnownCell p) (ap (λ (zs : List ℕ). get_or zs (length ys) r) e ∙ get_or-append_seam ys r [] r)
    (h (length ys) r (let n = more_known ys xs r e in omega arith))
