-- Cited by crates above. Building a tree from parts, cell by cell.
use Rattle.std.proofs.Common.{Result, Ok, Err, IfOk, OnErr, ◌≡◌, ℕ, ◌⊎◌, inl, inr, refl, List, [], ◌∷◌, drop, zero, suc, ◌<◌, ◌≤◌, ◌-◌, length, get_or, arith, drop-cons}
use Rattle.std.specs.List.{All}
use Rattle.std.proofs.lemmas.List.Elements.{All-head, All-tail}
use Rattle.pair_pool.specs.Trees.{Tree, leaf, cell}
use Rattle.pair_pool.specs.Views.{PassView, Knows, IsPlaced, IsKnown}
use Rattle.term_model.proofs.Zips.{zip_drop}
use Rattle.term_pool.specs.Trees.{IsPartOf, list_tree, app_tree, binding_trees}
use Rattle.term_pool.specs.Views.{KeepsPass, KnowsAll}
use Rattle.term_pool.specs.Building.{IsCellIn, PlacesOnlyIn, Builds, LacksRoom, Interns, Refuses}
use Rattle.term_pool.proofs.Keeping.{keeps-refl, keeps-trans, placed-none, placed-trans}

-- a cell of a part is a cell of the whole
pub in_larger : (p : PassView) (a b : ℕ) (s t : Tree) → ((u : Tree) → IsPartOf u s → IsPartOf u t) → IsCellIn p a b s → IsCellIn p a b t
in_larger p a b s t larger h = record {
  first = h.first;
  second = h.second;
  first_known = h.first_known;
  second_known = h.second_known;
  part = larger _ h.part;
}

pub placed-larger : (p q : PassView) (s t : Tree) → ((u : Tree) → IsPartOf u s → IsPartOf u t) → PlacesOnlyIn p q s → PlacesOnlyIn p q t
placed-larger p q s t larger h r a b e =
    elim (h r a b e) [ inl x ↦ inl x | inr y ↦ inr (in_larger q a b s t larger y) ]

pub lacks-larger : (p q : PassView) (s t : Tree) → ((u : Tree) → IsPartOf u s → IsPartOf u t) → LacksRoom p q s → LacksRoom p q t
lacks-larger p q s t larger h = record {
  keeps = h.keeps;
  full = record { first = h.full.first; second = h.full.second; wanted = in_larger q _ _ s t larger h.full.wanted; full = h.full.full };
  placed = placed-larger p q s t larger h.placed;
}

-- interning the cell of what is known builds its tree
pub interned : (p q r : PassView) (a b n : ℕ) (s t : Tree) → KeepsPass p q → PlacesOnlyIn p q (cell s t) → Knows q a s → Knows q b t → Interns q r a b n → Builds p r n (cell s t)
interned p q r a b n s t k h ks kt i = record {
  keeps = keeps-trans p q r k i.keeps;
  stands = i.stands s t ks kt;
  placed = placed-trans p q r (cell s t) i.keeps h (λ m c d e. go m c d (i.placed m c d e));
}
  where
    go : (m c d : ℕ) → IsPlaced q m c d ⊎ ((c ≡ a) × (d ≡ b)) → IsPlaced q m c d ⊎ IsCellIn r c d (cell s t)
    go m c d (inl x) = inl x
    go m c d (inr y) = inr (record {
      first = s;
      second = t;
      first_known = rw y.0 (i.keeps.grows _ _ ks);
      second_known = rw y.1 (i.keeps.grows _ _ kt);
      part = inl refl;
    })

pub refused : (p q r : PassView) (a b : ℕ) (s t : Tree) → KeepsPass p q → PlacesOnlyIn p q (cell s t) → Knows q a s → Knows q b t → Refuses q r a b → LacksRoom p r (cell s t)
refused p q r a b s t k h ks kt i = record {
  keeps = keeps-trans p q r k i.keeps;
  full = record {
    first = a;
    second = b;
    wanted = record { first = s; second = t; first_known = i.keeps.grows _ _ ks; second_known = i.keeps.grows _ _ kt; part = inl refl };
    full = i.full;
  };
  placed = placed-trans p q r (cell s t) i.keeps h (placed-none q r (cell s t) i.placed);
}

pub second-larger : (s t u : Tree) → IsPartOf u t → IsPartOf u (cell s t)
second-larger s t u h = inr (inr h)

pub first-larger : (s t u : Tree) → IsPartOf u s → IsPartOf u (cell s t)
first-larger s t u h = inr (inl h)

-- the list of the later trees is a part of the list of all
pub tail-larger : (ts : List Tree) (n : ℕ) (u : Tree) → IsPartOf u (list_tree (drop n ts)) → IsPartOf u (list_tree ts)
tail-larger ts zero u h = h
tail-larger [] (suc n) u h = h
tail-larger (t ∷ ts) (suc n) u h = inr (inr (tail-larger ts n u h))

-- a list has been built of these references, from its end
pub record IsListSoFar (old new : PassView) (rs : List ℕ) (list : ℕ) : Type 0 where
  pub keeps : KeepsPass old new
  pub known : IsKnown new list
  pub built : (ts : List Tree) → KnowsAll old rs ts → Builds old new list (list_tree ts)

pub list_starts : (p : PassView) → IsKnown p 0 → ((t : Tree) → Knows p 0 t → t ≡ leaf 0) → Knows p 0 (leaf 0) → IsListSoFar p p [] 0
list_starts p k one e = record {
  keeps = keeps-refl p;
  known = k;
  built = λ ts h. elim_empty ts h;
}
  where
    elim_empty : (ts : List Tree) → KnowsAll p [] ts → Builds p p 0 (list_tree ts)
    elim_empty [] h = record { keeps = keeps-refl p; stands = e; placed = placed-none p p (leaf 0) refl }
    elim_empty (t ∷ ts) h = absurd h

interned_known : (q r : PassView) (a b n : ℕ) → IsKnown q a → IsKnown q b → Interns q r a b n → IsKnown r n
interned_known q r a b n h k i = record { tree = cell h.tree k.tree; stands = i.stands _ _ h.stands k.stands }

later_known : (p q : PassView) (r : ℕ) → KeepsPass p q → IsKnown p r → IsKnown q r
later_known p q r k h = record { tree = h.tree; stands = k.grows _ _ h.stands }

-- one more item in front
pub list_step : (p q r : PassView) (rs : List ℕ) (x list n : ℕ) → IsListSoFar p q rs list → IsKnown p x → Interns q r x list n → IsListSoFar p r (x ∷ rs) n
list_step p q r rs x list n h k i = record {
  keeps = keeps-trans p q r h.keeps i.keeps;
  known = interned_known q r x list n (later_known p q x h.keeps k) h.known i;
  built = more;
}
  where
    more : (ts : List Tree) → KnowsAll p (x ∷ rs) ts → Builds p r n (list_tree ts)
    more [] e = absurd e
    more (t ∷ ts) e =
        let b = h.built ts e.1 in
        interned p q r x list n t (list_tree ts) h.keeps
        (placed-larger p q (list_tree ts) (cell t (list_tree ts)) (second-larger t (list_tree ts)) b.placed)
        (h.keeps.grows x t e.0) b.stands i

pub list_lacks : (p q r : PassView) (rs : List ℕ) (x list : ℕ) → IsListSoFar p q rs list → Refuses q r x list → (ts : List Tree) → KnowsAll p (x ∷ rs) ts → LacksRoom p r (list_tree ts)
list_lacks p q r rs x list h i [] e = absurd e
list_lacks p q r rs x list h i (t ∷ ts) e =
    let b = h.built ts e.1 in
    refused p q r x list t (list_tree ts) h.keeps
    (placed-larger p q (list_tree ts) (cell t (list_tree ts)) (second-larger t (list_tree ts)) b.placed)
    (h.keeps.grows x t e.0) b.stands i

pub lacks_all : (p r : PassView) (rs : List ℕ) (n : ℕ) → ((ts : List Tree) → KnowsAll p (drop n rs) ts → LacksRoom p r (list_tree ts)) → (ts : List Tree) → KnowsAll p rs ts → LacksRoom p r (list_tree ts)
lacks_all p r rs n h ts e =
    lacks-larger p r (list_tree (drop n ts)) (list_tree ts) (tail-larger ts n) (h (drop n ts) (zip_drop (Knows p) n rs ts e))

pub drop-at : (xs : List ℕ) (at x : ℕ) → 0 < at → at ≤ length xs → x ≡ get_or xs (at - 1) x → drop (at - 1) xs ≡ x ∷ drop at xs
drop-at xs at x above within is =
    let back : suc (at - 1) ≡ at = omega arith in
    let inside : at - 1 < length xs = omega arith in
    let split = drop-cons xs (at - 1) x inside in
    cc

pub known_trees : (p : PassView) (rs : List ℕ) → All (IsKnown p) rs → (ts : List Tree) × KnowsAll p rs ts
known_trees p [] h = ([], tt)
known_trees p (r ∷ rs) h =
    let first = All-head (IsKnown p) r rs h in
    let rest = known_trees p rs (All-tail (IsKnown p) r rs h) in
    (first.tree ∷ rest.0, (first.stands, rest.1))

-- a list is known where its building says so for its trees
pub list_known : (p q : PassView) (rs : List ℕ) (list : ℕ) → All (IsKnown p) rs → ((ts : List Tree) → KnowsAll p rs ts → Builds p q list (list_tree ts)) → IsKnown q list
list_known p q rs list h built =
    let trees = known_trees p rs h in record { tree = list_tree trees.0; stands = (built trees.0 trees.1).stands }

pub app_made : (p q r : PassView) (rs : List ℕ) (head at list n : ℕ) → (length rs ≡ 0 → ⊥) → Knows q at (leaf head) → ((ts : List Tree) → KnowsAll p rs ts → Builds p q list (list_tree ts)) → Interns q r at list n → (ts : List Tree) → KnowsAll p rs ts → Builds p r n (app_tree head ts)
app_made p q r [] head at list n some k built i ts h = absurd (some refl)
app_made p q r (x ∷ rs) head at list n some k built i [] h = absurd h
app_made p q r (x ∷ rs) head at list n some k built i (t ∷ ts) h =
    let b = built (t ∷ ts) h in
    let all : Tree = list_tree (t ∷ ts) in
    interned p q r at list n (leaf head) all b.keeps
    (placed-larger p q all (cell (leaf head) all) (second-larger (leaf head) all) b.placed) k b.stands i

pub app_refused : (p q r : PassView) (rs : List ℕ) (head at list : ℕ) → (length rs ≡ 0 → ⊥) → Knows q at (leaf head) → ((ts : List Tree) → KnowsAll p rs ts → Builds p q list (list_tree ts)) → Refuses q r at list → (ts : List Tree) → KnowsAll p rs ts → LacksRoom p r (app_tree head ts)
app_refused p q r [] head at list some k built i ts h = absurd (some refl)
app_refused p q r (x ∷ rs) head at list some k built i [] h = absurd h
app_refused p q r (x ∷ rs) head at list some k built i (t ∷ ts) h =
    let b = built (t ∷ ts) h in
    let all : Tree = list_tree (t ∷ ts) in
    refused p q r at list (leaf head) all b.keeps
    (placed-larger p q all (cell (leaf head) all) (second-larger (leaf head) all) b.placed) k b.stands i

pub app_lacks : (p q : PassView) (rs : List ℕ) (head : ℕ) → (length rs ≡ 0 → ⊥) → ((ts : List Tree) → KnowsAll p rs ts → LacksRoom p q (list_tree ts)) → (ts : List Tree) → KnowsAll p rs ts → LacksRoom p q (app_tree head ts)
app_lacks p q [] head some lacks ts h = absurd (some refl)
app_lacks p q (x ∷ rs) head some lacks [] h = absurd h
app_lacks p q (x ∷ rs) head some lacks (t ∷ ts) h =
    let all : Tree = list_tree (t ∷ ts) in
    lacks-larger p q all (cell (leaf head) all) (second-larger (leaf head) all) (lacks (t ∷ ts) h)

-- two cells, one above the other: the cell (a, b), and then the cell of it and c
pub two_built : (p q r : PassView) (a b c m n : ℕ) (s t u : Tree) → Knows p a s → Knows p b t → Knows p c u → Interns p q a b m → Interns q r m c n → Builds p r n (cell (cell s t) u)
two_built p q r a b c m n s t u ka kb kc i j =
    let first = interned p p q a b m s t (keeps-refl p) (placed-none p p (cell s t) refl) ka kb i in
    interned p q r m c n (cell s t) u i.keeps
    (placed-larger p q (cell s t) (cell (cell s t) u) (first-larger (cell s t) u) first.placed)
    first.stands (i.keeps.grows c u kc) j

pub first_refused : (p q : PassView) (a b : ℕ) (s t u : Tree) → Knows p a s → Knows p b t → Refuses p q a b → LacksRoom p q (cell (cell s t) u)
first_refused p q a b s t u ka kb i =
    lacks-larger p q (cell s t) (cell (cell s t) u) (first-larger (cell s t) u)
    (refused p p q a b s t (keeps-refl p) (placed-none p p (cell s t) refl) ka kb i)

pub second_refused : (p q r : PassView) (a b c m : ℕ) (s t u : Tree) → Knows p a s → Knows p b t → Knows p c u → Interns p q a b m → Refuses q r m c → LacksRoom p r (cell (cell s t) u)
second_refused p q r a b c m s t u ka kb kc i j =
    let first = interned p p q a b m s t (keeps-refl p) (placed-none p p (cell s t) refl) ka kb i in
    refused p q r m c (cell s t) u i.keeps
    (placed-larger p q (cell s t) (cell (cell s t) u) (first-larger (cell s t) u) first.placed)
    first.stands (i.keeps.grows c u kc) j

-- the bindings of these variables and values have been built, from the end
pub record IsBindingsSoFar (old new : PassView) (vars values : List ℕ) (list : ℕ) : Type 0 where
  pub keeps : KeepsPass old new
  pub known : IsKnown new list
  pub built : (ts : List Tree) → KnowsAll old values ts → Builds old new list (list_tree (binding_trees vars ts))

-- building on a tree that has been built
pub built_on : (p q r : PassView) (n : ℕ) (s t : Tree) → KeepsPass p q → PlacesOnlyIn p q t → Builds q r n t → Builds p r n t
built_on p q r n s t k h b = record {
  keeps = keeps-trans p q r k b.keeps;
  stands = b.stands;
  placed = placed-trans p q r t b.keeps h b.placed;
}

pub lacks_on : (p q r : PassView) (t : Tree) → KeepsPass p q → PlacesOnlyIn p q t → LacksRoom q r t → LacksRoom p r t
lacks_on p q r t k h b = record {
  keeps = keeps-trans p q r k b.keeps;
  full = b.full;
  placed = placed-trans p q r t b.keeps h b.placed;
}

pub bindings_start : (p : PassView) (list : ℕ) → Knows p list (leaf 0) → IsBindingsSoFar p p [] [] list
bindings_start p list k = record {
  keeps = keeps-refl p;
  known = record { tree = leaf 0; stands = k };
  built = λ ts h. record { keeps = keeps-refl p; stands = k; placed = placed-none p p (leaf 0) refl };
}

pub bindings_step : (p q r : PassView) (ks rs : List ℕ) (k x list n : ℕ) → IsBindingsSoFar p q ks rs list → IsKnown p x → ((t u : Tree) → Knows q x t → Knows q list u → Builds q r n (cell (cell (leaf k) t) u)) → IsBindingsSoFar p r (k ∷ ks) (x ∷ rs) n
bindings_step p q r ks rs k x list n h known b =
    let one = b known.tree h.known.tree (h.keeps.grows _ _ known.stands) h.known.stands in
    record {
      keeps = keeps-trans p q r h.keeps one.keeps;
      known = record { tree = cell (cell (leaf k) known.tree) h.known.tree; stands = one.stands };
      built = more;
    }
  where
    more : (ts : List Tree) → KnowsAll p (x ∷ rs) ts → Builds p r n (list_tree (binding_trees (k ∷ ks) ts))
    more [] e = absurd e
    more (t ∷ ts) e =
        let rest = h.built ts e.1 in
        let list_of : Tree = list_tree (binding_trees ks ts) in
        built_on p q r n t (cell (cell (leaf k) t) list_of) h.keeps
        (placed-larger p q list_of (cell (cell (leaf k) t) list_of) (second-larger (cell (leaf k) t) list_of) rest.placed)
        (b t list_of (h.keeps.grows x t e.0) rest.stands)

pub bindings_lack : (p q r : PassView) (ks rs : List ℕ) (k x list : ℕ) → IsBindingsSoFar p q ks rs list → ((t u : Tree) → Knows q x t → Knows q list u → LacksRoom q r (cell (cell (leaf k) t) u)) → (ts : List Tree) → KnowsAll p (x ∷ rs) ts → LacksRoom p r (list_tree (binding_trees (k ∷ ks) ts))
bindings_lack p q r ks rs k x list h b [] e = absurd e
bindings_lack p q r ks rs k x list h b (t ∷ ts) e =
    let rest = h.built ts e.1 in
    let list_of : Tree = list_tree (binding_trees ks ts) in
    lacks_on p q r (cell (cell (leaf k) t) list_of) h.keeps
    (placed-larger p q list_of (cell (cell (leaf k) t) list_of) (second-larger (cell (leaf k) t) list_of) rest.placed)
    (b t list_of (h.keeps.grows x t e.0) rest.stands)

binding_trees-drop : (ks : List ℕ) (ts : List Tree) (n : ℕ) → binding_trees (drop n ks) (drop n ts) ≡ drop n (binding_trees ks ts)
binding_trees-drop ks ts zero = refl
binding_trees-drop [] ts (suc n) = refl
binding_trees-drop (k ∷ ks) [] (suc n) = go (drop n ks)
  where
    go : (xs : List ℕ) → binding_trees xs [] ≡ []
    go [] = refl
    go (x ∷ xs) = refl
binding_trees-drop (k ∷ ks) (t ∷ ts) (suc n) = binding_trees-drop ks ts n

pub bindings_lack_all : (p r : PassView) (ks rs : List ℕ) (n : ℕ) → ((ts : List Tree) → KnowsAll p (drop n rs) ts → LacksRoom p r (list_tree (binding_trees (drop n ks) ts))) → (ts : List Tree) → KnowsAll p rs ts → LacksRoom p r (list_tree (binding_trees ks ts))
bindings_lack_all p r ks rs n h ts e =
    lacks-larger p r (list_tree (drop n (binding_trees ks ts))) (list_tree (binding_trees ks ts)) (tail-larger (binding_trees ks ts) n)
    (rw binding_trees-drop at (h (drop n ts) (zip_drop (Knows p) n rs ts e)))

pub drop-at_number : (xs : List ℕ) (at : ℕ) → 0 < at → at ≤ length xs → drop (at - 1) xs ≡ get_or xs (at - 1) 0 ∷ drop at xs
drop-at_number xs at above within =
    let back : suc (at - 1) ≡ at = omega arith in
    let inside : at - 1 < length xs = omega arith in
    let split = drop-cons xs (at - 1) 0 inside in
    cc

pub cell_known : (q r : PassView) (a b n : ℕ) → IsKnown q a → IsKnown q b → Interns q r a b n → IsKnown r n
cell_known = interned_known

pub still_known : (p q : PassView) (r : ℕ) → KeepsPass p q → IsKnown p r → IsKnown q r
still_known = later_known

-- the rest of a let: the list s and the body t
pub rest_built : (p q r : PassView) (a b n : ℕ) (s t : Tree) → Builds p q a s → Knows p b t → Interns q r a b n → Builds p r n (cell s t)
rest_built p q r a b n s t h k i =
    interned p q r a b n s t h.keeps (placed-larger p q s (cell s t) (first-larger s t) h.placed) h.stands (h.keeps.grows b t k) i

-- a head put on what has been built
pub headed_built : (p q r : PassView) (a b n : ℕ) (s t : Tree) → Knows q a s → Builds p q b t → Interns q r a b n → Builds p r n (cell s t)
headed_built p q r a b n s t k h i =
    interned p q r a b n s t h.keeps (placed-larger p q t (cell s t) (second-larger s t) h.placed) k h.stands i

pub headed_refused : (p q r : PassView) (a b : ℕ) (s t : Tree) → Knows q a s → Builds p q b t → Refuses q r a b → LacksRoom p r (cell s t)
headed_refused p q r a b s t k h i =
    refused p q r a b s t h.keeps (placed-larger p q t (cell s t) (second-larger s t) h.placed) k h.stands i

pub bindings_known : (p q : PassView) (ks rs : List ℕ) (list : ℕ) → All (IsKnown p) rs → ((ts : List Tree) → KnowsAll p rs ts → Builds p q list (list_tree (binding_trees ks ts))) → IsKnown q list
bindings_known p q ks rs list h built =
    let trees = known_trees p rs h in
    record { tree = list_tree (binding_trees ks trees.0); stands = (built trees.0 trees.1).stands }

pub bindings_keep : (p q : PassView) (ks rs : List ℕ) (list : ℕ) → All (IsKnown p) rs → ((ts : List Tree) → KnowsAll p rs ts → Builds p q list (list_tree (binding_trees ks ts))) → KeepsPass p q
bindings_keep p q ks rs list h built = let trees = known_trees p rs h in (built trees.0 trees.1).keeps

-- whether it succeeded or was refused, a pass has kept what it had
pub list_result_keeps : {E : Type 0} → (result : Result ℕ E) (p q : PassView) (rs : List ℕ) (f : List Tree → Tree) → All (IsKnown p) rs → IfOk result (λ r. (ts : List Tree) → KnowsAll p rs ts → Builds p q r (f ts)) → OnErr result ((ts : List Tree) → KnowsAll p rs ts → LacksRoom p q (f ts)) → KeepsPass p q
list_result_keeps (Ok r) p q rs f known built full = let trees = known_trees p rs known in (built trees.0 trees.1).keeps
list_result_keeps (Err e) p q rs f known built full = let trees = known_trees p rs known in (full trees.0 trees.1).keeps

pub list_result_known : {E : Type 0} → (result : Result ℕ E) (p q : PassView) (rs : List ℕ) (f : List Tree → Tree) → All (IsKnown p) rs → IfOk result (λ r. (ts : List Tree) → KnowsAll p rs ts → Builds p q r (f ts)) → IfOk result (IsKnown q)
list_result_known (Ok r) p q rs f known built =
    let trees = known_trees p rs known in record { tree = f trees.0; stands = (built trees.0 trees.1).stands }
list_result_known (Err e) p q rs f known built = tt

-- the same, of what is built on one tree more
pub let_result_keeps : {E : Type 0} → (result : Result ℕ E) (p q : PassView) (rs : List ℕ) (body : ℕ) (f : List Tree → Tree → Tree) → All (IsKnown p) rs → IsKnown p body → IfOk result (λ r. (ts : List Tree) (u : Tree) → KnowsAll p rs ts → Knows p body u → Builds p q r (f ts u)) → OnErr result ((ts : List Tree) (u : Tree) → KnowsAll p rs ts → Knows p body u → LacksRoom p q (f ts u)) → KeepsPass p q
let_result_keeps (Ok r) p q rs body f known k built full =
    let trees = known_trees p rs known in (built trees.0 k.tree trees.1 k.stands).keeps
let_result_keeps (Err e) p q rs body f known k built full =
    let trees = known_trees p rs known in (full trees.0 k.tree trees.1 k.stands).keeps

pub let_result_known : {E : Type 0} → (result : Result ℕ E) (p q : PassView) (rs : List ℕ) (body : ℕ) (f : List Tree → Tree → Tree) → All (IsKnown p) rs → IsKnown p body → IfOk result (λ r. (ts : List Tree) (u : Tree) → KnowsAll p rs ts → Knows p body u → Builds p q r (f ts u)) → IfOk result (IsKnown q)
let_result_known (Ok r) p q rs body f known k built =
    let trees = known_trees p rs known in
    record { tree = f trees.0 k.tree; stands = (built trees.0 k.tree trees.1 k.stands).stands }
let_result_known (Err e) p q rs body f known k built = tt
