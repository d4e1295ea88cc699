-- The images that a term needs put in the same as all images do.
use Rattle.std.proofs.Common.{◌≡◌, ◌≢◌, ◌⊎◌, inl, inr, ◌+◌, ◌<◌, ◌≤◌, ℕ, zero, suc, List, [], ◌∷◌, ◌++◌, map, length, take, get_or, slice_get, Bool, true, false, cond, Option, Some, None, refl, sym, ap, subst, ◌∙◌, Contains, arith}
use Rattle.std.specs.Prelude.{IsSomeAnd}
use Rattle.std.specs.List.{AllZip}
use Rattle.std.specs.Option.{option_map}
use Rattle.std.proofs.lemmas.List.{take_more}
use Rattle.std.proofs.lemmas.List.Elements.{Contains-push, Contains-push_cases, Contains-append_left, Contains-append_right}
use Rattle.std.proofs.lemmas.Option.{slice_get_within, slice_get-map, slice_get-get_or, get_or_from_slice_get}
use Rattle.pair_pool.specs.Trees.{Tree, leaf, cell}
use Rattle.pair_pool.specs.Views.{PassView, IsKnown, IsOneToOne}
use Rattle.sym_table.specs.Leaf.{name_of}
use Rattle.sym_table.specs.Table.{Table, IsLeaf, LeafMeets, IsTable}
use Rattle.term_model.specs.FreeVariables.{IsFree}
use Rattle.term_model.specs.Terms.{Var, var_eq, Term}
use Rattle.term_model.proofs.Tests.{var_eq_decides}
use Rattle.term_model.proofs.Lists.{contains_head, contains_later, get_taken}
use Rattle.term_model.proofs.Basics.{same_some}
use Rattle.term_pool.specs.Heights.{is_let_head}
use Rattle.term_pool.specs.StandsFor.{variable_leaf, StandsFor}
use Rattle.term_pool.specs.Views.{TermsView, RefersTo}
use Rattle.rule_model.specs.Replacement.{Replacement, replaced_by}
use Rattle.rule_model.specs.Substitution.{put_in, Replaces}
use Rattle.rule_model.proofs.Substituting.{term_at-none, put_in_agrees, put_in_nothing}
use Rattle.rule_model.proofs.Standing.{slice_get_taken}
use Rattle.term_pool.specs.Bindings.{IsBindingOf}
use Rattle.contexts.specs.FreeLeaves.{IsFreeLeaf, IsFreeInLet, IsFreeInValues, IsFreeInValue}
use Rattle.contexts.proofs.Links.{free_is}
use Rattle.contexts.specs.PutIn.{StandForReplacement}
use Rattle.term_pool.specs.Placing.{PlacesTerm}
use Rattle.term_pool.proofs.Leaves.{one_variable}
use Rattle.contexts.specs.Shapes.{Either}
use Rattle.alethe_reader.specs.Ids.{Used, IsUnused, IsUsedAt}
use Rattle.alethe_reader.specs.declared.ids.Found.{Found}
use Rattle.alethe_reader.specs.NeededImages.{HasLeavesAmong, IsImageAmong, HasNoImage, AreImagesOf, AreNeeded}

-- a leaf that stands free in a tree is one of its leaves
mutual
  free_among : (leaves : List ℕ) (k : ℕ) (t : Tree) → HasLeavesAmong leaves t → IsFreeLeaf k t → Contains leaves k
  free_among leaves k (leaf j) h e = subst (λ i. Contains leaves i) e h
  free_among leaves k (cell a b) h f = go (is_let_head a) f (free_in_let leaves k b h.1) (λ e. free_among leaves k a h.0 e) (λ e. free_among leaves k b h.1 e)
    where
      go : (c : Bool) → Either c (IsFreeInLet k b) (IsFreeLeaf k a ⊎ IsFreeLeaf k b) → (IsFreeInLet k b → Contains leaves k) → (IsFreeLeaf k a → Contains leaves k) → (IsFreeLeaf k b → Contains leaves k) → Contains leaves k
      go true g inside first second = inside g
      go false (inl g) inside first second = first g
      go false (inr g) inside first second = second g

  free_in_let : (leaves : List ℕ) (k : ℕ) (t : Tree) → HasLeavesAmong leaves t → IsFreeInLet k t → Contains leaves k
  free_in_let leaves k (leaf j) h f = absurd f
  free_in_let leaves k (cell a b) h (inl f) = free_in_values leaves k a h.0 f
  free_in_let leaves k (cell a b) h (inr f) = free_among leaves k b h.1 f.1

  free_in_values : (leaves : List ℕ) (k : ℕ) (t : Tree) → HasLeavesAmong leaves t → IsFreeInValues k t → Contains leaves k
  free_in_values leaves k (leaf j) h f = absurd f
  free_in_values leaves k (cell a b) h (inl f) = free_in_value leaves k a h.0 f
  free_in_values leaves k (cell a b) h (inr f) = free_in_values leaves k b h.1 f

  free_in_value : (leaves : List ℕ) (k : ℕ) (t : Tree) → HasLeavesAmong leaves t → IsFreeInValue k t → Contains leaves k
  free_in_value leaves k (leaf j) h f = absurd f
  free_in_value leaves k (cell a b) h f = free_among leaves k b h.1 f

pub leaf_of_free : (s : Table) → IsTable s → (leaves : List ℕ) (k : ℕ) (x : Var) (t : Term) (tree : Tree) → IsLeaf s k (variable_leaf x) → StandsFor s tree t → HasLeavesAmong leaves tree → IsFree x t → Contains leaves k
leaf_of_free s table leaves k x t tree here stands h free = free_among leaves k tree h ((free_is s table k x here t tree stands).1 free)

-- the leaves of a tree
abbrev leaves_of : Tree → List ℕ
leaves_of (leaf k) = k ∷ []
leaves_of (cell s t) = leaves_of s ++ leaves_of t

among_more : (leaves more : List ℕ) → ((k : ℕ) → Contains leaves k → Contains more k) → (t : Tree) → HasLeavesAmong leaves t → HasLeavesAmong more t
among_more leaves more wider (leaf k) h = wider k h
among_more leaves more wider (cell s t) h = (among_more leaves more wider s h.0, among_more leaves more wider t h.1)

among_own : (t : Tree) → HasLeavesAmong (leaves_of t) t
among_own (leaf k) = contains_head k []
among_own (cell s t) = (
  among_more (leaves_of s) (leaves_of s ++ leaves_of t) (λ k h. Contains-append_left (leaves_of s) (leaves_of t) k h) s (among_own s),
  among_more (leaves_of t) (leaves_of s ++ leaves_of t) (λ k h. Contains-append_right (leaves_of s) (leaves_of t) k h) t (among_own t),
)

-- where there are no images, none is needed
pub needs_none : (s : Table) (pass : PassView) (names : List (List ℕ)) (images : List (ℕ × ℕ)) (r : ℕ) → IsOneToOne pass → IsKnown pass r → images ≡ [] → AreNeeded s pass names images r []
needs_none s pass names images r once known none = record {
  leaves = leaves_of known.tree;
  among = λ t h. subst (HasLeavesAmong (leaves_of known.tree)) (once.one_tree r known.tree t known.stands h) (among_own known.tree);
  are = record {
    each = λ b h. absurd (omega (arith, h.1));
    all = λ k h x is n image named here. absurd (no_image images none n (k, image) here);
  };
}
  where
    no_image : (images : List (ℕ × ℕ)) → images ≡ [] → (n : ℕ) (b : ℕ × ℕ) → slice_get images n ≡ Some b → ⊥
    no_image [] none n b e = absurd (cc)
    no_image (c ∷ images) none n b e = absurd (cc)

-- nothing is put in where there are no images
pub nothing_put_in : (s : Table) (v : TermsView) (bs : List (ℕ × ℕ)) (q : Replacement) (t : Term) → length bs ≡ 0 → StandForReplacement s v bs q → put_in q t ≡ t
nothing_put_in s v [] [] t none h = put_in_nothing t
nothing_put_in s v [] (c ∷ q) t none h = absurd h
nothing_put_in s v (b ∷ bs) q t none h = absurd (omega (arith, none))

pub places_nothing : (s : Table) (v : TermsView) (r : ℕ) (t : Term) → RefersTo s v r t → PlacesTerm s v.pass v.pass t
places_nothing s v r t refers = record { tree = refers.tree; stands = refers.stands; placed = λ r a b h. inl h }

-- one image after another
module _ (s : Table) (names : List (List ℕ)) (images : List (ℕ × ℕ)) where
  pub none_needed : AreImagesOf s names images [] []
  none_needed = record { each = λ b h. absurd (omega (arith, h.1)); all = λ k h x is n image named here. absurd (omega (arith, h.1)) }

  module _ (leaves : List ℕ) (at d : ℕ) (below : at < length leaves) (needed : List (ℕ × ℕ)) (h : AreImagesOf s names images (take at leaves) needed) where
    earlier_or : (l : ℕ) → Contains (take (at + 1) leaves) l → Contains (take at leaves) l ⊎ (get_or leaves at d ≡ l)
    earlier_or l k = Contains-push_cases (take at leaves) (get_or leaves at d) l (subst (λ ls. Contains ls l) (take_more leaves at d below) k)

    pub not_needed : HasNoImage s names images (get_or leaves at d) → AreImagesOf s names images (take (at + 1) leaves) needed
    not_needed none = record { each = h.each; all = λ l k x is n image named here. go l x is n image named here (earlier_or l k) }
      where
        go : (l : ℕ) (x : Var) → IsLeaf s l (variable_leaf x) → (n image : ℕ) → slice_get names n ≡ Some x.name → slice_get images n ≡ Some (l, image) → Contains (take at leaves) l ⊎ (get_or leaves at d ≡ l) → Contains needed (l, image)
        go l x is n image named here (inl before) = h.all l before x is n image named here
        go l x is n image named here (inr same) =
            absurd (none x (subst (λ i. IsLeaf s i (variable_leaf x)) (sym same) is) n image named (subst (λ i. slice_get images n ≡ Some (i, image)) (sym same) here))

    pub one_needed : (image : ℕ) → IsImageAmong s names images (get_or leaves at d, image) → AreImagesOf s names images (take (at + 1) leaves) (needed ++ (get_or leaves at d, image) ∷ [])
    one_needed image found = record {
      each = λ b k. elim (Contains-push_cases needed (get_or leaves at d, image) b k) [ inl before ↦ h.each b before | inr same ↦ subst (IsImageAmong s names images) same found ];
      all = λ l k x is n i named here. go l x is n i named here (earlier_or l k);
    }
      where
        one_image : (l i n : ℕ) (x : Var) → IsLeaf s l (variable_leaf x) → slice_get names n ≡ Some x.name → slice_get images n ≡ Some (l, i) → get_or leaves at d ≡ l → ◌≡◌ {A = ℕ × ℕ} (get_or leaves at d, image) (l, i)
        one_image l i n x is named here same =
            same_some (sym found.here ∙ (ap (slice_get images) (sym (found.alone x (subst (λ j. IsLeaf s j (variable_leaf x)) (sym same) is) n named)) ∙ here))

        go : (l : ℕ) (x : Var) → IsLeaf s l (variable_leaf x) → (n i : ℕ) → slice_get names n ≡ Some x.name → slice_get images n ≡ Some (l, i) → Contains (take at leaves) l ⊎ (get_or leaves at d ≡ l) → Contains (needed ++ (get_or leaves at d, image) ∷ []) (l, i)
        go l x is n i named here (inl before) = Contains-append_left needed ((get_or leaves at d, image) ∷ []) (l, i) (h.all l before x is n i named here)
        go l x is n i named here (inr same) = subst (λ b. Contains (needed ++ (get_or leaves at d, image) ∷ []) b) (one_image l i n x is named here same) (Contains-push needed (get_or leaves at d, image))

-- A binding that is one of these, and the only one of its variable.
pub record IsOnly (q : Replacement) (c : Var × Term) : Type 0 where
  pub there : Contains q c
  pub alone : (d : Var × Term) → Contains q d → d.0 ≡ c.0 → d ≡ c

-- it is what is put in for its variable
only_replaced : (q : Replacement) (c : Var × Term) → Contains q c → ((d : Var × Term) → Contains q d → d.0 ≡ c.0 → d ≡ c) → replaced_by q c.0 ≡ c.1
only_replaced [] c there alone = absurd (omega (arith, there.1))
only_replaced (b ∷ q) c there alone = go (var_eq b.0 c.0) refl (λ k. only_replaced q c k (λ d i. alone d (contains_later b d q i)))
  where
    later : var_eq b.0 c.0 ≡ false → Contains (b ∷ q) c → Contains q c
    later e (zero, below, here) = absurd (let f = (var_eq_decides b.0 c.0).1 (ap (λ (d : Var × Term). d.0) here) in cc)
    later e (suc k, below, here) = (k, omega (arith, below), here)

    go : (t : Bool) → var_eq b.0 c.0 ≡ t → (Contains q c → replaced_by q c.0 ≡ c.1) → cond t b.1 (replaced_by q c.0) ≡ c.1
    go true e others = ap (λ (d : Var × Term). d.1) (alone b (contains_head b q) ((var_eq_decides b.0 c.0).0 e))
    go false e others = others (later e there)

-- Some of the bindings put in the same for a variable, where they have its binding.
subset_agrees : (q bs : Replacement) → ((c : Var × Term) → Contains bs c → IsOnly q c) → (x : Var) → (Replaces q x → Replaces bs x) → replaced_by bs x ≡ replaced_by q x
subset_agrees q [] each x has = sym (term_at-none q x has)
subset_agrees q (c ∷ bs) each x has = go (var_eq c.0 x) refl (λ k. subset_agrees q bs (λ d i. each d (contains_later c d bs i)) x k)
  where
    first : IsOnly q c
    first = each c (contains_head c bs)

    later : var_eq c.0 x ≡ false → (c.0 ≡ x) ⊎ Replaces bs x → Replaces bs x
    later e (inl same) = absurd (let f = (var_eq_decides c.0 x).1 same in cc)
    later e (inr k) = k

    go : (t : Bool) → var_eq c.0 x ≡ t → ((Replaces q x → Replaces bs x) → replaced_by bs x ≡ replaced_by q x) → cond t c.1 (replaced_by bs x) ≡ replaced_by q x
    go true e others = sym (only_replaced q c first.there first.alone) ∙ ap (replaced_by q) ((var_eq_decides c.0 x).0 e)
    go false e others = others (λ r. later e (has r))

-- an item by its place
item_at : {X : Type 0} (xs : List X) (x : X) → Contains xs x → (k : ℕ) × (slice_get xs k ≡ Some x)
item_at xs x (k, below, here) = (k, slice_get-get_or xs k x below ∙ ap (λ (y : _). Some y) here)

module _ (s : Table) (v : TermsView) where
  -- a binding and what it stands for have one place
  zipped_at : (bs : List (ℕ × ℕ)) (q : Replacement) → AllZip (IsBindingOf s v) bs q → (k : ℕ) (b : ℕ × ℕ) → slice_get bs k ≡ Some b → (c : Var × Term) × (slice_get q k ≡ Some c) × IsBindingOf s v b c
  zipped_at [] q h k b e = absurd (cc)
  zipped_at (a ∷ bs) [] h k b e = absurd h
  zipped_at (a ∷ bs) (c ∷ q) h zero b e = (c, refl, subst (λ d. IsBindingOf s v d c) (same_some e) h.0)
  zipped_at (a ∷ bs) (c ∷ q) h (suc k) b e = zipped_at bs q h.1 k b e

  zipped_replaces : (bs : List (ℕ × ℕ)) (q : Replacement) → AllZip (IsBindingOf s v) bs q → (x : Var) → Replaces q x → (k : ℕ) × (b : ℕ × ℕ) × (c : Var × Term) × (slice_get bs k ≡ Some b) × (slice_get q k ≡ Some c) × (c.0 ≡ x) × IsLeaf s b.0 (variable_leaf x)
  zipped_replaces [] [] h x r = absurd r
  zipped_replaces [] (c ∷ q) h x r = absurd h
  zipped_replaces (b ∷ bs) [] h x r = absurd h
  zipped_replaces (b ∷ bs) (c ∷ q) h x (inl same) = (0, b, c, refl, refl, same, subst (λ y. IsLeaf s b.0 (variable_leaf y)) same h.0.variable)
  zipped_replaces (b ∷ bs) (c ∷ q) h x (inr r) = let (k, d, e, there, means, same, is) = zipped_replaces bs q h.1 x r in (suc k, d, e, there, means, same, is)

  -- what has a binding is put in for
  replaces_zipped : (bs : List (ℕ × ℕ)) (q : Replacement) → AllZip (IsBindingOf s v) bs q → (b : ℕ × ℕ) → Contains bs b → (x : Var) → IsLeaf s b.0 (variable_leaf x) → Replaces q x
  replaces_zipped [] q h b k x is = absurd (omega (arith, k.1))
  replaces_zipped (a ∷ bs) [] h b k x is = absurd h
  replaces_zipped (a ∷ bs) (c ∷ q) h b (zero, below, here) x is = inl (one_variable s b.0 c.0 x (subst (λ d. IsLeaf s d.0 (variable_leaf c.0)) here h.0.variable) is)
  replaces_zipped (a ∷ bs) (c ∷ q) h b (suc k, below, here) x is = inr (replaces_zipped bs q h.1 b (k, omega (arith, below), here) x is)

module _ (s : Table) (v : TermsView) (names : List (List ℕ)) (images : List (ℕ × ℕ)) (q : Replacement) (zip : AllZip (IsBindingOf s v) images q) (named : (k : ℕ) (c : Var × Term) → slice_get q k ≡ Some c → slice_get names k ≡ Some c.0.name) where
  only_at : (b : ℕ × ℕ) → IsImageAmong s names images b → (c : Var × Term) × IsBindingOf s v b c × IsOnly q c
  only_at b h =
      let (c, there, is) = zipped_at s v images q zip h.place b h.here in
      (c, is, record { there = (h.place, slice_get_within q h.place c there, get_or_from_slice_get q h.place c c there); alone = λ d k e. alone c there is d (item_at q d k) e })
    where
      alone : (c : Var × Term) → slice_get q h.place ≡ Some c → IsBindingOf s v b c → (d : Var × Term) → (j : ℕ) × (slice_get q j ≡ Some d) → d.0 ≡ c.0 → d ≡ c
      alone c there is d (j, at_j) e =
          same_some (sym at_j ∙ (ap (slice_get q) (h.alone c.0 is.variable j (named j d at_j ∙ ap (λ (y : Var). Some y.name) e)) ∙ there))

  -- the bindings of these images
  replacement_of : (bs : List (ℕ × ℕ)) → ((b : ℕ × ℕ) → Contains bs b → IsImageAmong s names images b) → (r : Replacement) × AllZip (IsBindingOf s v) bs r × ((c : Var × Term) → Contains r c → IsOnly q c)
  replacement_of [] each = ([], tt, λ c k. absurd (omega (arith, k.1)))
  replacement_of (b ∷ bs) each =
      let (c, is, only) = only_at b (each b (contains_head b bs)) in
      let (r, are, others) = replacement_of bs (λ d k. each d (contains_later b d bs k)) in
      (c ∷ r, (is, are), λ d k. go c only r others d k)
    where
      go : (c : Var × Term) → IsOnly q c → (r : Replacement) → ((d : Var × Term) → Contains r d → IsOnly q d) → (d : Var × Term) → Contains (c ∷ r) d → IsOnly q d
      go c only r others d (zero, below, here) = subst (IsOnly q) here only
      go c only r others d (suc k, below, here) = others d (k, omega (arith, below), here)

  pub put_in_needed : IsTable s → (leaves : List ℕ) (bs : List (ℕ × ℕ)) → AreImagesOf s names images leaves bs → (t : Term) (tree : Tree) → StandsFor s tree t → HasLeavesAmong leaves tree
      → (r : Replacement) × AllZip (IsBindingOf s v) bs r × (put_in r t ≡ put_in q t)
  put_in_needed table leaves bs h t tree stands among =
      let (r, are, only) = replacement_of bs h.each in
      (r, are, put_in_agrees t r q (λ x free. subset_agrees q r only x (λ replaces. has r are x free (zipped_replaces s v images q zip x replaces))))
    where
      has : (r : Replacement) → AllZip (IsBindingOf s v) bs r → (x : Var) → IsFree x t → (k : ℕ) × (b : ℕ × ℕ) × (c : Var × Term) × (slice_get images k ≡ Some b) × (slice_get q k ≡ Some c) × (c.0 ≡ x) × IsLeaf s b.0 (variable_leaf x) → Replaces r x
      has r are x free (k, b, c, there, means, same, is) =
          replaces_zipped s v bs r are b
          (h.all b.0 (leaf_of_free s table leaves b.0 x t tree is stands among free) x is k b.1 (named k c means ∙ ap (λ (y : Var). Some y.name) same) there) x is

taken_below : {X : Type 0} (n : ℕ) (xs : List X) (k : ℕ) (x : X) → slice_get (take n xs) k ≡ Some x → k < n
taken_below zero xs k x e = absurd (cc)
taken_below (suc n) [] k x e = absurd (cc)
taken_below (suc n) (y ∷ xs) zero x e = omega arith
taken_below (suc n) (y ∷ xs) (suc k) x e = omega (arith, taken_below n xs k x e)

-- the name of a variable's leaf, and who has the name
leaf_named : (s : Table) (k : ℕ) (n : List ℕ) (x : Var) → LeafMeets s k (λ l. n ≡ name_of l) → IsLeaf s k (variable_leaf x) → n ≡ x.name
leaf_named s k n x h is = subst (λ o. IsSomeAnd o (λ l. n ≡ name_of l)) is h

used_at : (us : List Used) (k : ℕ) (n : List ℕ) → slice_get (map (λ u. u.id) us) k ≡ Some n → (u : Used) × (slice_get us k ≡ Some u) × (u.id ≡ n)
used_at us k n e = go (slice_get us k) refl (sym (slice_get-map (λ u. u.id) us k) ∙ e)
  where
    go : (o : Option Used) → slice_get us k ≡ o → option_map (λ u. u.id) o ≡ Some n → (u : Used) × (slice_get us k ≡ Some u) × (u.id ≡ n)
    go None f g = absurd (cc)
    go (Some u) f g = (u, f, same_some g)

-- what the look-up of the image of a leaf returns
module _ (s : Table) (us : List Used) (images : List (ℕ × ℕ)) (outer k : ℕ) where
  pub no_leaf : length s.leaves ≤ k → HasNoImage s (map (λ u. u.id) us) (take outer images) k
  no_leaf past x is n image named here = absurd (omega (arith, slice_get_within s.leaves k (variable_leaf x) is, past))

  module _ (name : List ℕ) (meets : LeafMeets s k (λ l. name ≡ name_of l)) where
    pub none_found : IsUnused us name → HasNoImage s (map (λ u. u.id) us) (take outer images) k
    none_found unused x is n image named here = let (u, there, same) = used_at us n x.name named in unused n u there (same ∙ sym (leaf_named s k name x meets is))

    module _ (f : Found) (used : IsUsedAt us name f) where
      place_is : (x : Var) → IsLeaf s k (variable_leaf x) → (n : ℕ) → slice_get (map (λ u. u.id) us) n ≡ Some x.name → n ≡ f.place
      place_is x is n named = let (u, there, same) = used_at us n x.name named in used.alone n u there (same ∙ sym (leaf_named s k name x meets is))

      pub found_inside : outer ≤ f.place → HasNoImage s (map (λ u. u.id) us) (take outer images) k
      found_inside past x is n image named here = absurd (omega (arith, place_is x is n named, taken_below outer images n (k, image) here, past))

      module _ (below : f.place < outer) (b : ℕ × ℕ) (there : slice_get images f.place ≡ Some b) where
        pub found_other : b.0 ≢ k → HasNoImage s (map (λ u. u.id) us) (take outer images) k
        found_other differs x is n image named here =
            differs (ap (λ (c : ℕ × ℕ). c.0) (same_some (sym there ∙ (ap (slice_get images) (sym (place_is x is n named)) ∙ slice_get_taken outer images n (k, image) here))))

        pub image_found : b.0 ≡ k → IsImageAmong s (map (λ u. u.id) us) (take outer images) (k, b.1)
        image_found same = record {
          place = f.place;
          here = get_taken outer images f.place (k, b.1) below (there ∙ ap (λ i. Some (i, b.1)) same);
          alone = λ x is n named. place_is x is n named;
        }
