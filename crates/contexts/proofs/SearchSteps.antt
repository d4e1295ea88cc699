-- The search for a leaf that stands free: what is left to be looked at has it, where the whole has it.
use Rattle.std.proofs.Common.{◌≡◌, ℕ, suc, ◌<◌, ◌^◌, ◌⊎◌, inl, inr, List, [], ◌∷◌, ◌++◌, Bool, IsTrue, sym, ◌∙◌, ap, subst, Contains, arith, append_assoc}
use Rattle.std.proofs.lemmas.List.Elements.{Contains-append_left, Contains-append_right, Contains-append_cases, Contains-push, Contains-push_cases}
use Rattle.pair_pool.specs.Trees.{Tree, leaf, cell}
use Rattle.pair_pool.specs.Views.{PassView, Knows, IsOneToOne, HasPartsOfTrees}
use Rattle.term_model.proofs.Lists.{contains_none}
use Rattle.term_pool.specs.Heights.{is_let_head}
use Rattle.term_pool.specs.Trees.{depth}
use Rattle.term_pool.specs.Views.{IsKnownCell}
use Rattle.term_pool.proofs.ReadingLemmas.{leaf_of}
use Rattle.contexts.specs.Shapes.{HasShape, HasLetShape, IsShaped, IsLetRest, IsBindingList}
use Rattle.contexts.specs.FreeLeaves.{IsFreeLeaf, IsFreeInLet, BindsLeaf}
use Rattle.contexts.specs.Searching.{IsFine, HasFree, ArePartsOf, LeavesParts, LeavesLet, LeavesValues}
use Rattle.contexts.proofs.References.{head_other, head_of_let, from_true, from_false, either_true, either_false}
use Rattle.contexts.proofs.LeavingValues.{free_among}

-- what is left to be looked at, and what has been met
pub record IsSearch (p : PassView) (k r : ℕ) (seen left : List ℕ) : Type 0 where
  root : Tree
  root_known : Knows p r root
  fine : (q : ℕ) → Contains left q → IsFine p k (IsFreeLeaf k root) q
  lasting : IsFreeLeaf k root → HasFree p k left (suc (depth root))
  closed : (q : ℕ) (t : Tree) → Contains seen q → Knows p q t → IsFreeLeaf k t → HasFree p k left (depth t)

only : (r q : ℕ) → Contains (r ∷ []) q → r ≡ q
only r q h = elim (Contains-push_cases [] r q h) [ inl n ↦ absurd (contains_none q n) | inr e ↦ e ]

pub search_start : (p : PassView) (k r : ℕ) (none left : List ℕ) → none ≡ [] → left ≡ r ∷ [] → IsShaped p r → IsSearch p k r none left
search_start p k r none left e f h = rw (e, f) (record {
  root = h.tree;
  root_known = h.known;
  fine = λ q i. subst (IsFine p k (IsFreeLeaf k h.tree)) (only r q i) (record { tree = h.tree; known = h.known; shape = h.shape; sound = λ g. g });
  lasting = λ g. record { reference = r; here = Contains-push [] r; tree = h.tree; known = h.known; free = g; less = omega arith };
  closed = λ q t i. absurd (contains_none q i);
})

-- the reference that is looked at
pub looked_at : (p : PassView) (k r : ℕ) (seen rest : List ℕ) (q : ℕ) → IsSearch p k r seen (rest ++ q ∷ []) → IsShaped p q
looked_at p k r seen rest q h =
    let f = h.fine q (Contains-push rest q) in record { tree = f.tree; known = f.known; shape = f.shape }

module _ (p : PassView) (one : IsOneToOne p) (k r : ℕ) (seen rest : List ℕ) (q : ℕ) (h : IsSearch p k r seen (rest ++ q ∷ [])) where
  -- a leaf that is the one looked for
  pub search_found : HasPartsOfTrees p → q < 2 ^ 30 → q ≡ k → (t : Tree) → Knows p r t → IsFreeLeaf k t
  search_found parts low same t known =
      let f = h.fine q (Contains-push rest q) in
      subst (IsFreeLeaf k) (one.one_tree r h.root t h.root_known known)
      (f.sound (subst (IsFreeLeaf k) (sym (leaf_of p one parts q f.tree f.known low)) same))

  -- without it what was free elsewhere stays so
  without : (n : ℕ) → ((t : Tree) → Knows p q t → IsFreeLeaf k t → depth t < n → HasFree p k rest n) → HasFree p k (rest ++ q ∷ []) n → HasFree p k rest n
  without n instead f =
      elim (Contains-push_cases rest q f.reference f.here)
      [ inl old ↦ record { reference = f.reference; here = old; tree = f.tree; known = f.known; free = f.free; less = f.less } | inr same ↦ instead f.tree (subst (λ x. Knows p x f.tree) (sym same) f.known) f.free f.less ]

  -- nothing of it has to be looked at
  dropped : ((n : ℕ) (t : Tree) → Knows p q t → IsFreeLeaf k t → depth t < n → HasFree p k rest n) → IsSearch p k r seen rest
  dropped instead = record {
    root = h.root;
    root_known = h.root_known;
    fine = λ x i. h.fine x (Contains-append_left rest (q ∷ []) x i);
    lasting = λ g. without (suc (depth h.root)) (instead (suc (depth h.root))) (h.lasting g);
    closed = λ x t i known g. without (depth t) (instead (depth t)) (h.closed x t i known g);
  }

  -- another leaf
  pub search_leaf : HasPartsOfTrees p → q < 2 ^ 30 → ¬ (q ≡ k) → IsSearch p k r seen rest
  search_leaf parts low differs =
      dropped (λ n t known g less. absurd (differs (subst (IsFreeLeaf k) (leaf_of p one parts q t known low) g)))

  -- a cell that was met
  pub search_skips : (new : List ℕ) → Contains seen q → new ≡ seen → IsSearch p k r new rest
  search_skips new met same = subst (λ (z : List ℕ). IsSearch p k r z rest) (sym same) (dropped again)
    where
      again : (n : ℕ) (t : Tree) → Knows p q t → IsFreeLeaf k t → depth t < n → HasFree p k rest n
      again n t known g less =
          free_among p k rest rest (depth t) n (λ c i. i) (omega arith)
          (without (depth t) (λ u known' g' less'. absurd (let e = ap depth (one.one_tree q u t known' known) in omega arith)) (h.closed q t met known g))

  -- a cell that is opened now
  pub search_opens : (new left : List ℕ) → ((x : ℕ) → Contains new x → Contains seen x ⊎ (q ≡ x)) → LeavesParts p k q rest left → IsSearch p k r new left
  search_opens new left only leaves = record {
    root = h.root;
    root_known = h.root_known;
    fine = λ x i. fine x (subst (λ (z : List ℕ). Contains z x) leaves.added i);
    lasting = λ g. wider (suc (depth h.root)) (h.lasting g);
    closed = λ x t i known g. elim (only x i) [ inl before ↦ wider (depth t) (h.closed x t before known g) | inr same ↦ here t (subst (λ y. Knows p y t) (sym same) known) g ];
  }
    where
      f : IsFine p k (IsFreeLeaf k h.root) q
      f = h.fine q (Contains-push rest q)

      are : ArePartsOf p k (IsFreeLeaf k f.tree) (depth f.tree) leaves.parts
      are = leaves.are f.tree f.known f.shape

      part : (x : ℕ) → Contains leaves.parts x → IsFine p k (IsFreeLeaf k h.root) x
      part x i = let g = are.each x i in record { tree = g.tree; known = g.known; shape = g.shape; sound = λ e. f.sound (g.sound e) }

      fine : (x : ℕ) → Contains (rest ++ leaves.parts) x → IsFine p k (IsFreeLeaf k h.root) x
      fine x i = elim (Contains-append_cases rest leaves.parts x i) [ inl before ↦ h.fine x (Contains-append_left rest (q ∷ []) x before) | inr new ↦ part x new ]

      here : (t : Tree) → Knows p q t → IsFreeLeaf k t → HasFree p k left (depth t)
      here t known g =
          let e = one.one_tree q t f.tree known f.known in
          free_among p k leaves.parts left (depth f.tree) (depth t)
          (λ c i. subst (λ (z : List ℕ). Contains z c) (sym leaves.added) (Contains-append_right rest leaves.parts c i))
          (let d = ap depth e in omega arith)
          (are.some (subst (IsFreeLeaf k) e g))

      wider : (n : ℕ) → HasFree p k (rest ++ q ∷ []) n → HasFree p k left n
      wider n g =
          elim (Contains-push_cases rest q g.reference g.here)
          [ inl old ↦ record { reference = g.reference; here = subst (λ (z : List ℕ). Contains z g.reference) (sym leaves.added) (Contains-append_left rest leaves.parts g.reference old); tree = g.tree; known = g.known; free = g.free; less = g.less } | inr same ↦ free_among p k left left (depth g.tree) n (λ c i. i) (let l = g.less in omega arith) (here g.tree (subst (λ y. Knows p y g.tree) (sym same) g.known) g.free) ]

pub search_none : (p : PassView) → IsOneToOne p → (k r : ℕ) (seen left : List ℕ) → left ≡ [] → IsSearch p k r seen left → (t : Tree) → Knows p r t → ¬ IsFreeLeaf k t
search_none p one k r seen left e h t known g =
    let f = h.lasting (subst (IsFreeLeaf k) (one.one_tree r t h.root known h.root_known) g) in
    contains_none f.reference (subst (λ (z : List ℕ). Contains z f.reference) e f.here)

-- the parts of a cell that is no let
module _ (p : PassView) (one : IsOneToOne p) (parts : HasPartsOfTrees p) (k r a b : ℕ) (first : (s t : Tree) → Knows p r (cell s t) → Knows p a s) (second : (s t : Tree) → Knows p r (cell s t) → Knows p b t) where
  pub plain_parts : ¬ (a ≡ 1) → (old new : List ℕ) → IsKnownCell p r → new ≡ (old ++ a ∷ []) ++ b ∷ [] → LeavesParts p k r old new
  plain_parts differs old new c added = record {
    parts = a ∷ b ∷ [];
    added = added ∙ append_assoc old (a ∷ []) (b ∷ []);
    are = are;
  }
    where
      are : (t : Tree) → Knows p r t → HasShape t → ArePartsOf p k (IsFreeLeaf k t) (depth t) (a ∷ b ∷ [])
      are (leaf j) known shape = absurd (impossible (one.one_tree r (leaf j) (cell c.first c.second) known c.stands))
        where
          impossible : leaf j ≡ cell c.first c.second → ⊥
          impossible e = cc
      are (cell s t) known shape =
          let no = head_other p parts a s (first s t known) differs in
          let shapes = from_false (is_let_head s) (HasLetShape t) (HasShape s × HasShape t) no shape in
          record {
            each = λ x i. elim (Contains-push_cases (a ∷ []) b x i) [ inl before ↦ subst (IsFine p k (IsFreeLeaf k (cell s t))) (only a x before) (record { tree = s; known = first s t known; shape = shapes.0; sound = λ g. either_false (is_let_head s) _ _ no (inl g) }) | inr same ↦ subst (IsFine p k (IsFreeLeaf k (cell s t))) same (record { tree = t; known = second s t known; shape = shapes.1; sound = λ g. either_false (is_let_head s) _ _ no (inr g) }) ];
            some = λ g. elim (from_false (is_let_head s) (IsFreeInLet k t) (IsFreeLeaf k s ⊎ IsFreeLeaf k t) no g) [ inl x ↦ record { reference = a; here = Contains-append_left (a ∷ []) (b ∷ []) a (Contains-push [] a); tree = s; known = first s t known; free = x; less = omega arith } | inr x ↦ record { reference = b; here = Contains-push (a ∷ []) b; tree = t; known = second s t known; free = x; less = omega arith } ];
          }

  pub let_rest : a ≡ 1 → IsShaped p r → IsKnownCell p r → IsLetRest p b
  let_rest same h c = go h.tree h.known h.shape
    where
      go : (t : Tree) → Knows p r t → HasShape t → IsLetRest p b
      go (leaf j) known shape = absurd (impossible (one.one_tree r (leaf j) (cell c.first c.second) known c.stands))
        where
          impossible : leaf j ≡ cell c.first c.second → ⊥
          impossible e = cc
      go (cell s t) known shape = record {
        tree = t;
        known = second s t known;
        shape = from_true (is_let_head s) (HasLetShape t) (HasShape s × HasShape t) (head_of_let p one parts a s (first s t known) same) shape;
      }

  pub let_parts : a ≡ 1 → (old new : List ℕ) → IsKnownCell p r → LeavesLet p k b old new → LeavesParts p k r old new
  let_parts same old new c leaves = record { parts = leaves.parts; added = leaves.added; are = are }
    where
      are : (t : Tree) → Knows p r t → HasShape t → ArePartsOf p k (IsFreeLeaf k t) (depth t) leaves.parts
      are (leaf j) known shape = absurd (impossible (one.one_tree r (leaf j) (cell c.first c.second) known c.stands))
        where
          impossible : leaf j ≡ cell c.first c.second → ⊥
          impossible e = cc
      are (cell s t) known shape =
          let yes = head_of_let p one parts a s (first s t known) same in
          let inner = leaves.are t (second s t known) (from_true (is_let_head s) (HasLetShape t) (HasShape s × HasShape t) yes shape) in
          record {
            each = λ x i. let f = inner.each x i in record { tree = f.tree; known = f.known; shape = f.shape; sound = λ g. either_true (is_let_head s) _ _ yes (f.sound g) };
            some = λ g. free_among p k leaves.parts leaves.parts (depth t) (depth (cell s t)) (λ x i. i) (omega arith) (inner.some (from_true (is_let_head s) (IsFreeInLet k t) (IsFreeLeaf k s ⊎ IsFreeLeaf k t) yes g));
          }

-- bindings and a body
module _ (p : PassView) (one : IsOneToOne p) (k rest list body : ℕ) (first : (s t : Tree) → Knows p rest (cell s t) → Knows p list s) (second : (s t : Tree) → Knows p rest (cell s t) → Knows p body t) where
  pub rest_list : IsLetRest p rest → IsBindingList p list
  rest_list h = go h.tree h.known h.shape
    where
      go : (t : Tree) → Knows p rest t → HasLetShape t → IsBindingList p list
      go (leaf j) known shape = absurd shape
      go (cell s t) known shape = record { tree = s; known = first s t known; shape = shape.0 }

  pub hidden_let : (old new : List ℕ) (hidden : Bool) → LeavesValues p k list old new hidden → IsTrue hidden → LeavesLet p k rest old new
  hidden_let old new hidden leaves bound = record { parts = leaves.parts; added = leaves.added; are = are }
    where
      are : (t : Tree) → Knows p rest t → HasLetShape t → ArePartsOf p k (IsFreeInLet k t) (depth t) leaves.parts
      are (leaf j) known shape = absurd shape
      are (cell s t) known shape =
          let inner = leaves.are s (first s t known) shape.0 in
          let binds = (leaves.hides s (first s t known) shape.0).0 bound in
          record {
            each = λ x i. let f = inner.each x i in record { tree = f.tree; known = f.known; shape = f.shape; sound = λ g. inl (f.sound g) };
            some = λ g. free_among p k leaves.parts leaves.parts (depth s) (depth (cell s t)) (λ x i. i) (omega arith) (inner.some (elim g [ inl v ↦ v | inr u ↦ absurd (u.0 binds) ]));
          }

  pub open_let : (old mid new : List ℕ) (hidden : Bool) → LeavesValues p k list old mid hidden → ¬ IsTrue hidden → new ≡ mid ++ body ∷ [] → LeavesLet p k rest old new
  open_let old mid new hidden leaves free added = record {
    parts = leaves.parts ++ body ∷ [];
    added = added ∙ ap (λ u. u ++ body ∷ []) leaves.added ∙ append_assoc old leaves.parts (body ∷ []);
    are = are;
  }
    where
      are : (t : Tree) → Knows p rest t → HasLetShape t → ArePartsOf p k (IsFreeInLet k t) (depth t) (leaves.parts ++ body ∷ [])
      are (leaf j) known shape = absurd shape
      are (cell s t) known shape =
          let inner = leaves.are s (first s t known) shape.0 in
          let unbound : ¬ BindsLeaf k s = λ b. free ((leaves.hides s (first s t known) shape.0).1 b) in
          record {
            each = λ x i. elim (Contains-push_cases leaves.parts body x i) [ inl v ↦ let f = inner.each x v in record { tree = f.tree; known = f.known; shape = f.shape; sound = λ g. inl (f.sound g) } | inr same ↦ subst (IsFine p k (IsFreeInLet k (cell s t))) same (record { tree = t; known = second s t known; shape = shape.1; sound = λ g. inr (unbound, g) }) ];
            some = λ g. elim g [ inl v ↦ free_among p k leaves.parts (leaves.parts ++ body ∷ []) (depth s) (depth (cell s t)) (λ x i. Contains-append_left leaves.parts (body ∷ []) x i) (omega arith) (inner.some v) | inr u ↦ record { reference = body; here = Contains-push leaves.parts body; tree = t; known = second s t known; free = u.1; less = omega arith } ];
          }
