-- Two lists of arguments, read in step up to what they have in common at their ends.
use Rattle.std.proofs.Common.{◌≡◌, ◌≢◌, ◌<◌, ◌≤◌, ◌+◌, ◌^◌, ℕ, suc, List, [], ◌∷◌, ◌++◌, length, refl, sym, ap, ◌∙◌, subst, arith, length-append}
use Rattle.pair_pool.specs.Trees.{Tree, leaf, cell, depth}
use Rattle.pair_pool.specs.Views.{Knows, IsOneToOne, HasPartsOfTrees, HasListsInOrder}
use Rattle.schema_match.specs.ArgumentCells.{IsListOf}
use Rattle.schema_match.proofs.ArgumentCells.{first_refers, others_are, read_none}
use Rattle.sym_table.specs.Table.{Table, IsTable}
use Rattle.term_model.specs.Terms.{Term, numeral, variable, operation, call, let_in, term, no_terms, terms_of}
use Rattle.term_model.proofs.Zips.{zip_length, zip_push}
use Rattle.term_pool.specs.Reading.{arguments_of, IsLet}
use Rattle.term_pool.specs.StandsFor.{StandsFor, StandsForList}
use Rattle.term_pool.specs.Trees.{IsCellTree}
use Rattle.term_pool.specs.Views.{TermsView, RefersTo, ReferToAll, IsKnownCell}
use Rattle.term_pool.proofs.Depth.{is_cell, depth-bound}
use Rattle.term_pool.proofs.OneTerm.{one_term}
use Rattle.rules_congruence.specs.Applications.{AreCut, AreLists}
use Rattle.rules_congruence.specs.declared.uses.Uses.{Uses}

-- so many items of both lists are read, and these are left
pub record AreReadTo (s : Table) (v : TermsView) (ps qs : List ℕ) (first second : ℕ) (ts us : List Term) : Type 0 where
  pub prefix : List Term
  pub others : List Term
  pub rests : List Term
  pub ends : List Term
  pub left_is : ts ≡ prefix ++ rests
  pub right_is : us ≡ others ++ ends
  pub left : ReferToAll s v ps prefix
  pub right : ReferToAll s v qs others
  pub rest : IsListOf s v first rests
  pub end : IsListOf s v second ends

one_more : (xs : List Term) (x : Term) (ys : List Term) → xs ++ x ∷ ys ≡ (xs ++ x ∷ []) ++ ys
one_more [] x ys = refl
one_more (w ∷ xs) x ys = ap (λ l. w ∷ l) (one_more xs x ys)

-- a tree stands for one list
one_list : (s : Table) → IsTable s → (a : Tree) (ts us : List Term) → StandsForList s a (terms_of ts) → StandsForList s a (terms_of us) → ts ≡ us
one_list s h (leaf k) [] [] p q = refl
one_list s h (leaf k) [] (u ∷ us) p q = absurd q
one_list s h (leaf k) (t ∷ ts) us p q = absurd p
one_list s h (cell a b) [] us p q = absurd (cc)
one_list s h (cell a b) (t ∷ ts) [] p q = absurd (cc)
one_list s h (cell a b) (t ∷ ts) (u ∷ us) p q =
    let first = one_term s h a t u p.0 q.0 in let rest = one_list s h b ts us p.1 q.1 in rw (first, rest) refl

-- a list is no longer than its tree is deep
list_long : (s : Table) (a : Tree) (ts : List Term) → StandsForList s a (terms_of ts) → length ts ≤ depth a
list_long s (leaf k) [] p = omega arith
list_long s (leaf k) (t ∷ ts) p = absurd p
list_long s (cell a b) [] p = omega arith
list_long s (cell a b) (t ∷ ts) p = let ih = list_long s b ts p.1 in omega arith

some_arguments : (s : Table) (a : Tree) (t : Term) → IsCellTree a → StandsFor s a t → (IsLet t → ⊥) → 1 ≤ length (arguments_of t)
some_arguments s (leaf k) t is stands fails = absurd is
some_arguments s (cell a b) (numeral n) is stands fails = absurd stands
some_arguments s (cell a b) (variable x) is stands fails = absurd stands
some_arguments s (cell a b) (operation op no_terms) is stands fails = absurd stands
some_arguments s (cell a b) (operation op (term t ts)) is stands fails = omega arith
some_arguments s (cell a b) (call f no_terms) is stands fails = absurd stands
some_arguments s (cell a b) (call f (term t ts)) is stands fails = omega arith
some_arguments s (cell a b) (let_in bs u) is stands fails = absurd (fails tt)

no_arguments : (s : Table) (k : ℕ) (t : Term) → StandsFor s (leaf k) t → (IsLet t → ⊥) → arguments_of t ≡ []
no_arguments s k (numeral n) stands fails = refl
no_arguments s k (variable x) stands fails = refl
no_arguments s k (operation op no_terms) stands fails = refl
no_arguments s k (operation op (term t ts)) stands fails = absurd stands
no_arguments s k (call f no_terms) stands fails = refl
no_arguments s k (call f (term t ts)) stands fails = absurd stands
no_arguments s k (let_in bs u) stands fails = absurd (fails tt)

none_empty : {X : Type 0} (xs : List X) → 1 ≤ length xs → xs ≢ []
none_empty [] some e = omega (arith, some)
none_empty (x ∷ xs) some e = absurd (cc)

pub some_longer : {X Y : Type 0} (xs : List X) (ys : List Y) → xs ≢ [] → ys ≡ [] → length xs ≢ length ys
some_longer [] ys some empty e = some refl
some_longer (x ∷ xs) ys some empty e = let none : length ys ≡ 0 = ap length empty in omega (arith, e, none)

module _ (s : Table) (v : TermsView) where
  -- the arguments of an application, by whether it is a cell
  pub cell_list : HasPartsOfTrees v.pass → (r list : ℕ) (t : Term) → 2 ^ 30 ≤ r → ((a b : Tree) → Knows v.pass r (cell a b) → Knows v.pass list b) → RefersTo s v r t → (IsLet t → ⊥) → IsListOf s v list (arguments_of t)
  cell_list parts r list t high second refers fails =
      let known = is_cell v.pass parts r refers.tree refers.known high in
      (read_none s v r list (length (arguments_of t)) [] t (cell_arguments parts r t high refers fails) refl second refers refl).left
    where
      cell_arguments : HasPartsOfTrees v.pass → (r : ℕ) (t : Term) → 2 ^ 30 ≤ r → RefersTo s v r t → (IsLet t → ⊥) → 1 ≤ length (arguments_of t)
      cell_arguments parts r t high refers fails = go refers.tree refers.known refers.stands
        where
          go : (a : Tree) → Knows v.pass r a → StandsFor s a t → 1 ≤ length (arguments_of t)
          go (leaf k) known stands = let e = parts.leaf_number r k known in absurd (omega (arith, e.0, e.1, high))
          go (cell a b) known stands = some_arguments s (cell a b) t tt stands fails

  pub cell_some : HasPartsOfTrees v.pass → (r : ℕ) (t : Term) → 2 ^ 30 ≤ r → RefersTo s v r t → (IsLet t → ⊥) → arguments_of t ≢ []
  cell_some parts r t high refers fails = go refers.tree refers.known refers.stands
    where
      go : (a : Tree) → Knows v.pass r a → StandsFor s a t → arguments_of t ≢ []
      go (leaf k) known stands = let e = parts.leaf_number r k known in absurd (omega (arith, e.0, e.1, high))
      go (cell a b) known stands = none_empty (arguments_of t) (some_arguments s (cell a b) t tt stands fails)

  pub leaf_none : IsOneToOne v.pass → (r : ℕ) (t : Term) → r < 2 ^ 30 → RefersTo s v r t → (IsLet t → ⊥) → arguments_of t ≡ []
  leaf_none one r t low refers fails = go refers.tree refers.known refers.stands
    where
      go : (a : Tree) → Knows v.pass r a → StandsFor s a t → arguments_of t ≡ []
      go (leaf k) known stands = no_arguments s k t stands fails
      go (cell a b) known stands = let high = one.high r a b known in absurd (omega (arith, low, high))

  -- a list has ended where its reference is a leaf
  none_left : IsOneToOne v.pass → (r : ℕ) (ts : List Term) → r < 2 ^ 30 → IsListOf s v r ts → ts ≡ []
  none_left one r [] low h = refl
  none_left one r (t ∷ ts) low h = absurd (go h.tree h.known h.stands)
    where
      go : (a : Tree) → Knows v.pass r a → StandsForList s a (term t (terms_of ts)) → ⊥
      go (leaf k) known stands = stands
      go (cell a b) known stands = let high = one.high r a b known in omega (arith, low, high)

  some_left : HasPartsOfTrees v.pass → (r : ℕ) (ts : List Term) → 2 ^ 30 ≤ r → IsListOf s v r ts → (t : Term) × (us : List Term) × (ts ≡ t ∷ us)
  some_left parts r (t ∷ ts) high h = (t, ts, refl)
  some_left parts r [] high h = absurd (go h.tree h.known h.stands)
    where
      go : (a : Tree) → Knows v.pass r a → StandsForList s a no_terms → ⊥
      go (leaf k) known stands = let e = parts.leaf_number r k known in omega (arith, e.0, e.1, high)
      go (cell a b) known stands = cc

  pub none_read : (ps qs : List ℕ) (first second : ℕ) (ts us : List Term) → ps ≡ [] → qs ≡ [] → IsListOf s v first ts → IsListOf s v second us → AreReadTo s v ps qs first second ts us
  none_read ps qs first second ts us none empty left right = record {
    prefix = [];
    others = [];
    rests = ts;
    ends = us;
    left_is = refl;
    right_is = refl;
    left = subst (λ rs. ReferToAll s v rs []) (sym none) tt;
    right = subst (λ rs. ReferToAll s v rs []) (sym empty) tt;
    rest = left;
    end = right;
  }

  -- the first item of a list, and the rest of it
  pub record IsFirstOf (list item rest : ℕ) : Type 0 where
    pub high : 2 ^ 30 ≤ list
    pub item_is : (a b : Tree) → Knows v.pass list (cell a b) → Knows v.pass item a
    pub rest_is : (a b : Tree) → Knows v.pass list (cell a b) → Knows v.pass rest b

  pub read_more : HasPartsOfTrees v.pass → (ps qs ms ns : List ℕ) (first second one other rest end : ℕ) (ts us : List Term) → ms ≡ ps ++ one ∷ [] → ns ≡ qs ++ other ∷ [] → IsFirstOf first one rest → IsFirstOf second other end → AreReadTo s v ps qs first second ts us → AreReadTo s v ms ns rest end ts us
  read_more parts ps qs ms ns first second one other rest end ts us more again left right h =
      let t = some_left parts first h.rests left.high h.rest in
      let u = some_left parts second h.ends right.high h.end in
      let list = subst (IsListOf s v first) t.2 h.rest in
      let side = subst (IsListOf s v second) u.2 h.end in
      record {
        prefix = h.prefix ++ t.0 ∷ [];
        others = h.others ++ u.0 ∷ [];
        rests = t.1;
        ends = u.1;
        left_is = h.left_is ∙ (ap (λ xs. h.prefix ++ xs) t.2 ∙ one_more h.prefix t.0 t.1);
        right_is = h.right_is ∙ (ap (λ xs. h.others ++ xs) u.2 ∙ one_more h.others u.0 u.1);
        left = subst (λ rs. ReferToAll s v rs (h.prefix ++ t.0 ∷ [])) (sym more) (zip_push (RefersTo s v) ps h.prefix one t.0 h.left (first_refers s v first one t.0 t.1 list left.item_is));
        right = subst (λ rs. ReferToAll s v rs (h.others ++ u.0 ∷ [])) (sym again) (zip_push (RefersTo s v) qs h.others other u.0 h.right (first_refers s v second other u.0 u.1 side right.item_is));
        rest = others_are s v first rest t.0 t.1 list left.rest_is;
        end = others_are s v second end u.0 u.1 side right.rest_is;
      }

  module _ (uses : Uses) (ps qs : List ℕ) (first second : ℕ) (ts us : List Term) (long : length ps ≡ length qs) (h : AreReadTo s v ps qs first second ts us) where
    lengths : length h.prefix ≡ length h.others
    lengths = sym (zip_length (RefersTo s v) ps h.prefix h.left) ∙ (long ∙ zip_length (RefersTo s v) qs h.others h.right)

    left_length : length ts ≡ length h.prefix + length h.rests
    left_length = ap length h.left_is ∙ length-append h.prefix h.rests

    right_length : length us ≡ length h.others + length h.ends
    right_length = ap length h.right_is ∙ length-append h.others h.ends

    -- both lists have ended
    pub both_ended : IsOneToOne v.pass → first < 2 ^ 30 → second < 2 ^ 30 → AreCut s v uses ps qs ts us
    both_ended one low under =
        let left = none_left one first h.rests low h.rest in
        let right = none_left one second h.ends under h.end in
        record {
          prefix = h.prefix;
          others = h.others;
          tail = [];
          left_is = h.left_is ∙ ap (λ xs. h.prefix ++ xs) left;
          right_is = h.right_is ∙ ap (λ xs. h.others ++ xs) right;
          left = h.left;
          right = h.right;
          long = long;
          cut = λ some. absurd (some refl);
        }

    -- what is left of both is one list
    pub one_rest : IsTable s → IsOneToOne v.pass → first ≡ second → (uses ≢ Uses.Each) × (2 < length ps) → AreCut s v uses ps qs ts us
    one_rest table one same may =
        let end : IsListOf s v first h.ends = subst (λ r. IsListOf s v r h.ends) (sym same) h.end in
        let tree = one.one_tree first end.tree h.rest.tree end.known h.rest.known in
        let list = one_list s table h.rest.tree h.ends h.rests (subst (λ a. StandsForList s a (terms_of h.ends)) tree end.stands) h.rest.stands in
        record {
          prefix = h.prefix;
          others = h.others;
          tail = h.rests;
          left_is = h.left_is;
          right_is = h.right_is ∙ ap (λ xs. h.others ++ xs) list;
          left = h.left;
          right = h.right;
          long = long;
          cut = λ some. may;
        }

    -- one list has ended before the other
    pub left_longer : IsOneToOne v.pass → HasPartsOfTrees v.pass → 2 ^ 30 ≤ first → second < 2 ^ 30 → length ts ≢ length us
    left_longer one parts high low e =
        let some = some_left parts first h.rests high h.rest in
        let more : length h.rests ≡ suc (length some.1) = ap length some.2 in
        let none : length h.ends ≡ 0 = ap length (none_left one second h.ends low h.end) in
        omega (arith, lengths, left_length, right_length, e, more, none)

    pub right_longer : IsOneToOne v.pass → HasPartsOfTrees v.pass → first < 2 ^ 30 → 2 ^ 30 ≤ second → length ts ≢ length us
    right_longer one parts low high e =
        let some = some_left parts second h.ends high h.end in
        let more : length h.ends ≡ suc (length some.1) = ap length some.2 in
        let none : length h.rests ≡ 0 = ap length (none_left one first h.rests low h.rest) in
        omega (arith, lengths, left_length, right_length, e, more, none)

-- of two lists of which something is left, the rests are cells, and fewer items were read than there are references
pub record AreGoing (v : TermsView) (ps : List ℕ) (first second : ℕ) : Type 0 where
  pub left : IsKnownCell v.pass first
  pub right : IsKnownCell v.pass second
  pub few : length ps < 2 ^ 31

pub are_going : (v : TermsView) → IsOneToOne v.pass → HasPartsOfTrees v.pass → HasListsInOrder v.pass → (p q : ℕ) (is : AreLists v p q) (ps qs : List ℕ) (first second : ℕ) → 2 ^ 30 ≤ first → 2 ^ 30 ≤ second → AreReadTo is.symbols v ps qs first second is.ts is.us → AreGoing v ps first second
are_going v one parts order p q is ps qs first second high above h =
    let some = some_left is.symbols v parts first h.rests high h.rest in
    let more : length h.rests ≡ suc (length some.1) = ap length some.2 in
    let long = list_long is.symbols is.left.tree is.ts is.left.stands in
    let deep = depth-bound v.pass one parts p is.left.tree is.left.known in
    let size = order.size in
    let all = ap length h.left_is ∙ length-append h.prefix h.rests in
    let read = zip_length (RefersTo is.symbols v) ps h.prefix h.left in
    record {
      left = is_cell v.pass parts first h.rest.tree h.rest.known high;
      right = is_cell v.pass parts second h.end.tree h.end.known above;
      few = omega (arith, more, long, deep, size, all, read);
    }

pub both_longer : (ps qs ms ns : List ℕ) (one other : ℕ) → ms ≡ ps ++ one ∷ [] → ns ≡ qs ++ other ∷ [] → length ps ≡ length qs → length ms ≡ length ns
both_longer ps qs ms ns one other more again long =
    let left = ap length more ∙ length-append ps (one ∷ []) in
    let right = ap length again ∙ length-append qs (other ∷ []) in
    omega (arith, left, right, long)

pub are_lists : (s : Table) (v : TermsView) (p q : ℕ) (ts us : List Term) → IsListOf s v p ts → IsListOf s v q us → AreLists v p q
are_lists s v p q ts us left right = record { symbols = s; ts = ts; us = us; left = left; right = right }
