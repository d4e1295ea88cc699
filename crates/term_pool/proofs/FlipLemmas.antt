-- Cited by crates above. Terms that are equal up to flips, and their trees.
use Rattle.std.proofs.Common.{◌≡◌, ◌≢◌, ◌↔◌, ℕ, ◌⊎◌, inl, inr, refl, sym, ◌∙◌, ap, subst, Bool, true, false, ◌&&◌, ◌||◌, if◌then◌else◌, nat_eq, IsTrue}
use Rattle.std.proofs.lemmas.Bool.{or_right}
use Rattle.pair_pool.specs.Trees.{Tree, leaf, cell}
use Rattle.pair_pool.specs.Views.{Knows}
use Rattle.sym_table.specs.Leaf.{Leaf, operator, let_head}
use Rattle.sym_table.specs.Table.{Table, IsLeaf, IsTable}
use Rattle.sym_table.proofs.Tables.{one_symbol}
use Rattle.term_model.specs.declared.symbols.Op.{Op}
use Rattle.term_model.specs.Terms.{Fun, Term, Terms, numeral, variable, operation, call, let_in, no_terms, term}
use Rattle.term_pool.specs.StandsFor.{nil_tree, function_leaf, StandsFor, StandsForApplication, StandsForList}
use Rattle.term_pool.specs.Heights.{is_let_head}
use Rattle.term_pool.specs.Views.{TermsView, RefersTo}
use Rattle.term_model.specs.Flips.{equality, EqualUpToFlips, same, operations, calls, flipped, AllEqualUpToFlips, none, each}
use Rattle.term_pool.specs.Pairs.{same_tree, same_terms, same_lists, crossed}
use Rattle.term_pool.proofs.OneTree.{one_tree}
use Rattle.term_pool.proofs.OneTerm.{one_term}
use Rattle.term_pool.proofs.HeightLemmas.{other_head}
use Rattle.term_pool.proofs.PairLemmas.{tree_refl, tree_same, terms_refl}

-- a term that the tree stands for, and that is equal to t up to flips
record IsFound (s : Table) (b : Tree) (t : Term) : Type 0 where
  other : Term
  stands : StandsFor s b other
  flips : EqualUpToFlips t other

-- a list of at least one such term
record AreFound (s : Table) (b : Tree) (ts : Terms) : Type 0 where
  others : Terms
  stand : StandsForList s b others
  flips : AllEqualUpToFlips ts others

-- two terms, and two that are equal to them crosswise
record AreCrossed (s : Table) (b : Tree) (ts : Terms) : Type 0 where
  one : Term
  two : Term
  three : Term
  four : Term
  whole : ts ≡ term one (term two no_terms)
  stand : StandsForList s b (term three (term four no_terms))
  outer : EqualUpToFlips one four
  inner : EqualUpToFlips two three

found_same : (s : Table) (a b : Tree) (t : Term) → StandsFor s a t → same_tree a b ≡ true → IsFound s b t
found_same s a b t p e = let f = tree_same a b e in record { other = t; stands = rw f at p; flips = same t }

-- what holds of two applications whose trees are equal up to flips
Applied : Table → ℕ → ℕ → Tree → Tree → Terms → Type 0
Applied s equal k other others ts =
    (leaf k ≡ other) × (AreFound s others ts ⊎ ((k ≡ equal) × AreCrossed s others ts))

applied : (s : Table) → IsTable s → (equal k : ℕ) (l : Leaf) (list other others : Tree) (ts : Terms) → IsLeaf s k l → l ≢ let_head → (same_lists equal list others ≡ true → AreFound s others ts) → (crossed equal list others ≡ true → AreCrossed s others ts) → same_terms equal (cell (leaf k) list) (cell other others) ≡ true → Applied s equal k other others ts
unfolding Applied
applied s table equal k l list other others ts p apart lists cross e =
    go _ refl _ refl _ refl (other_head s k l (table.begins 1 let_head refl) p apart) e
  where
    go : (b : Bool) → same_tree (leaf k) other ≡ b → (c : Bool) → same_lists equal list others ≡ c → (d : Bool) → same_tree (leaf k) (leaf equal) ≡ d → nat_eq k 1 ≡ false → (same_tree (leaf k) other && (if nat_eq k 1 then same_tree list others else (same_lists equal list others || (same_tree (leaf k) (leaf equal) && crossed equal list others)))) ≡ true → (leaf k ≡ other) × (AreFound s others ts ⊎ ((k ≡ equal) × AreCrossed s others ts))
    go false f c g d h i j = absurd (let x = rw f at j in cc)
    go true f true g d h i j = (tree_same (leaf k) other f, inl (lists g))
    go true f false g false h i j = absurd (let x = rw (f, i, g, h) at j in cc)
    go true f false g true h i j =
        let here : k ≡ equal = let x = tree_same (leaf k) (leaf equal) h in cc in
        (tree_same (leaf k) other f, inr (here, cross (rw (f, i, g, h) at j)))

found_operation : (s : Table) → IsTable s → (equal k : ℕ) → IsLeaf s equal (operator Op.Equal) → (op : Op) (t : Term) (ts : Terms) (other others : Tree) → IsLeaf s k (operator op) → Applied s equal k other others (term t ts) → IsFound s (cell other others) (operation op (term t ts))
unfolding Applied
found_operation s table equal k h op t ts other others p (e, inl found) = go found.others found.stand found.flips
  where
    go : (us : Terms) → StandsForList s others us → AllEqualUpToFlips (term t ts) us → IsFound s (cell other others) (operation op (term t ts))
    go _ stand (each t u ts us f g) =
        record { other = operation op (term u us); stands = (rw (← e) p, stand); flips = operations op _ _ (each t u ts us f g) }
found_operation s table equal k h op t ts other others p (e, inr (here, cross)) =
    let symbol : operator op ≡ operator Op.Equal = one_symbol s equal _ _ (rw here at p) h in
    let is : op ≡ Op.Equal = cc in
    record {
      other = equality cross.three cross.four;
      stands = (rw (← e, here) h, cross.stand);
      flips = rw (is, cross.whole) (flipped cross.one cross.two cross.three cross.four cross.outer cross.inner);
    }

found_call : (s : Table) → IsTable s → (equal k : ℕ) → IsLeaf s equal (operator Op.Equal) → (f : Fun) (t : Term) (ts : Terms) (other others : Tree) → IsLeaf s k (function_leaf f) → Applied s equal k other others (term t ts) → IsFound s (cell other others) (call f (term t ts))
unfolding Applied
found_call s table equal k h f t ts other others p (e, inl found) = go found.others found.stand found.flips
  where
    go : (us : Terms) → StandsForList s others us → AllEqualUpToFlips (term t ts) us → IsFound s (cell other others) (call f (term t ts))
    go _ stand (each t u ts us g i) =
        record { other = call f (term u us); stands = (rw (← e) p, stand); flips = calls f _ _ (each t u ts us g i) }
found_call s table equal k h f t ts other others p (e, inr (here, cross)) =
    let symbol : function_leaf f ≡ operator Op.Equal = one_symbol s equal _ _ (rw here at p) h in absurd (cc)

mutual
  terms_found : (s : Table) → IsTable s → (equal : ℕ) → IsLeaf s equal (operator Op.Equal) → (t : Term) (a b : Tree) → StandsFor s a t → same_terms equal a b ≡ true → IsFound s b t
  terms_found s table equal h (numeral n) (leaf j) b p e = found_same s (leaf j) b (numeral n) p e
  terms_found s table equal h (numeral n) (cell c d) b p e = absurd p
  terms_found s table equal h (variable x) (leaf j) b p e = found_same s (leaf j) b (variable x) p e
  terms_found s table equal h (variable x) (cell c d) b p e = absurd p
  terms_found s table equal h (operation op no_terms) (leaf j) b p e =
      found_same s (leaf j) b (operation op no_terms) p e
  terms_found s table equal h (operation op no_terms) (cell c d) b p e = absurd p
  terms_found s table equal h (operation op (term t ts)) (leaf j) b p e = absurd p
  terms_found s table equal h (operation op (term t ts)) (cell (cell c d) list) b p e = absurd p.0
  terms_found s table equal h (operation op (term t ts)) (cell (leaf k) list) (leaf j) p e = absurd (cc)
  terms_found s table equal h (operation op (term t ts)) (cell (leaf k) list) (cell other others) p e =
      found_operation s table equal k h op t ts other others p.0
      (applied s table equal k (operator op) list other others (term t ts) p.0
      (λ f. cc) (lists_found s table equal h (term t ts) list others p.1)
      (crossed_found s table equal h (term t ts) list others p.1) e)
  terms_found s table equal h (call f no_terms) (leaf j) b p e = found_same s (leaf j) b (call f no_terms) p e
  terms_found s table equal h (call f no_terms) (cell c d) b p e = absurd p
  terms_found s table equal h (call f (term t ts)) (leaf j) b p e = absurd p
  terms_found s table equal h (call f (term t ts)) (cell (cell c d) list) b p e = absurd p.0
  terms_found s table equal h (call f (term t ts)) (cell (leaf k) list) (leaf j) p e = absurd (cc)
  terms_found s table equal h (call f (term t ts)) (cell (leaf k) list) (cell other others) p e =
      found_call s table equal k h f t ts other others p.0
      (applied s table equal k (function_leaf f) list other others (term t ts) p.0
      (λ g. cc) (lists_found s table equal h (term t ts) list others p.1)
      (crossed_found s table equal h (term t ts) list others p.1) e)
  terms_found s table equal h (let_in bs u) (leaf j) b p e = absurd p
  terms_found s table equal h (let_in bs u) (cell a rest) (leaf j) p e = absurd (cc)
  terms_found s table equal h (let_in bs u) (cell a rest) (cell c others) p e =
      found_same s (cell a rest) (cell c others) (let_in bs u) p (lets (is_let_head a) (ap is_let_head p.0) e)
    where
      lets : (x : Bool) → x ≡ true → (same_tree a c && (if x then same_tree rest others else (same_lists equal rest others || (same_tree a (leaf equal) && crossed equal rest others)))) ≡ true → same_tree (cell a rest) (cell c others) ≡ true
      lets true f g = g
      lets false f g = absurd (cc)

  lists_found : (s : Table) → IsTable s → (equal : ℕ) → IsLeaf s equal (operator Op.Equal) → (ts : Terms) (a b : Tree) → StandsForList s a ts → same_lists equal a b ≡ true → AreFound s b ts
  lists_found s table equal h no_terms a b p e = nil a b p e
    where
      nil : (a b : Tree) → a ≡ nil_tree → same_lists equal a b ≡ true → AreFound s b no_terms
      nil (leaf j) b p e = record { others = no_terms; stand = sym (tree_same (leaf j) b e) ∙ p; flips = none }
      nil (cell c d) b p e = absurd (cc)
  lists_found s table equal h (term t ts) (leaf j) b p e = absurd p
  lists_found s table equal h (term t ts) (cell first rest) (leaf j) p e = absurd (cc)
  lists_found s table equal h (term t ts) (cell first rest) (cell other others) p e =
      joined (same_terms equal first other) refl e
      (terms_found s table equal h t first other p.0) (lists_found s table equal h ts rest others p.1)
    where
      joined : (x : Bool) → same_terms equal first other ≡ x → (x && same_lists equal rest others) ≡ true → (same_terms equal first other ≡ true → IsFound s other t) → (same_lists equal rest others ≡ true → AreFound s others ts) → AreFound s (cell other others) (term t ts)
      joined true f g one more =
          let x = one f in
          let y = more g in
          record {
            others = term x.other y.others;
            stand = (x.stands, y.stand);
            flips = each t x.other ts y.others x.flips y.flips;
          }
      joined false f g one more = absurd (cc)

  crossed_found : (s : Table) → IsTable s → (equal : ℕ) → IsLeaf s equal (operator Op.Equal) → (ts : Terms) (a b : Tree) → StandsForList s a ts → crossed equal a b ≡ true → AreCrossed s b ts
  crossed_found s table equal h no_terms (leaf j) b p e = absurd (cc)
  crossed_found s table equal h no_terms (cell c d) b p e = absurd (cc)
  crossed_found s table equal h (term t ts) (leaf j) b p e = absurd p
  crossed_found s table equal h (term t ts) (cell c (leaf j)) b p e = absurd (cc)
  crossed_found s table equal h (term t no_terms) (cell c (cell d end)) b p e = absurd (let f = p.1 in cc)
  crossed_found s table equal h (term t (term u ts)) (cell c (cell d end)) (leaf j) p e = absurd (cc)
  crossed_found s table equal h (term t (term u ts)) (cell c (cell d end)) (cell f (leaf j)) p e = absurd (cc)
  crossed_found s table equal h (term t (term u ts)) (cell c (cell d end)) (cell f (cell g rest)) p e =
      joined ts p.1.1 _ refl _ refl _ refl e
      (terms_found s table equal h t c g p.0) (terms_found s table equal h u d f p.1.0)
    where
      joined : (vs : Terms) → StandsForList s end vs → (x : Bool) → same_tree end nil_tree ≡ x → (y : Bool) → same_tree rest nil_tree ≡ y → (z : Bool) → same_terms equal c g ≡ z → ((x && y) && (z && same_terms equal d f)) ≡ true → (same_terms equal c g ≡ true → IsFound s g t) → (same_terms equal d f ≡ true → IsFound s f u) → AreCrossed s (cell f (cell g rest)) (term t (term u vs))
      joined (term v vs) q x i y j z k e outer inner = absurd (over x i q e)
        where
          over : (x : Bool) → same_tree end nil_tree ≡ x → StandsForList s end (term v vs) → ((x && y) && (z && same_terms equal d f)) ≡ true → ⊥
          over true i q e = let nil = tree_same end nil_tree i in (rw nil at q)
          over false i q e = cc
      joined no_terms q true i true j true k e outer inner =
          let x = outer k in
          let y = inner e in
          record {
            one = t;
            two = u;
            three = y.other;
            four = x.other;
            whole = refl;
            stand = (y.stands, (x.stands, tree_same rest nil_tree j));
            outer = x.flips;
            inner = y.flips;
          }
      joined no_terms q false i y j z k e outer inner = absurd (cc)
      joined no_terms q true i false j z k e outer inner = absurd (cc)
      joined no_terms q true i true j false k e outer inner = absurd (cc)

-- the trees of terms that are equal up to flips
leaf_alone : (s : Table) → IsTable s → (l : Leaf) (j k : ℕ) → IsLeaf s j l → IsLeaf s k l → same_tree (leaf j) (leaf k) ≡ true
leaf_alone s table l j k p q =
    let e : j ≡ k = table.apart j k l l p q refl refl in rw e (tree_refl (leaf k))

applications_same : (s : Table) → IsTable s → (equal : ℕ) → (l : Leaf) → l ≢ let_head → (ts us : Terms) → AllEqualUpToFlips ts us → ((a b : Tree) → StandsForList s a ts → StandsForList s b us → same_lists equal a b ≡ true) → (a b : Tree) → StandsForApplication s a l ts → StandsForApplication s b l us → same_terms equal a b ≡ true
applications_same s table equal l apart _ _ none lists (leaf j) (leaf k) p q = leaf_alone s table l j k p q
applications_same s table equal l apart _ _ none lists (leaf j) (cell c d) p q = absurd q
applications_same s table equal l apart _ _ none lists (cell a b) c p q = absurd p
applications_same s table equal l apart _ _ (each t u ts us f g) lists (leaf j) b p q = absurd p
applications_same s table equal l apart _ _ (each t u ts us f g) lists (cell (cell x y) list) b p q = absurd p.0
applications_same s table equal l apart _ _ (each t u ts us f g) lists (cell (leaf j) list) (leaf k) p q = absurd q
applications_same s table equal l apart _ _ (each t u ts us f g) lists (cell (leaf j) list) (cell (cell x y) others) p q = absurd q.0
applications_same s table equal l apart _ _ (each t u ts us f g) lists (cell (leaf j) list) (cell (leaf k) others) p q =
    let same = lists list others p.1 q.1 in
    let heads = leaf_alone s table l j k p.0 q.0 in
    let no_let = other_head s j l (table.begins 1 let_head refl) p.0 apart in
    rw (heads, no_let, same) refl

mutual
  terms_same : (s : Table) → IsTable s → (equal : ℕ) → IsLeaf s equal (operator Op.Equal) → (t u : Term) → EqualUpToFlips t u → (a b : Tree) → StandsFor s a t → StandsFor s b u → same_terms equal a b ≡ true
  terms_same s table equal h _ _ (same t) a b p q =
      let e = one_tree s table t a b p q in rw e (terms_refl equal b)
  terms_same s table equal h _ _ (operations op ts us f) a b p q =
      applications_same s table equal (operator op) (λ e. cc) ts us f (lists_same s table equal h ts us f) a b p q
  terms_same s table equal h _ _ (calls g ts us f) a b p q =
      applications_same s table equal (function_leaf g) (λ e. cc) ts us f (lists_same s table equal h ts us f) a b p q
  terms_same s table equal h _ _ (flipped t u v w f g) (leaf j) b p q = absurd p
  terms_same s table equal h _ _ (flipped t u v w f g) (cell (cell x y) list) b p q = absurd p.0
  terms_same s table equal h _ _ (flipped t u v w f g) (cell (leaf j) (leaf k)) b p q = absurd p.1
  terms_same s table equal h _ _ (flipped t u v w f g) (cell (leaf j) (cell a (leaf k))) b p q = absurd p.1.1
  terms_same s table equal h _ _ (flipped t u v w f g) (cell (leaf j) (cell a (cell b end))) (leaf k) p q = absurd q
  terms_same s table equal h _ _ (flipped t u v w f g) (cell (leaf j) (cell a (cell b end))) (cell (cell x y) list) p q = absurd q.0
  terms_same s table equal h _ _ (flipped t u v w f g) (cell (leaf j) (cell a (cell b end))) (cell (leaf k) (leaf m)) p q = absurd q.1
  terms_same s table equal h _ _ (flipped t u v w f g) (cell (leaf j) (cell a (cell b end))) (cell (leaf k) (cell c (leaf m))) p q = absurd q.1.1
  terms_same s table equal h _ _ (flipped t u v w f g) (cell (leaf j) (cell a (cell b end))) (cell (leaf k) (cell c (cell d rest))) p q =
      let outer = terms_same s table equal h t w f a d p.1.0 q.1.1.0 in
      let inner = terms_same s table equal h u v g b c p.1.1.0 q.1.0 in
      let heads = leaf_alone s table (operator Op.Equal) j k p.0 q.0 in
      let equals = leaf_alone s table (operator Op.Equal) j equal p.0 h in
      let no_let = other_head s j (operator Op.Equal) (table.begins 1 let_head refl) p.0 (λ e. cc) in
      let nil : same_tree end nil_tree ≡ true = rw p.1.1.1 refl in
      let nil2 : same_tree rest nil_tree ≡ true = rw q.1.1.1 refl in
      rw (heads, no_let, equals, nil, nil2, outer, inner)
      (or_right (same_lists equal (cell a (cell b end)) (cell c (cell d rest))) true refl)

  lists_same : (s : Table) → IsTable s → (equal : ℕ) → IsLeaf s equal (operator Op.Equal) → (ts us : Terms) → AllEqualUpToFlips ts us → (a b : Tree) → StandsForList s a ts → StandsForList s b us → same_lists equal a b ≡ true
  lists_same s table equal h _ _ none a b p q = rw (p, q) refl
  lists_same s table equal h _ _ (each t u ts us f g) (leaf j) b p q = absurd p
  lists_same s table equal h _ _ (each t u ts us f g) (cell first rest) (leaf k) p q = absurd q
  lists_same s table equal h _ _ (each t u ts us f g) (cell first rest) (cell other others) p q =
      let x = terms_same s table equal h t u f first other p.0 q.0 in
      let y = lists_same s table equal h ts us g rest others p.1 q.1 in
      rw (x, y) refl

-- what the trees answer is whether the terms are equal up to flips
pub flips_are : (s : Table) (v : TermsView) (equal r q : ℕ) (b : Bool) → IsTable s → IsLeaf s equal (operator Op.Equal) → ((a c : Tree) → Knows v.pass r a → Knows v.pass q c → b ≡ same_terms equal a c) → (t u : Term) → RefersTo s v r t → RefersTo s v q u → IsTrue b ↔ EqualUpToFlips t u
flips_are s v equal r q b table h answer t u one other =
    (λ e. forth (sym is ∙ e), λ flips. is ∙ terms_same s table equal h t u flips one.tree other.tree one.stands other.stands)
  where
    is : b ≡ same_terms equal one.tree other.tree
    is = answer one.tree other.tree one.known other.known

    forth : same_terms equal one.tree other.tree ≡ true → EqualUpToFlips t u
    forth e =
        let found = terms_found s table equal h t one.tree other.tree one.stands e in
        let same = one_term s table other.tree found.other u found.stands other.stands in
        subst (λ (x : Term). EqualUpToFlips t x) same found.flips
