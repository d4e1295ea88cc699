-- Cited by crates above. What a replacement puts in for leaves, and the term that comes of it.
use Rattle.std.proofs.Common.{◌≡◌, ◌≢◌, ℕ, ◌+◌, ◌-◌, ◌≤◌, ◌<◌, ◌⊎◌, inl, inr, refl, sym, ◌∙◌, ap, subst, arith, List, [], ◌∷◌, length, get_or, drop, drop-cons, suc, Some, None, Option, Bool, true, false, ◌&&◌, nat_eq, eqb, pos, cond, if◌then◌else◌}
use Rattle.std.specs.HashMap.{get}
use Rattle.std.proofs.lemmas.Bool.Decides.{eqb_tells}
use Rattle.std.proofs.lemmas.Bool.{and_parts}
use Rattle.pair_pool.specs.Trees.{Tree, leaf, cell}
use Rattle.pair_pool.specs.Views.{PassView, Knows, IsKnown}
use Rattle.sym_table.specs.Leaf.{Leaf, operator, nil}
use Rattle.sym_table.specs.Leaf as Leaf
use Rattle.sym_table.specs.Table.{Table, IsLeaf, IsTable}
use Rattle.term_model.specs.Terms.{Var, var_eq, Term, numeral, variable, operation, call, let_in, Terms, no_terms, term, Bindings, no_bindings, binding}
use Rattle.term_model.proofs.Tests.{var_eq_decides}
use Rattle.term_model.proofs.Basics.{same_some}
use Rattle.term_model.specs.Heights.{height, highest, highest_bound}
use Rattle.term_pool.specs.declared.putting.Image.{Image}
use Rattle.term_pool.specs.Putting.{Piece, staying, joined_pieces, put, CellImages, IsImageOfPiece, IsLowPiece, IsImageOf, ArePiecesOfLeaves, HasPieceImages, PlacesPiece, LacksRoomForPiece}
use Rattle.term_pool.specs.StandsFor.{variable_leaf, function_leaf, StandsFor, StandsForApplication, StandsForList, StandsForBindings}
use Rattle.term_pool.specs.Trees.{depth}
use Rattle.term_pool.specs.Views.{TermsView}
use Rattle.term_expansion.specs.Images.{IsSomeReplacement, IsSomeValue}
use Rattle.term_pool.specs.Placing.{PlacesTerm, LacksRoomFor}
use Rattle.term_pool.proofs.Leaves.{leaf_variable}
use Rattle.term_expansion.specs.PutFor.{PutsFor, ArePutFor, IsPieceOf}
use Rattle.rule_model.specs.Replacement.{Replacement, replaced_by, replaced, replaced_all, HasNoLet, HaveNoLet}
use Rattle.rule_model.proofs.Replacing.{replaced-none}
use Rattle.problem_text.specs.TypedTerms.{Typed}
use Rattle.term_expansion.specs.Values.{IsValue, PutsIn, IsReplacement}
use Rattle.term_expansion.specs.declared.values.Bound.{Bound}
use Rattle.term_expansion.specs.declared.values.Value.{Value}
use Rattle.term_expansion.specs.SymbolsAndTerms.{both}

-- a term is no higher than its tree allows
mutual
  unfolding height

  pub height-depth : (s : Table) (t : Term) (tree : Tree) → StandsFor s tree t → height t ≤ depth tree + 1
  height-depth s (numeral n) tree h = omega arith
  height-depth s (variable x) tree h = omega arith
  height-depth s (operation op ts) tree h = application-depth s (operator op) ts tree h
  height-depth s (call f ts) tree h = application-depth s (function_leaf f) ts tree h
  height-depth s (let_in bs u) (leaf k) h = absurd h
  height-depth s (let_in bs u) (cell a (leaf k)) h = absurd h.1
  height-depth s (let_in bs u) (cell a (cell b c)) h =
      let x = bindings-depth s bs b h.1.0 in let y = height-depth s u c h.1.1 in omega arith

  application-depth : (s : Table) (l : Leaf) (ts : Terms) (tree : Tree) → StandsForApplication s tree l ts → 1 + highest ts ≤ depth tree + 1
  application-depth s l no_terms tree h = omega arith
  application-depth s l (term t ts) (leaf k) h = absurd h
  application-depth s l (term t ts) (cell a (leaf k)) h = absurd h.1
  application-depth s l (term t ts) (cell a (cell b c)) h =
      let x = height-depth s t b h.1.0 in let y = list-depth s ts c h.1.1 in omega arith

  list-depth : (s : Table) (ts : Terms) (tree : Tree) → StandsForList s tree ts → highest ts ≤ depth tree
  list-depth s no_terms tree h = omega arith
  list-depth s (term t ts) (leaf k) h = absurd h
  list-depth s (term t ts) (cell a b) h =
      let x = height-depth s t a h.0 in let y = list-depth s ts b h.1 in omega arith

  bindings-depth : (s : Table) (bs : Bindings) (tree : Tree) → StandsForBindings s tree bs → highest_bound bs ≤ depth tree
  bindings-depth s no_bindings tree h = omega arith
  bindings-depth s (binding x t bs) (leaf k) h = absurd h
  bindings-depth s (binding x t bs) (cell (leaf k) b) h = absurd h.0
  bindings-depth s (binding x t bs) (cell (cell a c) b) h =
      let y = height-depth s t c h.0.1 in let z = bindings-depth s bs b h.1 in omega arith

pub var_same : (x y : Var) → x.name ≡ y.name → x.sort ≡ y.sort → x ≡ y
var_same x y e f = λ i. record { name = e i; sort = f i }

-- with a piece for leaf n
abbrev pub with_piece : ℕ → Piece → (ℕ → Piece) → ℕ → Piece
with_piece n p f k = cond (eqb k n) p (f k)

puts_start : (s : Table) → PutsFor s [] staying
unfolding height
puts_start s = record {
  variables = λ k x h. record { stands = h; height = refl; plain = λ e. tt };
  others = λ k l h never. refl;
}

pub puts_more : (s : Table) → IsTable s → (n : ℕ) (p : Piece) (x : Var) (t : Term) (q : Replacement) (f : ℕ → Piece) → IsLeaf s n (variable_leaf x) → IsPieceOf s p t → PutsFor s q f → PutsFor s ((x, t) ∷ q) (with_piece n p f)
puts_more s table n p x t q f leaf_is piece h = record { variables = vars; others = rest }
  where
    apart : (k : ℕ) (y : Var) → IsLeaf s k (variable_leaf y) → x ≡ y → n ≡ k
    apart k y g e = table.apart n k (variable_leaf x) (variable_leaf y) leaf_is g (ap (λ (z : Var). Leaf.kind_of 0 (variable_leaf z)) e) (ap (λ (z : Var). Leaf.name_of (variable_leaf z)) e)

    same : (k : ℕ) (y : Var) → IsLeaf s k (variable_leaf y) → k ≡ n → x ≡ y
    same k y g e =
        let g2 : IsLeaf s n (variable_leaf y) = rw e at g in
        leaf_variable x y (same_some (sym leaf_is ∙ g2))

    put_at : (k : ℕ) (y : Var) → IsLeaf s k (variable_leaf y) → (b c : Bool) → eqb k n ≡ b → var_eq x y ≡ c → ((b ≡ true) × (k ≡ n)) ⊎ ((b ≡ false) × (k ≢ n)) → IsPieceOf s (cond b p (f k)) (if c then t else replaced_by q y)
    put_at k y g true true e d tells = piece
    put_at k y g true false e d (inl both) =
        absurd (let f2 = (var_eq_decides x y).1 (same k y g both.1) in cc)
    put_at k y g true false e d (inr both) = absurd (let z = both.0 in cc)
    put_at k y g false true e d (inl both) = absurd (let z = both.0 in cc)
    put_at k y g false true e d (inr both) = absurd (both.1 (sym (apart k y g ((var_eq_decides x y).0 d))))
    put_at k y g false false e d tells = h.variables k y g

    vars : (k : ℕ) (y : Var) → IsLeaf s k (variable_leaf y) → IsPieceOf s (with_piece n p f k) (replaced_by ((x, t) ∷ q) y)
    vars k y g = put_at k y g (eqb k n) (var_eq x y) refl refl (eqb_tells k n)

    stays : (k : ℕ) (l : Leaf) → IsLeaf s k l → ((y : Var) → l ≢ variable_leaf y) → (b : Bool) → ((b ≡ true) × (k ≡ n)) ⊎ ((b ≡ false) × (k ≢ n)) → cond b p (f k) ≡ staying k
    stays k l g never true (inl both) =
        let g2 : IsLeaf s n l = rw both.1 at g in absurd (never x (same_some (sym g2 ∙ leaf_is)))
    stays k l g never true (inr both) = absurd (let z = both.0 in cc)
    stays k l g never false (inl both) = absurd (let z = both.0 in cc)
    stays k l g never false (inr both) = h.others k l g never

    rest : (k : ℕ) (l : Leaf) → IsLeaf s k l → ((y : Var) → l ≢ variable_leaf y) → with_piece n p f k ≡ staying k
    rest k l g never = stays k l g never (eqb k n) (eqb_tells k n)

-- one variable more
abbrev pub piece_in : (s : Table) (v : TermsView) (b : Bound) (x : Var) (t : Term) → PutsIn (both s v) b x t → Piece
piece_in s v b x t h = record { tree = h.value.refers.tree; height = b.value.height; highest = 0; plain = b.value.plain }

piece_in-is : (s : Table) (v : TermsView) (b : Bound) (x : Var) (t : Term) → (h : PutsIn (both s v) b x t) → IsPieceOf s (piece_in s v b x t h) t
piece_in-is s v b x t h = record { stands = h.value.refers.stands; height = h.value.high; plain = h.value.plain }

piece_in-within : (s : Table) (v : TermsView) (b : Bound) (x : Var) (t : Term) → (h : PutsIn (both s v) b x t) → IsLowPiece (piece_in s v b x t h)
piece_in-within s v b x t h =
    let d = height-depth s t h.value.refers.tree h.value.refers.stands in
    let e = h.value.high in
    record { height = omega arith; highest = omega arith }

pub put_for : (s : Table) (v : TermsView) → IsTable s → (bs : List Bound) (q : Replacement) → IsReplacement (both s v) bs q → (f : ℕ → Piece) × PutsFor s q f
put_for s v table [] [] h = (staying, puts_start s)
put_for s v table [] (c ∷ q) h = absurd h
put_for s v table (b ∷ bs) [] h = absurd h
put_for s v table (b ∷ bs) (c ∷ q) h =
    let (f, puts) = put_for s v table bs q h.1 in
    let p : Piece = piece_in s v b c.0 c.1 h.0 in
    (with_piece b.variable p f, puts_more s table b.variable p c.0 c.1 q f h.0.leaf (piece_in-is s v b c.0 c.1 h.0) puts)

-- the images
image_at : (p : PassView) (k : ℕ) (o o2 : Option Image) (x y : Piece) → o ≡ o2 → x ≡ y → IsImageOf p o2 k y → IsImageOf p o k x
image_at p k o o2 x y e f h = rw (e, f) h

none_at : (images : CellImages) (k : ℕ) → images.entries ≡ [] → get nat_eq images k ≡ None
none_at images k e = rw e

pub images_start : (s : Table) (v : TermsView) (images : CellImages) (bs : List Bound) (q : Replacement) → images.entries ≡ [] → length bs ≡ 0 → IsReplacement (both s v) bs q → ArePutFor (both s v) images q
images_start s v images [] [] e z h = record {
  pieces = staying;
  puts = puts_start s;
  are = λ k. image_at v.pass k _ None (staying k) (staying k) (none_at images k e) refl refl;
}
images_start s v images [] (c ∷ q) e z h = absurd h
images_start s v images (b ∷ bs) q e z h = absurd (omega arith)

pub images_more : (s : Table) (v : TermsView) → IsTable s → (old new : CellImages) (b : Bound) (bs : List Bound) → get nat_eq new b.variable ≡ Some (record { term = b.value.term; height = b.value.height; highest = 0; plain = b.value.plain }) → ((k : ℕ) → k ≢ b.variable → get nat_eq new k ≡ get nat_eq old k) → ((q : Replacement) → IsReplacement (both s v) bs q → ArePutFor (both s v) old q) → (q : Replacement) → IsReplacement (both s v) (b ∷ bs) q → ArePutFor (both s v) new q
images_more s v table old new b bs here others before [] h = absurd h
images_more s v table old new b bs here others before (c ∷ q) h =
    let was = before q h.1 in
    let p : Piece = piece_in s v b c.0 c.1 h.0 in
    record {
      pieces = with_piece b.variable p was.pieces;
      puts = puts_more s table b.variable p c.0 c.1 q was.pieces h.0.leaf (piece_in-is s v b c.0 c.1 h.0) was.puts;
      are = λ k. go was.pieces was.are k (eqb k b.variable) (eqb_tells k b.variable);
    }
  where
    go : (f : ℕ → Piece) → ArePiecesOfLeaves v.pass old f → (k : ℕ) (t : Bool) → ((t ≡ true) × (k ≡ b.variable)) ⊎ ((t ≡ false) × (k ≢ b.variable)) → IsImageOf v.pass (get nat_eq new k) k (cond t (piece_in s v b c.0 c.1 h.0) (f k))
    go f are k true (inl both) =
        image_at v.pass k _ (Some (record { term = b.value.term; height = b.value.height; highest = 0; plain = b.value.plain })) (piece_in s v b c.0 c.1 h.0) (piece_in s v b c.0 c.1 h.0) (ap (get nat_eq new) both.1 ∙ here) refl
        (record { known = h.0.value.refers.known; height = refl; highest = refl; plain = refl }, piece_in-within s v b c.0 c.1 h.0)
    go f are k true (inr both) = absurd (let z = both.0 in cc)
    go f are k false (inl both) = absurd (let z = both.0 in cc)
    go f are k false (inr both) = image_at v.pass k _ (get nat_eq old k) (f k) (f k) (others k both.1) refl (are k)

pub drop-at : {X : Type 0} → (xs : List X) (at : ℕ) (x : X) → 0 < at → at ≤ length xs → x ≡ get_or xs (at - 1) x → drop (at - 1) xs ≡ x ∷ drop at xs
drop-at xs at x above within is =
    let back : suc (at - 1) ≡ at = omega arith in
    let inside : at - 1 < length xs = omega arith in
    let split = drop-cons xs (at - 1) x inside in
    cc

-- the term that comes of it
record IsApplicationPiece (s : Table) (p : Piece) (l : Leaf) (ts : Terms) : Type 0 where
  stands : StandsForApplication s p.tree l ts
  height_is : p.height ≡ 1 + highest ts
  plain : p.plain ≡ true → HaveNoLet ts

record IsListPiece (s : Table) (p : Piece) (ts : Terms) : Type 0 where
  stands : StandsForList s p.tree ts
  highest_is : p.highest ≡ highest ts
  plain : p.plain ≡ true → HaveNoLet ts

leaf_at : (s : Table) (l : Leaf) (p q : Piece) → p ≡ q → StandsForApplication s q.tree l no_terms → StandsForApplication s p.tree l no_terms
leaf_at s l p q e h = rw e h

joined_application : (s : Table) (l : Leaf) (a b c : Piece) (k : ℕ) (t : Term) (ts : Terms) → a ≡ staying k → IsLeaf s k l → IsPieceOf s b t → IsListPiece s c ts → IsApplicationPiece s (joined_pieces a (joined_pieces b c)) l (term t ts)
unfolding height
joined_application s l a b c k t ts e g x y = record {
  stands = (leaf_at s l a (staying k) e g, (x.stands, y.stands));
  height_is = let xh = x.height in let yh = y.highest_is in omega arith;
  plain = λ d. let parts = and_parts a.plain (b.plain && c.plain) d in let two = and_parts b.plain c.plain parts.1 in (x.plain two.0, y.plain two.1);
}

joined_list : (s : Table) (b c : Piece) (t : Term) (ts : Terms) → IsPieceOf s b t → IsListPiece s c ts → IsListPiece s (joined_pieces b c) (term t ts)
unfolding height
joined_list s b c t ts x y = record {
  stands = (x.stands, y.stands);
  highest_is = let xh = x.height in let yh = y.highest_is in omega arith;
  plain = λ d. let two = and_parts b.plain c.plain d in (x.plain two.0, y.plain two.1);
}

leaf_application : (s : Table) (l : Leaf) (p : Piece) (k : ℕ) → p ≡ staying k → IsLeaf s k l → IsApplicationPiece s p l no_terms
unfolding height
leaf_application s l p k e g = rw e (record { stands = g; height_is = refl; plain = λ d. tt })

mutual
  unfolding replaced height

  pub put_term : (s : Table) → IsTable s → (q : Replacement) (f : ℕ → Piece) → PutsFor s q f → (t : Term) (tree : Tree) → StandsFor s tree t → HasNoLet t → IsPieceOf s (put f tree) (replaced q t)
  put_term s table q f h (numeral n) (cell a b) p e = absurd p
  put_term s table q f h (numeral n) (leaf k) p e =
      let is = h.others k (Leaf.numeral (pos n)) p (λ x c. cc) in
      subst (λ (z : Piece). IsPieceOf s z (numeral n)) (sym is) (record { stands = p; height = refl; plain = λ d. tt })
  put_term s table q f h (variable x) (cell a b) p e = absurd p
  put_term s table q f h (variable x) (leaf k) p e = h.variables k x p
  put_term s table q f h (operation op ts) tree p e =
      let r = put_application s table q f h (operator op) (λ x c. cc) ts tree p e in
      record { stands = r.stands; height = r.height_is; plain = r.plain }
  put_term s table q f h (call g ts) tree p e =
      let r = put_application s table q f h (function_leaf g) (λ x c. cc) ts tree p e in
      record { stands = r.stands; height = r.height_is; plain = r.plain }
  put_term s table q f h (let_in bs u) tree p e = absurd e

  put_application : (s : Table) → IsTable s → (q : Replacement) (f : ℕ → Piece) → PutsFor s q f → (l : Leaf) → ((x : Var) → l ≢ variable_leaf x) → (ts : Terms) (tree : Tree) → StandsForApplication s tree l ts → HaveNoLet ts → IsApplicationPiece s (put f tree) l (replaced_all q ts)
  put_application s table q f h l never no_terms (leaf k) p e = leaf_application s l (f k) k (h.others k l p never) p
  put_application s table q f h l never no_terms (cell a b) p e = absurd p
  put_application s table q f h l never (term t ts) (leaf k) p e = absurd p
  put_application s table q f h l never (term t ts) (cell a (leaf k)) p e = absurd p.1
  put_application s table q f h l never (term t ts) (cell (cell c d) (cell a b)) p e = absurd p.0
  put_application s table q f h l never (term t ts) (cell (leaf k) (cell a b)) p e =
      joined_application s l (f k) (put f a) (put f b) k (replaced q t) (replaced_all q ts) (h.others k l p.0 never) p.0
      (put_term s table q f h t a p.1.0 e.0) (put_list s table q f h ts b p.1.1 e.1)

  put_list : (s : Table) → IsTable s → (q : Replacement) (f : ℕ → Piece) → PutsFor s q f → (ts : Terms) (tree : Tree) → StandsForList s tree ts → HaveNoLet ts → IsListPiece s (put f tree) (replaced_all q ts)
  put_list s table q f h no_terms tree p e =
      let is = h.others 0 nil (table.begins 0 nil refl) (λ x c. cc) in
      subst (λ (z : Tree). IsListPiece s (put f z) no_terms) (sym p)
      (subst (λ (z : Piece). IsListPiece s z no_terms) (sym is) (record { stands = refl; highest_is = refl; plain = λ d. tt }))
  put_list s table q f h (term t ts) (leaf k) p e = absurd p
  put_list s table q f h (term t ts) (cell a b) p e =
      joined_list s (put f a) (put f b) (replaced q t) (replaced_all q ts) (put_term s table q f h t a p.0 e.0) (put_list s table q f h ts b p.1 e.1)

pub empty_value : (s : Table) (v : TermsView) (bs : List Bound) (c : Value) → length bs ≡ 0 → c.plain ≡ true → (t : Typed) (q : Replacement) → IsValue (both s v) c t → IsReplacement (both s v) bs q → IsValue (both s v) c (record { tree = replaced q t.tree; sort = t.sort })
empty_value s v [] c z p t [] h k =
    let e = replaced-none t.tree (h.plain p) in
    subst (λ (u : Term). IsValue (both s v) c (record { tree = u; sort = t.sort })) (sym e) (record { refers = h.refers; sort = h.sort; high = h.high; plain = h.plain })
empty_value s v [] c z p t (x ∷ q) h k = absurd k
empty_value s v (b ∷ bs) c z p t q h k = absurd (omega arith)

pub places_nothing : (s : Table) (v w : TermsView) → IsTable s → (bs : List Bound) (c : Value) → w.pass.placed ≡ v.pass.placed → c.plain ≡ true → (t : Typed) (q : Replacement) → IsValue (both s v) c t → IsReplacement (both s v) bs q → PlacesTerm s v.pass w.pass (replaced q t.tree)
places_nothing s v w table bs c e p t q h k =
    let (f, puts) = put_for s v table bs q k in
    let piece = put_term s table q f puts t.tree h.refers.tree h.refers.stands (h.plain p) in
    record { tree = (put f h.refers.tree).tree; stands = piece.stands; placed = λ r a b g. inl (rw e at g) }

pub some_images : (s : Table) (v : TermsView) → IsTable s → (bs : List Bound) (images : CellImages) → ((s : Table) (v : TermsView) (q : Replacement) → IsTable s → IsReplacement (both s v) bs q → ArePutFor (both s v) images q) → IsSomeReplacement (both s v) bs → HasPieceImages v.pass images
some_images s v table bs images put_in h =
    let r = put_in s v h.means table h.is in record { pieces = r.pieces; are = r.are }

pub value_known : (s : Table) (v : TermsView) (c : Value) → IsSomeValue (both s v) c → IsKnown v.pass c.term
value_known s v c h = record { tree = h.is.refers.tree; stands = h.is.refers.known }

pub image_value : (s : Table) (v w : TermsView) → IsTable s → (bs : List Bound) (images : CellImages) (c d : Value) (i : Image) → ((s : Table) (v : TermsView) (q : Replacement) → IsTable s → IsReplacement (both s v) bs q → ArePutFor (both s v) images q) → ((f : ℕ → Piece) (t : Tree) → ArePiecesOfLeaves v.pass images f → Knows v.pass c.term t → IsImageOfPiece w.pass i (put f t)) → d ≡ record { term = i.term; sort = c.sort; height = i.height; plain = i.plain } → c.plain ≡ true → (t : Typed) (q : Replacement) → IsValue (both s v) c t → IsReplacement (both s v) bs q → IsValue (both s w) d (record { tree = replaced q t.tree; sort = t.sort })
image_value s v w table bs images c d i put_in image e p t q h k =
    let r = put_in s v q table k in
    let piece = put_term s table q r.pieces r.puts t.tree h.refers.tree h.refers.stands (h.plain p) in
    let is = image r.pieces h.refers.tree r.are h.refers.known in
    rw e (record {
      refers = record { tree = (put r.pieces h.refers.tree).tree; known = is.known; stands = piece.stands };
      sort = h.sort;
      high = is.height ∙ piece.height;
      plain = λ g. piece.plain (sym is.plain ∙ g);
    })

pub image_places : (s : Table) (v w : TermsView) → IsTable s → (bs : List Bound) (images : CellImages) (c : Value) → ((s : Table) (v : TermsView) (q : Replacement) → IsTable s → IsReplacement (both s v) bs q → ArePutFor (both s v) images q) → ((f : ℕ → Piece) → ArePiecesOfLeaves v.pass images f → PlacesPiece v.pass w.pass f c.term) → c.plain ≡ true → (t : Typed) (q : Replacement) → IsValue (both s v) c t → IsReplacement (both s v) bs q → PlacesTerm s v.pass w.pass (replaced q t.tree)
image_places s v w table bs images c put_in places p t q h k =
    let r = put_in s v q table k in
    let piece = put_term s table q r.pieces r.puts t.tree h.refers.tree h.refers.stands (h.plain p) in
    record { tree = (put r.pieces h.refers.tree).tree; stands = piece.stands; placed = places r.pieces r.are h.refers.tree h.refers.known }

pub image_lacks : (s : Table) (v w : TermsView) → IsTable s → (bs : List Bound) (images : CellImages) (c : Value) → ((s : Table) (v : TermsView) (q : Replacement) → IsTable s → IsReplacement (both s v) bs q → ArePutFor (both s v) images q) → ((f : ℕ → Piece) → ArePiecesOfLeaves v.pass images f → LacksRoomForPiece v.pass w.pass f c.term) → c.plain ≡ true → (t : Typed) (q : Replacement) → IsValue (both s v) c t → IsReplacement (both s v) bs q → LacksRoomFor s w.pass (replaced q t.tree)
image_lacks s v w table bs images c put_in lacks p t q h k =
    let r = put_in s v q table k in
    let piece = put_term s table q r.pieces r.puts t.tree h.refers.tree h.refers.stands (h.plain p) in
    record { tree = (put r.pieces h.refers.tree).tree; stands = piece.stands; full = lacks r.pieces r.are h.refers.tree h.refers.known }
