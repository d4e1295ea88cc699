-- What terms become, cell by cell.
use Rattle.std.proofs.Common.{◌≡◌, ◌≢◌, ℕ, ◌+◌, ◌<◌, ◌≤◌, ◌⊎◌, inl, inr, zero, suc, refl, sym, ◌∙◌, ap, subst, arith, List, [], ◌∷◌, ◌++◌, length, take, get_or, slice_get, Some, Bool, true, false, cond, eqb, nat_eq, pos, Vec}
use Rattle.std.specs.Cmp.Lexicographic.{pointwise}
use Rattle.std.specs.HashMap.{get}
use Rattle.std.specs.Prelude.{Result, IfErr}
use Rattle.std.specs.List.{AllByRecursion}
use Rattle.std.specs.declared.alloc.Global.{Global}
use Rattle.std.proofs.lemmas.Bool.Decides.{eqb_tells}
use Rattle.pair_pool.specs.Trees.{Tree, leaf}
use Rattle.pair_pool.specs.Views.{PassView, Knows, IsKnown, IsOneToOne}
use Rattle.sym_table.specs.Leaf.{Leaf, operator}
use Rattle.sym_table.specs.Table.{Table, IsLeaf, IsTable}
use Rattle.term_model.specs.Terms.{Var, Term, numeral, variable, operation, call, let_in, no_terms, term, Bindings}
use Rattle.term_model.proofs.Zips.{zip_weaken, zip_push}
use Rattle.term_model.proofs.Basics.{same_some}
use Rattle.term_pool.proofs.Keeping.{placed-trans, placed-larger, full-larger}
use Rattle.term_pool.proofs.Leaves.{let_is}
use Rattle.term_pool.proofs.References.{AreOne}
use Rattle.term_pool.specs.Building.{IsAppliedLeaf, AreBindings, PlacesOnlyIn, IsFullIn}
use Rattle.term_pool.specs.Reading.{arguments_of, IsLet}
use Rattle.term_pool.specs.StandsFor.{variable_leaf, function_leaf, StandsFor, StandForAll}
use Rattle.term_pool.specs.Trees.{IsPartOf, app_tree}
use Rattle.term_pool.specs.declared.stop.TermStop.{TermStop}
use Rattle.term_pool.specs.declared.stop.TermStop.TheVariants as Stop
use Rattle.term_pool.specs.Views.{TermsView, RefersTo, ReferToAll, KnowsAll, KeepsTerms, IsTerm}
use Rattle.term_expansion.specs.Assigned.{term_of, assigned_all}
use Rattle.term_expansion.specs.Expanding.{AreVariables, Says, SaysAll, IsSaid, AreSaid, replaced_each, HasPart, HasPartTerms, key_of, Done, HasBecomeBy, AreDone, IsExpansion, AreValuesGiven, ExpandsOne, PlacesOne, FillsOne, ExpandsAll, PlacesAll, FillsAll}
use Rattle.term_expansion.specs.Free.{AddsLeaves}
use Rattle.term_expansion.specs.LetWork.{IsLetWork}
use Rattle.term_expansion.specs.Needs.{IsNeeded, Values, AreValuesOf, HasNeeds}
use Rattle.rule_model.specs.Replacement.{Replacement, replaced_by, replaced, replaced_bindings}
use Rattle.term_expansion.specs.declared.assignments.Assigned.{Assigned}
use Rattle.term_expansion.specs.declared.expanding.Expansion.{Expansion}
use Rattle.term_expansion.proofs.NeedLemmas as need
use Rattle.term_expansion.proofs.NeedLemmas.{HasGivenTerms, refers-grow}
use Rattle.term_expansion.proofs.TermParts.{becomes_application, no_let}
use Rattle.term_expansion.specs.SymbolsAndTerms.{both}

-- the same for an equal view
pub expands_moved : (s : Table) (v w z : TermsView) (a : List Assigned) (r i : ℕ) → w ≡ v → ExpandsOne (both s w) z a r i → ExpandsOne (both s v) z a r i
expands_moved s v w z a r i e h = subst (λ (x : TermsView). ExpandsOne (both s x) z a r i) e h

pub places_moved : (s : Table) (v w z : TermsView) (a : List Assigned) (r : ℕ) → w ≡ v → PlacesOne (both s w) z a r → PlacesOne (both s v) z a r
places_moved s v w z a r e h = subst (λ (x : TermsView). PlacesOne (both s x) z a r) e h

pub fills_moved : (s : Table) (v w z : TermsView) (a : List Assigned) (r : ℕ) → w ≡ v → FillsOne (both s w) z a r → FillsOne (both s v) z a r
fills_moved s v w z a r e h = subst (λ (x : TermsView). FillsOne (both s x) z a r) e h

pub said_moved : (s : Table) (v w : TermsView) (a : List Assigned) (r : ℕ) → w ≡ v → IsSaid (both s v) a r → IsSaid (both s w) a r
said_moved s v w a r e h = subst (λ (x : TermsView). IsSaid (both s x) a r) (sym e) h

pub are_done_moved : (s : Table) (v w : TermsView) (done : Done) → w ≡ v → AreDone (both s v) done → AreDone (both s w) done
are_done_moved s v w done e h = subst (λ (x : TermsView). AreDone (both s x) done) (sym e) h

pub expansion_moved : (s : Table) (v w : TermsView) (e : Expansion) → w ≡ v → IsExpansion (both s v) e → IsExpansion (both s w) e
expansion_moved s v w e f h = subst (λ (x : TermsView). IsExpansion (both s x) e) (sym f) h

pub if_fills_moved : (o : Result ℕ TermStop) (s : Table) (v w z : TermsView) (a : List Assigned) (r : ℕ) → w ≡ v → IfErr o (λ e. e ≡ Stop.PoolFull → FillsOne (both s w) z a r) → IfErr o (λ e. e ≡ Stop.PoolFull → FillsOne (both s v) z a r)
if_fills_moved o s v w z a r e h = subst (λ (x : TermsView). IfErr o (λ e. e ≡ Stop.PoolFull → FillsOne (both s x) z a r)) e h

pub has_needs_moved : (s : Table) (v w : TermsView) (r : ℕ) (leaves ks : List ℕ) → w ≡ v → ks ≡ leaves → HasNeeds (both s v) r leaves → HasNeeds (both s w) r ks
has_needs_moved s v w r leaves ks e f h = subst (λ (x : List ℕ). HasNeeds (both s w) r x) (sym f) (subst (λ (x : TermsView). HasNeeds (both s x) r leaves) (sym e) h)

pub needs_back : (s : Table) (v w : TermsView) (r : ℕ) (leaves ks : List ℕ) → w ≡ v → ks ≡ leaves → HasNeeds (both s w) r leaves → HasNeeds (both s v) r ks
needs_back s v w r leaves ks e f h = subst (λ (x : List ℕ). HasNeeds (both s v) r x) (sym f) (subst (λ (x : TermsView). HasNeeds (both s x) r leaves) e h)

pub one_moved : (s : Table) (v w : TermsView) → w ≡ v → AreOne s w → AreOne s v
one_moved s v w e h = subst (λ (x : TermsView). AreOne s x) e h

-- the term that is said
pub is_term : (s : Table) (v : TermsView) (a : List Assigned) (r : ℕ) → IsSaid (both s v) a r → IsTerm s v r
is_term s v a r h = record { means = h.means; refers = h.refers }

-- leaves
not_assigned : (s : Table) (a : List Assigned) (k : ℕ) (l : Leaf) → AreVariables s a → IsLeaf s k l → ((x : Var) → l ≢ variable_leaf x) → term_of k a ≡ k
not_assigned s [] k l h g never = refl
not_assigned s (b ∷ a) k l h g never = go (eqb b.variable k) (eqb_tells b.variable k) (not_assigned s a k l h.1 g never)
  where
    go : (c : Bool) → ((c ≡ true) × (b.variable ≡ k)) ⊎ ((c ≡ false) × (b.variable ≢ k)) → term_of k a ≡ k → cond c b.term (term_of k a) ≡ k
    go true (inl both) rest =
        let (x, is) = h.0 in
        absurd (never x (same_some (sym g ∙ subst (λ (j : ℕ). IsLeaf s j (variable_leaf x)) both.1 is)))
    go true (inr both) rest = absurd (let z = both.0 in cc)
    go false both rest = rest

leaf_stays : (s : Table) (v : TermsView) (a : List Assigned) (r : ℕ) (l : Leaf) (t : Term) → AreVariables s a → IsLeaf s r l → ((x : Var) → l ≢ variable_leaf x) → RefersTo s v r t → RefersTo s v (term_of r a) t
leaf_stays s v a r l t h g never refers = subst (λ (k : ℕ). RefersTo s v k t) (sym (not_assigned s a r l h g never)) refers

leaf_is : (s : Table) (v : TermsView) (a : List Assigned) (q : Replacement) (r : ℕ) (t : Term) → StandsFor s (leaf r) t → RefersTo s v r t → Says (both s v) a q t → RefersTo s v (term_of r a) (replaced q t)
unfolding replaced
leaf_is s v a q r (numeral n) p refers says = leaf_stays s v a r (Leaf.numeral (pos n)) (numeral n) says.variables p (λ x e. cc) refers
leaf_is s v a q r (variable x) p refers says = says.puts r x p refl
leaf_is s v a q r (operation op no_terms) p refers says = leaf_stays s v a r (operator op) (operation op no_terms) says.variables p (λ x e. cc) refers
leaf_is s v a q r (operation op (term t ts)) p refers says = absurd p
leaf_is s v a q r (call f no_terms) p refers says = leaf_stays s v a r (function_leaf f) (call f no_terms) says.variables p (λ x e. cc) refers
leaf_is s v a q r (call f (term t ts)) p refers says = absurd p
leaf_is s v a q r (let_in bs u) p refers says = absurd p

pub leaf_becomes : (s : Table) (v : TermsView) (a : List Assigned) (r i : ℕ) → IsOneToOne v.pass → Knows v.pass r (leaf r) → i ≡ term_of r a → ExpandsOne (both s v) v a r i
leaf_becomes s v a r i one known e t q refers says =
    subst (λ (k : ℕ). RefersTo s v k (replaced q t)) (sym e)
    (leaf_is s v a q r t (subst (λ (b : Tree). StandsFor s b t) (one.one_tree r refers.tree (leaf r) refers.known known) refers.stands) refers says)

-- every pass knows a leaf
pub known_leaf : (pass : PassView) (r number k : ℕ) → number ≡ r → k ≡ number → ((pass : PassView) → Knows pass k (leaf number)) → Knows pass r (leaf r)
known_leaf pass r number k e f known =
    subst (λ (n : ℕ). Knows pass n (leaf n)) e (subst (λ (n : ℕ). Knows pass n (leaf number)) f (known pass))

-- what is remembered
pub remembered : (s : Table) (v : TermsView) (a : List Assigned) (r i : ℕ) (leaves : List ℕ) (key : Vec ℕ Global) (done : Done) → AreOne s v → AreDone (both s v) done → key.items ≡ key_of r a leaves → Some i ≡ get (λ x y. pointwise nat_eq x.items y.items) done key → ExpandsOne (both s v) v a r i
remembered s v a r i leaves key done one are is e t q refers says =
    let h : HasBecomeBy (both s v) key.items i = are.each key i (sym e) in
    let same = need.pairs-same h.assigned a h.cell r h.leaves leaves (sym h.key_is ∙ is) in
    let term : h.means ≡ t = (one h.cell r h.means t h.refers refers).0 same.0 in
    let becomes : replaced h.puts h.means ≡ replaced q h.means =
    need.replaced-same h.means h.puts q
    (λ x n. let (k, is_leaf, c) = h.covered x n in (one (term_of k h.assigned) (term_of k a) (replaced_by h.puts x) (replaced_by q x) (h.says.puts k x is_leaf n) (says.puts k x is_leaf (subst (λ (u : Term). IsNeeded x u) term n))).0 (same.2 k c)) in
    subst (λ (u : Term). RefersTo s v i u) (becomes ∙ ap (replaced q) term) h.becomes

pub has_become : (s : Table) (v w : TermsView) (a : List Assigned) (r i : ℕ) (leaves : List ℕ) (key : Vec ℕ Global) → AreOne s v → KeepsTerms v w → IsSaid (both s v) a r → HasNeeds (both s v) r leaves → key.items ≡ key_of r a leaves → ExpandsOne (both s v) w a r i → HasBecomeBy (both s w) key.items i
has_become s v w a r i leaves key one keeps said needs is expands = record {
  cell = r;
  assigned = a;
  leaves = leaves;
  key_is = is;
  means = said.means;
  refers = refers-grow s v w keeps r said.means said.refers;
  covered = λ x n. needs.are.all x (subst (λ (u : Term). IsNeeded x u) ((one r r said.means needs.means said.refers needs.refers).0 refl) n);
  puts = said.puts;
  says = need.says-grow s v w (refers-grow s v w keeps) a said.puts said.means said.says;
  becomes = expands said.means said.puts said.refers said.says;
}

pub noted : (s : Table) (w : TermsView) (i : ℕ) (key : Vec ℕ Global) (old new : Done) → AreDone (both s w) old → HasBecomeBy (both s w) key.items i → ((k : Vec ℕ Global) → get (λ x y. pointwise nat_eq x.items y.items) new k ≡ cond (pointwise nat_eq key.items k.items) (Some i) (get (λ x y. pointwise nat_eq x.items y.items) old k)) → AreDone (both s w) new
noted s w i key old new are h updates = record { each = λ k j e. go k j (pointwise nat_eq key.items k.items) refl (sym (updates k) ∙ e) }
  where
    go : (k : Vec ℕ Global) (j : ℕ) (b : Bool) → pointwise nat_eq key.items k.items ≡ b → cond b (Some i) (get (λ x y. pointwise nat_eq x.items y.items) old k) ≡ Some j → HasBecomeBy (both s w) k.items j
    go k j true same e =
        subst (λ (n : ℕ). HasBecomeBy (both s w) k.items n) (same_some e)
        (subst (λ (ks : List ℕ). HasBecomeBy (both s w) ks i) (need.list-same key.items k.items same) h)
    go k j false same e = are.each k j e

-- items of lists
pub record ItemAt (s : Table) (v : TermsView) (ts : List Term) (i r : ℕ) : Type 0 where
  pub means : Term
  pub refers : RefersTo s v r means
  pub there : slice_get ts i ≡ Some means

pub item_at : (s : Table) (v : TermsView) (rs : List ℕ) (ts : List Term) (i r : ℕ) → ReferToAll s v rs ts → i < length rs → r ≡ get_or rs i r → ItemAt s v ts i r
item_at s v [] ts i r h l e = absurd (omega arith)
item_at s v (k ∷ rs) [] i r h l e = absurd h
item_at s v (k ∷ rs) (t ∷ ts) zero r h l e = record { means = t; refers = subst (λ (n : ℕ). RefersTo s v n t) (sym e) h.0; there = refl }
item_at s v (k ∷ rs) (t ∷ ts) (suc i) r h l e =
    let x = item_at s v rs ts i r h.1 (omega arith) e in record { means = x.means; refers = x.refers; there = x.there }

all_at : (P : Term → Type 0) (ts : List Term) (i : ℕ) (t : Term) → AllByRecursion P ts → slice_get ts i ≡ Some t → P t
all_at P [] i t h e = absurd (cc)
all_at P (u ∷ ts) zero t h e = subst P (same_some e) h.0
all_at P (u ∷ ts) (suc i) t h e = all_at P ts i t h.1 e

parts_at : (s : Table) (whole : Tree) (q : Replacement) (ts : List Term) (i : ℕ) (t : Term) → HasPartTerms s whole (replaced_each q ts) → slice_get ts i ≡ Some t → HasPart s whole (replaced q t)
parts_at s whole q [] i t h e = absurd (cc)
parts_at s whole q (u ∷ ts) zero t h e = subst (λ (x : Term). HasPart s whole (replaced q x)) (same_some e) h.0
parts_at s whole q (u ∷ ts) (suc i) t h e = parts_at s whole q ts i t h.1 e

take-each : (q : Replacement) (ts : List Term) (i : ℕ) (t : Term) → slice_get ts i ≡ Some t → take (i + 1) (replaced_each q ts) ≡ take i (replaced_each q ts) ++ replaced q t ∷ []
take-each q [] i t e = absurd (cc)
take-each q (u ∷ ts) zero t e =
    let one : zero + 1 ≡ suc zero = omega arith in
    ap (λ n. take n (replaced_each q (u ∷ ts))) one ∙ ap (λ (x : Term). replaced q x ∷ []) (same_some e)
take-each q (u ∷ ts) (suc i) t e =
    let one : suc i + 1 ≡ suc (i + 1) = omega arith in
    ap (λ n. take n (replaced_each q (u ∷ ts))) one ∙ ap (λ (xs : List Term). replaced q u ∷ xs) (take-each q ts i t e)

-- one term of a list
pub said_at : (s : Table) (v w : TermsView) (a b : List Assigned) (rs : List ℕ) (i r : ℕ) → KeepsTerms v w → b ≡ a → AreSaid (both s v) a rs → i < length rs → r ≡ get_or rs i r → IsSaid (both s w) b r
said_at s v w a b rs i r keeps same h l e =
    let x = item_at s v rs h.means i r h.refer l e in
    subst (λ (c : List Assigned). IsSaid (both s w) c r) (sym same)
    (record {
      means = x.means;
      refers = refers-grow s v w keeps r x.means x.refers;
      puts = h.puts;
      says = need.says-grow s v w (refers-grow s v w keeps) a h.puts x.means (all_at (Says (both s v) a h.puts) h.means i x.means h.says x.there);
    })

pub placed-next : (s : Table) (v w z : TermsView) (a b : List Assigned) (rs : List ℕ) (i r : ℕ) → KeepsTerms v w → KeepsTerms w z → b ≡ a → i < length rs → r ≡ get_or rs i r → PlacesAll (both s v) w a rs → PlacesOne (both s w) z b r → PlacesAll (both s v) z a rs
placed-next s v w z a b rs i r keeps later same l e before one ts q whole refer says parts =
    let x = item_at s v rs ts i r refer l e in
    let next : PlacesOne (both s w) z a r = subst (λ (c : List Assigned). PlacesOne (both s w) z c r) same one in
    placed-trans v.pass w.pass z.pass whole later.pass (before ts q whole refer says parts)
    (next x.means q whole (refers-grow s v w keeps r x.means x.refers) (need.says-grow s v w (refers-grow s v w keeps) a q x.means (all_at (Says (both s v) a q) ts i x.means says x.there)) (parts_at s whole q ts i x.means parts x.there))

pub fills-next : (s : Table) (v w z : TermsView) (a b : List Assigned) (rs : List ℕ) (i r : ℕ) → KeepsTerms v w → b ≡ a → i < length rs → r ≡ get_or rs i r → FillsOne (both s w) z b r → FillsAll (both s v) z a rs
fills-next s v w z a b rs i r keeps same l e one ts q whole refer says parts =
    let x = item_at s v rs ts i r refer l e in
    let next : FillsOne (both s w) z a r = subst (λ (c : List Assigned). FillsOne (both s w) z c r) same one in
    next x.means q whole (refers-grow s v w keeps r x.means x.refers) (need.says-grow s v w (refers-grow s v w keeps) a q x.means (all_at (Says (both s v) a q) ts i x.means says x.there)) (parts_at s whole q ts i x.means parts x.there)

pub expanded-next : (s : Table) (v w z : TermsView) (a b : List Assigned) (rs all new : List ℕ) (i r j : ℕ) → KeepsTerms v w → KeepsTerms w z → b ≡ a → i < length rs → r ≡ get_or rs i r → new ≡ all ++ j ∷ [] → ((ts : List Term) (q : Replacement) → ReferToAll s v rs ts → SaysAll (both s v) a q ts → ReferToAll s w all (take i (replaced_each q ts))) → ExpandsOne (both s w) z b r j → (ts : List Term) (q : Replacement) → ReferToAll s v rs ts → SaysAll (both s v) a q ts → ReferToAll s z new (take (i + 1) (replaced_each q ts))
expanded-next s v w z a b rs all new i r j keeps later same l e is before one ts q refer says =
    let x = item_at s v rs ts i r refer l e in
    let next : ExpandsOne (both s w) z a r j = subst (λ (c : List Assigned). ExpandsOne (both s w) z c r j) same one in
    subst (λ (us : List Term). ReferToAll s z new us) (sym (take-each q ts i x.means x.there))
    (subst (λ (ks : List ℕ). ReferToAll s z ks (take i (replaced_each q ts) ++ replaced q x.means ∷ [])) (sym is)
    (zip_push (RefersTo s z) all (take i (replaced_each q ts)) j (replaced q x.means)
    (zip_weaken (RefersTo s w) (RefersTo s z) (refers-grow s w z later) all (take i (replaced_each q ts)) (before ts q refer says))
    (next x.means q (refers-grow s v w keeps r x.means x.refers) (need.says-grow s v w (refers-grow s v w keeps) a q x.means (all_at (Says (both s v) a q) ts i x.means says x.there)))))

take-all : (q : Replacement) (s : Table) (v : TermsView) (rs : List ℕ) (ts : List Term) (n : ℕ) → ReferToAll s v rs ts → length rs ≤ n → take n (replaced_each q ts) ≡ replaced_each q ts
take-all q s v [] [] zero h l = refl
take-all q s v [] [] (suc n) h l = refl
take-all q s v [] (t ∷ ts) n h l = absurd h
take-all q s v (r ∷ rs) [] n h l = absurd h
take-all q s v (r ∷ rs) (t ∷ ts) zero h l = absurd (omega arith)
take-all q s v (r ∷ rs) (t ∷ ts) (suc n) h l = ap (λ (us : List Term). replaced q t ∷ us) (take-all q s v rs ts n h.1 (omega arith))

pub expanded-end : (s : Table) (v w : TermsView) (a : List Assigned) (rs all : List ℕ) (n : ℕ) → length rs ≤ n → ((ts : List Term) (q : Replacement) → ReferToAll s v rs ts → SaysAll (both s v) a q ts → ReferToAll s w all (take n (replaced_each q ts))) → ExpandsAll (both s v) w a rs all
expanded-end s v w a rs all n l h ts q refer says =
    subst (λ (us : List Term). ReferToAll s w all us) (take-all q s v rs ts n refer l) (h ts q refer says)

-- the same for an equal list
pub all_said_moved : (s : Table) (v w : TermsView) (a : List Assigned) (rs ks : List ℕ) → w ≡ v → ks ≡ rs → AreSaid (both s v) a rs → AreSaid (both s w) a ks
all_said_moved s v w a rs ks e f h = subst (λ (x : List ℕ). AreSaid (both s w) a x) (sym f) (subst (λ (x : TermsView). AreSaid (both s x) a rs) (sym e) h)

pub all_expand_moved : (s : Table) (v w z : TermsView) (a : List Assigned) (rs ks is : List ℕ) → w ≡ v → ks ≡ rs → ExpandsAll (both s w) z a ks is → ExpandsAll (both s v) z a rs is
all_expand_moved s v w z a rs ks is e f h = subst (λ (x : List ℕ). ExpandsAll (both s v) z a x is) f (subst (λ (x : TermsView). ExpandsAll (both s x) z a ks is) e h)

pub all_placed_moved : (s : Table) (v w z : TermsView) (a : List Assigned) (rs ks : List ℕ) → w ≡ v → ks ≡ rs → PlacesAll (both s w) z a ks → PlacesAll (both s v) z a rs
all_placed_moved s v w z a rs ks e f h = subst (λ (x : List ℕ). PlacesAll (both s v) z a x) f (subst (λ (x : TermsView). PlacesAll (both s x) z a ks) e h)

pub all_fill_moved : (s : Table) (v w z : TermsView) (a : List Assigned) (rs ks : List ℕ) → w ≡ v → ks ≡ rs → FillsAll (both s w) z a ks → FillsAll (both s v) z a rs
all_fill_moved s v w z a rs ks e f h = subst (λ (x : List ℕ). FillsAll (both s v) z a x) f (subst (λ (x : TermsView). FillsAll (both s x) z a ks) e h)

-- applications
module _ (s : Table) (v : TermsView) (a : List Assigned) (r head : ℕ) (rs : List ℕ) (application : (t : Term) → RefersTo s v r t → IsAppliedLeaf s head (arguments_of t) t) (refer : (t : Term) → RefersTo s v r t → ReferToAll s v rs (arguments_of t)) where
  never_let : (t : Term) → RefersTo s v r t → IsLet t → ⊥
  never_let t refers = no_let s head (arguments_of t) t (application t refers)

  pub arguments_said : IsSaid (both s v) a r → AreSaid (both s v) a rs
  arguments_said h = record {
    means = arguments_of h.means;
    refer = refer h.means h.refers;
    puts = h.puts;
    says = need.argument-says s v a h.puts h.means (never_let h.means h.refers) h.says;
  }

  pub arguments_placed : (w : TermsView) → PlacesAll (both s v) w a rs → PlacesOne (both s v) w a r
  arguments_placed w h t q whole refers says part =
      h (arguments_of t) q whole (refer t refers) (need.argument-says s v a q t (never_let t refers) says) (need.argument-parts s q whole t (never_let t refers) part)

  pub arguments_full : (w : TermsView) → FillsAll (both s v) w a rs → FillsOne (both s v) w a r
  arguments_full w h t q whole refers says part =
      h (arguments_of t) q whole (refer t refers) (need.argument-says s v a q t (never_let t refers) says) (need.argument-parts s q whole t (never_let t refers) part)

  pub arguments_expanded : (w : TermsView) (is : List ℕ) → ExpandsAll (both s v) w a rs is → (t : Term) (q : Replacement) → RefersTo s v r t → Says (both s v) a q t → ReferToAll s w is (replaced_each q (arguments_of t))
  arguments_expanded w is h t q refers says = h (arguments_of t) q (refer t refers) (need.argument-says s v a q t (never_let t refers) says)

  -- the trees of what the arguments become
  record HasTrees (w : TermsView) (is : List ℕ) (us : List Term) : Type 0 where
    trees : List Tree
    known : KnowsAll w.pass is trees
    stand : StandForAll s trees us

  trees_of : (w : TermsView) (is : List ℕ) (us : List Term) → ReferToAll s w is us → HasTrees w is us
  trees_of w [] [] h = record { trees = []; known = tt; stand = tt }
  trees_of w [] (u ∷ us) h = absurd h
  trees_of w (i ∷ is) [] h = absurd h
  trees_of w (i ∷ is) (u ∷ us) h =
      let t = trees_of w is us h.1 in
      record { trees = h.0.tree ∷ t.trees; known = (h.0.known, t.known); stand = (h.0.stands, t.stand) }

  pub arguments_known : (w : TermsView) (is ks : List ℕ) (us : List Term) → ks ≡ is → ReferToAll s w is us → (k d : ℕ) → k < length ks → IsKnown w.pass (get_or ks k d)
  arguments_known w is ks us e h k d l = subst (λ (js : List ℕ). k < length js → IsKnown w.pass (get_or js k d)) (sym e) (go is us h k) l
    where
      go : (is : List ℕ) (us : List Term) → ReferToAll s w is us → (k : ℕ) → k < length is → IsKnown w.pass (get_or is k d)
      go [] us h k l = absurd (omega arith)
      go (i ∷ is) [] h k l = absurd h
      go (i ∷ is) (u ∷ us) h zero l = record { tree = h.0.tree; stands = h.0.known }
      go (i ∷ is) (u ∷ us) h (suc k) l = go is us h.1 k (omega arith)

  module _ (table : IsTable s) (built : (s : Table) (head : ℕ) (trees : List Tree) (ts : List Term) (t : Term) → StandForAll s trees ts → IsAppliedLeaf s head ts t → StandsFor s (app_tree head trees) t) (one_tree : (s : Table) (a b : Tree) (t : Term) → IsTable s → StandsFor s a t → StandsFor s b t → a ≡ b) (never : (x : Var) → RefersTo s v r (variable x) → ⊥) (w z : TermsView) (is : List ℕ) (expands : ExpandsAll (both s v) w a rs is) where
    becomes : (t : Term) (q : Replacement) → RefersTo s v r t → IsAppliedLeaf s head (replaced_each q (arguments_of t)) (replaced q t)
    becomes t q refers = becomes_application s q head t (λ x e. never x (subst (λ (u : Term). RefersTo s v r u) e refers)) (application t refers)

    part_is : (t : Term) (q : Replacement) (whole : Tree) (refers : RefersTo s v r t) (h : HasTrees w is (replaced_each q (arguments_of t))) → HasPart s whole (replaced q t) → IsPartOf (app_tree head h.trees) whole
    part_is t q whole refers h part =
        subst (λ (b : Tree). IsPartOf b whole)
        (one_tree s part.tree (app_tree head h.trees) (replaced q t) table part.stands (built s head h.trees (replaced_each q (arguments_of t)) (replaced q t) h.stand (becomes t q refers))) part.part

    pub application_placed : KeepsTerms w z → PlacesAll (both s v) w a rs → ((ts : List Tree) → KnowsAll w.pass is ts → PlacesOnlyIn w.pass z.pass (app_tree head ts)) → PlacesOne (both s v) z a r
    application_placed keeps before last t q whole refers says part =
        let h = trees_of w is (replaced_each q (arguments_of t)) (arguments_expanded w is expands t q refers says) in
        placed-trans v.pass w.pass z.pass whole keeps.pass (arguments_placed w before t q whole refers says part)
        (placed-larger w.pass z.pass (app_tree head h.trees) whole (part_is t q whole refers h part) (last h.trees h.known))

    pub application_full : ((ts : List Tree) → KnowsAll w.pass is ts → IsFullIn z.pass (app_tree head ts)) → FillsOne (both s v) z a r
    application_full last t q whole refers says part =
        let h = trees_of w is (replaced_each q (arguments_of t)) (arguments_expanded w is expands t q refers says) in
        full-larger z.pass (app_tree head h.trees) whole (part_is t q whole refers h part) (last h.trees h.known)

    pub application_is : (i : ℕ) → ((ts : List Term) (t : Term) → ReferToAll s w is ts → IsAppliedLeaf s head ts t → RefersTo s z i t) → ExpandsOne (both s v) z a r i
    application_is i made t q refers says =
        made (replaced_each q (arguments_of t)) (replaced q t) (arguments_expanded w is expands t q refers says) (becomes t q refers)

-- lets
pub let_work : (s : Table) (v : TermsView) (r body : ℕ) (vars values leaves gs ps : List ℕ) (m : Values) → IsTable s → AreOne s v → ((t : Term) → RefersTo s v r t → IsLet t) → ((s : Table) (bs : Bindings) (u : Term) → RefersTo s v r (let_in bs u) → AreBindings s v vars values bs) → ((s : Table) (bs : Bindings) (u : Term) → RefersTo s v r (let_in bs u) → RefersTo s v body u) → HasNeeds (both s v) body leaves → AreValuesOf m vars values → ((ks rs : List ℕ) → AreValuesOf m ks rs → AreValuesGiven leaves ks rs gs ps) → (t : Term) → RefersTo s v r t → IsLetWork (both s v) body gs ps t
let_work s v r body vars values leaves gs ps m table one is_let bindings bodies needs by_leaves given t refers =
    let (bs, u, e) = let_is t (is_let t refers) in
    let let_refers : RefersTo s v r (let_in bs u) = subst (λ (x : Term). RefersTo s v r x) e refers in
    let bound = bindings s bs u let_refers in
    let inside = bodies s bs u let_refers in
    let needed : AddsLeaves s [] leaves (λ x. IsNeeded x u) =
    subst (λ (x : Term). AddsLeaves s [] leaves (λ y. IsNeeded y x)) ((one body body needs.means u needs.refers inside).0 refl) needs.are in
    let is_given = given vars values by_leaves in
    record {
      bindings = bs;
      inner = u;
      is = e;
      vars = vars;
      values = values;
      bound = bound;
      inside = inside;
      leaves = leaves;
      needed = needed;
      given = is_given;
    }

pub let_work_from : (s : Table) (v w x : TermsView) (r body : ℕ) (own_vars own_values vars values inside leaves gs ps : List ℕ) (m : Values) → IsTable s → w ≡ v → x ≡ w → AreOne s x → ((t : Term) → RefersTo s v r t → IsLet t) → ((s : Table) (bs : Bindings) (u : Term) → RefersTo s v r (let_in bs u) → AreBindings s v own_vars own_values bs) → ((s : Table) (bs : Bindings) (u : Term) → RefersTo s v r (let_in bs u) → RefersTo s v body u) → HasNeeds (both s w) body inside → vars ≡ own_vars → values ≡ own_values → leaves ≡ inside → AreValuesOf m vars values → ((ks rs : List ℕ) → AreValuesOf m ks rs → AreValuesGiven leaves ks rs gs ps) → (t : Term) → RefersTo s v r t → IsLetWork (both s v) body gs ps t
let_work_from s v w x r body own_vars own_values vars values inside leaves gs ps m table e f one is_let bindings bodies needs same_vars same_values same_leaves by_leaves given =
    let_work s v r body vars values leaves gs ps m table (one_moved s v x (f ∙ e) one) is_let
    (λ z bs u refers. subst (λ (ks : List ℕ). AreBindings z v ks values bs) (sym same_vars) (subst (λ (rs : List ℕ). AreBindings z v own_vars rs bs) (sym same_values) (bindings z bs u refers)))
    bodies (needs_back s v w body inside leaves e same_leaves needs) by_leaves given

module _ (s : Table) (v : TermsView) (a : List Assigned) (r body : ℕ) (gs ps : List ℕ) (table : IsTable s) (work : (t : Term) → RefersTo s v r t → IsLetWork (both s v) body gs ps t) where
  terms_of : (t : Term) (w : IsLetWork (both s v) body gs ps t) → HasGivenTerms s v w.bindings w.inner gs ps
  terms_of t w =
      need.given-terms s v table w.vars w.values w.bindings w.inner w.bound w.leaves (need.leaves-needed s w.leaves w.inner w.needed) gs ps w.given.are

  says_let : (t : Term) (q : Replacement) (w : IsLetWork (both s v) body gs ps t) → Says (both s v) a q t → Says (both s v) a q (let_in w.bindings w.inner)
  says_let t q w says = subst (λ (x : Term). Says (both s v) a q x) w.is says

  pub values_said : IsSaid (both s v) a r → AreSaid (both s v) a ps
  values_said h =
      let w = work h.means h.refers in
      let g = terms_of h.means w in
      record {
        means = g.means;
        refer = g.refer;
        puts = h.puts;
        says = need.given-says s v w.bindings w.inner gs g.means a h.puts g.are (says_let h.means h.puts w h.says);
      }

  pub values_placed : (z : TermsView) → PlacesAll (both s v) z a ps → PlacesOne (both s v) z a r
  values_placed z h t q whole refers says part =
      let w = work t refers in
      let g = terms_of t w in
      h g.means q whole g.refer
      (need.given-says s v w.bindings w.inner gs g.means a q g.are (says_let t q w says))
      (need.given-parts s w.bindings w.inner gs g.means q whole g.are (subst (λ (x : Term). HasPart s whole (replaced q x)) w.is part))

  pub values_full : (z : TermsView) → FillsAll (both s v) z a ps → FillsOne (both s v) z a r
  values_full z h t q whole refers says part =
      let w = work t refers in
      let g = terms_of t w in
      h g.means q whole g.refer
      (need.given-says s v w.bindings w.inner gs g.means a q g.are (says_let t q w says))
      (need.given-parts s w.bindings w.inner gs g.means q whole g.are (subst (λ (x : Term). HasPart s whole (replaced q x)) w.is part))

  module _ (z : TermsView) (keeps : KeepsTerms v z) (is : List ℕ) (expands : ExpandsAll (both s v) z a ps is) where
    body_says : (t : Term) (q : Replacement) → (w : IsLetWork (both s v) body gs ps t) → Says (both s v) a q t → Says (both s z) (assigned_all gs is a) (replaced_bindings q w.bindings ++ q) w.inner
    body_says t q w says =
        let g = terms_of t w in
        need.inside-says s v z table (refers-grow s v z keeps) w.vars w.values w.bindings w.inner w.bound w.leaves w.needed gs ps w.given g.means g.are is a q (says_let t q w says)
        (expands g.means q g.refer (need.given-says s v w.bindings w.inner gs g.means a q g.are (says_let t q w says)))

    pub body_said : IsSaid (both s v) a r → IsSaid (both s z) (assigned_all gs is a) body
    body_said h =
        let w = work h.means h.refers in
        record {
          means = w.inner;
          refers = refers-grow s v z keeps body w.inner w.inside;
          puts = replaced_bindings h.puts w.bindings ++ h.puts;
          says = body_says h.means h.puts w h.says;
        }

    let_becomes : (t : Term) (q : Replacement) (w : IsLetWork (both s v) body gs ps t) → replaced q t ≡ replaced (replaced_bindings q w.bindings ++ q) w.inner
    unfolding replaced
    let_becomes t q w = ap (replaced q) w.is

    pub let_expanded : (y : TermsView) (i : ℕ) → ExpandsOne (both s z) y (assigned_all gs is a) body i → ExpandsOne (both s v) y a r i
    let_expanded y i h t q refers says =
        let w = work t refers in
        subst (λ (x : Term). RefersTo s y i x) (sym (let_becomes t q w))
        (h w.inner (replaced_bindings q w.bindings ++ q) (refers-grow s v z keeps body w.inner w.inside) (body_says t q w says))

    pub let_placed : (y : TermsView) → KeepsTerms z y → PlacesAll (both s v) z a ps → PlacesOne (both s z) y (assigned_all gs is a) body → PlacesOne (both s v) y a r
    let_placed y later before last t q whole refers says part =
        let w = work t refers in
        placed-trans v.pass z.pass y.pass whole later.pass (values_placed z before t q whole refers says part)
        (last w.inner (replaced_bindings q w.bindings ++ q) whole (refers-grow s v z keeps body w.inner w.inside) (body_says t q w says) (subst (λ (x : Term). HasPart s whole x) (let_becomes t q w) part))

    pub let_full : (y : TermsView) → FillsOne (both s z) y (assigned_all gs is a) body → FillsOne (both s v) y a r
    let_full y last t q whole refers says part =
        let w = work t refers in
        last w.inner (replaced_bindings q w.bindings ++ q) whole (refers-grow s v z keeps body w.inner w.inside) (body_says t q w says) (subst (λ (x : Term). HasPart s whole x) (let_becomes t q w) part)
