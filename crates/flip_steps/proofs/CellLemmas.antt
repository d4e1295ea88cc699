-- Private. Cells that are remembered are among those of the terms in which they stand, so there are no more of them.
use Rattle.std.proofs.Common.{◌≡◌, ◌≢◌, ◌<◌, ◌≤◌, ◌⊎◌, inl, inr, ℕ, suc, Bool, true, false, List, [], ◌∷◌, length, map, get_or, Some}
use Rattle.std.proofs.Common.{Contains, eqb, nat_eq, if◌then◌else◌}
use Rattle.std.proofs.Common.{refl, sym, ◌∙◌, subst, arith}
use Rattle.std.proofs.lemmas.Bool.Decides.{eqb_tells}
use Rattle.std.proofs.lemmas.List.{length-map}
use Rattle.std.proofs.lemmas.Map.Steps.{length-le_from_distinct_below}
use Rattle.std.specs.HashMap.{keys}
use Rattle.std.specs.List.{AllZip, AllByRecursion, IsDistinct, list_any}
use Rattle.std.specs.Map.{lookup}
use Rattle.pair_pool.specs.Trees.{Tree, leaf, cell}
use Rattle.pair_pool.specs.Views.{IsOneToOne, HasPartsOfTrees, Knows, PassView}
use Rattle.sym_table.specs.Leaf.{Leaf, operator}
use Rattle.sym_table.specs.Table.{Table, IsTable}
use Rattle.term_model.specs.Terms.{Term, numeral, variable, operation, call, let_in, Terms, no_terms, term, list_of}
use Rattle.term_model.proofs.Lists.{contains_cases, contains_head, contains_later, contains_none}
use Rattle.term_pool.specs.CellCounts.{Has, AreApart, IsPartOfAny, CountsCells}
use Rattle.term_pool.specs.Reading.{arguments_of}
use Rattle.term_pool.specs.StandsFor.{StandsFor, StandsForApplication, StandsForList, function_leaf}
use Rattle.term_pool.specs.Trees.{IsPartOf, IsCellTree}
use Rattle.term_pool.specs.Views.{TermsView, KnowsAll, RefersTo, ReferToAll}
use Rattle.term_pool.proofs.TermLemmas.{equal_where}
use Rattle.term_pool.proofs.Keeping.{part-refl, part-trans}
use Rattle.flip_steps.specs.declared.forms.Formed.{Formed}
use Rattle.flip_steps.specs.declared.forms.Forms.{Forms}
use Rattle.flip_steps.specs.Memory.{IsCellWithinAny, IsRemembered, count_of}
use Rattle.flip_steps.specs.Subterms.{IsWithin, whole, argument, IsWithinAny, HasDifferent}

-- by one table a term has one tree
abbrev pub HaveOneTree : Type 0
HaveOneTree = (s : Table) (a b : Tree) (t : Term) → IsTable s → StandsFor s a t → StandsFor s b t → a ≡ b

-- places in a list, and lists without repeats
place_of : (xs : List Tree) (x : Tree) → Has xs x → (n : ℕ) × (n < length xs) × (get_or xs n (leaf 0) ≡ x)
place_of [] x h = absurd h
place_of (y ∷ xs) x (inl e) = (0, omega arith, sym e)
place_of (y ∷ xs) x (inr h) = let found = place_of xs x h in let less = found.1 in (suc found.0, omega arith, found.2)

any_has : (xs : List ℕ) (x : ℕ) → list_any (nat_eq x) xs ≡ true → Has xs x
any_has [] x h = absurd (cc)
any_has (y ∷ xs) x h = go (eqb_tells x y) (any_has xs x)
  where
    go : ((eqb x y ≡ true) × (x ≡ y)) ⊎ ((eqb x y ≡ false) × (x ≢ y)) → (list_any (nat_eq x) xs ≡ true → Has xs x) → Has (y ∷ xs) x
    go (inl e) rest = inl e.1
    go (inr e) rest = inr (rest (rw e.0 at h))

distinct_from_apart : (xs : List ℕ) → AreApart xs → IsDistinct eqb xs
unfolding IsDistinct
distinct_from_apart [] h = tt
distinct_from_apart (x ∷ xs) h = (others xs h.0, distinct_from_apart xs h.1)
  where
    others : (ys : List ℕ) → (Has ys x → ⊥) → AllByRecursion (λ y. eqb x y ≡ false) ys
    others [] new = tt
    others (y ∷ ys) new = (go (eqb_tells x y), others ys (λ k. new (inr k)))
      where
        go : ((eqb x y ≡ true) × (x ≡ y)) ⊎ ((eqb x y ≡ false) × (x ≢ y)) → eqb x y ≡ false
        go (inl e) = absurd (new (inl e.1))
        go (inr e) = e.0

-- the tree of what stands in a term is a part of its tree
record HasPartTree (s : Table) (tree : Tree) (t : Term) : Type 0 where
  part : Tree
  stands : StandsFor s part t
  is : IsPartOf part tree

module _ (s : Table) where
  list_part : (ts : Terms) (list : Tree) (a : Term) → StandsForList s list ts → Contains (list_of ts) a → HasPartTree s list a
  list_part no_terms list a stands there = absurd (contains_none a there)
  list_part (term t ts) (leaf k) a stands there = absurd stands
  list_part (term t ts) (cell first rest) a (here, later) there = go (λ k. list_part ts rest a later k) (contains_cases t a (list_of ts) there)
    where
      go : (Contains (list_of ts) a → HasPartTree s rest a) → (t ≡ a) ⊎ Contains (list_of ts) a → HasPartTree s (cell first rest) a
      go behind (inl e) = record { part = first; stands = subst (StandsFor s first) e here; is = inr (inl (part-refl first)) }
      go behind (inr k) = let found = behind k in record { part = found.part; stands = found.stands; is = inr (inr found.is) }

  application_part : (l : Leaf) (ts : Terms) (tree : Tree) (a : Term) → StandsForApplication s tree l ts → Contains (list_of ts) a → HasPartTree s tree a
  application_part l no_terms tree a stands there = absurd (contains_none a there)
  application_part l (term t ts) (leaf k) a stands there = absurd stands
  application_part l (term t ts) (cell head list) a (here, later) there =
      let found = list_part (term t ts) list a later there in
      record { part = found.part; stands = found.stands; is = inr (inr found.is) }

  argument_part : (t a : Term) (tree : Tree) → StandsFor s tree t → Contains (arguments_of t) a → HasPartTree s tree a
  argument_part (numeral n) a tree stands there = absurd (contains_none a there)
  argument_part (variable x) a tree stands there = absurd (contains_none a there)
  argument_part (operation op ts) a tree stands there = application_part (operator op) ts tree a stands there
  argument_part (call f ts) a tree stands there = application_part (function_leaf f) ts tree a stands there
  argument_part (let_in bs u) a tree stands there = absurd (contains_none a there)

  within_part : (t u : Term) (tree : Tree) → IsWithin t u → StandsFor s tree t → HasPartTree s tree u
  within_part t _ tree whole stands = record { part = tree; stands = stands; is = part-refl tree }
  within_part t _ tree (argument u a h there) stands =
      let outer = within_part t u tree h stands in
      let inner = argument_part u a outer.part outer.stands there in
      record { part = inner.part; stands = inner.stands; is = part-trans inner.part outer.part tree inner.is outer.is }

-- the trees of known references
record HasTree (pass : PassView) (trees : List Tree) (r : ℕ) : Type 0 where
  tree : Tree
  known : Knows pass r tree
  part : (t : Tree) → IsPartOf t tree → IsPartOfAny t trees

root_tree : (pass : PassView) (roots : List ℕ) (trees : List Tree) (r : ℕ) → KnowsAll pass roots trees → Contains roots r → HasTree pass trees r
root_tree pass [] trees r h there = absurd (contains_none r there)
root_tree pass (x ∷ roots) [] r h there = absurd h
root_tree pass (x ∷ roots) (tree ∷ trees) r h there = go (λ k. root_tree pass roots trees r h.1 k) (contains_cases x r roots there)
  where
    go : (Contains roots r → HasTree pass trees r) → (x ≡ r) ⊎ Contains roots r → HasTree pass (tree ∷ trees) r
    go behind (inl e) = record { tree = tree; known = subst (λ z. Knows pass z tree) e h.0; part = λ t k. inl k }
    go behind (inr k) = let found = behind k in record { tree = found.tree; known = found.known; part = λ t z. inr (found.part t z) }

-- a reference whose tree has this place among some
record IsAtPlace (pass : PassView) (cells : List Tree) (r place : ℕ) : Type 0 where
  tree : Tree
  known : Knows pass r tree
  below : place < length cells
  is : get_or cells place (leaf 0) ≡ tree

cell_there : HaveOneTree → (s : Table) (v : TermsView) → IsTable s → IsOneToOne v.pass → HasPartsOfTrees v.pass → (roots : List ℕ) (trees : List Tree) (n : ℕ)
    → KnowsAll v.pass roots trees → (counts : CountsCells trees n) → (r : ℕ) → IsCellWithinAny s v roots r → (place : ℕ) × IsAtPlace v.pass counts.cells r place
cell_there one_tree s v table one parts roots trees n known counts r h =
    let stands = h.within.stands in
    let root = root_tree v.pass roots trees h.root known h.among in
    let whole_is : stands.whole_refers.tree ≡ root.tree = one.one_tree h.root stands.whole_refers.tree root.tree stands.whole_refers.known root.known in
    let part = within_part s stands.whole stands.term stands.whole_refers.tree stands.within stands.whole_refers.stands in
    let part_is : part.part ≡ stands.refers.tree = one_tree s part.part stands.refers.tree stands.term table part.stands stands.refers.stands in
    let among = root.part stands.refers.tree (subst (λ x. IsPartOf x root.tree) part_is (subst (IsPartOf part.part) whole_is part.is)) in
    let there = counts.complete stands.refers.tree (is_cell stands.refers.tree stands.refers.known) among in
    let found = place_of counts.cells stands.refers.tree there in
    (found.0, record { tree = stands.refers.tree; known = stands.refers.known; below = found.1; is = found.2 })
  where
    is_cell : (t : Tree) → Knows v.pass r t → IsCellTree t
    is_cell (leaf k) knows = let low = parts.leaf_number r k knows in let high = h.within.cell in absurd (omega (arith, low.0, low.1, high))
    is_cell (cell a b) knows = tt

-- Items in step with references, each of one reference: there are as many, and those of references that are apart are apart.
module _ (B : Type 0) (R : ℕ → B → Type 0) (one : (q r : ℕ) (b : B) → R q b → R r b → q ≡ r) where
  has_of : (rs : List ℕ) (bs : List B) (b : B) → AllZip R rs bs → Has bs b → (r : ℕ) × Has rs r × R r b
  has_of [] [] b h there = absurd there
  has_of [] (y ∷ bs) b h there = absurd h
  has_of (r ∷ rs) [] b h there = absurd h
  has_of (r ∷ rs) (y ∷ bs) b h (inl e) = (r, inl refl, subst (R r) (sym e) h.0)
  has_of (r ∷ rs) (y ∷ bs) b h (inr there) = let found = has_of rs bs b h.1 there in (found.0, inr found.1, found.2)

  all_apart : (rs : List ℕ) (bs : List B) → AllZip R rs bs → AreApart rs → AreApart bs
  all_apart [] [] h apart = tt
  all_apart [] (y ∷ bs) h apart = absurd h
  all_apart (r ∷ rs) [] h apart = absurd h
  all_apart (r ∷ rs) (y ∷ bs) h apart = (
    λ there. let found = has_of rs bs y h.1 there in apart.0 (subst (Has rs) (one found.0 r y found.2 h.0) found.1),
    all_apart rs bs h.1 apart.1,
  )

  same_length : (rs : List ℕ) (bs : List B) → AllZip R rs bs → length rs ≡ length bs
  same_length [] [] h = refl
  same_length [] (y ∷ bs) h = absurd h
  same_length (r ∷ rs) [] h = absurd h
  same_length (r ∷ rs) (y ∷ bs) h = let e = same_length rs bs h.1 in omega (arith, e)

-- where each reference has one
all_items : (B : Type 0) (R : ℕ → B → Type 0) (rs : List ℕ) → ((r : ℕ) → Has rs r → (b : B) × R r b) → (bs : List B) × AllZip R rs bs
all_items B R [] h = ([], tt)
all_items B R (r ∷ rs) h =
    let here = h r (inl refl) in
    let rest = all_items B R rs (λ q there. h q (inr there)) in
    (here.0 ∷ rest.0, (here.1, rest.1))

-- places in a list of cells
module _ (pass : PassView) (one : IsOneToOne pass) (cells : List Tree) where
  one_place : (q r place : ℕ) → IsAtPlace pass cells q place → IsAtPlace pass cells r place → q ≡ r
  one_place q r place h k = one.one_reference q r h.tree h.known (subst (Knows pass r) (sym k.is ∙ h.is) k.known)

  few_places : (rs places : List ℕ) → AllZip (IsAtPlace pass cells) rs places → AreApart rs → length places ≤ length cells
  few_places rs places h apart =
      length-le_from_distinct_below places (length cells) (distinct_from_apart places (all_apart ℕ (IsAtPlace pass cells) one_place rs places h apart))
      (λ q e. let found = has_of ℕ (IsAtPlace pass cells) one_place rs places q h (any_has places q e) in found.2.below)

-- the keys of a map
apart_from_distinct : (ks : List ℕ) → IsDistinct eqb ks → AreApart ks
unfolding IsDistinct
apart_from_distinct [] h = tt
apart_from_distinct (k ∷ ks) h = (others ks h.0, apart_from_distinct ks h.1)
  where
    others : (ys : List ℕ) → AllByRecursion (λ y. eqb k y ≡ false) ys → Has ys k → ⊥
    others [] all there = there
    others (y ∷ ys) all (inl e) = differs (eqb_tells k y)
      where
        differs : ((eqb k y ≡ true) × (k ≡ y)) ⊎ ((eqb k y ≡ false) × (k ≢ y)) → ⊥
        differs (inl same) = absurd (let f : true ≡ false = sym same.0 ∙ all.0 in cc)
        differs (inr apart) = apart.1 e
    others (y ∷ ys) all (inr there) = others ys all.1 there

key_found : (entries : List (ℕ × Formed)) (k : ℕ) → Has (map (λ (e : ℕ × Formed). e.0) entries) k → (x : Formed) × (lookup (nat_eq k) entries ≡ Some x)
key_found [] k there = absurd there
key_found (e ∷ entries) k there = go (λ later. key_found entries k later) there (nat_eq k e.0) refl
  where
    go : (Has (map (λ (z : ℕ × Formed). z.0) entries) k → (x : Formed) × (lookup (nat_eq k) entries ≡ Some x))
        → (k ≡ e.0) ⊎ Has (map (λ (z : ℕ × Formed). z.0) entries) k
        → (b : Bool) → nat_eq k e.0 ≡ b → (x : Formed) × ((if b then Some e.1 else lookup (nat_eq k) entries) ≡ Some x)
    go behind h true d = (e.1, refl)
    go behind (inl same) false d = absurd (let other : k ≢ e.0 = grind arith in other same)
    go behind (inr later) false d = behind later

pub few_cells : HaveOneTree → (s : Table) (v : TermsView) (forms : Forms) → IsDistinct nat_eq (keys forms.formed) → IsTable s → IsOneToOne v.pass
    → HasPartsOfTrees v.pass
    → (roots : List ℕ) (trees : List Tree) (n : ℕ) → ((r : ℕ) → IsRemembered forms r → IsCellWithinAny s v roots r) → KnowsAll v.pass roots trees
    → CountsCells trees n
    → count_of forms ≤ n
few_cells one_tree s v forms distinct table one parts roots trees n within known counts =
    let rs = keys forms.formed in
    let found = all_items ℕ (IsAtPlace v.pass counts.cells) rs place in
    let few = few_places v.pass one counts.cells rs found.0 found.1 (apart_from_distinct rs distinct) in
    let long = same_length ℕ (IsAtPlace v.pass counts.cells) (one_place v.pass one counts.cells) rs found.0 found.1 in
    let whole = length-map forms.formed.entries (λ (e : ℕ × Formed). e.0) in
    let count = counts.count in
    omega (arith, few, long, whole, count)
  where
    place : (r : ℕ) → Has (keys forms.formed) r → (p : ℕ) × IsAtPlace v.pass counts.cells r p
    place r there =
        let found = key_found forms.formed.entries r there in
        cell_there one_tree s v table one parts roots trees n known counts r (within r (record { formed = found.0; is = found.1 }))

-- the reference stands for a term that stands in one of these
record IsPartWithin (s : Table) (v : TermsView) (ts : List Term) (r : ℕ) (t : Term) : Type 0 where
  refers : RefersTo s v r t
  within : IsWithinAny ts t

root_term : (s : Table) (v : TermsView) (roots : List ℕ) (ts : List Term) (r : ℕ) → ReferToAll s v roots ts → Contains roots r
    → (t : Term) × Contains ts t × RefersTo s v r t
root_term s v [] ts r h there = absurd (contains_none r there)
root_term s v (x ∷ roots) [] r h there = absurd h
root_term s v (x ∷ roots) (t ∷ ts) r h there = go (λ k. root_term s v roots ts r h.1 k) (contains_cases x r roots there)
  where
    go : (Contains roots r → (u : Term) × Contains ts u × RefersTo s v r u) → (x ≡ r) ⊎ Contains roots r → (u : Term) × Contains (t ∷ ts) u × RefersTo s v r u
    go behind (inl e) = (t, contains_head t ts, subst (λ z. RefersTo s v z t) e h.0)
    go behind (inr k) = let found = behind k in (found.0, contains_later t found.0 ts found.1, found.2)

pub different_terms : (s : Table) (v : TermsView) (forms : Forms) → IsDistinct nat_eq (keys forms.formed) → IsTable s → IsOneToOne v.pass
    → (roots : List ℕ) (ts : List Term)
    → ReferToAll s v roots ts → ((r : ℕ) → IsRemembered forms r → IsCellWithinAny s v roots r) → HasDifferent ts (count_of forms)
different_terms s v forms distinct table one roots ts refer within =
    let rs = keys forms.formed in
    let found = all_items Term (IsPartWithin s v ts) rs part in
    let long = same_length Term (IsPartWithin s v ts) one_part rs found.0 found.1 in
    let whole = length-map forms.formed.entries (λ (e : ℕ × Formed). e.0) in
    record {
      terms = found.0;
      apart = all_apart Term (IsPartWithin s v ts) one_part rs found.0 found.1 (apart_from_distinct rs distinct);
      within = λ t there. let h = has_of Term (IsPartWithin s v ts) one_part rs found.0 t found.1 there in h.2.within;
      count = omega (arith, long, whole);
    }
  where
    one_part : (q r : ℕ) (t : Term) → IsPartWithin s v ts q t → IsPartWithin s v ts r t → q ≡ r
    one_part q r t h k = (equal_where s v table one q r t t h.refers k.refers).1 refl

    part : (r : ℕ) → Has (keys forms.formed) r → (t : Term) × IsPartWithin s v ts r t
    part r there =
        let found = key_found forms.formed.entries r there in
        let any = within r (record { formed = found.0; is = found.1 }) in
        let stands = any.within.stands in
        let root = root_term s v roots ts any.root refer any.among in
        let same : stands.whole ≡ root.0 = (equal_where s v table one any.root any.root stands.whole root.0 stands.whole_refers root.2).0 refl in (
          stands.term,
          record {
            refers = stands.refers;
            within = record { root = root.0; among = root.1; within = subst (λ x. IsWithin x stands.term) same stands.within };
          },
        )
