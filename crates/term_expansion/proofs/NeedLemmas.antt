-- Cited by crates above. What terms need: what is put in for it alone says what they become, and is in what they become.
use Rattle.std.proofs.Common.{◌≡◌, ◌≢◌, ℕ, ◌<◌, ◌⊎◌, inl, inr, zero, suc, refl, sym, ◌∙◌, ap, subst, arith, List, [], ◌∷◌, ◌++◌, map, length, get_or, Some, None, Option, Bool, true, false, cond, eqb, nat_eq, if◌then◌else◌, Contains}
use Rattle.std.specs.List.{AllZip}
use Rattle.std.specs.Cmp.Lexicographic.{pointwise}
use Rattle.std.proofs.lemmas.Bool.Decides.{eqb_tells, Decides-eqb}
use Rattle.std.proofs.lemmas.Slice.Eq.{slice_eq-Decides}
use Rattle.std.proofs.lemmas.Bool.{true≢false}
use Rattle.pair_pool.specs.Trees.{Tree, leaf, cell}
use Rattle.sym_table.specs.Leaf.{Leaf, operator}
use Rattle.sym_table.specs.Table.{Table, IsLeaf, IsTable}
use Rattle.term_model.specs.Terms.{Var, var_eq, Term, numeral, variable, operation, call, let_in, Terms, no_terms, term, list_of, Bindings, no_bindings, binding}
use Rattle.term_model.proofs.Tests.{var_eq_decides}
use Rattle.term_model.proofs.Basics.{same_some}
use Rattle.term_pool.proofs.Keeping.{part-refl, part-trans}
use Rattle.term_pool.proofs.Leaves.{leaf_variable, one_leaf}
use Rattle.term_pool.specs.Building.{AreBindings}
use Rattle.term_pool.specs.Reading.{arguments_of, IsLet}
use Rattle.term_pool.specs.StandsFor.{variable_leaf, function_leaf, StandsForApplication, StandsForList}
use Rattle.term_pool.specs.Trees.{IsPartOf}
use Rattle.term_pool.specs.Views.{TermsView, RefersTo, ReferToAll, KeepsTerms}
use Rattle.term_expansion.specs.Assigned.{term_of, assigned_all}
use Rattle.term_expansion.specs.Expanding.{AreVariables, Says, SaysAll, HasPart, HasPartTerms, pairs_of, key_of, Done, AreDone, AreGiven, AreValuesGiven}
use Rattle.term_expansion.specs.Free.{AddsLeaves}
use Rattle.term_expansion.specs.Needs.{IsNeeded, IsNeededAmong, IsNeededFor, value_of, Needs, AreNeeds}
use Rattle.rule_model.specs.Replacement.{Replacement, replaced_by, replaced, replaced_all, replaced_bindings}
use Rattle.term_expansion.specs.declared.assignments.Assigned.{Assigned}
use Rattle.term_expansion.specs.SymbolsAndTerms.{both}

-- what is put in alike for all that a term needs
mutual
  unfolding replaced

  pub replaced-same : (t : Term) (p q : Replacement) → ((x : Var) → IsNeeded x t → replaced_by p x ≡ replaced_by q x) → replaced p t ≡ replaced q t
  replaced-same (numeral n) p q h = refl
  replaced-same (variable x) p q h = h x refl
  replaced-same (operation op ts) p q h = ap (operation op) (replaced_all-same ts p q h)
  replaced-same (call f ts) p q h = ap (call f) (replaced_all-same ts p q h)
  replaced-same (let_in bs t) p q h =
      replaced-same t (replaced_bindings p bs ++ p) (replaced_bindings q bs ++ q)
      (λ y n. replaced_bindings-same bs y p q (λ x m. h x (y, n, m)))

  pub replaced_all-same : (ts : Terms) (p q : Replacement) → ((x : Var) → IsNeededAmong x ts → replaced_by p x ≡ replaced_by q x) → replaced_all p ts ≡ replaced_all q ts
  replaced_all-same no_terms p q h = refl
  replaced_all-same (term t ts) p q h =
      let e = replaced-same t p q (λ x n. h x (inl n)) in
      let f = replaced_all-same ts p q (λ x n. h x (inr n)) in
      cc

  pub replaced_bindings-same : (bs : Bindings) (y : Var) (p q : Replacement) → ((x : Var) → IsNeededFor x bs y → replaced_by p x ≡ replaced_by q x) → replaced_by (replaced_bindings p bs ++ p) y ≡ replaced_by (replaced_bindings q bs ++ q) y
  replaced_bindings-same no_bindings y p q h = h y refl
  replaced_bindings-same (binding z t bs) y p q h =
      go (var_eq z y) refl
      (λ e. replaced-same t p q (λ x n. h x (inl (e, n))))
      (λ d. replaced_bindings-same bs y p q (λ x n. h x (inr (d, n))))
    where
      go : (b : Bool) → var_eq z y ≡ b → (z ≡ y → replaced p t ≡ replaced q t) → (z ≢ y → replaced_by (replaced_bindings p bs ++ p) y ≡ replaced_by (replaced_bindings q bs ++ q) y) → (if b then replaced p t else replaced_by (replaced_bindings p bs ++ p) y) ≡ (if b then replaced q t else replaced_by (replaced_bindings q bs ++ q) y)
      go true e first rest = first ((var_eq_decides z y).0 e)
      go false e first rest = rest (λ same. let f = (var_eq_decides z y).1 same in absurd cc)

-- parts of trees
-- the parts of an application
list-parts : (s : Table) (whole : Tree) (ts : Terms) (tree : Tree) → StandsForList s tree ts → IsPartOf tree whole → HasPartTerms s whole (list_of ts)
list-parts s whole no_terms tree h part = tt
list-parts s whole (term t ts) (leaf k) h part = absurd h
list-parts s whole (term t ts) (cell a b) h part =
    (record { tree = a; stands = h.0; part = part-trans a (cell a b) whole (inr (inl (part-refl a))) part }, list-parts s whole ts b h.1 (part-trans b (cell a b) whole (inr (inr (part-refl b))) part))

application-parts : (s : Table) (whole : Tree) (l : Leaf) (ts : Terms) (tree : Tree) → StandsForApplication s tree l ts → IsPartOf tree whole → HasPartTerms s whole (list_of ts)
application-parts s whole l no_terms tree h part = tt
application-parts s whole l (term t ts) (leaf k) h part = absurd h
application-parts s whole l (term t ts) (cell a b) h part =
    list-parts s whole (term t ts) b h.1 (part-trans b (cell a b) whole (inr (inr (part-refl b))) part)

mutual
  unfolding replaced

  -- what is put in for a variable that a term needs is a part of what the term becomes
  pub needed-part : (s : Table) (t : Term) (x : Var) (q : Replacement) (whole : Tree) → IsNeeded x t → HasPart s whole (replaced q t) → HasPart s whole (replaced_by q x)
  needed-part s (numeral n) x q whole need h = absurd need
  needed-part s (variable y) x q whole need h = subst (λ (z : Var). HasPart s whole (replaced_by q z)) need h
  needed-part s (operation op ts) x q whole need h =
      needed-part_among s ts x q whole need (application-parts s whole (operator op) (replaced_all q ts) h.tree h.stands h.part)
  needed-part s (call f ts) x q whole need h =
      needed-part_among s ts x q whole need (application-parts s whole (function_leaf f) (replaced_all q ts) h.tree h.stands h.part)
  needed-part s (let_in bs t) x q whole need h =
      needed-part_for s bs need.0 x q whole need.2 (needed-part s t need.0 (replaced_bindings q bs ++ q) whole need.1 h)

  needed-part_among : (s : Table) (ts : Terms) (x : Var) (q : Replacement) (whole : Tree) → IsNeededAmong x ts → HasPartTerms s whole (list_of (replaced_all q ts)) → HasPart s whole (replaced_by q x)
  needed-part_among s no_terms x q whole need h = absurd need
  needed-part_among s (term t ts) x q whole (inl need) h = needed-part s t x q whole need h.0
  needed-part_among s (term t ts) x q whole (inr need) h = needed-part_among s ts x q whole need h.1

  needed-part_for : (s : Table) (bs : Bindings) (y x : Var) (q : Replacement) (whole : Tree) → IsNeededFor x bs y → HasPart s whole (replaced_by (replaced_bindings q bs ++ q) y) → HasPart s whole (replaced_by q x)
  needed-part_for s no_bindings y x q whole need h = subst (λ (z : Var). HasPart s whole (replaced_by q z)) need h
  needed-part_for s (binding z t bs) y x q whole need h =
      go (var_eq z y) refl need h (λ n k. needed-part s t x q whole n k) (λ n k. needed-part_for s bs y x q whole n k)
    where
      go : (b : Bool) → var_eq z y ≡ b → ((z ≡ y) × IsNeeded x t) ⊎ ((¬ (z ≡ y)) × IsNeededFor x bs y) → HasPart s whole (if b then replaced q t else replaced_by (replaced_bindings q bs ++ q) y) → (IsNeeded x t → HasPart s whole (replaced q t) → HasPart s whole (replaced_by q x)) → (IsNeededFor x bs y → HasPart s whole (replaced_by (replaced_bindings q bs ++ q) y) → HasPart s whole (replaced_by q x)) → HasPart s whole (replaced_by q x)
      go true e (inl n) k first rest = first n.1 k
      go true e (inr n) k first rest = absurd (n.0 ((var_eq_decides z y).0 e))
      go false e (inl n) k first rest = let f = (var_eq_decides z y).1 n.0 in absurd cc
      go false e (inr n) k first rest = rest n.1 k

-- arguments
arguments-replaced : (q : Replacement) (ts : Terms) → list_of (replaced_all q ts) ≡ map (replaced q) (list_of ts)
unfolding replaced
arguments-replaced q no_terms = refl
arguments-replaced q (term t ts) = ap (λ us. replaced q t ∷ us) (arguments-replaced q ts)

pub argument-parts : (s : Table) (q : Replacement) (whole : Tree) (t : Term) → (IsLet t → ⊥) → HasPart s whole (replaced q t) → HasPartTerms s whole (map (replaced q) (arguments_of t))
unfolding replaced
argument-parts s q whole (numeral n) plain h = tt
argument-parts s q whole (variable x) plain h = tt
argument-parts s q whole (operation op ts) plain h =
    subst (HasPartTerms s whole) (arguments-replaced q ts) (application-parts s whole (operator op) (replaced_all q ts) h.tree h.stands h.part)
argument-parts s q whole (call f ts) plain h =
    subst (HasPartTerms s whole) (arguments-replaced q ts) (application-parts s whole (function_leaf f) (replaced_all q ts) h.tree h.stands h.part)
argument-parts s q whole (let_in bs u) plain h = absurd (plain tt)

among-says : (s : Table) (v : TermsView) (assigned : List Assigned) (q : Replacement) (ts : Terms) → AreVariables s assigned → ((k : ℕ) (x : Var) → IsLeaf s k (variable_leaf x) → IsNeededAmong x ts → RefersTo s v (term_of k assigned) (replaced_by q x)) → SaysAll (both s v) assigned q (list_of ts)
among-says s v assigned q no_terms vars h = tt
among-says s v assigned q (term t ts) vars h =
    (record { variables = vars; puts = λ k x g n. h k x g (inl n) }, among-says s v assigned q ts vars (λ k x g n. h k x g (inr n)))

pub argument-says : (s : Table) (v : TermsView) (assigned : List Assigned) (q : Replacement) (t : Term) → (IsLet t → ⊥) → Says (both s v) assigned q t → SaysAll (both s v) assigned q (arguments_of t)
argument-says s v assigned q (numeral n) plain h = tt
argument-says s v assigned q (variable x) plain h = tt
argument-says s v assigned q (operation op ts) plain h = among-says s v assigned q ts h.variables h.puts
argument-says s v assigned q (call f ts) plain h = among-says s v assigned q ts h.variables h.puts
argument-says s v assigned q (let_in bs u) plain h = absurd (plain tt)

-- lists
pub contains-here : (x : ℕ) (xs : List ℕ) → Contains (x ∷ xs) x
contains-here x xs = (zero, omega arith, refl)

pub contains-cases : (y : ℕ) (xs : List ℕ) (x : ℕ) → Contains (y ∷ xs) x → (y ≡ x) ⊎ Contains xs x
contains-cases y xs x h = go h.0 h.1 h.2
  where
    go : (i : ℕ) → i < length (y ∷ xs) → get_or (y ∷ xs) i x ≡ x → (y ≡ x) ⊎ Contains xs x
    go zero l e = inl e
    go (suc i) l e = inr (i, omega arith, e)

pub pairs_of-same : (a b : List Assigned) (ls ms : List ℕ) → pairs_of a ls ≡ pairs_of b ms → (ls ≡ ms) × ((k : ℕ) → Contains ls k → term_of k a ≡ term_of k b)
pairs_of-same a b [] [] e = (refl, λ k c. absurd (let l = c.1 in omega arith))
pairs_of-same a b [] (m ∷ ms) e = absurd cc
pairs_of-same a b (l ∷ ls) [] e = absurd cc
pairs_of-same a b (l ∷ ls) (m ∷ ms) e =
    let one : l ≡ m = cc in
    let two : term_of l a ≡ term_of m b = cc in
    let rest : pairs_of a ls ≡ pairs_of b ms = cc in
    join one two (pairs_of-same a b ls ms rest)
  where
    join : l ≡ m → term_of l a ≡ term_of m b → (ls ≡ ms) × ((k : ℕ) → Contains ls k → term_of k a ≡ term_of k b) → (l ∷ ls ≡ m ∷ ms) × ((k : ℕ) → Contains (l ∷ ls) k → term_of k a ≡ term_of k b)
    join one two rest = (
      let f = rest.0 in cc,
      λ k c. elim (contains-cases l ls k c) [
        | inl e ↦ ap (λ (j : ℕ). term_of j a) (sym e) ∙ two ∙ ap (λ (j : ℕ). term_of j b) (sym one ∙ e)
        | inr later ↦ rest.1 k later
      ],
    )

pub pairs-same : (a b : List Assigned) (r n : ℕ) (ls ms : List ℕ) → key_of r a ls ≡ key_of n b ms → (r ≡ n) × (ls ≡ ms) × ((k : ℕ) → Contains ls k → term_of k a ≡ term_of k b)
pairs-same a b r n ls ms e =
    let one : r ≡ n = cc in
    let rest : pairs_of a ls ≡ pairs_of b ms = cc in
    let f = pairs_of-same a b ls ms rest in
    (one, f.0, f.1)

-- leaves of variables
pub one_variable : (s : Table) (j k : ℕ) (x y : Var) → IsLeaf s j (variable_leaf x) → IsLeaf s k (variable_leaf y) → j ≡ k → x ≡ y
one_variable s j k x y g h e = let g2 : IsLeaf s k (variable_leaf x) = rw e at g in leaf_variable x y (same_some (sym g2 ∙ h))

-- the reference stands for what the let gives the variable
pub record IsBoundValue (s : Table) (v : TermsView) (bs : Bindings) (x : Var) (r : ℕ) : Type 0 where
  pub means : Term
  pub refers : RefersTo s v r means
  pub put : (q : Replacement) → replaced_by (replaced_bindings q bs ++ q) x ≡ replaced q means
  pub needs : (y : Var) → IsNeeded y means → IsNeededFor y bs x

-- the let does not bind the variable
pub record IsUnbound (bs : Bindings) (x : Var) : Type 0 where
  pub put : (q : Replacement) → replaced_by (replaced_bindings q bs ++ q) x ≡ replaced_by q x
  pub needs : IsNeededFor x bs x

bound-first : (s : Table) (v : TermsView) (bs : Bindings) (z x : Var) (t : Term) (r : ℕ) → z ≡ x → RefersTo s v r t → IsBoundValue s v (binding z t bs) x r
unfolding replaced
bound-first s v bs z x t r e refers = record {
  means = t;
  refers = refers;
  put = λ q. ap (λ (b : Bool). if b then replaced q t else replaced_by (replaced_bindings q bs ++ q) x) ((var_eq_decides z x).1 e);
  needs = λ y n. inl (e, n);
}

other_variable : (z x : Var) → z ≢ x → var_eq z x ≡ false
other_variable z x d = go (var_eq z x) refl
  where
    go : (b : Bool) → var_eq z x ≡ b → b ≡ false
    go true e = absurd (d ((var_eq_decides z x).0 e))
    go false e = refl

skipped : (bs : Bindings) (z x : Var) (t : Term) (q : Replacement) → z ≢ x → replaced_by (replaced_bindings q (binding z t bs) ++ q) x ≡ replaced_by (replaced_bindings q bs ++ q) x
unfolding replaced
skipped bs z x t q d = ap (λ (b : Bool). if b then replaced q t else replaced_by (replaced_bindings q bs ++ q) x) (other_variable z x d)

bound-later : (s : Table) (v : TermsView) (bs : Bindings) (z x : Var) (t : Term) (r : ℕ) → z ≢ x → IsBoundValue s v bs x r → IsBoundValue s v (binding z t bs) x r
bound-later s v bs z x t r d h = record {
  means = h.means;
  refers = h.refers;
  put = λ q. skipped bs z x t q d ∙ h.put q;
  needs = λ y n. inr (d, h.needs y n);
}

pub bound-value : (s : Table) (v : TermsView) → IsTable s → (ks rs : List ℕ) (bs : Bindings) → AreBindings s v ks rs bs → (k r : ℕ) (x : Var) → IsLeaf s k (variable_leaf x) → value_of k ks rs ≡ Some r → IsBoundValue s v bs x r
bound-value s v table [] rs bs h k r x g e = absurd cc
bound-value s v table (j ∷ ks) [] bs h k r x g e = absurd cc
bound-value s v table (j ∷ ks) (i ∷ rs) no_bindings h k r x g e = absurd h
bound-value s v table (j ∷ ks) (i ∷ rs) (binding z t bs) h k r x g e =
    go (eqb j k) (eqb_tells j k) e (λ f. bound-value s v table ks rs bs h.2 k r x g f)
  where
    go : (b : Bool) → ((b ≡ true) × (j ≡ k)) ⊎ ((b ≡ false) × (j ≢ k)) → cond b (Some i) (value_of k ks rs) ≡ Some r → (value_of k ks rs ≡ Some r → IsBoundValue s v bs x r) → IsBoundValue s v (binding z t bs) x r
    go true (inl both) f rest =
        bound-first s v bs z x t r (one_variable s j k z x h.0 g both.1) (subst (λ (n : ℕ). RefersTo s v n t) (same_some f) h.1)
    go true (inr both) f rest = absurd (true≢false both.0)
    go false (inl both) f rest = absurd (true≢false (sym both.0))
    go false (inr both) f rest = bound-later s v bs z x t r (λ same. both.1 (one_leaf s table j k z x h.0 g same)) (rest f)

pub unbound-value : (s : Table) (v : TermsView) → IsTable s → (ks rs : List ℕ) (bs : Bindings) → AreBindings s v ks rs bs → (k : ℕ) (x : Var) → IsLeaf s k (variable_leaf x) → value_of k ks rs ≡ None → IsUnbound bs x
unfolding replaced
unbound-value s v table [] [] no_bindings h k x g e = record { put = λ q. refl; needs = refl }
unbound-value s v table [] [] (binding z t bs) h k x g e = absurd h
unbound-value s v table [] (i ∷ rs) bs h k x g e = absurd h
unbound-value s v table (j ∷ ks) [] bs h k x g e = absurd h
unbound-value s v table (j ∷ ks) (i ∷ rs) no_bindings h k x g e = absurd h
unbound-value s v table (j ∷ ks) (i ∷ rs) (binding z t bs) h k x g e =
    go (eqb j k) (eqb_tells j k) e (λ f. unbound-value s v table ks rs bs h.2 k x g f)
  where
    go : (b : Bool) → ((b ≡ true) × (j ≡ k)) ⊎ ((b ≡ false) × (j ≢ k)) → cond b (Some i) (value_of k ks rs) ≡ None → (value_of k ks rs ≡ None → IsUnbound bs x) → IsUnbound (binding z t bs) x
    go true tells f rest = absurd cc
    go false (inl both) f rest = absurd (true≢false (sym both.0))
    go false (inr both) f rest =
        let d : z ≢ x = λ same. both.1 (one_leaf s table j k z x h.0 g same) in
        let u = rest f in
        record { put = λ q. skipped bs z x t q d ∙ u.put q; needs = inr (d, u.needs) }

-- the leaf is that of a variable that the body of the let needs, and the let gives it the term t
pub record IsGivenTerm (s : Table) (bs : Bindings) (u : Term) (k : ℕ) (t : Term) : Type 0 where
  pub variable : Var
  pub leaf : IsLeaf s k (variable_leaf variable)
  pub needed : IsNeeded variable u
  pub put : (q : Replacement) → replaced_by (replaced_bindings q bs ++ q) variable ≡ replaced q t
  pub needs : (y : Var) → IsNeeded y t → IsNeededFor y bs variable

-- the references stand for the terms that the let gives the variables of the leaves
pub record HasGivenTerms (s : Table) (v : TermsView) (bs : Bindings) (u : Term) (gs ps : List ℕ) : Type 0 where
  pub means : List Term
  pub are : AllZip (IsGivenTerm s bs u) gs means
  pub refer : ReferToAll s v ps means

-- each leaf that was found for the body is that of a variable that it needs
pub leaves-needed : (s : Table) (leaves : List ℕ) (u : Term) → AddsLeaves s [] leaves (λ x. IsNeeded x u) → (k : ℕ) → Contains leaves k → (x : Var) × IsLeaf s k (variable_leaf x) × IsNeeded x u
leaves-needed s leaves u adds k c = elim (adds.only k c) [
  | inl none ↦ absurd (let below = none.1 in omega arith)
  | inr is ↦ is
]

pub given-terms : (s : Table) (v : TermsView) → IsTable s → (ks rs : List ℕ) (bs : Bindings) (u : Term) → AreBindings s v ks rs bs → (leaves : List ℕ) → ((k : ℕ) → Contains leaves k → (x : Var) × IsLeaf s k (variable_leaf x) × IsNeeded x u) → (gs ps : List ℕ) → AreGiven leaves ks rs gs ps → HasGivenTerms s v bs u gs ps
given-terms s v table ks rs bs u h leaves of [] [] are = record { means = []; are = tt; refer = tt }
given-terms s v table ks rs bs u h leaves of [] (p ∷ ps) are = absurd are
given-terms s v table ks rs bs u h leaves of (g ∷ gs) [] are = absurd are
given-terms s v table ks rs bs u h leaves of (g ∷ gs) (p ∷ ps) are =
    let x = of g are.0.0 in
    let b = bound-value s v table ks rs bs h g p x.0 x.1 are.0.1 in
    let rest = given-terms s v table ks rs bs u h leaves of gs ps are.1 in
    record {
      means = b.means ∷ rest.means;
      are = (record { variable = x.0; leaf = x.1; needed = x.2; put = b.put; needs = b.needs }, rest.are);
      refer = (b.refers, rest.refer);
    }

pub given-says : (s : Table) (w : TermsView) (bs : Bindings) (u : Term) (gs : List ℕ) (ts : List Term) (assigned : List Assigned) (q : Replacement) → AllZip (IsGivenTerm s bs u) gs ts → Says (both s w) assigned q (let_in bs u) → SaysAll (both s w) assigned q ts
given-says s w bs u [] [] assigned q h says = tt
given-says s w bs u [] (t ∷ ts) assigned q h says = absurd h
given-says s w bs u (g ∷ gs) [] assigned q h says = absurd h
given-says s w bs u (g ∷ gs) (t ∷ ts) assigned q h says =
    let a = h.0 in (
      record { variables = says.variables; puts = λ k y l n. says.puts k y l (a.variable, a.needed, a.needs y n) },
      given-says s w bs u gs ts assigned q h.1 says,
    )

pub given-parts : (s : Table) (bs : Bindings) (u : Term) (gs : List ℕ) (ts : List Term) (q : Replacement) (whole : Tree) → AllZip (IsGivenTerm s bs u) gs ts → HasPart s whole (replaced q (let_in bs u)) → HasPartTerms s whole (map (replaced q) ts)
unfolding replaced
given-parts s bs u [] [] q whole h part = tt
given-parts s bs u [] (t ∷ ts) q whole h part = absurd h
given-parts s bs u (g ∷ gs) [] q whole h part = absurd h
given-parts s bs u (g ∷ gs) (t ∷ ts) q whole h part =
    let a = h.0 in (
      subst (HasPart s whole) (a.put q) (needed-part s u a.variable (replaced_bindings q bs ++ q) whole a.needed part),
      given-parts s bs u gs ts q whole h.1 part,
    )

-- the body, with what the values became put in
inside-variables : (s : Table) (bs : Bindings) (u : Term) (gs : List ℕ) (ts : List Term) (is : List ℕ) (assigned : List Assigned) → AllZip (IsGivenTerm s bs u) gs ts → AreVariables s assigned → AreVariables s (assigned_all gs is assigned)
inside-variables s bs u [] ts is assigned h vars = vars
inside-variables s bs u (g ∷ gs) ts [] assigned h vars = vars
inside-variables s bs u (g ∷ gs) [] (i ∷ is) assigned h vars = absurd h
inside-variables s bs u (g ∷ gs) (t ∷ ts) (i ∷ is) assigned h vars =
    ((h.0.variable, h.0.leaf), inside-variables s bs u gs ts is assigned h.1 vars)

inside-puts : (s : Table) (w : TermsView) (bs : Bindings) (u : Term) (gs : List ℕ) (ts : List Term) (is : List ℕ) (assigned : List Assigned) (q : Replacement) (k : ℕ) (x : Var) → IsLeaf s k (variable_leaf x) → AllZip (IsGivenTerm s bs u) gs ts → ReferToAll s w is (map (replaced q) ts) → (¬ Contains gs k → RefersTo s w (term_of k assigned) (replaced_by (replaced_bindings q bs ++ q) x)) → RefersTo s w (term_of k (assigned_all gs is assigned)) (replaced_by (replaced_bindings q bs ++ q) x)
inside-puts s w bs u [] ts is assigned q k x l h refer rest = rest (λ c. let below = c.1 in absurd (omega arith))
inside-puts s w bs u (g ∷ gs) [] is assigned q k x l h refer rest = absurd h
inside-puts s w bs u (g ∷ gs) (t ∷ ts) [] assigned q k x l h refer rest = absurd refer
inside-puts s w bs u (g ∷ gs) (t ∷ ts) (i ∷ is) assigned q k x l h refer rest =
    go (eqb g k) (eqb_tells g k) (λ d. inside-puts s w bs u gs ts is assigned q k x l h.1 refer.1 (λ n. rest (λ c. elim (contains-cases g gs k c) [ inl e ↦ d e | inr later ↦ n later ])))
  where
    go : (b : Bool) → ((b ≡ true) × (g ≡ k)) ⊎ ((b ≡ false) × (g ≢ k)) → (g ≢ k → RefersTo s w (term_of k (assigned_all gs is assigned)) (replaced_by (replaced_bindings q bs ++ q) x)) → RefersTo s w (cond b i (term_of k (assigned_all gs is assigned))) (replaced_by (replaced_bindings q bs ++ q) x)
    go true (inl both) later =
        let same = one_variable s g k h.0.variable x h.0.leaf l both.1 in
        subst (λ (z : Var). RefersTo s w i (replaced_by (replaced_bindings q bs ++ q) z)) same (subst (RefersTo s w i) (sym (h.0.put q)) refer.0)
    go true (inr both) later = absurd (true≢false both.0)
    go false (inl both) later = absurd (true≢false (sym both.0))
    go false (inr both) later = later both.1

pub inside-says : (s : Table) (v w : TermsView) → IsTable s → ((r : ℕ) (t : Term) → RefersTo s v r t → RefersTo s w r t) → (ks rs : List ℕ) (bs : Bindings) (u : Term) → AreBindings s v ks rs bs → (leaves : List ℕ) → AddsLeaves s [] leaves (λ x. IsNeeded x u) → (gs ps : List ℕ) → AreValuesGiven leaves ks rs gs ps → (ts : List Term) → AllZip (IsGivenTerm s bs u) gs ts → (is : List ℕ) (assigned : List Assigned) (q : Replacement) → Says (both s v) assigned q (let_in bs u) → ReferToAll s w is (map (replaced q) ts) → Says (both s w) (assigned_all gs is assigned) (replaced_bindings q bs ++ q) u
inside-says s v w table grows ks rs bs u h leaves adds gs ps given ts are is assigned q says refer = record {
  variables = inside-variables s bs u gs ts is assigned are says.variables;
  puts = λ k x l need. inside-puts s w bs u gs ts is assigned q k x l are refer (λ none. outside k x l need none (value_of k ks rs) refl);
}
  where
    has : (k : ℕ) (x : Var) → IsLeaf s k (variable_leaf x) → IsNeeded x u → Contains leaves k
    has k x l need =
        let a = adds.all x need in subst (Contains leaves) (one_leaf s table a.0 k x x a.1 l refl) a.2

    outside : (k : ℕ) (x : Var) → IsLeaf s k (variable_leaf x) → IsNeeded x u → ¬ Contains gs k → (o : Option ℕ) → value_of k ks rs ≡ o → RefersTo s w (term_of k assigned) (replaced_by (replaced_bindings q bs ++ q) x)
    outside k x l need none (Some r) e = absurd (none (given.all k r (has k x l need) e))
    outside k x l need none None e =
        let b = unbound-value s v table ks rs bs h k x l e in
        subst (RefersTo s w (term_of k assigned)) (sym (b.put q)) (grows (term_of k assigned) (replaced_by q x) (says.puts k x l (x, need, b.needs)))

-- what stays as the pass comes to know more
pub refers-grow : (s : Table) (v w : TermsView) → KeepsTerms v w → (r : ℕ) (t : Term) → RefersTo s v r t → RefersTo s w r t
refers-grow s v w keeps r t h = record { tree = h.tree; known = keeps.pass.grows r h.tree h.known; stands = h.stands }

pub says-grow : (s : Table) (v w : TermsView) → ((r : ℕ) (t : Term) → RefersTo s v r t → RefersTo s w r t) → (assigned : List Assigned) (q : Replacement) (t : Term) → Says (both s v) assigned q t → Says (both s w) assigned q t
says-grow s v w grows assigned q t h = record {
  variables = h.variables;
  puts = λ k x l n. grows (term_of k assigned) (replaced_by q x) (h.puts k x l n);
}

pub needs-grow : (s : Table) (v w : TermsView) → ((r : ℕ) (t : Term) → RefersTo s v r t → RefersTo s w r t) → (needs : Needs) → AreNeeds (both s v) needs → AreNeeds (both s w) needs
needs-grow s v w grows needs h = record {
  each = λ r leaves e. let n = h.each r leaves e in record { means = n.means; refers = grows r n.means n.refers; are = n.are };
}

pub done-grow : (s : Table) (v w : TermsView) → ((r : ℕ) (t : Term) → RefersTo s v r t → RefersTo s w r t) → (done : Done) → AreDone (both s v) done → AreDone (both s w) done
done-grow s v w grows done h = record {
  each = λ key i e. let b = h.each key i e in record {
    cell = b.cell;
    assigned = b.assigned;
    leaves = b.leaves;
    key_is = b.key_is;
    means = b.means;
    refers = grows b.cell b.means b.refers;
    covered = b.covered;
    puts = b.puts;
    says = says-grow s v w grows b.assigned b.puts b.means b.says;
    becomes = grows i (replaced b.puts b.means) b.becomes;
  };
}

-- lists that are equal item by item
pub list-same : (xs ys : List ℕ) → pointwise nat_eq xs ys ≡ true → xs ≡ ys
list-same xs ys e = (slice_eq-Decides Decides-eqb xs ys (pointwise nat_eq xs ys) refl).0 e
