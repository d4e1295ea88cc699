-- The innermost variables of names, in the code and by the definition.
use Rattle.std.proofs.Common.{◌≡◌, ◌≢◌, ℕ, ◌<◌, ◌⊎◌, inl, inr, zero, suc, List, [], ◌∷◌, length, get_or, Bool, true, false, ◌&&◌, cond, nat_eq, find, Option, Some, None, option_map, Contains, ap, subst, refl, sym, ◌∙◌, arith}
use Rattle.std.specs.Prelude.{bytes_eq}
use Rattle.std.specs.List.{list_all}
use Rattle.std.specs.Option.{option_map_or}
use Rattle.std.proofs.lemmas.Bool.Decides.{eqb_tells}
use Rattle.std.proofs.lemmas.List.{get_or_default}
use Rattle.std.proofs.lemmas.Slice.Eq.{bytes_eq-Decides}
use Rattle.std.proofs.lemmas.Bool.{and_parts}
use Rattle.sym_table.specs.Table.{Table, IsTable, IsLeaf}
use Rattle.term_model.proofs.Tests.{sort_eq_decides}
use Rattle.term_model.specs.Terms.{Var, sort_eq}
use Rattle.term_pool.specs.StandsFor.{variable_leaf}
use Rattle.term_pool.specs.Views.{TermsView}
use Rattle.term_pool.proofs.Leaves.{one_variable, one_leaf}
use Rattle.term_expansion.specs.Free.{AreFreeLeaves}
use Rattle.term_names.specs.InScope.{IsScope}
use Rattle.problem_text.specs.Names.{Bound, innermost, is_bound}
use Rattle.term_names.specs.Scope.{Scoped}
use Rattle.term_expansion.specs.Values.{PutsIn}
use Rattle.term_expansion.specs.declared.values.Bound as held
use Rattle.term_expansion.specs.SymbolsAndTerms.{both}
use Rattle.term_expansion.proofs.Images.{var_same}

-- what is found in the code is what is found by the definition
abbrev pub AreFound : Table → TermsView → List ℕ → Option Scoped → Option Bound → Type 0
AreFound s v name None None = Unit {0}
AreFound s v name None (Some b) = ⊥
AreFound s v name (Some e) None = ⊥
AreFound s v name (Some e) (Some b) = (b.variable.name ≡ name) × PutsIn (both s v) e.bound b.variable b.stands_for

pub found_in_scope : (s : Table) (v : TermsView) (es : List Scoped) (bs : List Bound) → IsScope (both s v) es bs → (name : List ℕ) → AreFound s v name (find (λ e. bytes_eq e.name name) es) (innermost bs name)
found_in_scope s v [] [] h name = tt
found_in_scope s v [] (b ∷ bs) h name = absurd h
found_in_scope s v (e ∷ es) [] h name = absurd h
found_in_scope s v (e ∷ es) (b ∷ bs) h name =
    go (bytes_eq e.name name) (bytes_eq b.variable.name name) (ap (λ n. bytes_eq n name) h.0.0) (bytes_eq-Decides b.variable.name name).0 (found_in_scope s v es bs h.1 name)
  where
    go : (t u : Bool) → t ≡ u → (u ≡ true → b.variable.name ≡ name) → AreFound s v name (find (λ e. bytes_eq e.name name) es) (innermost bs name) → AreFound s v name (cond t (Some e) (find (λ e. bytes_eq e.name name) es)) (cond u (Some b) (innermost bs name))
    go true true same is rest = (is refl, h.0.1)
    go true false same is rest = absurd (cc)
    go false true same is rest = absurd (cc)
    go false false same is rest = rest

-- whether the innermost variable of the name has this leaf
abbrev pub has_leaf : ℕ → Option held.Bound → Bool
has_leaf k o = option_map_or (λ b. nat_eq b.variable k) o false

pub leaf_is_bound : (s : Table) → IsTable s → (v : TermsView) (es : List Scoped) (bs : List Bound) → IsScope (both s v) es bs → (k : ℕ) (x : Var) → IsLeaf s k (variable_leaf x) → (name : List ℕ) → name ≡ x.name → (o : Option held.Bound) → o ≡ option_map (λ e. e.bound) (find (λ e. bytes_eq e.name name) es) → has_leaf k o ≡ is_bound bs x
leaf_is_bound s table v es bs h k x here name named o e =
    ap (has_leaf k) (e ∙ ap (λ n. option_map (λ e. e.bound) (find (λ e. bytes_eq e.name n) es)) named) ∙ go (find (λ e. bytes_eq e.name x.name) es) (innermost bs x.name) (found_in_scope s v es bs h x.name)
  where
    same : (b : held.Bound) (y : Var) → y.name ≡ x.name → IsLeaf s b.variable (variable_leaf y) → (t u : Bool) → ((t ≡ true) × (b.variable ≡ k)) ⊎ ((t ≡ false) × (b.variable ≢ k)) → sort_eq y.sort x.sort ≡ u → t ≡ u
    same b y named there true true tells sorted = refl
    same b y named there false false tells sorted = refl
    same b y named there true false (inr differ) sorted = absurd (let z = differ.0 in cc)
    same b y named there true false (inl agree) sorted =
        let there2 : IsLeaf s k (variable_leaf y) = subst (λ (j : ℕ). IsLeaf s j (variable_leaf y)) agree.1 there in
        let equal : y.sort ≡ x.sort = ap (λ z. z.sort) (one_variable s k y x there2 here) in
        absurd (let z = (sort_eq_decides y.sort x.sort).1 equal in cc)
    same b y named there false true (inl agree) sorted = absurd (let z = agree.0 in cc)
    same b y named there false true (inr differ) sorted =
        let equal : y.sort ≡ x.sort = (sort_eq_decides y.sort x.sort).0 sorted in
        absurd (differ.1 (one_leaf s table b.variable k y x there here (var_same y x named equal)))

    go : (p : Option Scoped) (q : Option Bound) → AreFound s v x.name p q → has_leaf k (option_map (λ e. e.bound) p) ≡ option_map_or (λ b. sort_eq b.variable.sort x.sort) q false
    go None None f = refl
    go None (Some b) f = absurd f
    go (Some e) None f = absurd f
    go (Some e) (Some b) f =
        same e.bound b.variable f.0 f.1.leaf (nat_eq e.bound.variable k) (sort_eq b.variable.sort x.sort) (eqb_tells e.bound.variable k) refl

-- tests of all variables of a list
passes_all : (P : Var → Bool) (xs : List Var) → ((x : Var) → Contains xs x → P x ≡ true) → list_all P xs ≡ true
passes_all P [] h = refl
passes_all P (x ∷ xs) h =
    both (P x) (list_all P xs) (h x (0, omega arith, refl)) (passes_all P xs (λ y (k, below, same). h y (suc k, omega arith, same)))
  where
    both : (a b : Bool) → a ≡ true → b ≡ true → (a && b) ≡ true
    both a b e f = rw (e, f)

pub passes_each : (P : Var → Bool) (xs : List Var) → list_all P xs ≡ true → (x : Var) → Contains xs x → P x ≡ true
passes_each P [] e x (k, below, same) = absurd (omega arith)
passes_each P (y ∷ ys) e x (zero, below, same) = ap P (sym same) ∙ (and_parts (P y) (list_all P ys) e).0
passes_each P (y ∷ ys) e x (suc k, below, same) = passes_each P ys (and_parts (P y) (list_all P ys) e).1 x (k, omega arith, same)

-- the leaves of free variables
pub all_are_bound : (s : Table) (bs : List Bound) (leaves : List ℕ) (xs : List Var) → AreFreeLeaves s leaves xs → ((x : Var) (k : ℕ) → k < length leaves → IsLeaf s (get_or leaves k 0) (variable_leaf x) → is_bound bs x ≡ true) → list_all (is_bound bs) xs ≡ true
all_are_bound s bs leaves xs free h = passes_all (is_bound bs) xs each
  where
    each : (x : Var) → Contains xs x → is_bound bs x ≡ true
    each x there =
        let (leaf, here, (k, below, same)) = free.all x there in
        h x k below (subst (λ (j : ℕ). IsLeaf s j (variable_leaf x)) (sym same ∙ get_or_default leaves k leaf 0 below) here)

pub one_is_not_bound : (s : Table) (bs : List Bound) (leaves : List ℕ) (xs : List Var) → AreFreeLeaves s leaves xs → (k : ℕ) → k < length leaves → ((x : Var) → IsLeaf s (get_or leaves k 0) (variable_leaf x) → false ≡ is_bound bs x) → list_all (is_bound bs) xs ≡ false
one_is_not_bound s bs leaves xs free k below h = go (list_all (is_bound bs) xs) refl
  where
    go : (b : Bool) → list_all (is_bound bs) xs ≡ b → b ≡ false
    go false e = refl
    go true e =
        let (x, here, there) = free.each (get_or leaves k 0) (k, below, get_or_default leaves k (get_or leaves k 0) 0 below) in
        absurd (let f = h x here in let g = passes_each (is_bound bs) xs e x there in cc)
