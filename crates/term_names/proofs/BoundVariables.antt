-- What the variables of a named term stand for where it is used.
use Rattle.std.proofs.Common.{◌≡◌, ℕ, ◌<◌, ◌+◌, ◌⊎◌, inl, inr, List, [], ◌∷◌, ◌++◌, length, get_or, Bool, true, false, ◌&&◌, cond, if◌then◌else◌, find, Option, Some, None, option_map, IsSome, Contains, ap, subst, refl, sym, ◌∙◌, arith, below_more}
use Rattle.std.proofs.lemmas.Option.{same_Some}
use Rattle.std.specs.Prelude.{bytes_eq}
use Rattle.std.specs.List.{list_all, AllByRecursion}
use Rattle.std.specs.Option.{option_map_or}
use Rattle.std.proofs.lemmas.List.{get_or_default}
use Rattle.indexmap.proofs.SetLemmas.{AllZip-push}
use Rattle.sym_table.specs.Table.{Table, IsLeaf}
use Rattle.term_model.proofs.Tests.{sort_eq_decides, var_eq_decides}
use Rattle.term_model.proofs.Lists.{all_at_end}
use Rattle.term_model.specs.Terms.{Var, Term, sort_eq, var_eq}
use Rattle.term_pool.specs.StandsFor.{variable_leaf}
use Rattle.term_pool.specs.Views.{TermsView}
use Rattle.term_pool.proofs.Leaves.{one_variable}
use Rattle.term_names.specs.BoundLeaves.{IsBoundLeaf, AreBoundLeaves, PutsInBound}
use Rattle.term_expansion.specs.Free.{AreFreeLeaves}
use Rattle.term_names.specs.InScope.{IsScope}
use Rattle.problem_text.specs.Names.{Bound, innermost, is_bound, replacement}
use Rattle.rule_model.specs.Replacement.{Replacement, replaced_by}
use Rattle.term_names.specs.Scope.{Scoped}
use Rattle.term_expansion.specs.Values.{PutsIn, IsReplacement}
use Rattle.term_expansion.specs.declared.values.Bound as held
use Rattle.term_names.proofs.ScopeNames.{AreFound, found_in_scope, passes_each}
use Rattle.term_expansion.proofs.Images.{var_same}
use Rattle.term_expansion.specs.SymbolsAndTerms.{both}

-- a variable that is bound stands for what the innermost variable of its name stands for
innermost_stands : (bs : List Bound) (x : Var) (b : Bound) → innermost bs x.name ≡ Some b → b.variable ≡ x → replaced_by (replacement bs) x ≡ b.stands_for
innermost_stands [] x b found same = absurd cc
innermost_stands (d ∷ bs) x b found same = go (bytes_eq d.variable.name x.name) (sort_eq d.variable.sort x.sort) refl refl found (innermost_stands bs x b)
  where
    go : (t u : Bool) → bytes_eq d.variable.name x.name ≡ t → sort_eq d.variable.sort x.sort ≡ u → cond t (Some d) (innermost bs x.name) ≡ Some b → (innermost bs x.name ≡ Some b → b.variable ≡ x → replaced_by (replacement bs) x ≡ b.stands_for) → (if t && u then d.stands_for else replaced_by (replacement bs) x) ≡ b.stands_for
    go true true e f found rest = ap (λ (c : Bound). c.stands_for) (same_Some _ _ found)
    go true false e f found rest =
        let is : d.variable ≡ x = ap (λ (c : Bound). c.variable) (same_Some _ _ found) ∙ same in
        absurd (let g = (var_eq_decides d.variable x).1 is in
        let h : var_eq d.variable x ≡ false = rw (e, f) refl in cc)
    go false u e f found rest = rest found same

moved : (s : Table) (v : TermsView) (b c : held.Bound) (y x : Var) (t u : Term) → b ≡ c → y ≡ x → u ≡ t → PutsIn (both s v) b y t → PutsIn (both s v) c x u
moved s v b c y x t u e f g h =
    subst (λ (z : held.Bound). PutsIn (both s v) z x u) e
    (subst (λ (z : Var). PutsIn (both s v) b z u) f (subst (λ (z : Term). PutsIn (both s v) b y z) (sym g) h))

pub bound_stands : (s : Table) (v : TermsView) (es : List Scoped) (bs : List Bound) → IsScope (both s v) es bs → (name : List ℕ) (x : Var) → name ≡ x.name → is_bound bs x ≡ true → (c : held.Bound) → Some c ≡ option_map (λ e. e.bound) (find (λ e. bytes_eq e.name name) es) → PutsIn (both s v) c x (replaced_by (replacement bs) x)
bound_stands s v es bs h name x named bound c found =
    go (find (λ e. bytes_eq e.name x.name) es) (innermost bs x.name) refl (found_in_scope s v es bs h x.name) bound
    (found ∙ ap (λ n. option_map (λ e. e.bound) (find (λ e. bytes_eq e.name n) es)) named)
  where
    go : (q : Option Scoped) (r : Option Bound) → innermost bs x.name ≡ r → AreFound s v x.name q r → option_map_or (λ b. sort_eq b.variable.sort x.sort) r false ≡ true → Some c ≡ option_map (λ e. e.bound) q → PutsIn (both s v) c x (replaced_by (replacement bs) x)
    go None r f a sorted g = absurd cc
    go (Some e) None f a sorted g = absurd a
    go (Some e) (Some b) f a sorted g =
        let is : b.variable ≡ x = var_same b.variable x a.0 ((sort_eq_decides b.variable.sort x.sort).0 sorted) in
        moved s v e.bound c b.variable x b.stands_for (replaced_by (replacement bs) x) (sym (same_Some _ _ g)) is (innermost_stands bs x b f is) a.1

pub bound_is_there : (s : Table) (scope : List Scoped) (leaf : ℕ) → (h : IsBoundLeaf s scope leaf) → (name : List ℕ) → name ≡ h.variable.name → IsSome (option_map (λ (e : Scoped). e.bound) (find (λ e. bytes_eq e.name name) scope))
bound_is_there s scope leaf h name named =
    subst (λ (n : List ℕ). IsSome (option_map (λ (e : Scoped). e.bound) (find (λ e. bytes_eq e.name n) scope))) (sym named)
    (go (find (λ e. bytes_eq e.name h.variable.name) scope) (innermost h.means h.variable.name) (found_in_scope s h.view scope h.means h.in_scope h.variable.name) h.bound)
  where
    go : (q : Option Scoped) (r : Option Bound) → AreFound s h.view h.variable.name q r → option_map_or (λ b. sort_eq b.variable.sort h.variable.sort) r false ≡ true → IsSome (option_map (λ (e : Scoped). e.bound) q)
    go None None a sorted = absurd cc
    go None (Some b) a sorted = absurd a
    go (Some e) r a sorted = refl

pub leaf_is_bound_here : (s : Table) (scope : List Scoped) (leaves : List ℕ) → AreBoundLeaves s scope leaves → (k : ℕ) → k < length leaves → IsBoundLeaf s scope (get_or leaves k 0)
leaf_is_bound_here s scope leaves h k below =
    let (x, here, there) = h.leaves_of.each (get_or leaves k 0) (k, below, get_or_default leaves k (get_or leaves k 0) 0 below) in
    record { view = h.view; means = h.means; variable = x; in_scope = h.in_scope; leaf_of = here; bound = passes_each (is_bound h.means) h.variables h.bound x there }

-- the replacement has something for the variable
abbrev Has : Replacement → Var → Type 0
Has [] x = ⊥
Has (b ∷ q) x = (b.0 ≡ x) ⊎ Has q x

has_before : (q r : Replacement) (x : Var) → Has q x → Has (q ++ r) x
has_before [] r x h = absurd h
has_before (b ∷ q) r x (inl e) = inl e
has_before (b ∷ q) r x (inr h) = inr (has_before q r x h)

has_last : (q : Replacement) (x : Var) (t : Term) → Has (q ++ (x, t) ∷ []) x
has_last [] x t = inl refl
has_last (b ∷ q) x t = inr (has_last q x t)

puts_at_end : (s : Table) (v : TermsView) (bs : List held.Bound) (q : Replacement) (b : held.Bound) (x : Var) (t : Term) → IsReplacement (both s v) bs q → PutsIn (both s v) b x t → IsReplacement (both s v) (bs ++ b ∷ []) (q ++ (x, t) ∷ [])
puts_at_end s v bs q b x t h p = AllZip-push _ bs q b (x, t) h p

same_for_all : (q r : Replacement) (x : Var) → AllByRecursion (λ b. b.1 ≡ replaced_by r b.0) q → Has q x → replaced_by q x ≡ replaced_by r x
same_for_all [] r x h has = absurd has
same_for_all (b ∷ q) r x h has = go (var_eq b.0 x) refl has (same_for_all q r x h.1)
  where
    go : (t : Bool) → var_eq b.0 x ≡ t → (b.0 ≡ x) ⊎ Has q x → (Has q x → replaced_by q x ≡ replaced_by r x) → (if t then b.1 else replaced_by q x) ≡ replaced_by r x
    go true e has rest = h.0 ∙ ap (replaced_by r) ((var_eq_decides b.0 x).0 e)
    go false e (inl same) rest = absurd (let f = (var_eq_decides b.0 x).1 same in cc)
    go false e (inr later) rest = rest later

-- the list puts in what they stand for in the scope for the variables of the leaves before place i
pub record PutsBefore (s : Table) (v : TermsView) (list : List held.Bound) (scope : List Bound) (leaves : List ℕ) (i : ℕ) : Type 0 where
  pub means : Replacement
  pub is : IsReplacement (both s v) list means
  pub same : AllByRecursion (λ b. b.1 ≡ replaced_by (replacement scope) b.0) means
  pub has : (k : ℕ) → k < i → (x : Var) → IsLeaf s (get_or leaves k 0) (variable_leaf x) → Has means x

pub puts_none : (s : Table) (v : TermsView) (scope : List Bound) (leaves : List ℕ) → PutsBefore s v [] scope leaves 0
puts_none s v scope leaves = record { means = []; is = tt; same = tt; has = λ k below. absurd (omega arith) }

puts_more_of : (s : Table) (v : TermsView) (list : List held.Bound) (scope : List Bound) (leaves : List ℕ) (i : ℕ) (b : held.Bound) (x : Var) → IsLeaf s (get_or leaves i 0) (variable_leaf x) → PutsIn (both s v) b x (replaced_by (replacement scope) x) → PutsBefore s v list scope leaves i → PutsBefore s v (list ++ b ∷ []) scope leaves (i + 1)
puts_more_of s v list scope leaves i b x here puts before = record {
  means = before.means ++ (x, replaced_by (replacement scope) x) ∷ [];
  is = puts_at_end s v list before.means b x (replaced_by (replacement scope) x) before.is puts;
  same = all_at_end (λ b. b.1 ≡ replaced_by (replacement scope) b.0) before.means (x, replaced_by (replacement scope) x) before.same refl;
  has = below_more _ _ (λ k below y there. has_before before.means ((x, replaced_by (replacement scope) x) ∷ []) y (before.has k below y there))
      (λ y there. subst (λ (z : Var). Has (before.means ++ (x, replaced_by (replacement scope) x) ∷ []) z) (one_variable s (get_or leaves i 0) x y here there)
      (has_last before.means x (replaced_by (replacement scope) x)));
}

pub puts_one_more : (s : Table) (v : TermsView) (list : List held.Bound) (scope : List Bound) (leaves : List ℕ) (i : ℕ) (b : held.Bound) (xs : List Var) → AreFreeLeaves s leaves xs → list_all (is_bound scope) xs ≡ true → i < length leaves → ((x : Var) → IsLeaf s (get_or leaves i 0) (variable_leaf x) → is_bound scope x ≡ true → PutsIn (both s v) b x (replaced_by (replacement scope) x)) → PutsBefore s v list scope leaves i → PutsBefore s v (list ++ b ∷ []) scope leaves (i + 1)
puts_one_more s v list scope leaves i b xs free bound below puts before =
    let (x, here, there) = free.each (get_or leaves i 0) (i, below, get_or_default leaves i (get_or leaves i 0) 0 below) in
    puts_more_of s v list scope leaves i b x here (puts x here (passes_each (is_bound scope) xs bound x there)) before

pub puts_all : (s : Table) (v : TermsView) (list : List held.Bound) (scope : List Bound) (leaves : List ℕ) (xs : List Var) (n : ℕ) → n ≡ length leaves → AreFreeLeaves s leaves xs → PutsBefore s v list scope leaves n → PutsInBound (both s v) list scope xs
puts_all s v list scope leaves xs n whole free before = record { means = before.means; is = before.is; same = each }
  where
    each : (x : Var) → Contains xs x → replaced_by before.means x ≡ replaced_by (replacement scope) x
    each x there =
        let (leaf, here, (k, below, same)) = free.all x there in
        same_for_all before.means (replacement scope) x before.same
        (before.has k (omega arith) x (subst (λ (j : ℕ). IsLeaf s j (variable_leaf x)) (sym same ∙ get_or_default leaves k leaf 0 below) here))
