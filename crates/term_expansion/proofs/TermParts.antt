-- Cited by crates above. The parts of the terms of a pool: references of terms, lists of them, applications and lets.
use Rattle.std.proofs.Common.{◌≡◌, ◌≢◌, ℕ, ◌<◌, ◌≤◌, ◌^◌, refl, ap, subst, arith, List, ◌∷◌, map, length}
use Rattle.std.proofs.lemmas.Option.{slice_get_within}
use Rattle.sym_table.specs.Leaf.{Leaf}
use Rattle.sym_table.specs.Table.{Table, IsLeaf}
use Rattle.term_model.specs.Terms.{Var, Term, numeral, variable, operation, call, let_in, Terms, no_terms, term, Bindings, list_of}
use Rattle.term_pool.specs.Building.{IsAppliedLeaf}
use Rattle.term_pool.specs.Reading.{arguments_of, IsLet, IsLetTerm}
use Rattle.term_pool.specs.Views.{TermsView, RefersTo, ReferToAll, IsTerm}
use Rattle.term_pool.proofs.Leaves.{let_is}
use Rattle.rule_model.specs.Replacement.{Replacement, replaced, replaced_all}

-- the same terms
pub refers_back : (s : Table) (v w : TermsView) (r : ℕ) (t : Term) → w ≡ v → RefersTo s w r t → RefersTo s v r t
refers_back s v w r t e h = subst (λ (x : TermsView). RefersTo s x r t) e h

-- applications
pub leaf_within : (s : Table) (k : ℕ) (l : Leaf) → IsLeaf s k l → length s.leaves ≤ 2 ^ 30 → k < 2 ^ 30
leaf_within s k l h few = let w : k < length s.leaves = slice_get_within s.leaves k l h in omega arith

pub head_within : (s : Table) (head : ℕ) (ts : List Term) (t : Term) → IsAppliedLeaf s head ts t → length s.leaves ≤ 2 ^ 30 → head < 2 ^ 30
head_within s head ts (numeral n) p few = leaf_within s head _ p.0 few
head_within s head ts (variable x) p few = leaf_within s head _ p.0 few
head_within s head ts (operation op us) p few = leaf_within s head _ p.0 few
head_within s head ts (call f us) p few = leaf_within s head _ p.0 few
head_within s head ts (let_in bs u) p few = absurd p

pub replaced-list : (q : Replacement) (us : Terms) → list_of (replaced_all q us) ≡ map (replaced q) (list_of us)
unfolding replaced
replaced-list q no_terms = refl
replaced-list q (term u us) = ap (λ ts. replaced q u ∷ ts) (replaced-list q us)

pub becomes_application : (s : Table) (q : Replacement) (head : ℕ) (t : Term) → ((x : Var) → t ≢ variable x) → IsAppliedLeaf s head (arguments_of t) t → IsAppliedLeaf s head (map (replaced q) (arguments_of t)) (replaced q t)
unfolding replaced
becomes_application s q head (numeral n) never p = p
becomes_application s q head (variable x) never p = absurd (never x refl)
becomes_application s q head (operation op us) never p = (p.0, replaced-list q us)
becomes_application s q head (call f us) never p = (p.0, replaced-list q us)
becomes_application s q head (let_in bs u) never p = absurd p

pub no_let : (s : Table) (head : ℕ) (ts : List Term) (t : Term) → IsAppliedLeaf s head ts t → IsLet t → ⊥
no_let s head ts (numeral n) p h = h
no_let s head ts (variable x) p h = h
no_let s head ts (operation op us) p h = h
no_let s head ts (call f us) p h = h
no_let s head ts (let_in bs u) p h = p

-- a cell is no variable
pub cell_no_variable : (s : Table) (v w : TermsView) (r head : ℕ) → w ≡ v → length s.leaves ≤ 2 ^ 30 → 2 ^ 30 ≤ r → ((x : Var) → RefersTo s v r (variable x) → head ≡ r) → ((t : Term) → RefersTo s v r t → IsAppliedLeaf s head (arguments_of t) t) → (x : Var) → RefersTo s w r (variable x) → ⊥
cell_no_variable s v w r head e few high same application x h =
    let back : RefersTo s v r (variable x) = refers_back s v w r (variable x) e h in
    let at = same x back in
    let low = leaf_within s head _ (application (variable x) back).0 few in
    absurd (omega arith)

pub arguments_refer : (s : Table) (v : TermsView) (r head : ℕ) (rs : List ℕ) → ((t : Term) → RefersTo s v r t → IsAppliedLeaf s head (arguments_of t) t) → ((s : Table) (t : Term) → RefersTo s v r t → (IsLet t → ⊥) → ReferToAll s v rs (arguments_of t)) → (t : Term) → RefersTo s v r t → ReferToAll s v rs (arguments_of t)
arguments_refer s v r head rs application arguments t h = arguments s t h (no_let s head (arguments_of t) t (application t h))

pub let_refers : (s : Table) (v : TermsView) (r : ℕ) (t : Term) → RefersTo s v r t → IsLet t → (bs : Bindings) × (u : Term) × (t ≡ let_in bs u) × RefersTo s v r (let_in bs u)
let_refers s v r t h is =
    let (bs, u, e) = let_is t is in
    (bs, u, e, subst (λ (x : Term). RefersTo s v r x) e h)

pub is_let_term : (s : Table) (v : TermsView) (r : ℕ) → ((t : Term) → RefersTo s v r t → IsLet t) → IsTerm s v r → IsLetTerm v r
is_let_term s v r is h =
    let (bs, u, e, refers) = let_refers s v r h.means h.refers (is h.means h.refers) in
    record { symbols = s; bindings = bs; body = u; refers = refers }
