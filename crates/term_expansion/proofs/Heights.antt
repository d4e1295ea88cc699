-- Cited by crates above. Heights of terms and of their parts.
use Rattle.std.proofs.Common.{◌≡◌, ℕ, ◌+◌, ◌-◌, ◌<◌, ◌≤◌, max, List, [], ◌∷◌, length, get_or, Some, Bool, true, false, cond, eqb, sym, subst, All, arith}
use Rattle.std.proofs.lemmas.List.Elements.{All-nil, All-cons, All-head, All-tail, All-get_or}
use Rattle.sym_table.specs.Table.{Table}
use Rattle.term_model.specs.Terms.{Term, numeral, variable, operation, call, let_in, Terms, no_terms, term, list_of, Bindings, no_bindings, binding}
use Rattle.term_model.specs.Heights.{height, highest, highest_bound}
use Rattle.term_model.proofs.Basics.{same_some}
use Rattle.term_pool.specs.Building.{AreBindings}
use Rattle.term_pool.specs.Reading.{arguments_of, IsLet}
use Rattle.term_pool.specs.Views.{TermsView, RefersTo, ReferToAll, KeepsTerms, IsTerm}
use Rattle.term_expansion.specs.Expanding.{AreGiven}
use Rattle.term_expansion.specs.Heights.{IsAtMost}
use Rattle.term_expansion.specs.Needs.{value_of}
use Rattle.term_expansion.proofs.NeedLemmas.{refers-grow}
use Rattle.term_expansion.specs.SymbolsAndTerms.{both}

pub is_term : (s : Table) (v : TermsView) (most r : ℕ) → IsAtMost (both s v) most r → IsTerm s v r
is_term s v most r h = record { means = h.means; refers = h.refers }

-- the same terms
pub low_moved : (s : Table) (v w : TermsView) (most r : ℕ) → w ≡ v → IsAtMost (both s v) most r → IsAtMost (both s w) most r
low_moved s v w most r e h = subst (λ (x : TermsView). IsAtMost (both s x) most r) (sym e) h

pub all_low_moved : (s : Table) (v w : TermsView) (most : ℕ) (rs qs : List ℕ) → w ≡ v → qs ≡ rs → All (IsAtMost (both s v) most) rs → All (IsAtMost (both s w) most) qs
all_low_moved s v w most rs qs e f h =
    subst (λ (xs : List ℕ). All (IsAtMost (both s w) most) xs) (sym f) (subst (λ (x : TermsView). All (IsAtMost (both s x) most) rs) (sym e) h)

pub low_grow : (s : Table) (v w : TermsView) (most r : ℕ) → KeepsTerms v w → IsAtMost (both s v) most r → IsAtMost (both s w) most r
low_grow s v w most r keeps h = record { means = h.means; refers = refers-grow s v w keeps r h.means h.refers; low = h.low }

-- one of a list
pub low_at : (s : Table) (v : TermsView) (most : ℕ) (rs : List ℕ) (i r : ℕ) → All (IsAtMost (both s v) most) rs → i < length rs → r ≡ get_or rs i r → IsAtMost (both s v) most r
low_at s v most rs i r h l e = subst (λ (k : ℕ). IsAtMost (both s v) most k) (sym e) (All-get_or (IsAtMost (both s v) most) rs i r l h)

pub positive : (s : Table) (v : TermsView) (most r : ℕ) → IsAtMost (both s v) most r → 1 ≤ most
unfolding height
positive s v most r h = let low = h.low in let one = at_least h.means in omega arith
  where
    at_least : (t : Term) → 1 ≤ height t
    at_least (numeral n) = omega arith
    at_least (variable x) = omega arith
    at_least (operation op ts) = omega arith
    at_least (call f ts) = omega arith
    at_least (let_in bs u) = omega arith

-- applications
list_low : (s : Table) (v : TermsView) (most : ℕ) (rs : List ℕ) (ts : Terms) → highest ts ≤ most → ReferToAll s v rs (list_of ts) → All (IsAtMost (both s v) most) rs
unfolding height
list_low s v most [] no_terms low h = All-nil (IsAtMost (both s v) most)
list_low s v most [] (term t ts) low h = absurd h
list_low s v most (r ∷ rs) no_terms low h = absurd h
list_low s v most (r ∷ rs) (term t ts) low h =
    All-cons (IsAtMost (both s v) most) r rs (record { means = t; refers = h.0; low = omega arith }) (list_low s v most rs ts (omega arith) h.1)

none_low : (s : Table) (v : TermsView) (most : ℕ) (rs : List ℕ) → ReferToAll s v rs [] → All (IsAtMost (both s v) most) rs
none_low s v most [] h = All-nil (IsAtMost (both s v) most)
none_low s v most (r ∷ rs) h = absurd h

pub arguments_low : (s : Table) (v : TermsView) (most r : ℕ) (rs : List ℕ) → IsAtMost (both s v) most r → ((t : Term) → RefersTo s v r t → ReferToAll s v rs (arguments_of t)) → All (IsAtMost (both s v) (most - 1)) rs
unfolding height
arguments_low s v most r rs h arguments = go h.means h.low (arguments h.means h.refers)
  where
    go : (t : Term) → height t ≤ most → ReferToAll s v rs (arguments_of t) → All (IsAtMost (both s v) (most - 1)) rs
    go (numeral n) low all = none_low s v (most - 1) rs all
    go (variable x) low all = none_low s v (most - 1) rs all
    go (operation op ts) low all = list_low s v (most - 1) rs ts (omega arith) all
    go (call f ts) low all = list_low s v (most - 1) rs ts (omega arith) all
    go (let_in bs u) low all = none_low s v (most - 1) rs all

-- lets
record IsLowLet (s : Table) (v : TermsView) (most r : ℕ) : Type 0 where
  bindings : Bindings
  body : Term
  refers : RefersTo s v r (let_in bindings body)
  low : 1 + max (highest_bound bindings) (height body) ≤ most

low_let : (s : Table) (v : TermsView) (most r : ℕ) → IsAtMost (both s v) most r → ((t : Term) → RefersTo s v r t → IsLet t) → IsLowLet s v most r
unfolding height
low_let s v most r h is = go h.means h.refers h.low (is h.means h.refers)
  where
    go : (t : Term) → RefersTo s v r t → height t ≤ most → IsLet t → IsLowLet s v most r
    go (numeral n) refers low e = absurd e
    go (variable x) refers low e = absurd e
    go (operation op ts) refers low e = absurd e
    go (call f ts) refers low e = absurd e
    go (let_in bs u) refers low e = record { bindings = bs; body = u; refers = refers; low = low }

pub body_low : (s : Table) (v : TermsView) (most r body : ℕ) → IsAtMost (both s v) most r → ((t : Term) → RefersTo s v r t → IsLet t) → ((bs : Bindings) (u : Term) → RefersTo s v r (let_in bs u) → RefersTo s v body u) → IsAtMost (both s v) (most - 1) body
body_low s v most r body h is bodies =
    let l = low_let s v most r h is in
    let low = l.low in
    record { means = l.body; refers = bodies l.bindings l.body l.refers; low = omega arith }

bound_low : (s : Table) (v : TermsView) (most : ℕ) (ks rs : List ℕ) (bs : Bindings) → highest_bound bs ≤ most → AreBindings s v ks rs bs → All (IsAtMost (both s v) most) rs
unfolding height
bound_low s v most [] [] bs low h = All-nil (IsAtMost (both s v) most)
bound_low s v most [] (r ∷ rs) bs low h = absurd h
bound_low s v most (k ∷ ks) [] bs low h = absurd h
bound_low s v most (k ∷ ks) (r ∷ rs) no_bindings low h = absurd h
bound_low s v most (k ∷ ks) (r ∷ rs) (binding x t bs) low h =
    All-cons (IsAtMost (both s v) most) r rs (record { means = t; refers = h.1; low = omega arith }) (bound_low s v most ks rs bs (omega arith) h.2)

pub values_low : (s : Table) (v : TermsView) (most r : ℕ) (ks rs : List ℕ) → IsAtMost (both s v) most r → ((t : Term) → RefersTo s v r t → IsLet t) → ((bs : Bindings) (u : Term) → RefersTo s v r (let_in bs u) → AreBindings s v ks rs bs) → All (IsAtMost (both s v) (most - 1)) rs
values_low s v most r ks rs h is bindings =
    let l = low_let s v most r h is in
    let low = l.low in
    bound_low s v (most - 1) ks rs l.bindings (omega arith) (bindings l.bindings l.body l.refers)

-- the value of one of the variables
pub value_low : (s : Table) (v : TermsView) (most k q : ℕ) (ks rs : List ℕ) → All (IsAtMost (both s v) most) rs → value_of k ks rs ≡ Some q → IsAtMost (both s v) most q
value_low s v most k q [] rs all e = absurd cc
value_low s v most k q (j ∷ ks) [] all e = absurd cc
value_low s v most k q (j ∷ ks) (r ∷ rs) all e =
    go (eqb j k) e (λ later. value_low s v most k q ks rs (All-tail (IsAtMost (both s v) most) r rs all) later)
  where
    go : (b : Bool) → cond b (Some r) (value_of k ks rs) ≡ Some q → (value_of k ks rs ≡ Some q → IsAtMost (both s v) most q) → IsAtMost (both s v) most q
    go true e next = subst (λ (i : ℕ). IsAtMost (both s v) most i) (same_some e) (All-head (IsAtMost (both s v) most) r rs all)
    go false e next = next e

pub given_low : (s : Table) (v : TermsView) (most : ℕ) (ks rs leaves gs ps : List ℕ) → All (IsAtMost (both s v) most) rs → AreGiven leaves ks rs gs ps → All (IsAtMost (both s v) most) ps
given_low s v most ks rs leaves [] [] all given = All-nil (IsAtMost (both s v) most)
given_low s v most ks rs leaves [] (p ∷ ps) all given = absurd given
given_low s v most ks rs leaves (g ∷ gs) [] all given = absurd given
given_low s v most ks rs leaves (g ∷ gs) (p ∷ ps) all given =
    All-cons (IsAtMost (both s v) most) p ps (value_low s v most g p ks rs all given.0.1) (given_low s v most ks rs leaves gs ps all given.1)
