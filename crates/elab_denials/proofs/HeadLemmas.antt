-- Private. Two applications of one head.
use Rattle.std.proofs.Common.{◌≡◌, ◌≢◌, ℕ, List, [], refl, sym, ap, ◌∙◌, subst}
use Rattle.rule_model.specs.Congruence.{Head, operator, function, applied}
use Rattle.sym_table.specs.Table.{Table, IsTable, IsLeaf}
use Rattle.sym_table.proofs.Tables.{one_symbol}
use Rattle.term_model.specs.declared.symbols.Sort.{Sort}
use Rattle.term_model.specs.Terms.{Fun, Term, numeral, variable, operation, call, let_in}
use Rattle.term_model.proofs.Lists.{list_of-terms_of, terms_of-list_of}
use Rattle.term_pool.specs.Reading.{arguments_of, IsLet}
use Rattle.elab_denials.specs.Matching.{leaf_of, HasHead}

pub no_let : (head : Head) (ts : List Term) (t : Term) → t ≡ applied head ts → IsLet t → ⊥
no_let (operator op) ts t e is = subst IsLet e is
no_let (function f) ts t e is = subst IsLet e is

pub arguments_are : (head : Head) (ts : List Term) (t : Term) → t ≡ applied head ts → arguments_of t ≡ ts
arguments_are (operator op) ts t e = ap arguments_of e ∙ list_of-terms_of ts
arguments_are (function f) ts t e = ap arguments_of e ∙ list_of-terms_of ts

-- the leaf of an application's head
pub head_leaf : (s : Table) (k : ℕ) (head : Head) (ts : List Term) (t : Term) → t ≡ applied head ts → HasHead s k t → IsLeaf s k (leaf_of head)
head_leaf s k (operator op) ts t e h = (subst (HasHead s k) e h).0
head_leaf s k (function f) ts t e h = (subst (HasHead s k) e h).0

-- what has a head and an argument is an application
pub record IsApplied (s : Table) (k : ℕ) (t : Term) : Type 0 where
  pub head : Head
  pub leaf : IsLeaf s k (leaf_of head)
  pub is : t ≡ applied head (arguments_of t)

pub has_applied : (s : Table) (k : ℕ) (t : Term) → HasHead s k t → arguments_of t ≢ [] → IsApplied s k t
has_applied s k (numeral n) h some = absurd (some refl)
has_applied s k (variable x) h some = absurd (some refl)
has_applied s k (operation op ts) h some =
    record { head = operator op; leaf = h.0; is = ap (operation op) (sym (terms_of-list_of ts)) }
has_applied s k (call f ts) h some =
    record { head = function f; leaf = h.0; is = ap (call f) (sym (terms_of-list_of ts)) }
has_applied s k (let_in bs u) h some = absurd h

pub same_head : (s : Table) (k : ℕ) (head : Head) (u : Term) → IsLeaf s k (leaf_of head) → HasHead s k u → u ≡ applied head (arguments_of u)
same_head s k (operator op) (numeral n) leaf h = absurd (let e = one_symbol s k _ _ leaf h.0 in cc)
same_head s k (operator op) (variable x) leaf h = absurd (let e = one_symbol s k _ _ leaf h.0 in cc)
same_head s k (operator op) (operation o ts) leaf h =
    let e = one_symbol s k _ _ leaf h.0 in
    let f : o ≡ op = cc in
    ap (λ x. operation x ts) f ∙ ap (operation op) (sym (terms_of-list_of ts))
same_head s k (operator op) (call f ts) leaf h = absurd (let e = one_symbol s k _ _ leaf h.0 in cc)
same_head s k (operator op) (let_in bs u) leaf h = absurd h
same_head s k (function g) (numeral n) leaf h = absurd (let e = one_symbol s k _ _ leaf h.0 in cc)
same_head s k (function g) (variable x) leaf h = absurd (let e = one_symbol s k _ _ leaf h.0 in cc)
same_head s k (function g) (operation o ts) leaf h = absurd (let e = one_symbol s k _ _ leaf h.0 in cc)
same_head s k (function g) (call f ts) leaf h =
    let e = one_symbol s k _ _ leaf h.0 in
    let n : g.name ≡ f.name = cc in
    let a : g.arguments ≡ f.arguments = cc in
    let t : g.target ≡ f.target = cc in
    ap (λ x. call x ts) (sym (same_fun g.name f.name g.arguments f.arguments g.target f.target n a t)) ∙ ap (call g) (sym (terms_of-list_of ts))
  where
    same_fun : (n m : List ℕ) (a b : List Sort) (t u : Sort) → n ≡ m → a ≡ b → t ≡ u
        → ◌≡◌ {A = Fun} (record { name = n; arguments = a; target = t }) (record { name = m; arguments = b; target = u })
    same_fun n m a b t u e f g = rw (e, f, g) refl
same_head s k (function g) (let_in bs u) leaf h = absurd h

pub head_is_no_let : (s : Table) (k : ℕ) (t : Term) → HasHead s k t → IsLet t → ⊥
head_is_no_let s k (numeral n) h is = is
head_is_no_let s k (variable x) h is = is
head_is_no_let s k (operation op ts) h is = is
head_is_no_let s k (call f ts) h is = is
head_is_no_let s k (let_in bs u) h is = h

pub one_head : (s : Table) (j k : ℕ) (head : Head) (ts us : List Term) (t u : Term) → IsTable s → t ≡ applied head ts → u ≡ applied head us → HasHead s j t
    → HasHead s k u → j ≢ k → ⊥
one_head s j k (operator op) ts us t u table e f left right apart =
    apart (table.apart j k (leaf_of (operator op)) (leaf_of (operator op)) (head_leaf s j (operator op) ts t e left)
    (head_leaf s k (operator op) us u f right) refl refl)
one_head s j k (function g) ts us t u table e f left right apart =
    apart (table.apart j k (leaf_of (function g)) (leaf_of (function g)) (head_leaf s j (function g) ts t e left)
    (head_leaf s k (function g) us u f right) refl refl)
