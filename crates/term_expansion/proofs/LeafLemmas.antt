-- Cited by crates above. Lists of leaves that get those of more variables.
use Rattle.std.proofs.Common.{◌≡◌, ◌≢◌, ℕ, ◌<◌, ◌⊎◌, inl, inr, List, [], length, slice_get, Some, None, Option, Bool, true, false, nat_eq, eqb, cond, refl, sym, ◌∙◌, ap, subst, Contains, drop, IsSomeAnd, pos, Vec}
use Rattle.std.specs.HashMap.{get}
use Rattle.std.specs.declared.alloc.Global.{Global}
use Rattle.std.proofs.lemmas.Bool.Decides.{eqb_tells}
use Rattle.std.proofs.lemmas.Option.{slice_get_within}
use Rattle.sym_table.specs.declared.kind.Kind.{Kind}
use Rattle.sym_table.specs.Leaf.{Leaf, operator, kind_of}
use Rattle.sym_table.specs.Table.{Table, IsLeaf, LeafMeets}
use Rattle.sym_table.proofs.Tables.{one_symbol}
use Rattle.term_model.specs.declared.symbols.Sort.{Sort}
use Rattle.term_model.specs.Terms.{Var, Term, numeral, variable, operation, call, let_in, Bindings}
use Rattle.term_model.proofs.Lists.{contains_none}
use Rattle.term_model.proofs.Basics.{same_some}
use Rattle.term_pool.specs.Building.{IsAppliedLeaf, AreBindings}
use Rattle.term_pool.specs.Reading.{IsLet}
use Rattle.term_pool.specs.StandsFor.{variable_leaf, function_leaf}
use Rattle.term_pool.specs.Views.{TermsView, ReferToAll}
use Rattle.term_pool.proofs.Leaves.{one_variable}
use Rattle.term_expansion.specs.Free.{HasVariable, IsLeafOfSome, AddsLeaves, AddsOne, AddsUnbound}
use Rattle.term_expansion.specs.Needs.{Needs}

-- the kind of a variable's leaf
abbrev kind_is : Kind → ℕ → Option Leaf → Type 0
kind_is kind n o = IsSomeAnd o (λ l. kind ≡ kind_of n l)

pub variable_kind : (s : Table) (k n : ℕ) (sort : Sort) → LeafMeets s k (λ l. Kind.Var sort ≡ kind_of n l) → (x : Var) × IsLeaf s k (variable_leaf x)
variable_kind s k n sort h = go (slice_get s.leaves k) refl h
  where
    go : (o : Option Leaf) → slice_get s.leaves k ≡ o → kind_is (Kind.Var sort) n o → (x : Var) × IsLeaf s k (variable_leaf x)
    go None e h = absurd h
    go (Some Leaf.nil) e h = absurd cc
    go (Some Leaf.let_head) e h = absurd cc
    go (Some (operator op)) e h = absurd cc
    go (Some (Leaf.function name arguments target)) e h = absurd cc
    go (Some (Leaf.variable name of)) e h = (record { name = name; sort = of }, e)
    go (Some (Leaf.numeral m)) e h = absurd cc

-- adding leaves
pub has_more : (s : Table) (a b : List ℕ) (x : Var) → ((k : ℕ) → Contains a k → Contains b k) → HasVariable s a x → HasVariable s b x
has_more s a b x kept h = (h.0, h.1, kept h.0 h.2)

pub adds-same : (s : Table) (a b : List ℕ) (P Q : Var → Type 0) → ((x : Var) → P x → Q x) → ((x : Var) → Q x → P x) → AddsLeaves s a b P → AddsLeaves s a b Q
adds-same s a b P Q f g h = record {
  kept = h.kept;
  all = λ x q. h.all x (g x q);
  only = λ k c. elim (h.only k c) [ inl old ↦ inl old | inr new ↦ inr (new.0, new.1, f new.0 new.2) ];
}

pub adds-none : (s : Table) (a : List ℕ) (P : Var → Type 0) → ((x : Var) → P x → ⊥) → AddsLeaves s a a P
adds-none s a P never = record { kept = λ k c. c; all = λ x p. absurd (never x p); only = λ k c. inl c }

pub adds-both : (s : Table) (a b c : List ℕ) (P Q : Var → Type 0) → AddsLeaves s a b P → AddsLeaves s b c Q → AddsLeaves s a c (λ x. P x ⊎ Q x)
adds-both s a b c P Q g h = record {
  kept = λ k i. h.kept k (g.kept k i);
  all = all;
  only = only;
}
  where
    all : (x : Var) → P x ⊎ Q x → HasVariable s c x
    all x (inl p) = has_more s b c x h.kept (g.all x p)
    all x (inr q) = h.all x q

    first : (k : ℕ) → Contains b k → Contains a k ⊎ IsLeafOfSome s k (λ x. P x ⊎ Q x)
    first k i = elim (g.only k i) [ inl old ↦ inl old | inr new ↦ inr (new.0, new.1, inl new.2) ]

    only : (k : ℕ) → Contains c k → Contains a k ⊎ IsLeafOfSome s k (λ x. P x ⊎ Q x)
    only k i = elim (h.only k i) [ inl old ↦ first k old | inr new ↦ inr (new.0, new.1, inr new.2) ]

pub swapped : (P Q : Type 0) → P ⊎ Q → Q ⊎ P
swapped P Q (inl p) = inr p
swapped P Q (inr q) = inl q

-- a variable, and an application
pub head_within : (s : Table) (k : ℕ) (ts : List Term) (t : Term) → IsAppliedLeaf s k ts t → k < length s.leaves
head_within s k ts (numeral n) h = slice_get_within s.leaves k _ h.0
head_within s k ts (variable x) h = slice_get_within s.leaves k _ h.0
head_within s k ts (operation op us) h = slice_get_within s.leaves k _ h.0
head_within s k ts (call f us) h = slice_get_within s.leaves k _ h.0
head_within s k ts (let_in bs u) h = absurd h

pub application-no_let : (s : Table) (k : ℕ) (ts : List Term) (t : Term) → IsAppliedLeaf s k ts t → IsLet t → ⊥
application-no_let s k ts (numeral n) h e = e
application-no_let s k ts (variable x) h e = e
application-no_let s k ts (operation op us) h e = e
application-no_let s k ts (call f us) h e = e
application-no_let s k ts (let_in bs u) h e = h

pub is_variable : (s : Table) (k : ℕ) (x : Var) (ts : List Term) (t : Term) → IsLeaf s k (variable_leaf x) → IsAppliedLeaf s k ts t → t ≡ variable x
is_variable s k x ts (numeral n) g h = absurd (let e = one_symbol s k (variable_leaf x) (Leaf.numeral (pos n)) g h.0 in cc)
is_variable s k x ts (operation op us) g h = absurd (let e = one_symbol s k (variable_leaf x) (operator op) g h.0 in cc)
is_variable s k x ts (call f us) g h = absurd (let e = one_symbol s k (variable_leaf x) (function_leaf f) g h.0 in cc)
is_variable s k x ts (let_in bs u) g h = absurd h
is_variable s k x ts (variable y) g h = ap (λ (z : Var). variable z) (one_variable s k y x h.0 g)

pub one-adds : (s : Table) (k : ℕ) (x : Var) (a b : List ℕ) → IsLeaf s k (variable_leaf x) → AddsOne a b k → AddsLeaves s a b (λ y. x ≡ y)
one-adds s k x a b g one = record {
  kept = one.kept;
  all = λ z e. (k, subst (λ (w : Var). IsLeaf s k (variable_leaf w)) e g, one.here);
  only = λ j c. elim (one.only j c) [ inl old ↦ inl old | inr same ↦ inr (x, subst (λ i. IsLeaf s i (variable_leaf x)) (sym same) g, refl) ];
}

-- lists that were empty before
pub arguments-from_none : (s : Table) (v w : TermsView) (old rs : List ℕ) (ts : List Term) → w ≡ v → old ≡ [] → ReferToAll s w (drop (length old) rs) ts → ReferToAll s v rs ts
arguments-from_none s v w old rs ts e f h =
    subst (λ z. ReferToAll s z rs ts) e (subst (λ (z : List ℕ). ReferToAll s w (drop (length z) rs) ts) f h)

pub bindings-from_none : (s : Table) (v w : TermsView) (old_ks old_rs ks rs : List ℕ) (bs : Bindings) → w ≡ v → old_ks ≡ [] → old_rs ≡ [] → AreBindings s w (drop (length old_ks) ks) (drop (length old_rs) rs) bs → AreBindings s v ks rs bs
bindings-from_none s v w old_ks old_rs ks rs bs e f g h =
    subst (λ z. AreBindings s z ks rs bs) e
    (subst (λ (z : List ℕ). AreBindings s w ks (drop (length z) rs) bs) g
    (subst (λ (z : List ℕ). AreBindings s w (drop (length z) ks) (drop (length old_rs) rs) bs) f h))

-- leaves that were kept
pub added-leaves : (s : Table) (leaves a b : List ℕ) (P : Var → Type 0) → AddsLeaves s [] leaves P → AddsUnbound leaves [] a b → AddsLeaves s a b P
added-leaves s leaves a b P are adds = record {
  kept = adds.kept;
  all = λ x h. let r = are.all x h in (r.0, r.1, adds.all r.0 r.2 (contains_none r.0));
  only = λ k c. elim (adds.only k c) [ inl old ↦ inl old | inr is ↦ inr (new k is.0) ];
}
  where
    new : (k : ℕ) → Contains leaves k → IsLeafOfSome s k P
    new k c = elim (are.only k c) [ inl none ↦ absurd (contains_none k none) | inr is ↦ is ]

-- bodies
pub one-more : (P : ℕ → Vec ℕ Global → Type 0) (old new : Needs) (r : ℕ) (leaves : Vec ℕ Global) → ((q : ℕ) → get nat_eq new q ≡ cond (eqb r q) (Some leaves) (get nat_eq old q)) → P r leaves → ((q : ℕ) (ls : Vec ℕ Global) → get nat_eq old q ≡ Some ls → P q ls) → (q : ℕ) (ls : Vec ℕ Global) → get nat_eq new q ≡ Some ls → P q ls
one-more P old new r leaves updates right h q ls is = go (eqb r q) (eqb_tells r q) (sym (updates q) ∙ is)
  where
    go : (b : Bool) → ((b ≡ true) × (r ≡ q)) ⊎ ((b ≡ false) × (r ≢ q)) → cond b (Some leaves) (get nat_eq old q) ≡ Some ls → P q ls
    go true (inl both) is = subst (P q) (same_some is) (subst (λ p. P p leaves) both.1 right)
    go true (inr both) is = absurd (let z = both.0 in cc)
    go false (inl both) is = absurd (let z = both.0 in cc)
    go false (inr both) is = h q ls is

pub refer_at : (s : Table) (v w : TermsView) (rs qs : List ℕ) (ts : List Term) → w ≡ v → qs ≡ rs → ReferToAll s v rs ts → ReferToAll s w qs ts
refer_at s v w rs qs ts e f h =
    subst (λ z. ReferToAll s z qs ts) (sym e) (subst (λ zs. ReferToAll s v zs ts) (sym f) h)
