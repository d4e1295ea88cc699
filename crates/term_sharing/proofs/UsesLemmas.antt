-- The steps of a walk that finds terms which stand more than once.
use Rattle.std.proofs.Common.{◌≡◌, ◌≢◌, ◌⊎◌, inl, inr, ℕ, ◌<◌, ◌+◌, ◌-◌, ◌*◌, ◌^◌, vec_len, arith, Bool, true, false, not, Option, Some, None, List, [], ◌∷◌, ◌++◌, sym, ap, ◌∙◌, subst}
use Rattle.std.specs.Prelude.{reverse, All, IfSome, IfNone}
use Rattle.std.specs.Option.{is_some}
use Rattle.std.proofs.lemmas.Bool.{cases_eq}
use Rattle.std.proofs.lemmas.List.Elements.{All-nil, All-cons, All-head, All-tail, All-append, All-push}
use Rattle.std.proofs.lemmas.List.{reverse-append}
use Rattle.sym_table.specs.Table.{Table}
use Rattle.term_model.specs.Sorts.{IsWellSorted}
use Rattle.term_model.specs.Terms.{Term, Bindings, numeral, variable, operation, call, let_in}
use Rattle.term_pool.specs.Building.{IsAppliedLeaf, AreBindings}
use Rattle.term_pool.specs.Reading.{arguments_of, IsLet, IsLetTerm}
use Rattle.term_pool.specs.Views.{TermsView, RefersTo, ReferToAll}
use Rattle.sort_check.specs.WellSorted.{IsWellSortedTerm}
use Rattle.term_sharing.specs.Marks.{mark_at, met, says_closed, AreRight, IsMarked, IsNearer}
use Rattle.term_sharing.specs.NamedTerms.{IsClosed}
use Rattle.term_sharing.specs.declared.marks.Mark.{Mark}
use Rattle.term_sharing.specs.declared.uses.Uses.{Uses}
use Rattle.term_sharing.proofs.ClosedTerms.{arguments_sorted, values_sorted}

-- what a look at the head of a term says
pub head_none : (o : Option ℕ) (b : Bool) (P : Type 0) → is_some o ≡ not b → b ≡ true → IfNone o P → P
head_none None b P e is h = h
head_none (Some k) true P e is h = absurd (cc)
head_none (Some k) false P e is h = absurd (cc)

pub head_some : (o : Option ℕ) (b : Bool) (P : ℕ → Type 0) → is_some o ≡ not b → b ≡ false → IfSome o P → (k : ℕ) × P k
head_some None true P e is h = absurd (cc)
head_some None false P e is h = absurd (cc)
head_some (Some k) b P e is h = (k, h)

pub no_let : (s : Table) (k : ℕ) (ts : List Term) (t : Term) → IsAppliedLeaf s k ts t → IsLet t → ⊥
no_let s k ts (numeral n) is lets = lets
no_let s k ts (variable x) is lets = lets
no_let s k ts (operation op us) is lets = lets
no_let s k ts (call f us) is lets = lets
no_let s k ts (let_in bs t) is lets = is

pub let_term : (s : Table) (v : TermsView) (r : ℕ) (t : Term) → RefersTo s v r t → IsLet t → IsLetTerm v r
let_term s v r (numeral n) refers lets = absurd lets
let_term s v r (variable x) refers lets = absurd lets
let_term s v r (operation op ts) refers lets = absurd lets
let_term s v r (call f ts) refers lets = absurd lets
let_term s v r (let_in bs t) refers lets = record { symbols = s; bindings = bs; body = t; refers = refers }

-- what is left, with the parts of a term
pub all_but_last : (P : ℕ → Type 0) (xs : List ℕ) (x : ℕ) → All P (xs ++ x ∷ []) → All P xs
all_but_last P [] x all = All-nil P
all_but_last P (y ∷ ys) x all = All-cons P y ys (All-head P y _ all) (all_but_last P ys x (All-tail P y _ all))

pub all_last : (P : ℕ → Type 0) (xs : List ℕ) (x : ℕ) → All P (xs ++ x ∷ []) → P x
all_last P [] x all = All-head P x [] all
all_last P (y ∷ ys) x all = all_last P ys x (All-tail P y _ all)

pub all_reverse : (P : ℕ → Type 0) (xs : List ℕ) → All P xs → All P (reverse xs)
all_reverse P [] all = All-nil P
all_reverse P (x ∷ xs) all =
    subst (All P) (sym (reverse-append (x ∷ []) xs))
    (All-push P (reverse xs) x (all_reverse P xs (All-tail P x xs all)) (All-head P x xs all))

module _ (s : Table) (v : TermsView) (r : ℕ) (left new : List ℕ) (before : All (IsWellSortedTerm s v) left) where
  pub with_let : (t : Term) → IsWellSorted t → RefersTo s v r t → IsLet t → (ks rs : List ℕ) (b : ℕ)
      → ((s : Table) (bs : Bindings) (u : Term) → RefersTo s v r (let_in bs u) → AreBindings s v ks rs bs)
      → ((s : Table) (bs : Bindings) (u : Term) → RefersTo s v r (let_in bs u) → RefersTo s v b u)
      → new ≡ (left ++ b ∷ []) ++ reverse rs → All (IsWellSortedTerm s v) new
  with_let (numeral n) w refers lets ks rs b values body e = absurd lets
  with_let (variable x) w refers lets ks rs b values body e = absurd lets
  with_let (operation op ts) w refers lets ks rs b values body e = absurd lets
  with_let (call f ts) w refers lets ks rs b values body e = absurd lets
  with_let (let_in bs u) w refers lets ks rs b values body e =
      subst (All (IsWellSortedTerm s v)) (sym e)
      (All-append (IsWellSortedTerm s v) (left ++ b ∷ []) (reverse rs)
      (All-push (IsWellSortedTerm s v) left b before
      (record { means = u; refers = body s bs u refers; sorted = record { sort = w.sort; of = w.of.1 } }))
      (all_reverse (IsWellSortedTerm s v) rs (values_sorted s v bs ks rs w.of.0 (values s bs u refers))))

  pub with_arguments : (t : Term) (rs : List ℕ) → IsWellSorted t → ReferToAll s v rs (arguments_of t) → new ≡ left ++ reverse rs → All (IsWellSortedTerm s v) new
  with_arguments t rs w refer e =
      subst (All (IsWellSortedTerm s v)) (sym e) (All-append (IsWellSortedTerm s v) left (reverse rs) before (all_reverse (IsWellSortedTerm s v) rs (arguments_sorted s v t rs w refer)))

-- one mark more
pub right_after : (s : Table) (v : TermsView) (old new : List Mark) (r : ℕ) (m : Mark) → AreRight s v (mark_at old) → IsMarked old new r m
    → (says_closed m ≡ true → IsClosed s v r) → AreRight s v (mark_at new)
right_after s v old new r m right now here q says = go (cases_eq q r)
  where
    go : (q ≡ r) ⊎ (q ≢ r) → IsClosed s v q
    go (inl same) =
        let at : mark_at new q ≡ m = ap (mark_at new) same ∙ now.here in
        subst (IsClosed s v) (sym same) (here (sym (ap says_closed at) ∙ says))
    go (inr other) = right q (sym (ap says_closed (now.elsewhere q other)) ∙ says)

-- what is left to do
pub nearer_smaller : (before old new : Uses) → old.marks ≡ before.marks → vec_len old.left < vec_len before.left → IsNearer old new
    → (2 ^ 64 - met new.marks.items) * 2 ^ 64 + vec_len new.left < (2 ^ 64 - met before.marks.items) * 2 ^ 64 + vec_len before.left
nearer_smaller before old new same fewer (inl h) =
    let a = h.0 ∙ ap met (ap (λ m. m.items) same) in let b = h.1 in omega (arith, a, b, fewer)
nearer_smaller before old new same fewer (inr h) =
    let a = h.1 in
    let b = h.0 in
    let c = h.2 in
    let d = ap met (ap (λ m. m.items) same) in
    omega (arith, a, b, c, d, fewer)
