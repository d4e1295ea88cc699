-- Terms that are joined by `and`, taken apart from the last one on.
use Rattle.std.proofs.Common.{◌≡◌, ◌≢◌, ◌↔◌, ℕ, List, [], ◌∷◌, ◌++◌, Bool, false, IsTrue, refl, sym, ap, ◌∙◌, subst}
use Rattle.sym_table.specs.Table.{Table}
use Rattle.term_model.specs.declared.symbols.Op.{Op}
use Rattle.term_model.specs.Terms.{Term}
use Rattle.term_pool.specs.Views.{TermsView, RefersTo, ReferToAll}
use Rattle.term_pool.proofs.References.{AreOne}
use Rattle.rules_simplify.specs.Conjoined.{AreOperands, conjunction, conjoined}
use Rattle.rules_simplify.proofs.ConjoinedLemmas.{conjoined_last, LastOf, last_of}

-- what is left to compare: u is t with the terms joined exactly where the rest is t with those that are left
pub record IsLeftOf (s : Table) (v : TermsView) (items : List ℕ) (rest : ℕ) (t u : Term) (us : List Term) : Type 0 where
  pub left : List Term
  pub here : Term
  pub refer : ReferToAll s v items left
  pub refers : RefersTo s v rest here
  pub same : (u ≡ conjoined t us) ↔ (here ≡ conjoined t left)

pub left_starts : (s : Table) (v : TermsView) (items : List ℕ) (r : ℕ) (t u : Term) (us : List Term) → ReferToAll s v items us → RefersTo s v r u → IsLeftOf s v items r t u us
left_starts s v items r t u us refer refers = record { left = us; here = u; refer = refer; refers = refers; same = (λ e. e, λ e. e) }

both_inside : (x y z w : Term) → conjunction x y ≡ conjunction z w → (x ≡ z) × (y ≡ w)
both_inside x y z w e = (let f : x ≡ z = cc in f, let f : y ≡ w = cc in f)

module _ (s : Table) (v : TermsView) (one : AreOne s v) (items new : List ℕ) (rest last : ℕ) (t u : Term) (us : List Term) (popped : items ≡ new ++ last ∷ []) (is : IsLeftOf s v items rest t u us) where
  split : LastOf s v new last is.left
  split = last_of s v new last is.left (subst (λ (rs : List ℕ). ReferToAll s v rs is.left) popped is.refer)

  whole : conjoined t is.left ≡ conjunction (conjoined t split.front) split.last
  whole = ap (conjoined t) split.is ∙ conjoined_last t split.front split.last

  pub no_conjunction : ((w x y : Term) → RefersTo s v rest w → w ≢ conjunction x y) → IsTrue false ↔ (u ≡ conjoined t us)
  no_conjunction other = (λ e. absurd cc, λ e. absurd (other is.here (conjoined t split.front) split.last is.refers (is.same.0 e ∙ whole)))

  module _ (p : ℕ × ℕ) (are : (w : Term) → RefersTo s v rest w → AreOperands s v Op.And p w) where
    pub other_last : (p.1 ≡ last → ⊥) → IsTrue false ↔ (u ≡ conjoined t us)
    other_last other = (
      λ e. absurd cc,
      λ e.
          (let both = are is.here is.refers in
          let parts = both_inside both.first both.second (conjoined t split.front) split.last (sym both.is ∙ (is.same.0 e ∙ whole)) in
          absurd (other ((one p.1 last both.second split.last both.second_refers split.last_refers).1 parts.1))),
    )

    pub left_less : p.1 ≡ last → IsLeftOf s v new p.0 t u us
    left_less same =
        let both = are is.here is.refers in
        let second = (one p.1 last both.second split.last both.second_refers split.last_refers).0 same in
        record {
          left = split.front;
          here = both.first;
          refer = split.front_refer;
          refers = both.first_refers;
          same = (
            λ e. (both_inside both.first both.second (conjoined t split.front) split.last (sym both.is ∙ (is.same.0 e ∙ whole))).0,
            λ e.
                (let joined : conjunction both.first both.second ≡ conjunction (conjoined t split.front) split.last = cc in
                is.same.1 (both.is ∙ (joined ∙ sym whole))),
          );
        }

-- none is left
pub none_left : (s : Table) (v : TermsView) → AreOne s v → (items : List ℕ) (rest first : ℕ) (t u : Term) (us : List Term) (b : Bool) → items ≡ [] → IsLeftOf s v items rest t u us → RefersTo s v first t → IsTrue b ↔ (rest ≡ first) → IsTrue b ↔ (u ≡ conjoined t us)
none_left s v one items rest first t u us b none is refers test =
    let bare = go is.left (subst (λ (rs : List ℕ). ReferToAll s v rs is.left) none is.refer) in
    let same = one rest first is.here t is.refers refers in
    (λ e. is.same.1 (same.0 (test.0 e) ∙ sym bare), λ e. test.1 (same.1 (is.same.0 e ∙ bare)))
  where
    go : (ts : List Term) → ReferToAll s v [] ts → conjoined t ts ≡ t
    go [] h = refl
    go (w ∷ ts) h = absurd h
