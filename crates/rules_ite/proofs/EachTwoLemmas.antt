-- Inequalities of each two of some terms, by their references, from the front of the list on.
use Rattle.std.proofs.Common.{◌≡◌, ◌↔◌, ◌<◌, ◌≤◌, ℕ, zero, suc, List, [], ◌∷◌, length, take, drop, Bool, true, false, IsTrue, nat_eq, All, refl, sym, ◌∙◌, ap, subst, arith}
use Rattle.std.specs.List.{AllZip}
use Rattle.std.proofs.lemmas.Bool.{eqb-true, eq-eqb}
use Rattle.std.proofs.lemmas.List.{nil_from_length}
use Rattle.std.proofs.lemmas.List.Elements.{All-cons, All-head, All-tail}
use Rattle.sym_table.specs.Table.{Table}
use Rattle.term_model.proofs.Zips.{zip_take, zip_drop}
use Rattle.term_model.specs.Terms.{Term}
use Rattle.term_pool.specs.Views.{TermsView, RefersTo, ReferToAll}
use Rattle.rule_model.specs.Ite.{AreInequalities, IsInequality}
use Rattle.schema_match.proofs.ReferLemmas.{refer_length}
use Rattle.rules_ite.proofs.DistinctLemmas.{apart_first, apart_fails, apart_short}

-- what holds of all items holds of those
pub all_take : (P : ℕ → Type 0) (n : ℕ) (xs : List ℕ) → All P xs → All P (take n xs)
all_take P zero xs h = λ k d below. absurd (omega (arith, below))
all_take P (suc n) [] h = h
all_take P (suc n) (x ∷ xs) h = All-cons P x (take n xs) (All-head P x xs h) (all_take P n xs (All-tail P x xs h))

pub all_drop : (P : ℕ → Type 0) (n : ℕ) (xs : List ℕ) → All P xs → All P (drop n xs)
all_drop P zero xs h = h
all_drop P (suc n) [] h = h
all_drop P (suc n) (x ∷ xs) h = all_drop P n xs (All-tail P x xs h)

-- the references stand for terms, and it is left to say that other ones are the inequalities of each two of them
pub record AreLeft (s : Table) (v : TermsView) (us ls : List Term) (items left : List ℕ) : Type 0 where
  pub terms : List Term
  pub literals : List Term
  pub terms_refer : ReferToAll s v items terms
  pub literals_refer : ReferToAll s v left literals
  pub say : AreInequalities us ls ↔ AreInequalities terms literals

module _ (s : Table) (v : TermsView) (us ls : List Term) (items left : List ℕ) (so_far : AreLeft s v us ls items left) where
  -- nothing is left
  pub all_apart : (n : ℕ) (b : Bool) → items ≡ [] → n ≡ length left → b ≡ nat_eq n 0 → IsTrue b ↔ AreInequalities us ls
  all_apart n b none count test = (λ e. so_far.say.1 (rw no_terms_left (no_literals e)), λ h. some (rw no_terms_left at (so_far.say.0 h)))
    where
      nothing : (ts : List Term) → ReferToAll s v [] ts → ts ≡ []
      nothing [] h = refl
      nothing (t ∷ ts) h = absurd h

      no_terms_left : so_far.terms ≡ []
      no_terms_left = nothing so_far.terms (subst (λ rs. ReferToAll s v rs so_far.terms) none so_far.terms_refer)

      no_literals : IsTrue b → so_far.literals ≡ []
      no_literals e = nil_from_length so_far.literals (sym (refer_length s v left so_far.literals so_far.literals_refer) ∙ (sym count ∙ eqb-true n 0 (sym test ∙ e)))

      some : so_far.literals ≡ [] → IsTrue b
      some e = test ∙ eq-eqb n 0 (count ∙ (refer_length s v left so_far.literals so_far.literals_refer ∙ ap length e))

  module _ (one : ℕ) (others : List ℕ) (is : items ≡ one ∷ others) where
    front : (t : Term) × (ts : List Term) × (so_far.terms ≡ t ∷ ts) × RefersTo s v one t × ReferToAll s v others ts
    front = go so_far.terms (subst (λ rs. ReferToAll s v rs so_far.terms) is so_far.terms_refer)
      where
        go : (us : List Term) → ReferToAll s v (one ∷ others) us → (t : Term) × (ts : List Term) × (us ≡ t ∷ ts) × RefersTo s v one t × ReferToAll s v others ts
        go [] h = absurd h
        go (t ∷ ts) h = (t, ts, refl, h.0, h.1)

    said : AreInequalities us ls ↔ AreInequalities (front.0 ∷ front.1) so_far.literals
    said = subst (λ ts. AreInequalities us ls ↔ AreInequalities ts so_far.literals) front.2 so_far.say

    counts : length others ≡ length front.1
    counts = refer_length s v others front.1 front.4

    literal_counts : length left ≡ length so_far.literals
    literal_counts = refer_length s v left so_far.literals so_far.literals_refer

    -- there are fewer literals than inequalities of the first term
    pub too_few : length left < length others → IsTrue false ↔ AreInequalities us ls
    too_few few = (λ e. absurd cc, λ h. absurd (apart_short front.0 front.1 so_far.literals (let c = counts in let l = literal_counts in omega (arith, few, c, l)) (said.0 h)))

    module _ (b : Bool) (test : (t : Term) (ts ms : List Term) → RefersTo s v one t → ReferToAll s v others ts → ReferToAll s v (take (length others) left) ms → IsTrue b ↔ AllZip (IsInequality t) ts ms) where
      here : IsTrue b ↔ AllZip (IsInequality front.0) front.1 (take (length front.1) so_far.literals)
      here =
          test front.0 front.1 (take (length front.1) so_far.literals) front.3 front.4
          (subst (λ n. ReferToAll s v (take n left) (take (length front.1) so_far.literals)) (sym counts) (zip_take (RefersTo s v) (length front.1) left so_far.literals so_far.literals_refer))

      pub not_apart_here : b ≡ false → IsTrue false ↔ AreInequalities us ls
      not_apart_here fails = (λ e. absurd cc, λ h. absurd (apart_fails front.0 front.1 so_far.literals b here fails (said.0 h)))

      pub apart_here : b ≡ true → length others ≤ length left → AreLeft s v us ls others (drop (length others) left)
      apart_here holds enough =
          let next = apart_first front.0 front.1 so_far.literals (let c = counts in let l = literal_counts in omega (arith, enough, c, l)) b here holds in
          record {
            terms = front.1;
            literals = drop (length front.1) so_far.literals;
            terms_refer = front.4;
            literals_refer = subst (λ n. ReferToAll s v (drop n left) (drop (length front.1) so_far.literals)) (sym counts) (zip_drop (RefersTo s v) (length front.1) left so_far.literals so_far.literals_refer);
            say = (λ h. next.0 (said.0 h), λ h. said.1 (next.1 h));
          }
