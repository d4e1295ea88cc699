-- The first assertions that are equal to terms, as terms come one after the other.
use Rattle.std.proofs.Common.{◌≡◌, ◌⊎◌, inl, inr, ℕ, Bool, true, List, [], Option, Some, None, IfSome, IfNone, Any, Contains, refl, sym, subst}
use Rattle.sym_table.specs.Table.{Table}
use Rattle.term_model.proofs.Basics.{same_some}
use Rattle.term_model.proofs.Lists.{contains_none}
use Rattle.term_model.specs.Flips.{EqualUpToFlips}
use Rattle.term_model.specs.Terms.{Term}
use Rattle.term_pool.specs.Views.{TermsView, RefersTo, ReferToAll, IsTerm}
use Rattle.flip_keys.specs.Assertions.{IsFirstLike}
use Rattle.pruned_proofs.specs.Reached.{is_kept}
use Rattle.proof_prune.specs.Firsts.{AreFirsts, HasMarkedFirst, TellsFirst}
use Rattle.proof_prune.specs.Marking.{MarksMore}

some_is : (P : ℕ → Type 0) (o : Option ℕ) (n : ℕ) → o ≡ Some n → IfSome o P → P n
some_is P None n e h = absurd (cc)
some_is P (Some m) n e h = subst P (same_some e) h

module _ (s : Table) (v : TermsView) (ts : List Term) where
  pub none_first : (marks : List Bool) → ((n : ℕ) → is_kept marks n ≡ true → ⊥) → AreFirsts s v ts [] marks
  none_first marks none = record { only = λ n is. absurd (none n is); each = λ r t has. absurd (contains_none r has) }

  -- one reference more
  module _ (old more : List ℕ) (r : ℕ) (is : IsTerm s v r) (keeps : (q : ℕ) → Contains old q → Contains more q) (here : Contains more r)
      (split : (q : ℕ) → Contains more q → Contains old q ⊎ (r ≡ q)) (a b : List Bool) (found : Option ℕ) (marks : MarksMore a b (λ n. found ≡ Some n))
      (tells : TellsFirst s v ts r found) where
    marked_first : (t : Term) → RefersTo s v r t → Any (λ u. EqualUpToFlips u t) ts → HasMarkedFirst ts t b
    marked_first t refers any = go found refl (tells.first t refers) (tells.none t refers)
      where
        go : (o : Option ℕ) → found ≡ o → IfSome o (IsFirstLike ts t) → IfNone o (¬ Any (λ u. EqualUpToFlips u t) ts) → HasMarkedFirst ts t b
        go None e h none = absurd (none any)
        go (Some n) e h none = record { number = n; first = h; marked = marks.added n e }

    pub one_first : AreFirsts s v ts old a → AreFirsts s v ts more b
    one_first h = record {
      only = λ n marked. elim (marks.only n marked) [
        | inl before ↦ (let o = h.only n before in
            record { reference = o.reference; there = keeps o.reference o.there; term = o.term; refers = o.refers; first = o.first })
        | inr e ↦ record {
          reference = r;
          there = here;
          term = is.means;
          refers = is.refers;
          first = some_is (IsFirstLike ts is.means) found n e (tells.first is.means is.refers);
        }
      ];
      each = λ q t has refers any. elim (split q has) [
        | inl early ↦ (let m = h.each q t early refers any in record { number = m.number; first = m.first; marked = marks.stays m.number m.marked })
        | inr same ↦ marked_first t (subst (λ x. RefersTo s v x t) (sym same) refers) any
      ];
    }

-- what was told while the same was known, of references that are these
pub told_first : (s : Table) (v w : TermsView) (references assertions : List ℕ) (r : ℕ) (found : Option ℕ) → w ≡ v → references ≡ assertions
    → ((ts : List Term) (t : Term) → ReferToAll s w references ts → RefersTo s w r t → IfSome found (IsFirstLike ts t))
    → ((ts : List Term) (t : Term) → ReferToAll s w references ts → RefersTo s w r t → IfNone found (¬ Any (λ a. EqualUpToFlips a t) ts))
    → (ts : List Term) → ReferToAll s v assertions ts → TellsFirst s v ts r found
told_first s v w references assertions r found same are first none ts refer =
    let here = subst (λ x. ReferToAll s x references ts) (sym same) (subst (λ rs. ReferToAll s v rs ts) (sym are) refer) in
    record {
      first = λ t refers. first ts t here (subst (λ x. RefersTo s x r t) (sym same) refers);
      none = λ t refers. none ts t here (subst (λ x. RefersTo s x r t) (sym same) refers);
    }
