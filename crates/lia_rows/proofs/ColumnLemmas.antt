-- Columns that are added.
use Rattle.std.proofs.Common.{◌≡◌, ◌≢◌, ◌⊎◌, inl, inr, ◌≤◌, ◌<◌, ℕ, ◌+◌, List, [], ◌∷◌, ◌++◌, length, get_or, map, take, true, false, All, Contains, refl, sym, ap, subst, ◌∙◌, arith}
use Rattle.std.proofs.lemmas.List.{length-append, append_assoc, append-nil}
use Rattle.std.proofs.lemmas.List.Elements.{All-nil, All-push, All-weaker, All-append, Contains-push, Contains-append_left, Contains-append_right, Contains-get_or}
use Rattle.std.proofs.lemmas.List.Quantifiers.{all_pairs_push}
use Rattle.lia_rows.specs.Columns.{AreApart, IsColumnAdded, AreAdded, HaveFive, TellsAdded}

pub none_added : (old : List ℕ) → AreApart old → length old ≤ 4 → AreAdded old [] old
none_added old apart few = record {
  more = [];
  grown = sym (append-nil old);
  from = All-nil (Contains []);
  each = All-nil (Contains old);
  apart = apart;
  few = few;
}

apart_more : (xs : List ℕ) (r : ℕ) → AreApart xs → ¬ Contains xs r → AreApart (xs ++ r ∷ [])
apart_more xs r apart other =
    all_pairs_push (λ (p q : ℕ). p ≢ q) xs r apart (λ k d below e. other (subst (Contains xs) e (Contains-get_or xs k d below)))

from_more : (refs xs : List ℕ) (r : ℕ) → All (Contains refs) xs → All (Contains (refs ++ r ∷ [])) xs
from_more refs xs r all =
    All-weaker (Contains refs) (Contains (refs ++ r ∷ [])) (λ x h. Contains-append_left refs (r ∷ []) x h) xs all

-- one term more
pub one_added : (old refs now new : List ℕ) (r : ℕ) → AreAdded old refs now → IsColumnAdded now r new true → AreAdded old (refs ++ r ∷ []) new
one_added old refs now new r h (inl (there, same)) = record {
  more = h.more;
  grown = same ∙ h.grown;
  from = from_more refs h.more r h.from;
  each = subst (λ xs. All (Contains xs) (refs ++ r ∷ [])) (sym same) (All-push (Contains now) refs r h.each there);
  apart = subst AreApart (sym same) h.apart;
  few = subst (λ xs. length xs ≤ 4) (sym same) h.few;
}
one_added old refs now new r h (inr (other, below, grown)) = record {
  more = h.more ++ r ∷ [];
  grown = grown ∙ ap (λ xs. xs ++ r ∷ []) h.grown ∙ append_assoc old h.more (r ∷ []);
  from = All-push (Contains (refs ++ r ∷ [])) h.more r (from_more refs h.more r h.from) (Contains-push refs r);
  each =
      subst (λ xs. All (Contains xs) (refs ++ r ∷ [])) (sym grown)
      (All-push (Contains (now ++ r ∷ [])) refs r (All-weaker (Contains now) (Contains (now ++ r ∷ [])) (λ x k. Contains-append_left now (r ∷ []) x k) refs h.each) (Contains-push now r));
  apart = subst AreApart (sym grown) (apart_more now r h.apart other);
  few = subst (λ xs. length xs ≤ 4) (sym grown) (omega (arith, below, length-append now (r ∷ [])));
}

-- a fifth
pub five : (old refs now new all : List ℕ) (r : ℕ) → AreAdded old refs now → IsColumnAdded now r new false → ((q : ℕ) → Contains (refs ++ r ∷ []) q → Contains all q) → HaveFive old all
five old refs now new all r h (other, four, same) there = record {
  five = now ++ r ∷ [];
  count = (let few = h.few in omega (arith, four, few, length-append now (r ∷ [])));
  apart = apart_more now r h.apart other;
  from = All-push From now r (subst (All From) (sym h.grown) (All-append From old h.more olds news)) (inr (there r (Contains-push refs r)));
}
  where
    From : ℕ → Type 0
    From q = Contains old q ⊎ Contains all q

    olds : All From old
    olds k d below = inl (Contains-get_or old k d below)

    news : All From h.more
    news k d below = inr (there (get_or h.more k d) (Contains-append_left refs (r ∷ []) (get_or h.more k d) (h.from k d below)))
