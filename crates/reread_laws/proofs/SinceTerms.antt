-- What holds of each term that was read behind the first n.
use Rattle.std.proofs.Common.{ℕ, ◌≤◌, List, [], ◌∷◌, ◌++◌, length, drop, sym, subst, arith}
use Rattle.std.specs.List.{AllByRecursion}
use Rattle.std.proofs.lemmas.List.{length-append, drop-append-le, drop_all}
use Rattle.term_model.specs.Terms.{Term}
use Rattle.term_model.proofs.Lists.{all_at_end}

one_less : (P : Term → Type 0) (ts : List Term) (t : Term) → AllByRecursion P (ts ++ t ∷ []) → AllByRecursion P ts × P t
one_less P [] t h = (tt, h.0)
one_less P (u ∷ ts) t h = let rest = one_less P ts t h.1 in ((h.0, rest.0), rest.1)

module _ (P : Term → Type 0) (n : ℕ) where
  -- all of them are such terms; and there are n before them
  abbrev pub AreSince : List Term → Type 0
  AreSince ts = AllByRecursion P (drop n ts)

  abbrev pub IsSince : List Term → Type 0
  IsSince ts = n ≤ length ts

  pub one_longer : (ts : List Term) (t : Term) → IsSince ts → IsSince (ts ++ t ∷ [])
  one_longer ts t long = let e = length-append ts (t ∷ []) in omega (arith, e, long)

  pub one_more_since : (ts : List Term) (t : Term) → IsSince ts → P t → AreSince ts → AreSince (ts ++ t ∷ [])
  one_more_since ts t long is h =
      subst (λ us. AllByRecursion P us) (sym (drop-append-le n ts (t ∷ []) long)) (all_at_end P (drop n ts) t h is)

  pub one_less_since : (ts : List Term) (t : Term) → IsSince ts → AreSince (ts ++ t ∷ []) → AreSince ts × P t
  one_less_since ts t long h = one_less P (drop n ts) t (subst (λ us. AllByRecursion P us) (drop-append-le n ts (t ∷ []) long) h)

  pub none_since : (ts : List Term) → length ts ≤ n → AreSince ts
  none_since ts short = subst (λ us. AllByRecursion P us) (sym (drop_all n ts short)) tt
