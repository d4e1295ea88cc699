-- Private. A walk over terms: what is yet to be visited stays in order.
use Rattle.std.proofs.Common.{◌≡◌, ◌<◌, ◌≤◌, ◌⊎◌, inl, inr, ℕ, List, [], ◌∷◌, ◌++◌, map, sym, subst, arith}
use Rattle.std.specs.List.{AllByRecursion}
use Rattle.term_pool.specs.CellCounts.{Has}
use Rattle.flip_steps.specs.declared.visits.Visit.{Visit}
use Rattle.flip_steps.specs.Walks.{visited, IsOpened, IsInOrder}

-- items at the end
pub all_front : {X : Type 0} (P : X → Type 0) (xs ys : List X) → AllByRecursion P (xs ++ ys) → AllByRecursion P xs
all_front P [] ys h = tt
all_front P (x ∷ xs) ys h = (h.0, all_front P xs ys h.1)

pub all_back : {X : Type 0} (P : X → Type 0) (xs ys : List X) → AllByRecursion P (xs ++ ys) → AllByRecursion P ys
all_back P [] ys h = h
all_back P (x ∷ xs) ys h = all_back P xs ys h.1

pub all_both : {X : Type 0} (P : X → Type 0) (xs ys : List X) → AllByRecursion P xs → AllByRecursion P ys → AllByRecursion P (xs ++ ys)
all_both P [] ys h k = k
all_both P (x ∷ xs) ys h k = (h.0, all_both P xs ys h.1 k)

pub all_more : {X : Type 0} (P Q : X → Type 0) → ((x : X) → P x → Q x) → (xs : List X) → AllByRecursion P xs → AllByRecursion Q xs
all_more P Q more [] h = tt
all_more P Q more (x ∷ xs) h = (more x h.0, all_more P Q more xs h.1)

pub has_behind : (xs ys : List Visit) (q : ℕ) → Has (map visited (xs ++ ys)) q → Has (map visited xs) q ⊎ Has (map visited ys) q
has_behind [] ys q h = inr h
has_behind (x ∷ xs) ys q (inl e) = inl (inl e)
has_behind (x ∷ xs) ys q (inr h) = go (has_behind xs ys q h)
  where
    go : Has (map visited xs) q ⊎ Has (map visited ys) q → Has (map visited (x ∷ xs)) q ⊎ Has (map visited ys) q
    go (inl k) = inl (inr k)
    go (inr k) = inr k

pub has_first : (xs ys : List Visit) (q : ℕ) → Has (map visited xs) q → Has (map visited (xs ++ ys)) q
has_first [] ys q h = absurd h
has_first (x ∷ xs) ys q (inl e) = inl e
has_first (x ∷ xs) ys q (inr h) = inr (has_first xs ys q h)

pub has_second : (xs ys : List Visit) (q : ℕ) → Has (map visited ys) q → Has (map visited (xs ++ ys)) q
has_second [] ys q h = h
has_second (x ∷ xs) ys q h = inr (has_second xs ys q h)

module _ (level : ℕ → ℕ) (IsArgument : ℕ → ℕ → Type 0) where
  -- the last visit is done: its term is met
  module _ (Old New : ℕ → Type 0) (last : Visit) (stays : (q : ℕ) → Old q → New q) (only : (q : ℕ) → New q → Old q ⊎ (q ≡ visited last))
      (here : New (visited last)) where
    opened_done : (r : ℕ) (above : List Visit) → IsOpened level IsArgument Old r (above ++ last ∷ []) → IsOpened level IsArgument New r above
    opened_done r above h = record {
      unmet = λ met. unmet (only r met);
      lower = all_front (λ x. level (visited x) < level r) above (last ∷ []) h.lower;
      arguments = λ q is. known q (h.arguments q is);
    }
      where
        unmet : Old r ⊎ (r ≡ visited last) → ⊥
        unmet (inl met) = h.unmet met
        unmet (inr e) =
            let less = (all_back (λ x. level (visited x) < level r) above (last ∷ []) h.lower).0 in
            let less_than_itself : level (visited last) < level (visited last) = subst (λ x. level (visited last) < level x) e less in
            omega (arith, less_than_itself)

        there : (q : ℕ) → Has (map visited above) q ⊎ Has (map visited (last ∷ [])) q → New q ⊎ Has (map visited above) q
        there q (inl k) = inr k
        there q (inr (inl e)) = inl (subst New (sym e) here)
        there q (inr (inr k)) = absurd k

        known : (q : ℕ) → Old q ⊎ Has (map visited (above ++ last ∷ [])) q → New q ⊎ Has (map visited above) q
        known q (inl met) = inl (stays q met)
        known q (inr k) = there q (has_behind above (last ∷ []) q k)

    pub order_done : (xs : List Visit) → IsInOrder level IsArgument Old (xs ++ last ∷ []) → IsInOrder level IsArgument New xs
    order_done [] h = tt
    order_done (Visit.Open r ∷ above) h = order_done above h
    order_done (Visit.Close r ∷ above) h = (opened_done r above h.0, order_done above h.1)

  -- a term is opened: in its place come its last visit and those of its arguments
  module _ (Met : ℕ → Type 0) (last : Visit) (more : List Visit) (not_higher : AllByRecursion (λ x. level (visited x) ≤ level (visited last)) more)
      (here : Has (map visited more) (visited last)) where
    opened_more : (r : ℕ) (above : List Visit) → IsOpened level IsArgument Met r (above ++ last ∷ []) → IsOpened level IsArgument Met r (above ++ more)
    opened_more r above h = record {
      unmet = h.unmet;
      lower =
          all_both (λ x. level (visited x) < level r) above more (all_front (λ x. level (visited x) < level r) above (last ∷ []) h.lower)
          (all_more (λ x. level (visited x) ≤ level (visited last)) (λ x. level (visited x) < level r) lower more not_higher);
      arguments = λ q is. known q (h.arguments q is);
    }
      where
        lower : (x : Visit) → level (visited x) ≤ level (visited last) → level (visited x) < level r
        lower x low = let less = (all_back (λ y. level (visited y) < level r) above (last ∷ []) h.lower).0 in omega (arith, less, low)

        there : (q : ℕ) → Has (map visited above) q ⊎ Has (map visited (last ∷ [])) q → Has (map visited (above ++ more)) q
        there q (inl k) = has_first above more q k
        there q (inr (inl e)) = has_second above more q (subst (Has (map visited more)) (sym e) here)
        there q (inr (inr k)) = absurd k

        known : (q : ℕ) → Met q ⊎ Has (map visited (above ++ last ∷ [])) q → Met q ⊎ Has (map visited (above ++ more)) q
        known q (inl met) = inl met
        known q (inr k) = inr (there q (has_behind above (last ∷ []) q k))

    pub order_more : (xs : List Visit) → IsInOrder level IsArgument Met (xs ++ last ∷ []) → IsInOrder level IsArgument Met more
        → IsInOrder level IsArgument Met (xs ++ more)
    order_more [] h k = k
    order_more (Visit.Open r ∷ above) h k = order_more above h k
    order_more (Visit.Close r ∷ above) h k = (opened_more r above h.0, order_more above h.1 k)

  -- first visits alone are in order
  pub order_of_first : (Met : ℕ → Type 0) (rs : List ℕ) → IsInOrder level IsArgument Met (map (λ r. Visit.Open r) rs)
  order_of_first Met [] = tt
  order_of_first Met (r ∷ rs) = order_of_first Met rs

  -- where the last visit closes a term, its arguments have been met
  pub order_last : (Met : ℕ → Type 0) (xs : List Visit) (r : ℕ) → IsInOrder level IsArgument Met (xs ++ Visit.Close r ∷ []) → IsOpened level IsArgument Met r []
  order_last Met [] r h = h.0
  order_last Met (Visit.Open q ∷ above) r h = order_last Met above r h
  order_last Met (Visit.Close q ∷ above) r h = order_last Met above r h.1
