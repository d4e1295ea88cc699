-- Private. What stands below a number, and how literals go on below it.
use Rattle.std.proofs.Common.{◌≡◌, ◌≢◌, ◌≤◌, ◌<◌, ◌+◌, ◌-◌, ◌%◌, ◌⊎◌, inl, inr, ◌*◌, ◌/◌}
use Rattle.std.proofs.Common.{ℕ, zero, suc, Bool, true, false, not, length}
use Rattle.std.proofs.Common.{refl, sym, ◌∙◌, ap, subst, arith}
use Rattle.term_model.specs.Terms.{Term, not_of}
use Rattle.rule_model.specs.Literals.{negation_of}
use Rattle.rule_model.specs.Resolution.{as_literal}
use Rattle.rule_model.proofs.Consequence.{negation_of-negation_of}
use Rattle.clause_chain.specs.declared.signed_term.SignedTerm.{SignedTerm}
use Rattle.chain_plan.specs.Towers.{Towers, nots_at, HasNegation, HasRoom, AreTowers, AreNumbered, item_of, IsLiteral, plain_of, side}
use Rattle.chain_plan.specs.Carried.{IsItem}
use Rattle.chain_plan.specs.Lowering.{IsPivotAgainst, StandsBelow}

-- what a negation negates has the number before
pub negated_before : (t : Towers) → AreTowers t → (k j n : ℕ) → k < length t.nots → nots_at t k ≡ n + 1 → k ≡ j + 1 → HasNegation t j × (nots_at t j ≡ n)
negated_before t towers k j n within is at = go (towers.next j (omega arith))
  where
    here : nots_at t (j + 1) ≡ n + 1
    here = subst (λ i. nots_at t i ≡ n + 1) at is

    go : (nots_at t (j + 1) ≡ 0) ⊎ (nots_at t (j + 1) ≡ nots_at t j + 1) → HasNegation t j × (nots_at t j ≡ n)
    go (inl none) = absurd (let h = here in omega arith)
    go (inr more) = (record { within = omega arith; more = more }, let h = here in omega arith)

pub not_first : (t : Towers) → AreTowers t → (k n : ℕ) → nots_at t k ≡ n + 1 → 1 ≤ k
not_first t towers zero n is = absurd (let f = towers.first in omega arith)
not_first t towers (suc k) n is = omega arith

-- a number with a pair of `not`s: two numbers before it stands what the pair stands before
pub record HasPair (t : Towers) (k j : ℕ) : Type 0 where
  pub is : k ≡ j + 2
  pub one : HasNegation t j
  pub two : HasNegation t (j + 1)
  pub nots : nots_at t k ≡ nots_at t j + 2

pub pair_below : (t : Towers) → AreTowers t → (k : ℕ) → k < length t.nots → 2 ≤ nots_at t k → HasPair t k (k - 2)
pair_below t towers k within pair =
    let some = not_first t towers k (nots_at t k - 1) (omega arith) in
    let first = negated_before t towers k (k - 1) (nots_at t k - 1) within (omega arith) (omega arith) in
    let more = not_first t towers (k - 1) (nots_at t k - 2) (let h = first.1 in omega arith) in
    let second = negated_before t towers (k - 1) (k - 2) (nots_at t k - 2) (omega arith) (let h = first.1 in omega arith) (omega arith) in
    let same : k - 2 + 1 ≡ k - 1 = omega arith in
    record {
      is = omega arith;
      one = second.0;
      two = subst (HasNegation t) (sym same) first.0;
      nots = let h = second.1 in omega arith;
    }

-- what is left without pairs is the same below a pair
pub plain_below : (t : Towers) (k j : ℕ) → HasPair t k j → plain_of t j ≡ plain_of t k
plain_below t k j pair = evened k j (nots_at t k) (nots_at t j) pair.is pair.nots
  where
    evened : (k j m n : ℕ) → k ≡ j + 2 → m ≡ n + 2 → j - (n - n % 2) ≡ k - (m - m % 2)
    evened k j m n e f = omega arith

pub plain_is : (t : Towers) (k : ℕ) → nots_at t k < 2 → plain_of t k ≡ k
plain_is t k few = go k (nots_at t k) few
  where
    go : (k n : ℕ) → n < 2 → k - (n - n % 2) ≡ k
    go k n h = omega arith

pub plain_most : (t : Towers) (k : ℕ) → plain_of t k ≤ k
plain_most t k = go k (nots_at t k)
  where
    go : (k n : ℕ) → k - (n - n % 2) ≤ k
    go k n = omega arith

pub less_than_two : (n : ℕ) → (n < 2) ⊎ (2 ≤ n)
less_than_two zero = inl (omega arith)
less_than_two (suc zero) = inl (omega arith)
less_than_two (suc (suc n)) = inr (omega arith)

-- what is left has no pair
pub plain_has_none : (t : Towers) → AreTowers t → (n k : ℕ) → k ≤ n → k < length t.nots → nots_at t (plain_of t k) < 2
plain_has_none t towers zero k most within =
    let first : k ≡ 0 = omega arith in
    let none : nots_at t k ≡ 0 = subst (λ j. nots_at t j ≡ 0) (sym first) towers.first in
    subst (λ j. nots_at t j < 2) (sym (plain_is t k (omega arith))) (omega arith)
plain_has_none t towers (suc n) k most within =
    elim (less_than_two (nots_at t k)) [
      | inl few ↦ subst (λ j. nots_at t j < 2) (sym (plain_is t k few)) few
      | inr many ↦
          let pair = pair_below t towers k within many in
          let is = pair.is in
          subst (λ j. nots_at t j < 2) (plain_below t k (k - 2) pair) (plain_has_none t towers n (k - 2) (omega arith) (omega arith))
    ]

-- no term begins with more `not`s than its number
pub nots_most : (t : Towers) → AreTowers t → (k : ℕ) → k < length t.nots → nots_at t k ≤ k
nots_most t towers zero within = let f = towers.first in omega arith
nots_most t towers (suc k) within =
    let below = nots_most t towers k (omega arith) in
    let same : suc k ≡ k + 1 = omega arith in
    elim (towers.next k (omega arith)) [
      | inl none ↦ subst (λ j. nots_at t j ≤ j) (sym same) (omega arith)
      | inr more ↦ subst (λ j. nots_at t j ≤ j) (sym same) (omega arith)
    ]

pub plain_least : (t : Towers) (k : ℕ) → k ≤ plain_of t k + nots_at t k
plain_least t k = go k (nots_at t k)
  where
    go : (k n : ℕ) → k ≤ k - (n - n % 2) + n
    go k n = omega arith

pub plain_stands : (t : Towers) → AreTowers t → (k : ℕ) → k < length t.nots → StandsBelow t (plain_of t k) k
plain_stands t towers k within =
    let most = nots_most t towers k within in
    record { pairs = nots_at t k / 2; is = go k (nots_at t k) most; nots = less (nots_at t k) }
  where
    go : (k n : ℕ) → n ≤ k → k - (n - n % 2) + 2 * (n / 2) ≡ k
    go k n most = omega arith

    less : (n : ℕ) → 2 * (n / 2) ≤ n
    less n = omega arith

-- what begins with no `not`, below a number
pub record HasBase (t : Towers) (k : ℕ) : Type 0 where
  pub none : nots_at t (k - nots_at t k) ≡ 0
  pub above : HasNegation t k → HasNegation t (k - nots_at t k)

pub base_below : (t : Towers) → AreTowers t → (n k : ℕ) → nots_at t k ≡ n → k < length t.nots → HasBase t k
base_below t towers zero k e within =
    let same : k ≡ k - nots_at t k = omega arith in
    record { none = subst (λ j. nots_at t j ≡ 0) same e; above = λ more. subst (HasNegation t) same more }
base_below t towers (suc n) k e within =
    let some = not_first t towers k n (e ∙ omega arith) in
    let before = negated_before t towers k (k - 1) n within (e ∙ omega arith) (omega arith) in
    let base = base_below t towers n (k - 1) before.1 (omega arith) in
    let same : k - 1 - nots_at t (k - 1) ≡ k - nots_at t k = let b = before.1 in omega arith in
    record {
      none = subst (λ j. nots_at t j ≡ 0) same base.none;
      above = λ more. subst (HasNegation t) same (base.above before.0);
    }

pub pivot_is : (t : Towers) → AreTowers t → (k : ℕ) → HasNegation t k → (sign : Bool) → side (k - nots_at t k) (not sign) ≡ item_of (plain_of t k)
    → IsPivotAgainst t k (k - nots_at t k) sign
pivot_is t towers k more sign there =
    let base = base_below t towers (nots_at t k) k refl (let w = more.within in omega arith) in
    record { none = base.none; above = base.above more; there = there }

pub odd_side : (t : Towers) → AreTowers t → (k : ℕ) → k < length t.nots → nots_at t k % 2 ≡ 1 → side (k - nots_at t k) false ≡ item_of (plain_of t k)
odd_side t towers k within odd = ap item_of (go k (nots_at t k) (nots_most t towers k within) odd)
  where
    go : (k n : ℕ) → n ≤ k → n % 2 ≡ 1 → k - n + 1 ≡ k - (n - n % 2)
    go k n most odd = omega arith

pub even_side : (t : Towers) (k : ℕ) → (nots_at t k % 2 ≢ 1) → side (k - nots_at t k) true ≡ item_of (plain_of t k)
even_side t k even = ap item_of (go k (nots_at t k) even)
  where
    go : (k n : ℕ) → (n % 2 ≢ 1) → k - n ≡ k - (n - n % 2)
    go k n even = omega arith

pub pair_has_room : (t : Towers) (k j : ℕ) → HasPair t k j → HasRoom t k → HasRoom t j
pair_has_room t k j pair room = record { one = pair.one; two = pair.two; three = subst (HasNegation t) pair.is room.one }

-- so have numbers with pairs fewer
pub room_below : (t : Towers) → AreTowers t → (m j k : ℕ) → j + 2 * m ≡ k → 2 * m ≤ nots_at t k → HasRoom t k → HasRoom t j
room_below t towers zero j k is pairs room = let same : k ≡ j = omega arith in subst (HasRoom t) same room
room_below t towers (suc m) j k is pairs room =
    let pair = pair_below t towers k (let w = room.one.within in omega arith) (omega arith) in
    let less = pair.nots in
    let at = pair.is in
    room_below t towers m j (k - 2) (omega arith) (omega arith) (pair_has_room t k (k - 2) pair room)

module _ (t : Towers) (terms : ℕ → Term) (named : AreNumbered t terms) where
  pub pair_is : (k j : ℕ) → HasPair t k j → terms k ≡ not_of (not_of (terms j))
  pair_is k j pair =
      let up : j + 1 + 1 ≡ j + 2 = omega arith in
      ap terms (pair.is ∙ sym up) ∙ (named.negation (j + 1) pair.two ∙ ap not_of (named.negation j pair.one))

  pub pair_literal : (k j : ℕ) → HasPair t k j → as_literal (terms k) ≡ as_literal (terms j)
  pair_literal k j pair = ap as_literal (pair_is k j pair) ∙ negation_of-negation_of (as_literal (terms j))

  pub negation_literal : (k : ℕ) → HasNegation t k → as_literal (terms (k + 1)) ≡ negation_of (as_literal (terms k))
  negation_literal k more = ap as_literal (named.negation k more)

-- numbers with a negation, or with room, are items
pub negation_within : (t : Towers) (k : ℕ) → HasNegation t k → IsItem t (item_of k) × IsItem t (item_of (k + 1))
negation_within t k more =
    let w = more.within in (record { unsigned = refl; within = omega arith }, record { unsigned = refl; within = w })

pub room_within : (t : Towers) (item : SignedTerm) → IsLiteral t item → IsItem t item
room_within t item is = record { unsigned = is.unsigned; within = let w = is.room.one.within in omega arith }

pub side_within : (t : Towers) (k : ℕ) (sign : Bool) → HasNegation t k → IsItem t (side k sign)
side_within t k true more = (negation_within t k more).0
side_within t k false more = (negation_within t k more).1

-- items of different numbers differ
pub items_differ : (j k : ℕ) → j ≢ k → item_of j ≢ item_of k
items_differ j k differ e = differ (ap (λ (x : SignedTerm). x.term) e)

pub item_is : (x : SignedTerm) → x.negative ≡ false → x ≡ item_of x.term
item_is x e = ap (λ (b : Bool). record { term = x.term; negative = b }) e

-- items of one term are one
pub one_item : (t : Towers) (terms : ℕ → Term) → AreNumbered t terms → (x z : SignedTerm) → IsItem t x → IsItem t z
    → terms x.term ≡ terms z.term → x ≡ z
one_item t terms named x z p q same =
    item_is x p.unsigned ∙ (ap item_of (named.one x.term z.term p.within q.within same) ∙ sym (item_is z q.unsigned))
