-- Private. Steps without premises, and what resolving with them does to a carried clause.
use Rattle.std.proofs.Common.{◌≡◌, ◌≢◌, ◌≤◌, ◌+◌, ◌-◌, ◌⊎◌, inl, inr, ℕ}
use Rattle.std.proofs.Common.{zero, suc, Bool, not, List, [], ◌∷◌, ◌++◌, length}
use Rattle.std.proofs.Common.{refl, sym, ◌∙◌, ap, subst, arith, All, Contains}
use Rattle.std.proofs.lemmas.List.Elements.{All-nil, All-cons}
use Rattle.term_model.specs.Terms.{not_of}
use Rattle.term_model.proofs.Lists.{contains_none, contains_cases, contains_head, contains_later}
use Rattle.rule_model.specs.declared.rules.Rule.{Rule}
use Rattle.rule_model.specs.Resolution.{IsFirstsOf, IsJoined}
use Rattle.clause_chain.specs.declared.signed_term.SignedTerm.{SignedTerm}
use Rattle.chain_plan.specs.declared.plan.Source.TheVariants.{Added}
use Rattle.chain_plan.specs.Carried.{Carried, AreSound, IsGoing, IsItem, IsMetAlone, IsTrueAlone}
use Rattle.chain_plan.specs.Lowering.{HasPlainsOf, AreAlike, HasComeDown}
use Rattle.chain_plan.specs.Plans.{PlannedStep, IsSource}
use Rattle.chain_plan.specs.Towers.{Towers, HasNegation, HasRoom, AreTowers, item_of, nots_at, side, plain_of}
use Rattle.chain_plan.proofs.Going.{sound_more, going_more, going_on, new_source, new_is_source}
use Rattle.chain_plan.proofs.Joining.{firsts_had, firsts_have, joined_was, left_has, right_has}
use Rattle.chain_plan.proofs.Towers.{HasPair, pair_is, negation_within, plain_below, items_differ}

abbrev pub alone : Rule → List SignedTerm → PlannedStep
alone rule clause = record { rule = rule; clause = clause; premises = []; pivots = [] }

pub tautology_sound : (t : Towers) (given : List (List SignedTerm)) (steps : List PlannedStep) (rule : Rule) (clause : List SignedTerm)
    → AreSound t given steps → All (IsItem t) clause → IsTrueAlone t rule clause → AreSound t given (steps ++ alone rule clause ∷ [])
tautology_sound t given steps rule clause sound items holds =
    sound_more t given steps (alone rule clause) sound items
    (λ terms named. record { sources = All-nil (IsSource given steps); met = λ anchors. holds.1 terms named anchors })
    (inr (holds.0, refl))

pub bridge_going : (t : Towers) (given : List (List SignedTerm)) (steps : List PlannedStep) (c : Carried) (rule : Rule)
    (clause : List SignedTerm) (k : ℕ) (sign : Bool) (next : List SignedTerm) → IsGoing t given steps c → HasNegation t k
    → ((x : SignedTerm) → Contains clause x → x ≢ side k (not sign) → IsItem t x) → IsJoined c.list clause (side k sign) (side k (not sign)) next
    → IsGoing t given (steps ++ alone rule clause ∷ [])
    (record { list = next; sources = c.sources ++ Added (length steps) ∷ []; pivots = c.pivots ++ (k, sign) ∷ [] })
bridge_going t given steps c rule clause k sign next going negation literals step =
    let s = alone rule clause in
    let is = new_source given steps s in
    going_on t given (steps ++ s ∷ []) c (Added (length steps)) (k, sign) next (going_more t given steps s c going) (new_is_source given steps s)
    negation (λ x there other. literals x (subst (λ cs. Contains cs x) is there) other)
    (subst (λ cs. IsJoined c.list cs (side k sign) (side k (not sign)) next) (sym is) step)

-- the same of what the calls give
pub bridged : (t : Towers) (given : List (List SignedTerm)) (steps : List PlannedStep) (c next : Carried) (rule : Rule)
    (clause : List SignedTerm) (k : ℕ) (sign : Bool) (n : ℕ) → IsGoing t given steps c → HasNegation t k
    → ((x : SignedTerm) → Contains clause x → x ≢ side k (not sign) → IsItem t x)
    → IsJoined c.list clause (side k sign) (side k (not sign)) next.list → next.sources ≡ c.sources ++ Added n ∷ []
    → next.pivots ≡ c.pivots ++ (k, sign) ∷ [] → n ≡ length steps → IsGoing t given (steps ++ alone rule clause ∷ []) next
bridged t given steps c next rule clause k sign n going negation literals step sources pivots place =
    let g = bridge_going t given steps c rule clause k sign next.list going negation literals step in
    record {
      sources = rw (sources, place) g.sources;
      pivots = rw pivots g.pivots;
      items = g.items;
      carried = rw (sources, pivots, place) g.carried;
    }

-- not_not on what stands before a pair
lowering_met : (t : Towers) (k j : ℕ) → HasPair t k j → HasNegation t k → IsMetAlone t Rule.NotNot (item_of (k + 1) ∷ item_of j ∷ [])
lowering_met t k j pair negation terms named anchors =
    record {
      terms = λ letter. terms j;
      units = refl;
      literals = ap (λ u. u ∷ terms j ∷ []) (named.negation k negation ∙ ap not_of (pair_is t terms named k j pair));
    }

pub lowering_holds : (t : Towers) (k j : ℕ) → HasPair t k j → HasNegation t k → IsTrueAlone t Rule.NotNot (item_of (k + 1) ∷ item_of j ∷ [])
lowering_holds t k j pair negation = (tt, lowering_met t k j pair negation)

pub lowering_items : (t : Towers) (k j : ℕ) → HasPair t k j → HasNegation t k → All (IsItem t) (item_of (k + 1) ∷ item_of j ∷ [])
lowering_items t k j pair negation =
    All-cons (IsItem t) (item_of (k + 1)) (item_of j ∷ []) (negation_within t k negation).1
    (All-cons (IsItem t) (item_of j) [] (negation_within t j pair.one).0 (All-nil (IsItem t)))

pub pair_items : (t : Towers) (a b : SignedTerm) → IsItem t a → IsItem t b → (other : SignedTerm) → (x : SignedTerm) → Contains (a ∷ b ∷ []) x → x ≢ other
    → IsItem t x
pair_items t a b first second other x there differs =
    elim (contains_cases a x (b ∷ []) there) [
      | inl here ↦ subst (IsItem t) here first
      | inr later ↦ elim (contains_cases b x [] later) [ inl here ↦ subst (IsItem t) here second | inr none ↦ absurd (contains_none x none) ]
    ]

-- Resolving with a clause of two puts one number for another.
module _ (old right new : List SignedTerm) (here there other : SignedTerm) (step : IsJoined old right here there new)
    (two : (x : SignedTerm) → Contains right x → (x ≡ there) ⊎ (x ≡ other)) where
  pub swapped_was : (x : SignedTerm) → Contains new x → (Contains old x × (x ≢ here)) ⊎ (x ≡ other)
  swapped_was x c =
      elim (joined_was old right here there new x step c) [
        | inl was ↦ inl was
        | inr was ↦ elim (two x was.0) [ inl removed ↦ absurd (was.1 removed) | inr is ↦ inr is ]
      ]

  pub swapped_stays : (x : SignedTerm) → Contains old x → (x ≡ here) ⊎ Contains new x
  swapped_stays x c = left_has old right here there new x step c

  pub swapped_there : Contains right other → other ≢ there → Contains new other
  swapped_there c differs = right_has old right here there new other step c differs

pub of_two : (a b x : SignedTerm) → Contains (a ∷ b ∷ []) x → (x ≡ a) ⊎ (x ≡ b)
of_two a b x c =
    elim (contains_cases a x (b ∷ []) c) [
      | inl here ↦ inl (sym here)
      | inr later ↦ elim (contains_cases b x [] later) [ inl here ↦ inr (sym here) | inr none ↦ absurd (contains_none x none) ]
    ]

pub of_one : (a x : SignedTerm) → Contains (a ∷ []) x → x ≡ a
of_one a x c = elim (contains_cases a x [] c) [ inl here ↦ sym here | inr none ↦ absurd (contains_none x none) ]

pub lowered_there : (k j : ℕ) (old new : List SignedTerm) → k ≡ j + 2
    → IsJoined old (item_of (k + 1) ∷ item_of j ∷ []) (item_of k) (item_of (k + 1)) new → Contains new (item_of j)
lowered_there k j old new is step =
    swapped_there old (item_of (k + 1) ∷ item_of j ∷ []) new (item_of k) (item_of (k + 1)) (item_of j) step (of_two (item_of (k + 1)) (item_of j))
    (contains_later (item_of (k + 1)) (item_of j) (item_of j ∷ []) (contains_head (item_of j) [])) (items_differ j (k + 1) (λ e. absurd (omega arith)))

pub lowered_was : (k j : ℕ) (old new : List SignedTerm) (x : SignedTerm)
    → IsJoined old (item_of (k + 1) ∷ item_of j ∷ []) (item_of k) (item_of (k + 1)) new → Contains new x
    → (Contains old x × (x ≢ item_of k)) ⊎ (x ≡ item_of j)
lowered_was k j old new x step there =
    swapped_was old (item_of (k + 1) ∷ item_of j ∷ []) new (item_of k) (item_of (k + 1)) (item_of j) step (of_two (item_of (k + 1)) (item_of j)) x there

pub lowered_gone : (k j : ℕ) (old new : List SignedTerm) → k ≡ j + 2
    → IsJoined old (item_of (k + 1) ∷ item_of j ∷ []) (item_of k) (item_of (k + 1)) new → Contains new (item_of k) → ⊥
lowered_gone k j old new is step there =
    elim (lowered_was k j old new (item_of k) step there) [
      | inl was ↦ was.1 refl
      | inr same ↦ items_differ k j (λ e. absurd (omega arith)) same
    ]

pub lowered_stays : (k j : ℕ) (old new : List SignedTerm) (x : SignedTerm)
    → IsJoined old (item_of (k + 1) ∷ item_of j ∷ []) (item_of k) (item_of (k + 1)) new → Contains old x → (x ≡ item_of k) ⊎ Contains new x
lowered_stays k j old new x step there =
    swapped_stays old (item_of (k + 1) ∷ item_of j ∷ []) new (item_of k) (item_of (k + 1)) (item_of j) step (of_two (item_of (k + 1)) (item_of j)) x there

-- not_not on a negation gives two pairs more
raising_met : (t : Towers) (j : ℕ) → HasNegation t j → HasNegation t (j + 1) → HasNegation t (j + 2) → HasNegation t (j + 3)
    → IsMetAlone t Rule.NotNot (item_of (j + 4) ∷ item_of (j + 1) ∷ [])
raising_met t j one two three four terms named anchors =
    record {
      terms = λ letter. terms (j + 1);
      units = refl;
      literals = ap (λ u. u ∷ terms (j + 1) ∷ []) whole;
    }
  where
    up : (a b : ℕ) → HasNegation t a → a + 1 ≡ b → terms b ≡ not_of (terms a)
    up a b more e = ap terms (sym e) ∙ named.negation a more

    whole : terms (j + 4) ≡ not_of (not_of (not_of (terms (j + 1))))
    whole =
        up (j + 3) (j + 4) four (omega arith)
        ∙ (ap not_of (up (j + 2) (j + 3) three (omega arith)) ∙ ap (λ u. not_of (not_of u)) (up (j + 1) (j + 2) two (omega arith)))

pub raising_holds : (t : Towers) (j : ℕ) → HasNegation t j → HasNegation t (j + 1) → HasNegation t (j + 2) → HasNegation t (j + 3)
    → IsTrueAlone t Rule.NotNot (item_of (j + 4) ∷ item_of (j + 1) ∷ [])
raising_holds t j one two three four = (tt, raising_met t j one two three four)

-- `true` holds, and so does the negation of `false`
truth_met : (t : Towers) → AreTowers t → IsMetAlone t Rule.True (item_of t.truth ∷ [])
truth_met t towers terms named anchors =
    record { terms = λ letter. terms 0; units = refl; literals = ap (λ u. u ∷ []) named.truth }

pub truth_holds : (t : Towers) → AreTowers t → IsTrueAlone t Rule.True (item_of t.truth ∷ [])
truth_holds t towers = (tt, truth_met t towers)

falsity_met : (t : Towers) → AreTowers t → IsMetAlone t Rule.False (item_of (t.falsity + 1) ∷ [])
falsity_met t towers terms named anchors =
    record {
      terms = λ letter. terms 0;
      units = refl;
      literals = ap (λ u. u ∷ []) (named.negation t.falsity towers.falsity_room.one ∙ ap not_of named.falsity);
    }

pub falsity_holds : (t : Towers) → AreTowers t → IsTrueAlone t Rule.False (item_of (t.falsity + 1) ∷ [])
falsity_holds t towers = (tt, falsity_met t towers)

pub two_items : (a b x y : SignedTerm) → a ≡ x → b ≡ y → a ∷ b ∷ [] ≡ x ∷ y ∷ []
two_items a b x y e f = ap (λ z. z ∷ b ∷ []) e ∙ ap (λ z. x ∷ z ∷ []) f

-- coming down
pub alike_itself : (t : Towers) (list : List SignedTerm) → AreAlike t list list
alike_itself t list = record { stays = λ x c. (x, c, refl); was = λ x c. (x, c, refl) }

plains_through : (t : Towers) (xs ys zs : List SignedTerm) → HasPlainsOf t xs ys → HasPlainsOf t ys zs → HasPlainsOf t xs zs
plains_through t xs ys zs first second x c =
    let y = first x c in
    let z = second y.0 y.1 in
    (z.0, z.1, z.2 ∙ y.2)

pub alike_through : (t : Towers) (xs ys zs : List SignedTerm) → AreAlike t xs ys → AreAlike t ys zs → AreAlike t xs zs
alike_through t xs ys zs first second =
    record { stays = plains_through t xs ys zs first.stays second.stays; was = plains_through t zs ys xs second.was first.was }

pub comes_down_first : (t : Towers) (number : ℕ) (list : List SignedTerm) → HasNegation t number → Contains list (item_of number)
    → HasComeDown t number number list list
comes_down_first t number list above there =
    record {
      above = above;
      plain = refl;
      there = there;
      gone = λ other. absurd (other refl);
      lower = omega arith;
      was = λ x c. inl c;
      alike = alike_itself t list;
    }

less_or_same : (a b : ℕ) → a ≤ b → (a ≡ b) ⊎ (a ≢ b)
less_or_same zero zero h = inl refl
less_or_same zero (suc b) h = inr (λ e. absurd (omega arith))
less_or_same (suc a) zero h = absurd (omega arith)
less_or_same (suc a) (suc b) h =
    elim (less_or_same a b (omega arith)) [ inl e ↦ inl (ap suc e) | inr other ↦ inr (λ e. other (omega arith)) ]

module _ (t : Towers) (towers : AreTowers t) (current : ℕ) (list new : List SignedTerm) (pair : HasPair t current (current - 2))
    (gone : ¬ Contains new (item_of current)) (was : (x : SignedTerm) → Contains new x → Contains list x ⊎ (x ≡ item_of (current - 2)))
    (stays : (x : SignedTerm) → Contains list x → (x ≡ item_of current) ⊎ Contains new x) (there : Contains new (item_of (current - 2)))
    (here : Contains list (item_of current)) where
  lowered_alike : AreAlike t list new
  lowered_alike =
      let same = plain_below t current (current - 2) pair in
      record {
        stays = λ x c.
            elim (stays x c) [
              | inl at ↦ (item_of (current - 2), there, same ∙ sym (ap (λ (z : SignedTerm). plain_of t z.term) at))
              | inr after ↦ (x, after, refl)
            ];
        was = λ x c.
            elim (was x c) [
              | inl before ↦ (x, before, refl)
              | inr at ↦ (item_of current, here, sym same ∙ sym (ap (λ (z : SignedTerm). plain_of t z.term) at))
            ];
      }

  pub comes_down : (number : ℕ) (old : List SignedTerm) → HasComeDown t number current old list → HasComeDown t number (current - 2) old new
  comes_down number old down =
      record {
        above = pair.one;
        plain = plain_below t current (current - 2) pair ∙ down.plain;
        there = there;
        gone = λ other c.
            elim (was (item_of number) c) [
              | inl before ↦
                  elim (less_or_same current number down.lower) [
                    | inl same ↦ gone (subst (λ n. Contains new (item_of n)) (sym same) c)
                    | inr differs ↦ down.gone differs before
                  ]
              | inr same ↦ other (sym (ap (λ (x : SignedTerm). x.term) same))
            ];
        lower = let l = down.lower in omega arith;
        was = λ x c.
            elim (was x c) [
              | inl before ↦ elim (down.was x before) [ inl first ↦ inl first | inr at ↦ absurd (gone (subst (Contains new) at c)) ]
              | inr same ↦ inr same
            ];
        alike = alike_through t old list new down.alike lowered_alike;
      }

-- raising
pub record RoomAbove (t : Towers) (n : ℕ) : Type 0 where
  pub zero_up : HasNegation t n
  pub one_up : HasNegation t (n + 1)
  pub two_up : HasNegation t (n + 2)
  pub three_up : HasNegation t (n + 3)
  pub four_up : HasNegation t (n + 4)
  pub pair : 2 ≤ nots_at t (n + 4)

pub room_above : (t : Towers) (n : ℕ) → HasRoom t n → HasRoom t (n + 2) → RoomAbove t n
room_above t n room above =
    let a : n + 2 + 1 ≡ n + 3 = omega arith in
    let b : n + 2 + 2 ≡ n + 4 = omega arith in
    let d : n + 3 + 1 ≡ n + 4 = omega arith in
    let three = subst (HasNegation t) a above.two in
    let up : nots_at t (n + 4) ≡ nots_at t (n + 3) + 1 = subst (λ k. nots_at t k ≡ nots_at t (n + 3) + 1) d three.more in
    let e : n + 2 + 1 ≡ n + 3 = omega arith in
    let more : nots_at t (n + 3) ≡ nots_at t (n + 2) + 1 = subst (λ k. nots_at t k ≡ nots_at t (n + 2) + 1) e above.one.more in
    record {
      zero_up = room.one;
      one_up = room.two;
      two_up = room.three;
      three_up = three;
      four_up = subst (HasNegation t) b above.three;
      pair = omega arith;
    }

pub raising_items : (t : Towers) (n : ℕ) → RoomAbove t n → All (IsItem t) (item_of (n + 4) ∷ item_of (n + 1) ∷ [])
raising_items t n room =
    All-cons (IsItem t) (item_of (n + 4)) (item_of (n + 1) ∷ []) (negation_within t (n + 4) room.four_up).0
    (All-cons (IsItem t) (item_of (n + 1)) [] (negation_within t (n + 1) room.one_up).0 (All-nil (IsItem t)))

turned_two : {P Q : Type 0} → P ⊎ Q → Q ⊎ P
turned_two (inl p) = inr p
turned_two (inr q) = inl q

pub raised_there : (n : ℕ) (old new : List SignedTerm)
    → IsJoined old (item_of (n + 4) ∷ item_of (n + 1) ∷ []) (item_of n) (item_of (n + 1)) new → Contains new (item_of (n + 4))
raised_there n old new step =
    swapped_there old (item_of (n + 4) ∷ item_of (n + 1) ∷ []) new (item_of n) (item_of (n + 1)) (item_of (n + 4)) step
    (λ x c. turned_two (of_two (item_of (n + 4)) (item_of (n + 1)) x c)) (contains_head (item_of (n + 4)) (item_of (n + 1) ∷ []))
    (items_differ (n + 4) (n + 1) (λ e. absurd (omega arith)))

pub raised_was : (n : ℕ) (old new : List SignedTerm) (x : SignedTerm)
    → IsJoined old (item_of (n + 4) ∷ item_of (n + 1) ∷ []) (item_of n) (item_of (n + 1)) new → Contains new x
    → (Contains old x × (x ≢ item_of n)) ⊎ (x ≡ item_of (n + 4))
raised_was n old new x step c =
    swapped_was old (item_of (n + 4) ∷ item_of (n + 1) ∷ []) new (item_of n) (item_of (n + 1)) (item_of (n + 4)) step
    (λ x c. turned_two (of_two (item_of (n + 4)) (item_of (n + 1)) x c)) x c

-- what goes with a clause of one item
pub dropped_was : (k : ℕ) (sign : Bool) (old new : List SignedTerm) (x : SignedTerm)
    → IsJoined old (side k (not sign) ∷ []) (side k sign) (side k (not sign)) new → Contains new x → Contains old x × (x ≢ side k sign)
dropped_was k sign old new x step c =
    elim (joined_was old (side k (not sign) ∷ []) (side k sign) (side k (not sign)) new x step c) [
      | inl was ↦ was
      | inr was ↦ absurd (was.1 (of_one (side k (not sign)) x was.0))
    ]

pub one_item_of : (a x : SignedTerm) → a ≡ x → a ∷ [] ≡ x ∷ []
one_item_of a x e = ap (λ z. z ∷ []) e

-- a clause without its later repeats
pub firsts_alike : (t : Towers) (clause list : List SignedTerm) → IsFirstsOf [] clause list → AreAlike t clause list
firsts_alike t clause list firsts =
    record {
      stays = λ x c. (x, firsts_have clause list x firsts c, refl);
      was = λ x c. (x, firsts_had clause list x firsts c, refl);
    }
