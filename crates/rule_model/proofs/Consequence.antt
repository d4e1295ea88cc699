-- What follows by unit propagation is true wherever the premises are.
use Rattle.std.proofs.Common.{◌≡◌, ◌⊎◌, inl, inr, ⊎_elim, ℕ, zero, suc, ◌<◌, Bool, true, false, not, List, [], ◌∷◌, ◌++◌, length, refl, sym, ◌∙◌, ap, arith, All, Contains}
use Rattle.std.proofs.lemmas.List.{get_or_default}
use Rattle.std.proofs.lemmas.List.Elements.{All-get_or, Contains-push_cases}
use Rattle.std.proofs.lemmas.Bool.{cases_Bool}
use Rattle.rule_model.specs.declared.literal.Literal.{Literal}
use Rattle.rule_model.specs.declared.literal.Literal.TheVariants.{Plain, Always, Never}
use Rattle.rule_model.specs.Literals.{negation_of, is_true_under, ClauseTrue, Entails}
use Rattle.rule_model.specs.Consequence.{IsFalse, literal_at, premise_at, literal_of, IsUnit, Leads, Contradicts, Follows}

pub negation_of-negation_of : {A : Type 0} (l : Literal A) → negation_of (negation_of l) ≡ l
negation_of-negation_of (Plain a true) = refl
negation_of-negation_of (Plain a false) = refl
negation_of-negation_of Always = refl
negation_of-negation_of Never = refl

pub negation_of-truth : {A : Type 0} (v : A → Bool) (l : Literal A) → is_true_under v (negation_of l) ≡ not (is_true_under v l)
negation_of-truth v (Plain a true) = not_not (v a)
  where
    not_not : (b : Bool) → b ≡ not (not b)
    not_not true = refl
    not_not false = refl
negation_of-truth v (Plain a false) = refl
negation_of-truth v Always = refl
negation_of-truth v Never = refl

-- every literal that counts as false is false under these truth values
abbrev pub AreFalse : {A : Type 0} → (A → Bool) → List (Literal A) → Type 0
AreFalse {A} v falses = (l : Literal A) → IsFalse falses l → is_true_under v l ≡ false

-- a true clause has a true literal, at some place
pub true_place : {A : Type 0} (v : A → Bool) (clause : List (Literal A)) → ClauseTrue v clause → (k : ℕ) × (k < length clause) × (is_true_under v (literal_at clause k) ≡ true)
true_place v [] t = absurd t
true_place v (l ∷ ls) (inl here) = (0, omega arith, here)
true_place v (l ∷ ls) (inr later) =
    let p = true_place v ls later in (suc p.0, omega (arith, p.1), p.2)

-- and what has one is true
pub true_from_place : {A : Type 0} (v : A → Bool) (clause : List (Literal A)) (k : ℕ) → k < length clause → is_true_under v (literal_at clause k) ≡ true → ClauseTrue v clause
true_from_place v [] k h e = absurd (omega (arith, h))
true_from_place v (l ∷ ls) zero h e = inl e
true_from_place v (l ∷ ls) (suc k) h e = inr (true_from_place v ls k (omega (arith, h)) e)

-- a clause is true, or each of its literals false
true_or_all_false : {A : Type 0} (v : A → Bool) (clause : List (Literal A)) → ClauseTrue v clause ⊎ ((k : ℕ) → k < length clause → is_true_under v (literal_at clause k) ≡ false)
true_or_all_false v [] = inr (λ k h. absurd (omega (arith, h)))
true_or_all_false v (l ∷ ls) =
    elim (cases_Bool (is_true_under v l)) [
      | inl here ↦ inl (inl here)
      | inr not_here ↦
          elim (true_or_all_false v ls) [
            | inl later ↦ inl (inr later)
            | inr none ↦ inr (both not_here none)
          ]
    ]
  where
    both : is_true_under v l ≡ false → ((k : ℕ) → k < length ls → is_true_under v (literal_at ls k) ≡ false) → (k : ℕ) → k < length (l ∷ ls) → is_true_under v (literal_at (l ∷ ls) k) ≡ false
    both here none zero h = here
    both here none (suc k) h = none k (omega (arith, h))

-- an element of the clause stands at a place of it
contained_at : {A : Type 0} (clause : List (Literal A)) (l : Literal A) (c : Contains clause l) → literal_at clause c.0 ≡ l
contained_at clause l c = get_or_default clause c.0 Never l c.1 ∙ c.2

-- where each literal of the conclusion is false, all that is made false at first is
all_false-start : {A : Type 0} (v : A → Bool) (goal : List (Literal A)) → ((k : ℕ) → k < length goal → is_true_under v (literal_at goal k) ≡ false) → AreFalse v goal
all_false-start v goal none l (inl never) = ap (is_true_under v) never
all_false-start v goal none l (inr c) = ap (is_true_under v) (sym (contained_at goal l c)) ∙ none c.0 c.1

-- a unit's literal is true, so its opposite is false
all_false-push : {A : Type 0} (v : A → Bool) (premises : List (List (Literal A))) (falses : List (Literal A)) (u : ℕ × ℕ) → All (ClauseTrue v) premises → AreFalse v falses → IsUnit premises falses u.0 u.1 → AreFalse v (falses ++ negation_of (literal_of premises u) ∷ [])
all_false-push {A} v premises falses u holds none unit l gone = go gone
  where
    some : (k : ℕ) × (k < length (premise_at premises u.0)) × (is_true_under v (literal_at (premise_at premises u.0) k) ≡ true)
    some = true_place v (premise_at premises u.0) (All-get_or (ClauseTrue v) premises u.0 [] unit.place holds)

    unit_true : is_true_under v (literal_of premises u) ≡ true
    unit_true =
        elim (unit.only.others some.0 Never some.1) [
          | inl gone ↦ (let not_true = none (literal_at (premise_at premises u.0) some.0) gone in cc (not_true, some.2))
          | inr same ↦ ap (is_true_under v) (sym same) ∙ some.2
        ]

    go : IsFalse (falses ++ negation_of (literal_of premises u) ∷ []) l → is_true_under v l ≡ false
    go (inl never) = none l (inl never)
    go (inr c) =
        elim (Contains-push_cases falses (negation_of (literal_of premises u)) l c) [
          | inl before ↦ none l (inr before)
          | inr last ↦ ap (is_true_under v) (sym last) ∙ (negation_of-truth v (literal_of premises u) ∙ ap not unit_true)
        ]

-- no truth values make the premises true and what is made false false
refuted : {A : Type 0} (v : A → Bool) (premises : List (List (Literal A))) (falses : List (Literal A)) (units : List (ℕ × ℕ)) (last : ℕ) → All (ClauseTrue v) premises → AreFalse v falses → Leads premises falses units last → ⊥
refuted v premises falses [] last holds none conflict =
    let some = true_place v (premise_at premises last) (All-get_or (ClauseTrue v) premises last [] conflict.place holds) in
    let not_true = none (literal_at (premise_at premises last) some.0) (conflict.all_false some.0 Never some.1) in
    cc (not_true, some.2)
refuted v premises falses (u ∷ us) last holds none leads =
    refuted v premises (falses ++ negation_of (literal_of premises u) ∷ []) us last holds
    (all_false-push v premises falses u holds none leads.0) leads.1

-- a conclusion whose literals are all false doesn't contradict itself
no_contradiction : {A : Type 0} (v : A → Bool) (goal : List (Literal A)) → ((k : ℕ) → k < length goal → is_true_under v (literal_at goal k) ≡ false) → Contradicts goal → ⊥
no_contradiction v goal none (l, c, gone) =
    let first : is_true_under v l ≡ false = all_false-start v goal none l (inr c) in
    let second : is_true_under v (negation_of l) ≡ false = all_false-start v goal none (negation_of l) gone in
    let opposite = negation_of-truth v l in
    let flipped : not (is_true_under v l) ≡ true = ap not first in
    cc

from_no_model : {A : Type 0} (v : A → Bool) (premises : List (List (Literal A))) (goal : List (Literal A)) → All (ClauseTrue v) premises → ((k : ℕ) → k < length goal → is_true_under v (literal_at goal k) ≡ false) → Follows premises goal → ⊥
from_no_model v premises goal holds none (inl contradicts) = no_contradiction v goal none contradicts
from_no_model v premises goal holds none (inr leads) = refuted v premises goal leads.0 leads.1 holds (all_false-start v goal none) leads.2

pub consequence_sound : {A : Type 0} (premises : List (List (Literal A))) (goal : List (Literal A)) → Follows premises goal → Entails premises goal
consequence_sound premises goal follows v holds =
    ⊎_elim (λ t. t) (λ none. absurd (from_no_model v premises goal holds none follows)) (true_or_all_false v goal)
