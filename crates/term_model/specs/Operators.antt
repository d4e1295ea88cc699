-- Public. The meanings of the operators, as the declarations of the theories Core and Ints of SMT-LIB 2.6 fix them.
use Rattle.std.specs.Prelude.{ℤ, pos, zero, suc, ◌+ℤ◌, ◌-ℤ◌, ◌*ℤ◌, neg_ℤ, int_le, int_lt, Bool}
use Rattle.std.specs.Prelude.{true, false, not, ◌&&◌, ◌||◌, List, [], ◌∷◌, map, fold, if◌then◌else◌}
use Rattle.std.specs.Int.{int_div_euclid, int_rem_euclid}
use Rattle.std.specs.List.{list_all, list_any}
use Rattle.term_model.specs.declared.symbols.Op.{Op}
use Rattle.term_model.specs.Values.{Value, truth, whole, as_truth, as_whole, value_eq}

abbrev pub negation : List Bool → Bool
negation [] = true
negation (a ∷ rest) = not a

-- right associative
abbrev pub implication : List Bool → Bool
implication [] = true
implication (a ∷ []) = a
implication (a ∷ b ∷ bs) = not a || implication (b ∷ bs)

abbrev pub exclusive_or : Bool → Bool → Bool
exclusive_or true b = not b
exclusive_or false b = b

-- an operator on two, left associative, where there is an argument, and this value where there is none
abbrev pub from_left : {A : Type 0} → (A → A → A) → A → List A → A
from_left f otherwise [] = otherwise
from_left f otherwise (a ∷ rest) = fold f a rest

-- one argument is turned round, and more are subtracted from the first
abbrev pub difference : List ℤ → ℤ
difference [] = pos 0
difference (a ∷ []) = neg_ℤ a
difference (a ∷ b ∷ bs) = fold ◌-ℤ◌ (a -ℤ b) bs

-- The whole numbers q and s with m = n * q + s and 0 ≤ s < |n|, for a divisor n other than zero (the theory Ints). By
-- zero both are 0, which no term that is accepted asks for.
abbrev pub quotient : ℤ → ℤ → ℤ
quotient m (pos zero) = pos 0
quotient m n = int_div_euclid m n

abbrev pub remainder : ℤ → ℤ → ℤ
remainder m (pos zero) = pos 0
remainder m n = int_rem_euclid m n

-- an operator on just two
abbrev pub of_two : (ℤ → ℤ → ℤ) → List ℤ → ℤ
of_two f (m ∷ n ∷ []) = f m n
of_two f _ = pos 0

-- chained: the relation holds of each two neighbours
abbrev pub chained : {A : Type 0} → (A → A → Bool) → List A → Bool
chained f [] = true
chained f (a ∷ []) = true
chained f (a ∷ b ∷ bs) = f a b && chained f (b ∷ bs)

-- pairwise: no two are equal
abbrev pub pairwise_distinct : List Value → Bool
pairwise_distinct [] = true
pairwise_distinct (v ∷ vs) = not (list_any (value_eq v) vs) && pairwise_distinct vs

-- the first decides between the second and the third
abbrev pub chosen_value : List Value → Value
chosen_value (c ∷ a ∷ b ∷ rest) = if as_truth c then a else b
chosen_value _ = truth false

abbrev pub meaning : Op → List Value → Value
meaning Op.True vs = truth true
meaning Op.False vs = truth false
meaning Op.Not vs = truth (negation (map as_truth vs))
meaning Op.Implies vs = truth (implication (map as_truth vs))
meaning Op.And vs = truth (list_all as_truth vs)
meaning Op.Or vs = truth (list_any as_truth vs)
meaning Op.Xor vs = truth (from_left exclusive_or false (map as_truth vs))
meaning Op.Equal vs = truth (chained value_eq vs)
meaning Op.Distinct vs = truth (pairwise_distinct vs)
meaning Op.Ite vs = chosen_value vs
meaning Op.Minus vs = whole (difference (map as_whole vs))
meaning Op.Plus vs = whole (from_left ◌+ℤ◌ (pos 0) (map as_whole vs))
meaning Op.Times vs = whole (from_left ◌*ℤ◌ (pos 1) (map as_whole vs))
meaning Op.Div vs = whole (of_two quotient (map as_whole vs))
meaning Op.Mod vs = whole (of_two remainder (map as_whole vs))
meaning Op.LessEq vs = truth (chained int_le (map as_whole vs))
meaning Op.Less vs = truth (chained int_lt (map as_whole vs))
meaning Op.GreaterEq vs = truth (chained (λ x y. int_le y x) (map as_whole vs))
meaning Op.Greater vs = truth (chained (λ x y. int_lt y x) (map as_whole vs))
