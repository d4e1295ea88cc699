-- Private. What is known of lists of terms: their weights up to the limit, and what they are as factors.
use Rattle.std.specs.Prelude.{ℕ, ℤ, pos, ◌+◌, ◌*◌, ◌<◌, ◌≤◌, ◌^◌, ◌*ℤ◌, min, unsigned_abs, nat_lt, if◌then◌else◌}
use Rattle.linear_forms.specs.declared.nodes.Part.{Part}
use Rattle.linear_forms.specs.declared.nodes.Factors.{Factors}
use Rattle.linear_forms.specs.declared.nodes.Factors.TheVariants.{Constants, Single, Many}
use Rattle.linear_forms.specs.declared.nodes.Info.{Info}

abbrev pub limit_weight : ℕ
limit_weight = 2 ^ 127

-- so many times a part
abbrev pub times_part : ℤ → Part → Part
times_part n p = record { times = n *ℤ p.times; node = p.node }

abbrev pub joined_factors : Factors → Factors → Factors
joined_factors (Constants a) (Constants b) = Constants (a *ℤ b)
joined_factors (Constants a) (Single p) = Single (times_part a p)
joined_factors (Single p) (Constants b) = Single (times_part b p)
joined_factors _ _ = Many

-- the same with no number in it
abbrev pub without_number : Factors → Factors
without_number (Constants a) = Constants (pos 0)
without_number (Single p) = Single (record { times = pos 0; node = p.node })
without_number Many = Many

-- the number in it, in absolute value
abbrev pub size_of : Factors → ℕ
size_of (Constants a) = unsigned_abs a
size_of (Single p) = unsigned_abs p.times
size_of Many = 0

abbrev pub CanJoinFactors : Factors → Factors → Type 0
CanJoinFactors f g = size_of f * size_of g < 2 ^ 127

abbrev pub joined_info : Info → Info → Info
joined_info a b = record {
  sum = min (a.sum + b.sum) limit_weight;
  product = min (a.product * b.product) limit_weight;
  factors =
      if nat_lt (min (a.product * b.product) limit_weight) limit_weight then joined_factors a.factors b.factors
      else without_number (joined_factors a.factors b.factors);
}

-- a list's number is at most its weight, where that is narrow
pub record CanJoin (a b : Info) : Type 0 where
  pub one : a.product < 2 ^ 127 → size_of a.factors ≤ a.product
  pub other : b.product < 2 ^ 127 → size_of b.factors ≤ b.product
  pub one_positive : 1 ≤ a.product
  pub other_positive : 1 ≤ b.product
