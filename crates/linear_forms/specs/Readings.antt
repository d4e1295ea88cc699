-- Private. What a linear form is read for: its constant, or what is left where each opaque term counts so much. Both are sums
-- over the arguments of `+` and `-`, and multiples where a product is linear, so one sweep serves both.
use Rattle.std.specs.Prelude.{ℤ, pos, ◌+ℤ◌}
use Rattle.term_model.specs.Operators.{from_left}
use Rattle.term_model.specs.Terms.{Term, Terms}
use Rattle.rule_model.specs.LinearForms.{constant, constants, part, form_parts, product, product_part}

pub data FormReading : Type 0 where
  for_constants : FormReading
  for_parts : (Term → ℤ) → FormReading

-- what a whole number counts
abbrev pub unit_of : FormReading → ℤ
unit_of for_constants = pos 1
unit_of (for_parts w) = pos 0

-- what an opaque term counts
abbrev pub opaque_in : FormReading → Term → ℤ
opaque_in for_constants t = pos 0
opaque_in (for_parts w) t = w t

abbrev pub read : FormReading → Term → ℤ
read for_constants t = constant t
read (for_parts w) t = part w t

-- a list, as a sum and as a product
abbrev pub sum_in : FormReading → Terms → ℤ
sum_in for_constants ts = from_left ◌+ℤ◌ (pos 0) (constants ts)
sum_in (for_parts w) ts = from_left ◌+ℤ◌ (pos 0) (form_parts w ts)

abbrev pub product_in : FormReading → Terms → ℤ
product_in for_constants ts = product (constants ts)
product_in (for_parts w) ts = product_part w ts
