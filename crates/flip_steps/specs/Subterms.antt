-- Public. What stands in a term outside lets, what is like it, and what a term is with other arguments.
use Rattle.std.specs.Prelude.{◌≡◌, ℕ, List, length, Contains}
use Rattle.term_model.specs.Flips.{EqualUpToFlips, equality}
use Rattle.term_model.specs.Terms.{Term, numeral, variable, operation, call, let_in, Terms}
use Rattle.term_pool.specs.CellCounts.{Has, AreApart}
use Rattle.term_pool.specs.Reading.{arguments_of}

-- the second term is the first one or stands in it, outside lets
pub data IsWithin (t : Term) : Term → Type 0 where
  whole : IsWithin t t
  argument : (u a : Term) → IsWithin t u → Contains (arguments_of u) a → IsWithin t a

-- the term stands in one of these, outside lets
pub record IsWithinAny (roots : List Term) (t : Term) : Type 0 where
  pub root : Term
  pub among : Contains roots root
  pub within : IsWithin root t

-- so many different terms stand in these, outside lets; there may be more
pub record HasDifferent (roots : List Term) (n : ℕ) : Type 0 where
  pub terms : List Term
  pub apart : AreApart terms
  pub within : (t : Term) → Has terms t → IsWithinAny roots t
  pub count : length terms ≡ n

-- x is equal up to flips to what stands in t outside lets, or an equality of two terms that are, to one
pub data IsLikePart (t : Term) : Term → Type 0 where
  part : (u x : Term) → IsWithin t u → EqualUpToFlips u x → IsLikePart t x
  equated : (u x y : Term) → IsWithin t u → EqualUpToFlips u x → EqualUpToFlips u y → IsLikePart t (equality x y)

-- the same head over these arguments; of a leaf that has none and of a let, the term
abbrev pub with_arguments : Term → Terms → Term
with_arguments (numeral n) us = numeral n
with_arguments (variable x) us = variable x
with_arguments (operation op ts) us = operation op us
with_arguments (call f ts) us = call f us
with_arguments (let_in bs t) us = let_in bs t
