-- Cited by crates above. What stands in a term outside lets, and a term with other arguments: sorts, free variables, heights.
use Rattle.std.proofs.Common.{◌≡◌, ◌≤◌, ◌<◌, ◌⊎◌, inl, inr, max, sym, subst, ap, arith, Contains}
use Rattle.std.proofs.lemmas.List.Elements.{All-contains}
use Rattle.term_model.specs.FreeVariables.{IsFree, IsFreeAmong}
use Rattle.term_model.specs.Heights.{height, highest}
use Rattle.term_model.specs.Sorts.{IsWellSorted}
use Rattle.term_model.specs.Terms.{Var, Term, numeral, variable, operation, call, let_in, Terms, no_terms, term, list_of}
use Rattle.term_model.proofs.Lists.{contains_cases, contains_none}
use Rattle.term_model.proofs.Sorting.{operation_parts, call_parts}
use Rattle.term_pool.specs.Reading.{arguments_of}
use Rattle.flip_steps.specs.Subterms.{IsWithin, whole, argument}

-- arguments
argument_in_list : (x : Var) (a : Term) (ts : Terms) → Contains (list_of ts) a → IsFree x a → IsFreeAmong x ts
argument_in_list x a no_terms there free = absurd (contains_none a there)
argument_in_list x a (term t ts) there free = go (λ later. argument_in_list x a ts later free) (contains_cases t a (list_of ts) there)
  where
    go : (Contains (list_of ts) a → IsFreeAmong x ts) → (t ≡ a) ⊎ Contains (list_of ts) a → IsFree x t ⊎ IsFreeAmong x ts
    go rest (inl e) = inl (subst (λ y. IsFree x y) (sym e) free)
    go rest (inr later) = inr (rest later)

pub argument_free : (x : Var) (t a : Term) → Contains (arguments_of t) a → IsFree x a → IsFree x t
argument_free x (numeral n) a there free = absurd (contains_none a there)
argument_free x (variable y) a there free = absurd (contains_none a there)
argument_free x (operation op ts) a there free = argument_in_list x a ts there free
argument_free x (call f ts) a there free = argument_in_list x a ts there free
argument_free x (let_in bs t) a there free = absurd (contains_none a there)

highest_in_list : (a : Term) (ts : Terms) → Contains (list_of ts) a → height a ≤ highest ts
unfolding highest
highest_in_list a no_terms there = absurd (contains_none a there)
highest_in_list a (term t ts) there = go (λ later. highest_in_list a ts later) (contains_cases t a (list_of ts) there)
  where
    go : (Contains (list_of ts) a → height a ≤ highest ts) → (t ≡ a) ⊎ Contains (list_of ts) a → height a ≤ max (height t) (highest ts)
    go rest (inl e) = let d = ap height e in omega arith
    go rest (inr later) = let below = rest later in omega arith

pub argument_lower : (t a : Term) → Contains (arguments_of t) a → height a < height t
unfolding height
argument_lower (numeral n) a there = absurd (contains_none a there)
argument_lower (variable y) a there = absurd (contains_none a there)
argument_lower (operation op ts) a there = let below = highest_in_list a ts there in omega arith
argument_lower (call f ts) a there = let below = highest_in_list a ts there in omega arith
argument_lower (let_in bs t) a there = absurd (contains_none a there)

pub argument_sorted : (t a : Term) → Contains (arguments_of t) a → IsWellSorted t → IsWellSorted a
argument_sorted (numeral n) a there h = absurd (contains_none a there)
argument_sorted (variable y) a there h = absurd (contains_none a there)
argument_sorted (operation op ts) a there h = All-contains IsWellSorted (list_of ts) a (operation_parts op ts h.sort h.of) there
argument_sorted (call f ts) a there h = All-contains IsWellSorted (list_of ts) a (call_parts f ts h.sort h.of) there
argument_sorted (let_in bs t) a there h = absurd (contains_none a there)

-- what stands in a term
pub within_free : (x : Var) (t u : Term) → IsWithin t u → IsFree x u → IsFree x t
within_free x t _ whole free = free
within_free x t _ (argument u a h there) free = within_free x t u h (argument_free x u a there free)

pub within_low : (t u : Term) → IsWithin t u → height u ≤ height t
within_low t _ whole = omega arith
within_low t _ (argument u a h there) = let below = within_low t u h in let less = argument_lower u a there in omega arith

pub within_sorted : (t u : Term) → IsWithin t u → IsWellSorted t → IsWellSorted u
within_sorted t _ whole w = w
within_sorted t _ (argument u a h there) w = argument_sorted u a there (within_sorted t u h w)
