-- What stands in a term is less high than it.
use Rattle.std.proofs.Common.{◌<◌, ◌≤◌, ◌+◌, max, List, [], ◌∷◌, arith}
use Rattle.std.specs.List.{AllByRecursion}
use Rattle.term_model.specs.Terms.{Fun, Term, numeral, variable, operation, call, let_in, Terms, no_terms, term, Bindings, no_bindings, binding, list_of}
use Rattle.term_model.specs.FreeVariables.{bound_terms}
use Rattle.term_model.specs.declared.symbols.Op.{Op}
use Rattle.term_model.specs.Heights.{height, highest, highest_bound}

pub least_height : (t : Term) → 1 ≤ height t
unfolding height
least_height (numeral n) = omega arith
least_height (variable x) = omega arith
least_height (operation op ts) = omega arith
least_height (call f ts) = omega arith
least_height (let_in bs t) = omega arith

all_lower : (P Q : Term → Type 0) (ts : List Term) → ((t : Term) → P t → Q t) → AllByRecursion P ts → AllByRecursion Q ts
all_lower P Q [] h k = tt
all_lower P Q (t ∷ ts) h k = (h t k.0, all_lower P Q ts h k.1)

pub arguments_lower : (ts : Terms) → AllByRecursion (λ t. height t < 1 + highest ts) (list_of ts)
unfolding height
arguments_lower no_terms = tt
arguments_lower (term t ts) = (
  omega arith,
  all_lower (λ u. height u < 1 + highest ts) (λ u. height u < 1 + max (height t) (highest ts)) (list_of ts) (λ u h. omega arith) (arguments_lower ts),
)

pub operation_higher : (op : Op) (ts : Terms) → AllByRecursion (λ t. height t < height (operation op ts)) (list_of ts)
unfolding height
operation_higher op ts = arguments_lower ts

pub call_higher : (f : Fun) (ts : Terms) → AllByRecursion (λ t. height t < height (call f ts)) (list_of ts)
unfolding height
call_higher f ts = arguments_lower ts

bound_lower : (bs : Bindings) → AllByRecursion (λ t. height t < 1 + highest_bound bs) (bound_terms bs)
unfolding height
bound_lower no_bindings = tt
bound_lower (binding x t bs) = (
  omega arith,
  all_lower (λ u. height u < 1 + highest_bound bs) (λ u. height u < 1 + max (height t) (highest_bound bs)) (bound_terms bs) (λ u h. omega arith) (bound_lower bs),
)

pub bound_higher : (bs : Bindings) (u : Term) → AllByRecursion (λ t. height t < height (let_in bs u)) (bound_terms bs)
unfolding height
bound_higher bs u =
    all_lower (λ t. height t < 1 + highest_bound bs) (λ t. height t < 1 + max (highest_bound bs) (height u)) (bound_terms bs) (λ t h. omega arith) (bound_lower bs)
