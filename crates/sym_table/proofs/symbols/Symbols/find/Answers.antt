-- The number of a name leads to the function's leaf.
use Rattle.std.proofs.Common.{◌≡◌, ◌<◌, ap, arith, rules, length, slice_get, is_some, Some, refl}
use Rattle.std.proofs.lemmas.Option.{slice_get_read}
use Rattle.std.proofs.lemmas.Bool.{true≢false}
use Rattle.sym_table.proofs.Functions.{number_in_range, IsFunctionNamed-number, IsFunctionName-number, lacks-IsFunctionName, place_fits-number}
use Rattle.sym_table.proofs.symbols.Symbols.find.Goals as goal

below : (c : goal.In_ok-number) → c.in_ok-number.number < length c.self.inside.functions.items
below c = number_in_range c.self.inside.function_names c.self.inside.functions.items c.in_ok-number.number c.args.name.now c.self.invariant.0.named c.in_ok-number.ensures.found

pub index-requires : goal.index-requires
index-requires c = search (rules, below c)

at : (c : goal.After-row_known-1) → slice_get c.self.inside.functions.items c.in_ok-number.number ≡ Some c.index.result.now
at c = slice_get_read _ (length c.self.inside.functions.items) _ _ refl (number_in_range c.self.inside.function_names c.self.inside.functions.items c.in_ok-number.number c.args.name.now c.self.invariant.0.named c.in_ok-number.ensures.found) c.index.ensures

pub returns-in_err-number-clause-none : goal.returns-in_err-number-clause-none
returns-in_err-number-clause-none c =
    (λ e. lacks-IsFunctionName _ _ _ _ _ _ _ c.self.view_is c.self.invariant.0 c.in_err-number.ensures.lacks, λ h. ap is_some c.from_residual.ensures)

pub overflow_cast-result : goal.overflow_cast-result
overflow_cast-result c = omega (arith, place_fits-number _ _ _ _ _ _ c.self.invariant.0 c.self.invariant.1 (at c))

pub overflow_add-result : goal.overflow_add-result
overflow_add-result c = omega (arith, place_fits-number _ _ _ _ _ _ c.self.invariant.0 c.self.invariant.1 (at c))

pub returns-clause-found : goal.returns-clause-found
returns-clause-found c = IsFunctionNamed-number _ _ _ _ _ _ _ _ _ c.self.view_is c.self.invariant.0 c.in_ok-number.ensures.found (at c)

pub returns-clause-none : goal.returns-clause-none
returns-clause-none c =
    (λ e. absurd (true≢false e), λ h. absurd (h (IsFunctionName-number _ _ _ _ _ _ _ _ c.self.view_is c.self.invariant.0 c.in_ok-number.ensures.found)))
