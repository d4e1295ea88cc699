use Rattle.std.proofs.Common.{◌≡◌, rules}
use Rattle.known_args.proofs.RowLemmas.{is_row}
use Rattle.known_args.proofs.row.Row.read.Goals as goal

pub invariant_of-result : goal.invariant_of-result
invariant_of-result c = rw c.deref.ensures.value at c.in_ok-table.ensures

pub returns-clause-row : goal.returns-clause-row
returns-clause-row c =
    let same : c.arguments.new.self ≡ c.args.terms.now = search rules in
    is_row c.args.terms.now c.args.r c.arguments.new.into.items c.requires
    (λ s t refers fails. (rw (same, c.clear.ensures.items) at c.in_ok-arguments.ensures.arguments) s t refers fails)
