use Rattle.std.proofs.Common.{◌∙◌, subst}
use Rattle.equality_ways.specs.Ways.{IsNeverTwice, IsWayOver}
use Rattle.elab_equality.specs.Walking.{AreSidesGiven}
use Rattle.elab_equality.proofs.ReadingLemmas.{ConnectedAlike, connected_ends, found_used, some_where}
use Rattle.elab_equality.proofs.ClauseLemmas.{trans_states}
use Rattle.elab_equality.proofs.linking.find_way.Goals as goal

pub ends-from-requires-clause-equates : goal.ends-from-requires-clause-equates
ends-from-requires-clause-equates c = trans_states c.args.at.now c.args.terms.now c.requires.job c.requires.rule

pub way-requires : goal.way-requires
way-requires c = record { searchable = c.in_ok-table.ensures.table.searchable }

pub unwrap-used-requires : goal.unwrap-used-requires
unwrap-used-requires c =
    let p = c.args.at.now in
    let v = c.args.terms.now in
    let sides = c.in_ok-sides.sides.items in
    let table = rw c.deref.ensures.value at c.in_ok-table.ensures.table in
    let given = subst (λ x. AreSidesGiven p x sides) c.ends-from.ensures.same c.in_ok-sides.ensures.given in
    let law = subst (ConnectedAlike p.symbols.now) (c.sides_given.ensures.same ∙ c.ends-from.ensures.same)
    (λ x premises a b t u are left right. (c.connections_are_of_terms.ensures x premises a b t u are left right).1) in
    some_where c.in_ok-found.found _ (c.in_ok-found.ensures.none sides table)
    (λ none. none (connected_ends p v c.requires.job c.requires.rule law c.ends-from.result.0 c.ends-from.result.1 c.ends-from.ensures.sides sides given))

pub returns-clause-walk : goal.returns-clause-walk
returns-clause-walk c =
    let p = c.args.at.now in
    let sides = c.in_ok-sides.sides.items in
    let table = rw c.deref.ensures.value at c.in_ok-table.ensures.table in
    record {
      ends = c.ends-from.ensures.sides;
      given = subst (λ x. AreSidesGiven p x sides) c.ends-from.ensures.same c.in_ok-sides.ensures.given;
      way = found_used c.in_ok-found.found c.unwrap-used.result (λ x. IsWayOver sides c.ends-from.result.0 c.ends-from.result.1 x.items) c.unwrap-used.ensures (c.in_ok-found.ensures.way sides table);
      once = found_used c.in_ok-found.found c.unwrap-used.result (λ x. IsNeverTwice x.items) c.unwrap-used.ensures
          (c.in_ok-found.ensures.once sides table);
    }
