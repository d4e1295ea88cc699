-- The name gets the entry of a named term, which goes last; the variables in scope stay.
use Rattle.std.proofs.Common.{◌≡◌, ◌∙◌, ◌+◌, length, ap, reverse, arith, rules}
use Rattle.term_names.specs.EntryTables.{AreTableNumbers, IsInStep}
use Rattle.term_names.specs.Scope.{OwnNames}
use Rattle.term_names.specs.declared.entries.Entry.{Entry}
use Rattle.term_names.specs.declared.entries.Entry.TheVariants as variant
use Rattle.term_names.proofs.NameEntries.{length_pushed, AreTableNumbers-same, AreTableNumbers-put}
use Rattle.term_names.proofs.PutEntries.{linked_put, scoped_put, number_put, in_step_put}
use Rattle.term_names.proofs.names.Names.give_name.Goals as goal

abbrev entry : (c : goal.After-unwrap-2) → Entry
entry c = variant.Named c.len.result

count : (c : goal.After-unwrap-2) → c.len.result ≡ length c.self.inside.own.named.items
count c = search (rules, c.len.ensures, c.in_ok-reserve.ensures.items)

longer : (c : goal.After-unwrap-2) → length c.push.new.self.items ≡ length c.self.inside.own.named.items + 1
longer c =
    let pushed = rw c.unwrap-2.ensures at c.push.ensures.items in
    length_pushed _ _ _ _ pushed c.in_ok-reserve.ensures.items

in_step : (c : goal.After-unwrap-2) → IsInStep c.put.new.self c.self.inside.own.macros.items c.push.new.self.items c.self.inside.own.given.entries
in_step c = in_step_put _ _ c.args.name.now (entry c) _ c.in_ok-number.ensures.put _ _ _ _ _ c.in_ok-number.ensures.entries (omega arith) (omega (arith, longer c)) (omega (arith, longer c, count c)) c.self.invariant.0

numbers : (c : goal.After-unwrap-2) → AreTableNumbers c.insert-remembered.new.self.entries (length c.put.new.self.names)
numbers c =
    let put = rw c.unwrap.ensures at c.insert-remembered.ensures.updates in
    AreTableNumbers-put _ _ _ _ _ put.0 (number_put _ _ c.args.name.now (entry c) _ c.in_ok-number.ensures.put)
    (AreTableNumbers-same _ _ _ c.in_ok-reserve-2.ensures.entries.2 (in_step c).numbers)

pub invariant_of-self-2 : goal.invariant_of-self-2
invariant_of-self-2 c = (
  record { there = (in_step c).there; numbers = numbers c },
  linked_put _ _ c.args.name.now (entry c) _ c.in_ok-number.ensures.put _ c.self.invariant.1,
)

pub returns-clause-scope : goal.returns-clause-scope
returns-clause-scope c =
    scoped_put _ _ c.args.name.now (entry c) _ c.in_ok-number.ensures.put (reverse c.self.inside.held.items) c.self.invariant.1.outer
    ∙ ap (λ (n : OwnNames). n.scope) c.self.view_is
