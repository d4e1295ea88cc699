-- The entry of the name becomes that of a macro, which goes last; the variables in scope stay.
use Rattle.std.proofs.Common.{◌≡◌, ◌∙◌, ◌+◌, length, ap, reverse, arith, rules}
use Rattle.term_names.specs.Scope.{OwnNames}
use Rattle.term_names.specs.declared.entries.Entry.{Entry}
use Rattle.term_names.specs.declared.entries.Entry.TheVariants as variant
use Rattle.term_names.proofs.NameEntries.{length_pushed}
use Rattle.term_names.proofs.PutEntries.{linked_put, scoped_put, in_step_put}
use Rattle.term_names.proofs.names.Names.define.Goals as goal

abbrev entry : (c : goal.After-unwrap) → Entry
entry c = variant.Macro c.len.result

number : (c : goal.After-unwrap) → c.len.result ≡ length c.self.inside.own.macros.items
number c = search (rules, c.len.ensures, c.in_ok-reserve.ensures.items)

longer : (c : goal.After-unwrap) → length c.push.new.self.items ≡ length c.self.inside.own.macros.items + 1
longer c =
    let pushed = rw c.unwrap.ensures at c.push.ensures.items in
    length_pushed _ _ _ _ pushed c.in_ok-reserve.ensures.items

pub invariant_of-self-2 : goal.invariant_of-self-2
invariant_of-self-2 c = (
  in_step_put _ _ c.args.name.now (entry c) _ c.in_ok-put.ensures.put _ _ _ _ _ c.in_ok-put.ensures.entries (omega (arith, longer c)) (omega arith) (omega (arith, longer c, number c)) c.self.invariant.0,
  linked_put _ _ c.args.name.now (entry c) _ c.in_ok-put.ensures.put _ c.self.invariant.1,
)

pub returns-clause-scope : goal.returns-clause-scope
returns-clause-scope c =
    scoped_put _ _ c.args.name.now (entry c) _ c.in_ok-put.ensures.put (reverse c.self.inside.held.items) c.self.invariant.1.outer
    ∙ ap (λ (n : OwnNames). n.scope) c.self.view_is
