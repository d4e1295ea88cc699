-- The variable is linked to the one of its name that was innermost.
use Rattle.std.proofs.Common.{◌≡◌, ◌∙◌, ◌++◌, [], ◌∷◌, ap, length, rules}
use Rattle.term_names.specs.NameTable.{entries_of}
use Rattle.term_names.specs.Scope.{OwnNames}
use Rattle.term_names.proofs.PutEntries.{linked_push, scoped_push, in_step_push}
use Rattle.term_names.proofs.names.Names.push.Goals as goal

pub invariant_of-self-2 : goal.invariant_of-self-2
invariant_of-self-2 c =
    let pushed = rw c.unwrap.ensures at c.push.ensures.items in
    let more = pushed ∙ ap (λ hs. hs ++ record { bound = c.args.bound; name = c.in_ok-name.name; outer = c.innermost-outer.result } ∷ []) c.in_ok-reserve.ensures.items in
    let all : c.len.result ≡ length c.push.new.self.items = search (rules, c.len.ensures) in (
      in_step_push _ _ _ c.args.name.now _ _ _ _ _ _ c.in_ok-name.ensures.numbered c.set_innermost.ensures c.innermost-outer.ensures more all c.self.invariant.1
          _ _ _ c.in_ok-name.ensures.entries c.self.invariant.0,
      linked_push _ _ _ c.args.name.now _ _ _ _ _ _ c.in_ok-name.ensures.numbered c.set_innermost.ensures c.innermost-outer.ensures more all c.self.invariant.1,
    )

pub returns-clause-pushed : goal.returns-clause-pushed
returns-clause-pushed c =
    let pushed = rw c.unwrap.ensures at c.push.ensures.items in
    let more = pushed ∙ ap (λ hs. hs ++ record { bound = c.args.bound; name = c.in_ok-name.name; outer = c.innermost-outer.result } ∷ []) c.in_ok-reserve.ensures.items in
    let all : c.len.result ≡ length c.push.new.self.items = search (rules, c.len.ensures) in
    let same = ap entries_of c.set_innermost.ensures ∙ c.in_ok-name.ensures.entries in
    let scope = scoped_push _ _ _ c.args.name.now _ _ _ _ _ _ c.in_ok-name.ensures.numbered c.set_innermost.ensures c.innermost-outer.ensures more all c.self.invariant.1 in
    (λ i. record {
      own = record { names = same i; macros = c.self.inside.own.macros.items; named = c.self.inside.own.named.items };
      scope = scope i;
    })
    ∙ ap (λ (n : OwnNames). record n { scope = record { name = c.args.name.now; bound = c.args.bound } ∷ n.scope }) c.self.view_is
