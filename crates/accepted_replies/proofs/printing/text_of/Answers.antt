use Rattle.std.proofs.Common.{◌≡◌, [], ◌++◌, sym, ap, ◌∙◌, subst}
use Rattle.accepted_replies.specs.Refutations.{reply_text, IsAccepted}
use Rattle.accepted_replies.proofs.printing.text_of.Goals as goal

pub print-requires-clause-names : goal.print-requires-clause-names
print-requires-clause-names c = record { plan = []; taken = []; given = c.new-2.ensures.none c.args.symbols.now c.args.terms.now [] }

pub returns-in-Ok-clause-accepted : goal.returns-in-Ok-clause-accepted
returns-in-Ok-clause-accepted c = λ script of sorts stand question unknown problem can refutes.
    let given = c.new-2.ensures.none c.args.symbols.now c.args.terms.now script.taken in
    let text : c.print.new.out.text.items ≡ reply_text script of =
    c.in-Ok.ensures.all [] script of sorts given stand ∙ ap (λ xs. xs ++ reply_text script of) c.new.ensures.items in
    subst (IsAccepted question unknown) (sym text) (c.refutations_are_accepted.ensures question unknown script of problem can refutes)
