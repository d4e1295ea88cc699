use Rattle.std.proofs.Common.{◌<◌, ◌≤◌, ◌+◌, subst, arith}
use Rattle.alethe_printer.proofs.Beginning.{next_line, line_there, command_is, scope_within, few_last, anchor_begun, command_begun}
use Rattle.alethe_printer.proofs.printing.Printing.begin_next.Goals as goal

pub closing_of-closing-requires-clause-within : goal.closing_of-closing-requires-clause-within
closing_of-closing-requires-clause-within c =
    let p = c.requires.printing in
    let i = p.is in
    let same = c.places_correspond.ensures p.table p.view c.args.proof.now i.of in
    let now = c.args.self.now in
    scope_within i.plan p.table p.view c.args.proof.now i.of now.page now.stages.items now.opened now.next i.bytes i.prints (λ k. same k i.stand)
    c.requires.within
    (subst (λ n. now.opened < n) (c.inner.ensures p.table p.view i.of
    (next_line i.plan p.table p.view c.args.proof.now i.of now.page now.stages.items now.opened now.next i.bytes i.prints (λ k. same k i.stand)
    c.requires.within) i.stand
    (line_there i.plan p.table p.view c.args.proof.now i.of now.page now.stages.items now.opened now.next i.bytes i.prints (λ k. same k i.stand)
    c.requires.within)) c.if-self-inner.true) (now.opened + 1) (omega arith)

pub closing_of-closing-requires-clause-few : goal.closing_of-closing-requires-clause-few
closing_of-closing-requires-clause-few c =
    let p = c.requires.printing in
    let i = p.is in
    let same = c.places_correspond.ensures p.table p.view c.args.proof.now i.of in
    let now = c.args.self.now in
    few_last i.plan p.table p.view c.args.proof.now i.of now.page now.stages.items now.opened now.next i.bytes i.prints (λ k. same k i.stand)
    c.requires.within
    (subst (λ n. now.opened < n) (c.inner.ensures p.table p.view i.of
    (next_line i.plan p.table p.view c.args.proof.now i.of now.page now.stages.items now.opened now.next i.bytes i.prints (λ k. same k i.stand)
    c.requires.within) i.stand
    (line_there i.plan p.table p.view c.args.proof.now i.of now.page now.stages.items now.opened now.next i.bytes i.prints (λ k. same k i.stand)
    c.requires.within)) c.if-self-inner.true) (now.opened + 1) (omega arith) c.requires.few

pub begin_anchor-requires-clause-within : goal.begin_anchor-requires-clause-within
begin_anchor-requires-clause-within c =
    let p = c.requires.printing in
    let i = p.is in
    let same = c.places_correspond.ensures p.table p.view c.args.proof.now i.of in
    let now = c.args.self.now in
    scope_within i.plan p.table p.view c.args.proof.now i.of now.page now.stages.items now.opened now.next i.bytes i.prints (λ k. same k i.stand)
    c.requires.within
    (subst (λ n. now.opened < n) (c.inner.ensures p.table p.view i.of
    (next_line i.plan p.table p.view c.args.proof.now i.of now.page now.stages.items now.opened now.next i.bytes i.prints (λ k. same k i.stand)
    c.requires.within) i.stand
    (line_there i.plan p.table p.view c.args.proof.now i.of now.page now.stages.items now.opened now.next i.bytes i.prints (λ k. same k i.stand)
    c.requires.within)) c.if-self-inner.true) (now.opened + 1) (omega arith)

pub returns-then-self-inner : goal.returns-then-self-inner
returns-then-self-inner c = λ s v plan of bytes stand h.
    let same = c.places_correspond.ensures s v c.args.proof.now of in
    let now = c.args.self.now in
    anchor_begun plan s v c.args.proof.now of now.page now.stages.items now.opened now.next bytes h (λ k. same k stand) c.requires.within
    (subst (λ n. now.opened < n) (c.inner.ensures s v of
    (next_line plan s v c.args.proof.now of now.page now.stages.items now.opened now.next bytes h (λ k. same k stand) c.requires.within) stand
    (line_there plan s v c.args.proof.now of now.page now.stages.items now.opened now.next bytes h (λ k. same k stand) c.requires.within))
    c.if-self-inner.true) (now.opened + 1) (omega arith) c.begin_anchor.new.page c.begin_anchor.new.stages.items c.closing_of-closing.result
    c.requires.no_tasks c.requires.no_stages c.closing_of-closing.ensures (c.in_ok-begin_anchor.ensures plan s v)

pub begin_command-requires-clause-command : goal.begin_command-requires-clause-command
begin_command-requires-clause-command c =
    let p = c.requires.printing in
    let i = p.is in
    let same = c.places_correspond.ensures p.table p.view c.args.proof.now i.of in
    let now = c.args.self.now in
    record {
      table = p.table;
      view = p.view;
      command =
          (next_line i.plan p.table p.view c.args.proof.now i.of now.page now.stages.items now.opened now.next i.bytes i.prints (λ k. same k i.stand)
          c.requires.within).command;
      is =
          command_is i.plan p.table p.view c.args.proof.now i.of now.page now.stages.items now.opened now.next i.bytes i.prints
          (λ k. same k i.stand) c.requires.within c.requires.formed i.stand;
    }

pub returns : goal.returns
returns c = λ s v plan of bytes stand h.
    let same = c.places_correspond.ensures s v c.args.proof.now of in
    let now = c.args.self.now in
    command_begun plan s v c.args.proof.now of now.page now.stages.items now.opened now.next bytes h (λ k. same k stand) c.requires.within
    c.begin_command.new.page c.begin_command.new.stages.items (now.next + 1) c.requires.no_tasks c.requires.no_stages c.requires.formed stand
    (subst (λ n. n ≤ now.opened) (c.inner.ensures s v of
    (next_line plan s v c.args.proof.now of now.page now.stages.items now.opened now.next bytes h (λ k. same k stand) c.requires.within) stand
    (line_there plan s v c.args.proof.now of now.page now.stages.items now.opened now.next bytes h (λ k. same k stand) c.requires.within))
    c.if-self-inner.false) (omega arith) (c.in_ok-begin_command.ensures plan s v)
