-- The id, then the arguments, and what is opened.
use Rattle.std.proofs.Common.{refl, ◌∙◌}
use Rattle.std.proofs.lemmas.Result.{err_from_is_err_and}
use Rattle.alethe_reader.proofs.AnchorReading.{bad_id, bad_argument, no_room, may_open, is_opened}
use Rattle.alethe_reader.proofs.anchors.read_anchor.Goals as goal

pub returns-in_err-judge_id-clause-read : goal.returns-in_err-judge_id-clause-read
returns-in_err-judge_id-clause-read c settings p session =
    let is = err_from_is_err_and c.from_residual.result c.from_residual.ensures.1 in
    rw (is.1, is.2) (bad_id session c.args.anchor.place c.named_at-id.result c.named_at-id.ensures _ c.look-looked.ensures.found _ c.in_err-judge_id.field-0.0 c.in_err-judge_id.ensures.judged)

pub read_arguments-requires-clause-scope : goal.read_arguments-requires-clause-scope
read_arguments-requires-clause-scope c = let (settings, p, session) = c.requires.session in (settings, p, session.reader, session.written.bound)

pub returns-in_err-read_arguments-clause-read : goal.returns-in_err-read_arguments-clause-read
returns-in_err-read_arguments-clause-read c settings p session =
    let is = err_from_is_err_and c.from_residual-in_err-read_arguments.result c.from_residual-in_err-read_arguments.ensures.1 in
    rw (is.1, is.2) (bad_argument session c.args.anchor.place c.named_at-id.result c.named_at-id.ensures _ c.look-looked.ensures.found _ c.in_ok-judge_id.ensures.judged _ c.in_err-read_arguments.ensures.read)

pub returns-in_err-enter_variables-clause-read : goal.returns-in_err-enter_variables-clause-read
returns-in_err-enter_variables-clause-read c settings p session =
    let is = err_from_is_err_and c.from_residual-in_err-enter_variables.result c.from_residual-in_err-enter_variables.ensures.1 in
    rw (is.1, is.2) (no_room session c.args.anchor.place c.named_at-id.result c.named_at-id.ensures _ c.look-looked.ensures.found _ c.in_ok-judge_id.ensures.judged c.in_ok-read_arguments.ensures.read)

pub anchor-requires-clause-may : goal.anchor-requires-clause-may
anchor-requires-clause-may c =
    let (settings, p, session) = c.requires.session in
    may_open session c.args.anchor.place c.named_at-id.result c.named_at-id.ensures _ c.look-looked.ensures.found _ c.in_ok-judge_id.ensures.judged c.in_ok-read_arguments.ensures.read c.read_arguments.ensures.grow.symbols c.read_arguments.ensures.grow.terms _
    c.deref-2.ensures.value c.requires.name c.in_ok-judge_id.ensures.unused

pub returns-in_err-scope-clause-read : goal.returns-in_err-scope-clause-read
returns-in_err-scope-clause-read c settings p session =
    let is = err_from_is_err_and c.from_residual-in_err-scope.result c.from_residual-in_err-scope.ensures.1 in
    rw (is.1, is.2) (no_room session c.args.anchor.place c.named_at-id.result c.named_at-id.ensures _ c.look-looked.ensures.found _ c.in_ok-judge_id.ensures.judged c.in_ok-read_arguments.ensures.read)

pub returns-in_err-push-clause-read : goal.returns-in_err-push-clause-read
returns-in_err-push-clause-read c settings p session =
    let is = err_from_is_err_and c.from_residual-in_err-push.result c.from_residual-in_err-push.ensures.1 in
    rw (is.1, is.2) (no_room session c.args.anchor.place c.named_at-id.result c.named_at-id.ensures _ c.look-looked.ensures.found _ c.in_ok-judge_id.ensures.judged c.in_ok-read_arguments.ensures.read)

pub returns-in_err-push-2-clause-read : goal.returns-in_err-push-2-clause-read
returns-in_err-push-2-clause-read c settings p session =
    let is = err_from_is_err_and c.from_residual-in_err-push-2.result c.from_residual-in_err-push-2.ensures.1 in
    rw (is.1, is.2) (no_room session c.args.anchor.place c.named_at-id.result c.named_at-id.ensures _ c.look-looked.ensures.found _ c.in_ok-judge_id.ensures.judged c.in_ok-read_arguments.ensures.read)

pub returns-clause-read : goal.returns-clause-read
returns-clause-read c settings p session =
    is_opened session c.args.anchor.place c.named_at-id.result c.named_at-id.ensures _ c.look-looked.ensures.found _ c.in_ok-judge_id.ensures.judged c.in_ok-read_arguments.ensures.read c.read_arguments.ensures.grow.symbols c.read_arguments.ensures.grow.terms _ c.deref-2.ensures.value
    (record c.args.session.now { reader = c.enter_variables.new.reader; builder = c.anchor.new.self; ids = c.push.new.self; anchors = c.push-2.new.self; bound = c.read_arguments.new.bound }) c.len.result c.len-2.result _
    c.len.ensures (c.len-2.ensures ∙ c.read_arguments.new.bound.opened.ok.0) (λ s v sc at bs zip. c.in_ok-enter_variables.ensures s v sc at bs (rw c.deref.ensures.value zip))
    c.in_ok-scope.ensures.written c.in_ok-scope.ensures.number c.in_ok-push.ensures.pushed c.in_ok-push-2.ensures.items refl
