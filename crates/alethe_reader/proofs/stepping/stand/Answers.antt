-- By whether it closes a scope.
use Rattle.alethe_reader.proofs.StepReading.{still_here, variables_of, gone_around}
use Rattle.alethe_reader.proofs.stepping.stand.Goals as goal

pub returns-in_default : goal.returns-in_default
returns-in_default c s v settings used p id here reader closing = still_here s v settings used p id here c.args.reader.now c.args.closes c.in_default.is closing reader

pub leave_variables-requires : goal.leave_variables-requires
leave_variables-requires c =
    let (s, v, settings, used, p, id, here, reader, closing) = c.requires in
    (s, v, p.script, settings, p.scope.nesting, reader, variables_of s v settings used p id here c.in-Some.anchor c.args.closes c.in-Some.is closing)

pub returns : goal.returns
returns c s v settings used p id here reader closing =
    gone_around s v settings used p id here c.args.reader.now c.leave_variables.new.reader c.in-Some.anchor c.args.closes c.in-Some.is closing
    (λ around before anchor count h. c.leave_variables.ensures s v p.script settings around before anchor count h) reader
