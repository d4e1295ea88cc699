use Rattle.std.proofs.Common.{refl}
use Rattle.smtlib_reader.proofs.ReadProblems.{some_start, from_start, read_placed, read_fault, read_full, read_text, same_fault, assertion_known}
use Rattle.smtlib_reader.proofs.problem_reading.read_problem.Goals as goal

pub read_commands-read-requires-clause-left : goal.read_commands-read-requires-clause-left
read_commands-read-requires-clause-left c =
    some_start c.args.bytes.now c.args.flags.expand_lets c.new-lexer.result c.new-lexer.ensures.whole c.new-lexer.ensures.start c.in_ok-form.ensures.formed
    (c.new_session-session.ensures _ _ _ refl c.requires.new_symbols)

pub returns-clause-fault : goal.returns-clause-fault
returns-clause-fault c r e =
    read_fault c.args.bytes.now c.args.flags.expand_lets c.in_ok-form.ensures.formed r (same_fault _ _ _ refl e)
    (from_start c.args.bytes.now c.args.flags.expand_lets c.new-lexer.result c.new-lexer.ensures.whole c.new-lexer.ensures.start c.in_ok-form.ensures.formed
    (c.new_session-session.ensures _ _ _ refl c.requires.new_symbols) c.in-Err.ensures.reads)

pub returns-clause-placed : goal.returns-clause-placed
returns-clause-placed c =
    read_placed c.args.bytes.now c.args.flags.expand_lets c.in_ok-form.ensures.formed
    (from_start c.args.bytes.now c.args.flags.expand_lets c.new-lexer.result c.new-lexer.ensures.whole c.new-lexer.ensures.start c.in_ok-form.ensures.formed
    (c.new_session-session.ensures _ _ _ refl c.requires.new_symbols) c.in-Err.ensures.reads)

pub returns-clause-full : goal.returns-clause-full
returns-clause-full c e =
    read_full c.args.bytes.now c.args.flags.expand_lets c.in_ok-form.ensures.formed (same_fault _ _ _ refl e)
    (from_start c.args.bytes.now c.args.flags.expand_lets c.new-lexer.result c.new-lexer.ensures.whole c.new-lexer.ensures.start c.in_ok-form.ensures.formed
    (c.new_session-session.ensures _ _ _ refl c.requires.new_symbols) c.in-Err.ensures.reads)

pub returns-in-Ok-clause-problem : goal.returns-in-Ok-clause-problem
returns-in-Ok-clause-problem c =
    let (sc, stands, session) = read_text c.args.bytes.now c.args.flags.expand_lets c.in_ok-form.ensures.formed
    (from_start c.args.bytes.now c.args.flags.expand_lets c.new-lexer.result c.new-lexer.ensures.whole c.new-lexer.ensures.start c.in_ok-form.ensures.formed
    (c.new_session-session.ensures _ _ _ refl c.requires.new_symbols) c.in-Ok.ensures.reads) in
    (sc, stands, c.problem_of-problem.ensures _ _ _ sc refl session)

pub returns-in-Ok-clause-known : goal.returns-in-Ok-clause-known
returns-in-Ok-clause-known c =
    let (sc, stands, is) = returns-in-Ok-clause-problem c in
    assertion_known _ _ _ sc.assertions is.assertions

pub returns-in-Ok-clause-refused : goal.returns-in-Ok-clause-refused
returns-in-Ok-clause-refused c r faulty =
    let (sc, stands, is) = returns-in-Ok-clause-problem c in
    c.texts_have_one_reading.ensures.not_both _ _ sc r stands faulty

pub returns-in-Ok-clause-placed : goal.returns-in-Ok-clause-placed
returns-in-Ok-clause-placed c =
    read_placed c.args.bytes.now c.args.flags.expand_lets c.in_ok-form.ensures.formed
    (from_start c.args.bytes.now c.args.flags.expand_lets c.new-lexer.result c.new-lexer.ensures.whole c.new-lexer.ensures.start c.in_ok-form.ensures.formed
    (c.new_session-session.ensures _ _ _ refl c.requires.new_symbols) c.in-Ok.ensures.reads)
