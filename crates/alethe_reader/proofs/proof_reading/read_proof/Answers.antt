-- The text's form, then its commands, then what stands behind them.
use Rattle.std.proofs.Common.{refl}
use Rattle.alethe_reader.specs.Settings.{settings_with}
use Rattle.alethe_reader.proofs.ReadProofs.{some_items, some_behind, begun, some_left, all_read, some_end, read_placed, read_fault, read_full, finished_proof, finished_fault, never_full, never_both}
use Rattle.smtlib_reader.proofs.ReadProblems.{same_fault}
use Rattle.alethe_reader.proofs.proof_reading.read_proof.Goals as goal

pub skip_answer-requires : goal.skip_answer-requires
skip_answer-requires c = some_items c.args.bytes.now c.new-lexer.result c.new-lexer.ensures.whole c.new-lexer.ensures.start c.in_ok-form.ensures.formed

pub enter_list-in_list-requires : goal.enter_list-in_list-requires
enter_list-in_list-requires c =
    some_behind c.new-lexer.result c.skip_answer.new.lexer c.skip_answer.ensures.items
    (some_items c.args.bytes.now c.new-lexer.result c.new-lexer.ensures.whole c.new-lexer.ensures.start c.in_ok-form.ensures.formed)

pub read_commands-read-requires-clause-left : goal.read_commands-read-requires-clause-left
read_commands-read-requires-clause-left c =
    let (before, problem) = c.requires.problem in
    let begin = begun (record { flags = c.args.flags; in_list = c.enter_list-in_list.result }) c.tokens_are_spelled.ensures.spelled c.new-lexer.result
    c.skip_answer.new.lexer c.enter_list-in_list.new.lexer c.new-lexer.ensures.whole c.new-lexer.ensures.start c.skip_answer.ensures.items
    c.enter_list-in_list.ensures.items (c.new_session-session.ensures.session _ _ before problem) in
    some_left begin c.in_ok-form.ensures.formed

pub returns-clause-fault : goal.returns-clause-fault
returns-clause-fault c before r problem e =
    let begin = begun (record { flags = c.args.flags; in_list = c.enter_list-in_list.result }) c.tokens_are_spelled.ensures.spelled c.new-lexer.result
    c.skip_answer.new.lexer c.enter_list-in_list.new.lexer c.new-lexer.ensures.whole c.new-lexer.ensures.start c.skip_answer.ensures.items
    c.enter_list-in_list.ensures.items (c.new_session-session.ensures.session _ _ before problem) in
    read_fault (settings_with c.args.flags) before c.in_ok-form.ensures.formed c.in-Err.fault r (same_fault _ _ _ refl e) (all_read begin c.in-Err.ensures.reads)

pub returns-clause-placed : goal.returns-clause-placed
returns-clause-placed c before problem =
    let begin = begun (record { flags = c.args.flags; in_list = c.enter_list-in_list.result }) c.tokens_are_spelled.ensures.spelled c.new-lexer.result
    c.skip_answer.new.lexer c.enter_list-in_list.new.lexer c.new-lexer.ensures.whole c.new-lexer.ensures.start c.skip_answer.ensures.items
    c.enter_list-in_list.ensures.items (c.new_session-session.ensures.session _ _ before problem) in
    read_placed (settings_with c.args.flags) before c.in_ok-form.ensures.formed _ (all_read begin c.in-Err.ensures.reads)

pub returns-clause-full : goal.returns-clause-full
returns-clause-full c before problem e =
    let begin = begun (record { flags = c.args.flags; in_list = c.enter_list-in_list.result }) c.tokens_are_spelled.ensures.spelled c.new-lexer.result
    c.skip_answer.new.lexer c.enter_list-in_list.new.lexer c.new-lexer.ensures.whole c.new-lexer.ensures.start c.skip_answer.ensures.items
    c.enter_list-in_list.ensures.items (c.new_session-session.ensures.session _ _ before problem) in
    read_full (settings_with c.args.flags) before c.in_ok-form.ensures.formed c.in-Err.fault (same_fault _ _ _ refl e) (all_read begin c.in-Err.ensures.reads)

pub finish-proof-requires : goal.finish-proof-requires
finish-proof-requires c =
    let (before, problem) = c.requires.problem in
    let begin = begun (record { flags = c.args.flags; in_list = c.enter_list-in_list.result }) c.tokens_are_spelled.ensures.spelled c.new-lexer.result
    c.skip_answer.new.lexer c.enter_list-in_list.new.lexer c.new-lexer.ensures.whole c.new-lexer.ensures.start c.skip_answer.ensures.items
    c.enter_list-in_list.ensures.items (c.new_session-session.ensures.session _ _ before problem) in
    let (p, behind, here, session) = some_end (settings_with c.args.flags) before c.in_ok-form.ensures.formed (all_read begin c.in-Ok.ensures.reads) in
    (_, _, settings_with c.args.flags, p, behind, here, session)

pub returns-in-Ok-clause-proof : goal.returns-in-Ok-clause-proof
returns-in-Ok-clause-proof c before problem =
    let begin = begun (record { flags = c.args.flags; in_list = c.enter_list-in_list.result }) c.tokens_are_spelled.ensures.spelled c.new-lexer.result
    c.skip_answer.new.lexer c.enter_list-in_list.new.lexer c.new-lexer.ensures.whole c.new-lexer.ensures.start c.skip_answer.ensures.items
    c.enter_list-in_list.ensures.items (c.new_session-session.ensures.session _ _ before problem) in
    finished_proof (settings_with c.args.flags) before c.in_ok-form.ensures.formed c.finish-proof.result (all_read begin c.in-Ok.ensures.reads) (c.finish-proof.ensures _ _ (settings_with c.args.flags))

pub returns-in-Ok-clause-fault : goal.returns-in-Ok-clause-fault
returns-in-Ok-clause-fault c before r problem e =
    let begin = begun (record { flags = c.args.flags; in_list = c.enter_list-in_list.result }) c.tokens_are_spelled.ensures.spelled c.new-lexer.result
    c.skip_answer.new.lexer c.enter_list-in_list.new.lexer c.new-lexer.ensures.whole c.new-lexer.ensures.start c.skip_answer.ensures.items
    c.enter_list-in_list.ensures.items (c.new_session-session.ensures.session _ _ before problem) in
    finished_fault (settings_with c.args.flags) before c.in_ok-form.ensures.formed c.finish-proof.result (all_read begin c.in-Ok.ensures.reads) (c.finish-proof.ensures _ _ (settings_with c.args.flags)) r e

pub returns-in-Ok-clause-refused : goal.returns-in-Ok-clause-refused
returns-in-Ok-clause-refused c before r problem faulty =
    let begin = begun (record { flags = c.args.flags; in_list = c.enter_list-in_list.result }) c.tokens_are_spelled.ensures.spelled c.new-lexer.result
    c.skip_answer.new.lexer c.enter_list-in_list.new.lexer c.new-lexer.ensures.whole c.new-lexer.ensures.start c.skip_answer.ensures.items
    c.enter_list-in_list.ensures.items (c.new_session-session.ensures.session _ _ before problem) in
    never_both (settings_with c.args.flags) before c.in_ok-form.ensures.formed c.finish-proof.result (all_read begin c.in-Ok.ensures.reads) (c.finish-proof.ensures _ _ (settings_with c.args.flags))
    (λ proof after q. c.proof_texts_have_one_reading.ensures.not_both c.args.bytes.now (settings_with c.args.flags) before proof after q) r faulty

pub returns-in-Ok-clause-placed : goal.returns-in-Ok-clause-placed
returns-in-Ok-clause-placed c before problem =
    let begin = begun (record { flags = c.args.flags; in_list = c.enter_list-in_list.result }) c.tokens_are_spelled.ensures.spelled c.new-lexer.result
    c.skip_answer.new.lexer c.enter_list-in_list.new.lexer c.new-lexer.ensures.whole c.new-lexer.ensures.start c.skip_answer.ensures.items
    c.enter_list-in_list.ensures.items (c.new_session-session.ensures.session _ _ before problem) in
    read_placed (settings_with c.args.flags) before c.in_ok-form.ensures.formed _ (all_read begin c.in-Ok.ensures.reads)

pub returns-in-Ok-clause-full : goal.returns-in-Ok-clause-full
returns-in-Ok-clause-full c before problem e =
    let begin = begun (record { flags = c.args.flags; in_list = c.enter_list-in_list.result }) c.tokens_are_spelled.ensures.spelled c.new-lexer.result
    c.skip_answer.new.lexer c.enter_list-in_list.new.lexer c.new-lexer.ensures.whole c.new-lexer.ensures.start c.skip_answer.ensures.items
    c.enter_list-in_list.ensures.items (c.new_session-session.ensures.session _ _ before problem) in
    absurd (never_full (settings_with c.args.flags) before c.in_ok-form.ensures.formed c.finish-proof.result (all_read begin c.in-Ok.ensures.reads) (c.finish-proof.ensures _ _ (settings_with c.args.flags)) e)
