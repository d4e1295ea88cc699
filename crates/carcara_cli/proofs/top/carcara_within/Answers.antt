use Rattle.std.specs.Prelude.{map, string_bytes}
use Rattle.command_words.specs.CommandLine.{task_of}
use Rattle.carcara_cli.proofs.Exact.{complete, exact}
use Rattle.carcara_cli.proofs.Outcomes.{read_fault, unsatisfiable}
use Rattle.carcara_cli.proofs.top.carcara_within.Goals as goal

pub returns-clause-exact : goal.returns-clause-exact
returns-clause-exact g c =
    exact c.words_and_files_define_one_answer.ensures c.own_texts_say_what_checks_say.ensures
    (record { status = c.summaries_are_one.ensures.status; text = c.summaries_are_one.ensures.text; instead = c.summaries_are_one.ensures.instead })
    _ (g.F.Folder.content c.args.folder.now) (g.F.Folder.faults c.args.folder.now) (g.F.Folder.faults c.run_words.new.folder)
    (task_of (map string_bytes c.args.words.now)) _ _ c.run_words.result c.run_words.ensures.printed

pub returns-clause-complete : goal.returns-clause-complete
returns-clause-complete g c =
    complete _ (g.F.Folder.content c.args.folder.now) _ (task_of (map string_bytes c.args.words.now)) _ _ c.run_words.result c.run_words.ensures.printed
    (exact c.words_and_files_define_one_answer.ensures c.own_texts_say_what_checks_say.ensures
    (record { status = c.summaries_are_one.ensures.status; text = c.summaries_are_one.ensures.text; instead = c.summaries_are_one.ensures.instead })
    _ (g.F.Folder.content c.args.folder.now) (g.F.Folder.faults c.args.folder.now) (g.F.Folder.faults c.run_words.new.folder)
    (task_of (map string_bytes c.args.words.now)) _ _ c.run_words.result c.run_words.ensures.printed)
    (read_fault _ (g.F.Folder.content c.args.folder.now) (g.F.Folder.faults c.args.folder.now) (g.F.Folder.faults c.run_words.new.folder)
    (task_of (map string_bytes c.args.words.now)) _ _ c.run_words.result c.run_words.ensures.printed) c.run_words.ensures.write_fault

pub returns-clause-unsatisfiable : goal.returns-clause-unsatisfiable
returns-clause-unsatisfiable g c =
    unsatisfiable _ (g.F.Folder.content c.args.folder.now) (g.F.Folder.faults c.args.folder.now) (g.F.Folder.faults c.run_words.new.folder)
    c.valid_proofs_are_sound.ensures (task_of (map string_bytes c.args.words.now)) _ _ c.run_words.result c.run_words.ensures.printed

pub returns-clause-read_fault : goal.returns-clause-read_fault
returns-clause-read_fault g c =
    read_fault _ (g.F.Folder.content c.args.folder.now) (g.F.Folder.faults c.args.folder.now) (g.F.Folder.faults c.run_words.new.folder)
    (task_of (map string_bytes c.args.words.now)) _ _ c.run_words.result c.run_words.ensures.printed
