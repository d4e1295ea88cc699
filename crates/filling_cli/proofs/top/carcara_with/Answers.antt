use Rattle.std.proofs.Common.{◌≡◌, ◌∙◌, inl, None, Some, sym, arith, map, string_bytes}
use Rattle.filling_cli.proofs.Running as Running
use Rattle.filling_cli.proofs.top.carcara_with.Goals as goal

-- WHERE THE WORDS SPELL `fill`, OR MEMORY RAN OUT BEFORE THAT WAS KNOWN

pub returns-in-Some-clause-printed : goal.returns-in-Some-clause-printed
returns-in-Some-clause-printed g c = λ none. Running.printed _ _ (map string_bytes c.args.words.now) _ _ _ _ c.in-Some.status c.in-Some.ensures.run _ none

pub returns-in-Some-clause-exact : goal.returns-in-Some-clause-exact
returns-in-Some-clause-exact g c = λ none five six seven eight.
    absurd (seven (Running.no_memory _ _ (map string_bytes c.args.words.now) _ _ _ _ c.in-Some.status c.in-Some.ensures.run none).0)

pub returns-in-Some-clause-complete : goal.returns-in-Some-clause-complete
returns-in-Some-clause-complete g c = λ none no_read no_write room. inl (Running.no_memory _ _ (map string_bytes c.args.words.now) _ _ _ _ c.in-Some.status c.in-Some.ensures.run none).0

pub returns-in-Some-clause-unsatisfiable : goal.returns-in-Some-clause-unsatisfiable
returns-in-Some-clause-unsatisfiable g c = λ none zero.
    let seven = (Running.no_memory _ _ (map string_bytes c.args.words.now) _ _ _ _ c.in-Some.status c.in-Some.ensures.run none).0 in absurd (omega (arith, zero, seven))

pub returns-in-Some-clause-nobody : goal.returns-in-Some-clause-nobody
returns-in-Some-clause-nobody g c = λ none. (Running.no_memory _ _ (map string_bytes c.args.words.now) _ _ _ _ c.in-Some.status c.in-Some.ensures.run none).1

pub returns-in-Some-clause-filled : goal.returns-in-Some-clause-filled
returns-in-Some-clause-filled g c = λ p is. Running.filled _ _ (map string_bytes c.args.words.now) _ _ _ _ c.in-Some.status c.in-Some.ensures.run p is

pub returns-in-Some-clause-asks : goal.returns-in-Some-clause-asks
returns-in-Some-clause-asks g c = λ p is. Running.asks _ _ (map string_bytes c.args.words.now) _ _ _ _ c.in-Some.status c.in-Some.ensures.run p is

pub returns-in-Some-clause-filled_exact : goal.returns-in-Some-clause-filled_exact
returns-in-Some-clause-filled_exact g c = λ p is.
    Running.exact _ _ (map string_bytes c.args.words.now) _ _ _ _ c.in-Some.status c.in-Some.ensures.run p is c.words_and_files_define_one_answer.ensures

pub returns-in-Some-clause-refuted : goal.returns-in-Some-clause-refuted
returns-in-Some-clause-refuted g c = λ p is zero.
    Running.refuted _ _ (map string_bytes c.args.words.now) _ _ _ _ c.in-Some.status c.in-Some.ensures.run p is c.valid_proofs_are_sound.ensures c.filled_proofs_are_sound.ensures zero

pub returns-in-Some-clause-read_fault : goal.returns-in-Some-clause-read_fault
returns-in-Some-clause-read_fault g c = λ five. Running.read_fault _ _ (map string_bytes c.args.words.now) _ _ _ _ c.in-Some.status c.in-Some.ensures.run five

pub returns-in-Some-clause-write_fault : goal.returns-in-Some-clause-write_fault
returns-in-Some-clause-write_fault g c = λ six. Running.write_fault _ _ (map string_bytes c.args.words.now) _ _ _ _ c.in-Some.status c.in-Some.ensures.run six

-- WHERE THEY SPELL NO `fill`, AND NOTHING HAS CHANGED

pub returns-in-None-clause-printed : goal.returns-in-None-clause-printed
returns-in-None-clause-printed g c = λ none. rw (c.fill_words.ensures.folder c.in-None.is, c.fill_words.ensures.out c.in-None.is) at c.carcara.ensures.printed

pub returns-in-None-clause-exact : goal.returns-in-None-clause-exact
returns-in-None-clause-exact g c = λ none. rw (c.fill_words.ensures.folder c.in-None.is, c.fill_words.ensures.out c.in-None.is) at c.carcara.ensures.exact

pub returns-in-None-clause-complete : goal.returns-in-None-clause-complete
returns-in-None-clause-complete g c = λ none. rw (c.fill_words.ensures.folder c.in-None.is, c.fill_words.ensures.out c.in-None.is) at c.carcara.ensures.complete

pub returns-in-None-clause-unsatisfiable : goal.returns-in-None-clause-unsatisfiable
returns-in-None-clause-unsatisfiable g c = λ none. rw (c.fill_words.ensures.folder c.in-None.is) at c.carcara.ensures.unsatisfiable

pub returns-in-None-clause-nobody : goal.returns-in-None-clause-nobody
returns-in-None-clause-nobody g c = λ none. c.fill_words.ensures.bench c.in-None.is

pub returns-in-None-clause-filled : goal.returns-in-None-clause-filled
returns-in-None-clause-filled g c = λ p is. let bad : Some p ≡ None = sym is ∙ c.fill_words.ensures.none c.in-None.is in absurd cc

pub returns-in-None-clause-asks : goal.returns-in-None-clause-asks
returns-in-None-clause-asks g c = λ p is. let bad : Some p ≡ None = sym is ∙ c.fill_words.ensures.none c.in-None.is in absurd cc

pub returns-in-None-clause-filled_exact : goal.returns-in-None-clause-filled_exact
returns-in-None-clause-filled_exact g c = λ p is. let bad : Some p ≡ None = sym is ∙ c.fill_words.ensures.none c.in-None.is in absurd cc

pub returns-in-None-clause-refuted : goal.returns-in-None-clause-refuted
returns-in-None-clause-refuted g c = λ p is. let bad : Some p ≡ None = sym is ∙ c.fill_words.ensures.none c.in-None.is in absurd cc

pub returns-in-None-clause-read_fault : goal.returns-in-None-clause-read_fault
returns-in-None-clause-read_fault g c = rw (c.fill_words.ensures.folder c.in-None.is) at c.carcara.ensures.read_fault

pub returns-in-None-clause-write_fault : goal.returns-in-None-clause-write_fault
returns-in-None-clause-write_fault g c = rw (c.fill_words.ensures.out c.in-None.is) at c.carcara.ensures.write_fault
