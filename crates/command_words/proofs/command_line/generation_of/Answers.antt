use Rattle.std.proofs.Common.{◌≡◌, ◌∙◌, ap, option_map, sym, ℕ}
use Rattle.std.specs.Prelude.{codes}
use Rattle.clap.specs.Matches.{found_of}
use Rattle.clap.specs.Walk.{rows_of}
use Rattle.std.proofs.Common.{refl}
use Rattle.command_words.specs.CommandLine.{generate}
use Rattle.command_words.specs.Found.{workers_of}
use Rattle.command_words.proofs.FoundLemmas.{flag_is, generate_has_no_workers, generate_has_options, generate_is, number_is, value_is}
use Rattle.command_words.proofs.command_line.generation_of.Goals as goal

pub returns-in_default-clause-told : goal.returns-in_default-clause-told
returns-in_default-clause-told c = λ g h.
    let f = found_of c.args.matches.now in
    let problem = value_is f (codes "problem") (rows_of f) g.problem _ c.in_default.ensures refl h.problem in
    absurd (cc)

pub returns-in_default-workers_of-clause-told : goal.returns-in_default-workers_of-clause-told
returns-in_default-workers_of-clause-told c = λ g h.
    let f = found_of c.args.matches.now in
    let number : option_map (λ t. t.now) c.get_str-2.result ≡ g.number = number_is f (codes "workers") (rows_of f) g.number _ c.get_str-2.ensures refl h.number in
    generate_has_no_workers g (ap workers_of (sym number) ∙ sym c.in_default-workers_of.ensures.value)

pub returns-then-not-has_none-clause-told : goal.returns-then-not-has_none-clause-told
returns-then-not-has_none-clause-told c = λ g h.
    let f = found_of c.args.matches.now in
    let number : option_map (λ t. t.now) c.get_str-2.result ≡ g.number = number_is f (codes "workers") (rows_of f) g.number _ c.get_str-2.ensures refl h.number in
    generate_has_options _ _ _ g c.in-Some-workers_of.workers
    (flag_is f (codes "expand") (rows_of f) _ _ refl h.expand c.get_flag.ensures.value c.get_flag.ensures.other)
    (flag_is f (codes "ignore") (rows_of f) _ _ refl h.ignore c.get_flag-2.ensures.value c.get_flag-2.ensures.other)
    (flag_is f (codes "strict") (rows_of f) _ _ refl h.strict c.get_flag-3.ensures.value c.get_flag-3.ensures.other)
    (ap workers_of (sym number) ∙ sym c.in-Some-workers_of.ensures.value)
    (sym c.has_none.ensures ∙ c.if-not-has_none.true)

pub returns-in_default-number_up_to-clause-told : goal.returns-in_default-number_up_to-clause-told
returns-in_default-number_up_to-clause-told c = λ g h.
    let f = found_of c.args.matches.now in
    let number : option_map (λ t. t.now) c.get_str-2.result ≡ g.number = number_is f (codes "workers") (rows_of f) g.number _ c.get_str-2.ensures refl h.number in
    ap (option_map (λ (links : ℕ). generate links c.in-Some-workers_of.workers)) c.in_default-number_up_to.ensures.value
    ∙ generate_is _ _ _ _ g c.in-Some-workers_of.workers
    (value_is f (codes "problem") (rows_of f) g.problem _ c.in-Some.ensures refl h.problem)
    (flag_is f (codes "expand") (rows_of f) _ _ refl h.expand c.get_flag.ensures.value c.get_flag.ensures.other)
    (flag_is f (codes "ignore") (rows_of f) _ _ refl h.ignore c.get_flag-2.ensures.value c.get_flag-2.ensures.other)
    (flag_is f (codes "strict") (rows_of f) _ _ refl h.strict c.get_flag-3.ensures.value c.get_flag-3.ensures.other)
    (ap workers_of (sym number) ∙ sym c.in-Some-workers_of.ensures.value)
    (sym c.has_none.ensures ∙ c.if-not-has_none.false)

pub returns-clause-told : goal.returns-clause-told
returns-clause-told c = λ g h.
    let f = found_of c.args.matches.now in
    let number : option_map (λ t. t.now) c.get_str-2.result ≡ g.number = number_is f (codes "workers") (rows_of f) g.number _ c.get_str-2.ensures refl h.number in
    ap (option_map (λ (links : ℕ). generate links c.in-Some-workers_of.workers)) c.in-Some-number_up_to.ensures.value
    ∙ generate_is _ _ _ _ g c.in-Some-workers_of.workers
    (value_is f (codes "problem") (rows_of f) g.problem _ c.in-Some.ensures refl h.problem)
    (flag_is f (codes "expand") (rows_of f) _ _ refl h.expand c.get_flag.ensures.value c.get_flag.ensures.other)
    (flag_is f (codes "ignore") (rows_of f) _ _ refl h.ignore c.get_flag-2.ensures.value c.get_flag-2.ensures.other)
    (flag_is f (codes "strict") (rows_of f) _ _ refl h.strict c.get_flag-3.ensures.value c.get_flag-3.ensures.other)
    (ap workers_of (sym number) ∙ sym c.in-Some-workers_of.ensures.value)
    (sym c.has_none.ensures ∙ c.if-not-has_none.false)
