use Rattle.std.proofs.Common.{arith}
use Rattle.std.proofs.lemmas.Result.{IfOk-weaker}
use Rattle.term_reader.specs.ReadingViews.{reader_in}
use Rattle.term_reader.proofs.EnteringTerms.{IsFurther, application_goes, application_unknown, application_further}
use Rattle.term_reader.proofs.entering.enter_application.Goals as goal

pub place_at-requires : goal.place_at-requires
place_at-requires c =
    let (g, h) = c.requires.top in
    let (e, named, range, less, same_end, later) = h.top in named.inside

pub place_at-requires-2 : goal.place_at-requires-2
place_at-requires-2 c = let (g, h) = c.requires.top in h.at.inside

pub returns-in_default-clause-goes : goal.returns-in_default-clause-goes
returns-in_default-clause-goes c g h =
    let p = c.args.parts.now in
    application_unknown c.args.items.now g c.args.symbols.now c.args.terms.now (reader_in c.args.settings.now c.args.reader.now) c.args.k p.head p.first p.end
    c.place_at.result c.refused.result h
    c.place_at.ensures c.refused.ensures c.in_default.ensures

pub enter_arguments-requires-clause-at : goal.enter_arguments-requires-clause-at
enter_arguments-requires-clause-at c =
    let (g, h) = c.requires.top in
    let p = c.args.parts.now in (
      g,
      rw c.len.ensures
          (application_goes c.args.items.now g c.args.symbols.now c.args.terms.now (reader_in c.args.settings.now c.args.reader.now) c.args.k p.head p.first p.end
          c.place_at-2.result c.in-Some.applied h
          c.place_at-2.ensures c.in-Some.ensures).answer,
    )

pub returns-clause-goes : goal.returns-clause-goes
returns-clause-goes c g h =
    let p = c.args.parts.now in
    c.enter_arguments.ensures.goes g
    (rw c.len.ensures
    (application_goes c.args.items.now g c.args.symbols.now c.args.terms.now (reader_in c.args.settings.now c.args.reader.now) c.args.k p.head p.first p.end
    c.place_at-2.result c.in-Some.applied h
    c.place_at-2.ensures c.in-Some.ensures).answer)

further : (c : goal.After-enter_arguments) → IsFurther c.args.items.now c.args.k c.args.parts.now.first
further c =
    let (g, h) = c.requires.top in
    let p = c.args.parts.now in
    application_further c.args.items.now g c.args.symbols.now c.args.terms.now (reader_in c.args.settings.now c.args.reader.now) c.args.k p.head p.first p.end h

pub returns-clause-few : goal.returns-clause-few
returns-clause-few c =
    let f = further c in
    let later = f.later in
    let within = f.within in
    IfOk-weaker c.enter_arguments.result _ _ (λ t few. omega arith) c.enter_arguments.ensures.few

pub returns-clause-progress : goal.returns-clause-progress
returns-clause-progress c =
    let f = further c in
    let later = f.later in
    let within = f.within in
    IfOk-weaker c.enter_arguments.result _ _ (λ t less. omega arith) c.enter_arguments.ensures.progress
