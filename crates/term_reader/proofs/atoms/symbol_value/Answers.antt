use Rattle.std.proofs.Common.{sym, ◌∙◌, refl}
use Rattle.std.proofs.lemmas.Result.{err_from_is_err_and}
use Rattle.problem_text.specs.Names.{meaning_of}
use Rattle.term_reader.proofs.Limited.{replaces_so, limit_so}
use Rattle.term_names.specs.Scope.{known_in}
use Rattle.term_reader.proofs.AtomLemmas.{found_means, none_means, symbol_settles, symbol_fails, symbol_unknown}
use Rattle.term_reader.proofs.atoms.symbol_value.Goals as goal

pub returns-then-is_unknown-clause-reads : goal.returns-then-is_unknown-clause-reads
returns-then-is_unknown-clause-reads c =
    λ sc p stands.
    let none = none_means c.args.symbols.now c.args.terms.now (known_in c.args.settings.now c.args.reader.now.names) p c.find-found.result
    (meaning_of p sc c.args.name.now) (sym c.is_unknown.ensures ∙ c.if-is_unknown.true)
    (c.find-found.ensures c.args.terms.now sc p stands.script stands.scope) in
    symbol_unknown c.args.symbols.now c.args.terms.now (record { place = c.args.place; name = c.args.name.now }) p sc c.refused.result c.args.place none
    c.refused.ensures refl

pub use_alone-requires : goal.use_alone-requires
use_alone-requires c =
    let (sc, p, stands) = c.requires.reader in
    let found = c.find-found.ensures c.args.terms.now sc p stands.script stands.scope in
    let (m, e) = found_means c.args.symbols.now c.args.terms.now (known_in c.args.settings.now c.args.reader.now.names) p c.find-found.result
    (meaning_of p sc c.args.name.now) (sym c.is_unknown.ensures ∙ c.if-is_unknown.false) found in
    record { found = (p, m, stands.scope, replaces_so p.settings c.args.settings.now.replaces_lets stands.settings, rw e at found) }

pub returns-in_err-made-clause-reads : goal.returns-in_err-made-clause-reads
returns-in_err-made-clause-reads c =
    λ sc p stands.
    let found = c.find-found.ensures c.args.terms.now sc p stands.script stands.scope in
    let (m, e) = found_means c.args.symbols.now c.args.terms.now (known_in c.args.settings.now c.args.reader.now.names) p c.find-found.result
    (meaning_of p sc c.args.name.now) (sym c.is_unknown.ensures ∙ c.if-is_unknown.false) found in
    let fails = symbol_fails c.args.symbols.now c.args.terms.now c.use_alone.new.terms (record { place = c.args.place; name = c.args.name.now }) p sc m e
    (limit_so p.settings c.args.settings.now.replaces_lets stands.settings) c.in_err-made.field-0.0
    (c.in_err-made.ensures.makes p m stands.scope (replaces_so p.settings c.args.settings.now.replaces_lets stands.settings) (rw e at found)) in
    let q = err_from_is_err_and c.from_residual.result c.from_residual.ensures.1 in
    rw (q.1, q.2) fails

pub returns-clause-reads : goal.returns-clause-reads
returns-clause-reads c =
    λ sc p stands.
    let found = c.find-found.ensures c.args.terms.now sc p stands.script stands.scope in
    let (m, e) = found_means c.args.symbols.now c.args.terms.now (known_in c.args.settings.now c.args.reader.now.names) p c.find-found.result
    (meaning_of p sc c.args.name.now) (sym c.is_unknown.ensures ∙ c.if-is_unknown.false) found in
    symbol_settles c.args.symbols.now c.args.terms.now c.use_alone.new.terms (record { place = c.args.place; name = c.args.name.now }) p sc m e
    (limit_so p.settings c.args.settings.now.replaces_lets stands.settings) c.args.place c.in_ok-made.made c.settle.result
    refl (c.in_ok-made.ensures.makes p m stands.scope (replaces_so p.settings c.args.settings.now.replaces_lets stands.settings)
    (rw e at found))
    (λ o made. c.settle.ensures c.args.symbols.now c.use_alone.new.terms o sc made)
