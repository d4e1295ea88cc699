use Rattle.term_names.specs.Scope.{known_in}
use Rattle.term_names.proofs.FoundAlone.{term_made, named_meant, macro_meant, symbol_meant}
use Rattle.term_names.proofs.NamedUses.{answers}
use Rattle.term_names.proofs.using.use_alone.Goals as goal

pub returns-in-Term-clause-makes : goal.returns-in-Term-clause-makes
returns-in-Term-clause-makes c =
    λ p m scope lets found.
    answers c.args.tables.now.symbols.now c.args.terms.now _ _
    (term_made c.args.tables.now.symbols.now c.args.terms.now (known_in c.args.tables.now.settings.now c.args.tables.now.names.now) p c.in-Term.value m (rw c.in-Term.is at found))

pub use_named-requires : goal.use_named-requires
use_named-requires c =
    let (p, m, scope, lets, found) = c.requires.found in
    record {
      named = (
        p,
        m,
        scope,
        lets,
        named_meant c.args.tables.now.symbols.now c.args.terms.now (known_in c.args.tables.now.settings.now c.args.tables.now.names.now) p c.in-Named.which c.named_at-named.result.now m
            c.named_at-named.ensures (rw c.in-Named.is at found),
      );
    }

pub returns-in-Named-clause-makes : goal.returns-in-Named-clause-makes
returns-in-Named-clause-makes c =
    λ p m scope lets found.
    c.use_named.ensures.makes p m scope lets
    (named_meant c.args.tables.now.symbols.now c.args.terms.now (known_in c.args.tables.now.settings.now c.args.tables.now.names.now) p c.in-Named.which c.named_at-named.result.now m
    c.named_at-named.ensures (rw c.in-Named.is at found))

pub returns-in-Macro-clause-makes : goal.returns-in-Macro-clause-makes
returns-in-Macro-clause-makes c =
    λ p m scope lets found.
    answers c.args.tables.now.symbols.now c.args.terms.now _ _
    (c.macro_alone.ensures c.args.tables.now.symbols.now c.args.terms.now m
    (macro_meant c.args.tables.now.symbols.now c.args.terms.now (known_in c.args.tables.now.settings.now c.args.tables.now.names.now) p c.in-Macro.which c.macro_at.result.now m
    c.macro_at.ensures (rw c.in-Macro.is at found)))

pub returns-in-Symbol-clause-makes : goal.returns-in-Symbol-clause-makes
returns-in-Symbol-clause-makes c =
    λ p m scope lets found.
    answers c.args.tables.now.symbols.now c.args.terms.now _ _
    (c.symbol_alone.ensures c.args.terms.now m
    (symbol_meant c.args.tables.now.symbols.now c.args.terms.now (known_in c.args.tables.now.settings.now c.args.tables.now.names.now) p c.in-Symbol.leaf m (rw c.in-Symbol.is at found)))
