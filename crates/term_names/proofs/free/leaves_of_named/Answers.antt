-- A term with a name has the free variables that are kept for the name.
use Rattle.std.proofs.Common.{◌∙◌, sym, ap, subst, Option, Some}
use Rattle.std.proofs.lemmas.Bool.{eqb-true}
use Rattle.term_names.specs.Standing.{IsNameMeant}
use Rattle.term_names.specs.declared.names.KnownEntry.{KnownEntry}
use Rattle.term_names.specs.Scope.{known_in}
use Rattle.term_names.proofs.Gathering.{named-adds}
use Rattle.term_names.proofs.free.leaves_of_named.Goals as goal
use Rattle.term_expansion.specs.SymbolsAndTerms.{both}

pub returns-then-eq : goal.returns-then-eq
returns-then-eq c = λ t refers.
    let s = c.args.tables.now.symbols.now in
    let v = c.args.terms.now in
    let sc = c.requires.0 in
    let script = c.requires.1 in
    let meant = subst (λ (o : Option KnownEntry). IsNameMeant (both s v) (known_in c.args.tables.now.settings.now c.args.tables.now.names.now) sc c.in_ok-name.name.now o)
    (sym c.in_ok-which.ensures.entry ∙ ap Some c.in-Named.is) (script.names c.in_ok-name.name.now) in
    rw c.deref.ensures.value
    (named-adds s v (known_in c.args.tables.now.settings.now c.args.tables.now.names.now) sc c.in_ok-name.name.now c.in-Named.which c.named_at-named.result.now c.args.r t c.named_at-named.ensures meant
    (c.equal_exactly_where_terms_are.ensures s c.leaves_differ.ensures.table) (eqb-true c.named_at-named.result.now.value.term c.args.r (sym c.eq.ensures ∙ c.if-eq.true)) refers)
