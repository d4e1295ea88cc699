use Rattle.std.proofs.Common.{sym, ◌∙◌}
use Rattle.problem_text.specs.Names.{meaning_of}
use Rattle.term_expansion.specs.SymbolsAndTerms.{both}
use Rattle.term_names.specs.Scope.{known_in}
use Rattle.text_items.specs.Stepping.{name_in}
use Rattle.term_reader.proofs.AtomLemmas.{found_named, none_means, head_found}
use Rattle.term_reader.proofs.atoms.head_at.Goals as goal

pub returns-then-is_unknown : goal.returns-then-is_unknown
returns-then-is_unknown c =
    λ v sc p stands.
    let found = found_named c.args.symbols.now v (known_in c.args.settings.now c.args.reader.now.names) p sc (name_in c.args.items.now c.args.k)
    c.find-found.result c.name_of.result.now c.name_of.ensures (c.find-found.ensures v sc p stands.script stands.scope) in
    none_means c.args.symbols.now v (known_in c.args.settings.now c.args.reader.now.names) p c.find-found.result
    (meaning_of p sc (name_in c.args.items.now c.args.k).name) (sym c.is_unknown.ensures ∙ c.if-is_unknown.true) found

pub returns : goal.returns
returns c =
    λ v sc p stands.
    let found = found_named c.args.symbols.now v (known_in c.args.settings.now c.args.reader.now.names) p sc (name_in c.args.items.now c.args.k)
    c.find-found.result c.name_of.result.now c.name_of.ensures (c.find-found.ensures v sc p stands.script stands.scope) in
    head_found c.args.symbols.now v (known_in c.args.settings.now c.args.reader.now.names) p c.find-found.result
    (meaning_of p sc (name_in c.args.items.now c.args.k).name) c.head_of.result (sym c.is_unknown.ensures ∙ c.if-is_unknown.false) found
    (λ m is. c.head_of.ensures.means (both c.args.symbols.now v) (known_in c.args.settings.now c.args.reader.now.names) p m is)
