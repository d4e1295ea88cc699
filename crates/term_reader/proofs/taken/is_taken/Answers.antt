use Rattle.std.proofs.Common.{ap, ◌∙◌, sym, ◌||◌, Bool, is_some}
use Rattle.problem_text.specs.Words.{is_among}
use Rattle.term_names.specs.Scope.{known_in}
use Rattle.term_reader.proofs.GivenNames.{entry_where_taken}
use Rattle.term_reader.proofs.taken.is_taken.Goals as goal

pub returns-else-is_built_in : goal.returns-else-is_built_in
returns-else-is_built_in c s v sc is =
    c.is_some.ensures
    ∙ (ap is_some c.entry.ensures.entry
    ∙ (entry_where_taken s v (known_in c.args.settings.now c.args.names.now) sc c.args.name.now is
    ∙ ap (λ (b : Bool). b || is_among sc.taken c.args.name.now) (sym c.if-is_built_in.false ∙ c.is_built_in.ensures)))
