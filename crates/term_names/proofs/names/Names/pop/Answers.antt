-- The next outer variable of the name is its innermost now.
use Rattle.std.proofs.Common.{◌∙◌, [], ◌∷◌, ap, sym, reverse}
use Rattle.std.proofs.lemmas.List.{reverse-append}
use Rattle.term_names.specs.Held.{scoped, scoped_held}
use Rattle.term_names.specs.NameTable.{NameTableView}
use Rattle.term_names.specs.Scope.{OwnNames}
use Rattle.term_names.proofs.names.Names.pop.Goals as goal

pub returns-clause-scope : goal.returns-clause-scope
returns-clause-scope c =
    let popped = rw c.unwrap-held.ensures at c.pop.ensures.items in (
      scoped_held c.self.inside.own.table.names c.unwrap-held.result,
      sym (ap (λ (n : OwnNames). n.scope) c.self.view_is)
          ∙ ap (scoped c.self.inside.own.table.names) (ap reverse popped ∙ reverse-append c.pop.new.self.items (c.unwrap-held.result ∷ []))
          ∙ ap (λ (t : NameTableView). scoped_held c.self.inside.own.table.names c.unwrap-held.result ∷ scoped t.names (reverse c.pop.new.self.items)) (sym c.set_innermost.ensures),
    )
