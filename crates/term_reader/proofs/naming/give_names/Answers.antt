use Rattle.std.proofs.Common.{ap, sym, subst, List, ℕ}
use Rattle.text_items.specs.ItemShapes.{Name}
use Rattle.sym_table.proofs.Tables.{keeps_table}
use Rattle.term_expansion.specs.Free.{AreFreeLeaves}
use Rattle.rule_model.specs.Replacement.{free_variables}
use Rattle.problem_text.specs.Terms.{with_names}
use Rattle.term_names.specs.Scope.{known_in}
use Rattle.term_reader.proofs.NamesLeft.{where_none}
use Rattle.term_reader.proofs.Staying.{adds_none, value_stays, script_stays}
use Rattle.term_reader.proofs.naming.give_names.Goals as goal

pub returns-then-is_none-clause-given : goal.returns-then-is_none-clause-given
returns-then-is_none-clause-given c =
    λ t sc value is.
    let none = where_none c.next_name.result _ c.if-is_none.ensures c.next_name.ensures.none in
    (sc, ap (λ (ns : List Name). with_names t ns sc) none, is)

pub returns-clause-given : goal.returns-clause-given
returns-clause-given c =
    λ t sc value is.
    let s = c.args.symbols.now in
    let old = c.args.terms.now in
    let new = c.free_leaves.new.terms in
    let keeps = c.free_leaves.ensures.keeps in
    c.give_each.ensures.given s new t sc
    (record {
      value = value_stays s s old new (keeps_table s) keeps c.args.value t value;
      low = c.requires.low;
      free = subst (λ (leaves : List ℕ). AreFreeLeaves s leaves (free_variables t.tree)) (sym c.deref.ensures.value) (c.in_ok-free.ensures.free t value);
    })
    (script_stays s s old new (adds_none s) keeps (known_in c.args.settings.now c.args.names.now) sc is)
