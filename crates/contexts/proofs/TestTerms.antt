-- References that stand for terms, for the tests.
use Rattle.std.proofs.Common.{ℕ, List, [], ◌∷◌, refl}
use Rattle.pair_pool.specs.Trees.{leaf}
use Rattle.pair_pool.specs.Views.{Knows}
use Rattle.sym_table.specs.Leaf.{operator}
use Rattle.sym_table.specs.Leaf as Leaf
use Rattle.sym_table.specs.Table.{Table, IsLeaf}
use Rattle.term_model.specs.declared.symbols.Op.{Op}
use Rattle.term_model.specs.declared.symbols.Sort.{Sort}
use Rattle.term_model.specs.Terms.{Var, Term, Bindings, variable, operation, let_in, no_terms, term, no_bindings, binding}
use Rattle.term_pool.specs.Building.{IsAppliedLeaf, AreBindings}
use Rattle.term_pool.specs.Views.{TermsView, RefersTo, ReferToAll, IsTerm}
use Rattle.contexts.specs.PutIn.{AreReplacementBy}

pub constant_is_term : (s : Table) (v : TermsView) (r k : ℕ) (op : Op) → Knows v.pass r (leaf k) → IsLeaf s k (operator op) → IsTerm s v r
constant_is_term s v r k op known is =
    record { means = operation op no_terms; refers = record { tree = leaf k; known = known; stands = is } }

module _ (s : Table) (x : ℕ) (name : List ℕ) (sort : Sort) (is : IsLeaf s x (Leaf.variable name sort)) where
  abbrev var : Var
  var = record { name = name; sort = sort }

  pub variable_is_term : (v : TermsView) (r : ℕ) → Knows v.pass r (leaf x) → IsTerm s v r
  variable_is_term v r known = record { means = variable var; refers = record { tree = leaf x; known = known; stands = is } }

  pub let_is_term : (old new : TermsView) (r value body : ℕ) → IsTerm s old value → IsTerm s old body → ((s : Table) (bs : Bindings) (u : Term) → AreBindings s old (x ∷ []) (value ∷ []) bs → RefersTo s old body u → RefersTo s new r (let_in bs u)) → IsTerm s new r
  let_is_term old new r value body h k makes = record {
    means = let_in (binding var h.means no_bindings) k.means;
    refers = makes s (binding var h.means no_bindings) k.means (is, h.refers, tt) k.refers;
  }

  pub replaces : (v : TermsView) (value : ℕ) → IsTerm s v value → AreReplacementBy s v ((x, value) ∷ [])
  replaces v value h = record { means = (var, h.means) ∷ []; are = (record { variable = is; term = h.refers }, tt) }

pub negation_is_term : (s : Table) (old new : TermsView) (head r t : ℕ) → IsLeaf s head (operator Op.Not) → IsTerm s old t → ((s : Table) (ts : List Term) (u : Term) → ReferToAll s old (t ∷ []) ts → IsAppliedLeaf s head ts u → RefersTo s new r u) → IsTerm s new r
negation_is_term s old new head r t is h makes = record {
  means = operation Op.Not (term h.means no_terms);
  refers = makes s (h.means ∷ []) (operation Op.Not (term h.means no_terms)) (h.refers, tt) (is, refl);
}
