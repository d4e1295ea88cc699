-- A variable, and what is put in for it.
use Rattle.std.proofs.Common.{ℕ, List, [], ◌∷◌, ◌<◌, ◌^◌}
use Rattle.pair_pool.specs.Trees.{leaf}
use Rattle.pair_pool.specs.Views.{Knows}
use Rattle.sym_table.specs.Leaf as Leaf
use Rattle.sym_table.specs.Table.{Table, IsLeaf}
use Rattle.term_model.specs.declared.symbols.Sort.{Sort}
use Rattle.term_model.specs.Terms.{variable}
use Rattle.term_pool.specs.Views.{TermsView, IsTerm}
use Rattle.contexts.specs.PutIn.{AreReplacementBy}
use Rattle.bench_parts.specs.Applications.{IsVariable, KeepsReferences}

pub is_variable : (s : Table) (k : ℕ) (name : List ℕ) (sort : Sort) → IsLeaf s k (Leaf.variable name sort) → k < 2 ^ 30 → IsVariable s k
is_variable s k name sort is low = record { variable = record { name = name; sort = sort }; leaf = is; small = low }

pub variable_is_term : (s : Table) (v : TermsView) (r k : ℕ) → IsVariable s k → Knows v.pass r (leaf k) → IsTerm s v r
variable_is_term s v r k h known = record {
  means = variable h.variable;
  refers = record { tree = leaf k; known = known; stands = h.leaf };
}

pub is_replacement : (s : Table) (v : TermsView) (k r : ℕ) → IsVariable s k → IsTerm s v r → AreReplacementBy s v ((k, r) ∷ [])
is_replacement s v k r h value = record { means = (h.variable, value.means) ∷ []; are = (record { variable = h.leaf; term = value.refers }, tt) }

pub stays : (s : Table) (old new : TermsView) (r : ℕ) → KeepsReferences old new → IsTerm s old r → IsTerm s new r
stays s old new r keeps h = record { means = h.means; refers = keeps s r h.means h.refers }
