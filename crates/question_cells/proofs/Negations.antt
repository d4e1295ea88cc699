-- A negation adds two cells to those of the term.
use Rattle.std.proofs.Common.{◌+◌, ◌*◌, ℕ, List, [], ◌∷◌, ◌++◌, map, length, Contains, arith}
use Rattle.std.proofs.lemmas.List.Elements.{Contains-append_right}
use Rattle.sym_table.specs.Leaf.{nil, operator}
use Rattle.term_model.specs.declared.symbols.Op.{Op}
use Rattle.term_model.specs.Terms.{Term, not_of}
use Rattle.term_model.proofs.Lists.{contains_later, contains_head}
use Rattle.question_cells.specs.SymbolTrees.{symbol, pair, tree_of, HasCells, HaveFewCells}
use Rattle.question_cells.proofs.Membership.{all_have}
use Rattle.question_cells.proofs.ReadCells.{all_more, has_more, pair_cells}

pub negations : (terms ts : List Term) (n : ℕ) → HaveFewCells terms n → ((t : Term) → Contains ts t → Contains terms t)
    → HaveFewCells (map not_of ts ++ terms) (n + 2 * length ts)
negations terms [] n have among = record { cells = have.cells; few = let h = have.few in omega (arith, h); each = have.each }
negations terms (t ∷ ts) n have among =
    let rest = negations terms ts n have (λ u there. among u (contains_later t u ts there)) in
    let there : Contains (map not_of ts ++ terms) t = Contains-append_right (map not_of ts) terms t (among t (contains_head t ts)) in
    let own : HasCells rest.cells (tree_of t) = all_have (λ u. HasCells rest.cells (tree_of u)) (map not_of ts ++ terms) t rest.each there in
    let list = pair (tree_of t) (symbol nil) in
    let whole = pair (symbol (operator Op.Not)) list in
    record {
      cells = whole ∷ list ∷ rest.cells;
      few = let h = rest.few in omega (arith, h);
      each = (
        pair_cells (list ∷ rest.cells) (symbol (operator Op.Not)) list tt (pair_cells rest.cells (tree_of t) (symbol nil) own tt),
        all_more (λ u. HasCells rest.cells (tree_of u)) (λ u. HasCells (whole ∷ list ∷ rest.cells) (tree_of u))
            (λ u h. has_more rest.cells (whole ∷ list ∷ rest.cells) (tree_of u) (λ c k. contains_later whole c (list ∷ rest.cells)
            (contains_later list c rest.cells k)) h)
            (map not_of ts ++ terms) rest.each,
      );
    }
