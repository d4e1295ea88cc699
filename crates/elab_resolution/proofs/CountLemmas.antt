-- Leading `not`s of terms and how many there may be.
use Rattle.std.proofs.Common.{◌≡◌, ◌<◌, ◌≤◌, ◌+◌, ◌^◌, ℕ, zero, suc, refl, ◌∙◌, ap, subst, arith}
use Rattle.pair_pool.specs.Trees.{Tree, leaf, cell}
use Rattle.pair_pool.specs.Views.{IsOneToOne, HasPartsOfTrees, HasListsInOrder}
use Rattle.sym_table.specs.Table.{Table}
use Rattle.term_model.specs.Terms.{Term, not_of}
use Rattle.term_parts.specs.Parts.{StandsUnder}
use Rattle.term_pool.specs.Nots.{negated}
use Rattle.term_pool.specs.StandsFor.{StandsFor}
use Rattle.term_pool.specs.Trees.{depth}
use Rattle.term_pool.specs.Views.{TermsView, RefersTo}
use Rattle.term_pool.proofs.Depth.{depth-bound}
use Rattle.elab_resolution.specs.Counted.{IsAbove}

pub negated_inner : (n : ℕ) (t : Term) → negated n (not_of t) ≡ negated (suc n) t
negated_inner zero t = refl
negated_inner (suc n) t = ap not_of (negated_inner n t)

nots_deep : (s : Table) (n : ℕ) (u : Term) (tree : Tree) → StandsFor s tree (negated n u) → n ≤ depth tree
nots_deep s zero u tree h = omega arith
nots_deep s (suc n) u (leaf k) h = absurd h
nots_deep s (suc n) u (cell a (leaf k)) h = absurd h.1
nots_deep s (suc n) u (cell a (cell b c)) h = let ih = nots_deep s n u b h.1.0 in omega arith

-- a term that is known begins with fewer `not`s than there are references
pub nots_few : (s : Table) (v : TermsView) → IsOneToOne v.pass → HasPartsOfTrees v.pass → HasListsInOrder v.pass → (r n : ℕ) (t u : Term) → RefersTo s v r t
    → t ≡ negated n u → n < 2 ^ 31
nots_few s v one parts lists r n t u refers is =
    let deep = nots_deep s n u refers.tree (subst (StandsFor s refers.tree) is refers.stands) in
    let bound = depth-bound v.pass one parts r refers.tree refers.known in
    let size = lists.size in
    omega arith

pub above_start : (s : Table) (v : TermsView) (r : ℕ) (t : Term) → RefersTo s v r t → IsAbove s v t r 0
above_start s v r t refers = record { inner = t; refers = refers; whole = refl }

pub above_more : (s : Table) (v : TermsView) (t : Term) (bare nots inner : ℕ) (h : IsAbove s v t bare nots) → StandsUnder s v inner h.inner
    → IsAbove s v t inner (nots + 1)
above_more s v t bare nots inner h under =
    let next : suc nots ≡ nots + 1 = omega arith in
    record {
      inner = under.inner;
      refers = under.refers;
      whole = h.whole ∙ (ap (negated nots) under.is ∙ (negated_inner nots under.inner ∙ ap (λ n. negated n under.inner) next));
    }
