-- Rows that were kept, with one more.
use Rattle.std.proofs.Common.{◌≡◌, ◌⊎◌, inl, inr, ℕ, List, sym, subst, slice_get, Some}
use Rattle.std.specs.Prelude.{slice_range}
use Rattle.problem_text.specs.Names.{Place}
use Rattle.problem_text.specs.Scripts.{Script}
use Rattle.term_expansion.specs.SymbolsAndTerms.{SymbolsAndTerms}
use Rattle.term_reader.specs.Lately.{IsRight, AreRight, IsRow, AreRows, IsPut}
use Rattle.term_reader.specs.declared.lately.Row.{Row}

pub rows_put : (text : List ℕ) (stamp : ℕ) (old new : List Row) (row : Row) → IsPut old row new → AreRows text stamp old → IsRow text stamp row → AreRows text stamp new
rows_put text stamp old new row put are is k r here = go (put k r here)
  where
    go : ((j : ℕ) × (slice_get old j ≡ Some r)) ⊎ (r ≡ row) → IsRow text stamp r
    go (inl before) = are before.0 r before.1
    go (inr same) = subst (IsRow text stamp) (sym same) is

pub right_put : (w : SymbolsAndTerms) (p : Place) (sc : Script) (text : List ℕ) (stamp : ℕ) (old new : List Row) (row : Row) → IsPut old row new
    → AreRight w p sc (record { text = text; rows = old; stamp = stamp }) → IsRight w p sc (slice_range text row.start row.end) row.value
    → AreRight w p sc (record { text = text; rows = new; stamp = stamp })
right_put w p sc text stamp old new row put are is k r here now = go (put k r here)
  where
    go : ((j : ℕ) × (slice_get old j ≡ Some r)) ⊎ (r ≡ row) → IsRight w p sc (slice_range text r.start r.end) r.value
    go (inl before) = are before.0 r before.1 now
    go (inr same) = subst (λ (q : Row). IsRight w p sc (slice_range text q.start q.end) q.value) (sym same) is
