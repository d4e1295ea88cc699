-- Private. Where the keys of variables and numerals stand among all keys.
use Rattle.std.specs.Prelude.{◌≡◌, ℕ, List, length, slice_get, slice_index_or, false, Some}
use Rattle.sym_table.specs.declared.cells.Symbol.{Symbol}
use Rattle.sym_table.specs.Cells.{is_function_key}

-- each key that is found has its place, and each key that is no function is found
pub record ArePlaced (all found : List Symbol) (places : List ℕ) : Type 0 where
  pub one_each : length places ≡ length found
  pub placed : (i : ℕ) (key : Symbol) → slice_get found i ≡ Some key → slice_get all (slice_index_or places i 0) ≡ Some key
  pub complete : (k : ℕ) (key : Symbol) → slice_get all k ≡ Some key → is_function_key key ≡ false → (i : ℕ) × (slice_get found i ≡ Some key)
