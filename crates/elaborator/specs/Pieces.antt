-- Public. The steps that are made for the commands of a proof, by chunks of 64 commands in file order, the last one those that are left;
-- and what is done to the terms meanwhile.
use Rattle.std.specs.Prelude.{◌≡◌, ◌+◌, ◌-◌, ◌*◌, ◌/◌, ℕ, List, length, map, min, slice_get, Some, Vec}
use Rattle.std.specs.declared.alloc.Global.{Global}
use Rattle.proof_store.specs.AddedSteps.{AddedStep}
use Rattle.sym_table.specs.Table.{Table}
use Rattle.term_model.specs.Terms.{Term}
use Rattle.term_pool.specs.Placing.{PlacesCellsOf}
use Rattle.term_pool.specs.Views.{TermsView, KeepsTerms}

-- how many chunks so many commands make
abbrev pub chunks_of : ℕ → ℕ
chunks_of commands = (commands + 63) / 64

-- how many of so many commands chunk k has
abbrev pub size_of_chunk : ℕ → ℕ → ℕ
size_of_chunk commands k = min 64 (commands - 64 * k)

-- there are so many blocks, and this is said of each by its command's index
pub record AreMadeBy (says : ℕ → List AddedStep → Type 0) (count : ℕ) (blocks : List (List AddedStep)) : Type 0 where
  pub count_is : length blocks ≡ count
  pub each : (i : ℕ) (block : List AddedStep) → slice_get blocks i ≡ Some block → says i block

-- the piece has a block for each command of chunk k, of so many commands, and this is said of each by its command's index
abbrev pub IsPieceOf : (ℕ → List AddedStep → Type 0) → ℕ → ℕ → Vec (Vec AddedStep Global) Global → Type 0
IsPieceOf says commands k piece =
    AreMadeBy (λ i block. says (64 * k + i) block) (size_of_chunk commands k) (map (λ (block : Vec AddedStep Global). block.items) piece.items)

-- what was known is kept, and cells were placed only of terms that are wanted
pub record PlacesOnly (s : Table) (wanted : TermsView → Term → Type 0) (old new : TermsView) : Type 0 where
  pub keeps : KeepsTerms old new
  pub placed : PlacesCellsOf s old.pass new.pass (wanted new)
