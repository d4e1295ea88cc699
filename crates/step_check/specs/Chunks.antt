-- Public. The check of a proof by chunks: 64 commands in file order each, and the last one those that are left.
use Rattle.std.specs.Prelude.{◌≡◌, ◌+◌, ◌-◌, ◌*◌, ◌/◌, ℕ, List, length, slice_get, Some, min, flat_map, Vec}
use Rattle.std.specs.declared.alloc.Global.{Global}
use Rattle.sym_table.specs.Table.{Table}
use Rattle.term_model.specs.Terms.{Var, Term}
use Rattle.term_pool.specs.Views.{TermsView, ReferToAll}
use Rattle.rule_model.specs.declared.statuses.Status.{Status}
use Rattle.rule_model.specs.Conditions.{IsClauseOfTruths}
use Rattle.rule_model.specs.Proofs.{ProofItems}
use Rattle.rule_model.specs.Reading.{clause_at}
use Rattle.rule_model.specs.Scopes.{commands_in}
use Rattle.rule_model.specs.Statuses.{IsStatusAt}
use Rattle.rules_resolution.specs.Steps.{IsShort}
use Rattle.proof_store.specs.Meaning.{StandForItems}
use Rattle.term_reader.specs.declared.flags.Flags.{Flags}
use Rattle.step_check.specs.Statuses.{AreAsserted, IsPlacedOf, checking}

-- how many chunks so many commands make
abbrev pub chunks_of : ℕ → ℕ
chunks_of commands = (commands + 63) / 64

-- how many of so many commands chunk k has
abbrev pub size_of_chunk : ℕ → ℕ → ℕ
size_of_chunk commands k = min 64 (commands - 64 * k)

-- What a check asks of a proof over references and of the references of assertions: they stand for a proof and for assertions,
-- no clause and no list of premises has 2^32 items, and literals are terms of Bool.
pub record CanBeChecked (s : Table) (v : TermsView) (rs : List ℕ) (refs : ProofItems ℕ ℕ) : Type 0 where
  pub proof : ProofItems Var Term
  pub stand : StandForItems s v refs proof
  pub asserted : AreAsserted s v rs
  pub short : IsShort refs
  pub sorted : (i : ℕ) → IsClauseOfTruths (clause_at proof i)

-- the statuses of the commands of chunk k, of the proof and with the assertions for which the references stand
pub record AreStatusesOfChunk (flags : Flags) (s : Table) (v : TermsView) (rs : List ℕ) (refs : ProofItems ℕ ℕ) (k : ℕ) (statuses : List Status)
    : Type 0 where
  pub proof : ProofItems Var Term
  pub assertions : List Term
  pub stand : StandForItems s v refs proof
  pub refer : ReferToAll s v rs assertions
  pub count : length statuses ≡ size_of_chunk (commands_in refs) k
  pub each : (i : ℕ) (status : Status) → slice_get statuses i ≡ Some status → IsStatusAt (checking flags assertions) proof (64 * k + i) status

-- the term is one of which the check of the proof may place cells
pub record IsPlacedOfSome (s : Table) (v : TermsView) (refs : ProofItems ℕ ℕ) (t : Term) : Type 0 where
  pub proof : ProofItems Var Term
  pub stand : StandForItems s v refs proof
  pub placed : IsPlacedOf proof t

-- the statuses of all chunks, one behind the other
abbrev pub statuses_in : List (Vec Status Global) → List Status
statuses_in pieces = flat_map (λ piece. piece.items) pieces
