-- Public. Leading negations.
use Rattle.std.specs.Prelude.{◌≡◌, ◌↔◌, ℕ, zero, suc, ◌%◌, Bool, IsTrue}
use Rattle.sym_table.specs.Table.{Table}
use Rattle.term_model.specs.Terms.{Term, not_of}
use Rattle.term_pool.specs.Views.{TermsView, RefersTo}

-- so many negations of a term
abbrev pub negated : ℕ → Term → Term
negated zero t = t
negated (suc n) t = not_of (negated n t)

-- u is what t is without its leading negations, of which there is an odd number where `odd` says so
pub record Strips (t u : Term) (odd : Bool) : Type 0 where
  pub nots : ℕ
  pub whole : t ≡ negated nots u
  pub bare : (v : Term) → u ≡ not_of v → ⊥
  pub parity : IsTrue odd ↔ (nots % 2 ≡ 1)

-- r stands for what t is without its leading negations
pub record IsStripped (s : Table) (v : TermsView) (t : Term) (r : ℕ) (odd : Bool) : Type 0 where
  pub inner : Term
  pub refers : RefersTo s v r inner
  pub strips : Strips t inner odd
