-- Private. A term's reference as that of what is below its leading `not`s, and how many these are.
use Rattle.std.specs.Prelude.{◌≡◌, ◌≢◌, ◌⊎◌, ◌<◌, ◌≤◌, ◌^◌, ℕ, List, Option, Contains}
use Rattle.std.specs.Option.{unwrap_or}
use Rattle.sym_table.specs.Table.{Table}
use Rattle.term_model.specs.Terms.{Term, not_of}
use Rattle.term_pool.specs.Nots.{negated}
use Rattle.term_pool.specs.Views.{TermsView, IsTerm, RefersTo}
use Rattle.elab_resolution.specs.declared.counting.Counted.{Counted}

-- so many `not`s above what the reference stands for are the term
pub record IsAbove (s : Table) (v : TermsView) (t : Term) (bare nots : ℕ) : Type 0 where
  pub inner : Term
  pub refers : RefersTo s v bare inner
  pub whole : t ≡ negated nots inner

-- and that is no negation
pub record IsCounted (s : Table) (v : TermsView) (t : Term) (bare nots : ℕ) : Type 0 where
  pub above : IsAbove s v t bare nots
  pub none : (u : Term) → above.inner ≢ not_of u

pub record IsCountOf (s : Table) (v : TermsView) (r : ℕ) (x : Counted) : Type 0 where
  pub few : x.nots < 2 ^ 31
  pub counted : (t : Term) → RefersTo s v r t → IsCounted s v t x.bare x.nots

-- how many `not`s stand above a bare term at most
abbrev pub top_in : (ℕ → Option ℕ) → ℕ → ℕ
top_in tops bare = unwrap_or (tops bare) 0

-- none of the literals has more, and one of them has as many, where there are some
pub record AreTops (counted : List Counted) (tops : ℕ → Option ℕ) : Type 0 where
  pub most : (x : Counted) → Contains counted x → x.nots ≤ top_in tops x.bare
  pub some : (bare : ℕ) → (top_in tops bare ≡ 0) ⊎ Contains counted (record { bare = bare; nots = top_in tops bare })

-- what stands below the `not`s of a literal is a term, and no negation
pub record IsBare (s : Table) (v : TermsView) (x : Counted) : Type 0 where
  pub known : IsTerm s v x.bare
  pub none : (t u : Term) → RefersTo s v x.bare t → t ≢ not_of u
