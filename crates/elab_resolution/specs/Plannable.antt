-- Private. A step over numbers: what a plan needs, and what it comes to.
use Rattle.std.specs.Prelude.{◌≡◌, ◌<◌, ◌^◌, ℕ, List, length, map, All}
use Rattle.std.specs.Borrow.{Bor}
use Rattle.sym_table.specs.Table.{Table}
use Rattle.term_model.specs.Terms.{Term}
use Rattle.term_parts.specs.Judging.{ReferToClauses}
use Rattle.term_pool.specs.Views.{TermsView, RefersTo, ReferToAll}
use Rattle.chain_plan.specs.Towers.{AreNumbered, AreTowers, IsLiteral, nots_at, terms_of}
use Rattle.chain_plan.specs.Trails.{FollowsBy}
use Rattle.clause_chain.specs.Chaining.{clauses_of}
use Rattle.rules_resolution.specs.Trace.{Trace}
use Rattle.elab_resolution.specs.Levels.{numbered, truth_term}
use Rattle.elab_resolution.specs.Loaded.{reference_or}
use Rattle.elab_resolution.specs.Spellings.{IsNearTo, leading_nots, roots_of}
use Rattle.elab_resolution.specs.declared.loading.OverNumbers.{OverNumbers}

-- the references stand for the clauses of some premises and for a clause
pub record ReferToStep (s : Table) (v : TermsView) (premises : List (Bor (List ℕ))) (clause : List ℕ) : Type 0 where
  pub given : List (List Term)
  pub given_refer : ReferToClauses s v premises given
  pub goal : List Term
  pub goal_refer : ReferToAll s v clause goal

-- the numbers are those of terms, and the clauses over numbers are those of these terms
pub record IsLoaded (s : Table) (v : TermsView) (ps : List (List Term)) (ts : List Term) (clause : List ℕ) (l : OverNumbers) : Type 0 where
  pub terms : List Term
  pub refer : ReferToAll s v l.refs.items terms
  pub truth : RefersTo s v l.truth truth_term
  pub towers : AreTowers l.spellings
  pub named : AreNumbered l.spellings (numbered terms)
  pub few : length l.spellings.nots < 2 ^ 32
  pub given : map (terms_of (numbered terms)) (clauses_of l.given.items) ≡ ps
  pub goal : terms_of (numbered terms) l.goal.items ≡ ts
  pub clause_is : map (λ x. reference_or l.refs.items l.truth x.term) l.goal.items ≡ clause
  pub literals : All (λ c. All (IsLiteral l.spellings) c.items) l.given.items
  pub goal_literals : All (IsLiteral l.spellings) l.goal.items
  pub nots : (k : ℕ) → k < length l.spellings.nots → leading_nots (numbered terms k) ≡ nots_at l.spellings k
  pub spelled : All (IsNearTo (roots_of ps ts)) terms

-- the step over numbers follows as the trail shows
pub record IsPlannable (l : OverNumbers) (trail : Trace) : Type 0 where
  pub towers : AreTowers l.spellings
  pub few : length l.spellings.nots < 2 ^ 32
  pub short : length l.given.items < 2 ^ 32
  pub literals : All (λ c. All (IsLiteral l.spellings) c.items) l.given.items
  pub goal_literals : All (IsLiteral l.spellings) l.goal.items
  pub follows : FollowsBy l.spellings (clauses_of l.given.items) l.goal.items trail.units trail.last
