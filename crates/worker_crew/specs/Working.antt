-- Private. What a worker does to the terms and to its seat, and how the parts of workers are joined.
use Rattle.std.specs.Prelude.{◌≡◌, ◌+◌, ◌≤◌, ◌++◌, ℕ, [], true, List, map, All, Result, Ok, Vec, IfOk, IfErr}
use Rattle.std.specs.declared.alloc.Global.{Global}
use Rattle.std.specs.List.Sorted.{IsPermutation, IsNonDecreasingBy}
use Rattle.step_claimer.specs.Claims.{ClaimerView, SeatView, IsSeatOf}
use Rattle.sym_table.specs.Table.{Table}
use Rattle.term_model.specs.Terms.{Term}
use Rattle.term_parts.specs.declared.answers.RuleStop as Stops
use Rattle.term_parts.specs.declared.answers.RuleStop.TheVariants as RuleStop
use Rattle.pair_pool.specs.Views.{Grows}
use Rattle.term_pool.specs.Halves.{AreHalves}
use Rattle.term_pool.specs.Placing.{PlacesCellsOf, LacksCellOf}
use Rattle.term_pool.specs.Views.{TermsView, KeepsTerms}

-- what workers return: pieces with the numbers of their chunks, or why one was refused
abbrev pub Returned : Type 0 → Type 0
Returned P = Result (Vec (ℕ × P) Global) Stops.RuleStop

-- these are the pieces of the chunks of these numbers, in the same order
pub record AreDone {P : Type 0} (says : ℕ → P → Type 0) (numbers : List ℕ) (pieces : List (ℕ × P)) : Type 0 where
  pub are : map (λ (p : ℕ × P). p.0) pieces ≡ numbers
  pub say : All (λ (p : ℕ × P). says p.0 p.1) pieces

-- the pieces of these pairs, in the order of the numbers beside them
pub record AreInOrder {P : Type 0} (pieces : List (ℕ × P)) (all : List P) : Type 0 where
  pub ordered : List (ℕ × P)
  pub same : IsPermutation pieces ordered
  pub ascending : IsNonDecreasingBy (λ (p : ℕ × P). p.0) ordered
  pub are : all ≡ map (λ (p : ℕ × P). p.1) ordered

-- a worker with these terms and this seat, which drew nothing, can begin
pub record IsReady (fits : TermsView → Type 0) (count : ℕ) (claimer : ClaimerView) (terms : TermsView) (seat : SeatView) : Type 0 where
  pub can : fits terms
  pub numbers : claimer.count ≡ count
  pub of_claimer : IsSeatOf claimer seat
  pub fresh : seat.numbers ≡ []

-- what was known is kept, and cells were placed only of terms that are wanted
pub record IsWork (s : Table) (wanted : TermsView → Term → Type 0) (old new : TermsView) : Type 0 where
  pub keeps : KeepsTerms old new
  pub placed : PlacesCellsOf s old.pass new.pass (wanted new)

-- there was no room for a cell of a term that is wanted, where this was returned
abbrev pub LacksRoomAt : {A : Type 0} → Table → (TermsView → Term → Type 0) → TermsView → Result A Stops.RuleStop → Type 0
LacksRoomAt s wanted new result = IfErr result (λ stop. stop ≡ RuleStop.PoolFull → LacksCellOf s new.pass (wanted new))

-- What was done from some terms and a seat on: the pieces of the numbers that the seat then has, which has ended, unless a
-- chunk was refused.
pub record IsDone {P : Type 0} (s : Table) (wanted : TermsView → Term → Type 0) (says : TermsView → ℕ → P → Type 0) (claimer : ClaimerView)
    (old : TermsView) (count : ℕ) (new : TermsView) (seat : SeatView) (result : Returned P) : Type 0 where
  pub work : IsWork s wanted old new
  pub of_claimer : IsSeatOf claimer seat
  pub shares : seat.shares ≡ count
  pub pieces : IfOk result (λ (pieces : Vec (ℕ × P) Global). AreDone (says new) seat.numbers pieces.items × (seat.ended ≡ true))
  pub full : LacksRoomAt s wanted new result

-- both were made, and these are the pieces of the one and then of the other
pub record AreOfBoth {P : Type 0} (mine theirs : Returned P) (all : List (ℕ × P)) : Type 0 where
  pub one : Vec (ℕ × P) Global
  pub other : Vec (ℕ × P) Global
  pub first : mine ≡ Ok one
  pub second : theirs ≡ Ok other
  pub are : all ≡ one.items ++ other.items

-- the same terms by a pass with so many shares
abbrev pub with_shares : TermsView → ℕ → TermsView
with_shares v k = record {
  pool = v.pool;
  pass = record { places = v.pass.places; shares = k; seen = v.pass.seen; known = v.pass.known; placed = v.pass.placed };
}

-- the part was split from these terms, however many shares they had then
abbrev pub IsPartOf : TermsView → TermsView → Type 0
IsPartOf start part = (k : ℕ) → 1 ≤ k → AreHalves (with_shares start (k + 1)) (with_shares start k) part

-- a worker with these terms and this seat has done nothing yet
pub record IsNewWorker (start : TermsView) (claimer : ClaimerView) (terms : TermsView) (seat : SeatView) : Type 0 where
  pub part : IsPartOf start terms
  pub pool : terms.pool ≡ start.pool
  pub known : Grows start.pass terms.pass
  pub of_claimer : IsSeatOf claimer seat
  pub fresh : seat.numbers ≡ []
  pub share : seat.shares ≡ 1

-- a worker that had a part of some terms did this
pub record IsDoneByPart {P : Type 0} (s : Table) (wanted : TermsView → Term → Type 0) (says : TermsView → ℕ → P → Type 0) (claimer : ClaimerView)
    (start new : TermsView) (seat : SeatView) (result : Returned P) : Type 0 where
  pub part : TermsView
  pub is_part : IsPartOf start part
  pub done : IsDone s wanted says claimer part 1 new seat result
