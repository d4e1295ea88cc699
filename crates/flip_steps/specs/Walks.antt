-- Private. What a walk over terms has yet to visit: a term is opened, then its arguments are visited, then it is closed.
use Rattle.std.specs.Prelude.{◌≡◌, ◌<◌, ◌+◌, ◌⊎◌, ℕ, List, [], ◌∷◌, ◌++◌, map, None, sum_by, Contains}
use Rattle.std.specs.List.{AllByRecursion}
use Rattle.std.specs.Option.{option_map_or}
use Rattle.sym_table.specs.Table.{Table}
use Rattle.term_model.specs.Heights.{height}
use Rattle.term_model.specs.Terms.{Term, numeral, variable, operation, call, let_in, Terms, no_terms, term}
use Rattle.term_pool.specs.CellCounts.{Has}
use Rattle.term_pool.specs.Decoding.{term_at}
use Rattle.term_pool.specs.Reading.{IsLet, arguments_of}
use Rattle.term_pool.specs.Views.{TermsView, IsTerm, RefersTo, ReferToAll}
use Rattle.proof_store.specs.AddedSteps.{AddedStep}
use Rattle.flip_steps.specs.declared.forms.Forms.{Forms}
use Rattle.flip_steps.specs.declared.visits.Visit.{Visit}
use Rattle.equality_steps.specs.declared.site.Site.{Site}
use Rattle.flip_steps.specs.declared.forms.Formed.{Formed}
use Rattle.flip_steps.specs.Memory.{IsCellWithin, IsFormedAs, IsRemembered}
use Rattle.flip_steps.specs.Remembering.{AreArgumentsSettled, GrowsBy, IsApplicationAt, IsSettled, Notes, alone, found_in}
use Rattle.flip_steps.specs.Stages.{IsMadeAt}
use Rattle.flip_steps.specs.Subterms.{IsWithin}

-- the reference of the term that is visited
abbrev pub visited : Visit → ℕ
visited (Visit.Open r) = r
visited (Visit.Close r) = r

-- Over how high references are, which references are arguments of which, and what has been met: the term has been opened and
-- has not been met, what stands behind it is lower, and each argument has been met or is yet to be visited there.
pub record IsOpened (level : ℕ → ℕ) (IsArgument : ℕ → ℕ → Type 0) (Met : ℕ → Type 0) (r : ℕ) (above : List Visit) : Type 0 where
  pub unmet : Met r → ⊥
  pub lower : AllByRecursion (λ x. level (visited x) < level r) above
  pub arguments : (q : ℕ) → IsArgument r q → Met q ⊎ Has (map visited above) q

abbrev pub IsInOrder : (ℕ → ℕ) → (ℕ → ℕ → Type 0) → (ℕ → Type 0) → List Visit → Type 0
IsInOrder level IsArgument Met [] = Unit {0}
IsInOrder level IsArgument Met (Visit.Open r ∷ above) = IsInOrder level IsArgument Met above
IsInOrder level IsArgument Met (Visit.Close r ∷ above) = IsOpened level IsArgument Met r above × IsInOrder level IsArgument Met above

-- how high the term of a reference is
abbrev pub level_at : Table → TermsView → ℕ → ℕ
level_at s v r = option_map_or height (term_at s v r) 0

-- the one stands for an argument of the other
pub record IsArgumentAt (s : Table) (v : TermsView) (r q : ℕ) : Type 0 where
  pub whole : Term
  pub refers : RefersTo s v r whole
  pub part : Term
  pub part_refers : RefersTo s v q part
  pub is : Contains (arguments_of whole) part

-- what a visit has yet to do: a first one has two turns, and those of the arguments
abbrev mutual
  pub turns : Term → ℕ
  turns (numeral n) = 2
  turns (variable x) = 2
  turns (operation op ts) = 2 + turns_of ts
  turns (call f ts) = 2 + turns_of ts
  turns (let_in bs t) = 2

  pub turns_of : Terms → ℕ
  turns_of no_terms = 0
  turns_of (term t ts) = turns t + turns_of ts

abbrev pub turns_at : Table → TermsView → Visit → ℕ
turns_at s v (Visit.Open r) = option_map_or turns (term_at s v r) 1
turns_at s v (Visit.Close r) = 1

abbrev pub turns_left : Table → TermsView → List Visit → ℕ
turns_left s v visits = sum_by (turns_at s v) visits

-- a let is never closed
abbrev pub MayBeVisited : Visit → Term → Type 0
MayBeVisited (Visit.Open r) t = Unit {0}
MayBeVisited (Visit.Close r) t = IsLet t → ⊥

-- the term that is visited stands in another, outside lets
pub record IsSpot (s : Table) (v : TermsView) (whole : Term) (x : Visit) : Type 0 where
  pub term : Term
  pub refers : RefersTo s v (visited x) term
  pub within : IsWithin whole term
  pub may : MayBeVisited x term

-- a first visit: its form is known; or it is a let, which is its own form; or its last visit and those of its arguments are put on
pub data IsFirstVisit (s : Table) (v : TermsView) (r : ℕ) (old new : Forms) (before after : List Visit) : Type 0 where
  was_known : IsSettled old r → new ≡ old → after ≡ before → IsFirstVisit s v r old new before after
  was_let : (t : Term) → RefersTo s v r t → IsLet t → Notes old new r (alone r) → after ≡ before → IsFirstVisit s v r old new before after
  was_opened : (t : Term) (args : List ℕ) → RefersTo s v r t → (IsLet t → ⊥) → ReferToAll s v args (arguments_of t) →
      found_in old r ≡ None → new ≡ old → after ≡ before ++ Visit.Close r ∷ map (λ q. Visit.Open q) args → IsFirstVisit s v r old new before after

-- what is remembered now, and was not before, are cells within the term of the reference
abbrev pub MeetsFrom : Table → TermsView → ℕ → Forms → Forms → Type 0
MeetsFrom s v root old new = (r : ℕ) → IsRemembered new r → IsRemembered old r ⊎ IsCellWithin s v root r

-- what is asked for a visit
abbrev pub IsVisitable : Site → TermsView → Forms → Visit → Type 0
IsVisitable p v forms (Visit.Open r) = IsTerm p.symbols.now v r
IsVisitable p v forms (Visit.Close r) = IsApplicationAt p v r × AreArgumentsSettled p.symbols.now v forms r × (found_in forms r ≡ None)

-- a visit has been made: of the terms that are known, the steps, what is remembered, and what is yet to be visited, as it was and as it is
pub data IsVisit (p : Site) (v w : TermsView) (old new : List AddedStep) (before after : Forms) (xs ys : List Visit) : Visit → Type 0 where
  was_first : (r : ℕ) → w ≡ v → new ≡ old → IsFirstVisit p.symbols.now v r before after xs ys → IsVisit p v w old new before after xs ys (Visit.Open r)
  was_last : (r : ℕ) (x : Formed) → IsFormedAs p w new r x → Notes before after r x → GrowsBy p w old new (IsMadeAt p.symbols.now w r) 3 → ys ≡ xs →
      IsVisit p v w old new before after xs ys (Visit.Close r)
