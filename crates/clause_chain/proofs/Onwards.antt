-- Cited by crates above. A chain through premises, one of them more.
use Rattle.std.proofs.Common.{◌≡◌, ◌≢◌, ◌↔◌, ◌<◌, ◌+◌, ℕ, zero, suc, inl, inr, false, List, [], ◌∷◌, length, take, drop}
use Rattle.std.proofs.Common.{get_or, nat_eq, ◌-◌, refl, sym, ap, subst, Contains, IsTrue, arith}
use Rattle.std.specs.Global.{Vec}
use Rattle.std.specs.List.{list_any}
use Rattle.std.proofs.lemmas.List.{take_all}
use Rattle.std.proofs.lemmas.Bool.{true≢false}
use Rattle.term_model.proofs.Lists.{contains_none, contains_cases, contains_head, contains_later}
use Rattle.rule_model.specs.Resolution.{IsFirstsOf, IsJoined, Joins, JoinAll}
use Rattle.clause_chain.specs.Chaining.{clauses_of}
use Rattle.clause_chain.specs.contracts.signed_term.SignedTermPartialEq.TheImpl as signed
use Rattle.clause_chain.specs.declared.signed_term.SignedTerm.{SignedTerm}
use Rattle.clause_chain.proofs.Keys.{signed_tells}
use Rattle.clause_chain.proofs.Alone.{joined_one, joined_alike}

-- whether an item stands in a list
pub found_tells : (x : SignedTerm) (xs : List SignedTerm) → IsTrue (list_any (λ y. (signed.ghosts).eq y x) xs) ↔ Contains xs x
found_tells x [] = (λ wrong. absurd (true≢false (sym wrong)), λ c. absurd (contains_none x c))
found_tells x (y ∷ ys) =
    let rest = found_tells x ys in
    elim (signed_tells y x) [
      | inl same ↦ rw same.0 (λ yes. rw same.1 (contains_head x ys), λ c. refl)
      | inr other ↦
          rw other.0 (
            λ yes. contains_later y x ys (rest.0 yes),
            λ c. elim (contains_cases y x ys c) [ inl here ↦ absurd (other.1 here) | inr later ↦ rest.1 later ],
          )
    ]

-- a list from a place on
pub drop_one : {X : Type 0} (xs : List X) (k : ℕ) (d : X) → k < length xs → drop k xs ≡ get_or xs k d ∷ drop (k + 1) xs
drop_one [] k d h = absurd (omega (arith, h))
drop_one (x ∷ xs) zero d h = refl
drop_one (x ∷ xs) (suc k) d h = let e : suc k + 1 ≡ suc (k + 1) = omega arith in rw e (drop_one xs k d (omega (arith, h)))

pub drop_whole : {X : Type 0} (xs : List X) (k : ℕ) → length xs ≡ k → drop k xs ≡ []
drop_whole [] zero h = refl
drop_whole [] (suc k) h = refl
drop_whole (x ∷ xs) zero h = absurd (omega (arith, h))
drop_whole (x ∷ xs) (suc k) h = drop_whole xs k (omega (arith, h))

-- what a chain asks from a clause on, when the next premise is joined
pub joins_next : {X : Type 0} (left right next : List X) (premises : List (List X)) (pivot : X × X) (pivots : List (X × X)) (result : List X)
    → IsJoined left right pivot.0 pivot.1 next
    → Joins left (right ∷ premises) (pivot ∷ pivots) result ↔ Joins next premises pivots result
joins_next left right next premises pivot pivots result joined = (
  λ h. subst (λ l. Joins l premises pivots result) (joined_one left right pivot.0 pivot.1 h.0 next h.1 joined) h.2,
  λ h. (next, joined, h),
)

-- a chain from a clause is one from its first occurrences, where a premise is joined
pub joins_alike : (left firsts : List SignedTerm) (premises : List (List SignedTerm)) (pivots : List (SignedTerm × SignedTerm)) (result : List SignedTerm)
    → IsFirstsOf [] left firsts → pivots ≢ []
    → Joins left premises pivots result ↔ Joins firsts premises pivots result
joins_alike left firsts [] [] result f some = absurd (some refl)
joins_alike left firsts (right ∷ premises) [] result f some = absurd (some refl)
joins_alike left firsts [] (pivot ∷ pivots) result f some = (λ h. h, λ h. h)
joins_alike left firsts (right ∷ premises) (pivot ∷ pivots) result f some = (
  λ h. (h.0, (joined_alike left firsts right pivot.0 pivot.1 h.0 f).0 h.1, h.2),
  λ h. (h.0, (joined_alike left firsts right pivot.0 pivot.1 h.0 f).1 h.1, h.2),
)

-- a chain with a number of pivots that isn't that of the premises
pub joins_as_many : {X : Type 0} (left : List X) (premises : List (List X)) (pivots : List (X × X)) (result : List X)
    → Joins left premises pivots result → length premises ≡ length pivots
joins_as_many left [] [] result h = refl
joins_as_many left [] (pivot ∷ pivots) result h = absurd h
joins_as_many left (right ∷ premises) [] result h = absurd h
joins_as_many left (right ∷ premises) (pivot ∷ pivots) result h = ap suc (joins_as_many h.0 premises pivots result h.2)

pub all_as_many : {X : Type 0} (pivots : List (X × X)) (premises : List (List X)) (clause : List X) → JoinAll pivots premises clause
    → length premises ≡ length pivots + 1
all_as_many pivots [] clause h = absurd h
all_as_many pivots (first ∷ premises) clause h = let e = joins_as_many first premises pivots clause h in omega (arith, e)

-- at a place, where a premise and a pivot stand
module _ {X : Type 0} (chain : List X) (vectors : List (Vec X)) (pivots : List (X × X)) (k : ℕ) (v : Vec X) (p : X × X)
    (premise_here : drop k vectors ≡ v ∷ drop (k + 1) vectors) (pivot_here : drop k pivots ≡ p ∷ drop (k + 1) pivots) (clause : List X) where
  pub stuck_here : ((next : List X) → IsJoined chain v.items p.0 p.1 next → ⊥) → Joins chain (clauses_of (drop k vectors)) (drop k pivots) clause → ⊥
  stuck_here none h = let g = rw (premise_here, pivot_here) at h in none g.0 g.1

  pub on_here : (new : List X) → IsJoined chain v.items p.0 p.1 new
      → Joins chain (clauses_of (drop k vectors)) (drop k pivots) clause ↔ Joins new (clauses_of (drop (k + 1) vectors)) (drop (k + 1) pivots) clause
  on_here new joined =
      rw (premise_here, pivot_here) (joins_next chain v.items new (clauses_of (drop (k + 1) vectors)) p (drop (k + 1) pivots) clause joined)

-- a list as its first item and the others
pub whole_of : {X : Type 0} (xs : List X) (x : X) (n : ℕ) → length xs ≡ n + 1 → x ≡ get_or xs 0 x → xs ≡ x ∷ take (length xs - 1) (drop 1 xs)
whole_of [] x n h e = absurd (omega (arith, h))
whole_of (y ∷ ys) x n h e =
    let shorter : suc (length ys) - 1 ≡ length ys = omega arith in rw (e, shorter, take_all (length ys) ys (omega arith)) refl

pub some_there : {X : Type 0} (xs : List X) → nat_eq (length xs) 0 ≡ false → xs ≢ []
some_there [] h e = true≢false h
some_there (x ∷ xs) h e = cc

-- a chain from the first premise is one from its first occurrences
pub all_from : (vectors rest : List (Vec SignedTerm)) (pivots : List (SignedTerm × SignedTerm)) (v : Vec SignedTerm) (firsts clause : List SignedTerm)
    → vectors ≡ v ∷ rest → IsFirstsOf [] v.items firsts → pivots ≢ []
    → JoinAll pivots (clauses_of vectors) clause ↔ Joins firsts (clauses_of rest) pivots clause
all_from vectors rest pivots v firsts clause whole f some = rw whole (joins_alike v.items firsts (clauses_of rest) pivots clause f some)

-- a chain of two clauses is their join
pub joins_two : {X : Type 0} (left right : List X) (taken : X × X) (clause : List X)
    → JoinAll (taken ∷ []) (left ∷ right ∷ []) clause ↔ IsJoined left right taken.0 taken.1 clause
joins_two left right taken clause = (
  λ h. subst (IsJoined left right taken.0 taken.1) h.2 h.1,
  λ h. (clause, h, refl),
)

pub one_alone : {X : Type 0} (xs : List X) (d : X) → length xs ≡ 1 → xs ≡ get_or xs 0 d ∷ []
one_alone [] d h = absurd (omega (arith, h))
one_alone (x ∷ []) d h = refl
one_alone (x ∷ y ∷ xs) d h = absurd (omega (arith, h))

pub two_alone : {X : Type 0} (xs : List X) (x y : X) → length xs ≡ 2 → x ≡ get_or xs 0 x → y ≡ get_or xs 1 y → xs ≡ x ∷ y ∷ []
two_alone [] x y h e f = absurd (omega (arith, h))
two_alone (a ∷ []) x y h e f = absurd (omega (arith, h))
two_alone (a ∷ b ∷ []) x y h e f = rw (e, f) refl
two_alone (a ∷ b ∷ c ∷ xs) x y h e f = absurd (omega (arith, h))

pub all_of_two : {X : Type 0} (vectors : List (Vec X)) (pivots : List (X × X)) (v w : Vec X) (taken : X × X) (clause : List X) → vectors ≡ v ∷ w ∷ []
    → pivots ≡ taken ∷ [] → JoinAll pivots (clauses_of vectors) clause ↔ IsJoined v.items w.items taken.0 taken.1 clause
all_of_two vectors pivots v w taken clause two one = rw (two, one) (joins_two v.items w.items taken clause)
