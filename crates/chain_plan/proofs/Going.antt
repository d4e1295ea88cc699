-- Private. A carried clause goes on, and the steps that are made of it are met.
use Rattle.std.proofs.Common.{◌≡◌, ◌≢◌, ◌<◌, ◌≤◌, ◌+◌, ◌-◌, ◌⊎◌, inl, inr, ℕ, zero}
use Rattle.std.proofs.Common.{suc, Bool, true, false, not, List, [], ◌∷◌, ◌++◌, length, map, take}
use Rattle.std.proofs.Common.{slice_get, Option, Some, refl, sym, ◌∙◌, ap, subst, arith, All, Contains}
use Rattle.std.specs.Option.{option_map_or}
use Rattle.std.proofs.lemmas.List.{length-append, map-append, take-append-le, take_at}
use Rattle.std.proofs.lemmas.List.Elements.{All-nil, All-cons, All-head, All-tail, All-contains}
use Rattle.term_model.specs.Terms.{Term}
use Rattle.term_model.proofs.Lists.{contains_head, contains_later, slice_get-last}
use Rattle.rule_model.specs.Resolution.{IsFirstsOf, IsJoined, Joins, Chains, with_sign}
use Rattle.rule_model.proofs.Lines.{get_append, get_one}
use Rattle.clause_chain.specs.declared.signed_term.SignedTerm.{SignedTerm}
use Rattle.chain_plan.specs.declared.plan.Source.{Source}
use Rattle.chain_plan.specs.declared.plan.Source.TheVariants.{Given, Added}
use Rattle.chain_plan.specs.Carried.{Carried, taken_by, ComesTo, IsCarriedFrom, IsItem, AreSound, IsGoing, KeepsSources}
use Rattle.chain_plan.specs.Plans.{PlannedStep, clause_of, IsSource, IsMetStep, HasPlannedRule}
use Rattle.chain_plan.specs.Towers.{Towers, HasNegation, AreNumbered, side, term_of, terms_of}
use Rattle.chain_plan.proofs.Joining.{joined_was, joined_mapped, firsts_had, repeats_play_no_part}
use Rattle.chain_plan.proofs.Towers.{one_item}

-- what a source names stays as steps are added
pub source_stays : (given : List (List SignedTerm)) (steps : List PlannedStep) (s : PlannedStep) (source : Source) → IsSource given steps source
    → clause_of given (steps ++ s ∷ []) source ≡ clause_of given steps source
source_stays given steps s (Given i) is = refl
source_stays given steps s (Added k) is = go (slice_get steps k) refl
  where
    there : (xs : List PlannedStep) (k : ℕ) → k < length xs → slice_get (xs ++ s ∷ []) k ≡ slice_get xs k
    there [] k h = absurd (omega arith)
    there (x ∷ xs) zero h = refl
    there (x ∷ xs) (suc k) h = there xs k (omega arith)

    go : (o : Option PlannedStep) → slice_get steps k ≡ o → clause_of given (steps ++ s ∷ []) (Added k) ≡ clause_of given steps (Added k)
    go o e = ap (λ z. option_map_or (λ (p : PlannedStep). p.clause) z []) (there steps k is)

pub source_is : (given : List (List SignedTerm)) (steps : List PlannedStep) (s : PlannedStep) (source : Source) → IsSource given steps source
    → IsSource given (steps ++ s ∷ []) source
source_is given steps s (Given i) is = is
source_is given steps s (Added k) is = longer steps is
  where
    longer : (xs : List PlannedStep) → k < length xs → k < length (xs ++ s ∷ [])
    longer xs h = let e = length-append xs (s ∷ []) in omega arith

-- the new step is a source, with its clause
pub new_source : (given : List (List SignedTerm)) (steps : List PlannedStep) (s : PlannedStep)
    → clause_of given (steps ++ s ∷ []) (Added (length steps)) ≡ s.clause
new_source given steps s = ap (λ z. option_map_or (λ (p : PlannedStep). p.clause) z []) (slice_get-last steps s)

pub new_is_source : (given : List (List SignedTerm)) (steps : List PlannedStep) (s : PlannedStep) → IsSource given (steps ++ s ∷ []) (Added (length steps))
new_is_source given steps s = let e = length-append steps (s ∷ []) in omega arith

-- a source after a step was added is one before, or the step
source_was : (given : List (List SignedTerm)) (steps : List PlannedStep) (s : PlannedStep) (source : Source) → IsSource given (steps ++ s ∷ []) source
    → IsSource given steps source ⊎ (source ≡ Added (length steps))
source_was given steps s (Given i) is = inl is
source_was given steps s (Added k) is = go (k_below steps is)
  where
    below : (j n : ℕ) → j < n + 1 → (j < n) ⊎ (j ≡ n)
    below zero zero h = inr refl
    below zero (suc n) h = inl (omega arith)
    below (suc j) zero h = absurd (omega arith)
    below (suc j) (suc n) h = elim (below j n (omega arith)) [ inl less ↦ inl (omega arith) | inr same ↦ inr (ap suc same) ]

    k_below : (xs : List PlannedStep) → k < length (xs ++ s ∷ []) → (k < length xs) ⊎ (k ≡ length xs)
    k_below xs h = below k (length xs) (let e = length-append xs (s ∷ []) in omega arith)

    go : (k < length steps) ⊎ (k ≡ length steps) → IsSource given steps (Added k) ⊎ (Added k ≡ Added (length steps))
    go (inl less) = inl less
    go (inr same) = inr (ap Added same)

pub keeps_itself : (steps : List PlannedStep) → KeepsSources steps steps
keeps_itself steps = record { are = λ given source is. is; same = λ given source is. refl }

pub keeps_through : (old middle new : List PlannedStep) → KeepsSources old middle → KeepsSources middle new → KeepsSources old new
keeps_through old middle new first second =
    record {
      are = λ given source is. second.are given source (first.are given source is);
      same = λ given source is. second.same given source (first.are given source is) ∙ first.same given source is;
    }

pub keeps_one : (steps : List PlannedStep) (s : PlannedStep) → KeepsSources steps (steps ++ s ∷ [])
keeps_one steps s =
    record { are = λ given source is. source_is given steps s source is; same = λ given source is. source_stays given steps s source is }

-- the steps stay met, and so does one more
pub sound_more : (t : Towers) (given : List (List SignedTerm)) (steps : List PlannedStep) (s : PlannedStep) → AreSound t given steps
    → All (IsItem t) s.clause → ((terms : ℕ → Term) → AreNumbered t terms → IsMetStep terms given steps s) → HasPlannedRule s
    → AreSound t given (steps ++ s ∷ [])
sound_more t given steps s sound literals met rule =
    record {
      met = λ terms named k z at. go terms named k z (get_append steps (s ∷ []) k z at);
      items = λ source is. elim (source_was given steps s source is) [
        | inl before ↦ rw (source_stays given steps s source before) (sound.items source before)
        | inr new ↦ rw (new, new_source given steps s) literals
      ];
      rules = λ k z at. elim (get_append steps (s ∷ []) k z at) [
        | inl before ↦ sound.rules k z before.1
        | inr last ↦ subst HasPlannedRule (get_one s (k - length steps) z last.1).1 rule
      ];
    }
  where
    go : (terms : ℕ → Term) → AreNumbered t terms → (k : ℕ) (z : PlannedStep)
        → ((k < length steps) × (slice_get steps k ≡ Some z)) ⊎ ((length steps ≤ k) × (slice_get (s ∷ []) (k - length steps) ≡ Some z))
        → IsMetStep terms given (take k (steps ++ s ∷ [])) z
    go terms named k z (inl p) =
        rw (take-append-le k steps (s ∷ []) (let h = p.0 in omega arith)) (sound.met terms named k z p.1)
    go terms named k z (inr p) =
        let one = get_one s (k - length steps) z p.1 in
        let at : length steps ≡ k = let h = p.0 in let e = one.0 in omega arith in
        rw (take_at steps (s ∷ []) k at, ← one.1) (met terms named)

clauses_stay : (given : List (List SignedTerm)) (steps : List PlannedStep) (s : PlannedStep) (sources : List Source) → All (IsSource given steps) sources
    → map (clause_of given (steps ++ s ∷ [])) sources ≡ map (clause_of given steps) sources
clauses_stay given steps s [] all = refl
clauses_stay given steps s (x ∷ xs) all =
    ap (λ c. c ∷ map (clause_of given (steps ++ s ∷ [])) xs) (source_stays given steps s x (All-head (IsSource given steps) x xs all))
    ∙ ap (λ cs. clause_of given steps x ∷ cs) (clauses_stay given steps s xs (All-tail (IsSource given steps) x xs all))

carried_more : (given : List (List SignedTerm)) (steps : List PlannedStep) (s : PlannedStep) (sources : List Source) (pivots : List (ℕ × Bool))
    (list : List SignedTerm) → All (IsSource given steps) sources → IsCarriedFrom given steps sources pivots list
    → IsCarriedFrom given (steps ++ s ∷ []) sources pivots list
carried_more given steps s [] pivots list all carried = carried
carried_more given steps s (first ∷ others) pivots list all carried =
    subst (λ c. ComesTo c (map (clause_of given (steps ++ s ∷ [])) others) pivots list)
    (sym (source_stays given steps s first (All-head (IsSource given steps) first others all)))
    (subst (λ cs. ComesTo (clause_of given steps first) cs pivots list)
    (sym (clauses_stay given steps s others (All-tail (IsSource given steps) first others all))) carried)

sources_more : (given : List (List SignedTerm)) (steps : List PlannedStep) (s : PlannedStep) (sources : List Source) → All (IsSource given steps) sources
    → All (IsSource given (steps ++ s ∷ [])) sources
sources_more given steps s [] all = All-nil (IsSource given (steps ++ s ∷ []))
sources_more given steps s (x ∷ xs) all =
    All-cons (IsSource given (steps ++ s ∷ [])) x xs (source_is given steps s x (All-head (IsSource given steps) x xs all))
    (sources_more given steps s xs (All-tail (IsSource given steps) x xs all))

-- what is carried goes on being so
pub going_more : (t : Towers) (given : List (List SignedTerm)) (steps : List PlannedStep) (s : PlannedStep) (c : Carried) → IsGoing t given steps c
    → IsGoing t given (steps ++ s ∷ []) c
going_more t given steps s c going =
    record {
      sources = sources_more given steps s c.sources going.sources;
      pivots = going.pivots;
      items = going.items;
      carried = carried_more given steps s c.sources c.pivots c.list going.sources going.carried;
    }

-- one premise more
joins_on : (left : List SignedTerm) (premises : List (List SignedTerm)) (pivots : List (ℕ × Bool)) (middle right next : List SignedTerm) (p : ℕ × Bool)
    → Joins left premises (map taken_by pivots) middle → IsJoined middle right (taken_by p).0 (taken_by p).1 next
    → Joins left (premises ++ right ∷ []) (map taken_by (pivots ++ p ∷ [])) next
joins_on left [] [] middle right next p same step = (next, subst (λ l. IsJoined l right (taken_by p).0 (taken_by p).1 next) (sym same) step, refl)
joins_on left [] (q ∷ pivots) middle right next p none step = absurd none
joins_on left (o ∷ premises) [] middle right next p none step = absurd none
joins_on left (o ∷ premises) (q ∷ pivots) middle right next p (mid, first, rest) step =
    (mid, first, joins_on mid premises pivots middle right next p rest step)

comes_on : (first : List SignedTerm) (premises : List (List SignedTerm)) (pivots : List (ℕ × Bool)) (list right next : List SignedTerm)
    (p : ℕ × Bool) → ComesTo first premises pivots list → IsJoined list right (taken_by p).0 (taken_by p).1 next
    → ComesTo first (premises ++ right ∷ []) (pivots ++ p ∷ []) next
comes_on first [] [] list right next p firsts step = (next, repeats_play_no_part first list right (taken_by p).0 (taken_by p).1 next firsts step, refl)
comes_on first [] (q ∷ pivots) list right next p none step = absurd none
comes_on first (o ∷ premises) [] list right next p none step = absurd none
comes_on first (o ∷ premises) (q ∷ pivots) list right next p joins step = joins_on first (o ∷ premises) (q ∷ pivots) list right next p joins step

carried_on : (given : List (List SignedTerm)) (steps : List PlannedStep) (sources : List Source) (pivots : List (ℕ × Bool))
    (list next : List SignedTerm) (source : Source) (p : ℕ × Bool) → IsCarriedFrom given steps sources pivots list
    → IsJoined list (clause_of given steps source) (taken_by p).0 (taken_by p).1 next
    → IsCarriedFrom given steps (sources ++ source ∷ []) (pivots ++ p ∷ []) next
carried_on given steps [] pivots list next source p none step = absurd none
carried_on given steps (first ∷ others) pivots list next source p carried step =
    subst (λ cs. ComesTo (clause_of given steps first) cs (pivots ++ p ∷ []) next) (sym (map-append (clause_of given steps) others (source ∷ [])))
    (comes_on (clause_of given steps first) (map (clause_of given steps) others) pivots list (clause_of given steps source) next p carried step)

all_of : {X : Type 0} (P : X → Type 0) (xs : List X) → ((x : X) → Contains xs x → P x) → All P xs
all_of P [] all = All-nil P
all_of P (x ∷ xs) all = All-cons P x xs (all x (contains_head x xs)) (all_of P xs (λ z c. all z (contains_later x z xs c)))

one_last : {X : Type 0} (P : X → Type 0) (xs : List X) (x : X) → All P xs → P x → All P (xs ++ x ∷ [])
one_last P [] x all here = All-cons P x [] here (All-nil P)
one_last P (z ∷ xs) x all here = All-cons P z (xs ++ x ∷ []) (All-head P z xs all) (one_last P xs x (All-tail P z xs all) here)

pub going_on : (t : Towers) (given : List (List SignedTerm)) (steps : List PlannedStep) (c : Carried) (source : Source)
    (p : ℕ × Bool) (next : List SignedTerm) → IsGoing t given steps c → IsSource given steps source → HasNegation t p.0
    → ((x : SignedTerm) → Contains (clause_of given steps source) x → x ≢ (taken_by p).1 → IsItem t x)
    → IsJoined c.list (clause_of given steps source) (taken_by p).0 (taken_by p).1 next
    → IsGoing t given steps (record { list = next; sources = c.sources ++ source ∷ []; pivots = c.pivots ++ p ∷ [] })
going_on t given steps c source p next going is negation literals step =
    record {
      sources = one_last (IsSource given steps) c.sources source going.sources is;
      pivots = one_last (λ (q : ℕ × Bool). HasNegation t q.0) c.pivots p going.pivots negation;
      items = all_of (IsItem t) next (λ x there.
          elim (joined_was c.list (clause_of given steps source) (taken_by p).0 (taken_by p).1 next x step there) [
            | inl was ↦ All-contains (IsItem t) c.list x going.items was.0
            | inr was ↦ literals x was.0 was.1
          ]);
      carried = carried_on given steps c.sources c.pivots c.list next source p going.carried step;
    }

-- the first clause
pub going_first : (t : Towers) (given : List (List SignedTerm)) (steps : List PlannedStep) (source : Source) (list : List SignedTerm)
    → IsSource given steps source → All (IsItem t) (clause_of given steps source) → IsFirstsOf [] (clause_of given steps source) list
    → IsGoing t given steps (record { list = list; sources = source ∷ []; pivots = [] })
going_first t given steps source list is literals firsts =
    record {
      sources = All-cons (IsSource given steps) source [] is (All-nil (IsSource given steps));
      pivots = All-nil (λ (q : ℕ × Bool). HasNegation t q.0);
      items = all_of (IsItem t) list
          (λ x there. All-contains (IsItem t) (clause_of given steps source) x literals (firsts_had (clause_of given steps source) list x firsts there));
      carried = firsts;
    }

-- the same of what a call has begun
pub going_started : (t : Towers) (given : List (List SignedTerm)) (steps : List PlannedStep) (source : Source) (c : Carried)
    → IsSource given steps source → All (IsItem t) (clause_of given steps source) → IsFirstsOf [] (clause_of given steps source) c.list
    → c.sources ≡ source ∷ [] → c.pivots ≡ [] → IsGoing t given steps c
going_started t given steps source c is literals firsts sources pivots =
    let g = going_first t given steps source c.list is literals firsts in
    record {
      sources = rw sources g.sources;
      pivots = rw pivots g.pivots;
      items = g.items;
      carried = rw (sources, pivots) g.carried;
    }

-- and of what a call has resolved
pub going_resolved : (t : Towers) (given : List (List SignedTerm)) (steps : List PlannedStep) (c next : Carried) (source : Source)
    (clause : List SignedTerm) (k : ℕ) (sign : Bool) → IsGoing t given steps c → IsSource given steps source → clause_of given steps source ≡ clause
    → HasNegation t k → ((x : SignedTerm) → Contains clause x → IsItem t x) → IsJoined c.list clause (side k sign) (side k (not sign)) next.list
    → next.sources ≡ c.sources ++ source ∷ [] → next.pivots ≡ c.pivots ++ (k, sign) ∷ [] → IsGoing t given steps next
going_resolved t given steps c next source clause k sign going is same negation literals step sources pivots =
    let g = going_on t given steps c source (k, sign) next.list going is negation
    (λ x there other. literals x (subst (λ xs. Contains xs x) same there))
    (subst (λ xs. IsJoined c.list xs (side k sign) (side k (not sign)) next.list) (sym same) step) in
    record {
      sources = rw sources g.sources;
      pivots = rw pivots g.pivots;
      items = g.items;
      carried = rw (sources, pivots) g.carried;
    }

-- a chain over numbers is one over their terms
module _ (t : Towers) (terms : ℕ → Term) (named : AreNumbered t terms) where
  one : (x z : SignedTerm) → IsItem t x → IsItem t z → term_of terms x ≡ term_of terms z → x ≡ z
  one x z p q same = one_item t terms named x z p q same

  pub side_is : (k : ℕ) (sign : Bool) → HasNegation t k → term_of terms (side k sign) ≡ with_sign (terms k) sign
  side_is k true more = refl
  side_is k false more = named.negation k more

  pub step_mapped : (left right : List SignedTerm) (p : ℕ × Bool) (next : List SignedTerm) → ((x : SignedTerm) → Contains left x → IsItem t x)
      → ((x : SignedTerm) → Contains right x → IsItem t x) → HasNegation t p.0 → IsJoined left right (taken_by p).0 (taken_by p).1 next
      → IsJoined (terms_of terms left) (terms_of terms right) (with_sign (terms p.0) p.1) (with_sign (terms p.0) (not p.1)) (terms_of terms next)
  step_mapped left right p next on_left on_right more step =
      subst (λ u. IsJoined (terms_of terms left) (terms_of terms right) (with_sign (terms p.0) p.1) u (terms_of terms next)) (side_is p.0 (not p.1) more)
      (subst (λ u. IsJoined (terms_of terms left) (terms_of terms right) u (term_of terms (taken_by p).1) (terms_of terms next)) (side_is p.0 p.1 more)
      (joined_mapped (IsItem t) (term_of terms) one left right (taken_by p).0 (taken_by p).1 next on_left on_right step))

  pub chains_mapped : (left : List SignedTerm) (premises : List (List SignedTerm)) (pivots : List (ℕ × Bool)) (list : List SignedTerm)
      → ((x : SignedTerm) → Contains left x → IsItem t x) → ((c : List SignedTerm) → Contains premises c → (x : SignedTerm) → Contains c x → IsItem t x)
      → All (λ p. HasNegation t p.0) pivots → Joins left premises (map taken_by pivots) list
      → Chains (terms_of terms left) (map (terms_of terms) premises) (map (λ p. (terms p.0, p.1)) pivots) (terms_of terms list)
  chains_mapped left [] [] list on_left all more same = ap (terms_of terms) same
  chains_mapped left [] (p ∷ pivots) list on_left all more none = absurd none
  chains_mapped left (right ∷ premises) [] list on_left all more none = absurd none
  chains_mapped left (right ∷ premises) (p ∷ pivots) list on_left all more (next, step, rest) = (
    terms_of terms next,
    step_mapped left right p next on_left (all right (contains_head right premises)) (All-head (λ (q : ℕ × Bool). HasNegation t q.0) p pivots more) step,
    chains_mapped next premises pivots list
        (λ x there. elim (joined_was left right (taken_by p).0 (taken_by p).1 next x step there) [
          | inl was ↦ on_left x was.0
          | inr was ↦ all right (contains_head right premises) x was.0
        ])
        (λ c there. all c (contains_later right c premises there)) (All-tail (λ (q : ℕ × Bool). HasNegation t q.0) p pivots more) rest,
  )
