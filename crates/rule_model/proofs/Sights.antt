-- What can be seen where a scope is written: the commands that stand directly in an open scope, each with the line of it.
use Rattle.std.proofs.Common.{◌≡◌, ◌<◌, ◌+◌, ℕ, zero, suc, List, [], ◌∷◌, ◌++◌, map, length, slice_get, slice_index_or, Some, Contains, refl, sym, ◌∙◌, ap, subst, arith}
use Rattle.std.specs.List.{AllByRecursion}
use Rattle.std.proofs.lemmas.List.{length-append, append_assoc}
use Rattle.term_model.proofs.Lists.{slice_get-left, slice_get-last, all_joined, all_last}
use Rattle.rule_model.specs.Proofs.{Step, ProofItems, no_items, with_assume, with_step, with_subproof}
use Rattle.rule_model.specs.Scopes.{Anchor, Nesting, outermost, inside, Scope, at, inner, commands_in, first_index, last_index}
use Rattle.rule_model.specs.Commands.{assume, step, closing, Line, lines_in, lines_around, lines_to}
use Rattle.rule_model.specs.Truth.{assumed_in}
use Rattle.rule_model.specs.Visibility.{Sight, sight, direct, seen_around, seen, visible}
use Rattle.rule_model.specs.Writing.{add_command}
use Rattle.rule_model.proofs.Numbers.{lines_in_count, lines_count}

-- the items are the first ones of others
pub data IsFront {V T : Type 0} : ProofItems V T → ProofItems V T → Type 0 where
  whole : (items : ProofItems V T) → IsFront items items
  assume_more : (front items : ProofItems V T) (id : List ℕ) (t : T) → IsFront front items → IsFront front (with_assume items id t)
  step_more : (front items : ProofItems V T) (s : Step T) → IsFront front items → IsFront front (with_step items s)
  subproof_more : (front items : ProofItems V T) (bindings : List (V × T)) (proof : ProofItems V T) (s : Step T) → IsFront front items → IsFront front (with_subproof items bindings proof s)

-- the scope, as far as it is written, is one of those that are open where another is written
pub data IsOpenAt {V T : Type 0} : Scope V T → Nesting V T → ProofItems V T → Type 0 where
  own : (nesting : Nesting V T) (items more : ProofItems V T) → IsFront items more → IsOpenAt (at nesting items) nesting more
  outside : (scope : Scope V T) (around : Nesting V T) (before : ProofItems V T) (anchor : Anchor V T) (items : ProofItems V T) → IsOpenAt scope around before → IsOpenAt scope (inside around before anchor) items

module _ {V T : Type 0} where
  -- the command of the line belongs to a scope that is open there
  abbrev pub Opens : Nesting V T → ProofItems V T → Line V T → Type 0
  Opens nesting items l = IsOpenAt (add_command l.scope l.command) nesting items

  -- an index is that of a line of which this holds
  abbrev pub IsSeen : (Line V T → Type 0) → List (Line V T) → ℕ → Type 0
  IsSeen P lines j = (l : Line V T) × (slice_get lines j ≡ Some l) × P l

  abbrev pub AreSeen : (Line V T → Type 0) → List (Line V T) → List Sight → Type 0
  AreSeen P lines sights = AllByRecursion (λ s. IsSeen P lines s.index) sights

  seen_more : (P Q : Line V T → Type 0) → ((l : Line V T) → P l → Q l) → (lines more next : List (Line V T)) (sights : List Sight) → next ≡ lines ++ more → AreSeen P lines sights → AreSeen Q next sights
  seen_more P Q f lines more next [] e h = tt
  seen_more P Q f lines more next (s ∷ sights) e h =
      ((h.0.0, rw e (slice_get-left lines more s.index h.0.0 h.0.1), f h.0.0 h.0.2), seen_more P Q f lines more next sights e h.1)

  -- the last line, at its index
  seen_last : (P : Line V T → Type 0) (lines next : List (Line V T)) (l : Line V T) (index : ℕ) (id : List ℕ) → P l → next ≡ lines ++ l ∷ [] → length lines ≡ index → AreSeen P next (sight index id ∷ [])
  seen_last P lines next l index id p join e =
      ((l, rw join (subst (λ k. slice_get (lines ++ l ∷ []) k ≡ Some l) e (slice_get-last lines l)), p), tt)

  opens_more : (nesting : Nesting V T) (items more : ProofItems V T) → ((front : ProofItems V T) → IsFront front items → IsFront front more) → (s : Scope V T) → IsOpenAt s nesting items → IsOpenAt s nesting more
  opens_more _ _ more grows _ (own nesting items items' f) = own nesting items more (grows items f)
  opens_more _ _ more grows _ (outside s around before anchor items o) = outside s around before anchor more o

  -- the line of a subproof's closing step, behind those around the scope
  join_subproof : (nesting : Nesting V T) (items : ProofItems V T) (bindings : List (V × T)) (proof : ProofItems V T) (s : Step T) (l : Line V T) → lines_around nesting ++ ((lines_in nesting items ++ lines_in (inner nesting items bindings s) proof) ++ l ∷ []) ≡ (lines_around nesting ++ lines_in nesting items) ++ (lines_in (inner nesting items bindings s) proof ++ l ∷ [])
  join_subproof nesting items bindings proof s l =
      ap (λ ls. lines_around nesting ++ ls) (append_assoc (lines_in nesting items) (lines_in (inner nesting items bindings s) proof) (l ∷ []))
      ∙ sym (append_assoc (lines_around nesting) (lines_in nesting items) (lines_in (inner nesting items bindings s) proof ++ l ∷ []))

  pub direct_seen : (nesting : Nesting V T) (items : ProofItems V T) → AreSeen (Opens nesting items) (lines_around nesting ++ lines_in nesting items) (direct nesting items)
  direct_seen nesting no_items = tt
  direct_seen nesting (with_assume items id t) =
      let l : Line V T = record { scope = at nesting items; command = assume id t } in
      let join = sym (append_assoc (lines_around nesting) (lines_in nesting items) (l ∷ [])) in
      all_joined _ (direct nesting items) _
      (seen_more (Opens nesting items) (Opens nesting (with_assume items id t)) (λ m. opens_more nesting items (with_assume items id t) (λ front. assume_more front items id t) (add_command m.scope m.command)) _ (l ∷ []) _ (direct nesting items) join (direct_seen nesting items))
      (seen_last (Opens nesting (with_assume items id t)) _ _ l _ id (own nesting _ _ (whole (with_assume items id t))) join (lines_count (at nesting items)))
  direct_seen nesting (with_step items s) =
      let l : Line V T = record { scope = at nesting items; command = step s } in
      let join = sym (append_assoc (lines_around nesting) (lines_in nesting items) (l ∷ [])) in
      all_joined _ (direct nesting items) _
      (seen_more (Opens nesting items) (Opens nesting (with_step items s)) (λ m. opens_more nesting items (with_step items s) (λ front. step_more front items s) (add_command m.scope m.command)) _ (l ∷ []) _ (direct nesting items) join (direct_seen nesting items))
      (seen_last (Opens nesting (with_step items s)) _ _ l _ s.id (own nesting _ _ (whole (with_step items s))) join (lines_count (at nesting items)))
  direct_seen nesting (with_subproof items bindings proof s) =
      let deep = inner nesting items bindings s in
      let l : Line V T = record { scope = at deep proof; command = closing s } in
      let join = join_subproof nesting items bindings proof s l in
      let outer = lines_count (at nesting items) in
      let within = lines_in_count deep proof in
      let count : length ((lines_around nesting ++ lines_in nesting items) ++ lines_in deep proof) ≡ first_index nesting + (commands_in items + commands_in proof) =
      length-append (lines_around nesting ++ lines_in nesting items) (lines_in deep proof) ∙ omega arith in
      all_joined _ (direct nesting items) _
      (seen_more (Opens nesting items) (Opens nesting (with_subproof items bindings proof s)) (λ m. opens_more nesting items (with_subproof items bindings proof s) (λ front. subproof_more front items bindings proof s) (add_command m.scope m.command)) _ (lines_in deep proof ++ l ∷ []) _ (direct nesting items) join (direct_seen nesting items))
      (seen_last (Opens nesting (with_subproof items bindings proof s)) _ _ l _ s.id (own nesting _ _ (whole (with_subproof items bindings proof s))) (join ∙ sym (append_assoc (lines_around nesting ++ lines_in nesting items) (lines_in deep proof) (l ∷ []))) count)

  around_seen : (nesting : Nesting V T) → AreSeen (λ l. (items : ProofItems V T) → Opens nesting items l) (lines_around nesting) (seen_around nesting)
  around_seen outermost = tt
  around_seen (inside around before anchor) =
      all_joined _ (seen_around around) _
      (seen_more (λ l. (items : ProofItems V T) → Opens around items l) _ (λ l o items. outside _ around before anchor items (o before)) (lines_around around) (lines_in around before) _ (seen_around around) refl (around_seen around))
      (seen_more (Opens around before) _ (λ l o items. outside _ around before anchor items o) _ [] _ (direct around before) (nothing_behind _) (direct_seen around before))
    where
      nothing_behind : (lines : List (Line V T)) → lines ≡ lines ++ []
      nothing_behind [] = refl
      nothing_behind (l ∷ lines) = ap (λ ls. l ∷ ls) (nothing_behind lines)

  -- what is visible has a line before, in a scope that is open
  pub visible_seen : (nesting : Nesting V T) (items : ProofItems V T) (j : ℕ) → Contains (visible nesting items) j → IsSeen (Opens nesting items) (lines_to (at nesting items)) j
  visible_seen nesting items j has =
      among (IsSeen (Opens nesting items) (lines_to (at nesting items))) (seen nesting items) has.0 j
      (all_joined _ (seen_around nesting) _
      (seen_more (λ l. (items : ProofItems V T) → Opens nesting items l) (Opens nesting items) (λ l o. o items) _ (lines_in nesting items) _ (seen_around nesting) refl (around_seen nesting))
      (direct_seen nesting items)) has.1 has.2
    where
      among : (P : ℕ → Type 0) (sights : List Sight) (k j : ℕ) → AllByRecursion (λ s. P s.index) sights → k < length (map (λ s. s.index) sights) → slice_index_or (map (λ s. s.index) sights) k j ≡ j → P j
      among P [] k j h l e = absurd (omega arith)
      among P (s ∷ sights) zero j h l e = subst P e h.0
      among P (s ∷ sights) (suc k) j h l e = among P sights k j h.1 (omega arith) e

  -- so has the last command directly in a scope
  pub last_seen : (nesting : Nesting V T) (items : ProofItems V T) (j : ℕ) → last_index nesting items ≡ Some j → IsSeen (Opens nesting items) (lines_to (at nesting items)) j
  last_seen nesting no_items j e = absurd (cc)
  last_seen nesting (with_assume items id t) j e =
      subst (IsSeen (Opens nesting (with_assume items id t)) _) (some_same e) (all_last _ (direct nesting items) _ (direct_seen nesting (with_assume items id t)))
    where
      some_same : {a b : ℕ} → Some a ≡ Some b → a ≡ b
      some_same e = cc
  last_seen nesting (with_step items s) j e =
      subst (IsSeen (Opens nesting (with_step items s)) _) (some_same e) (all_last _ (direct nesting items) _ (direct_seen nesting (with_step items s)))
    where
      some_same : {a b : ℕ} → Some a ≡ Some b → a ≡ b
      some_same e = cc
  last_seen nesting (with_subproof items bindings proof s) j e =
      subst (IsSeen (Opens nesting (with_subproof items bindings proof s)) _) (some_same e) (all_last _ (direct nesting items) _ (direct_seen nesting (with_subproof items bindings proof s)))
    where
      some_same : {a b : ℕ} → Some a ≡ Some b → a ≡ b
      some_same e = cc

  -- the line assumes the term in the scope that stands there
  pub record Assumes (nesting : Nesting V T) (t : T) (l : Line V T) : Type 0 where
    pub own : l.scope.nesting ≡ nesting
    pub id : List ℕ
    pub is : l.command ≡ assume id t

  -- what is assumed directly in a scope has a line
  abbrev pub IsAssumedIn : Nesting V T → List (Line V T) → T → Type 0
  IsAssumedIn nesting lines t = (j : ℕ) × IsSeen (Assumes nesting t) lines j

  assumed_more : (nesting : Nesting V T) (lines more next : List (Line V T)) (ts : List T) → next ≡ lines ++ more → AllByRecursion (IsAssumedIn nesting lines) ts → AllByRecursion (IsAssumedIn nesting next) ts
  assumed_more nesting lines more next [] e h = tt
  assumed_more nesting lines more next (t ∷ ts) e h =
      ((h.0.0, (h.0.1.0, rw e (slice_get-left lines more h.0.0 h.0.1.0 h.0.1.1), h.0.1.2)), assumed_more nesting lines more next ts e h.1)

  pub assumed_seen : (nesting : Nesting V T) (items : ProofItems V T) → AllByRecursion (IsAssumedIn nesting (lines_around nesting ++ lines_in nesting items)) (assumed_in items)
  assumed_seen nesting no_items = tt
  assumed_seen nesting (with_assume items id t) =
      let l : Line V T = record { scope = at nesting items; command = assume id t } in
      let lines = lines_around nesting ++ lines_in nesting items in
      let join = sym (append_assoc (lines_around nesting) (lines_in nesting items) (l ∷ [])) in
      all_joined _ (assumed_in items) _
      (assumed_more nesting _ (l ∷ []) _ (assumed_in items) join (assumed_seen nesting items))
      ((length lines, (l, rw join (slice_get-last lines l), record { own = refl; id = id; is = refl })), tt)
  assumed_seen nesting (with_step items s) =
      let l : Line V T = record { scope = at nesting items; command = step s } in
      assumed_more nesting _ (l ∷ []) _ (assumed_in items) (sym (append_assoc (lines_around nesting) (lines_in nesting items) (l ∷ []))) (assumed_seen nesting items)
  assumed_seen nesting (with_subproof items bindings proof s) =
      let l : Line V T = record { scope = at (inner nesting items bindings s) proof; command = closing s } in
      assumed_more nesting _ (lines_in (inner nesting items bindings s) proof ++ l ∷ []) _ (assumed_in items) (join_subproof nesting items bindings proof s l) (assumed_seen nesting items)
