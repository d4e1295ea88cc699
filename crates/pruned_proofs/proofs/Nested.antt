-- Cited by crates above. What is asked of marks so that a proof is left: with a step its premises are kept, with a step that
-- closes a scope the assumes that it discharges and its end, and nothing inside a subproof that is dropped.
use Rattle.std.proofs.Common.{◌≡◌, ◌<◌, ◌≤◌, ◌+◌, ◌⊎◌, inl, inr, ℕ, Bool, true, false, List, [], ◌∷◌, ◌++◌, map, slice_get, Some, All, Contains, refl, sym, ◌∙◌, ap, subst, arith}
use Rattle.std.specs.Bool.{⊤}
use Rattle.std.proofs.lemmas.Option.{slice_get_within}
use Rattle.std.proofs.lemmas.List.{append_assoc}
use Rattle.std.proofs.lemmas.List.Elements.{All-nil, All-cons, All-contains, Contains-append_cases}
use Rattle.term_model.proofs.Lists.{slice_get-left, slice_get-last, nth_there, contains_none, contains_cases, contains_head, contains_later}
use Rattle.rule_model.specs.Commands.{assume, step, closing, Line, lines_in, lines_around, lines_to, own_scope}
use Rattle.rule_model.specs.Proofs.{Step, ProofItems, no_items, with_assume, with_step, with_subproof}
use Rattle.rule_model.specs.Reading.{premises_of, rule_of, scope_at, closes_at, is_assume}
use Rattle.rule_model.specs.Scopes.{Nesting, outermost, inside, at, inner, commands_in, scope_number, first_index, last_index}
use Rattle.rule_model.specs.Subproof.{IsAssumeIn}
use Rattle.rule_model.specs.Visibility.{assumes_in, direct_assumes}
use Rattle.rule_model.specs.WellFormed.{AreWellFormed, IsWellFormed}
use Rattle.rule_model.proofs.LineReading.{rule_is, premises_are, scope_is, closes_is, last_is}
use Rattle.rule_model.proofs.Lines.{get_append}
use Rattle.rule_model.proofs.Numbers.{lines_count}
use Rattle.rule_model.proofs.ScopeRanges.{numbers_in}
use Rattle.rule_model.proofs.Standing.{all_at}
use Rattle.pruned_proofs.specs.Reached.{is_kept, RestsOn, on_premise, on_last, on_assume, further, AreReachedMarks}
use Rattle.pruned_proofs.proofs.Counting.{kept_or_not, not_both}
use Rattle.pruned_proofs.proofs.Resting.{line_within, closer_reached, around_count}

-- a premise, or a discharged assume, is kept
abbrev pub AreKept : List Bool → List ℕ → Type 0
AreKept marks list = All (λ i. is_kept marks i ≡ true) list

abbrev pub IsEndKept : {V T : Type 0} → List Bool → Nesting V T → ProofItems V T → Type 0
IsEndKept marks nesting items = (j : ℕ) → last_index nesting items ≡ Some j → is_kept marks j ≡ true

-- a kept step that closes a scope of these items
pub record IsClosingKept {V T : Type 0} (marks : List Bool) (nesting : Nesting V T) (items : ProofItems V T) (s : Step T) : Type 0 where
  pub premises : AreKept marks s.premises
  pub discharged : AreKept marks s.discharged
  pub assumes : AreKept marks (assumes_in nesting items)
  pub end : IsEndKept marks nesting items

abbrev pub AreNested : {V T : Type 0} → List Bool → Nesting V T → ProofItems V T → Type 0
AreNested marks nesting no_items = ⊤
AreNested marks nesting (with_assume items id t) = AreNested marks nesting items
AreNested marks nesting (with_step items s) =
    AreNested marks nesting items × (is_kept marks (first_index nesting + commands_in items) ≡ true → AreKept marks s.premises)
AreNested marks nesting (with_subproof items bindings proof s) =
    AreNested marks nesting items
    × AreNested marks (inner nesting items bindings s) proof
    × (is_kept marks (first_index nesting + commands_in items + commands_in proof) ≡ true → IsClosingKept marks (inner nesting items bindings s) proof s)
    × (is_kept marks (first_index nesting + commands_in items + commands_in proof) ≡ false →
    (j : ℕ) → first_index nesting + commands_in items ≤ j → j < first_index nesting + commands_in items + commands_in proof → is_kept marks j ≡ false)

-- the same around a scope
abbrev pub IsNestedAround : {V T : Type 0} → List Bool → Nesting V T → Type 0
IsNestedAround marks outermost = ⊤
IsNestedAround marks (inside around before anchor) = IsNestedAround marks around × AreNested marks around before

pub map_joined : {X Y : Type 0} (f : X → Y) (xs ys : List X) → map f (xs ++ ys) ≡ map f xs ++ map f ys
map_joined f [] ys = refl
map_joined f (x ∷ xs) ys = ap (λ l. f x ∷ l) (map_joined f xs ys)

pub all_if : {X : Type 0} (P : X → Type 0) (xs : List X) → ((x : X) → Contains xs x → P x) → All P xs
all_if P [] f = All-nil P
all_if P (x ∷ xs) f = All-cons P x xs (f x (contains_head x xs)) (all_if P xs (λ y has. f y (contains_later x y xs has)))

module _ {V T : Type 0} where
  -- an assume directly in a scope has a line
  pub record IsDirectAssume (nesting : Nesting V T) (lines : List (Line V T)) (j : ℕ) : Type 0 where
    pub line : Line V T
    pub there : slice_get lines j ≡ Some line
    pub own : own_scope line.scope.nesting line.command ≡ scope_number nesting
    pub assume : is_assume (rule_of line.command) ≡ true

  direct_more : (nesting : Nesting V T) (lines more : List (Line V T)) (j : ℕ) → IsDirectAssume nesting lines j → IsDirectAssume nesting (lines ++ more) j
  direct_more nesting lines more j d =
      record { line = d.line; there = slice_get-left lines more j d.line d.there; own = d.own; assume = d.assume }

  pub assume_line : (nesting : Nesting V T) (items : ProofItems V T) (j : ℕ) → Contains (assumes_in nesting items) j → IsDirectAssume nesting (lines_to (at nesting items)) j
  assume_line nesting no_items j has = absurd (contains_none j has)
  assume_line nesting (with_assume items id t) j has =
      let l : Line V T = record { scope = at nesting items; command = assume id t } in
      let join = append_assoc (lines_around nesting) (lines_in nesting items) (l ∷ []) in
      let index = first_index nesting + commands_in items in
      let split = subst (λ ks. Contains ks j) (map_joined (λ s. s.index) (direct_assumes nesting items) _) has in
      subst (λ ls. IsDirectAssume nesting ls j) join
      (elim (Contains-append_cases (assumes_in nesting items) (index ∷ []) j split) [
        | inl more ↦ direct_more nesting (lines_to (at nesting items)) (l ∷ []) j (assume_line nesting items j more)
        | inr own ↦ (let e : index ≡ j = elim (contains_cases index j [] own) [ inl same ↦ same | inr none ↦ absurd (contains_none j none) ] in
            let count = lines_count (at nesting items) in
            record {
              line = l;
              there = subst (λ k. slice_get (lines_to (at nesting items) ++ l ∷ []) k ≡ Some l) (count ∙ e) (slice_get-last (lines_to (at nesting items)) l);
              own = refl;
              assume = refl;
            })
      ])
  assume_line nesting (with_step items s) j has =
      let l : Line V T = record { scope = at nesting items; command = step s } in
      let join = append_assoc (lines_around nesting) (lines_in nesting items) (l ∷ []) in
      subst (λ ls. IsDirectAssume nesting ls j) join (direct_more nesting (lines_to (at nesting items)) (l ∷ []) j (assume_line nesting items j has))
  assume_line nesting (with_subproof items bindings proof s) j has =
      let deep = inner nesting items bindings s in
      let l : Line V T = record { scope = at deep proof; command = closing s } in
      let join = append_assoc (lines_around nesting) (lines_in nesting items) (lines_in deep proof ++ l ∷ []) in
      let same = append_assoc (lines_in nesting items) (lines_in deep proof) (l ∷ []) in
      subst (λ ls. IsDirectAssume nesting ls j) (join ∙ ap (λ ls. lines_around nesting ++ ls) (sym same))
      (direct_more nesting (lines_to (at nesting items)) (lines_in deep proof ++ l ∷ []) j (assume_line nesting items j has))

-- The marks of what is reached are so.
module _ {V T : Type 0} (whole : ProofItems V T) (formed : IsWellFormed whole) (from : ℕ) (within : from < commands_in whole) (outer : scope_at whole from ≡ 0)
    (marks : List Bool) (are : AreReachedMarks whole from marks) where
  pub rests_kept : (i j : ℕ) → is_kept marks i ≡ true → RestsOn whole i j → is_kept marks j ≡ true
  rests_kept i j e rests = (are.each j).1 (further i j ((are.each i).0 e) rests)

  all_kept : (list : List ℕ) → ((j : ℕ) → Contains list j → is_kept marks j ≡ true) → AreKept marks list
  all_kept list f = all_if (λ i. is_kept marks i ≡ true) list f

  abbrev Among : Nesting V T → ProofItems V T → Type 0
  Among nesting items =
      (i : ℕ) (l : Line V T) → slice_get (lines_to (at nesting items)) i ≡ Some l → slice_get (lines_in outermost whole) i ≡ Some l

  among_front : (nesting : Nesting V T) (items : ProofItems V T) (ls : List (Line V T)) → ((i : ℕ) (l : Line V T) → slice_get (lines_to (at nesting items) ++ ls) i ≡ Some l → slice_get (lines_in outermost whole) i ≡ Some l)
      → Among nesting items
  among_front nesting items ls among i l e = among i l (slice_get-left (lines_to (at nesting items)) ls i l e)

  -- the step of a line
  step_premises : (i : ℕ) (l : Line V T) → slice_get (lines_in outermost whole) i ≡ Some l → is_kept marks i ≡ true → AreKept marks (premises_of l.command)
  step_premises i l here e =
      all_kept (premises_of l.command) (λ j has. rests_kept i j e (on_premise (subst (λ ps. Contains ps j) (sym (premises_are whole i l here)) has)))

  -- the step that closes a scope of these items
  module _ (deep : Nesting V T) (items : ProofItems V T) (s : Step T) (c : ℕ) (index : first_index deep + commands_in items ≡ c)
      (here : slice_get (lines_in outermost whole) c ≡ Some (record { scope = at deep items; command = closing s })) (among : Among deep items) where
    closes_here : closes_at whole c ≡ Some (scope_number deep)
    closes_here = closes_is whole c _ here

    assume_here : (j : ℕ) → IsDirectAssume deep (lines_to (at deep items)) j → IsAssumeIn whole c (scope_number deep) j
    assume_here j d =
        let there = among j d.line d.there in
        record {
          before =
              let below = slice_get_within (lines_to (at deep items)) j d.line d.there in
              let count = lines_count (at deep items) in omega arith;
          scope = scope_is whole j d.line there ∙ d.own;
          assume = ap is_assume (rule_is whole j d.line there) ∙ d.assume;
        }

    closing_kept : All (Contains (assumes_in deep items)) s.discharged → is_kept marks c ≡ true → IsClosingKept marks deep items s
    closing_kept discharged e =
        let assumes : AreKept marks (assumes_in deep items) =
        all_kept (assumes_in deep items) (λ j has. rests_kept c j e (on_assume (scope_number deep) closes_here (assume_here j (assume_line deep items j has)))) in
        record {
          premises = step_premises c _ here e;
          discharged = all_kept s.discharged (λ j has. All-contains (λ i. is_kept marks i ≡ true) (assumes_in deep items) j assumes (All-contains (Contains (assumes_in deep items)) s.discharged j discharged has));
          assumes = assumes;
          end = λ j last. rests_kept c j e (on_last (scope_number deep) closes_here (last_is whole c _ s here refl ∙ last));
        }

    nothing_inside : is_kept marks c ≡ false → (j : ℕ) → first_index deep ≤ j → j < c → is_kept marks j ≡ false
    nothing_inside e j more less = go (kept_or_not (is_kept marks j))
      where
        inside_it : scope_number deep ≤ scope_at whole j
        inside_it =
            let count = lines_count (at deep items) in
            let a = nth_there (lines_to (at deep items)) j (omega arith) in
            let same = scope_is whole j a.0 (among j a.0 a.1) in
            elim (get_append (lines_around deep) (lines_in deep items) j a.0 a.1) [
              | inl p ↦ absurd (let before = p.0 in let around = around_count deep in omega arith)
              | inr p ↦ (let great = (all_at _ (lines_in deep items) _ a.0 (numbers_in deep items) p.1).0 in omega arith)
            ]

        go : (is_kept marks j ≡ true) ⊎ (is_kept marks j ≡ false) → is_kept marks j ≡ false
        go (inr f) = f
        go (inl f) =
            let reached = closer_reached whole formed from c (scope_number deep) within outer closes_here (line_within whole c _ here) j ((are.each j).0 f) less inside_it in
            absurd (not_both ((are.each c).1 reached) e)

  nested_in : (nesting : Nesting V T) (items : ProofItems V T) → AreWellFormed nesting items → Among nesting items → AreNested marks nesting items
  nested_in nesting no_items form among = tt
  nested_in nesting (with_assume items id t) form among =
      let l : Line V T = record { scope = at nesting items; command = assume id t } in
      let join = append_assoc (lines_around nesting) (lines_in nesting items) (l ∷ []) in
      nested_in nesting items form.0
      (among_front nesting items (l ∷ []) (λ i m e. among i m (subst (λ ls. slice_get ls i ≡ Some m) join e)))
  nested_in nesting (with_step items s) form among =
      let l : Line V T = record { scope = at nesting items; command = step s } in
      let join = append_assoc (lines_around nesting) (lines_in nesting items) (l ∷ []) in
      let moved : (i : ℕ) (m : Line V T) → slice_get (lines_to (at nesting items) ++ l ∷ []) i ≡ Some m → slice_get (lines_in outermost whole) i ≡ Some m =
      λ i m e. among i m (subst (λ ls. slice_get ls i ≡ Some m) join e) in
      let count = lines_count (at nesting items) in
      let here = moved (first_index nesting + commands_in items) l (subst (λ k. slice_get (lines_to (at nesting items) ++ l ∷ []) k ≡ Some l) count (slice_get-last (lines_to (at nesting items)) l)) in
      (nested_in nesting items form.0 (among_front nesting items (l ∷ []) moved), λ e. step_premises (first_index nesting + commands_in items) l here e)
  nested_in nesting (with_subproof items bindings proof s) form among =
      let deep = inner nesting items bindings s in
      let l : Line V T = record { scope = at deep proof; command = closing s } in
      let outer_join = append_assoc (lines_around nesting) (lines_in nesting items) (lines_in deep proof ++ l ∷ []) in
      let same = append_assoc (lines_in nesting items) (lines_in deep proof) (l ∷ []) in
      let inner_join = append_assoc (lines_around nesting ++ lines_in nesting items) (lines_in deep proof) (l ∷ []) in
      let to_outer : (i : ℕ) (m : Line V T) → slice_get (lines_to (at nesting items) ++ (lines_in deep proof ++ l ∷ [])) i ≡ Some m → slice_get (lines_in outermost whole) i ≡ Some m =
      λ i m e. among i m (subst (λ ls. slice_get ls i ≡ Some m) (outer_join ∙ ap (λ ls. lines_around nesting ++ ls) (sym same)) e) in
      let to_inner : (i : ℕ) (m : Line V T) → slice_get (lines_to (at deep proof) ++ l ∷ []) i ≡ Some m → slice_get (lines_in outermost whole) i ≡ Some m =
      λ i m e. to_outer i m (subst (λ ls. slice_get ls i ≡ Some m) inner_join e) in
      let c = first_index nesting + commands_in items + commands_in proof in
      let count = lines_count (at deep proof) in
      let here = to_inner c l (subst (λ k. slice_get (lines_to (at deep proof) ++ l ∷ []) k ≡ Some l) count (slice_get-last (lines_to (at deep proof)) l)) in
      let inside_among = among_front deep proof (l ∷ []) to_inner in (
        nested_in nesting items form.0 (among_front nesting items (lines_in deep proof ++ l ∷ []) to_outer),
        nested_in deep proof form.2 inside_among,
        closing_kept deep proof s c refl here inside_among form.3.discharged,
        nothing_inside deep proof s c refl here inside_among,
      )

  pub reached_nested : AreNested marks outermost whole
  reached_nested = nested_in outermost whole formed (λ i l e. e)
