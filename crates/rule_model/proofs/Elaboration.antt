-- Private. An elaboration has the holes and the verdict of the proof that it elaborates.
use Rattle.std.proofs.Common.{◌≡◌, ◌≤◌, ◌+◌, ◌⊎◌, inl, inr, ℕ, suc, List, [], ◌∷◌, ◌++◌, length, slice_get, Some, All, Contains}
use Rattle.std.proofs.Common.{refl, sym, ◌∙◌, ap, subst, append-nil, arith}
use Rattle.std.specs.List.{flat_map}
use Rattle.std.specs.Option.{option_map, option_map_or}
use Rattle.std.proofs.lemmas.Grind.{flat_map-append}
use Rattle.std.proofs.lemmas.List.Elements.{All-nil, All-cons, All-head, All-tail}
use Rattle.std.proofs.lemmas.Option.{slice_get-map, slice_get_within}
use Rattle.term_model.specs.Terms.{Var, Term}
use Rattle.term_model.specs.Unsatisfiable.{Unsatisfiable}
use Rattle.term_model.proofs.Lists.{contains_none, contains_cases, contains_head, contains_later, slice_get-left, slice_get-last}
use Rattle.rule_model.specs.declared.kinds.Kind.{Kind}
use Rattle.rule_model.specs.declared.rules.Mode.{Mode}
use Rattle.rule_model.specs.declared.statuses.Status.{Status}
use Rattle.rule_model.specs.declared.statuses.Verdict.{Verdict}
use Rattle.rule_model.specs.Columns.{checking_in}
use Rattle.rule_model.specs.Commands.{Line, Entry, entry_of, lines_in, own_scope}
use Rattle.rule_model.specs.Elaboration.{Adds, none_added, step_added, assume_added, TakesPlace}
use Rattle.rule_model.specs.Elaboration.{Keeps, nothing_kept, assume_kept, assume_derived, step_kept, subproof_kept, IsElaboration}
use Rattle.rule_model.specs.Holes.{hole_words_from}
use Rattle.rule_model.specs.Proofs.{Step, ProofItems, no_items, with_assume, with_step, with_subproof}
use Rattle.rule_model.specs.Reading.{rule_of, rule_name_of, clause_of, rule_at, rule_name_at}
use Rattle.rule_model.specs.Scopes.{Nesting, outermost, inner}
use Rattle.rule_model.specs.Statuses.{Checking, kind_of_rule, IsStatusBy, IsStatusAt, AreStatuses, Passes, ReachesEmpty, IsVerdict}
use Rattle.rule_model.specs.Truth.{IsWellSortedProof}
use Rattle.rule_model.proofs.LineReading.{rule_is, clause_is, scope_is}
use Rattle.rule_model.proofs.Lines.{get_append, get_one}
use Rattle.rule_model.proofs.Numbers.{lines_in_count}
use Rattle.rule_model.proofs.ScopeRanges.{numbers_in}
use Rattle.rule_model.proofs.Standing.{all_at}
use Rattle.rule_model.proofs.Verdicts.{one_status, some_at, valid_refutes}

-- the word of a rule, where it leaves a hole
abbrev pub word_if : Kind → List ℕ → List (List ℕ)
word_if Kind.Hole word = word ∷ []
word_if Kind.Assumed word = []
word_if Kind.Unknown word = []
word_if (Kind.Judged family) word = []

no_word : (k : Kind) (word : List ℕ) → ¬ (k ≡ Kind.Hole) → word_if k word ≡ []
no_word Kind.Hole word other = absurd (other refl)
no_word Kind.Assumed word other = refl
no_word Kind.Unknown word other = refl
no_word (Kind.Judged family) word other = refl

hole_or_not : (k : Kind) → (k ≡ Kind.Hole) ⊎ ¬ (k ≡ Kind.Hole)
hole_or_not Kind.Hole = inl refl
hole_or_not Kind.Assumed = inr (λ e. cc)
hole_or_not Kind.Unknown = inr (λ e. cc)
hole_or_not (Kind.Judged family) = inr (λ e. cc)

-- what takes a hole's place is a hole with its word
place_word : (c : Checking) {T : Type 0} (old new : Step T) → TakesPlace c old new
    → word_if (kind_of_rule c new.rule) new.rule_name ≡ word_if (kind_of_rule c old.rule) old.rule_name
place_word c old new takes =
    elim (hole_or_not (kind_of_rule c old.rule)) [
      | inl is ↦ let h = takes.hole is in rw (is, h.0, h.1) refl
      | inr other ↦
          no_word (kind_of_rule c new.rule) new.rule_name (λ e. other (takes.no_hole e))
          ∙ sym (no_word (kind_of_rule c old.rule) old.rule_name other)
    ]

module _ (c : Checking) {V T : Type 0} where
  abbrev pub line_word : Line V T → List (List ℕ)
  line_word l = word_if (kind_of_rule c (rule_of l.command)) (rule_name_of l.command)

  -- the words of the holes among the commands of a scope and of those inside it
  abbrev pub words : Nesting V T → ProofItems V T → List (List ℕ)
  words nesting items = flat_map line_word (lines_in nesting items)

  words_one : (lines : List (Line V T)) (l : Line V T) → flat_map line_word (lines ++ l ∷ []) ≡ flat_map line_word lines ++ line_word l
  words_one lines l = flat_map-append line_word lines (l ∷ []) ∙ ap (λ ws. flat_map line_word lines ++ ws) (append-nil (line_word l))

  words_same : (lines : List (Line V T)) (l : Line V T) → line_word l ≡ [] → flat_map line_word (lines ++ l ∷ []) ≡ flat_map line_word lines
  words_same lines l none = words_one lines l ∙ (ap (λ ws. flat_map line_word lines ++ ws) none ∙ append-nil (flat_map line_word lines))

  -- what is added is no hole
  adds_words : (nesting : Nesting V T) (items more : ProofItems V T) → Adds c nesting items more → words nesting more ≡ words nesting items
  adds_words _ _ _ (none_added nesting items) = refl
  adds_words _ _ _ (step_added nesting items more s adds other) =
      words_same (lines_in nesting more) _ (no_word (kind_of_rule c s.rule) s.rule_name other) ∙ adds_words nesting items more adds
  adds_words _ _ _ (assume_added items more id t adds) =
      words_same (lines_in outermost more) _ refl ∙ adds_words outermost items more adds

  words_last : (xs ys : List (Line V T)) (l m : Line V T) → flat_map line_word xs ≡ flat_map line_word ys → line_word l ≡ line_word m
      → flat_map line_word (xs ++ l ∷ []) ≡ flat_map line_word (ys ++ m ∷ [])
  words_last xs ys l m same last =
      words_one xs l ∙ (ap (λ ws. ws ++ line_word l) same ∙ (ap (λ ws. flat_map line_word ys ++ ws) last ∙ sym (words_one ys m)))

  pub keeps_words : (around new_around : Nesting V T) (items kept : ProofItems V T) → Keeps c around items new_around kept
      → words new_around kept ≡ words around items
  keeps_words _ _ _ _ (nothing_kept around new_around) = refl
  keeps_words _ _ _ _ (assume_kept around new_around items kept more id new_id t keeps adds) =
      words_last (lines_in new_around more) (lines_in around items) _ _
      (adds_words new_around kept more adds ∙ keeps_words around new_around items kept keeps) refl
  keeps_words _ _ _ _ (assume_derived items kept more id t s keeps adds clause other) =
      words_last (lines_in outermost more) (lines_in outermost items) _ _
      (adds_words outermost kept more adds ∙ keeps_words outermost outermost items kept keeps) (no_word (kind_of_rule c s.rule) s.rule_name other)
  keeps_words _ _ _ _ (step_kept around new_around items kept more old new keeps adds takes) =
      words_last (lines_in new_around more) (lines_in around items) _ _
      (adds_words new_around kept more adds ∙ keeps_words around new_around items kept keeps) (place_word c old new takes)
  keeps_words _ _ _ _ (subproof_kept around new_around items kept more inner_items inner_kept bindings old new keeps adds within takes same) =
      words_last
      (lines_in new_around more ++ lines_in (inner new_around more bindings new) inner_kept)
      (lines_in around items ++ lines_in (inner around items bindings old) inner_items) _ _
      (words_joined (lines_in new_around more) (lines_in (inner new_around more bindings new) inner_kept) (lines_in around items)
      (lines_in (inner around items bindings old) inner_items)
      (adds_words new_around kept more adds ∙ keeps_words around new_around items kept keeps)
      (keeps_words (inner around items bindings old) (inner new_around more bindings new) inner_items inner_kept within))
      (place_word c old new takes)
    where
      words_joined : (xs ys zs ws : List (Line V T)) → flat_map line_word xs ≡ flat_map line_word zs → flat_map line_word ys ≡ flat_map line_word ws
          → flat_map line_word (xs ++ ys) ≡ flat_map line_word (zs ++ ws)
      words_joined xs ys zs ws first second =
          flat_map-append line_word xs ys
          ∙ (ap (λ us. us ++ flat_map line_word ys) first ∙ (ap (λ us. flat_map line_word zs ++ us) second ∙ sym (flat_map-append line_word zs ws)))

  -- Some step of the scope has the empty clause.
  abbrev HasEmpty : ProofItems V T → Type 0
  HasEmpty no_items = ⊥
  HasEmpty (with_assume items id t) = HasEmpty items
  HasEmpty (with_step items s) = HasEmpty items ⊎ (s.clause ≡ [])
  HasEmpty (with_subproof items bindings proof s) = HasEmpty items ⊎ (s.clause ≡ [])

  adds_empty : (nesting : Nesting V T) (items more : ProofItems V T) → Adds c nesting items more → HasEmpty items → HasEmpty more
  adds_empty _ _ _ (none_added nesting items) h = h
  adds_empty _ _ _ (step_added nesting items more s adds other) h = inl (adds_empty nesting items more adds h)
  adds_empty _ _ _ (assume_added items more id t adds) h = adds_empty outermost items more adds h

  keeps_empty : (around new_around : Nesting V T) (items kept : ProofItems V T) → Keeps c around items new_around kept → HasEmpty items → HasEmpty kept
  keeps_empty _ _ _ _ (nothing_kept around new_around) h = h
  keeps_empty _ _ _ _ (assume_kept around new_around items kept more id new_id t keeps adds) h =
      adds_empty new_around kept more adds (keeps_empty around new_around items kept keeps h)
  keeps_empty _ _ _ _ (assume_derived items kept more id t s keeps adds clause other) h =
      inl (adds_empty outermost kept more adds (keeps_empty outermost outermost items kept keeps h))
  keeps_empty _ _ _ _ (step_kept around new_around items kept more old new keeps adds takes) (inl h) =
      inl (adds_empty new_around kept more adds (keeps_empty around new_around items kept keeps h))
  keeps_empty _ _ _ _ (step_kept around new_around items kept more old new keeps adds takes) (inr e) = inr (takes.clause ∙ e)
  keeps_empty _ _ _ _ (subproof_kept around new_around items kept more inner_items inner_kept bindings old new keeps adds within takes same) (inl h) =
      inl (adds_empty new_around kept more adds (keeps_empty around new_around items kept keeps h))
  keeps_empty _ _ _ _ (subproof_kept around new_around items kept more inner_items inner_kept bindings old new keeps adds within takes same) (inr e) =
      inr (takes.clause ∙ e)

-- a command of the outermost scope with the empty clause
module _ {V T : Type 0} where
  record EmptyLine (lines : List (Line V T)) : Type 0 where
    index : ℕ
    line : Line V T
    here : slice_get lines index ≡ Some line
    scope : own_scope line.scope.nesting line.command ≡ 0
    empty : clause_of line.command ≡ []

  in_front : (xs ys : List (Line V T)) → EmptyLine xs → EmptyLine (xs ++ ys)
  in_front xs ys e =
      record { index = e.index; line = e.line; here = slice_get-left xs ys e.index e.line e.here; scope = e.scope; empty = e.empty }

  last : (xs : List (Line V T)) (l : Line V T) → own_scope l.scope.nesting l.command ≡ 0 → clause_of l.command ≡ [] → EmptyLine (xs ++ l ∷ [])
  last xs l scope empty = record { index = length xs; line = l; here = slice_get-last xs l; scope = scope; empty = empty }

  empty_line : (c : Checking) (items : ProofItems V T) → HasEmpty c items → EmptyLine (lines_in outermost items)
  empty_line c no_items h = absurd h
  empty_line c (with_assume items id t) h = in_front (lines_in outermost items) _ (empty_line c items h)
  empty_line c (with_step items s) (inl h) = in_front (lines_in outermost items) _ (empty_line c items h)
  empty_line c (with_step items s) (inr e) = last (lines_in outermost items) _ refl e
  empty_line c (with_subproof items bindings proof s) (inl h) =
      in_front (lines_in outermost items ++ lines_in (inner outermost items bindings s) proof) _
      (in_front (lines_in outermost items) (lines_in (inner outermost items bindings s) proof) (empty_line c items h))
  empty_line c (with_subproof items bindings proof s) (inr e) =
      last (lines_in outermost items ++ lines_in (inner outermost items bindings s) proof) _ refl e

  abbrev inner_lines : ProofItems V T → List (V × T) → ProofItems V T → Step T → List (Line V T)
  inner_lines items bindings proof s = lines_in (inner outermost items bindings s) proof

  has_empty : (c : Checking) (items : ProofItems V T) (k : ℕ) (l : Line V T) → slice_get (lines_in outermost items) k ≡ Some l
      → own_scope l.scope.nesting l.command ≡ 0 → clause_of l.command ≡ [] → HasEmpty c items
  has_empty c no_items k l here scope empty = absurd cc
  has_empty c (with_assume items id t) k l here scope empty =
      elim (get_append (lines_in outermost items) _ k l here) [
        | inl p ↦ has_empty c items k l p.1 scope empty
        | inr p ↦ absurd (filled (ap (λ (m : Line V T). clause_of m.command) (get_one _ _ l p.1).1 ∙ empty))
      ]
    where
      filled : t ∷ [] ≡ [] → ⊥
      filled e = cc
  has_empty c (with_step items s) k l here scope empty =
      elim (get_append (lines_in outermost items) _ k l here) [
        | inl p ↦ inl (has_empty c items k l p.1 scope empty)
        | inr p ↦ inr (ap (λ (m : Line V T). clause_of m.command) (get_one _ _ l p.1).1 ∙ empty)
      ]
  has_empty c (with_subproof items bindings proof s) k l here scope empty =
      elim (get_append (lines_in outermost items ++ lines_in (inner outermost items bindings s) proof) _ k l here) [
        | inl p ↦
            elim (get_append (lines_in outermost items) (lines_in (inner outermost items bindings s) proof) k l p.1) [
              | inl q ↦ inl (has_empty c items k l q.1 scope empty)
              | inr q ↦ absurd (deeper (all_at _ (inner_lines items bindings proof s) _ l (numbers_in (inner outermost items bindings s) proof) q.1))
            ]
        | inr p ↦ inr (ap (λ (m : Line V T). clause_of m.command) (get_one _ _ l p.1).1 ∙ empty)
      ]
    where
      deeper : {n : ℕ} {P : Type 0} → (suc n ≤ own_scope l.scope.nesting l.command) × P → ⊥
      deeper h = let less = h.0 in omega arith

-- the holes by the statuses
module _ (c : Checking) {V T : Type 0} (proof : ProofItems V T) where
  rule_name_is : (i : ℕ) (l : Line V T) → slice_get (lines_in outermost proof) i ≡ Some l → rule_name_at proof i ≡ rule_name_of l.command
  rule_name_is i l here =
      ap (λ e. option_map_or (λ (e : Entry T). rule_name_of e.command) e [])
      (slice_get-map entry_of (lines_in outermost proof) i ∙ ap (option_map entry_of) here)

module _ (c : Checking) (proof : ProofItems Var Term) where
  one_word : (i : ℕ) (s : Status) (k : Kind) (statuses : List Status) → IsStatusBy k c proof i s
      → hole_words_from proof i (s ∷ statuses) ≡ word_if k (rule_name_at proof i) ++ hole_words_from proof (suc i) statuses
  one_word i Status.Hole Kind.Hole statuses h = refl
  one_word i Status.Hole Kind.Assumed statuses h = absurd h
  one_word i Status.Hole Kind.Unknown statuses h = absurd h
  one_word i Status.Hole (Kind.Judged family) statuses h = absurd h
  one_word i Status.Ok Kind.Hole statuses h = absurd h
  one_word i Status.Ok Kind.Assumed statuses h = refl
  one_word i Status.Ok Kind.Unknown statuses h = refl
  one_word i Status.Ok (Kind.Judged family) statuses h = refl
  one_word i (Status.Faulty cause) Kind.Hole statuses h = absurd h
  one_word i (Status.Faulty cause) Kind.Assumed statuses h = refl
  one_word i (Status.Faulty cause) Kind.Unknown statuses h = refl
  one_word i (Status.Faulty cause) (Kind.Judged family) statuses h = refl
  one_word i Status.Wide Kind.Hole statuses h = absurd h
  one_word i Status.Wide Kind.Assumed statuses h = refl
  one_word i Status.Wide Kind.Unknown statuses h = refl
  one_word i Status.Wide (Kind.Judged family) statuses h = refl

  words_by : (i : ℕ) (lines : List (Line Var Term)) (statuses : List Status) → length statuses ≡ length lines
      → ((k : ℕ) (l : Line Var Term) → slice_get lines k ≡ Some l → slice_get (lines_in outermost proof) (i + k) ≡ Some l)
      → ((k : ℕ) (s : Status) → slice_get statuses k ≡ Some s → IsStatusAt c proof (i + k) s)
      → hole_words_from proof i statuses ≡ flat_map (line_word c) lines
  words_by i [] [] count there are = refl
  words_by i [] (s ∷ statuses) count there are = absurd (omega arith)
  words_by i (l ∷ lines) [] count there are = absurd (omega arith)
  words_by i (l ∷ lines) (s ∷ statuses) count there are =
      one_word i s (kind_of_rule c (rule_at proof i)) statuses status
      ∙ (ap (λ ws. ws ++ hole_words_from proof (suc i) statuses) word
      ∙ ap (λ ws. line_word c l ++ ws) (words_by (suc i) lines statuses (omega arith) lines_later statuses_later))
    where
      first : i + 0 ≡ i
      first = omega arith

      here : slice_get (lines_in outermost proof) i ≡ Some l
      here = subst (λ j. slice_get (lines_in outermost proof) j ≡ Some l) first (there 0 l refl)

      status : IsStatusAt c proof i s
      status = subst (λ j. IsStatusAt c proof j s) first (are 0 s refl)

      word : word_if (kind_of_rule c (rule_at proof i)) (rule_name_at proof i) ≡ line_word c l
      word = rw (rule_is proof i l here, rule_name_is c proof i l here) refl

      later : (k : ℕ) → i + suc k ≡ suc i + k
      later k = omega arith

      lines_later : (k : ℕ) (m : Line Var Term) → slice_get lines k ≡ Some m → slice_get (lines_in outermost proof) (suc i + k) ≡ Some m
      lines_later k m h = subst (λ j. slice_get (lines_in outermost proof) j ≡ Some m) (later k) (there (suc k) m h)

      statuses_later : (k : ℕ) (z : Status) → slice_get statuses k ≡ Some z → IsStatusAt c proof (suc i + k) z
      statuses_later k z h = subst (λ j. IsStatusAt c proof j z) (later k) (are (suc k) z h)

  hole_words_are : (statuses : List Status) → AreStatuses c proof statuses → hole_words_from proof 0 statuses ≡ words c outermost proof
  hole_words_are statuses are =
      words_by 0 (lines_in outermost proof) statuses (are.count ∙ sym (lines_in_count outermost proof))
      (λ k l h. subst (λ j. slice_get (lines_in outermost proof) j ≡ Some l) (sym (from_zero k)) h)
      (λ k s h. subst (λ j. IsStatusAt c proof j s) (sym (from_zero k)) (are.each k s h))
    where
      from_zero : (k : ℕ) → 0 + k ≡ k
      from_zero k = omega arith

-- where all pass, the holes are those that are not Ok
module _ {V T : Type 0} (proof : ProofItems V T) where
  no_words : (i : ℕ) (statuses : List Status) → All (λ s. s ≡ Status.Ok) statuses → hole_words_from proof i statuses ≡ []
  no_words i [] all = refl
  no_words i (s ∷ statuses) all =
      rw (All-head (λ s. s ≡ Status.Ok) s statuses all) (no_words (suc i) statuses (All-tail (λ s. s ≡ Status.Ok) s statuses all))

  all_ok : (i : ℕ) (statuses : List Status) → All Passes statuses → hole_words_from proof i statuses ≡ [] → All (λ s. s ≡ Status.Ok) statuses
  all_ok i [] all none = All-nil (λ s. s ≡ Status.Ok)
  all_ok i (Status.Ok ∷ statuses) all none =
      All-cons (λ s. s ≡ Status.Ok) Status.Ok statuses refl (all_ok (suc i) statuses (All-tail Passes Status.Ok statuses all) none)
  all_ok i (Status.Hole ∷ statuses) all none = absurd cc
  all_ok i (Status.Faulty cause ∷ statuses) all none = absurd (All-head Passes (Status.Faulty cause) statuses all)
  all_ok i (Status.Wide ∷ statuses) all none = absurd (All-head Passes Status.Wide statuses all)

  has_words : (i : ℕ) (statuses : List Status) → Contains statuses Status.Hole → hole_words_from proof i statuses ≡ [] → ⊥
  has_words i [] there none = contains_none Status.Hole there
  has_words i (Status.Hole ∷ statuses) there none = cc
  has_words i (Status.Ok ∷ statuses) there none =
      elim (contains_cases Status.Ok Status.Hole statuses there) [ inl e ↦ cc | inr later ↦ has_words (suc i) statuses later none ]
  has_words i (Status.Faulty cause ∷ statuses) there none =
      elim (contains_cases (Status.Faulty cause) Status.Hole statuses there) [ inl e ↦ cc | inr later ↦ has_words (suc i) statuses later none ]
  has_words i (Status.Wide ∷ statuses) there none =
      elim (contains_cases Status.Wide Status.Hole statuses there) [ inl e ↦ cc | inr later ↦ has_words (suc i) statuses later none ]

  has_hole : (i : ℕ) (statuses : List Status) → (hole_words_from proof i statuses ≡ [] → ⊥) → Contains statuses Status.Hole
  has_hole i [] some = absurd (some refl)
  has_hole i (Status.Hole ∷ statuses) some = contains_head Status.Hole statuses
  has_hole i (Status.Ok ∷ statuses) some = contains_later Status.Ok Status.Hole statuses (has_hole (suc i) statuses some)
  has_hole i (Status.Faulty cause ∷ statuses) some = contains_later (Status.Faulty cause) Status.Hole statuses (has_hole (suc i) statuses some)
  has_hole i (Status.Wide ∷ statuses) some = contains_later Status.Wide Status.Hole statuses (has_hole (suc i) statuses some)

same_list : (ss zs : List Status) → length ss ≡ length zs
    → ((k : ℕ) (s z : Status) → slice_get ss k ≡ Some s → slice_get zs k ≡ Some z → s ≡ z) → ss ≡ zs
same_list [] [] count same = refl
same_list [] (z ∷ zs) count same = absurd (omega arith)
same_list (s ∷ ss) [] count same = absurd (omega arith)
same_list (s ∷ ss) (z ∷ zs) count same =
    ap (λ x. x ∷ ss) (same 0 s z refl refl) ∙ ap (λ xs. z ∷ xs) (same_list ss zs (omega arith) (λ k a b e f. same (suc k) a b e f))

reaches_empty : (proof : ProofItems Var Term) → EmptyLine (lines_in outermost proof) → ReachesEmpty proof
reaches_empty proof e =
    let within = slice_get_within (lines_in outermost proof) e.index e.line e.here in
    record {
      index = e.index;
      within = let count = lines_in_count outermost proof in omega arith;
      scope = scope_is proof e.index e.line e.here ∙ e.scope;
      empty = clause_is proof e.index e.line e.here ∙ e.empty;
    }

module _ (c : Checking) (mode : Mode) (old new : ProofItems Var Term) (e : IsElaboration c old new) where
  pub all_pass : (news : List Status) → AreStatuses (checking_in Mode.Strict c) new news → All Passes news
  all_pass news are =
      subst (All Passes)
      (same_list e.statuses news (e.are.count ∙ sym are.count)
      (λ k s z f g. one_status (checking_in Mode.Strict c) new k s z (e.are.each k s f) (are.each k z g)))
      e.pass

  keeps_reached : ReachesEmpty old → ReachesEmpty new
  keeps_reached r =
      let count = lines_in_count outermost old in
      let within = r.within in
      let l = some_at (lines_in outermost old) r.index (omega arith) in
      reaches_empty new (empty_line c new (keeps_empty c outermost outermost old new e.kept
      (has_empty c old r.index l.0 l.1 (sym (scope_is old r.index l.0 l.1) ∙ r.scope) (sym (clause_is old r.index l.0 l.1) ∙ r.empty))))

  module _ (statuses news : List Status) (are : AreStatuses (checking_in mode c) old statuses)
      (new_are : AreStatuses (checking_in Mode.Strict c) new news) where
    pub same_words : hole_words_from new 0 news ≡ hole_words_from old 0 statuses
    same_words =
        hole_words_are (checking_in Mode.Strict c) new news new_are
        ∙ (keeps_words c outermost outermost old new e.kept ∙ sym (hole_words_are (checking_in mode c) old statuses are))

    pub keeps_valid : IsVerdict statuses old Verdict.Valid → IsVerdict news new Verdict.Valid
    keeps_valid valid =
        (all_ok new 0 news (all_pass news new_are) (same_words ∙ no_words old 0 statuses valid.0), keeps_reached valid.1)

    pub keeps_holey : IsVerdict statuses old Verdict.Holey → IsVerdict news new Verdict.Holey
    keeps_holey holey = (
      all_pass news new_are,
      has_hole new 0 news (λ none. has_words old 0 statuses holey.1 (sym same_words ∙ none)),
      keeps_reached holey.2,
    )

  pub refutes : (statuses : List Status) → IsWellSortedProof old → AreStatuses (checking_in mode c) old statuses
      → IsVerdict statuses old Verdict.Valid → Unsatisfiable c.assertions
  refutes statuses sorted are valid =
      valid_refutes (checking_in Mode.Strict c) new e.formed (e.sorted sorted) e.statuses e.are
      (keeps_valid statuses e.statuses are e.are valid)
