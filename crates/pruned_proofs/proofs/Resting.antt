-- Cited by crates above. On what a command rests stands before it, in a scope that is open at it; so the step that closes a
-- scope is reached where a command inside the scope is.
use Rattle.std.proofs.Common.{◌≡◌, ◌<◌, ◌≤◌, ◌+◌, ◌⊎◌, inl, inr, ℕ, List, [], ◌∷◌, ◌++◌, length, slice_get, Some, Contains, refl, sym, ◌∙◌, ap, subst, arith}
use Rattle.std.proofs.lemmas.Bool.{cases_lt}
use Rattle.std.proofs.lemmas.List.{append_assoc, length-append}
use Rattle.std.proofs.lemmas.List.Elements.{Contains-append_left, Contains-append_right}
use Rattle.std.proofs.lemmas.Option.{slice_get_within}
use Rattle.term_model.proofs.Basics.{same_some}
use Rattle.term_model.proofs.Lists.{slice_get-last, contains_head, nth_there}
use Rattle.rule_model.specs.Commands.{IndexedCommand, assume, step, closing, Line, lines_in, lines_around, own_scope, closed_scope}
use Rattle.rule_model.specs.Proofs.{Step, ProofItems, no_items, with_assume, with_step, with_subproof}
use Rattle.rule_model.specs.Reading.{scope_at, closes_at, last_inside_at}
use Rattle.rule_model.specs.Scopes.{Nesting, outermost, inside, at, inner, commands_in, scope_number, first_index, last_index}
use Rattle.rule_model.specs.Visibility.{open_scopes}
use Rattle.rule_model.specs.WellFormed.{IsWellFormed}
use Rattle.rule_model.specs.Writing.{MayAddHere, own_nesting}
use Rattle.rule_model.proofs.LineReading.{premises_are, scope_is, closes_is, last_is}
use Rattle.rule_model.proofs.Lines.{lines_before}
use Rattle.rule_model.proofs.Numbers.{lines_count, lines_in_count}
use Rattle.rule_model.proofs.ScopeRanges.{together}
use Rattle.rule_model.proofs.Standing.{command_may, premise_earlier, premise_encloses, slice_get_taken}
use Rattle.pruned_proofs.specs.Reached.{RestsOn, on_premise, on_last, on_assume, IsReached, start, further}
use Rattle.pruned_proofs.proofs.Isolation.{number, between_lines}

-- a command that closes a scope is a closing step, and the scope is the one in which it is reached
pub record IsClosing {V T : Type 0} (l : Line V T) (k : ℕ) : Type 0 where
  pub s : Step T
  pub command : l.command ≡ closing s
  pub scope : scope_number l.scope.nesting ≡ k

pub is_closing : {V T : Type 0} (l : Line V T) (k : ℕ) → closed_scope l.scope.nesting l.command ≡ Some k → IsClosing l k
is_closing {V} {T} l k e = go l.command refl e
  where
    go : (c : IndexedCommand T) → l.command ≡ c → closed_scope l.scope.nesting c ≡ Some k → IsClosing l k
    go (assume id t) same e = absurd (cc)
    go (step s) same e = absurd (cc)
    go (closing s) same e = record { s = s; command = same; scope = same_some e }

module _ {V T : Type 0} where
  pub own_open : (nesting : Nesting V T) → Contains (open_scopes nesting) (scope_number nesting)
  own_open outermost = contains_head 0 []
  own_open (inside around before anchor) =
      Contains-append_right (open_scopes around) (scope_number (inside around before anchor) ∷ []) _ (contains_head _ [])

  open_inside : (nesting : Nesting V T) (c : IndexedCommand T) (m : ℕ) → Contains (open_scopes (own_nesting nesting c)) m → Contains (open_scopes nesting) m
  open_inside nesting (assume id t) m has = has
  open_inside nesting (step s) m has = has
  open_inside outermost (closing s) m has = has
  open_inside (inside around before anchor) (closing s) m has = Contains-append_left (open_scopes around) _ m has

  -- the last command directly in a scope has a line
  abbrev LastLine : Nesting V T → ProofItems V T → ℕ → Type 0
  LastLine nesting items j =
      (l : Line V T) × (slice_get (lines_around nesting ++ lines_in nesting items) j ≡ Some l) × (number l ≡ scope_number nesting)

  at_end : (xs ys : List (Line V T)) (l : Line V T) (j : ℕ) → length xs + length ys ≡ j → slice_get (xs ++ (ys ++ l ∷ [])) j ≡ Some l
  at_end xs ys l j e =
      subst (λ ls. slice_get ls j ≡ Some l) (append_assoc xs ys (l ∷ []))
      (subst (λ k. slice_get ((xs ++ ys) ++ l ∷ []) k ≡ Some l) (length-append xs ys ∙ e) (slice_get-last (xs ++ ys) l))

  pub around_count : (nesting : Nesting V T) → length (lines_around nesting) ≡ first_index nesting
  around_count nesting =
      let whole = lines_count (at nesting no_items) in
      let join = length-append (lines_around nesting) (lines_in nesting no_items) in
      let none : length (lines_in nesting no_items) ≡ 0 = refl in omega arith

  pub last_line : (nesting : Nesting V T) (items : ProofItems V T) (j : ℕ) → last_index nesting items ≡ Some j → LastLine nesting items j
  last_line nesting no_items j e = absurd (cc)
  last_line nesting (with_assume items id t) j e =
      let index = same_some e in
      let around = around_count nesting in
      let count = lines_in_count nesting items in
      (_, at_end (lines_around nesting) (lines_in nesting items) _ j (omega arith), refl)
  last_line nesting (with_step items s) j e =
      let index = same_some e in
      let around = around_count nesting in
      let count = lines_in_count nesting items in
      (_, at_end (lines_around nesting) (lines_in nesting items) _ j (omega arith), refl)
  last_line nesting (with_subproof items bindings proof s) j e =
      let index = same_some e in
      let around = around_count nesting in
      let deep = inner nesting items bindings s in
      let count = lines_in_count nesting items in
      let more = lines_in_count deep proof in
      let both = length-append (lines_in nesting items) (lines_in deep proof) in
      (_, at_end (lines_around nesting) (lines_in nesting items ++ lines_in deep proof) _ j (omega arith), refl)

module _ {V T : Type 0} (proof : ProofItems V T) where
  pub line_at : (i : ℕ) → i < commands_in proof → (l : Line V T) × (slice_get (lines_in outermost proof) i ≡ Some l)
  line_at i within = let count = lines_in_count outermost proof in nth_there (lines_in outermost proof) i (omega arith)

  pub line_within : (i : ℕ) (l : Line V T) → slice_get (lines_in outermost proof) i ≡ Some l → i < commands_in proof
  line_within i l here =
      let count = lines_in_count outermost proof in
      let within = slice_get_within (lines_in outermost proof) i l here in omega arith

  -- the step that closes a scope belongs to one with a smaller number
  pub closes_above : IsWellFormed proof → (c k : ℕ) (b : Line V T) → slice_get (lines_in outermost proof) c ≡ Some b → closes_at proof c ≡ Some k → number b < k
  closes_above formed c k b there closes =
      let is = is_closing b k (sym (closes_is proof c b there) ∙ closes) in
      let may = subst (MayAddHere b.scope) is.command (command_may proof c b formed there) in
      let own = above b.scope.nesting b.scope.items is.s may in
      let e = is.scope in
      let same = ap (own_scope b.scope.nesting) is.command in omega arith
    where
      above : (n : Nesting V T) (items : ProofItems V T) (s : Step T) → MayAddHere (at n items) (closing s) → own_scope n (closing s) < scope_number n
      above outermost items s may = absurd may
      above (inside around before anchor) items s may = omega arith

  -- what a command rests on stands before it and belongs to a scope that is open at it
  pub record RestsBefore (i j : ℕ) (l : Line V T) : Type 0 where
    pub line : Line V T
    pub there : slice_get (lines_in outermost proof) j ≡ Some line
    pub earlier : j < i
    pub opened : Contains (open_scopes l.scope.nesting) (number line)

  pub rests_before : IsWellFormed proof → (i j : ℕ) (l : Line V T) → slice_get (lines_in outermost proof) i ≡ Some l → RestsOn proof i j → RestsBefore i j l
  rests_before formed i j l here (on_premise has) =
      let mine = subst (λ ps. Contains ps j) (premises_are proof i l here) has in
      let earlier = premise_earlier proof i j l formed here mine in
      let within = line_within i l here in
      let a = line_at j (omega arith) in
      record {
        line = a.0;
        there = a.1;
        earlier = earlier;
        opened = open_inside l.scope.nesting l.command (number a.0) (premise_encloses proof i j l a.0 formed here mine a.1);
      }
  rests_before formed i j l here (on_last k closes last) =
      let is = is_closing l k (sym (closes_is proof i l here) ∙ closes) in
      let ends = sym (last_is proof i l is.s here is.command) ∙ (ap (last_inside_at proof) is.scope ∙ last) in
      let a = last_line l.scope.nesting l.scope.items j ends in
      let before = lines_before outermost proof i l here in
      let taken = subst (λ ls. slice_get ls j ≡ Some a.0) before a.1 in
      record {
        line = a.0;
        there = slice_get_taken i (lines_in outermost proof) j a.0 taken;
        earlier =
            let within = slice_get_within _ j a.0 taken in
            let few = Rattle.rule_model.proofs.Standing.taken_few i (lines_in outermost proof) in omega arith;
        opened = subst (Contains (open_scopes l.scope.nesting)) (sym a.2) (own_open l.scope.nesting);
      }
  rests_before formed i j l here (on_assume k closes is_in) =
      let is = is_closing l k (sym (closes_is proof i l here) ∙ closes) in
      let within = line_within i l here in
      let less = is_in.before in
      let a = line_at j (omega arith) in
      record {
        line = a.0;
        there = a.1;
        earlier = less;
        opened = subst (Contains (open_scopes l.scope.nesting)) (is.scope ∙ (sym is_in.scope ∙ scope_is proof j a.0 a.1)) (own_open l.scope.nesting);
      }

  pub reached_within : IsWellFormed proof → (from i : ℕ) → from < commands_in proof → IsReached proof from i → i < commands_in proof
  reached_within formed from _ within start = within
  reached_within formed from j within (further i _ reached rests) =
      let ih = reached_within formed from i within reached in
      let l = line_at i ih in
      let before = (rests_before formed i j l.0 l.1 rests).earlier in omega arith

  -- nothing behind the step that closes a scope rests on what stands inside
  isolated : IsWellFormed proof → (i j c k : ℕ) (l : Line V T) → slice_get (lines_in outermost proof) i ≡ Some l → RestsOn proof i j → closes_at proof c ≡ Some k
      → j < c → k ≤ scope_at proof j → i ≤ c
  isolated formed i j c k l here rests closes less inside_it = go (cases_lt c i)
    where
      go : (c < i) ⊎ (i ≤ c) → i ≤ c
      go (inr h) = h
      go (inl behind) =
          let a = rests_before formed i j l here rests in
          let within = line_within i l here in
          let b = line_at c (omega arith) in
          let great = between_lines proof i (number a.line) j c l a.line b.0 here a.opened less behind a.there refl b.1 in
          let above = closes_above formed c k b.0 b.1 closes in
          let scope = scope_is proof j a.line a.there in absurd (omega arith)

  -- where a command inside a scope is reached from the outermost scope, the step that closes the scope is
  pub closer_reached : IsWellFormed proof → (from c k : ℕ) → from < commands_in proof → scope_at proof from ≡ 0 → closes_at proof c ≡ Some k → c < commands_in proof
      → (j : ℕ) → IsReached proof from j → j < c → k ≤ scope_at proof j → IsReached proof from c
  closer_reached formed from c k within outer closes there _ start less inside_it =
      let b = line_at c there in
      let above = closes_above formed c k b.0 b.1 closes in absurd (omega arith)
  closer_reached formed from c k within outer closes there j (further i _ reached rests) less inside_it =
      let l = line_at i (reached_within formed from i within reached) in
      let up_to = isolated formed i j c k l.0 l.1 rests closes less inside_it in
      go (cases_lt i c) (closer_reached formed from c k within outer closes there i reached) l.0 l.1 up_to
    where
      go : (i < c) ⊎ (c ≤ i) → (i < c → k ≤ scope_at proof i → IsReached proof from c) → (l : Line V T) → slice_get (lines_in outermost proof) i ≡ Some l → i ≤ c → IsReached proof from c
      go (inr h) ih l here up_to = let e : i ≡ c = omega arith in subst (IsReached proof from) e reached
      go (inl h) ih l here up_to =
          let range = together proof c k closes in
          let earlier = (rests_before formed i j l here rests).earlier in
          let first = (range.1 j less).1 inside_it in
          ih h ((range.1 i h).0 (omega arith))
