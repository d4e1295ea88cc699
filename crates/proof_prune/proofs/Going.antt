-- The anchors are gone through that stand before a command.
use Rattle.std.proofs.Common.{◌≡◌, ◌<◌, ◌≤◌, ◌+◌, ◌⊎◌, inl, inr, ℕ, Bool, true, false, List, [], length, slice_get, slice_index, Some, refl, sym, ◌∙◌, ap, subst, arith, if◌then◌else◌}
use Rattle.std.specs.Option.{option_map, option_map_or}
use Rattle.std.proofs.lemmas.Option.{slice_get-map, slice_get_within}
use Rattle.proof_store.specs.Steps.{anchor_with}
use Rattle.rule_model.specs.Commands.{Line, Entry, entry_of, entries, lines_in, scopes}
use Rattle.rule_model.specs.Proofs.{ProofItems, no_items, with_assume, with_step, with_subproof}
use Rattle.rule_model.specs.Reading.{id_of, id_at, bindings_at, rule_name_of, rule_name_at}
use Rattle.rule_model.specs.Scopes.{Anchor, Nesting, outermost, inside, Scope, at, commands_in, subproofs_in, scope_number, first_index, next_index, next_scope}
use Rattle.rule_model.specs.WellFormed.{MayOpen}
use Rattle.rule_model.specs.Writing.{open_anchor}
use Rattle.rule_model.proofs.LineReading.{bindings_are, closed_entry}
use Rattle.rule_model.proofs.Numbers.{scopes_in_count}
use Rattle.pruned_proofs.specs.KeptScopes.{kept_nesting, kept_scope}
use Rattle.pruned_proofs.specs.Pruned.{new_index, kept_items}
use Rattle.pruned_proofs.specs.Reached.{is_kept}
use Rattle.pruned_proofs.proofs.Counting.{kept_or_not}
use Rattle.pruned_proofs.proofs.Resting.{line_within}
use Rattle.proof_prune.specs.Order.{Opens, inner_at, written_to}
use Rattle.proof_prune.specs.Pruning.{Job, IsJob, State, is_scope_kept, left_at, left_of, IsWrittenTo, IsOnWay, IsAtLine, IsOpening, opened_scope}
use Rattle.proof_prune.proofs.Leaving.{open_dropped, open_kept, open_may}
use Rattle.proof_prune.proofs.OldLines.{IsClosedAt, Closes, opens_further, opens_index, opens_closes, opens_to, line_closes, closes_less, index_is, end_of, end_behind, line_there}
use Rattle.proof_prune.proofs.Scopes.{closer_same, around_open, id_of_anchor, IsOpenLeft}

module _ (proof : ProofItems ℕ ℕ) (i : ℕ) (l : Line ℕ ℕ) (here : slice_get (lines_in outermost proof) i ≡ Some l) where
  entry_here : slice_get (entries proof) i ≡ Some (entry_of l)
  entry_here = slice_get-map entry_of (lines_in outermost proof) i ∙ ap (option_map entry_of) here

  pub id_is : id_at proof i ≡ id_of l.command
  id_is = ap (λ e. option_map_or (λ (e : Entry ℕ). id_of e.command) e []) entry_here

  pub rule_name_is : rule_name_at proof i ≡ rule_name_of l.command
  rule_name_is = ap (λ e. option_map_or (λ (e : Entry ℕ). rule_name_of e.command) e []) entry_here

-- what is left has no more scopes
fewer_in : (marks : List Bool) (first : ℕ) (items : ProofItems ℕ ℕ) → subproofs_in (kept_items marks first items) ≤ subproofs_in items
fewer_in marks first no_items = omega arith
fewer_in marks first (with_assume items id t) = go (is_kept marks (first + commands_in items)) (fewer_in marks first items)
  where
    go : (b : Bool) → subproofs_in (kept_items marks first items) ≤ subproofs_in items → subproofs_in (if b then with_assume (kept_items marks first items) id t else kept_items marks first items) ≤ subproofs_in items
    go true ih = ih
    go false ih = ih
fewer_in marks first (with_step items s) = go (is_kept marks (first + commands_in items)) (fewer_in marks first items)
  where
    go : (b : Bool) → subproofs_in (kept_items marks first items) ≤ subproofs_in items
        → subproofs_in (if b then with_step (kept_items marks first items) (Rattle.pruned_proofs.specs.Pruned.renumbered marks s) else kept_items marks first items) ≤ subproofs_in items
    go true ih = ih
    go false ih = ih
fewer_in marks first (with_subproof items bindings proof s) =
    go (is_kept marks (first + commands_in items + commands_in proof)) (fewer_in marks first items) (fewer_in marks (first + commands_in items) proof)
  where
    go : (b : Bool) → subproofs_in (kept_items marks first items) ≤ subproofs_in items → subproofs_in (kept_items marks (first + commands_in items) proof) ≤ subproofs_in proof
        → subproofs_in (if b then with_subproof (kept_items marks first items) bindings (kept_items marks (first + commands_in items) proof) (Rattle.pruned_proofs.specs.Pruned.renumbered marks s) else kept_items marks first items)
        ≤ subproofs_in (with_subproof items bindings proof s)
    go true ih deeper = omega arith
    go false ih deeper = omega arith

fewer_around : (marks : List Bool) (n : Nesting ℕ ℕ) → scope_number (kept_nesting marks n) ≤ scope_number n
fewer_around marks outermost = omega arith
fewer_around marks (inside around before anchor) =
    let outer = fewer_around marks around in let here = fewer_in marks (first_index around) before in omega arith

fewer_left : (job : Job) (n : Nesting ℕ ℕ) (items : ProofItems ℕ ℕ) → next_scope (left_at job n items) ≤ next_scope (at n items)
fewer_left job outermost items = let here = fewer_in job.marks 0 items in omega arith
fewer_left job (inside around before anchor) items =
    go (is_scope_kept job (inside around before anchor)) (fewer_around job.marks (inside around before anchor)) (fewer_in job.marks (first_index (inside around before anchor)) items) (fewer_left job around before)
  where
    go : (b : Bool) → scope_number (kept_nesting job.marks (inside around before anchor)) ≤ scope_number (inside around before anchor)
        → subproofs_in (kept_items job.marks (first_index (inside around before anchor)) items) ≤ subproofs_in items → next_scope (left_at job around before) ≤ next_scope (at around before)
        → next_scope (if b then kept_scope job.marks (at (inside around before anchor) items) else left_at job around before) ≤ next_scope (at (inside around before anchor) items)
    go true outer here ih = omega arith
    go false outer here ih = omega arith

-- the anchor that is gone through next, and the step that is to close its scope
pub record IsNext (job : Job) (i : ℕ) (s : State) : Type 0 where
  pub line : Line ℕ ℕ
  pub there : slice_get (lines_in outermost job.proof) i ≡ Some line
  pub scope : Scope ℕ ℕ
  pub anchor : Anchor ℕ ℕ
  pub opens : Opens (open_anchor scope anchor) line.scope
  pub written : IsWrittenTo job scope s
  pub closer : ℕ
  pub closed : IsClosedAt job.proof scope.nesting scope.items anchor closer
  pub closes : Closes job.proof (inside scope.nesting scope.items anchor) (next_index scope)

module _ (job : Job) (is : IsJob job) (i : ℕ) (s : State) where
  inner_is : (l : Line ℕ ℕ) → slice_get (lines_in outermost job.proof) i ≡ Some l → inner_at job.proof i ≡ scope_number l.scope.nesting
  inner_is l there = ap (λ o. option_map_or (λ (m : Line ℕ ℕ). scope_number m.scope.nesting) o 0) there

  pub next_is : (way : IsOnWay job i s) → s.opened ≤ scope_number way.line.scope.nesting → IsNext job i s
  unfolding Closes
  next_is way further = go (opens_further way.scope way.line.scope way.opens)
    where
      go : (way.scope ≡ way.line.scope) ⊎ ((anchor : Anchor ℕ ℕ) × Opens (open_anchor way.scope anchor) way.line.scope × (next_scope way.scope ≤ scope_number way.line.scope.nesting)) → IsNext job i s
      go (inl same) =
          let opened = way.written.opened in
          let number = ap (λ (x : Scope ℕ ℕ). scope_number x.nesting) same in
          absurd (omega arith)
      go (inr (anchor, rest, less)) =
          let index = index_is job.proof i way.line way.there in
          let later = opens_index way.scope way.line.scope way.opens in
          let all = line_closes job.proof i way.line is.formed way.there in
          let own = closes_less job.proof way.line.scope.nesting (end_of job.proof way.line.scope way.line.command) (next_index way.line.scope) (end_behind job.proof way.line.scope way.line.command) all in
          let here = opens_closes job.proof (open_anchor way.scope anchor) way.line.scope (next_index way.line.scope) rest own in
          record {
            line = way.line;
            there = way.there;
            scope = way.scope;
            anchor = anchor;
            opens = rest;
            written = way.written;
            closer = here.0;
            closed = here.2;
            closes = closes_less job.proof (inside way.scope.nesting way.scope.items anchor) (next_index way.line.scope) (next_index way.scope) (omega arith) here;
          }

  -- what is asked of the next anchor
  module _ (n : IsNext job i s) where
    number : scope_number (inside n.scope.nesting n.scope.items n.anchor) ≡ s.opened
    number = sym n.written.opened

    closer_is : slice_index job.closers s.opened ≡ n.closer
    closer_is = ap (slice_index job.closers) (sym number) ∙ closer_same job is n.scope.nesting n.scope.items n.anchor n.closer n.closed

    pub closers_within : s.opened < length job.closers
    closers_within =
        slice_get_within job.closers s.opened n.closer
        (subst (λ k. slice_get job.closers k ≡ Some n.closer) number (is.closers n.closer _ (Rattle.rule_model.proofs.LineReading.closes_is job.proof n.closer _ n.closed.there)))

    anchor_is : anchor_with (id_at job.proof n.closer) (bindings_at job.proof s.opened) ≡ n.anchor
    anchor_is =
        let id = id_is job.proof n.closer _ n.closed.there ∙ id_of_anchor job.proof n.closer _ n.closed.there n.closed.last n.scope.nesting n.scope.items n.anchor refl refl in
        let bindings = subst (λ k. bindings_at job.proof k ≡ n.anchor.bindings) number (bindings_are job.proof n.closer _ n.closed.last n.closed.there refl) in
        λ t. record { id = id t; bindings = bindings t }

    open_around : is_kept job.marks n.closer ≡ true → IsOpenLeft job is n.scope.nesting
    open_around e =
        around_open job is n.scope.nesting n.scope.items n.anchor (next_index n.scope) n.closes
        (ap (is_kept job.marks) (closer_same job is n.scope.nesting n.scope.items n.anchor n.closer n.closed) ∙ e)

    pub opening : IsOpening job s.opened n.closer s.builder
    opening = record {
      within = line_within job.proof n.closer _ n.closed.there;
      scope_within = within;
      may = λ e. subst (λ a. MayOpen s.builder.nesting s.builder.items a) (sym anchor_is)
          (subst (λ (b : Scope ℕ ℕ). MayOpen b.nesting b.items n.anchor) (sym n.written.builder) (open_may job is n.scope n.anchor n.closer n.closed (open_around e)));
      few =
          let less = fewer_left job n.scope.nesting n.scope.items in
          let same = ap (λ (b : Scope ℕ ℕ). next_scope b) n.written.builder in
          let few = is.few_scopes in
          let w = within in
          let o = n.written.opened in omega arith;
    }
      where
        within : s.opened ≤ subproofs_in job.proof
        within =
            let below = slice_get_within (scopes job.proof) (scope_number (inside n.scope.nesting n.scope.items n.anchor)) _ (closed_entry job.proof n.closer _ n.closed.last n.closed.there refl) in
            let count = scopes_in_count outermost job.proof in
            let same = number in omega arith

    pub gone_through : (b : Scope ℕ ℕ) → b ≡ opened_scope job s.opened n.closer s.builder → IsOnWay job i (record { builder = b; places = s.places; count = s.count; opened = s.opened + 1 })
    gone_through b same = record {
      line = n.line;
      there = n.there;
      scope = open_anchor n.scope n.anchor;
      opens = n.opens;
      written = record {
        builder = same ∙ go (kept_or_not (is_kept job.marks n.closer));
        opened = let o = n.written.opened in omega arith;
        count = n.written.count ∙ ap (new_index job.marks) index;
        places = n.written.places ∙ index;
        each = λ j less. n.written.each j (let e = index in omega arith);
      };
    }
      where
        index : next_index n.scope ≡ next_index (open_anchor n.scope n.anchor)
        index = omega arith

        kept_is : is_scope_kept job (inside n.scope.nesting n.scope.items n.anchor) ≡ is_kept job.marks n.closer
        kept_is = ap (is_kept job.marks) (closer_same job is n.scope.nesting n.scope.items n.anchor n.closer n.closed)

        go : (is_kept job.marks n.closer ≡ true) ⊎ (is_kept job.marks n.closer ≡ false) → opened_scope job s.opened n.closer s.builder ≡ left_of job (open_anchor n.scope n.anchor)
        go (inl e) =
            rw e (ap (open_anchor s.builder) anchor_is ∙ (ap (λ (x : Scope ℕ ℕ). open_anchor x n.anchor) n.written.builder ∙ sym (open_kept job is n.scope n.anchor (kept_is ∙ e) (open_around e))))
        go (inr e) = rw e (n.written.builder ∙ sym (open_dropped job is n.scope n.anchor (kept_is ∙ e)))

-- on the way to a command, from what is written behind the one before it
pub way_init : (job : Job) (i : ℕ) (s : State) → i < commands_in job.proof → IsWrittenTo job (written_to job.proof i) s → IsOnWay job i s
way_init job i s within written =
    let l = line_there job.proof i within in
    record { line = l.0; there = l.1; scope = written_to job.proof i; opens = opens_to job.proof i l.0 l.1; written = written }

pub way_done : (job : Job) (is : IsJob job) (i : ℕ) (s : State) → IsOnWay job i s → inner_at job.proof i < s.opened → IsAtLine job i s
way_done job is i s way done = go (opens_further way.scope way.line.scope way.opens)
  where
    go : (way.scope ≡ way.line.scope) ⊎ ((anchor : Anchor ℕ ℕ) × Opens (open_anchor way.scope anchor) way.line.scope × (next_scope way.scope ≤ scope_number way.line.scope.nesting)) → IsAtLine job i s
    go (inl same) = record { line = way.line; there = way.there; written = subst (λ x. IsWrittenTo job x s) same way.written }
    go (inr more) =
        let less = more.2 in
        let e = inner_is job is i s way.line way.there in
        let o = way.written.opened in absurd (omega arith)

-- the next anchor, by the number of its scope and of the step that is to close it
pub record IsOpeningNow (job : Job) (i : ℕ) (s : State) (closer : ℕ) : Type 0 where
  pub opening : IsOpening job s.opened closer s.builder
  pub way : (b : Scope ℕ ℕ) → b ≡ opened_scope job s.opened closer s.builder → IsOnWay job i (record { builder = b; places = s.places; count = s.count; opened = s.opened + 1 })

module _ (job : Job) (is : IsJob job) (i : ℕ) (s : State) (way : IsOnWay job i s) (further : s.opened ≤ inner_at job.proof i) where
  next_now : IsNext job i s
  next_now = next_is job is i s way (let e = inner_is job is i s way.line way.there in omega arith)

  pub within_now : s.opened < length job.closers
  within_now = closers_within job is i s next_now

  pub opening_now : (closer : ℕ) → closer ≡ slice_index job.closers s.opened → IsOpeningNow job i s closer
  opening_now closer same =
      subst (IsOpeningNow job i s) (sym (same ∙ closer_is job is i s next_now))
      (record { opening = opening job is i s next_now; way = gone_through job is i s next_now })
