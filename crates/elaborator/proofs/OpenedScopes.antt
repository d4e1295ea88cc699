-- A scope is opened, behind the steps that are added for the step that is to close it.
use Rattle.std.proofs.Common.{◌≡◌, ◌<◌, ◌≤◌, ◌+◌, ◌-◌, ◌^◌, ◌⊎◌, inl, inr, ℕ, List, [], ◌∷◌, ◌++◌, map, length, slice_get, All, AllPairs, Contains, Some, refl, sym, ◌∙◌, ap, subst, arith}
use Rattle.std.proofs.lemmas.List.{length-append}
use Rattle.term_model.proofs.Lists.{slice_get-left, slice_get-last}
use Rattle.proof_store.specs.AddedSteps.{AddedStep}
use Rattle.proof_store.specs.Steps.{anchor_with}
use Rattle.rule_model.specs.Commands.{Line, closing, lines_in, lines_to}
use Rattle.rule_model.specs.Elaboration.{Adds, nothing_kept}
use Rattle.rule_model.specs.Proofs.{no_items}
use Rattle.rule_model.specs.Reading.{bindings_at}
use Rattle.rule_model.specs.Scopes.{Anchor, outermost, inside, Scope, at, commands_in, scope_number, next_index, next_scope}
use Rattle.rule_model.specs.Visibility.{visible, open_bindings, assumes_in}
use Rattle.rule_model.specs.WellFormed.{MayOpen}
use Rattle.rule_model.specs.Writing.{open_anchor}
use Rattle.rule_model.proofs.LineReading.{bindings_are}
use Rattle.rule_model.proofs.Writing.{lines_open}
use Rattle.elaborator.specs.declared.putting.Opened.{Opened}
use Rattle.elaborator.specs.Names.{name_of}
use Rattle.elaborator.specs.Reached.{State, seen_in, new_name, IsPlacedIn, IsExtended, Job, IsJob, AreAround, IsReached, Opens, needed_to, IsOnWay, closer_of, IsLevel, IsSeenAs}
use Rattle.elaborator.specs.Steps.{front, block_at}
use Rattle.elaborator.proofs.AddedSources.{sources_front}
use Rattle.elaborator.proofs.Levels.{Grows, grows_then, extended_grows, all_placed, level_more, around_more, same_open, seen_as_more}
use Rattle.elaborator.proofs.OldLines.{IsClosedAt, Closes, opens_further, opens_index, opens_closes, line_closes, closes_less, index_is, end_of, end_behind}
use Rattle.elaborator.proofs.Rooms.{closer_same, room_inside, front_length, closer_is}
use Rattle.elaborator.proofs.Seeing.{visible_opened, contains_left}
use Rattle.elaborator.proofs.Sourcing.{source_more, told_on}
use Rattle.elaborator.proofs.Tidy.{new_id, tidy_open}
use Rattle.rule_model.proofs.Numbers.{lines_in_count}
use Rattle.std.proofs.lemmas.Option.{slice_get_within}

-- the scope that is opened next, and the step that is to close it
pub record IsNext (job : Job) (i : ℕ) (s : State) : Type 0 where
  pub line : Line ℕ ℕ
  pub there : slice_get (lines_in outermost job.proof) i ≡ Some line
  pub scope : Scope ℕ ℕ
  pub anchor : Anchor ℕ ℕ
  pub opens : Opens (open_anchor scope anchor) line.scope
  pub reached : IsReached job scope s
  pub closer : ℕ
  pub closed : IsClosedAt job.proof scope.nesting scope.items anchor closer
  pub closes : Closes job.proof (inside scope.nesting scope.items anchor) (next_index scope)

module _ (job : Job) (is : IsJob job) (i : ℕ) (s : State) where
  pub next_is : (way : IsOnWay job i s) → length s.opened ≤ scope_number way.line.scope.nesting → IsNext job i s
  unfolding Closes
  next_is way further = go (opens_further way.scope way.line.scope way.opens)
    where
      go : (way.scope ≡ way.line.scope) ⊎ ((anchor : Anchor ℕ ℕ) × Opens (open_anchor way.scope anchor) way.line.scope × (next_scope way.scope ≤ scope_number way.line.scope.nesting)) → IsNext job i s
      go (inl same) =
          let opened = way.reached.opened in
          let number = ap (λ (x : Scope ℕ ℕ). scope_number x.nesting) same in
          absurd (omega arith)
      go (inr (anchor, rest, less)) =
          let index = index_is job.proof i way.line way.there in
          let later = opens_index way.scope way.line.scope way.opens in
          let all = line_closes job.proof i way.line is.formed way.there in
          let own = closes_less job.proof way.line.scope.nesting (end_of job.proof way.line.scope way.line.command) (next_index way.line.scope) (end_behind job.proof way.line.scope way.line.command) all in
          let here = opens_closes job.proof (open_anchor way.scope anchor) way.line.scope (next_index way.line.scope) rest own in
          record {
            line = way.line;
            there = way.there;
            scope = way.scope;
            anchor = anchor;
            opens = rest;
            reached = way.reached;
            closer = here.0;
            closed = here.2;
            closes = closes_less job.proof (inside way.scope.nesting way.scope.items anchor) (next_index way.line.scope) (next_index way.scope) (omega arith) here;
          }

module _ (job : Job) (is : IsJob job) (i : ℕ) (s : State) (h : IsNext job i s) where
  -- its number is the next one
  pub number : scope_number (inside h.scope.nesting h.scope.items h.anchor) ≡ length s.opened
  number = sym h.reached.opened

  pub closer_there : slice_get job.closers (length s.opened) ≡ Some h.closer
  closer_there =
      subst (λ k. slice_get job.closers k ≡ Some h.closer) number
      (closer_is job is h.scope.nesting h.scope.items h.anchor h.closer h.closed)

  pub closer_within : h.closer < commands_in job.proof
  closer_within =
      let within = slice_get_within (lines_in outermost job.proof) h.closer _ h.closed.there in
      let lines = lines_in_count outermost job.proof in omega arith

  -- its moved steps and its closing step have room
  pub room_here : next_index s.builder + length (front (block_at job.blocks h.closer)) + 1 < 2 ^ 32 - 1
  room_here =
      let same = closer_same job is h.scope.nesting h.scope.items h.anchor h.closer h.closed in
      let own = ap (λ j. length (block_at job.blocks j) - 1) same in
      let size = front_length (block_at job.blocks h.closer) in
      let room = room_inside job is h.scope.nesting h.scope.items h.anchor (next_index h.scope) h.closes in
      let before = h.reached.room in
      let few = is.few in omega arith

  -- the terms that the anchor binds
  pub bindings_here : bindings_at job.proof (length s.opened) ≡ h.anchor.bindings
  bindings_here =
      subst (λ k. bindings_at job.proof k ≡ h.anchor.bindings) number (bindings_are job.proof h.closer _ h.closed.last h.closed.there refl)

  module _ (t : State) (ext : IsExtended (front (block_at job.blocks h.closer)) s t) (bindings : List (ℕ × ℕ)) (same : bindings ≡ h.anchor.bindings)
      (few : next_index t.builder + 1 < 2 ^ 32 - 1) where
    around_now : AreAround job t h.scope.nesting t.builder.nesting
    around_now =
        subst (AreAround job t h.scope.nesting) (sym ext.nesting)
        (around_more s t (extended_grows (front (block_at job.blocks h.closer)) s t ext) job h.scope.nesting s.builder.nesting h.reached.around)

    pub may_open : MayOpen t.builder.nesting t.builder.items (anchor_with (name_of (new_name t)) bindings)
    may_open =
        let bound = same_open job t h.scope.nesting t.builder.nesting around_now in
        record {
          id = new_id t ext.tidy few;
          distinct = subst (λ bs. AllPairs (λ x y. ¬ (x ≡ y)) (map (λ (b : ℕ × ℕ). b.0) bs)) (sym same) h.closed.may.distinct;
          unbound = subst (λ bs. All (λ x. ¬ Contains (map (λ (b : ℕ × ℕ). b.0) bs) x) (map (λ (b : ℕ × ℕ). b.0) bindings)) (sym bound)
              (subst (λ bs. All (λ x. ¬ Contains (map (λ (b : ℕ × ℕ). b.0) (open_bindings h.scope.nesting)) x) (map (λ (b : ℕ × ℕ). b.0) bs)) (sym same) h.closed.may.unbound);
        }

    module _ (o : Opened) (start : o.start ≡ next_index s.builder) (name : o.name ≡ new_name t) (small : length s.opened + 1 < 2 ^ 32) where
      abbrev pub new_anchor : Anchor ℕ ℕ
      new_anchor = anchor_with (name_of (new_name t)) bindings

      abbrev pub u : State
      u = record { builder = open_anchor t.builder new_anchor; places = t.places; opened = t.opened ++ o ∷ []; count = t.count }

      grows_here : Grows t u
      grows_here = record {
        places = λ j p e. e;
        opened = λ k q e. slice_get-left t.opened (o ∷ []) k q e;
        lines = λ k l e. subst (λ ls. slice_get ls k ≡ Some l) (sym (lines_open t.builder new_anchor)) e;
      }

      grows : Grows s u
      grows = grows_then s t u (extended_grows (front (block_at job.blocks h.closer)) s t ext) grows_here

      opened_same : length t.opened ≡ length s.opened
      opened_same = ap length ext.opened

      seen_stays : (q : ℕ) → Contains (visible s.builder.nesting s.builder.items) q → Contains (visible t.builder.nesting t.builder.items) q
      seen_stays q has =
          subst (λ xs. Contains xs q) (sym ext.seen) (contains_left (seen_in s) ext.more_seen q has)

      pub reached_open : IsReached job (open_anchor h.scope h.anchor) u
      reached_open = record {
        tidy = tidy_open t ext.tidy few bindings o (let e = opened_same in omega arith);
        around = (
          subst (AreAround job u h.scope.nesting) (sym ext.nesting) (around_more s u grows job h.scope.nesting s.builder.nesting h.reached.around),
          record {
            kept = s.builder.items;
            level = subst (λ n. IsLevel job.proof u h.scope.nesting h.scope.items n s.builder.items) (sym ext.nesting)
                (level_more s u grows job.proof h.scope.nesting h.scope.items s.builder.nesting s.builder.items h.reached.level);
            adds = λ c. subst (λ n. Adds c n s.builder.items t.builder.items) (sym ext.nesting) (ext.adds c);
            sees = λ j has. seen_stays j (subst (λ n. Contains (visible n s.builder.items) j) ext.nesting has);
            assumes = elim ext.assumes [
              | inl stay ↦ inl (subst (λ n. assumes_in n t.builder.items ≡ assumes_in n s.builder.items) (sym ext.nesting) stay)
              | inr outer ↦ inr (ext.nesting ∙ outer)
            ];
            bindings = same;
            number = ap scope_number ext.nesting ∙ h.reached.number;
            opened = o;
            is_opened = subst (λ k. slice_get (t.opened ++ o ∷ []) k ≡ Some o) (opened_same ∙ sym number) (slice_get-last t.opened o);
            id = ap name_of (sym name);
            moved = λ m a e. moved m a (subst (λ k. slice_get (front (block_at job.blocks k)) m ≡ Some a) closer_same_here e);
          },
        );
        level = record {
          keeps = λ c. nothing_kept (inside h.scope.nesting h.scope.items h.anchor) (inside t.builder.nesting t.builder.items new_anchor);
          sees = subst (λ xs. All (IsPlacedIn t.places (visible (inside t.builder.nesting t.builder.items new_anchor) no_items)) xs) (sym (visible_opened h.scope.nesting h.scope.items h.anchor))
              (subst (λ xs. All (IsPlacedIn t.places xs) (visible h.scope.nesting h.scope.items)) (sym (visible_opened t.builder.nesting t.builder.items new_anchor))
              (all_placed s t (extended_grows (front (block_at job.blocks h.closer)) s t ext) (visible s.builder.nesting s.builder.items) (visible t.builder.nesting t.builder.items)
              (visible h.scope.nesting h.scope.items) seen_stays h.reached.level.sees));
          assumes = inl tt;
          last = tt;
        };
        order = subst (λ (ps : List ℕ). (i j p q : ℕ) → i < j → slice_get ps i ≡ Some p → slice_get ps j ≡ Some q → p < q) (sym ext.places) h.reached.order;
        places = let e = ap length ext.places in let f = h.reached.places in omega arith;
        opened = let e = opened_same in let f = h.reached.opened in let g = length-append t.opened (o ∷ []) in omega arith;
        number = let a = ext.tidy.scopes in let e = opened_same in let f = h.reached.opened in omega arith;
        told = told_on s u grows job h.reached.told t.places ext.places;
        sources = λ k l e. source_more t u grows_here job k l (sources_front job is h.closer closing_line h.closed.there s t h.scope h.reached refl ext k l (subst (λ ls. slice_get ls k ≡ Some l) (lines_open t.builder new_anchor) e));
        room =
            let own = ap (λ j. length (block_at job.blocks j) - 1) closer_same_here in
            let size = front_length (block_at job.blocks h.closer) in
            let before = h.reached.room in
            let c = ext.count in
            let index : next_index (open_anchor h.scope h.anchor) ≡ next_index h.scope = omega arith in
            let needed = ap (needed_to job) index in
            omega arith;
      }
        where
          closing_line : Line ℕ ℕ
          closing_line =
              record { scope = at (inside h.scope.nesting h.scope.items h.anchor) h.closed.items; command = closing h.closed.last }

          closer_same_here : closer_of job (inside h.scope.nesting h.scope.items h.anchor) ≡ h.closer
          closer_same_here = closer_same job is h.scope.nesting h.scope.items h.anchor h.closer h.closed

          moved : (m : ℕ) (a : AddedStep) → slice_get (front (block_at job.blocks h.closer)) m ≡ Some a →
              IsSeenAs (lines_to u.builder) (visible t.builder.nesting t.builder.items) a.clause (o.start + m)
          moved m a e =
              subst (λ k. IsSeenAs (lines_to u.builder) (visible t.builder.nesting t.builder.items) a.clause (k + m)) (sym start)
              (seen_as_more t u grows_here (visible t.builder.nesting t.builder.items) a.clause (next_index s.builder + m) (ext.each m a e))
