-- A command that closes nothing is written, behind the steps that are added for it.
use Rattle.std.proofs.Common.{◌≡◌, ◌<◌, ◌⊎◌, inl, inr, ℕ, suc, List, [], ◌∷◌, ◌++◌, length, slice_get, Some, All, Contains, sym, ◌∙◌, ap, subst, arith}
use Rattle.std.specs.List.{AllZip}
use Rattle.std.proofs.lemmas.List.{length-append}
use Rattle.std.proofs.lemmas.List.Elements.{All-push, Contains-push}
use Rattle.term_model.proofs.Lists.{slice_get-last}
use Rattle.rule_model.specs.Commands.{lines_to}
use Rattle.rule_model.specs.Reading.{clause_at}
use Rattle.rule_model.proofs.Numbers.{lines_count}
use Rattle.rule_model.specs.Elaboration.{Keeps}
use Rattle.rule_model.specs.Proofs.{ProofItems}
use Rattle.rule_model.specs.Scopes.{outermost, Scope, at, commands_in, last_index, next_index, next_scope, scope_number}
use Rattle.rule_model.specs.Statuses.{Checking}
use Rattle.rule_model.specs.Visibility.{visible, assumes_in}
use Rattle.elaborator.specs.Reached.{State, seen_in, placed, IsPlacedIn, IsExtended, Job, IsJob, AreAround, IsReached, needed_to, LineSource, AreSourced}
use Rattle.elaborator.specs.Sources.{IsAt, AreAt}
use Rattle.elaborator.specs.Steps.{front, block_at}
use Rattle.elaborator.proofs.Extending.{IsMore}
use Rattle.elaborator.proofs.Levels.{Grows, grows_then, extended_grows, more_grows, placed_grows, all_placed, assumes_more, around_more, outer_back}
use Rattle.elaborator.proofs.Rooms.{needed_suc}
use Rattle.elaborator.proofs.Seeing.{contains_left}
use Rattle.elaborator.proofs.Sourcing.{order_next, sources_next, told_last, told_next}
use Rattle.elaborator.proofs.Tidy.{tidy_placed}

module _ (job : Job) (is : IsJob job) (old : Scope ℕ ℕ) (i : ℕ) (index : next_index old ≡ i) (less : i < commands_in job.proof)
    (s t u : State) (clause : List ℕ) (reached : IsReached job old s) (ext : IsExtended (front (block_at job.blocks i)) s t) (m : IsMore t u clause) where
  abbrev p : ℕ
  p = next_index t.builder

  v : State
  v = placed p u

  grows : Grows s v
  unfolding v
  grows =
      grows_then s t v (extended_grows (front (block_at job.blocks i)) s t ext)
      (grows_then t u v (more_grows t u clause m) (placed_grows u p))

  seen_stays : (q : ℕ) → Contains (seen_in s) q → Contains (seen_in u) q
  seen_stays q has =
      subst (λ xs. Contains xs q) (sym (m.seen ∙ ap (λ xs. xs ++ p ∷ []) ext.seen))
      (contains_left (seen_in s ++ ext.more_seen) (p ∷ []) q (contains_left (seen_in s) ext.more_seen q has))

  placed_here : slice_get (u.places ++ p ∷ []) i ≡ Some p
  placed_here =
      let count : length u.places ≡ i = ap length (m.places ∙ ext.places) ∙ (reached.places ∙ index) in
      subst (λ k. slice_get (u.places ++ p ∷ []) k ≡ Some p) count (slice_get-last u.places p)

  nest : u.builder.nesting ≡ s.builder.nesting
  nest = m.nesting ∙ ext.nesting

  pub reached_next : (items : ProofItems ℕ ℕ) → next_index (at old.nesting items) ≡ suc i → next_scope (at old.nesting items) ≡ next_scope old
      → visible old.nesting items ≡ visible old.nesting old.items ++ i ∷ []
      → ((c : Checking) → Keeps c old.nesting items u.builder.nesting u.builder.items)
      → AllZip (λ j q. slice_get (u.places ++ p ∷ []) j ≡ Some q) (assumes_in old.nesting items) (assumes_in u.builder.nesting u.builder.items) ⊎ (old.nesting ≡ outermost)
      → clause ≡ clause_at job.proof i → AreSourced job t → (IsAt (u.places ++ p ∷ []) i p → LineSource job (u.places ++ p ∷ []) (lines_to u.builder) p m.line)
      → last_index old.nesting items ≡ Some i → last_index u.builder.nesting u.builder.items ≡ Some p
      → IsReached job (at old.nesting items) (placed p u)
  unfolding v
  reached_next items next scope visible_old keeps assumes clause_same sources source ends ends_new = record {
    tidy = tidy_placed u p m.tidy;
    around = subst (AreAround job v old.nesting) (sym nest) (around_more s v grows job old.nesting s.builder.nesting reached.around);
    level = record {
      keeps = keeps;
      sees = subst (All (IsPlacedIn (u.places ++ p ∷ []) (seen_in u))) (sym visible_old)
          (All-push (IsPlacedIn (u.places ++ p ∷ []) (seen_in u)) (visible old.nesting old.items) i
          (all_placed s v grows (seen_in s) (seen_in u) (visible old.nesting old.items) seen_stays reached.level.sees)
          (record { place = p; is = placed_here; seen = subst (λ xs. Contains xs p) (sym m.seen) (Contains-push (seen_in t) p) }));
      assumes = assumes;
      last = subst (λ o. AreAt (u.places ++ p ∷ []) o (last_index u.builder.nesting u.builder.items)) (sym ends)
          (subst (AreAt (u.places ++ p ∷ []) (Some i)) (sym ends_new) placed_here);
    };
    order = order_next s v grows job reached.told reached.order u.places (m.places ∙ ext.places) p
        (let a = lines_count s.builder in let c = ext.count in omega arith);
    places =
        let count : length u.places ≡ i = ap length (m.places ∙ ext.places) ∙ (reached.places ∙ index) in
        let longer = length-append u.places (p ∷ []) in omega arith;
    opened = ap length (m.opened ∙ ext.opened) ∙ (reached.opened ∙ sym scope);
    number = ap scope_number nest ∙ reached.number;
    told = told_next s v grows job reached.told u.places (m.places ∙ ext.places) i p (reached.places ∙ index)
        (told_last (lines_to t.builder) (lines_to u.builder) m.line p (clause_at job.proof i) m.lines (lines_count t.builder) (m.clause_is ∙ clause_same));
    sources = sources_next t v (grows_then t u v (more_grows t u clause m) (placed_grows u p)) job m.line p m.lines sources (lines_count t.builder) (source placed_here);
    room =
        let before = reached.room in
        let same = ap (needed_to job) index in
        let last = ap (needed_to job) next in
        let more = needed_suc job is i less in
        let c = ext.count in
        let d = m.count in omega arith;
  }

  -- the assumes of the scope stay the same where a step is written
  pub assumes_step : assumes_in u.builder.nesting u.builder.items ≡ assumes_in t.builder.nesting t.builder.items
      → AllZip (λ j q. slice_get (u.places ++ p ∷ []) j ≡ Some q) (assumes_in old.nesting old.items) (assumes_in u.builder.nesting u.builder.items) ⊎ (old.nesting ≡ outermost)
  unfolding v
  assumes_step same = go reached.level.assumes ext.assumes
    where
      go : AllZip (λ j q. slice_get s.places j ≡ Some q) (assumes_in old.nesting old.items) (assumes_in s.builder.nesting s.builder.items) ⊎ (old.nesting ≡ outermost)
          → (assumes_in s.builder.nesting t.builder.items ≡ assumes_in s.builder.nesting s.builder.items) ⊎ (s.builder.nesting ≡ outermost)
          → AllZip (λ j q. slice_get (u.places ++ p ∷ []) j ≡ Some q) (assumes_in old.nesting old.items) (assumes_in u.builder.nesting u.builder.items) ⊎ (old.nesting ≡ outermost)
      go (inr outer) _ = inr outer
      go (inl zip) (inr outer) = inr (outer_back job s old.nesting s.builder.nesting reached.around outer)
      go (inl zip) (inl stay) =
          let new = same ∙ (ap (λ n. assumes_in n t.builder.items) ext.nesting ∙ stay) in
          inl (subst (AllZip (λ j q. slice_get (u.places ++ p ∷ []) j ≡ Some q) (assumes_in old.nesting old.items)) (sym new)
          (assumes_more s v grows (assumes_in old.nesting old.items) (assumes_in s.builder.nesting s.builder.items) zip))
