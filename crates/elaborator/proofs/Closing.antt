-- A step is written that closes a scope.
use Rattle.std.proofs.Common.{◌≡◌, ◌<◌, ◌+◌, ◌-◌, ◌⊎◌, inl, inr, ℕ, zero, suc, List, [], ◌∷◌, ◌++◌, map, length, slice_get, slice_index, slice_index_or, Some, All, Contains, refl, sym, ◌∙◌, ap, subst, arith}
use Rattle.std.specs.List.{AllZip, AllByRecursion}
use Rattle.std.proofs.lemmas.List.{length-append}
use Rattle.std.proofs.lemmas.List.Elements.{All-push, All-map, All-weaker, Contains-push, recursion_from_All}
use Rattle.std.proofs.lemmas.Option.{slice_get_within}
use Rattle.term_model.proofs.Lists.{slice_get-last, slice_get-left, all_joined}
use Rattle.rule_model.specs.Commands.{IndexedCommand, assume, step, closing, Line, lines_in, lines_to}
use Rattle.rule_model.specs.Elaboration.{Keeps, subproof_kept, TakesPlace, IsSamePlace}
use Rattle.rule_model.specs.Proofs.{Step, ProofItems, no_items, with_assume, with_step, with_subproof}
use Rattle.rule_model.specs.Reading.{clause_at}
use Rattle.rule_model.specs.Scopes.{Anchor, Nesting, outermost, inside, Scope, at, inner, commands_in, first_index, next_index}
use Rattle.rule_model.specs.Statuses.{Checking}
use Rattle.rule_model.specs.Visibility.{visible, assumes_in}
use Rattle.rule_model.proofs.Numbers.{lines_count}
use Rattle.rule_model.proofs.Standing.{all_at}
use Rattle.rule_model.proofs.Writing.{same_nesting, lines_close}
use Rattle.elaborator.specs.Reached.{State, one_more, placed, IsPlacedIn, Job, IsJob, IsLevel, IsOpened, AreAround, IsReached, LineSource, ahead, needed_to}
use Rattle.elaborator.specs.Steps.{block_at}
use Rattle.elaborator.proofs.Levels.{Grows, around_more, all_placed, assumes_more, outer_back}
use Rattle.elaborator.proofs.OldLines.{index_is}
use Rattle.elaborator.proofs.Rooms.{needed_suc, front_length, closer_of_line}
use Rattle.elaborator.proofs.Seeing.{contains_left, index_of_get, visible_subproof}
use Rattle.elaborator.proofs.Sourcing.{order_next, sources_next, told_last, told_next}
use Rattle.elaborator.proofs.Tidy.{tidy_close, tidy_placed}

-- a closing step has the id of the anchor
abbrev HasId : Nesting ℕ ℕ → IndexedCommand ℕ → Type 0
HasId outermost (closing s) = ⊥
HasId (inside around before anchor) (closing s) = anchor.id ≡ s.id
HasId nesting command = Unit {0}

lines_have_ids : (nesting : Nesting ℕ ℕ) (items : ProofItems ℕ ℕ) → AllByRecursion (λ l. HasId l.scope.nesting l.command) (lines_in nesting items)
lines_have_ids nesting no_items = tt
lines_have_ids nesting (with_assume items id t) = all_joined _ (lines_in nesting items) _ (lines_have_ids nesting items) (assumed nesting, tt)
  where
    assumed : (n : Nesting ℕ ℕ) → HasId n (assume id t)
    assumed outermost = tt
    assumed (inside around before anchor) = tt
lines_have_ids nesting (with_step items s) = all_joined _ (lines_in nesting items) _ (lines_have_ids nesting items) (stepped nesting, tt)
  where
    stepped : (n : Nesting ℕ ℕ) → HasId n (step s)
    stepped outermost = tt
    stepped (inside around before anchor) = tt
lines_have_ids nesting (with_subproof items bindings proof s) =
    all_joined _ (lines_in nesting items ++ lines_in (inner nesting items bindings s) proof) _
    (all_joined _ (lines_in nesting items) _ (lines_have_ids nesting items) (lines_have_ids (inner nesting items bindings s) proof))
    (refl, tt)

pub has_id : (proof : ProofItems ℕ ℕ) (i : ℕ) (l : Line ℕ ℕ) → slice_get (lines_in outermost proof) i ≡ Some l → HasId l.scope.nesting l.command
has_id proof i l there = all_at (λ l. HasId l.scope.nesting l.command) (lines_in outermost proof) i l (lines_have_ids outermost proof) there

-- a list in step with another has an item at the same place
pub in_step : (R : ℕ → ℕ → Type 0) (js ps : List ℕ) (k j : ℕ) → AllZip R js ps → k < length js → slice_index_or js k j ≡ j
    → (p : ℕ) × (slice_get js k ≡ Some j) × (slice_get ps k ≡ Some p) × R j p
in_step R [] ps k j zip less e = absurd (omega arith)
in_step R (x ∷ js) [] k j zip less e = absurd zip
in_step R (x ∷ js) (p ∷ ps) zero j zip less e = (p, ap Some e, refl, subst (λ y. R y p) e zip.0)
in_step R (x ∷ js) (p ∷ ps) (suc k) j zip less e = in_step R js ps k j zip.1 (omega arith) e

discharged_same : (places js ps ds : List ℕ) → AllZip (λ j p. slice_get places j ≡ Some p) js ps → AllByRecursion (Contains js) ds
    → AllZip (IsSamePlace js ps) ds (map (slice_index places) ds)
discharged_same places js ps [] zip all = tt
discharged_same places js ps (d ∷ ds) zip all =
    let has = all.0 in
    let found = in_step (λ j p. slice_get places j ≡ Some p) js ps has.0 d zip has.1 has.2 in (
      record { place = has.0; old_is = found.1; new_is = found.2 ∙ ap Some (sym (index_of_get places d found.0 found.3)) },
      discharged_same places js ps ds zip all.1,
    )

contains_of_get : (xs : List ℕ) (k x : ℕ) → slice_get xs k ≡ Some x → Contains xs x
contains_of_get xs k x e = (k, slice_get_within xs k x e, index_or xs k x e)
  where
    index_or : (xs : List ℕ) (k x : ℕ) → slice_get xs k ≡ Some x → slice_index_or xs k x ≡ x
    index_or [] k x e = absurd (cc)
    index_or (y ∷ xs) zero x e = cc
    index_or (y ∷ xs) (suc k) x e = index_or xs k x e

pub discharged_seen : (places js ps ds : List ℕ) → AllZip (λ j p. slice_get places j ≡ Some p) js ps → All (Contains js) ds
    → All (Contains ps) (map (slice_index places) ds)
discharged_seen places js ps ds zip all =
    All-map (Contains ps) (slice_index places) ds (All-weaker (Contains js) (λ d. Contains ps (slice_index places d)) one ds all)
  where
    one : (d : ℕ) → Contains js d → Contains ps (slice_index places d)
    one d has =
        let found = in_step (λ j p. slice_get places j ≡ Some p) js ps has.0 d zip has.1 has.2 in
        subst (Contains ps) (sym (index_of_get places d found.0 found.3)) (contains_of_get ps has.0 found.0 found.2)

-- The step closes the scope that is written, and that one corresponds to the scope that the proof's step closes.
pub record IsClosing (job : Job) (i : ℕ) (s : State) : Type 0 where
  pub old_around : Nesting ℕ ℕ
  pub old_before : ProofItems ℕ ℕ
  pub old_anchor : Anchor ℕ ℕ
  pub old_items : ProofItems ℕ ℕ
  pub old : Step ℕ
  pub around : Nesting ℕ ℕ
  pub before : ProofItems ℕ ℕ
  pub anchor : Anchor ℕ ℕ
  pub items : ProofItems ℕ ℕ
  pub there : slice_get (lines_in outermost job.proof) i ≡ Some (record { scope = at (inside old_around old_before old_anchor) old_items; command = closing old })
  pub builder : s.builder ≡ at (inside around before anchor) items
  pub reached : IsReached job (at (inside old_around old_before old_anchor) old_items) s
  pub surround : AreAround job s old_around around
  pub opened : IsOpened job s old_around old_before old_anchor around before anchor
  pub level : IsLevel job.proof s (inside old_around old_before old_anchor) old_items (inside around before anchor) items
  pub id : old_anchor.id ≡ old.id

no_nesting : {V T : Type 0} (around : Nesting V T) (before : ProofItems V T) (anchor : Anchor V T) → inside around before anchor ≡ outermost → ⊥
no_nesting around before anchor e = cc

module _ (job : Job) (is : IsJob job) (i : ℕ) (less : i < commands_in job.proof) (s : State) (h : IsClosing job i s) where
  pub zip : AllZip (λ j p. slice_get s.places j ≡ Some p) (assumes_in (inside h.old_around h.old_before h.old_anchor) h.old_items) (assumes_in (inside h.around h.before h.anchor) h.items)
  zip = elim h.level.assumes [ inl z ↦ z | inr outer ↦ absurd (no_nesting h.old_around h.old_before h.old_anchor outer) ]

  module _ (new : Step ℕ) (new_id : new.id ≡ h.anchor.id) (takes : (c : Checking) → TakesPlace c h.old new)
      (discharged : new.discharged ≡ map (slice_index s.places) h.old.discharged)
      (allowed : All (Contains (assumes_in (inside h.old_around h.old_before h.old_anchor) h.old_items)) h.old.discharged) where
    abbrev pub new_line : Line ℕ ℕ
    new_line = record { scope = at (inside h.around h.before h.anchor) h.items; command = closing new }

    abbrev pub scope : Scope ℕ ℕ
    scope = at h.around (with_subproof h.before h.anchor.bindings h.items new)

    abbrev pub p : ℕ
    p = next_index (at (inside h.around h.before h.anchor) h.items)

    abbrev pub v : State
    v = placed p (one_more scope s)

    old_nest : inner h.old_around h.old_before h.old_anchor.bindings h.old ≡ inside h.old_around h.old_before h.old_anchor
    old_nest = same_nesting h.old_around h.old_before h.old_anchor h.old (sym h.id)

    new_nest : inner h.around h.before h.old_anchor.bindings new ≡ inside h.around h.before h.anchor
    new_nest =
        ap (λ bs. inner h.around h.before bs new) (sym h.opened.bindings)
        ∙ same_nesting h.around h.before h.anchor new new_id

    pub keeps : (c : Checking) → Keeps c h.old_around (with_subproof h.old_before h.old_anchor.bindings h.old_items h.old) h.around (with_subproof h.before h.anchor.bindings h.items new)
    keeps c =
        let a = assumes_in (inside h.old_around h.old_before h.old_anchor) h.old_items in
        let b = assumes_in (inside h.around h.before h.anchor) h.items in
        let same : AllZip (IsSamePlace a b) h.old.discharged new.discharged =
        subst (AllZip (IsSamePlace a b) h.old.discharged) (sym discharged)
        (discharged_same s.places a b h.old.discharged zip (recursion_from_All (Contains a) h.old.discharged allowed)) in
        let inner_keeps : Keeps c (inner h.old_around h.old_before h.old_anchor.bindings h.old) h.old_items (inner h.around h.before h.old_anchor.bindings new) h.items =
        subst (λ n. Keeps c n h.old_items (inner h.around h.before h.old_anchor.bindings new) h.items) (sym old_nest)
        (subst (λ n. Keeps c (inside h.old_around h.old_before h.old_anchor) h.old_items n h.items) (sym new_nest) (h.level.keeps c)) in
        let same_places : AllZip (IsSamePlace (assumes_in (inner h.old_around h.old_before h.old_anchor.bindings h.old) h.old_items) (assumes_in (inner h.around h.before h.old_anchor.bindings new) h.items)) h.old.discharged new.discharged =
        subst (λ n. AllZip (IsSamePlace (assumes_in n h.old_items) (assumes_in (inner h.around h.before h.old_anchor.bindings new) h.items)) h.old.discharged new.discharged) (sym old_nest)
        (subst (λ n. AllZip (IsSamePlace a (assumes_in n h.items)) h.old.discharged new.discharged) (sym new_nest) same) in
        subst (λ bs. Keeps c h.old_around (with_subproof h.old_before h.old_anchor.bindings h.old_items h.old) h.around (with_subproof h.before bs h.items new)) (sym h.opened.bindings)
        (subproof_kept h.old_around h.around h.old_before h.opened.kept h.before h.old_items h.items h.old_anchor.bindings h.old new
        (h.opened.level.keeps c) (h.opened.adds c) inner_keeps (takes c) same_places)

    lines : lines_to scope ≡ lines_to s.builder ++ new_line ∷ []
    lines =
        lines_close h.around h.before h.anchor h.items new new_id ∙ ap (λ (b : Scope ℕ ℕ). lines_to b ++ new_line ∷ []) (sym h.builder)

    pub grows : Grows s v
    grows = record {
      places = λ j q e. slice_get-left s.places (p ∷ []) j q e;
      opened = λ k o e. e;
      lines = λ k l e. subst (λ ls. slice_get ls k ≡ Some l) (sym lines) (slice_get-left (lines_to s.builder) (new_line ∷ []) k l e);
    }

    pub reached_closed : new.clause ≡ clause_at job.proof i → LineSource job (s.places ++ p ∷ []) (lines_to scope) p new_line
        → IsReached job (at h.old_around (with_subproof h.old_before h.old_anchor.bindings h.old_items h.old)) (placed p (one_more scope s))
    reached_closed clause source =
        record {
          tidy = tidy_placed (one_more scope s) p (tidy_close s h.around h.before h.items h.anchor new h.reached.tidy h.builder new_id);
          around = around_more s v grows job h.old_around h.around h.surround;
          level = record {
            keeps = keeps;
            sees = subst (All (IsPlacedIn (s.places ++ p ∷ []) (visible h.around (with_subproof h.before h.anchor.bindings h.items new))))
                (sym (visible_subproof h.old_around h.old_before h.old_anchor.bindings h.old_items h.old)) all_seen;
            assumes = assumes;
            last = subst (λ k. slice_get (s.places ++ p ∷ []) k ≡ Some (first_index h.around + (commands_in h.before + commands_in h.items))) (sym old_index)
                (subst (λ q. slice_get (s.places ++ p ∷ []) (length s.places) ≡ Some q) (sym new_index) (slice_get-last s.places p));
          };
          order = order_next s v grows job h.reached.told h.reached.order s.places refl p (let a = count_here in omega arith);
          places = let n = h.reached.places in let m = length-append s.places (p ∷ []) in omega arith;
          opened = let n = h.reached.opened in omega arith;
          number = h.opened.number;
          told = told_next s v grows job h.reached.told s.places refl (length s.places) p refl
              (told_last (lines_to s.builder) (lines_to scope) new_line p (clause_at job.proof (length s.places)) lines count_here
              (clause ∙ ap (clause_at job.proof) (sym (h.reached.places ∙ index_is job.proof i _ h.there))));
          sources = sources_next s v grows job new_line p lines h.reached.sources count_here source;
          room = room;
        }
      where
        seen_stays : (q : ℕ) → Contains (visible h.around h.opened.kept) q → Contains (visible h.around (with_subproof h.before h.anchor.bindings h.items new)) q
        seen_stays q has =
            subst (λ xs. Contains xs q) (sym (visible_subproof h.around h.before h.anchor.bindings h.items new))
            (contains_left (visible h.around h.before) _ q (h.opened.sees q has))

        count_here : length (lines_to s.builder) ≡ p
        count_here =
            ap (λ (b : Scope ℕ ℕ). length (lines_to b)) h.builder ∙ lines_count (at (inside h.around h.before h.anchor) h.items)

        new_index : first_index h.around + (commands_in h.before + commands_in h.items) ≡ p
        new_index = omega arith

        old_index : first_index h.old_around + (commands_in h.old_before + commands_in h.old_items) ≡ length s.places
        old_index = let n = h.reached.places in omega arith

        all_seen : All (IsPlacedIn (s.places ++ p ∷ []) (visible h.around (with_subproof h.before h.anchor.bindings h.items new)))
            (visible h.old_around h.old_before ++ (first_index h.old_around + (commands_in h.old_before + commands_in h.old_items)) ∷ [])
        all_seen =
            All-push (IsPlacedIn (s.places ++ p ∷ []) (visible h.around (with_subproof h.before h.anchor.bindings h.items new))) (visible h.old_around h.old_before) _
            (all_placed s v grows (visible h.around h.opened.kept) (visible h.around (with_subproof h.before h.anchor.bindings h.items new))
            (visible h.old_around h.old_before) seen_stays h.opened.level.sees)
            (record {
              place = p;
              is = subst (λ k. slice_get (s.places ++ p ∷ []) k ≡ Some p) (sym old_index) (slice_get-last s.places p);
              seen = subst (λ xs. Contains xs p) (sym (visible_subproof h.around h.before h.anchor.bindings h.items new))
                  (subst (λ q. Contains (visible h.around h.before ++ q ∷ []) p) (sym new_index) (Contains-push (visible h.around h.before) p));
            })

        assumes : AllZip (λ j q. slice_get (s.places ++ p ∷ []) j ≡ Some q) (assumes_in h.old_around h.old_before) (assumes_in h.around h.before) ⊎ (h.old_around ≡ outermost)
        assumes = go h.opened.level.assumes h.opened.assumes
          where
            go : AllZip (λ j q. slice_get s.places j ≡ Some q) (assumes_in h.old_around h.old_before) (assumes_in h.around h.opened.kept) ⊎ (h.old_around ≡ outermost)
                → (assumes_in h.around h.before ≡ assumes_in h.around h.opened.kept) ⊎ (h.around ≡ outermost)
                → AllZip (λ j q. slice_get (s.places ++ p ∷ []) j ≡ Some q) (assumes_in h.old_around h.old_before) (assumes_in h.around h.before) ⊎ (h.old_around ≡ outermost)
            go (inr outer) _ = inr outer
            go (inl z) (inr outer) = inr (outer_back job s h.old_around h.around h.surround outer)
            go (inl z) (inl stay) =
                inl (subst (AllZip (λ j q. slice_get (s.places ++ p ∷ []) j ≡ Some q) (assumes_in h.old_around h.old_before)) (sym stay)
                (assumes_more s v grows (assumes_in h.old_around h.old_before) (assumes_in h.around h.opened.kept) z))

        room : next_index scope ≡ needed_to job (next_index (at h.old_around (with_subproof h.old_before h.old_anchor.bindings h.old_items h.old))) + ahead job h.old_around
        room =
            let index = index_is job.proof i _ h.there in
            let before : next_index (at (inside h.around h.before h.anchor) h.items) ≡ needed_to job (next_index (at (inside h.old_around h.old_before h.old_anchor) h.old_items)) + ahead job (inside h.old_around h.old_before h.old_anchor) =
            ap next_index (sym h.builder) ∙ h.reached.room in
            let same = ap (needed_to job) index in
            let next : next_index (at h.old_around (with_subproof h.old_before h.old_anchor.bindings h.old_items h.old)) ≡ suc i = omega arith in
            let last = ap (needed_to job) next in
            let more = needed_suc job is i less in
            let closer = closer_of_line job is i h.old_around h.old_before h.old_anchor h.old_items h.old h.there in
            let own = ap (λ k. length (block_at job.blocks k) - 1) closer in
            let size = front_length (block_at job.blocks i) in
            omega arith
