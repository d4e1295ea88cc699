-- What corresponds between the proof and what is written goes on doing so as more is written.
use Rattle.std.proofs.Common.{◌≡◌, ◌+◌, inl, inr, ℕ, List, [], ◌∷◌, ◌++◌, slice_get, Option, Some, None, All, Contains, refl, sym, ◌∙◌, ap, subst}
use Rattle.std.specs.List.{AllZip}
use Rattle.std.proofs.lemmas.List.Elements.{All-weaker, All-contains}
use Rattle.term_model.proofs.Lists.{slice_get-left}
use Rattle.term_model.proofs.Zips.{zip_weaken}
use Rattle.proof_store.specs.AddedSteps.{AddedStep}
use Rattle.proof_store.specs.declared.added.Link.{Link}
use Rattle.rule_model.specs.Commands.{Line, lines_to}
use Rattle.rule_model.specs.Judged.{open_anchors}
use Rattle.rule_model.specs.Proofs.{ProofItems}
use Rattle.rule_model.specs.Scopes.{Nesting, outermost, inside, Scope, last_index}
use Rattle.rule_model.specs.Visibility.{visible, open_bindings, assumes_in}
use Rattle.elaborator.specs.declared.putting.Opened.{Opened}
use Rattle.elaborator.specs.Blocks.{IsLink, MayBeAdded}
use Rattle.elaborator.specs.Reached.{State, seen_in, placed, IsPlacedIn, IsLinkHere, MayAddHere, IsSeenAs, IsExtended, Job, IsLevel, AreAround, IsReached}
use Rattle.elaborator.specs.Sources.{AreAt}
use Rattle.elaborator.proofs.Extending.{IsMore}

-- what stands at a place stays there
pub record Grows (s t : State) : Type 0 where
  pub places : (j p : ℕ) → slice_get s.places j ≡ Some p → slice_get t.places j ≡ Some p
  pub opened : (k : ℕ) (o : Opened) → slice_get s.opened k ≡ Some o → slice_get t.opened k ≡ Some o
  pub lines : (k : ℕ) (l : Line ℕ ℕ) → slice_get (lines_to s.builder) k ≡ Some l → slice_get (lines_to t.builder) k ≡ Some l

pub grows_then : (s t u : State) → Grows s t → Grows t u → Grows s u
grows_then s t u g h = record {
  places = λ j p e. h.places j p (g.places j p e);
  opened = λ k o e. h.opened k o (g.opened k o e);
  lines = λ k l e. h.lines k l (g.lines k l e);
}

pub extended_grows : (added : List AddedStep) (s t : State) → IsExtended added s t → Grows s t
extended_grows added s t h = record {
  places = λ j p e. subst (λ (ps : List ℕ). slice_get ps j ≡ Some p) (sym h.places) e;
  opened = λ k o e. subst (λ (os : List Opened). slice_get os k ≡ Some o) (sym h.opened) e;
  lines = λ k l e. subst (λ ls. slice_get ls k ≡ Some l) (sym h.lines) (slice_get-left (lines_to s.builder) h.more_lines k l e);
}

pub more_grows : (t u : State) (clause : List ℕ) → IsMore t u clause → Grows t u
more_grows t u clause h = record {
  places = λ j p e. subst (λ (ps : List ℕ). slice_get ps j ≡ Some p) (sym h.places) e;
  opened = λ k o e. subst (λ (os : List Opened). slice_get os k ≡ Some o) (sym h.opened) e;
  lines = λ k l e. subst (λ ls. slice_get ls k ≡ Some l) (sym h.lines) (slice_get-left (lines_to t.builder) (h.line ∷ []) k l e);
}

pub placed_grows : (u : State) (p : ℕ) → Grows u (placed p u)
placed_grows u p = record {
  places = λ j q e. slice_get-left u.places (p ∷ []) j q e;
  opened = λ k o e. e;
  lines = λ k l e. e;
}

module _ (s t : State) (g : Grows s t) where
  pub placed_more : (seen later : List ℕ) (j : ℕ) → ((p : ℕ) → Contains seen p → Contains later p) → IsPlacedIn s.places seen j → IsPlacedIn t.places later j
  placed_more seen later j f h = record { place = h.place; is = g.places j h.place h.is; seen = f h.place h.seen }

  pub all_placed : (seen later : List ℕ) (js : List ℕ) → ((p : ℕ) → Contains seen p → Contains later p) → All (IsPlacedIn s.places seen) js → All (IsPlacedIn t.places later) js
  all_placed seen later js f h = All-weaker (IsPlacedIn s.places seen) (IsPlacedIn t.places later) (λ j x. placed_more seen later j f x) js h

  pub assumes_more : (js ps : List ℕ) → AllZip (λ j p. slice_get s.places j ≡ Some p) js ps → AllZip (λ j p. slice_get t.places j ≡ Some p) js ps
  assumes_more js ps h = zip_weaken (λ j p. slice_get s.places j ≡ Some p) (λ j p. slice_get t.places j ≡ Some p) g.places js ps h

  pub seen_as_more : (seen clause : List ℕ) (p : ℕ) → IsSeenAs (lines_to s.builder) seen clause p → IsSeenAs (lines_to t.builder) seen clause p
  seen_as_more seen clause p h = record { seen = h.seen; line = h.line; there = g.lines p h.line h.there; clause_is = h.clause_is }

  pub at_more : (o q : Option ℕ) → AreAt s.places o q → AreAt t.places o q
  at_more None None h = tt
  at_more None (Some p) h = absurd h
  at_more (Some i) None h = absurd h
  at_more (Some i) (Some p) h = g.places i p h

  pub level_more : (proof : ProofItems ℕ ℕ) (old_nesting : Nesting ℕ ℕ) (old : ProofItems ℕ ℕ) (nesting : Nesting ℕ ℕ) (items : ProofItems ℕ ℕ)
      → IsLevel proof s old_nesting old nesting items → IsLevel proof t old_nesting old nesting items
  level_more proof old_nesting old nesting items h = record {
    keeps = h.keeps;
    sees = all_placed (visible nesting items) (visible nesting items) (visible old_nesting old) (λ p x. x) h.sees;
    assumes = elim h.assumes [
      | inl zip ↦ inl (assumes_more (assumes_in old_nesting old) (assumes_in nesting items) zip)
      | inr outer ↦ inr outer
    ];
    last = at_more (last_index old_nesting old) (last_index nesting items) h.last;
  }

  pub around_more : (job : Job) (old_nesting nesting : Nesting ℕ ℕ) → AreAround job s old_nesting nesting → AreAround job t old_nesting nesting
  around_more job outermost outermost h = tt
  around_more job outermost (inside around before anchor) h = absurd h
  around_more job (inside old_around old_before old_anchor) outermost h = absurd h
  around_more job (inside old_around old_before old_anchor) (inside around before anchor) h =
      let o = h.1 in (
        around_more job old_around around h.0,
        record {
          kept = o.kept;
          level = level_more job.proof old_around old_before around o.kept o.level;
          adds = o.adds;
          sees = o.sees;
          assumes = o.assumes;
          bindings = o.bindings;
          number = o.number;
          opened = o.opened;
          is_opened = g.opened _ o.opened o.is_opened;
          id = o.id;
          moved = λ m a e. seen_as_more (visible around before) a.clause (o.opened.start + m) (o.moved m a e);
        },
      )

-- the outermost scope corresponds to the outermost one
pub outer_back : (job : Job) (s : State) (old_nesting nesting : Nesting ℕ ℕ) → AreAround job s old_nesting nesting → nesting ≡ outermost → old_nesting ≡ outermost
outer_back job s outermost nesting h e = refl
outer_back job s (inside around before anchor) outermost h e = absurd h
outer_back job s (inside around before anchor) (inside around_new before_new anchor_new) h e = absurd (other e)
  where
    other : inside around_new before_new anchor_new ≡ outermost → ⊥
    other e = cc

pub outer_forth : (job : Job) (s : State) (old_nesting nesting : Nesting ℕ ℕ) → AreAround job s old_nesting nesting → old_nesting ≡ outermost → nesting ≡ outermost
outer_forth job s outermost outermost h e = refl
outer_forth job s outermost (inside around before anchor) h e = absurd h
outer_forth job s (inside around before anchor) nesting h e = absurd (other e)
  where
    other : inside around before anchor ≡ outermost → ⊥
    other e = cc

-- open anchors bind the same
pub same_open : (job : Job) (s : State) (old_nesting nesting : Nesting ℕ ℕ) → AreAround job s old_nesting nesting → open_bindings nesting ≡ open_bindings old_nesting
same_open job s outermost outermost h = refl
same_open job s outermost (inside around before anchor) h = absurd h
same_open job s (inside around before anchor) outermost h = absurd h
same_open job s (inside old_around old_before old_anchor) (inside around before anchor) h =
    ap (λ bs. bs ++ anchor.bindings) (same_open job s old_around around h.0) ∙ ap (λ bs. open_bindings old_around ++ bs) h.1.bindings

pub same_anchors : (job : Job) (s : State) (old_nesting nesting : Nesting ℕ ℕ) → AreAround job s old_nesting nesting → open_anchors nesting ≡ open_anchors old_nesting
same_anchors job s outermost outermost h = refl
same_anchors job s outermost (inside around before anchor) h = absurd h
same_anchors job s (inside around before anchor) outermost h = absurd h
same_anchors job s (inside old_around old_before old_anchor) (inside around before anchor) h =
    ap (λ bs. bs ∷ open_anchors around) h.1.bindings ∙ ap (λ bss. old_anchor.bindings ∷ bss) (same_anchors job s old_around around h.0)

-- a step that may be added in a scope of the proof may be added where it is written
pub may_add_here : (job : Job) (old : Scope ℕ ℕ) (s : State) (k : ℕ) (a : AddedStep) → IsReached job old s → MayBeAdded old k a → MayAddHere s k a
may_add_here job old s k a reached (inl h) = inl (record {
  judged = h.judged;
  pivots = h.pivots;
  links = All-weaker (IsLink (visible old.nesting old.items) k) (IsLinkHere s.places (seen_in s) k) by_link a.premises h.links;
})
  where
    by_link : (l : Link) → IsLink (visible old.nesting old.items) k l → IsLinkHere s.places (seen_in s) k l
    by_link (Link.Old j) x =
        All-contains (IsPlacedIn s.places (seen_in s)) (visible old.nesting old.items) j reached.level.sees x
    by_link (Link.New n) x = x
may_add_here job old s k a reached (inr h) = inr (record {
  rule = h.rule;
  outer = outer_forth job s old.nesting s.builder.nesting reached.around h.outer;
  term = h.term;
  clause = h.clause;
  premises = h.premises;
  pivots = h.pivots;
})
