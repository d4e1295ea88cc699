-- What the calls ask for by which the scopes before a command are opened.
use Rattle.std.proofs.Common.{◌≡◌, ◌<◌, ◌≤◌, ◌+◌, ◌-◌, ◌^◌, ◌⊎◌, inl, inr, ℕ, List, [], ◌∷◌, ◌++◌, length, slice_get, slice_index, Some, refl, sym, ◌∙◌, ap, subst, arith}
use Rattle.std.specs.Option.{option_map_or}
use Rattle.std.proofs.lemmas.Option.{slice_get_within}
use Rattle.proof_store.specs.AddedSteps.{AddedStep}
use Rattle.proof_store.specs.Steps.{anchor_with}
use Rattle.rule_model.specs.Commands.{Line, closing, lines_in}
use Rattle.rule_model.specs.Reading.{closes_at, bindings_at}
use Rattle.rule_model.specs.Scopes.{Anchor, outermost, inside, Scope, at, commands_in, subproofs_in, scope_number, next_index, next_scope}
use Rattle.rule_model.specs.WellFormed.{MayOpen}
use Rattle.rule_model.specs.Writing.{open_anchor}
use Rattle.rule_model.proofs.LineReading.{closes_is}
use Rattle.elaborator.specs.declared.putting.Opened.{Opened}
use Rattle.elaborator.specs.Names.{name_of}
use Rattle.elaborator.specs.Reached.{State, new_name, MayAddHere, IsExtended, Job, IsJob, IsReached, Opens, IsOnWay, IsAtLine, inner_at, written_to}
use Rattle.elaborator.specs.Steps.{front, block_at}
use Rattle.elaborator.proofs.ClosedOnce.{closed_within}
use Rattle.elaborator.proofs.OldLines.{opens_to, opens_further, line_there}
use Rattle.elaborator.proofs.OpenedScopes.{IsNext, next_is, number, closer_there, closer_within, room_here, bindings_here, may_open, reached_open}
use Rattle.elaborator.proofs.Seeing.{index_of_get}
use Rattle.elaborator.proofs.InPlace.{front_may}

inner_is : (job : Job) (i : ℕ) (l : Line ℕ ℕ) → slice_get (lines_in outermost job.proof) i ≡ Some l → inner_at job.proof i ≡ scope_number l.scope.nesting
inner_is job i l there = ap (λ o. option_map_or (λ (line : Line ℕ ℕ). scope_number line.scope.nesting) o 0) there

next_now : (job : Job) (is : IsJob job) (i : ℕ) (s : State) → IsOnWay job i s → length s.opened ≤ inner_at job.proof i → IsNext job i s
next_now job is i s way further = next_is job is i s way (let e = inner_is job i way.line way.there in omega arith)

-- an anchor with this id and these bindings may be written, and what is reached behind it
pub record IsOpenedNow (job : Job) (i : ℕ) (s t : State) (id : List ℕ) (bindings : List (ℕ × ℕ)) : Type 0 where
  pub may : MayOpen t.builder.nesting t.builder.items (anchor_with id bindings)
  pub way : (o : Opened) (b : Scope ℕ ℕ) (ps : List ℕ) (os : List Opened) → o.start ≡ next_index s.builder → o.name ≡ new_name t
      → b ≡ open_anchor t.builder (anchor_with id bindings) → ps ≡ t.places → os ≡ t.opened ++ o ∷ [] → IsOnWay job i (record { builder = b; places = ps; opened = os; count = t.count })

module _ (job : Job) (is : IsJob job) (i : ℕ) (s : State) (n : IsNext job i s) where
  closers_within : length s.opened < length job.closers
  closers_within = slice_get_within job.closers (length s.opened) n.closer (closer_there job is i s n)

  pub closer_now : slice_index job.closers (length s.opened) ≡ n.closer
  closer_now = index_of_get job.closers (length s.opened) n.closer (closer_there job is i s n)

  block_within : slice_index job.closers (length s.opened) < length job.blocks
  block_within = let c = closer_now in let w = closer_within job is i s n in let b = is.blocks.count in omega arith

  moved_same : front (block_at job.blocks (slice_index job.closers (length s.opened))) ≡ front (block_at job.blocks n.closer)
  moved_same = ap (λ k. front (block_at job.blocks k)) closer_now

  moved_may : (m : ℕ) (a : AddedStep) → slice_get (front (block_at job.blocks (slice_index job.closers (length s.opened)))) m ≡ Some a → MayAddHere s m a
  moved_may m a e =
      front_may job is n.closer (record { scope = at (inside n.scope.nesting n.scope.items n.anchor) n.closed.items; command = closing n.closed.last }) n.closed.there
      s n.scope n.reached refl m a (subst (λ xs. slice_get xs m ≡ Some a) moved_same e)

  moved_few : next_index s.builder + length (front (block_at job.blocks (slice_index job.closers (length s.opened)))) < 2 ^ 32 - 1
  moved_few = let r = room_here job is i s n in let e = ap length moved_same in omega arith

  number_within : length s.opened ≤ subproofs_in job.proof
  number_within =
      let closes : closes_at job.proof n.closer ≡ Some (scope_number (inside n.scope.nesting n.scope.items n.anchor)) = closes_is job.proof n.closer _ n.closed.there in
      let w = closed_within job.proof n.closer _ closes in
      let e = number job is i s n in omega arith

  scope_within : length s.opened ≤ subproofs_in job.proof
  scope_within = number_within

  module _ (t : State) (extended : IsExtended (front (block_at job.blocks (slice_index job.closers (length s.opened)))) s t) where
    ext : IsExtended (front (block_at job.blocks n.closer)) s t
    ext = subst (λ xs. IsExtended xs s t) moved_same extended

    few_now : next_index t.builder + 1 < 2 ^ 32 - 1
    few_now = let c = ext.count in let r = room_here job is i s n in omega arith

    few_scopes_now : next_scope t.builder + 1 < 2 ^ 32 - 1
    few_scopes_now =
        let a = ext.tidy.scopes in
        let b = ap length ext.opened in
        let c = number_within in
        let d = is.few_scopes in omega arith

    module _ (id : List ℕ) (bindings : List (ℕ × ℕ)) (named : id ≡ name_of (new_name t)) (same : bindings ≡ bindings_at job.proof (length s.opened)) where
      may_open_now : MayOpen t.builder.nesting t.builder.items (anchor_with id bindings)
      may_open_now =
          subst (λ x. MayOpen t.builder.nesting t.builder.items (anchor_with x bindings)) (sym named)
          (may_open job is i s n t ext bindings (same ∙ bindings_here job is i s n) few_now)

      way_open : (o : Opened) (b : Scope ℕ ℕ) (ps : List ℕ) (os : List Opened) → o.start ≡ next_index s.builder → o.name ≡ new_name t
          → b ≡ open_anchor t.builder (anchor_with id bindings) → ps ≡ t.places → os ≡ t.opened ++ o ∷ [] → IsOnWay job i (record { builder = b; places = ps; opened = os; count = t.count })
      way_open o b ps os start name eb ep eo =
          let small : length s.opened + 1 < 2 ^ 32 = let c = number_within in let d = is.few_scopes in omega arith in
          let reached = reached_open job is i s n t ext bindings (same ∙ bindings_here job is i s n) few_now o start name small in
          let eb2 : b ≡ open_anchor t.builder (anchor_with (name_of (new_name t)) bindings) = eb ∙ ap (λ x. open_anchor t.builder (anchor_with x bindings)) named in
          record {
            line = n.line;
            there = n.there;
            scope = open_anchor n.scope n.anchor;
            opens = n.opens;
            reached = subst (λ x. IsReached job (open_anchor n.scope n.anchor) (record { builder = x; places = ps; opened = os; count = t.count })) (sym eb2)
                (subst (λ x. IsReached job (open_anchor n.scope n.anchor) (record { builder = open_anchor t.builder (anchor_with (name_of (new_name t)) bindings); places = x; opened = os; count = t.count })) (sym ep)
                (subst (λ x. IsReached job (open_anchor n.scope n.anchor) (record { builder = open_anchor t.builder (anchor_with (name_of (new_name t)) bindings); places = t.places; opened = x; count = t.count })) (sym eo) reached));
          }

-- the scope of a number is opened next, behind these steps
pub record IsOpening (job : Job) (i : ℕ) (s : State) (k : ℕ) (moved : List AddedStep) : Type 0 where
  pub closers : k < length job.closers
  pub block : slice_index job.closers k < length job.blocks
  pub scope : k ≤ subproofs_in job.proof
  pub may : (m : ℕ) (a : AddedStep) → slice_get moved m ≡ Some a → MayAddHere s m a
  pub few : next_index s.builder + length moved < 2 ^ 32 - 1
  pub few_scopes : (t : State) → IsExtended moved s t → next_scope t.builder + 1 < 2 ^ 32 - 1
  pub opened : (t : State) → IsExtended moved s t → (id : List ℕ) (bindings : List (ℕ × ℕ)) → id ≡ name_of (new_name t) → bindings ≡ bindings_at job.proof k → IsOpenedNow job i s t id bindings

pub opening_now : (job : Job) (is : IsJob job) (i : ℕ) (s : State) → IsOnWay job i s → length s.opened ≤ inner_at job.proof i → (k : ℕ) → k ≡ length s.opened
    → (moved : List AddedStep) → moved ≡ front (block_at job.blocks (slice_index job.closers k)) → IsOpening job i s k moved
opening_now job is i s way further k same moved are =
    let n = next_now job is i s way further in
    let here = are ∙ ap (λ x. front (block_at job.blocks (slice_index job.closers x))) same in
    record {
      closers = let w = closers_within job is i s n in omega arith;
      block = subst (λ x. slice_index job.closers x < length job.blocks) (sym same) (block_within job is i s n);
      scope = let w = scope_within job is i s n in omega arith;
      may = λ m a e. moved_may job is i s n m a (subst (λ xs. slice_get xs m ≡ Some a) here e);
      few = subst (λ xs. next_index s.builder + length xs < 2 ^ 32 - 1) (sym here) (moved_few job is i s n);
      few_scopes = λ t ext. few_scopes_now job is i s n t (subst (λ xs. IsExtended xs s t) here ext);
      opened = λ t ext id bindings named bound. record {
        may = may_open_now job is i s n t (subst (λ xs. IsExtended xs s t) here ext) id bindings named (bound ∙ ap (bindings_at job.proof) same);
        way = way_open job is i s n t (subst (λ xs. IsExtended xs s t) here ext) id bindings named (bound ∙ ap (bindings_at job.proof) same);
      };
    }

-- on the way to a command, from what is written behind the one before it
pub way_init : (job : Job) (i : ℕ) (s : State) → i < commands_in job.proof → IsReached job (written_to job.proof i) s → IsOnWay job i s
way_init job i s within reached =
    let l = line_there job.proof i within in
    record { line = l.0; there = l.1; scope = written_to job.proof i; opens = opens_to job.proof i l.0 l.1; reached = reached }

pub way_done : (job : Job) (i : ℕ) (s : State) → IsOnWay job i s → inner_at job.proof i < length s.opened → IsAtLine job i s
way_done job i s way done = go (opens_further way.scope way.line.scope way.opens)
  where
    go : (way.scope ≡ way.line.scope) ⊎ ((anchor : Anchor ℕ ℕ) × Opens (open_anchor way.scope anchor) way.line.scope × (next_scope way.scope ≤ scope_number way.line.scope.nesting)) → IsAtLine job i s
    go (inl same) = record { line = way.line; there = way.there; reached = subst (λ x. IsReached job x s) same way.reached }
    go (inr more) =
        let less = more.2 in
        let e = inner_is job i way.line way.there in
        let o = way.reached.opened in absurd (omega arith)
