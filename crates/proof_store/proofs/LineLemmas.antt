-- The id, the scope and the closed scope of a command, from its line.
use Rattle.std.proofs.Common.{◌≡◌, ◌<◌, ◌+◌, ℕ, zero, suc, Bool, true, false, List, [], ◌∷◌, ◌++◌, map, length, slice_get, Option, Some, None, refl, sym, ◌∙◌, ap, subst, arith}
use Rattle.std.specs.List.{AllByRecursion}
use Rattle.std.specs.Option.{option_map, option_map_or, unwrap_or}
use Rattle.std.proofs.lemmas.Option.{slice_get-map, slice_get_within}
use Rattle.rule_model.specs.Proofs.{Step, ProofItems, no_items, with_assume, with_step, with_subproof}
use Rattle.rule_model.specs.Scopes.{Nesting, outermost, inside, at, inner, scope_number, subproofs_in}
use Rattle.rule_model.specs.Commands.{IndexedCommand, assume, step, closing, Line, entry_of, own_scope, closed_scope, lines_in, ScopeEntry, scopes}
use Rattle.rule_model.specs.Reading.{id_of, id_at, scope_at, closes_at, parent_at, bindings_at, last_inside_at}
use Rattle.proof_store.specs.declared.drafts.Draft.{Draft}
use Rattle.proof_store.specs.Stored.{Stored}
use Rattle.proof_store.specs.StoredScopes.{StoredScope}
use Rattle.proof_store.specs.Drafts.{kept, kept_step, closes_own, AreAnchored, IsDraft}
use Rattle.proof_store.proofs.ReadingLemmas.{some_of, line_at}
use Rattle.proof_store.proofs.WritingLemmas.{scope_count}

-- a closing step stands in the scope of an anchor with its id
abbrev HasAnchor : Nesting ℕ ℕ → List ℕ → Type 0
HasAnchor outermost id = ⊥
HasAnchor (inside around before anchor) id = anchor.id ≡ id

abbrev IsClosing : Nesting ℕ ℕ → IndexedCommand ℕ → Type 0
IsClosing nesting (assume id t) = Unit {0}
IsClosing nesting (step s) = Unit {0}
IsClosing nesting (closing s) = HasAnchor nesting s.id

abbrev IsLine : Line ℕ ℕ → Type 0
IsLine line = IsClosing line.scope.nesting line.command

all_append : (xs ys : List (Line ℕ ℕ)) → AllByRecursion IsLine xs → AllByRecursion IsLine ys → AllByRecursion IsLine (xs ++ ys)
all_append [] ys h k = k
all_append (x ∷ xs) ys h k = (h.0, all_append xs ys h.1 k)

lines_close : (nesting : Nesting ℕ ℕ) (items : ProofItems ℕ ℕ) → AllByRecursion IsLine (lines_in nesting items)
lines_close nesting no_items = tt
lines_close nesting (with_assume items id t) = all_append (lines_in nesting items) _ (lines_close nesting items) (tt, tt)
lines_close nesting (with_step items s) = all_append (lines_in nesting items) _ (lines_close nesting items) (tt, tt)
lines_close nesting (with_subproof items bindings proof s) =
    all_append (lines_in nesting items ++ lines_in (inner nesting items bindings s) proof) _
    (all_append (lines_in nesting items) (lines_in (inner nesting items bindings s) proof) (lines_close nesting items) (lines_close (inner nesting items bindings s) proof))
    (refl, tt)

line_among : (P : Line ℕ ℕ → Type 0) (xs : List (Line ℕ ℕ)) (i : ℕ) (x : Line ℕ ℕ) → AllByRecursion P xs → slice_get xs i ≡ Some x → P x
line_among P [] i x h at = absurd (cc)
line_among P (y ∷ ys) zero x h at = subst P (some_same at) h.0
  where
    some_same : {a b : Line ℕ ℕ} → Some a ≡ Some b → a ≡ b
    some_same e = cc
line_among P (y ∷ ys) (suc i) x h at = line_among P ys i x h.1 at

-- a command's line, with what is kept of the scope in which it is reached
record At (d : Draft) (proof : ProofItems ℕ ℕ) (i n : ℕ) (b : Bool) : Type 0 where
  nesting : Nesting ℕ ℕ
  command : IndexedCommand ℕ
  entry : slice_get (map entry_of (lines_in outermost proof)) i ≡ Some (record { command = command; scope = own_scope nesting command; closes = closed_scope nesting command })
  number : scope_number nesting ≡ n
  closes : closes_own command ≡ b
  step : option_map (λ s. (kept s).step) (slice_get d.commands i) ≡ Some (kept_step command)
  anchored : AreAnchored d.scopes nesting
  closing_well : IsClosing nesting command

-- the two facts of a command that are kept together
both : (d : Draft) (i n : ℕ) (b : Bool) → option_map (λ s. s.inner) (slice_get d.commands i) ≡ Some n → option_map (λ s. s.closes) (slice_get d.commands i) ≡ Some b → (c : Stored) × (slice_get d.commands i ≡ Some c) × (c.inner ≡ n) × (c.closes ≡ b)
both d i n b e f =
    let c = some_of (λ (s : Stored). s.inner) (slice_get d.commands i) n e in
    (c.0, c.1, c.2, some_same (sym (ap (option_map (λ (s : Stored). s.closes)) c.1) ∙ f))
  where
    some_same : {a b : Bool} → Some a ≡ Some b → a ≡ b
    some_same e = cc

at_index : (d : Draft) (proof : ProofItems ℕ ℕ) (i n : ℕ) (b : Bool) → IsDraft d (at outermost proof) → option_map (λ s. s.inner) (slice_get d.commands i) ≡ Some n → option_map (λ s. s.closes) (slice_get d.commands i) ≡ Some b → At d proof i n b
at_index d proof i n b h e f =
    let c = both d i n b e f in
    let l = line_at d proof i c.0 h c.1 in
    record {
      nesting = l.0.scope.nesting;
      command = l.0.command;
      entry = slice_get-map entry_of (lines_in outermost proof) i ∙ ap (option_map entry_of) l.1;
      number = ap (λ k. k.inner) l.2 ∙ c.2;
      closes = ap (λ k. k.closes) l.2 ∙ c.3;
      step = ap (option_map (λ (s : Stored). (kept s).step)) c.1 ∙ ap Some (sym (ap (λ k. k.step) l.2));
      anchored = line_among (λ line. AreAnchored d.scopes line.scope.nesting) (lines_in outermost proof) i l.0 h.lines l.1;
      closing_well = line_among IsLine (lines_in outermost proof) i l.0 (lines_close outermost proof) l.1;
    }

module _ (d : Draft) (proof : ProofItems ℕ ℕ) (i n : ℕ) (b : Bool) (h : IsDraft d (at outermost proof)) (e : option_map (λ s. s.inner) (slice_get d.commands i) ≡ Some n) (f : option_map (λ s. s.closes) (slice_get d.commands i) ≡ Some b) where
  pub read_not_closing : b ≡ false → None ≡ closes_at proof i
  read_not_closing shut = let a = at_index d proof i n b h e f in rw a.entry (go a.nesting a.command (a.closes ∙ shut))
    where
      go : (nesting : Nesting ℕ ℕ) (c : IndexedCommand ℕ) → closes_own c ≡ false → None ≡ closed_scope nesting c
      go nesting (assume id t) s = refl
      go nesting (step t) s = refl
      go nesting (closing t) s = absurd (cc)

  pub read_closing : b ≡ true → Some n ≡ closes_at proof i
  read_closing shut = let a = at_index d proof i n b h e f in rw a.entry (ap Some (sym a.number) ∙ go a.nesting a.command (a.closes ∙ shut))
    where
      go : (nesting : Nesting ℕ ℕ) (c : IndexedCommand ℕ) → closes_own c ≡ true → Some (scope_number nesting) ≡ closed_scope nesting c
      go nesting (assume id t) s = absurd (cc)
      go nesting (step t) s = absurd (cc)
      go nesting (closing t) s = refl

  pub read_own_scope : b ≡ false → n ≡ scope_at proof i
  read_own_scope shut = let a = at_index d proof i n b h e f in rw a.entry (sym a.number ∙ go a.nesting a.command (a.closes ∙ shut))
    where
      go : (nesting : Nesting ℕ ℕ) (c : IndexedCommand ℕ) → closes_own c ≡ false → scope_number nesting ≡ own_scope nesting c
      go nesting (assume id t) s = refl
      go nesting (step t) s = refl
      go nesting (closing t) s = absurd (cc)

  pub read_outer_scope : (p : Option ℕ) → b ≡ true → option_map (λ s. s.entry.parent) (slice_get d.scopes n) ≡ Some p → unwrap_or p 0 ≡ scope_at proof i
  read_outer_scope p shut at = let a = at_index d proof i n b h e f in rw a.entry (go a.nesting a.command (a.closes ∙ shut) a.closing_well a.anchored (subst (λ k. option_map (λ s. s.entry.parent) (slice_get d.scopes k) ≡ Some p) (sym a.number) at))
    where
      some_same : {a b : Option ℕ} → Some a ≡ Some b → a ≡ b
      some_same e = cc

      go : (nesting : Nesting ℕ ℕ) (c : IndexedCommand ℕ) → closes_own c ≡ true → IsClosing nesting c → AreAnchored d.scopes nesting → option_map (λ s. s.entry.parent) (slice_get d.scopes (scope_number nesting)) ≡ Some p → unwrap_or p 0 ≡ own_scope nesting c
      go nesting (assume id t) s w k at = absurd (cc)
      go nesting (step t) s w k at = absurd (cc)
      go outermost (closing t) s w k at = absurd w
      go (inside around before anchor) (closing t) s w k at = ap (λ o. unwrap_or o 0) (some_same (sym at ∙ k.1.parent))

  pub read_own_id : (x : List ℕ) → b ≡ false → option_map (λ s. s.id) (slice_get d.commands i) ≡ Some x → x ≡ id_at proof i
  read_own_id x shut at =
      let a = at_index d proof i n b h e f in
      let c = some_of (λ (s : Stored). s.id) (slice_get d.commands i) x at in
      let own : Some (kept c.0).step ≡ Some (kept_step a.command) = sym (ap (option_map (λ (s : Stored). (kept s).step)) c.1) ∙ a.step in
      rw a.entry (sym c.2 ∙ go a.command (kept c.0).step own (a.closes ∙ shut))
    where
      some_same : {a b : Step ℕ} → Some a ≡ Some b → a ≡ b
      some_same e = cc

      go : (c : IndexedCommand ℕ) (s : Step ℕ) → Some s ≡ Some (kept_step c) → closes_own c ≡ false → s.id ≡ id_of c
      go (assume id t) s own k = ap (λ t. t.id) (some_same own)
      go (step t) s own k = ap (λ t. t.id) (some_same own)
      go (closing t) s own k = absurd (cc)

  pub read_anchor_id : (x : List ℕ) → b ≡ true → option_map (λ s. s.id) (slice_get d.scopes n) ≡ Some x → x ≡ id_at proof i
  read_anchor_id x shut at = let a = at_index d proof i n b h e f in rw a.entry (go a.nesting a.command (a.closes ∙ shut) a.closing_well a.anchored (subst (λ k. option_map (λ s. s.id) (slice_get d.scopes k) ≡ Some x) (sym a.number) at))
    where
      some_same : {a b : List ℕ} → Some a ≡ Some b → a ≡ b
      some_same e = cc

      go : (nesting : Nesting ℕ ℕ) (c : IndexedCommand ℕ) → closes_own c ≡ true → IsClosing nesting c → AreAnchored d.scopes nesting → option_map (λ s. s.id) (slice_get d.scopes (scope_number nesting)) ≡ Some x → x ≡ id_of c
      go nesting (assume id t) s w k at = absurd (cc)
      go nesting (step t) s w k at = absurd (cc)
      go outermost (closing t) s w k at = absurd w
      go (inside around before anchor) (closing t) s w k at = some_same (sym at ∙ k.1.id) ∙ w

-- the scope in which a command is reached is one of the scopes
pub inner_within : (d : Draft) (proof : ProofItems ℕ ℕ) (i n : ℕ) → IsDraft d (at outermost proof) → option_map (λ s. s.inner) (slice_get d.commands i) ≡ Some n → n < length d.scopes
inner_within d proof i n h e =
    let c = some_of (λ (s : Stored). s.inner) (slice_get d.commands i) n e in
    let l = line_at d proof i c.0 h c.1 in
    let number : scope_number l.0.scope.nesting ≡ n = ap (λ k. k.inner) l.2 ∙ c.2 in
    rw (sym number) (go l.0.scope.nesting (line_among (λ line. AreAnchored d.scopes line.scope.nesting) (lines_in outermost proof) i l.0 h.lines l.1))
  where
    go : (nesting : Nesting ℕ ℕ) → AreAnchored d.scopes nesting → scope_number nesting < length d.scopes
    go outermost k = let n = h.fresh in omega arith
    go (inside around before anchor) k =
        let s = some_of (λ (s : StoredScope). s.id) (slice_get d.scopes (scope_number (inside around before anchor))) anchor.id k.1.id in
        slice_get_within d.scopes (scope_number (inside around before anchor)) s.0 s.1

-- scopes by number
pub scopes_within : (d : Draft) (proof : ProofItems ℕ ℕ) → IsDraft d (at outermost proof) → length d.scopes ≡ subproofs_in proof + 1
scopes_within d proof h = let n = scope_count d (at outermost proof) h in omega arith

read_scope : {X : Type 0} (f : ScopeEntry ℕ ℕ → X) (d : Draft) (proof : ProofItems ℕ ℕ) (k : ℕ) (x default : X) → IsDraft d (at outermost proof) → option_map (λ s. f s.entry) (slice_get d.scopes k) ≡ Some x → x ≡ option_map_or f (slice_get (scopes proof) k) default
read_scope f d proof k x default h at =
    let s = some_of (λ (s : StoredScope). f s.entry) (slice_get d.scopes k) x at in
    let there : slice_get (scopes proof) k ≡ Some s.0.entry = ap (λ l. slice_get l k) (sym h.scopes) ∙ (slice_get-map (λ (s : StoredScope). s.entry) d.scopes k ∙ ap (option_map (λ (s : StoredScope). s.entry)) s.1) in
    rw there (sym s.2)

module _ (d : Draft) (proof : ProofItems ℕ ℕ) (k : ℕ) (h : IsDraft d (at outermost proof)) where
  pub read_parent : (x : Option ℕ) → option_map (λ s. s.entry.parent) (slice_get d.scopes k) ≡ Some x → x ≡ parent_at proof k
  read_parent x at = read_scope (λ e. e.parent) d proof k x None h at

  pub read_last : (x : Option ℕ) → option_map (λ s. s.entry.last) (slice_get d.scopes k) ≡ Some x → x ≡ last_inside_at proof k
  read_last x at = read_scope (λ e. e.last) d proof k x None h at

  pub read_bindings : (x : List (ℕ × ℕ)) → option_map (λ s. s.entry.bindings) (slice_get d.scopes k) ≡ Some x → x ≡ bindings_at proof k
  read_bindings x at = read_scope (λ e. e.bindings) d proof k x [] h at

pub ruleset id_read = (read_own_id, read_anchor_id, inner_within)

pub ruleset scope_read = (read_own_scope, read_outer_scope, inner_within)
