-- The anchors that are open at a command are those of its scope and the scopes around it.
use Rattle.std.proofs.Common.{◌≡◌, ◌≤◌, ◌+◌, ℕ, suc, List, [], ◌∷◌, ◌++◌, length, slice_get, Option, Some, None, refl, sym, ◌∙◌, ap, subst, arith}
use Rattle.std.specs.Bool.{⊤}
use Rattle.std.specs.List.{AllByRecursion}
use Rattle.std.specs.Option.{option_map, option_map_or}
use Rattle.std.proofs.lemmas.Option.{slice_get-map, slice_get_within}
use Rattle.term_model.proofs.Lists.{slice_get-left, all_joined}
use Rattle.rule_model.specs.Commands.{IndexedCommand, assume, step, closing, Line, Entry, entry_of, lines_in, own_scope, around_number, closed_scope, ScopeEntry, scope_entry, scopes_in, scopes}
use Rattle.rule_model.specs.Judged.{open_anchors, anchors_at}
use Rattle.rule_model.specs.Proofs.{ProofItems, no_items, with_assume, with_step, with_subproof}
use Rattle.rule_model.specs.Reading.{closes_at, scope_at}
use Rattle.rule_model.specs.Scopes.{Nesting, outermost, inside, inner, subproofs_in, scope_number}
use Rattle.rule_model.proofs.LineReading.{anchors_are, closes_is, scope_is}
use Rattle.rule_model.proofs.Numbers.{scopes_in_count}
use Rattle.rule_model.proofs.Standing.{all_at}
use Rattle.proof_contexts.specs.OpenAnchors.{AreOpenIn}

module _ {V T : Type 0} where
  -- the scopes have an entry of this one and of each around it
  record HasEntry (entries : List (ScopeEntry V T)) (k parent : ℕ) (bindings : List (V × T)) : Type 0 where
    entry : ScopeEntry V T
    there : slice_get entries k ≡ Some entry
    parent_is : entry.parent ≡ Some parent
    bindings_are : entry.bindings ≡ bindings

  HasEntries : List (ScopeEntry V T) → Nesting V T → Type 0
  HasEntries entries outermost = ⊤
  HasEntries entries (inside around before anchor) =
      HasEntry entries (scope_number (inside around before anchor)) (scope_number around) anchor.bindings × HasEntries entries around

  -- the scopes inside this one stand in the list behind it
  StandBehind : List (ScopeEntry V T) → ℕ → List (ScopeEntry V T) → Type 0
  StandBehind entries number list =
      (j : ℕ) (e : ScopeEntry V T) → slice_get list j ≡ Some e → slice_get entries (suc (number + j)) ≡ Some e

  after : (xs : List (ScopeEntry V T)) (y : ScopeEntry V T) (ys : List (ScopeEntry V T)) (k : ℕ) (e : ScopeEntry V T) → slice_get (y ∷ ys) k ≡ Some e → slice_get (xs ++ y ∷ ys) (length xs + k) ≡ Some e
  after [] y ys k e h = let same : 0 + k ≡ k = omega arith in rw same h
  after (x ∷ xs) y ys k e h =
      let same : length (x ∷ xs) + k ≡ suc (length xs + k) = omega arith in rw same (after xs y ys k e h)

  lines_have : (entries : List (ScopeEntry V T)) (nesting : Nesting V T) (items : ProofItems V T) → StandBehind entries (scope_number nesting) (scopes_in nesting items) → HasEntries entries nesting → AllByRecursion (λ l. HasEntries entries l.scope.nesting) (lines_in nesting items)
  unfolding HasEntries StandBehind
  lines_have entries nesting no_items behind has = tt
  lines_have entries nesting (with_assume items id t) behind has =
      all_joined _ (lines_in nesting items) _ (lines_have entries nesting items behind has) (has, tt)
  lines_have entries nesting (with_step items s) behind has =
      all_joined _ (lines_in nesting items) _ (lines_have entries nesting items behind has) (has, tt)
  lines_have entries nesting (with_subproof items bindings proof s) behind has =
      let deep = inner nesting items bindings s in
      let xs = scopes_in nesting items in
      let own = scope_entry deep proof in
      let ys = scopes_in deep proof in
      let count = scopes_in_count nesting items in
      let number : suc (scope_number nesting + (length xs + 0)) ≡ scope_number deep = omega arith in
      let here = behind (length xs + 0) own (after xs own ys 0 own refl) in
      let has_deep : HasEntries entries deep =
      (record { entry = own; there = subst (λ k. slice_get entries k ≡ Some own) number here; parent_is = refl; bindings_are = refl }, has) in
      all_joined _ (lines_in nesting items ++ lines_in deep proof) _
      (all_joined _ (lines_in nesting items) _
      (lines_have entries nesting items (λ j e h. behind j e (slice_get-left xs (own ∷ ys) j e h)) has)
      (lines_have entries deep proof (λ j e h. let same : suc (scope_number nesting + (length xs + suc j)) ≡ suc (scope_number deep + j) = omega arith in
      subst (λ k. slice_get entries k ≡ Some e) same (behind (length xs + suc j) e (after xs own ys (suc j) e h))) has_deep))
      (has_deep, tt)

  module _ (proof : ProofItems V T) where
    open_here : (nesting : Nesting V T) → HasEntries (scopes proof) nesting → AreOpenIn proof (scope_number nesting) (open_anchors nesting)
    unfolding HasEntries
    open_here outermost has = refl
    open_here (inside around before anchor) has =
        let e = has.0 in (
          scope_number around,
          ap (λ o. option_map_or (λ (e : ScopeEntry V T). e.parent) o None) e.there ∙ e.parent_is,
          ap (λ o. option_map_or (λ (e : ScopeEntry V T). e.bindings) o []) e.there ∙ e.bindings_are,
          open_here around has.1,
        )

    all_have : AllByRecursion (λ l. HasEntries (scopes proof) l.scope.nesting) (lines_in outermost proof)
    unfolding HasEntries StandBehind
    all_have = lines_have (scopes proof) outermost proof (λ j e h. let same : suc (0 + j) ≡ suc j = omega arith in rw same h) tt

    pub open_at : (i : ℕ) → closes_at proof i ≡ None → AreOpenIn proof (scope_at proof i) (anchors_at proof i)
    open_at i closes = go (slice_get (lines_in outermost proof) i) refl
      where
        none_some : {k : ℕ} → None ≡ Some k → ⊥
        none_some e = cc

        by_command : (nesting : Nesting V T) (c : IndexedCommand T) → scope_at proof i ≡ own_scope nesting c → anchors_at proof i ≡ open_anchors nesting → closed_scope nesting c ≡ None → AreOpenIn proof (scope_number nesting) (open_anchors nesting) → AreOpenIn proof (scope_at proof i) (anchors_at proof i)
        by_command nesting (assume id t) own anchors none h = rw (own, anchors) h
        by_command nesting (step s) own anchors none h = rw (own, anchors) h
        by_command nesting (closing s) own anchors none h = absurd (none_some (sym none))

        go : (o : Option (Line V T)) → slice_get (lines_in outermost proof) i ≡ o → AreOpenIn proof (scope_at proof i) (anchors_at proof i)
        go None e =
            let scope : scope_at proof i ≡ 0 = ap (λ o. option_map_or (λ (e : Entry T). e.scope) o 0) (slice_get-map entry_of (lines_in outermost proof) i ∙ ap (option_map entry_of) e) in
            let anchors : anchors_at proof i ≡ [] = ap (λ o. option_map_or (λ (l : Line V T). open_anchors l.scope.nesting) o []) e in
            rw (scope, anchors) refl
        go (Some l) e =
            by_command l.scope.nesting l.command (scope_is proof i l e) (anchors_are proof i l e) (sym (closes_is proof i l e) ∙ closes)
            (open_here l.scope.nesting (all_at _ (lines_in outermost proof) i l all_have e))

    -- the scope of a command is one of the proof's
    number_within : (nesting : Nesting V T) → HasEntries (scopes proof) nesting → scope_number nesting ≤ subproofs_in proof
    unfolding HasEntries
    number_within outermost has = omega arith
    number_within (inside around before anchor) has =
        let count = scopes_in_count outermost proof in
        let inside_list = slice_get_within (scopes proof) (scope_number (inside around before anchor)) has.0.entry has.0.there in
        omega arith

    around_within : (nesting : Nesting V T) → HasEntries (scopes proof) nesting → around_number nesting ≤ subproofs_in proof
    unfolding HasEntries
    around_within outermost has = omega arith
    around_within (inside around before anchor) has = number_within around has.1

    pub scope_within : (i : ℕ) → scope_at proof i ≤ subproofs_in proof
    scope_within i = go (slice_get (lines_in outermost proof) i) refl
      where
        by_command : (nesting : Nesting V T) (c : IndexedCommand T) → scope_at proof i ≡ own_scope nesting c → HasEntries (scopes proof) nesting → scope_at proof i ≤ subproofs_in proof
        by_command nesting (assume id t) own has = rw own (number_within nesting has)
        by_command nesting (step s) own has = rw own (number_within nesting has)
        by_command nesting (closing s) own has = rw own (around_within nesting has)

        go : (o : Option (Line V T)) → slice_get (lines_in outermost proof) i ≡ o → scope_at proof i ≤ subproofs_in proof
        go None e =
            let scope : scope_at proof i ≡ 0 = ap (λ o. option_map_or (λ (e : Entry T). e.scope) o 0) (slice_get-map entry_of (lines_in outermost proof) i ∙ ap (option_map entry_of) e) in
            rw scope (omega arith)
        go (Some l) e = by_command l.scope.nesting l.command (scope_is proof i l e) (all_at _ (lines_in outermost proof) i l all_have e)
