-- Private. The scopes and the commands of a proof correspond to those of its elaboration.
use Rattle.std.proofs.Common.{◌≡◌, ℕ, List, [], ◌∷◌, ◌++◌, map, Option, Some, refl, sym, ◌∙◌, ap, subst, arith}
use Rattle.std.proofs.lemmas.List.{map-append}
use Rattle.rule_model.specs.Commands.{Line, lines_in, ScopeEntry, scope_entry, scopes_in}
use Rattle.rule_model.specs.Correspondence.{IsSubsequence, both_end, stays, dropped, placed_clause, placed_clauses, frame_of, frames}
use Rattle.rule_model.specs.Elaboration.{Adds, none_added, step_added, assume_added}
use Rattle.rule_model.specs.Elaboration.{Keeps, nothing_kept, assume_kept, assume_derived, step_kept, subproof_kept}
use Rattle.rule_model.specs.Proofs.{ProofItems}
use Rattle.rule_model.specs.Scopes.{Nesting, outermost, inner, subproofs_in, scope_number}
use Rattle.rule_model.specs.Statuses.{Checking}

module _ {X : Type 0} where
  same_sequence : (xs : List X) → IsSubsequence xs xs
  same_sequence [] = both_end
  same_sequence (x ∷ xs) = stays x xs xs (same_sequence xs)

  joined : (xs ys zs ws : List X) → IsSubsequence xs ys → IsSubsequence zs ws → IsSubsequence (xs ++ zs) (ys ++ ws)
  joined _ _ zs ws both_end second = second
  joined _ _ zs ws (stays x xs ys first) second = stays x (xs ++ zs) (ys ++ ws) (joined xs ys zs ws first second)
  joined _ _ zs ws (dropped y xs ys first) second = dropped y (xs ++ zs) (ys ++ ws) (joined xs ys zs ws first second)

  last_stays : (xs ys : List X) (x y : X) → x ≡ y → IsSubsequence xs ys → IsSubsequence (xs ++ x ∷ []) (ys ++ y ∷ [])
  last_stays xs ys x y same first =
      subst (λ z. IsSubsequence (xs ++ x ∷ []) (ys ++ z ∷ [])) same (joined xs ys (x ∷ []) (x ∷ []) first (same_sequence (x ∷ [])))

  append-none : (xs : List X) → xs ++ [] ≡ xs
  append-none [] = refl
  append-none (x ∷ xs) = ap (λ ys. x ∷ ys) (append-none xs)

  last_dropped : (xs ys : List X) (y : X) → IsSubsequence xs ys → IsSubsequence xs (ys ++ y ∷ [])
  last_dropped xs ys y first =
      subst (λ zs. IsSubsequence zs (ys ++ y ∷ [])) (append-none xs) (joined xs ys [] (y ∷ []) first (dropped y [] [] both_end))

module _ (c : Checking) {V T : Type 0} where
  -- what is added opens no scope
  adds_scopes : (nesting : Nesting V T) (items more : ProofItems V T) → Adds c nesting items more → subproofs_in more ≡ subproofs_in items
  adds_scopes _ _ _ (none_added nesting items) = refl
  adds_scopes _ _ _ (step_added nesting items more s adds other) = adds_scopes nesting items more adds
  adds_scopes _ _ _ (assume_added items more id t adds) = adds_scopes outermost items more adds

  keeps_count : (around new_around : Nesting V T) (items kept : ProofItems V T) → Keeps c around items new_around kept
      → subproofs_in kept ≡ subproofs_in items
  keeps_count _ _ _ _ (nothing_kept around new_around) = refl
  keeps_count _ _ _ _ (assume_kept around new_around items kept more id new_id t keeps adds) =
      adds_scopes new_around kept more adds ∙ keeps_count around new_around items kept keeps
  keeps_count _ _ _ _ (assume_derived items kept more id t s keeps adds clause other) =
      adds_scopes outermost kept more adds ∙ keeps_count outermost outermost items kept keeps
  keeps_count _ _ _ _ (step_kept around new_around items kept more old new keeps adds takes) =
      adds_scopes new_around kept more adds ∙ keeps_count around new_around items kept keeps
  keeps_count _ _ _ _ (subproof_kept around new_around items kept more inner_items inner_kept bindings old new keeps adds within takes same) =
      let before = adds_scopes new_around kept more adds ∙ keeps_count around new_around items kept keeps in
      let inside = keeps_count (inner around items bindings old) (inner new_around more bindings new) inner_items inner_kept within in
      omega arith

  abbrev frames_in : Nesting V T → ProofItems V T → List (Option ℕ × List (V × T))
  frames_in nesting items = map frame_of (scopes_in nesting items)

  adds_frames : (nesting : Nesting V T) (items more : ProofItems V T) → Adds c nesting items more → frames_in nesting more ≡ frames_in nesting items
  adds_frames _ _ _ (none_added nesting items) = refl
  adds_frames _ _ _ (step_added nesting items more s adds other) = adds_frames nesting items more adds
  adds_frames _ _ _ (assume_added items more id t adds) = adds_frames outermost items more adds

  frames_joined : (xs ys zs ws : List (ScopeEntry V T)) (x y : ScopeEntry V T) → map frame_of xs ≡ map frame_of zs → frame_of x ≡ frame_of y
      → map frame_of ys ≡ map frame_of ws → map frame_of (xs ++ x ∷ ys) ≡ map frame_of (zs ++ y ∷ ws)
  frames_joined xs ys zs ws x y first here second =
      map-append frame_of xs (x ∷ ys)
      ∙ (ap (λ us. us ++ frame_of x ∷ map frame_of ys) first
      ∙ (ap (λ f. map frame_of zs ++ f ∷ map frame_of ys) here
      ∙ (ap (λ us. map frame_of zs ++ frame_of y ∷ us) second ∙ sym (map-append frame_of zs (y ∷ ws)))))

  keeps_frames : (around new_around : Nesting V T) (items kept : ProofItems V T) → scope_number new_around ≡ scope_number around
      → Keeps c around items new_around kept → frames_in new_around kept ≡ frames_in around items
  keeps_frames _ _ _ _ number (nothing_kept around new_around) = refl
  keeps_frames _ _ _ _ number (assume_kept around new_around items kept more id new_id t keeps adds) =
      adds_frames new_around kept more adds ∙ keeps_frames around new_around items kept number keeps
  keeps_frames _ _ _ _ number (assume_derived items kept more id t s keeps adds clause other) =
      adds_frames outermost kept more adds ∙ keeps_frames outermost outermost items kept number keeps
  keeps_frames _ _ _ _ number (step_kept around new_around items kept more old new keeps adds takes) =
      adds_frames new_around kept more adds ∙ keeps_frames around new_around items kept number keeps
  keeps_frames _ _ _ _ number (subproof_kept around new_around items kept more inner_items inner_kept bindings old new keeps adds within takes same) =
      let before = adds_scopes new_around kept more adds ∙ keeps_count around new_around items kept keeps in
      frames_joined (scopes_in new_around more) (scopes_in (inner new_around more bindings new) inner_kept)
      (scopes_in around items) (scopes_in (inner around items bindings old) inner_items)
      (scope_entry (inner new_around more bindings new) inner_kept) (scope_entry (inner around items bindings old) inner_items)
      (adds_frames new_around kept more adds ∙ keeps_frames around new_around items kept number keeps)
      (ap (λ n. (Some n, bindings)) number)
      (keeps_frames (inner around items bindings old) (inner new_around more bindings new) inner_items inner_kept (omega arith) within)

  abbrev placed : Nesting V T → ProofItems V T → List (ℕ × List T)
  placed nesting items = map placed_clause (lines_in nesting items)

  one_more : (lines : List (Line V T)) (l : Line V T) → map placed_clause (lines ++ l ∷ []) ≡ map placed_clause lines ++ placed_clause l ∷ []
  one_more lines l = map-append placed_clause lines (l ∷ [])

  stays_behind : (xs ys : List (Line V T)) (l m : Line V T) → placed_clause l ≡ placed_clause m
      → IsSubsequence (map placed_clause xs) (map placed_clause ys)
      → IsSubsequence (map placed_clause (xs ++ l ∷ [])) (map placed_clause (ys ++ m ∷ []))
  stays_behind xs ys l m same first =
      rw (one_more xs l, one_more ys m) (last_stays (map placed_clause xs) (map placed_clause ys) (placed_clause l) (placed_clause m) same first)

  adds_placed : (nesting : Nesting V T) (items more : ProofItems V T) (xs : List (ℕ × List T)) → Adds c nesting items more
      → IsSubsequence xs (placed nesting items) → IsSubsequence xs (placed nesting more)
  adds_placed _ _ _ xs (none_added nesting items) first = first
  adds_placed _ _ _ xs (step_added nesting items more s adds other) first =
      rw (one_more (lines_in nesting more) _) (last_dropped xs (placed nesting more) _ (adds_placed nesting items more xs adds first))
  adds_placed _ _ _ xs (assume_added items more id t adds) first =
      rw (one_more (lines_in outermost more) _) (last_dropped xs (placed outermost more) _ (adds_placed outermost items more xs adds first))

  keeps_placed : (around new_around : Nesting V T) (items kept : ProofItems V T) → scope_number new_around ≡ scope_number around
      → Keeps c around items new_around kept → IsSubsequence (placed around items) (placed new_around kept)
  keeps_placed _ _ _ _ number (nothing_kept around new_around) = both_end
  keeps_placed _ _ _ _ number (assume_kept around new_around items kept more id new_id t keeps adds) =
      stays_behind (lines_in around items) (lines_in new_around more) _ _ (ap (λ n. (n, t ∷ [])) (sym number))
      (adds_placed new_around kept more _ adds (keeps_placed around new_around items kept number keeps))
  keeps_placed _ _ _ _ number (assume_derived items kept more id t s keeps adds clause other) =
      stays_behind (lines_in outermost items) (lines_in outermost more) _ _ (ap (λ ts. (0, ts)) (sym clause))
      (adds_placed outermost kept more _ adds (keeps_placed outermost outermost items kept number keeps))
  keeps_placed _ _ _ _ number (step_kept around new_around items kept more old new keeps adds takes) =
      stays_behind (lines_in around items) (lines_in new_around more) _ _
      (ap (λ n. (n, old.clause)) (sym number) ∙ ap (λ ts. (scope_number new_around, ts)) (sym takes.clause))
      (adds_placed new_around kept more _ adds (keeps_placed around new_around items kept number keeps))
  keeps_placed _ _ _ _ number (subproof_kept around new_around items kept more inner_items inner_kept bindings old new keeps adds within takes same) =
      let before = adds_scopes new_around kept more adds ∙ keeps_count around new_around items kept keeps in
      stays_behind
      (lines_in around items ++ lines_in (inner around items bindings old) inner_items)
      (lines_in new_around more ++ lines_in (inner new_around more bindings new) inner_kept) _ _
      (ap (λ n. (n, old.clause)) (sym number) ∙ ap (λ ts. (scope_number new_around, ts)) (sym takes.clause))
      (both_placed (lines_in around items) (lines_in (inner around items bindings old) inner_items)
      (lines_in new_around more) (lines_in (inner new_around more bindings new) inner_kept)
      (adds_placed new_around kept more _ adds (keeps_placed around new_around items kept number keeps))
      (keeps_placed (inner around items bindings old) (inner new_around more bindings new) inner_items inner_kept (omega arith) within))
    where
      both_placed : (xs ys zs ws : List (Line V T)) → IsSubsequence (map placed_clause xs) (map placed_clause zs)
          → IsSubsequence (map placed_clause ys) (map placed_clause ws)
          → IsSubsequence (map placed_clause (xs ++ ys)) (map placed_clause (zs ++ ws))
      both_placed xs ys zs ws first second =
          rw (map-append placed_clause xs ys, map-append placed_clause zs ws)
          (joined (map placed_clause xs) (map placed_clause zs) (map placed_clause ys) (map placed_clause ws) first second)

  pub same_frames : (old new : ProofItems V T) → Keeps c outermost old outermost new → frames new ≡ frames old
  same_frames old new keeps = ap (λ fs. frame_of (scope_entry outermost old) ∷ fs) (keeps_frames outermost outermost old new refl keeps)

  pub clauses_stay : (old new : ProofItems V T) → Keeps c outermost old outermost new → IsSubsequence (placed_clauses old) (placed_clauses new)
  clauses_stay old new keeps = keeps_placed outermost outermost old new refl keeps
