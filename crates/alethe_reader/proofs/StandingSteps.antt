-- How a step stands, by its id among those in use.
use Rattle.std.proofs.Common.{◌≡◌, ◌≢◌, ℕ, zero, suc, ◌+◌, ◌<◌, List, [], ◌∷◌, ◌++◌, map, length, take, slice_get, Bool, true, false, if◌then◌else◌, Some, None, Err, refl, sym, ◌∙◌, ap, subst, arith}
use Rattle.std.specs.Prelude.{⊤, bytes_eq}
use Rattle.std.proofs.lemmas.Slice.Eq.{bytes_eq-Decides}
use Rattle.sexpr.specs.declared.causes.Cause.TheVariants.{BadAnchor}
use Rattle.sexpr.specs.declared.causes.Refusal.{Refusal}
use Rattle.sym_table.specs.Table.{Table}
use Rattle.term_model.specs.Terms.{Var, Term}
use Rattle.term_model.proofs.Zips.{zip_length}
use Rattle.term_pool.specs.Views.{TermsView}
use Rattle.rule_model.specs.Proofs.{ProofItems}
use Rattle.rule_model.specs.RuleNames.{IsSymbolName}
use Rattle.rule_model.specs.Scopes.{Anchor, Nesting, outermost, inside, at, scope_number}
use Rattle.rule_model.specs.Visibility.{seen, direct_assumes}
use Rattle.rule_model.specs.Writing.{is_open_id}
use Rattle.term_pool.specs.Bindings.{IsBindingOf}
use Rattle.text_items.specs.ItemShapes.{Name}
use Rattle.problem_text.specs.Outcomes.{Outcome, done, and_then}
use Rattle.alethe_text.specs.Ids.{Standing as TextStanding, id_judged, stands_in, closes_scope, standing_of}
use Rattle.alethe_text.specs.States.{ProofState, ◌>>=◌, give}
use Rattle.alethe_reader.specs.declared.ids.Found.{Found}
use Rattle.alethe_reader.specs.declared.ids.Role.TheVariants as role
use Rattle.alethe_reader.specs.declared.session.OpenAnchor.{OpenAnchor}
use Rattle.alethe_reader.specs.declared.session.Session.{Session}
use Rattle.alethe_reader.specs.Ids.{Used, IsUnused, IsUsedAt}
use Rattle.alethe_reader.specs.IdsInUse.{in_use, ids_in}
use Rattle.alethe_reader.specs.Judging.{cause_of}
use Rattle.alethe_reader.specs.Reach.{IsReach}
use Rattle.alethe_reader.specs.Sessions.{StandForNesting, starts, counts, IsWritten}
use Rattle.alethe_reader.specs.Standing.{IsAnchorOf, IsStandingOf, IsStanding}
use Rattle.alethe_reader.proofs.IdsInUse.{unused_new}
use Rattle.alethe_reader.proofs.JudgedIds.{judged_new, judged_used}
use Rattle.alethe_reader.proofs.Reaches.{splits, reaches_none, reaches_all, reaches_outer, reaches_assumes}
use Rattle.alethe_reader.proofs.WrittenStays.{ids_same}
use Rattle.term_expansion.specs.SymbolsAndTerms.{both}

-- the last of a list whose images end so
pub record EndsWith {A B : Type 0} (f : A → B) (xs : List A) (ys : List B) (y : B) : Type 0 where
  pub front : List A
  pub last : A
  pub split : xs ≡ front ++ last ∷ []
  pub same : f last ≡ y
  pub others : map f front ≡ ys

pub ends_with : {A B : Type 0} (f : A → B) (xs : List A) (ys : List B) (y : B) → map f xs ≡ ys ++ y ∷ [] → EndsWith f xs ys y
ends_with f [] [] y e = absurd (cc)
ends_with f [] (z ∷ ys) y e = absurd (cc)
ends_with f (x ∷ []) [] y e = record { front = []; last = x; split = refl; same = cc; others = refl }
ends_with f (x ∷ w ∷ xs) [] y e = absurd (cc)
ends_with f (x ∷ xs) (z ∷ ys) y e = go (ends_with f xs ys y (let t : map f xs ≡ ys ++ y ∷ [] = cc in t)) (let h : f x ≡ z = cc in h)
  where
    go : EndsWith f xs ys y → f x ≡ z → EndsWith f (x ∷ xs) (z ∷ ys) y
    go h e = record { front = x ∷ h.front; last = h.last; split = ap (λ l. x ∷ l) h.split; same = h.same; others = let k = h.others in cc }

one_end : {A : Type 0} (xs ys : List A) (x y : A) → xs ++ x ∷ [] ≡ ys ++ y ∷ [] → x ≡ y
one_end [] [] x y e = cc
one_end [] (b ∷ []) x y e = absurd (cc)
one_end [] (b ∷ c ∷ ys) x y e = absurd (cc)
one_end (a ∷ []) [] x y e = absurd (cc)
one_end (a ∷ c ∷ xs) [] x y e = absurd (cc)
one_end (a ∷ xs) (b ∷ ys) x y e = one_end xs ys x y (let t : xs ++ x ∷ [] ≡ ys ++ y ∷ [] = cc in t)

-- what stands in a prefix of a list
taken : {X : Type 0} (xs : List X) (n k : ℕ) (x : X) → slice_get (take n xs) k ≡ Some x → (slice_get xs k ≡ Some x) × (k < n)
taken [] zero k x e = absurd (cc)
taken [] (suc n) k x e = absurd (cc)
taken (y ∷ ys) zero k x e = absurd (cc)
taken (y ∷ ys) (suc n) zero x e = (e, omega arith)
taken (y ∷ ys) (suc n) (suc k) x e = let h = taken ys n k x e in (h.0, omega (arith, h.1))

-- the id of the anchor is in use where its scope begins
anchor_place : (xs : List Used) (u : Used) (ys : List Used) → slice_get (xs ++ (u ∷ ys)) (length xs) ≡ Some u
anchor_place [] u ys = refl
anchor_place (x ∷ xs) u ys = anchor_place xs u ys

module _ (around : Nesting Var Term) (before : ProofItems Var Term) (anchor : Anchor Var Term) (items : ProofItems Var Term) where
  abbrev whole : List Used
  whole = ids_in (at (inside around before anchor) items)

  start_used : slice_get whole (length (ids_in (at around before))) ≡ Some (in_use anchor.id role.Anchor (scope_number (inside around before anchor)))
  start_used = ap (λ us. slice_get us (length (ids_in (at around before)))) (splits around before anchor items) ∙ anchor_place (ids_in (at around before)) _ _

  unused_not_open : (id : List ℕ) → IsUnused whole id → bytes_eq id anchor.id ≡ false
  unused_not_open id h = go (bytes_eq id anchor.id) refl
    where
      go : (b : Bool) → bytes_eq id anchor.id ≡ b → b ≡ false
      go true e = absurd (h (length (ids_in (at around before))) _ start_used (sym ((bytes_eq-Decides id anchor.id).0 e)))
      go false e = refl

  used_open : (id : List ℕ) (f : Found) → IsUsedAt whole id f → f.place ≡ length (ids_in (at around before)) → bytes_eq id anchor.id ≡ true
  used_open id f h e =
      let same : Some (in_use id f.role f.number) ≡ Some (in_use anchor.id role.Anchor (scope_number (inside around before anchor))) = sym h.here ∙ (ap (slice_get whole) e ∙ start_used) in
      (bytes_eq-Decides id anchor.id).1 (inner same)
    where
      some : {X : Type 0} {a b : X} → Some a ≡ Some b → a ≡ b
      some e = cc

      inner : Some (in_use id f.role f.number) ≡ Some (in_use anchor.id role.Anchor (scope_number (inside around before anchor))) → id ≡ anchor.id
      inner e = ap (λ (u : Used). u.id) (some e)

  used_not_open : (id : List ℕ) (f : Found) → IsUsedAt whole id f → f.place ≢ length (ids_in (at around before)) → bytes_eq id anchor.id ≡ false
  used_not_open id f h e = go (bytes_eq id anchor.id) refl
    where
      go : (b : Bool) → bytes_eq id anchor.id ≡ b → b ≡ false
      go true g = absurd (e (sym (h.alone (length (ids_in (at around before))) _ start_used (sym ((bytes_eq-Decides id anchor.id).0 g)))))
      go false g = refl

-- the id of an open anchor is in use
not_open_id : (n : Nesting Var Term) (items : ProofItems Var Term) (id : List ℕ) → IsUnused (ids_in (at n items)) id → is_open_id n id ≡ false
not_open_id outermost items id h = refl
not_open_id (inside around before anchor) items id h = unused_not_open around before anchor items id h

module _ (s : Table) (v : TermsView) (d : Session) (p : ProofState) (n : Name) (h : IsWritten (both s v) d p) where
  pub same_ids : d.ids.used ≡ ids_in p.scope
  same_ids = h.ids ∙ ids_same s v d.builder p.scope h.nesting h.items

  -- what the standing comes to
  abbrev stood : Bool → Outcome ProofState TextStanding → Outcome ProofState TextStanding
  stood b other = if b then done (closes_scope p.scope.nesting p.scope.items) p else other

  comes : (b : Bool) → is_open_id p.scope.nesting n.name ≡ b → standing_of n p ≡ stood b (and_then (id_judged BadAnchor n p) (λ _. give (stands_in p.scope)))
  unfolding standing_of ◌>>=◌
  comes true e = rw e refl
  comes false e = rw e refl

  -- a new id
  pub stands_here : (len : ℕ) → len ≡ length d.ids.used → IsSymbolName n.name → IsUnused d.ids.used n.name
      → IsStandingOf d.ids.used p n (record { premises = record { first = 0; end = len; takes_steps = true }; discharges = record { first = 0; end = 0; takes_steps = false }; closes = None })
  stands_here len e symbol unused =
      let new : IsUnused (ids_in p.scope) n.name = subst (λ us. IsUnused us n.name) same_ids unused in
      let not_open = not_open_id p.scope.nesting p.scope.items n.name new in
      record {
        here = stands_in p.scope;
        comes = comes false not_open ∙ ap (λ (o : Outcome ProofState ⊤). and_then o (λ _. give (stands_in p.scope))) (judged_new BadAnchor n p new);
        closes = (not_open, refl, unused, unused_new p.scope n.name symbol new);
        premises = subst (λ us. IsReach us (record { first = 0; end = len; takes_steps = true }) (stands_in p.scope).sees) (sym same_ids) (reaches_all p.scope len (e ∙ ap length same_ids));
        discharges = reaches_none d.ids.used false;
      }

  -- an id in use
  module _ (f : Found) (used : IsUsedAt d.ids.used n.name f) where
    there : IsUsedAt (ids_in p.scope) n.name f
    there = subst (λ us. IsUsedAt us n.name f) same_ids used

    refused : is_open_id p.scope.nesting n.name ≡ false → (refusal : Refusal) → refusal ≡ record { cause = cause_of BadAnchor f.role; at = n.place } → IsStanding d.ids.used p n (Err refusal)
    refused e refusal is =
        ap (λ (o : Outcome ProofState TextStanding). o.result) (comes false e ∙ ap (λ (o : Outcome ProofState ⊤). and_then o (λ _. give (stands_in p.scope))) (judged_used BadAnchor n p f there))
        ∙ ap Err (sym is)

    -- which is not that of the innermost anchor
    pub stands_nowhere : ((front : List OpenAnchor) (a : OpenAnchor) → d.anchors.items ≡ front ++ a ∷ [] → a.ids ≢ f.place) → (refusal : Refusal) → refusal ≡ record { cause = cause_of BadAnchor f.role; at = n.place } → IsStanding d.ids.used p n (Err refusal)
    stands_nowhere none refusal is = refused (go d.builder.nesting p.scope.nesting h.nesting h.starts_kept there) refusal is
      where
        go : (r : Nesting ℕ ℕ) (m : Nesting Var Term) → StandForNesting (both s v) r m → map (λ (a : OpenAnchor). a.ids) d.anchors.items ≡ starts r → IsUsedAt (ids_in (at m p.scope.items)) n.name f → is_open_id m n.name ≡ false
        go outermost outermost k e u = refl
        go outermost (inside around before anchor) k e u = absurd k
        go (inside around before anchor) outermost k e u = absurd k
        go (inside around before anchor) (inside outer behind other) k e u =
            let last = ends_with (λ (a : OpenAnchor). a.ids) d.anchors.items (starts around) (length (ids_in (at around before))) e in
            let same : length (ids_in (at around before)) ≡ length (ids_in (at outer behind)) = ap length (ids_same s v (at around before) (at outer behind) k.0 k.1) in
            used_not_open outer behind other p.scope.items n.name f u (λ place. none last.front last.last last.split (last.same ∙ (same ∙ sym place)))

    -- which is that of the innermost anchor
    pub stands_closing : (front : List OpenAnchor) (a : OpenAnchor) → d.anchors.items ≡ front ++ a ∷ [] → a.ids ≡ f.place → (first len : ℕ) → first ≡ a.ids + 1 → len ≡ length d.ids.used
        → IsStandingOf d.ids.used p n (record { premises = record { first = 0; end = a.ids; takes_steps = true }; discharges = record { first = first; end = len; takes_steps = false }; closes = Some a })
    stands_closing front a split place first len e l =
        go d.builder.nesting p.scope.nesting h.nesting h.starts_kept h.counts_kept there refl
      where
        unused_before : (start : ℕ) → start ≡ f.place → IsUnused (take start d.ids.used) n.name
        unused_before start e k u has same =
            let within = taken d.ids.used start k u has in
            let there = used.alone k u within.0 same in
            omega (arith, within.1, there, e)

        go : (r : Nesting ℕ ℕ) (m : Nesting Var Term) → StandForNesting (both s v) r m → map (λ (a : OpenAnchor). a.ids) d.anchors.items ≡ starts r → map (λ (a : OpenAnchor). a.variables) d.anchors.items ≡ counts r
            → IsUsedAt (ids_in (at m p.scope.items)) n.name f → m ≡ p.scope.nesting
            → IsStandingOf d.ids.used p n (record { premises = record { first = 0; end = a.ids; takes_steps = true }; discharges = record { first = first; end = len; takes_steps = false }; closes = Some a })
        go outermost outermost k es cs u same = absurd (none (sym es ∙ ap (map (λ (a : OpenAnchor). a.ids)) split))
          where
            none : [] ≡ map (λ (a : OpenAnchor). a.ids) (front ++ a ∷ []) → ⊥
            none e = no_end front e
              where
                no_end : (xs : List OpenAnchor) → [] ≡ map (λ (a : OpenAnchor). a.ids) (xs ++ a ∷ []) → ⊥
                no_end [] e = cc
                no_end (x ∷ xs) e = cc
        go outermost (inside around before anchor) k es cs u same = absurd k
        go (inside around before anchor) outermost k es cs u same = absurd k
        go (inside around before anchor) (inside outer behind other) k es cs u same =
            let last = ends_with (λ (a : OpenAnchor). a.ids) d.anchors.items (starts around) (length (ids_in (at around before))) es in
            let count = ends_with (λ (a : OpenAnchor). a.variables) d.anchors.items (counts around) (length anchor.bindings) cs in
            let one : last.last ≡ a = one_end last.front front last.last a (sym last.split ∙ split) in
            let two : count.last ≡ a = one_end count.front front count.last a (sym count.split ∙ split) in
            let length_same : length (ids_in (at around before)) ≡ length (ids_in (at outer behind)) = ap length (ids_same s v (at around before) (at outer behind) k.0 k.1) in
            let start : a.ids ≡ length (ids_in (at outer behind)) = ap (λ (a : OpenAnchor). a.ids) (sym one) ∙ (last.same ∙ length_same) in
            let bound : a.variables ≡ length other.bindings = ap (λ (a : OpenAnchor). a.variables) (sym two) ∙ (count.same ∙ zip_length (IsBindingOf s v) anchor.bindings other.bindings k.3) in
            let opened : is_open_id (inside outer behind other) n.name ≡ true = used_open outer behind other p.scope.items n.name f u (sym place ∙ start) in
            let ids : d.ids.used ≡ ids_in (at (inside outer behind other) p.scope.items) = same_ids ∙ ap (λ m. ids_in (at m p.scope.items)) (sym same) in
            record {
              here = closes_scope p.scope.nesting p.scope.items;
              comes = comes true (subst (λ m. is_open_id m n.name ≡ true) same opened);
              closes = (subst (λ m. is_open_id m n.name ≡ true) same opened, refl, subst (λ m. IsAnchorOf m a) same (start, bound), unused_before a.ids place);
              premises = subst (λ m. IsReach d.ids.used (record { first = 0; end = a.ids; takes_steps = true }) (closes_scope m p.scope.items).sees) same
                  (subst (λ us. IsReach us (record { first = 0; end = a.ids; takes_steps = true }) (seen outer behind)) (sym ids) (reaches_outer outer behind other p.scope.items a.ids start));
              discharges = subst (λ m. IsReach d.ids.used (record { first = first; end = len; takes_steps = false }) (closes_scope m p.scope.items).discharges) same
                  (subst (λ us. IsReach us (record { first = first; end = len; takes_steps = false }) (direct_assumes (inside outer behind other) p.scope.items)) (sym ids)
                  (reaches_assumes outer behind other p.scope.items first len (e ∙ ap (λ n. n + 1) start) (l ∙ ap length ids)));
            }
