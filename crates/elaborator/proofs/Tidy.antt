-- Ids that are new, and counts that stay right.
use Rattle.std.proofs.Common.{◌≡◌, ◌<◌, ◌≤◌, ◌+◌, ◌-◌, ◌^◌, ℕ, Bool, true, false, List, [], ◌∷◌, ◌++◌, map, length, All, Contains, refl, sym, ◌∙◌, ap, subst, arith, if◌then◌else◌}
use Rattle.std.specs.Str.{bytes_eq}
use Rattle.std.proofs.lemmas.List.{length-append}
use Rattle.std.proofs.lemmas.List.Elements.{All-push, All-weaker, All-contains, Contains-push}
use Rattle.std.proofs.lemmas.Slice.Eq.{bytes_eq-Decides}
use Rattle.rule_model.specs.Proofs.{Step, ProofItems, with_subproof}
use Rattle.rule_model.specs.Scopes.{Anchor, Nesting, outermost, inside, Scope, at, next_index, next_scope}
use Rattle.rule_model.specs.Visibility.{Sight, direct, visible_ids, open_ids}
use Rattle.rule_model.specs.WellFormed.{IsNewId}
use Rattle.rule_model.specs.Writing.{add_assume, add_step, open_anchor, is_open_id, take_step, close_scope}
use Rattle.elaborator.specs.declared.putting.Opened.{Opened}
use Rattle.elaborator.specs.Names.{name_of, number_of}
use Rattle.elaborator.specs.Reached.{State, one_more, placed, new_name, IsTidy}
use Rattle.elaborator.proofs.Names.{number_name, symbol_name}
use Rattle.elaborator.proofs.Seeing.{ids_assume, ids_step, ids_subproof, ids_opened, ids_inside, all_left}

grown : (n m : ℕ) (ids : List (List ℕ)) → n ≤ m → All (λ id. number_of id < n) ids → All (λ id. number_of id < m) ids
grown n m ids less h = All-weaker (λ id. number_of id < n) (λ id. number_of id < m) (λ id l. omega arith) ids h

module _ (s : State) (h : IsTidy s) (few : next_index s.builder + 1 < 2 ^ 32 - 1) where
  pub own_number : number_of (name_of (new_name s)) ≡ new_name s
  own_number = number_name (new_name s) (let c = h.count in let f = h.few in omega arith)

  not_among : (ids : List (List ℕ)) → All (λ id. number_of id < new_name s) ids → ¬ Contains ids (name_of (new_name s))
  not_among ids all has =
      let less = All-contains (λ id. number_of id < new_name s) ids (name_of (new_name s)) all has in
      let own = own_number in absurd (omega arith)

  pub new_id : IsNewId s.builder.nesting s.builder.items (name_of (new_name s))
  new_id = record {
    symbol = symbol_name (new_name s);
    unseen = not_among (visible_ids s.builder.nesting s.builder.items) h.ids;
    not_open = not_among (open_ids s.builder.nesting) h.open_ids;
  }

  pub shut : is_open_id s.builder.nesting (name_of (new_name s)) ≡ false
  shut = go s.builder.nesting h.open_ids
    where
      other : (id : List ℕ) (b : Bool) → bytes_eq (name_of (new_name s)) id ≡ b → ¬ (name_of (new_name s) ≡ id) → b ≡ false
      other id true e differs = absurd (differs ((bytes_eq-Decides (name_of (new_name s)) id).0 e))
      other id false e differs = refl

      go : (n : Nesting ℕ ℕ) → All (λ id. number_of id < new_name s) (open_ids n) → is_open_id n (name_of (new_name s)) ≡ false
      go outermost all = refl
      go (inside around before anchor) all =
          other anchor.id (bytes_eq (name_of (new_name s)) anchor.id) refl
          (λ same. not_among (open_ids (inside around before anchor)) all (subst (Contains (open_ids (inside around before anchor))) (sym same) (Contains-push (open_ids around) anchor.id)))

  pub stands : (step : Step ℕ) → step.id ≡ name_of (new_name s) → take_step s.builder step ≡ add_step s.builder step
  stands step e = by_test (is_open_id s.builder.nesting step.id) (ap (is_open_id s.builder.nesting) e ∙ shut)
    where
      by_test : (b : Bool) → b ≡ false → (if b then close_scope s.builder.nesting s.builder.items step else add_step s.builder step) ≡ add_step s.builder step
      by_test true f = absurd (cc)
      by_test false f = refl

  pub tidy_step : (step : Step ℕ) → step.id ≡ name_of (new_name s) → IsTidy (one_more (add_step s.builder step) s)
  tidy_step step e =
      let n = new_name s in
      let ids = visible_ids s.builder.nesting s.builder.items in
      let own : number_of step.id < n + 1 = rw e (let o = own_number in omega arith) in
      record {
        count = let c = h.count in omega arith;
        scopes = h.scopes;
        few = h.few;
        ids = subst (All (λ id. number_of id < (s.count + 1) + length s.opened)) (sym (ids_step s.builder.nesting s.builder.items step))
            (All-push (λ id. number_of id < (s.count + 1) + length s.opened) ids step.id (grown n ((s.count + 1) + length s.opened) ids (omega arith) h.ids) (omega arith));
        open_ids = grown n ((s.count + 1) + length s.opened) (open_ids s.builder.nesting) (omega arith) h.open_ids;
      }

  pub tidy_assume : (t : ℕ) → IsTidy (one_more (add_assume s.builder (name_of (new_name s)) t) s)
  tidy_assume t =
      let n = new_name s in
      let ids = visible_ids s.builder.nesting s.builder.items in
      let own = own_number in
      record {
        count = let c = h.count in omega arith;
        scopes = h.scopes;
        few = h.few;
        ids = subst (All (λ id. number_of id < (s.count + 1) + length s.opened)) (sym (ids_assume s.builder.nesting s.builder.items (name_of n) t))
            (All-push (λ id. number_of id < (s.count + 1) + length s.opened) ids (name_of n) (grown n ((s.count + 1) + length s.opened) ids (omega arith) h.ids) (omega arith));
        open_ids = grown n ((s.count + 1) + length s.opened) (open_ids s.builder.nesting) (omega arith) h.open_ids;
      }

  -- a scope is opened
  pub tidy_open : (bindings : List (ℕ × ℕ)) (o : Opened) → length s.opened + 1 < 2 ^ 32 → IsTidy (record {
    builder = open_anchor s.builder (record { id = name_of (new_name s); bindings = bindings });
    places = s.places;
    opened = s.opened ++ o ∷ [];
    count = s.count;
  })
  tidy_open bindings o small =
      let n = new_name s in
      let m = s.count + length (s.opened ++ o ∷ []) in
      let longer = length-append s.opened (o ∷ []) in
      let own = own_number in
      let anchor : Anchor ℕ ℕ = record { id = name_of n; bindings = bindings } in
      let ids = visible_ids s.builder.nesting s.builder.items in
      record {
        count = let c = h.count in omega arith;
        scopes = let c = h.scopes in omega arith;
        few = omega arith;
        ids = subst (All (λ id. number_of id < m)) (sym (ids_opened s.builder.nesting s.builder.items anchor)) (grown n m ids (omega arith) h.ids);
        open_ids = All-push (λ id. number_of id < m) (open_ids s.builder.nesting) (name_of n)
            (grown n m (open_ids s.builder.nesting) (omega arith) h.open_ids) (omega arith);
      }

-- a scope is closed by a step with the anchor's id
pub tidy_close : (s : State) (around : Nesting ℕ ℕ) (before items : ProofItems ℕ ℕ) (anchor : Anchor ℕ ℕ) (step : Step ℕ) → IsTidy s
    → s.builder ≡ at (inside around before anchor) items → step.id ≡ anchor.id
    → IsTidy (one_more (at around (with_subproof before anchor.bindings items step)) s)
tidy_close s around before items anchor step h is same =
    let n = new_name s in
    let m = (s.count + 1) + length s.opened in
    let nest = inside around before anchor in
    let count : s.count ≡ next_index (at nest items) = h.count ∙ ap next_index is in
    let scopes : length s.opened ≡ next_scope (at nest items) = h.scopes ∙ ap next_scope is in
    let ids : All (λ id. number_of id < n) (visible_ids around before ++ map (λ (x : Sight). x.id) (direct nest items)) =
    subst (All (λ id. number_of id < n)) (ids_inside around before anchor items)
    (subst (λ (b : Scope ℕ ℕ). All (λ id. number_of id < n) (visible_ids b.nesting b.items)) is h.ids) in
    let opens : All (λ id. number_of id < n) (open_ids around ++ anchor.id ∷ []) =
    subst (λ (b : Scope ℕ ℕ). All (λ id. number_of id < n) (open_ids b.nesting)) is h.open_ids in
    let own = All-contains (λ id. number_of id < n) (open_ids around ++ anchor.id ∷ []) anchor.id opens (Contains-push (open_ids around) anchor.id) in
    let own_step : number_of step.id < m = rw same (omega arith) in
    record {
      count = omega arith;
      scopes = omega arith;
      few = h.few;
      ids = subst (All (λ id. number_of id < m)) (sym (ids_subproof around before anchor.bindings items step))
          (All-push (λ id. number_of id < m) (visible_ids around before) step.id
          (grown n m (visible_ids around before) (omega arith) (all_left (λ id. number_of id < n) (visible_ids around before) _ ids)) own_step);
      open_ids = grown n m (open_ids around) (omega arith) (all_left (λ id. number_of id < n) (open_ids around) (anchor.id ∷ []) opens);
    }

pub tidy_placed : (s : State) (p : ℕ) → IsTidy s → IsTidy (placed p s)
tidy_placed s p h = record { count = h.count; scopes = h.scopes; few = h.few; ids = h.ids; open_ids = h.open_ids }
