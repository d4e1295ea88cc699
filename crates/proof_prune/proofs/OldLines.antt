-- How a proof is gone over: from command to command, through the anchors between them.
use Rattle.std.proofs.Common.{◌≡◌, ◌<◌, ◌≤◌, ◌+◌, ◌⊎◌, inl, inr, ℕ, zero, suc, List, [], ◌∷◌, ◌++◌, length, slice_get, Some, refl, sym, ◌∙◌, ap, subst, arith}
use Rattle.std.specs.List.{AllByRecursion}
use Rattle.std.proofs.lemmas.List.{append_assoc, length-append, length-take-le}
use Rattle.std.proofs.lemmas.Option.{slice_get_within}
use Rattle.term_model.proofs.Lists.{slice_get-left, slice_get-last, all_joined, nth_there}
use Rattle.rule_model.specs.Commands.{IndexedCommand, assume, step, closing, Line, lines_in}
use Rattle.rule_model.specs.Proofs.{Step, ProofItems, no_items, with_assume, with_step, with_subproof}
use Rattle.rule_model.specs.Scopes.{Anchor, Nesting, outermost, inside, Scope, at, inner, commands_in, scope_number, first_index, next_index, next_scope}
use Rattle.rule_model.specs.WellFormed.{AreWellFormed, IsWellFormed, MayOpen}
use Rattle.rule_model.specs.Writing.{unwritten, open_anchor, add_command}
use Rattle.rule_model.proofs.Lines.{lines_before}
use Rattle.rule_model.proofs.Numbers.{lines_in_count, lines_count}
use Rattle.rule_model.proofs.Standing.{all_at}
use Rattle.proof_prune.specs.Order.{Opens, none_opened, one_opened, after, written_to}

some_line : {a b : Line ℕ ℕ} → Some a ≡ Some b → a ≡ b
some_line e = cc

-- the lines lead from one scope, as far as it is written, to another
data Chain : Scope ℕ ℕ → List (Line ℕ ℕ) → Scope ℕ ℕ → Type 0 where
  chain_end : (s : Scope ℕ ℕ) → Chain s [] s
  chain_on : (s e : Scope ℕ ℕ) (l : Line ℕ ℕ) (ls : List (Line ℕ ℕ)) → Opens s l.scope → Chain (add_command l.scope l.command) ls e → Chain s (l ∷ ls) e

chain_append : (s m e : Scope ℕ ℕ) (xs ys : List (Line ℕ ℕ)) → Chain s xs m → Chain m ys e → Chain s (xs ++ ys) e
chain_append _ _ e _ ys (chain_end s) second = second
chain_append _ _ e _ ys (chain_on s m l ls opens first) second =
    chain_on s e l (ls ++ ys) opens (chain_append (add_command l.scope l.command) m e ls ys first second)

chain_one : (l : Line ℕ ℕ) → Chain l.scope (l ∷ []) (add_command l.scope l.command)
chain_one l = chain_on l.scope (add_command l.scope l.command) l [] (none_opened l.scope) (chain_end (add_command l.scope l.command))

chain_from : (s : Scope ℕ ℕ) (anchor : Anchor ℕ ℕ) (e : Scope ℕ ℕ) (xs : List (Line ℕ ℕ)) (m : Line ℕ ℕ) → Chain (open_anchor s anchor) (xs ++ m ∷ []) e → Chain s (xs ++ m ∷ []) e
chain_from s anchor e [] m (chain_on _ _ _ _ opens rest) = chain_on s e m [] (one_opened s m.scope anchor opens) rest
chain_from s anchor e (x ∷ xs) m (chain_on _ _ _ _ opens rest) = chain_on s e x (xs ++ m ∷ []) (one_opened s x.scope anchor opens) rest

chain_in : (nesting : Nesting ℕ ℕ) (items : ProofItems ℕ ℕ) → Chain (at nesting no_items) (lines_in nesting items) (at nesting items)
chain_in nesting no_items = chain_end (at nesting no_items)
chain_in nesting (with_assume items id t) =
    chain_append (at nesting no_items) (at nesting items) (at nesting (with_assume items id t)) (lines_in nesting items) _ (chain_in nesting items)
    (chain_one (record { scope = at nesting items; command = assume id t }))
chain_in nesting (with_step items s) =
    chain_append (at nesting no_items) (at nesting items) (at nesting (with_step items s)) (lines_in nesting items) _ (chain_in nesting items)
    (chain_one (record { scope = at nesting items; command = step s }))
chain_in nesting (with_subproof items bindings proof s) =
    let deep = inner nesting items bindings s in
    let m : Line ℕ ℕ = record { scope = at deep proof; command = closing s } in
    let whole = at nesting (with_subproof items bindings proof s) in
    rw (append_assoc (lines_in nesting items) (lines_in deep proof) (m ∷ []))
    (chain_append (at nesting no_items) (at nesting items) whole (lines_in nesting items) (lines_in deep proof ++ m ∷ []) (chain_in nesting items)
    (chain_from (at nesting items) (record { id = s.id; bindings = bindings }) whole (lines_in deep proof) m
    (chain_append (at deep no_items) (at deep proof) whole (lines_in deep proof) (m ∷ []) (chain_in deep proof) (chain_one m))))

chain_at : (s e : Scope ℕ ℕ) (ls : List (Line ℕ ℕ)) (i : ℕ) (l : Line ℕ ℕ) → Chain s ls e → slice_get ls i ≡ Some l → Opens (after i s ls) l.scope
chain_at _ _ _ i l (chain_end s) there = absurd (cc)
chain_at _ _ _ zero l (chain_on s e m ls opens rest) there = subst (λ (x : Line ℕ ℕ). Opens s x.scope) (some_line there) opens
chain_at _ _ _ (suc i) l (chain_on s e m ls opens rest) there = chain_at (add_command m.scope m.command) e ls i l rest there

chain_whole : (s e : Scope ℕ ℕ) (ls : List (Line ℕ ℕ)) → Chain s ls e → after (length ls) s ls ≡ e
chain_whole _ _ _ (chain_end s) = refl
chain_whole _ _ _ (chain_on s e m ls opens rest) = chain_whole (add_command m.scope m.command) e ls rest

after_suc : (i : ℕ) (s : Scope ℕ ℕ) (ls : List (Line ℕ ℕ)) (l : Line ℕ ℕ) → slice_get ls i ≡ Some l → after (suc i) s ls ≡ add_command l.scope l.command
after_suc i s [] l there = absurd (cc)
after_suc zero s (m ∷ ls) l there = ap (λ (x : Line ℕ ℕ). add_command x.scope x.command) (some_line there)
after_suc (suc i) s (m ∷ ls) l there = after_suc i (add_command m.scope m.command) ls l there

module _ (proof : ProofItems ℕ ℕ) where
  -- from what is written behind the first commands, only anchors are opened up to the next one
  pub opens_to : (i : ℕ) (l : Line ℕ ℕ) → slice_get (lines_in outermost proof) i ≡ Some l → Opens (written_to proof i) l.scope
  opens_to i l there = chain_at unwritten (at outermost proof) (lines_in outermost proof) i l (chain_in outermost proof) there

  pub written_next : (i : ℕ) (l : Line ℕ ℕ) → slice_get (lines_in outermost proof) i ≡ Some l → written_to proof (suc i) ≡ add_command l.scope l.command
  written_next i l there = after_suc i unwritten (lines_in outermost proof) l there

  pub written_whole : written_to proof (commands_in proof) ≡ at outermost proof
  written_whole =
      ap (λ n. after n unwritten (lines_in outermost proof)) (sym (lines_in_count outermost proof))
      ∙ chain_whole unwritten (at outermost proof) (lines_in outermost proof) (chain_in outermost proof)

  pub index_is : (i : ℕ) (l : Line ℕ ℕ) → slice_get (lines_in outermost proof) i ≡ Some l → next_index l.scope ≡ i
  index_is i l there =
      let within = slice_get_within (lines_in outermost proof) i l there in
      sym (lines_count l.scope) ∙ (ap length (lines_before outermost proof i l there) ∙ length-take-le i (lines_in outermost proof) (omega arith))

  pub line_there : (i : ℕ) → i < commands_in proof → (l : Line ℕ ℕ) × (slice_get (lines_in outermost proof) i ≡ Some l)
  line_there i within = let count = lines_in_count outermost proof in nth_there (lines_in outermost proof) i (omega arith)

-- anchors that are opened
number_up : (s t : Scope ℕ ℕ) → Opens s t → scope_number s.nesting ≤ scope_number t.nesting
number_up _ _ (none_opened s) = omega arith
number_up _ _ (one_opened s t anchor rest) = let up = number_up (open_anchor s anchor) t rest in omega arith

pub opens_further : (s t : Scope ℕ ℕ) → Opens s t → (s ≡ t) ⊎ ((anchor : Anchor ℕ ℕ) × Opens (open_anchor s anchor) t × (next_scope s ≤ scope_number t.nesting))
opens_further _ _ (none_opened s) = inl refl
opens_further _ _ (one_opened s t anchor rest) = inr (anchor, rest, number_up (open_anchor s anchor) t rest)

pub opens_index : (s t : Scope ℕ ℕ) → Opens s t → next_index s ≡ next_index t
opens_index _ _ (none_opened s) = refl
opens_index _ _ (one_opened s t anchor rest) = let later = opens_index (open_anchor s anchor) t rest in omega arith

-- The step of index k closes the scope of an anchor.
pub record IsClosedAt (proof : ProofItems ℕ ℕ) (around : Nesting ℕ ℕ) (before : ProofItems ℕ ℕ) (anchor : Anchor ℕ ℕ) (k : ℕ) : Type 0 where
  pub items : ProofItems ℕ ℕ
  pub last : Step ℕ
  pub there : slice_get (lines_in outermost proof) k ≡ Some (record { scope = at (inside around before anchor) items; command = closing last })
  pub may : MayOpen around before anchor

module _ (proof : ProofItems ℕ ℕ) where
  -- the scopes that are open are closed by steps from an index on, the inner ones first
  unfoldable pub Closes : Nesting ℕ ℕ → ℕ → Type 0
  Closes outermost e = e ≤ commands_in proof
  Closes (inside around before anchor) e =
      (k : ℕ) × (e ≤ k) × IsClosedAt proof around before anchor k × Closes around (suc k)

  pub closes_less : (n : Nesting ℕ ℕ) (e f : ℕ) → f ≤ e → Closes n e → Closes n f
  unfolding Closes
  closes_less outermost e f less h = omega arith
  closes_less (inside around before anchor) e f less h = (h.0, let k = h.1 in omega arith, h.2, h.3)

  pub closes_around : (around : Nesting ℕ ℕ) (before : ProofItems ℕ ℕ) (anchor : Anchor ℕ ℕ) (e : ℕ) → Closes (inside around before anchor) e → Closes around e
  unfolding Closes
  closes_around around before anchor e h = closes_less around (suc h.0) e (let k = h.1 in omega arith) h.3

  pub opens_closes : (s t : Scope ℕ ℕ) (e : ℕ) → Opens s t → Closes t.nesting e → Closes s.nesting e
  opens_closes _ _ e (none_opened s) h = h
  opens_closes _ _ e (one_opened s t anchor rest) h = closes_around s.nesting s.items anchor e (opens_closes (open_anchor s anchor) t e rest h)

  -- the index behind a command, in its scope
  abbrev pub end_of : Scope ℕ ℕ → IndexedCommand ℕ → ℕ
  end_of scope (assume id t) = suc (next_index scope)
  end_of scope (step s) = suc (next_index scope)
  end_of scope (closing s) = next_index scope

  pub end_behind : (scope : Scope ℕ ℕ) (c : IndexedCommand ℕ) → next_index scope ≤ end_of scope c
  end_behind scope (assume id t) = omega arith
  end_behind scope (step s) = omega arith
  end_behind scope (closing s) = omega arith

  slice_get-right : {X : Type 0} (xs ys : List X) (k : ℕ) (x : X) → slice_get ys k ≡ Some x → slice_get (xs ++ ys) (length xs + k) ≡ Some x
  slice_get-right [] ys k x e = let same : 0 + k ≡ k = omega arith in rw same e
  slice_get-right (y ∷ xs) ys k x e =
      let same : length (y ∷ xs) + k ≡ suc (length xs + k) = omega arith in rw same (slice_get-right xs ys k x e)

  lines_close : (nesting : Nesting ℕ ℕ) (items : ProofItems ℕ ℕ) (first : ℕ) → first ≡ first_index nesting → AreWellFormed nesting items
      → ((i : ℕ) (l : Line ℕ ℕ) → slice_get (lines_in nesting items) i ≡ Some l → slice_get (lines_in outermost proof) (first + i) ≡ Some l)
      → Closes nesting (first + commands_in items) → AllByRecursion (λ l. Closes l.scope.nesting (end_of l.scope l.command)) (lines_in nesting items)
  unfolding Closes
  lines_close nesting no_items first e formed among h = tt
  lines_close nesting (with_assume items id t) first e formed among h =
      all_joined _ (lines_in nesting items) _
      (lines_close nesting items first e formed.0 (λ i l there. among i l (slice_get-left (lines_in nesting items) _ i l there))
      (closes_less nesting (first + commands_in (with_assume items id t)) (first + commands_in items) (omega arith) h))
      (closes_less nesting (first + commands_in (with_assume items id t)) (suc (first_index nesting + commands_in items)) (omega arith) h, tt)
  lines_close nesting (with_step items s) first e formed among h =
      all_joined _ (lines_in nesting items) _
      (lines_close nesting items first e formed.0 (λ i l there. among i l (slice_get-left (lines_in nesting items) _ i l there))
      (closes_less nesting (first + commands_in (with_step items s)) (first + commands_in items) (omega arith) h))
      (closes_less nesting (first + commands_in (with_step items s)) (suc (first_index nesting + commands_in items)) (omega arith) h, tt)
  lines_close nesting (with_subproof items bindings deeper s) first e formed among h =
      let deep = inner nesting items bindings s in
      let m : Line ℕ ℕ = record { scope = at deep deeper; command = closing s } in
      let outer_lines = lines_in nesting items in
      let inner_lines = lines_in deep deeper in
      let outer_count = lines_in_count nesting items in
      let inner_count = lines_in_count deep deeper in
      let both_count = length-append outer_lines inner_lines in
      let k = first + (commands_in items + commands_in deeper) in
      let place : first + length (outer_lines ++ inner_lines) ≡ k = omega arith in
      let closing_there : slice_get (lines_in outermost proof) k ≡ Some m =
      subst (λ j. slice_get (lines_in outermost proof) j ≡ Some m) place (among (length (outer_lines ++ inner_lines)) m (slice_get-last (outer_lines ++ inner_lines) m)) in
      let closed : (e : ℕ) → e ≤ k → Closes deep e = λ f less. (
        k,
        less,
        record { items = deeper; last = s; there = closing_there; may = formed.1 },
        closes_less nesting (first + commands_in (with_subproof items bindings deeper s)) (suc k) (omega arith) h,
      ) in
      all_joined _ (outer_lines ++ inner_lines) _
      (all_joined _ outer_lines _
      (lines_close nesting items first e formed.0
      (λ i l there. among i l (slice_get-left (outer_lines ++ inner_lines) (m ∷ []) i l (slice_get-left outer_lines inner_lines i l there)))
      (closes_less nesting (first + commands_in (with_subproof items bindings deeper s)) (first + commands_in items) (omega arith) h))
      (lines_close deep deeper (first + commands_in items) (omega arith) formed.2
      (λ i l there. let shifted : first + (length outer_lines + i) ≡ (first + commands_in items) + i = omega arith in
      subst (λ j. slice_get (lines_in outermost proof) j ≡ Some l) shifted
      (among (length outer_lines + i) l (slice_get-left (outer_lines ++ inner_lines) (m ∷ []) (length outer_lines + i) l (slice_get-right outer_lines inner_lines i l there))))
      (closed ((first + commands_in items) + commands_in deeper) (omega arith))))
      (closed ((first_index nesting + commands_in items) + commands_in deeper) (omega arith), tt)

  pub line_closes : (i : ℕ) (l : Line ℕ ℕ) → IsWellFormed proof → slice_get (lines_in outermost proof) i ≡ Some l → Closes l.scope.nesting (end_of l.scope l.command)
  unfolding Closes
  line_closes i l formed there =
      all_at (λ l. Closes l.scope.nesting (end_of l.scope l.command)) (lines_in outermost proof) i l
      (lines_close outermost proof 0 refl formed (λ i l there. let same : 0 + i ≡ i = omega arith in rw same there) (omega arith)) there
