-- A scope is closed by one step.
use Rattle.std.proofs.Common.{◌≡◌, ◌≢◌, ◌<◌, ◌≤◌, ◌+◌, ◌-◌, ◌⊎◌, inl, inr, ℕ, List, [], ◌∷◌, ◌++◌, length, slice_get, Option, Some, None, Result, Ok, Err, OnOk, refl, sym, ◌∙◌, ap, subst, arith, below_more}
use Rattle.std.specs.List.{AllByRecursion}
use Rattle.std.proofs.lemmas.Option.{slice_get_within}
use Rattle.term_model.proofs.Basics.{same_some}
use Rattle.term_model.proofs.Lists.{all_joined}
use Rattle.rule_model.specs.Commands.{Line, lines_in, closed_scope}
use Rattle.rule_model.specs.Proofs.{ProofItems, no_items, with_assume, with_step, with_subproof}
use Rattle.rule_model.specs.Reading.{closes_at}
use Rattle.rule_model.specs.Scopes.{Nesting, outermost, inner, commands_in, subproofs_in, scope_number}
use Rattle.rule_model.proofs.LineReading.{closes_is, none_closes}
use Rattle.rule_model.proofs.Lines.{get_append, get_one}
use Rattle.rule_model.proofs.Numbers.{lines_in_count}
use Rattle.rule_model.proofs.Standing.{all_at}
use Rattle.rule_model.proofs.ScopedTruth.{all_changed}

abbrev ClosesIn : ℕ → ℕ → Line ℕ ℕ → Type 0
ClosesIn above most l = (k : ℕ) → closed_scope l.scope.nesting l.command ≡ Some k → (above < k) × (k ≤ most)

nothing : {k : ℕ} → None ≡ Some k → ⊥
nothing e = cc

-- the scopes that are closed among the commands of a scope have numbers behind its own
closed_in : (nesting : Nesting ℕ ℕ) (items : ProofItems ℕ ℕ) → AllByRecursion (ClosesIn (scope_number nesting) (scope_number nesting + subproofs_in items)) (lines_in nesting items)
closed_in nesting no_items = tt
closed_in nesting (with_assume items id t) = all_joined _ (lines_in nesting items) _ (closed_in nesting items) (λ k e. absurd (nothing e), tt)
closed_in nesting (with_step items s) = all_joined _ (lines_in nesting items) _ (closed_in nesting items) (λ k e. absurd (nothing e), tt)
closed_in nesting (with_subproof items bindings proof s) =
    let deep = inner nesting items bindings s in
    let most = scope_number nesting + subproofs_in (with_subproof items bindings proof s) in
    all_joined (ClosesIn (scope_number nesting) most) (lines_in nesting items ++ lines_in deep proof) _
    (all_joined (ClosesIn (scope_number nesting) most) (lines_in nesting items) (lines_in deep proof)
    (all_changed (ClosesIn (scope_number nesting) (scope_number nesting + subproofs_in items)) (ClosesIn (scope_number nesting) most)
    (λ l h k e. let x = h k e in let a = x.0 in let b = x.1 in (omega arith, omega arith)) (lines_in nesting items) (closed_in nesting items))
    (all_changed (ClosesIn (scope_number deep) (scope_number deep + subproofs_in proof)) (ClosesIn (scope_number nesting) most)
    (λ l h k e. let x = h k e in let a = x.0 in let b = x.1 in (omega arith, omega arith)) (lines_in deep proof) (closed_in deep proof)))
    (λ k e. let same : scope_number deep ≡ k = same_some e in (omega arith, omega arith), tt)

-- a line of a subproof stands before it, in it, or closes it
data Part (before within : List (Line ℕ ℕ)) (last : Line ℕ ℕ) (i : ℕ) (l : Line ℕ ℕ) : Type 0 where
  in_before : slice_get before i ≡ Some l → Part before within last i l
  in_within : (j : ℕ) → length before + j ≡ i → slice_get within j ≡ Some l → Part before within last i l
  is_last : i ≡ length (before ++ within) → last ≡ l → Part before within last i l

part_of : (before within : List (Line ℕ ℕ)) (last : Line ℕ ℕ) (i : ℕ) (l : Line ℕ ℕ) → slice_get ((before ++ within) ++ last ∷ []) i ≡ Some l → Part before within last i l
part_of before within last i l e = go (get_append (before ++ within) (last ∷ []) i l e)
  where
    inner_part : ((i < length before) × (slice_get before i ≡ Some l)) ⊎ ((length before ≤ i) × (slice_get within (i - length before) ≡ Some l)) → Part before within last i l
    inner_part (inl p) = in_before p.1
    inner_part (inr p) = let less = p.0 in in_within (i - length before) (omega arith) p.1

    go : ((i < length (before ++ within)) × (slice_get (before ++ within) i ≡ Some l)) ⊎ ((length (before ++ within) ≤ i) × (slice_get (last ∷ []) (i - length (before ++ within)) ≡ Some l)) → Part before within last i l
    go (inl p) = inner_part (get_append before within i l p.1)
    go (inr p) =
        let less = p.0 in
        let one = get_one last (i - length (before ++ within)) l p.1 in
        let zero_is = one.0 in is_last (omega arith) one.1

module _ (k : ℕ) where
  abbrev Closing : Line ℕ ℕ → Type 0
  Closing l = closed_scope l.scope.nesting l.command ≡ Some k

  abbrev Once : List (Line ℕ ℕ) → Type 0
  Once lines =
      (i j : ℕ) (l m : Line ℕ ℕ) → slice_get lines i ≡ Some l → slice_get lines j ≡ Some m → Closing l → Closing m → i ≡ j

  -- a line more, which closes nothing
  once_more : (lines : List (Line ℕ ℕ)) (last : Line ℕ ℕ) → Once lines → closed_scope last.scope.nesting last.command ≡ None → Once (lines ++ last ∷ [])
  once_more lines last once none i j l m e f p q = once i j l m (earlier i l e p) (earlier j m f q) p q
    where
      earlier : (n : ℕ) (x : Line ℕ ℕ) → slice_get (lines ++ last ∷ []) n ≡ Some x → Closing x → slice_get lines n ≡ Some x
      earlier n x g r = go (get_append lines (last ∷ []) n x g)
        where
          go : ((n < length lines) × (slice_get lines n ≡ Some x)) ⊎ ((length lines ≤ n) × (slice_get (last ∷ []) (n - length lines) ≡ Some x)) → slice_get lines n ≡ Some x
          go (inl h) = h.1
          go (inr h) =
              let one = get_one last (n - length lines) x h.1 in
              absurd (nothing (sym none ∙ subst Closing (sym one.1) r))

  -- the lines of a subproof
  once_joined : (before within : List (Line ℕ ℕ)) (last : Line ℕ ℕ) (own : ℕ) → Once before → Once within
      → ((i : ℕ) (l : Line ℕ ℕ) → slice_get before i ≡ Some l → Closing l → k < own) → ((i : ℕ) (l : Line ℕ ℕ) → slice_get within i ≡ Some l → Closing l → own < k)
      → closed_scope last.scope.nesting last.command ≡ Some own → Once ((before ++ within) ++ last ∷ [])
  once_joined before within last own first second low high own_is i j l m e f p q = go (part_of before within last i l e) (part_of before within last j m f)
    where
      closes_own : (x : Line ℕ ℕ) → last ≡ x → Closing x → own ≡ k
      closes_own x same r = same_some (sym own_is ∙ subst Closing (sym same) r)

      go : Part before within last i l → Part before within last j m → i ≡ j
      go (in_before a) (in_before b) = first i j l m a b p q
      go (in_before a) (in_within y same b) = let x = low i l a p in let z = high y m b q in absurd (omega arith)
      go (in_before a) (is_last same b) = let x = low i l a p in let z = closes_own m b q in absurd (omega arith)
      go (in_within x same a) (in_before b) = let y = low j m b q in let z = high x l a p in absurd (omega arith)
      go (in_within x same a) (in_within y other b) = let z = second x y l m a b p q in omega arith
      go (in_within x same a) (is_last other b) = let z = high x l a p in let y = closes_own m b q in absurd (omega arith)
      go (is_last same a) (in_before b) = let x = low j m b q in let z = closes_own l a p in absurd (omega arith)
      go (is_last same a) (in_within y other b) = let z = high y m b q in let x = closes_own l a p in absurd (omega arith)
      go (is_last same a) (is_last other b) = same ∙ sym other

  once : (nesting : Nesting ℕ ℕ) (items : ProofItems ℕ ℕ) → Once (lines_in nesting items)
  once nesting no_items = λ i j l m e f p q. absurd (cc)
  once nesting (with_assume items id t) = once_more (lines_in nesting items) _ (once nesting items) refl
  once nesting (with_step items s) = once_more (lines_in nesting items) _ (once nesting items) refl
  once nesting (with_subproof items bindings proof s) =
      let deep = inner nesting items bindings s in
      let before = closed_in nesting items in
      let within = closed_in deep proof in
      once_joined (lines_in nesting items) (lines_in deep proof) _ (scope_number deep) (once nesting items) (once deep proof)
      (λ i l e p. let x = (all_at _ (lines_in nesting items) i l before e k p).1 in omega arith)
      (λ i l e p. (all_at _ (lines_in deep proof) i l within e k p).0) refl

module _ (proof : ProofItems ℕ ℕ) where
  line_of : (i k : ℕ) → closes_at proof i ≡ Some k → (l : Line ℕ ℕ) × (slice_get (lines_in outermost proof) i ≡ Some l)
  line_of i k closes = go (slice_get (lines_in outermost proof) i) refl
    where
      go : (o : Option (Line ℕ ℕ)) → slice_get (lines_in outermost proof) i ≡ o → (l : Line ℕ ℕ) × (slice_get (lines_in outermost proof) i ≡ Some l)
      go (Some l) e = (l, e)
      go None e = absurd (nothing (sym (none_closes proof i e) ∙ closes))

  -- a step that closes a scope is one of the commands
  pub closing_within : (i k : ℕ) → closes_at proof i ≡ Some k → i < commands_in proof
  closing_within i k closes =
      let l = line_of i k closes in
      let less = slice_get_within (lines_in outermost proof) i l.0 l.1 in
      let count = lines_in_count outermost proof in omega arith

  -- and the only one
  pub closed_once : (i j k : ℕ) → closes_at proof i ≡ Some k → closes_at proof j ≡ Some k → i ≡ j
  closed_once i j k first second =
      let l = line_of i k first in
      let m = line_of j k second in
      once k outermost proof i j l.0 m.0 l.1 m.1 (sym (closes_is proof i l.0 l.1) ∙ first) (sym (closes_is proof j m.0 m.1) ∙ second)

  -- what is noted of the steps before one, and of that one
  pub closers_more : (i scope : ℕ) (old new : List ℕ) → ((j k : ℕ) → j < i → closes_at proof j ≡ Some k → slice_get old k ≡ Some j)
      → closes_at proof i ≡ Some scope → slice_get new scope ≡ Some i
      → ((j x : ℕ) → j ≢ scope → slice_get old j ≡ Some x → slice_get new j ≡ Some x)
      → (j k : ℕ) → j < i + 1 → closes_at proof j ≡ Some k → slice_get new k ≡ Some j
  closers_more i scope old new before closes there others j k less =
      below_more (λ j. (k : ℕ) → closes_at proof j ≡ Some k → slice_get new k ≡ Some j) i
      (λ j earlier k e. others k j (λ same. differ j k earlier e same) (before j k earlier e))
      (λ k e. subst (λ n. slice_get new n ≡ Some i) (same_some (sym closes ∙ e)) there) j less k
    where
      differ : (j k : ℕ) → j < i → closes_at proof j ≡ Some k → k ≡ scope → ⊥
      differ j k earlier e same =
          let one = closed_once j i scope (e ∙ ap (λ (n : ℕ). Some n) same) closes in omega arith

  pub closers_same : (i : ℕ) (old : List ℕ) → ((j k : ℕ) → j < i → closes_at proof j ≡ Some k → slice_get old k ≡ Some j)
      → closes_at proof i ≡ None → (j k : ℕ) → j < i + 1 → closes_at proof j ≡ Some k → slice_get old k ≡ Some j
  closers_same i old before closes j k less =
      below_more (λ j. (k : ℕ) → closes_at proof j ≡ Some k → slice_get old k ≡ Some j) i
      (λ j earlier k e. before j k earlier e)
      (λ k e. absurd (nothing (sym closes ∙ e))) j less k

  pub closers_whole : (i : ℕ) (list : List ℕ) → ((j k : ℕ) → j < i → closes_at proof j ≡ Some k → slice_get list k ≡ Some j)
      → commands_in proof ≤ i → (j k : ℕ) → closes_at proof j ≡ Some k → slice_get list k ≡ Some j
  closers_whole i list all whole j k e = all j k (let less = closing_within j k e in omega arith) e

  -- the number of a scope that is closed
  pub closed_within : (i k : ℕ) → closes_at proof i ≡ Some k → k ≤ subproofs_in proof
  closed_within i k closes =
      let l = line_of i k closes in
      let both = all_at _ (lines_in outermost proof) i l.0 (closed_in outermost proof) l.1 k (sym (closes_is proof i l.0 l.1) ∙ closes) in
      let most = both.1 in omega arith

  -- the outermost scope is not closed
  pub closed_above : (i k : ℕ) → closes_at proof i ≡ Some k → 0 < k
  closed_above i k closes =
      let l = line_of i k closes in
      let both = all_at _ (lines_in outermost proof) i l.0 (closed_in outermost proof) l.1 k (sym (closes_is proof i l.0 l.1) ∙ closes) in
      let least = both.0 in omega arith

  pub ok_noted : {T E : Type 0} (i scope : ℕ) (old new : List ℕ) (r : Result T E) → ((j k : ℕ) → j < i → closes_at proof j ≡ Some k → slice_get old k ≡ Some j)
      → closes_at proof i ≡ Some scope → OnOk r (slice_get new scope ≡ Some i)
      → OnOk r ((j x : ℕ) → j ≢ scope → slice_get old j ≡ Some x → slice_get new j ≡ Some x)
      → OnOk r ((j k : ℕ) → j < i + 1 → closes_at proof j ≡ Some k → slice_get new k ≡ Some j)
  ok_noted i scope old new (Ok x) before closes there others = closers_more i scope old new before closes there others
  ok_noted i scope old new (Err e) before closes there others = tt
