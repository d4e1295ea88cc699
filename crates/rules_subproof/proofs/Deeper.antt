-- The scope that a step closes stands deeper than the one to which the step belongs.
use Rattle.std.proofs.Common.{◌≡◌, ◌<◌, ◌≤◌, ◌++◌, ℕ, slice_get, Option, Some, None, refl, sym, ◌∙◌, arith}
use Rattle.std.specs.List.{AllByRecursion}
use Rattle.term_model.proofs.Lists.{all_joined}
use Rattle.rule_model.specs.Commands.{IndexedCommand, assume, step, closing, Line, lines_in, around_number, own_scope, closed_scope}
use Rattle.rule_model.specs.Proofs.{Step, ProofItems, no_items, with_assume, with_step, with_subproof}
use Rattle.rule_model.specs.Reading.{closes_at, scope_at}
use Rattle.rule_model.specs.Scopes.{Nesting, outermost, inner, scope_number}
use Rattle.rule_model.proofs.LineReading.{closes_is, none_closes, scope_is}
use Rattle.rule_model.proofs.ScopeRanges.{together}
use Rattle.rule_model.proofs.Standing.{all_at}

module _ {V T : Type 0} where
  abbrev IsDeep : Line V T → Type 0
  IsDeep l = (s : Step T) → l.command ≡ closing s → around_number l.scope.nesting < scope_number l.scope.nesting

  closed_deep : (nesting : Nesting V T) (items : ProofItems V T) → AllByRecursion IsDeep (lines_in nesting items)
  closed_deep nesting no_items = tt
  closed_deep nesting (with_assume items id t) =
      all_joined _ (lines_in nesting items) _ (closed_deep nesting items) (λ s e. absurd cc, tt)
  closed_deep nesting (with_step items s) =
      all_joined _ (lines_in nesting items) _ (closed_deep nesting items) (λ s e. absurd cc, tt)
  closed_deep nesting (with_subproof items bindings proof s) =
      let deep = inner nesting items bindings s in
      all_joined _ (lines_in nesting items ++ lines_in deep proof) _
      (all_joined _ (lines_in nesting items) _ (closed_deep nesting items) (closed_deep deep proof))
      (λ s e. omega arith, tt)

  module _ (proof : ProofItems V T) (i k : ℕ) (closes : closes_at proof i ≡ Some k) where
    -- from a command of the scope on, up to the step, all are
    pub inside_on : (m : ℕ) → m < i → k ≤ scope_at proof m → (j : ℕ) → m ≤ j → j < i → k ≤ scope_at proof j
    inside_on m below inside j after before =
        let range = together proof i k closes in
        let first = (range.1 m below).1 inside in
        (range.1 j before).0 (omega arith)

    pub around_less : scope_at proof i < k
    around_less = go (slice_get (lines_in outermost proof) i) refl
      where
        some_same : {a b : ℕ} → Some a ≡ Some b → a ≡ b
        some_same e = cc

        none_some : None ≡ Some k → ⊥
        none_some e = cc

        by_command : (nesting : Nesting V T) (c : IndexedCommand T) → ((s : Step T) → c ≡ closing s → around_number nesting < scope_number nesting) → scope_at proof i ≡ own_scope nesting c → closed_scope nesting c ≡ Some k → scope_at proof i < k
        by_command nesting (assume id t) deep own e = absurd (none_some e)
        by_command nesting (step s) deep own e = absurd (none_some e)
        by_command nesting (closing s) deep own e =
            let less = deep s refl in let same = some_same e in omega arith

        go : (o : Option (Line V T)) → slice_get (lines_in outermost proof) i ≡ o → scope_at proof i < k
        go None e = absurd (none_some (sym (none_closes proof i e) ∙ closes))
        go (Some l) e =
            by_command l.scope.nesting l.command (all_at _ (lines_in outermost proof) i l (closed_deep outermost proof) e) (scope_is proof i l e)
            (sym (closes_is proof i l e) ∙ closes)
