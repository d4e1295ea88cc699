-- The items of a proof's events are those that the proof is printed as.
use Rattle.std.proofs.Common.{◌≡◌, ℕ, ◌+◌, List, [], ◌∷◌, ◌++◌, refl, ap, ◌∙◌}
use Rattle.sexpr.specs.Items.{Items, item}
use Rattle.term_model.specs.Terms.{Var, Term}
use Rattle.rule_model.specs.Proofs.{ProofItems, with_assume, with_step, with_subproof}
use Rattle.rule_model.specs.Proofs as proof
use Rattle.rule_model.specs.Scopes.{Nesting, inner, first_index, commands_in}
use Rattle.problem_text.specs.Scripts.{Script}
use Rattle.alethe_text.specs.PrintedCommands.{anchor_item, printed_arguments}
use Rattle.printed_proofs.specs.FileOrder.{Event, opens, scope_events, event_item, behind_event, event_items, behind_events, AreClosedBy}
use Rattle.printed_proofs.specs.Numbered.{printed_id}
use Rattle.printed_proofs.specs.PrintedProof.{joined, alone, shared_step, scope_items, behind_items, shared_bindings, behind_bindings}
use Rattle.printed_proofs.specs.Shared.{Plan}

-- the items of events, and the state behind them
pub record ArePrinted (closed_by : ℕ → ℕ) (plan : Plan) (s : Script) (es : List Event) (is : Items) (u : Script) : Type 0 where
  pub items : event_items closed_by plan s es ≡ is
  pub behind : behind_events plan s es ≡ u

module _ (closed_by : ℕ → ℕ) (plan : Plan) where
  then : (s u w : Script) (es fs : List Event) (is js : Items) → ArePrinted closed_by plan s es is u → ArePrinted closed_by plan u fs js w
      → ArePrinted closed_by plan s (es ++ fs) (joined is js) w
  then s u w [] fs is js first second = record {
    items =
        ap (λ x. event_items closed_by plan x fs) first.behind ∙ (second.items ∙ ap (λ x. joined x js) first.items);
    behind = ap (λ x. behind_events plan x fs) first.behind ∙ second.behind;
  }
  then s u w (e ∷ es) fs is js first second =
      let rest = then (behind_event plan s e) u w es fs _ js (record { items = refl; behind = first.behind }) second in
      record {
        items = ap (item (event_item closed_by plan s e)) rest.items ∙ ap (λ x. joined x js) first.items;
        behind = rest.behind;
      }

  pub scope_printed : (items : ProofItems Var Term) (nesting : Nesting Var Term) (s : Script) → AreClosedBy closed_by nesting items
      → ArePrinted closed_by plan s (scope_events nesting items) (scope_items plan s nesting items) (behind_items plan s nesting items)
  scope_printed proof.no_items nesting s closed = record { items = refl; behind = refl }
  scope_printed (with_assume items id t) nesting s closed =
      then s (behind_items plan s nesting items) _ (scope_events nesting items) _ _ _ (scope_printed items nesting s closed)
      (record { items = refl; behind = refl })
  scope_printed (with_step items st) nesting s closed =
      then s (behind_items plan s nesting items) _ (scope_events nesting items) _ _ _ (scope_printed items nesting s closed)
      (record { items = refl; behind = refl })
  scope_printed (with_subproof items bindings within st) nesting s closed =
      let here : Nesting Var Term = inner nesting items bindings st in
      let before : Script = behind_items plan s nesting items in
      let bound : Script = behind_bindings plan nesting before bindings in
      let rest : Items = joined (scope_items plan bound here within)
      (alone (shared_step plan (behind_items plan bound here within) (first_index nesting + commands_in items + commands_in within) st)) in
      let inside = then bound (behind_items plan bound here within) _ (scope_events here within) _ _ _ (scope_printed within here bound closed.2)
      (record { items = refl; behind = refl }) in
      then s before _ (scope_events nesting items) _ _ _ (scope_printed items nesting s closed.0) (record {
        items =
            ap (item (event_item closed_by plan before (opens here))) inside.items
            ∙ ap (λ k. item (anchor_item (printed_id k) (printed_arguments (shared_bindings plan nesting before bindings))) rest) closed.1;
        behind = inside.behind;
      })
