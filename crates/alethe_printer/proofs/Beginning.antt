-- The next anchor or command is begun.
use Rattle.std.proofs.Common.{◌≡◌, ◌<◌, ◌≤◌, ◌^◌, ◌-◌, ℕ, suc, Some, List, [], slice_get, sym, ap, ◌∙◌, subst, arith}
use Rattle.std.specs.List.{AllZip}
use Rattle.sym_table.specs.Table.{Table}
use Rattle.term_model.specs.Terms.{Var, Term}
use Rattle.term_pool.specs.Bindings.{IsBindingOf}
use Rattle.term_pool.specs.Views.{TermsView}
use Rattle.rule_model.specs.Commands.{IndexedCommand, Line, lines_in}
use Rattle.rule_model.specs.Proofs.{ProofItems}
use Rattle.rule_model.specs.Reading.{bindings_at, last_inside_at}
use Rattle.rule_model.specs.Scopes.{Nesting, outermost, inside, own_bindings, scope_number, commands_in, subproofs_in}
use Rattle.rule_model.specs.WellFormed.{IsWellFormed}
use Rattle.rule_model.proofs.Numbers.{lines_in_count}
use Rattle.proof_store.specs.Meaning.{StandForItems}
use Rattle.problem_text.specs.Scripts.{Script}
use Rattle.alethe_text.specs.PrintedCommands.{anchor_item, printed_arguments}
use Rattle.printed_proofs.specs.FileOrder.{opens, reaches, event_item, behind_event, command_item, behind_command}
use Rattle.printed_proofs.specs.Numbered.{printed_id}
use Rattle.printed_proofs.specs.PrintedProof.{shared_bindings, behind_bindings}
use Rattle.printed_proofs.specs.Shared.{Plan}
use Rattle.term_printer.specs.declared.page.Page.{Page}
use Rattle.alethe_printer.specs.declared.stages.Stage.{Stage}
use Rattle.alethe_printer.specs.Places.{closing_index, IsClosing, LastIsFew, Corresponds}
use Rattle.alethe_printer.specs.Printing.{IsCommandAt, PrintsTo}
use Rattle.alethe_printer.specs.Steps.{Begins}
use Rattle.alethe_printer.proofs.InStep.{head_of, IsSplit, split_at}
use Rattle.alethe_printer.proofs.NextEvents.{IsAnchorNext, anchor_next, IsLineNext, line_next, command_there, last_few}
use Rattle.alethe_printer.proofs.Turning.{event_begun}

module _ (plan : Plan) (s : Table) (v : TermsView) (refs : ProofItems ℕ ℕ) (of : ProofItems Var Term) (page : Page) (stages : List Stage)
    (opened next : ℕ) (bytes : List ℕ) (h : PrintsTo plan s v refs of page stages opened next bytes) (same : (i : ℕ) → Corresponds s v refs of i)
    (within : next < commands_in refs) where
  pub line : IsSplit (lines_in outermost of) next
  line = split_at (lines_in outermost of) next (let a = (same 0).commands in let b = lines_in_count outermost of in omega (arith, within))

  abbrev pub next_line : Line Var Term
  next_line = line.first

  pub line_there : slice_get (lines_in outermost of) next ≡ Some next_line
  line_there = (head_of (lines_in outermost of) next line.first line.others line.is).there

  pub command_is : IsWellFormed refs → StandForItems s v refs of → IsCommandAt s v refs next next_line.command
  command_is formed stand = command_there s v refs of next next_line stand (same next) formed within line_there

  -- an anchor is next
  module _ (further : opened < scope_number next_line.scope.nesting) (scope : ℕ) (is_next : scope ≡ suc opened) where
    anchor : IsAnchorNext of scope next h.events
    anchor =
        subst (λ k. IsAnchorNext of k next h.events) (sym is_next) (anchor_next of opened next line.first line.others h.events line.is h.left further)

    pub scope_within : scope ≤ subproofs_in refs
    scope_within = let a = anchor.within in let b = (same 0).subproofs in omega arith

    pub few_last : commands_in refs < 2 ^ 32 - 1 → LastIsFew (last_inside_at refs scope)
    few_last few =
        let a = anchor.few in
        let b = (same 0).commands in
        subst LastIsFew (sym (same scope).last)
        (last_few next (last_inside_at of scope) (closing_index outermost of scope) (commands_in refs) anchor.closing (omega arith) few)

    pub closes_at_index : (closing : ℕ) → ((k : ℕ) → IsClosing next (last_inside_at refs scope) k → closing ≡ k) → closing ≡ closing_index outermost of scope
    closes_at_index closing is = is (closing_index outermost of scope) (subst (λ o. IsClosing next o (closing_index outermost of scope)) (sym
        (same scope).last) anchor.closing)

    pub anchor_begun : (new : Page) (after : List Stage) (closing : ℕ) → page.tasks.items ≡ [] → stages ≡ []
        → ((k : ℕ) → IsClosing next (last_inside_at refs scope) k → closing ≡ k)
        → ((nesting : Nesting Var Term) (bs : List (Var × Term)) (u : Script) → AllZip (IsBindingOf s v) (bindings_at refs scope) bs
        → Begins plan s v refs page new stages after (anchor_item (printed_id closing) (printed_arguments (shared_bindings plan nesting u bs))) u
        (behind_bindings plan nesting u bs))
        → PrintsTo plan s v refs of new after scope next bytes
    anchor_begun new after closing no_tasks no_stages closes begins =
        event_begun plan s v refs of page stages opened next bytes no_tasks no_stages h new after scope next (opens anchor.here) anchor.others anchor.is
        anchor.left (go anchor.here anchor.number anchor.bindings)
      where
        go : (here : Nesting Var Term) → scope_number here ≡ scope → bindings_at of scope ≡ own_bindings here
            → Begins plan s v refs page new stages after (event_item (closing_index outermost of) plan h.state (opens here)) h.state
            (behind_event plan h.state (opens here))
        go outermost number bindings = let z = number in absurd (omega (arith, z, is_next))
        go (inside around before a) number bindings =
            let index : closing ≡ closing_index outermost of (scope_number (inside around before a)) =
            closes_at_index closing closes ∙ ap (closing_index outermost of) (sym number) in
            subst (λ k. Begins plan s v refs page new stages after (anchor_item (printed_id k) (printed_arguments
            (shared_bindings plan around h.state a.bindings)))
            h.state (behind_bindings plan around h.state a.bindings)) index
            (begins around a.bindings h.state (subst (λ bs. AllZip (IsBindingOf s v) (bindings_at refs scope) bs) bindings (same scope).bindings))

  -- a command is next
  pub command_begun : (new : Page) (after : List Stage) (later : ℕ) → page.tasks.items ≡ [] → stages ≡ [] → IsWellFormed refs → StandForItems s v refs of
      → scope_number next_line.scope.nesting ≤ opened → later ≡ suc next
      → ((c : IndexedCommand Term) (u : Script) → IsCommandAt s v refs next c
      → Begins plan s v refs page new stages after (command_item plan u next c) u (behind_command plan u c))
      → PrintsTo plan s v refs of new after opened later bytes
  command_begun new after later no_tasks no_stages formed stand low is_later begins =
      let l : IsLineNext of opened next later next_line h.events =
      subst (λ k. IsLineNext of opened next k next_line h.events) (sym is_later)
      (line_next of opened next line.first line.others h.events line.is h.left low) in
      event_begun plan s v refs of page stages opened next bytes no_tasks no_stages h new after opened later (reaches next_line) l.others l.is l.left
      (subst (λ k. Begins plan s v refs page new stages after (command_item plan h.state k next_line.command) h.state
      (behind_command plan h.state next_line.command)) (sym l.index) (begins next_line.command h.state (command_is formed stand)))
