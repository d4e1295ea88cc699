-- What the stages do that begin no term.
use Rattle.std.proofs.Common.{◌≡◌, Bool, List, [], ◌∷◌, ◌++◌, codes, map, refl, sym, ap, ℕ}
use Rattle.sym_table.specs.Table.{Table}
use Rattle.term_pool.specs.Views.{TermsView}
use Rattle.rule_model.specs.Proofs.{ProofItems}
use Rattle.rule_model.specs.Reading.{discharged_at}
use Rattle.problem_text.specs.Scripts.{Script, with_term}
use Rattle.alethe_text.specs.PrintedCommands.{symbol_items}
use Rattle.printed_proofs.specs.Arguments.{truth_word}
use Rattle.printed_proofs.specs.Numbered.{printed_id}
use Rattle.printed_proofs.specs.Parts.{Part, close, truth, discharged, end_line, parts_text, listed_text, GoesOn}
use Rattle.printed_proofs.specs.Shared.{Plan}
use Rattle.term_printer.specs.Names.{AreGiven}
use Rattle.term_printer.specs.declared.page.Page.{Page}
use Rattle.alethe_printer.specs.declared.stages.Stage.{Stage}
use Rattle.alethe_printer.specs.Stages.{StandsFor}
use Rattle.alethe_printer.specs.Steps.{DoesIn}
use Rattle.alethe_printer.proofs.Doing.{IsUntouched, none_left, does_bytes}
use Rattle.alethe_printer.proofs.StageParts.{discharged_next}

module _ (plan : Plan) (s : Table) (v : TermsView) (refs : ProofItems ℕ ℕ) (old new : Page) (stages : List Stage) (same : IsUntouched old new)
  where
    does_only : (p : Part) (bytes : List ℕ) (u w : Script) → AreGiven plan s v old.names w.taken → new.text.items ≡ old.text.items ++ bytes → w.sorts ≡ u.sorts
        → ((ps : List Part) → GoesOn plan u (p ∷ ps) bytes w ps) → DoesIn plan s v refs old new stages stages p u
    does_only p bytes u w given text sorts goes =
        does_bytes plan s v refs old new stages stages [] [] (none_left stages stages refl) tt p bytes u w same given text sorts goes

    pub truth_does : (b : Bool) (p : Part) (u : Script) → AreGiven plan s v old.names u.taken → StandsFor s v refs (Stage.Truth b) p
        → new.text.items ≡ old.text.items ++ 32 ∷ truth_word b
        → DoesIn plan s v refs old new stages stages p u
    truth_does b (truth c) u given h text =
        does_only (truth c) (32 ∷ truth_word b) u u given text refl
        (λ ps. record { text = ap (λ x. (32 ∷ truth_word x) ++ parts_text plan u ps) (sym h.1); behind = refl })
    truth_does b _ u given h text = absurd h.1

    pub close_does : (p : Part) (u : Script) → AreGiven plan s v old.names u.taken → StandsFor s v refs Stage.Close p
        → new.text.items ≡ old.text.items ++ 41 ∷ []
        → DoesIn plan s v refs old new stages stages p u
    close_does (close t) u given h text = does_only (close t) (41 ∷ []) u (with_term t u) given text refl (λ ps. record { text = refl; behind = refl })
    close_does _ u given h text = absurd h.1

    pub discharged_does : (i : ℕ) (p : Part) (u : Script) → AreGiven plan s v old.names u.taken → StandsFor s v refs (Stage.Discharged i) p
        → new.text.items ≡ old.text.items ++ (listed_text (codes ":discharge") (symbol_items (map printed_id (discharged_at refs i))) ++ 41 ∷ 10 ∷ [])
        → DoesIn plan s v refs old new stages stages p u
    discharged_does i (discharged step) u given h text =
        does_only (discharged step) _ u u given text refl (λ ps. discharged_next plan u ps step (discharged_at refs i) h.1)
    discharged_does i _ u given h text = absurd h.1

    pub line_ends : (p : Part) (u : Script) → AreGiven plan s v old.names u.taken → StandsFor s v refs Stage.EndLine p
        → new.text.items ≡ old.text.items ++ 41 ∷ 10 ∷ []
        → DoesIn plan s v refs old new stages stages p u
    line_ends end_line u given h text = does_only end_line (41 ∷ 10 ∷ []) u u given text refl (λ ps. record { text = refl; behind = refl })
    line_ends _ u given h text = absurd h.1
