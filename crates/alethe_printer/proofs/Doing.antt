-- What one step does.
use Rattle.std.proofs.Common.{◌≡◌, ℕ, List, [], ◌∷◌, ◌++◌, reverse, refl, sym, ap, ◌∙◌, subst}
use Rattle.std.proofs.lemmas.List.{append_assoc, append-nil}
use Rattle.std.specs.List.{AllZip}
use Rattle.sexpr.specs.Items.{Item}
use Rattle.sexpr.specs.Printed.{printed}
use Rattle.sym_table.specs.Table.{Table}
use Rattle.term_model.specs.Terms.{Term}
use Rattle.term_pool.specs.Views.{TermsView}
use Rattle.rule_model.specs.Proofs.{ProofItems}
use Rattle.problem_text.specs.Scripts.{Script}
use Rattle.printed_proofs.specs.Parts.{Part, whole, parts_text, parts_behind, GoesOn}
use Rattle.printed_proofs.specs.Shared.{Plan, shared_item, behind_term}
use Rattle.term_printer.specs.Names.{AreGiven}
use Rattle.term_printer.specs.Pages.{ComesTo}
use Rattle.term_printer.specs.declared.page.Page.{Page}
use Rattle.alethe_printer.specs.declared.stages.Stage.{Stage}
use Rattle.alethe_printer.specs.Stages.{StandsFor}
use Rattle.alethe_printer.specs.Steps.{Prints, DoesIn, BeginsIn}
use Rattle.alethe_printer.proofs.Pages.{blank, names_same}
use Rattle.alethe_printer.proofs.Sorts.{term_sorts}

-- nothing was left on a page, and only its text changed
pub record IsUntouched (old new : Page) : Type 0 where
  pub none : old.tasks.items ≡ []
  pub tasks : new.tasks.items ≡ old.tasks.items
  pub names : new.names ≡ old.names

-- no stage is left behind it
pub none_left : (before after : List Stage) → after ≡ before → after ≡ before ++ []
none_left before after e = e ∙ sym (append-nil before)

module _ (plan : Plan) (s : Table) (v : TermsView) (refs : ProofItems ℕ ℕ) (old new : Page) (before after stages : List Stage)
    (parts : List Part) (left : after ≡ before ++ stages) (are : AllZip (StandsFor s v refs) stages parts) where
  -- bytes alone are printed
  bytes_alone : (bytes : List ℕ) (w : Script) → IsUntouched old new → AreGiven plan s v old.names w.taken → new.text.items ≡ old.text.items ++ bytes
      → Prints plan s v refs old new before after bytes w parts
  bytes_alone bytes w same given text = record {
    page =
        blank plan s v new (old.text.items ++ bytes) w (same.tasks ∙ same.none) text (names_same plan s v new.names old.names w.taken same.names given);
    stages = stages;
    left = left;
    are = are;
  }

  pub does_bytes : (p : Part) (bytes : List ℕ) (u w : Script) → IsUntouched old new → AreGiven plan s v old.names w.taken
      → new.text.items ≡ old.text.items ++ bytes → w.sorts ≡ u.sorts → ((ps : List Part) → GoesOn plan u (p ∷ ps) bytes w (reverse parts ++ ps))
      → DoesIn plan s v refs old new before after p u
  does_bytes p bytes u w same given text sorts goes = record {
    bytes = bytes;
    end = w;
    parts = parts;
    prints = bytes_alone bytes w same given text;
    sorts = sorts;
    goes_on = goes;
  }

  pub begins_bytes : (i : Item) (bytes : List ℕ) (u behind : Script) → IsUntouched old new → AreGiven plan s v old.names u.taken
      → new.text.items ≡ old.text.items ++ bytes → bytes ++ parts_text plan u (reverse parts) ≡ printed i ++ 10 ∷ []
      → parts_behind plan u (reverse parts) ≡ behind → BeginsIn plan s v refs old new before after i u behind
  begins_bytes i bytes u behind same given text whole_text state = record {
    bytes = bytes;
    end = u;
    parts = parts;
    prints = bytes_alone bytes u same given text;
    sorts = refl;
    text = whole_text;
    state = state;
  }

  -- bytes are printed, and a term is begun
  module _ (mid : Page) (bytes : List ℕ) (t : Term) (w : Script)
      (comes : ComesTo plan s v new (mid.text.items ++ printed (shared_item plan w t)) (behind_term plan w t))
      (text : mid.text.items ≡ old.text.items ++ bytes) where
    bytes_and_term : Prints plan s v refs old new before after (bytes ++ printed (shared_item plan w t)) (behind_term plan w t) parts
    bytes_and_term = record {
      page =
          subst (λ bs. ComesTo plan s v new bs (behind_term plan w t))
          (ap (λ x. x ++ printed (shared_item plan w t)) text ∙ append_assoc old.text.items bytes (printed (shared_item plan w t))) comes;
      stages = stages;
      left = left;
      are = are;
    }

    pub does_term : (p : Part) (u : Script) → w.sorts ≡ u.sorts → ((ps : List Part) → GoesOn plan u (p ∷ ps) bytes w (whole t ∷ (reverse parts ++ ps)))
        → DoesIn plan s v refs old new before after p u
    does_term p u sorts goes = record {
      bytes = bytes ++ printed (shared_item plan w t);
      end = behind_term plan w t;
      parts = parts;
      prints = bytes_and_term;
      sorts = term_sorts plan w t ∙ sorts;
      goes_on = λ ps. let h = goes ps in record {
        text = h.text ∙ sym (append_assoc bytes (printed (shared_item plan w t)) (parts_text plan (behind_term plan w t) (reverse parts ++ ps)));
        behind = h.behind;
      };
    }

    pub begins_term : (i : Item) (behind : Script)
        → (bytes ++ printed (shared_item plan w t)) ++ parts_text plan (behind_term plan w t) (reverse parts) ≡ printed i ++ 10 ∷ []
        → parts_behind plan (behind_term plan w t) (reverse parts) ≡ behind → BeginsIn plan s v refs old new before after i w behind
    begins_term i behind whole_text state = record {
      bytes = bytes ++ printed (shared_item plan w t);
      end = behind_term plan w t;
      parts = parts;
      prints = bytes_and_term;
      sorts = term_sorts plan w t;
      text = whole_text;
      state = state;
    }
