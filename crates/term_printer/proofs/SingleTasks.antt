-- Tasks that print bytes and leave at most a term.
use Rattle.std.proofs.Common.{◌≡◌, ℕ, Some, None, List, [], ◌∷◌, ◌++◌, codes, nat_eq, refl, sym, ap, ◌∙◌, subst, arith}
use Rattle.std.specs.Map.{update}
use Rattle.std.proofs.lemmas.List.{append-nil}
use Rattle.sexpr.specs.Printing.{printed_symbol}
use Rattle.sexpr.specs.Printed.{symbol_item, printed}
use Rattle.sym_table.specs.Table.{Table, IsTable}
use Rattle.term_model.specs.Terms.{Term}
use Rattle.term_pool.specs.Views.{TermsView, RefersTo}
use Rattle.problem_text.specs.Scripts.{Named, with_named, with_term}
use Rattle.printed_proofs.specs.Parts.{Part, whole, body, close, bracket, naming}
use Rattle.printed_proofs.specs.Shared.{Plan}
use Rattle.printed_proofs.proofs.PartByPart.{body_next}
use Rattle.term_printer.specs.Names.{name_numbered, entry_at, given_entry, AreGiven}
use Rattle.term_printer.specs.Pages.{IsTask, IsNamingOf, Performs}
use Rattle.term_printer.specs.declared.names.Entry.{Entry}
use Rattle.term_printer.specs.declared.page.Page.{Page}
use Rattle.term_walk.specs.declared.tasks.Task.{Task}
use Rattle.term_printer.proofs.GivenNames.{has_entry, given_now}
use Rattle.term_printer.proofs.Pieces.{symbol_same}

module _ (plan : Plan) (s : Table) (v : TermsView) (old new : Page) where
  body_part : (list r : ℕ) (p : Part) → IsTask plan s v (Task.Body list r) p → new.text.items ≡ old.text.items ++ (41 ∷ 32 ∷ [])
      → new.tasks.items ≡ old.tasks.items ++ (Task.Term r ∷ []) → new.names ≡ old.names → Performs plan s v old new p
  body_part list r (body t) h text left names u g = record {
    bytes = 41 ∷ 32 ∷ [];
    behind = u;
    tasks = Task.Term r ∷ [];
    parts = whole t ∷ [];
    text = text;
    left = left;
    are = (h, tt);
    few = omega arith;
    given = subst (λ n. AreGiven plan s v n u.taken) (sym names) g;
    goes_on = λ ps. body_next plan u ps t;
  }
  body_part list r _ h text left names u g = absurd h

  pub body_performs : (task : Task) (list r : ℕ) (p : Part) → task ≡ Task.Body list r → IsTask plan s v task p
      → new.text.items ≡ old.text.items ++ (41 ∷ 32 ∷ []) → new.tasks.items ≡ old.tasks.items ++ (Task.Term r ∷ []) → new.names ≡ old.names
      → Performs plan s v old new p
  body_performs task list r p e h = body_part list r p (subst (λ k. IsTask plan s v k p) e h)

  pub close_performs : (p : Part) → IsTask plan s v Task.Close p → new.text.items ≡ old.text.items ++ (41 ∷ [])
      → new.tasks.items ≡ old.tasks.items → new.names ≡ old.names → Performs plan s v old new p
  close_performs (close t) h text same names u g = record {
    bytes = 41 ∷ [];
    behind = with_term t u;
    tasks = [];
    parts = [];
    text = text;
    left = same ∙ sym (append-nil old.tasks.items);
    are = tt;
    few = omega arith;
    given = subst (λ n. AreGiven plan s v n u.taken) (sym names) g;
    goes_on = λ ps. record { text = refl; behind = refl };
  }
  close_performs bracket h text same names u g = record {
    bytes = 41 ∷ [];
    behind = u;
    tasks = [];
    parts = [];
    text = text;
    left = same ∙ sym (append-nil old.tasks.items);
    are = tt;
    few = omega arith;
    given = subst (λ n. AreGiven plan s v n u.taken) (sym names) g;
    goes_on = λ ps. record { text = refl; behind = refl };
  }
  close_performs _ h text same names u g = absurd h

  pub end_performs : (p : Part) → IsTask plan s v Task.End p → new.text.items ≡ old.text.items ++ (41 ∷ [])
      → new.tasks.items ≡ old.tasks.items → new.names ≡ old.names → Performs plan s v old new p
  end_performs (close t) h text same names u g = close_performs (close t) tt text same names u g
  end_performs _ h text same names u g = absurd h

  -- the name of a term, by its entry
  module _ (table : IsTable s)
      (one : (s : Table) → IsTable s → (p q : ℕ) (t w : Term) → RefersTo s v p t → RefersTo s v q w → (p ≡ q → t ≡ w) × (t ≡ w → p ≡ q))
      (r : ℕ) (n : Named) (h : IsNamingOf plan s v r n) where
    pub some_entry : (taken : List (List ℕ)) → AreGiven plan s v old.names taken → entry_at old.names r ≡ None → Performs plan s v old new (naming n)
    some_entry taken g none =
        let e = has_entry plan s v old.names taken g r h.means n h.refers h.is in
        absurd (let f : None ≡ Some e.0 = sym none ∙ e.1 in cc)

    pub naming_performs : (e : Entry) → entry_at old.names r ≡ Some e
        → new.text.items ≡ old.text.items ++ (codes " :named " ++ (printed_symbol (name_numbered e.number) ++ 41 ∷ []))
        → new.tasks.items ≡ old.tasks.items
        → ((q : ℕ) → entry_at new.names q ≡ update nat_eq (entry_at old.names) r (given_entry (entry_at old.names r)) q)
        → Performs plan s v old new (naming n)
    naming_performs e some text same names u g =
        let k = has_entry plan s v old.names u.taken g r h.means n h.refers h.is in
        let number : k.0 ≡ e = (let f : Some k.0 ≡ Some e = sym k.1 ∙ some in cc) in
        let name : n.name ≡ name_numbered e.number = k.2 ∙ ap (λ (x : Entry). name_numbered x.number) number in
        record {
          bytes = codes " :named " ++ (printed (symbol_item n.name) ++ 41 ∷ []);
          behind = with_named n u;
          tasks = [];
          parts = [];
          text =
              text
              ∙ ap (λ b. old.text.items ++ (codes " :named " ++ (b ++ 41 ∷ []))) (sym (symbol_same n.name ∙ ap printed_symbol name));
          left = same ∙ sym (append-nil old.tasks.items);
          are = tt;
          few = omega arith;
          given =
              given_now plan s v old.names u.taken g new.names r h.means n h.refers h.is
              (λ q w at e. sym ((one s table r q h.means w h.refers at).0 (sym e))) names;
          goes_on = λ ps. record { text = refl; behind = refl };
        }
