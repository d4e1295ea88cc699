-- Pages on which nothing is left.
use Rattle.std.proofs.Common.{◌≡◌, ℕ, List, [], ◌∷◌, ◌++◌, reverse, refl, sym, ap, ◌∙◌, subst}
use Rattle.std.proofs.lemmas.List.{append-nil}
use Rattle.std.specs.List.{AllZip}
use Rattle.sym_table.specs.Table.{Table}
use Rattle.term_pool.specs.Views.{TermsView}
use Rattle.problem_text.specs.Scripts.{Script}
use Rattle.printed_proofs.specs.Parts.{parts_text, parts_behind}
use Rattle.printed_proofs.specs.Shared.{Plan}
use Rattle.term_printer.specs.Names.{AreGiven}
use Rattle.term_printer.specs.Pages.{IsTask, ComesTo}
use Rattle.term_printer.specs.declared.names.Names.{Names}
use Rattle.term_printer.specs.declared.page.Page.{Page}

pub no_parts : {X Y : Type 0} (P : X → Y → Type 0) (ys : List Y) → AllZip P [] ys → ys ≡ []
no_parts P [] h = refl
no_parts P (y ∷ ys) h = absurd h

module _ (plan : Plan) (s : Table) (v : TermsView) where
  pub names_same : (a b : Names) (taken : List (List ℕ)) → a ≡ b → AreGiven plan s v b taken → AreGiven plan s v a taken
  names_same a b taken same given = subst (λ n. AreGiven plan s v n taken) (sym same) given

  pub blank : (page : Page) (bytes : List ℕ) (u : Script) → page.tasks.items ≡ [] → page.text.items ≡ bytes → AreGiven plan s v page.names u.taken
      → ComesTo plan s v page bytes u
  blank page bytes u none text given = record {
    state = u;
    parts = [];
    tasks = subst (λ ts. AllZip (IsTask plan s v) ts []) (sym none) tt;
    given = given;
    text = append-nil page.text.items ∙ text;
    behind = refl;
  }

  module _ (page : Page) (bytes : List ℕ) (end : Script) (h : ComesTo plan s v page bytes end) (none : page.tasks.items ≡ []) where
    nothing : h.parts ≡ []
    nothing = no_parts (IsTask plan s v) h.parts (subst (λ ts. AllZip (IsTask plan s v) ts h.parts) none h.tasks)

    pub all_printed : page.text.items ≡ bytes
    all_printed =
        sym (append-nil page.text.items) ∙ (ap (λ ps. page.text.items ++ parts_text plan h.state (reverse ps)) (sym nothing) ∙ h.text)

    pub all_given : AreGiven plan s v page.names end.taken
    all_given =
        let same : h.state ≡ end = ap (λ ps. parts_behind plan h.state (reverse ps)) (sym nothing) ∙ h.behind in
        subst (λ (u : Script). AreGiven plan s v page.names u.taken) same h.given
