-- What is known of the site of a command, and of its table, its proof, its assertions and its index.
use Rattle.std.proofs.Common.{ℕ, List, subst, sym}
use Rattle.sym_table.specs.Table.{Table}
use Rattle.rule_model.specs.Proofs.{ProofItems}
use Rattle.equality_steps.specs.declared.site.Site.{Site}
use Rattle.elaboration.specs.Elaborated.{IsSiteOf}

module _ (P : Table → List ℕ → ProofItems ℕ ℕ → ℕ → Type 0) (s : Table) (asserted : List ℕ) (refs : ProofItems ℕ ℕ) (i : ℕ) (p : Site)
    (is : IsSiteOf s asserted refs i p) where
  -- what is so of what the site has is so of what it stands for
  pub of_site : P p.symbols.now p.asserted.now p.proof.now p.command → P s asserted refs i
  of_site h =
      subst (λ x. P x asserted refs i) is.symbols
      (subst (λ x. P p.symbols.now x refs i) is.assertions
      (subst (λ x. P p.symbols.now p.asserted.now x i) is.proof (subst (P p.symbols.now p.asserted.now p.proof.now) is.command h)))

  -- and the other way
  pub to_site : P s asserted refs i → P p.symbols.now p.asserted.now p.proof.now p.command
  to_site h =
      subst (P p.symbols.now p.asserted.now p.proof.now) (sym is.command)
      (subst (λ x. P p.symbols.now p.asserted.now x i) (sym is.proof)
      (subst (λ x. P p.symbols.now x refs i) (sym is.assertions) (subst (λ x. P x asserted refs i) (sym is.symbols) h)))
