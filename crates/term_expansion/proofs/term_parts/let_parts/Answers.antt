use Rattle.std.proofs.Common.{◌≡◌, subst, sym, drop, length, List, ℕ}
use Rattle.term_model.specs.Terms.{Bindings, Term, let_in}
use Rattle.term_pool.specs.Building.{AreBindings}
use Rattle.term_pool.specs.Views.{TermsView, RefersTo}
use Rattle.term_pool.proofs.Keeping.{same_terms}
use Rattle.sym_table.specs.Table.{Table}
use Rattle.term_expansion.proofs.BindingLengths.{bindings-length}
use Rattle.term_expansion.proofs.term_parts.let_parts.Goals as goal

bindings_are : (c : goal.In_ok-bindings) (s : Table) (bs : Bindings) (u : Term) → RefersTo s c.args.terms.now c.args.r (let_in bs u) → AreBindings s c.args.terms.now c.bindings.new.vars.items c.bindings.new.values.items bs
bindings_are c s bs u h =
    let before : c.let_body-body.new.self ≡ c.args.terms.now = same_terms _ _ c.let_body-body.ensures.keeps c.let_body-body.ensures.unchanged in
    let after : c.bindings.new.self ≡ c.let_body-body.new.self = same_terms _ _ c.in_ok-bindings.ensures.keeps c.in_ok-bindings.ensures.unchanged in
    subst (λ (v : TermsView). AreBindings s v c.bindings.new.vars.items c.bindings.new.values.items bs) before
    (subst (λ (v : TermsView). AreBindings s v c.bindings.new.vars.items c.bindings.new.values.items bs) after
    (subst (λ (ys : List ℕ). AreBindings s c.bindings.new.self c.bindings.new.vars.items (drop (length ys) c.bindings.new.values.items) bs) c.new-values.ensures.items
    (subst (λ (xs : List ℕ). AreBindings s c.bindings.new.self (drop (length xs) c.bindings.new.vars.items) (drop (length c.new-values.result.items) c.bindings.new.values.items) bs) c.new-variables.ensures.items
    (c.in_ok-bindings.ensures.bindings s bs u (subst (λ (v : TermsView). RefersTo s v c.args.r (let_in bs u)) (sym before) h)))))

pub returns-clause-bindings : goal.returns-clause-bindings
returns-clause-bindings c = λ s bs u h. bindings_are c s bs u h

pub returns-clause-one_each : goal.returns-clause-one_each
returns-clause-one_each c =
    bindings-length c.requires.symbols c.args.terms.now c.bindings.new.vars.items c.bindings.new.values.items c.requires.bindings
    (bindings_are c c.requires.symbols c.requires.bindings c.requires.body c.requires.refers)
