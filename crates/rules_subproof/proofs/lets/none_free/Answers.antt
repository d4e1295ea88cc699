use Rattle.std.proofs.Common.{◌∙◌, IsTrue, false, refl, subst, arith}
use Rattle.std.proofs.lemmas.List.{drop_more, drop_all}
use Rattle.rules_subproof.proofs.Variables.{AreLeft, free_start, free_next, free_found, free_end}
use Rattle.rules_subproof.proofs.lets.none_free.Goals as goal

not_true : IsTrue false → ⊥
not_true e = cc

pub vars-init : goal.vars-init
vars-init c = (refl, λ xs t leaves refers. free_start c.args.symbols.now t c.args.vars.now xs leaves)

pub returns-then-branch-clause-free : goal.returns-then-branch-clause-free
returns-then-branch-clause-free c xs t leaves refers =
    let here = subst (λ ks. AreLeft c.args.symbols.now t ks xs) (drop_more c.args.vars.now c.vars.var-index 0 c.vars-test.true) (c.vars.invariant.1 xs t leaves refers) in
    let is = rw c.vars.invariant.0 at c.in_ok-free_in.ensures.exact in (
      λ e. absurd (not_true e),
      λ g. absurd (free_found c.args.symbols.now t _ _ xs (λ x leaf. (is x t leaf refers).0 c.if-branch.true) here g),
    )

pub vars-preserved : goal.vars-preserved
vars-preserved c = (
  c.free_in.ensures.same ∙ c.vars.invariant.0,
  λ xs t leaves refers.
      let here = subst (λ ks. AreLeft c.args.symbols.now t ks xs) (drop_more c.args.vars.now c.vars.var-index 0 c.vars-test.true) (c.vars.invariant.1 xs t leaves refers) in
      let is = rw c.vars.invariant.0 at c.in_ok-free_in.ensures.exact in
      free_next c.args.symbols.now t _ _ xs (λ x leaf h. not_true (subst IsTrue c.if-branch.false ((is x t leaf refers).1 h))) here,
)

pub returns-clause-free : goal.returns-clause-free
returns-clause-free c xs t leaves refers =
    let past = c.vars-test.false in
    let none = drop_all c.vars.var-index c.args.vars.now (omega arith) in
    (λ e. free_end c.args.symbols.now t xs (subst (λ ks. AreLeft c.args.symbols.now t ks xs) none (c.vars.invariant.1 xs t leaves refers)), λ g. refl)
