-- Behind its `not`s an assertion is a term with a truth, and its `not` has one `not` more.
use Rattle.std.proofs.Common.{◌≡◌, ◌↔◌, ◌%◌, ℕ, suc, Bool, true, false, not, IsTrue, refl, sym, ap, ◌∙◌, subst, rules, arith}
use Rattle.term_model.specs.Sorts.{IsWellSorted}
use Rattle.term_model.specs.Terms.{not_of}
use Rattle.rule_model.specs.Arith.{denial}
use Rattle.linear_lines.specs.Comparisons.{IsNumberComparison}
use Rattle.linear_lines.specs.ComparisonReads.{said_by}
use Rattle.linear_lines.proofs.ComparisonLemmas.{denied_is, other_parity, under_nots}
use Rattle.linear_lines.proofs.comparisons.asserted.Goals as goal

pub compared-requires : goal.compared-requires
compared-requires c =
    let st = c.strip_not-bare.ensures.stripped c.requires.means c.requires.refers in
    record {
      means = st.inner;
      refers = st.refers;
      sorted = under_nots st.strips.nots st.inner (subst IsWellSorted st.strips.whole c.requires.sorted);
    }

pub returns-clause-read : goal.returns-clause-read
returns-clause-read c t refers =
    let s = c.args.symbols.now in
    let same : c.strip_not-bare.new.self ≡ c.args.terms.now = search rules in
    let st = c.strip_not-bare.ensures.stripped t refers in
    let even = not c.strip_not-bare.result.1 in
    let is = denied_is (suc st.strips.nots) st.inner even st.strips.bare (other_parity st.strips.nots c.strip_not-bare.result.1 st.strips.parity) in
    subst (λ o. IsNumberComparison s c.args.terms.now o c.compared.result) (sym (ap (λ u. denial (not_of u)) st.strips.whole ∙ is))
    (subst (λ w. IsNumberComparison s w (said_by even st.inner) c.compared.result) same (c.compared.ensures.read st.inner st.refers))
