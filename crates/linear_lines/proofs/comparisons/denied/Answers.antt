-- Behind its `not`s a literal is a term with a truth.
use Rattle.std.proofs.Common.{◌≡◌, sym, ap, ◌∙◌, subst, rules}
use Rattle.term_model.specs.Sorts.{IsWellSorted}
use Rattle.rule_model.specs.Arith.{denial}
use Rattle.linear_lines.specs.Comparisons.{IsNumberComparison}
use Rattle.linear_lines.specs.ComparisonReads.{said_by}
use Rattle.linear_lines.proofs.ComparisonLemmas.{denied_is, under_nots}
use Rattle.linear_lines.proofs.comparisons.denied.Goals as goal

pub compared-requires : goal.compared-requires
compared-requires c =
    let st = c.strip_not-bare.ensures.stripped c.requires.means c.requires.refers in
    record {
      means = st.inner;
      refers = st.refers;
      sorted = under_nots st.strips.nots st.inner (subst IsWellSorted st.strips.whole c.requires.sorted);
    }

pub returns-clause-read : goal.returns-clause-read
returns-clause-read c t refers =
    let s = c.args.symbols.now in
    let same : c.strip_not-bare.new.self ≡ c.args.terms.now = search rules in
    let st = c.strip_not-bare.ensures.stripped t refers in
    let odd = c.strip_not-bare.result.1 in
    subst (λ o. IsNumberComparison s c.args.terms.now o c.compared.result) (sym (ap denial st.strips.whole ∙ denied_is st.strips.nots st.inner odd st.strips.bare st.strips.parity))
    (subst (λ w. IsNumberComparison s w (said_by odd st.inner) c.compared.result) same (c.compared.ensures.read st.inner st.refers))
