use Rattle.std.proofs.Common.{◌<◌, ◌+◌, ◌^◌, refl, ◌∙◌, arith}
use Rattle.sym_table.specs.Table.{Table}
use Rattle.term_model.specs.Terms.{Term}
use Rattle.term_parts.specs.Parts.{StandsUnder}
use Rattle.term_pool.specs.Views.{IsTerm, RefersTo, TermsView}
use Rattle.elab_resolution.specs.Counted.{IsAbove}
use Rattle.elab_resolution.proofs.CountLemmas.{above_more, above_start, nots_few}
use Rattle.elab_resolution.proofs.counting.count_nots.Goals as goal

pub nots-init : goal.nots-init
nots-init c = record {
  same = refl;
  known = c.requires;
  above = λ t refers. above_start c.args.symbols.now c.args.terms.now c.args.r t refers;
  few = omega arith;
}

pub nots-preserved : goal.nots-preserved
nots-preserved c =
    record { same = c.under_not.ensures.same ∙ c.nots.invariant.same; known = is_term; above = above; few = few }
  where
    s : Table
    s = c.args.symbols.now

    v : TermsView
    v = c.args.terms.now

    under : (t : Term) → RefersTo s v c.nots.bare t → StandsUnder s v c.in-Some.inner t
    under = rw c.nots.invariant.same at c.in-Some.ensures.under

    above : (t : Term) → RefersTo s v c.args.r t → IsAbove s v t c.in-Some.inner (c.nots.nots + 1)
    above t refers =
        let before = c.nots.invariant.above t refers in
        above_more s v t c.nots.bare c.nots.nots c.in-Some.inner before (under before.inner before.refers)

    is_term : IsTerm s v c.in-Some.inner
    is_term =
        let k = c.nots.invariant.known in
        let u = under k.means k.refers in
        record { means = u.inner; refers = u.refers }

    few : c.nots.nots + 1 < 2 ^ 31
    few =
        let t = c.requires.means in
        let a = above t c.requires.refers in
        nots_few s v c.one_to_one.ensures c.terms_at.ensures.parts c.terms_at.ensures.lists c.args.r (c.nots.nots + 1) t a.inner c.requires.refers a.whole

pub returns-clause-counted : goal.returns-clause-counted
returns-clause-counted c = record {
  few = c.nots.invariant.few;
  counted = λ t refers.
      let a = c.nots.invariant.above t refers in
      record {
        above = a;
        none = λ u is. (rw c.nots.invariant.same at c.in_default.ensures.other) a.inner u a.refers is;
      };
}
