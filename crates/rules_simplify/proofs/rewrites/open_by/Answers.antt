use Rattle.std.proofs.Common.{◌∷◌, refl, subst}
use Rattle.term_model.specs.Sorts.{IsWellSorted}
use Rattle.std.proofs.lemmas.Bool.{OnTrue_at, OnFalse_at, OnTrue_from, OnFalse_from}
use Rattle.std.proofs.lemmas.Result.{IfOk-weaker}
use Rattle.rules_simplify.proofs.RewriteLemmas.{opened_not}
use Rattle.rules_simplify.proofs.rewrites.open_by.Goals as goal

pub returns-clause-open : goal.returns-clause-open
returns-clause-open c =
    IfOk-weaker c.load_arguments.result _ _ (λ b h.
    OnTrue_from b _ (λ e t refers.
    let loaded = OnTrue_at e h t refers in
    let same = (c.equal_exactly_where_terms_are.ensures c.args.symbols.now c.leaves_differ.ensures.table c.args.r c.args.r c.requires.means t c.requires.refers refers).0 refl in
    record {
      arguments = loaded.first ∷ loaded.others;
      is = loaded.is;
      refer = loaded.refer;
      sorted = subst IsWellSorted same c.requires.sorted;
    })) c.load_arguments.ensures.loaded

pub returns-clause-other : goal.returns-clause-other
returns-clause-other c =
    IfOk-weaker c.load_arguments.result _ _ (λ b h.
    OnFalse_from b _ (λ e table of t is refers. opened_not table of c.args.row t is (OnFalse_at e h t refers))) c.load_arguments.ensures.other
