-- A literal with its coefficient at a time.
use Rattle.std.proofs.Common.{◌≡◌, length, map, take, true, sym, subst, ◌∙◌, arith}
use Rattle.std.proofs.lemmas.List.{length-map, take_all}
use Rattle.std.proofs.lemmas.List.Elements.{All-push}
use Rattle.line_judging.specs.Weights.{IsLineOfTerms}
use Rattle.proof_store.specs.Ratios.{fraction_of_ratio}
use Rattle.term_pool.specs.Views.{RefersTo}
use Rattle.rules_arith.specs.Lines.{AreLinesFound}
use Rattle.rules_arith.proofs.LineLemmas.{same_lengths, term_at, ratio_at, lowest_at, no_line, one_more}
use Rattle.rules_arith.proofs.lines.read_lines.Goals as goal
use Rattle.schema_match.proofs.ReferLemmas.{refer_length}

pub returns-then-clause-ratios-clause-lines : goal.returns-then-clause-ratios-clause-lines
returns-then-clause-ratios-clause-lines c ts refer ls are =
    let lengths : length c.args.clause.now ≡ length c.args.ratios.now =
    refer_length c.args.symbols.now c.args.terms.now c.args.clause.now ts refer ∙ (same_lengths ts (map fraction_of_ratio c.args.ratios.now) ls are ∙ length-map c.args.ratios.now fraction_of_ratio) in
    let other = c.if-clause-ratios.true in
    absurd (omega (arith, lengths, other))

pub line_of-requires-clause-lowest : goal.line_of-requires-clause-lowest
line_of-requires-clause-lowest c =
    let below = c.literals-test.true in
    let lengths = c.if-clause-ratios.false in
    lowest_at c.args.ratios.now c.literals.k _ c.requires.lowest (omega (arith, below, lengths))

pub returns-in_default-clause-lines : goal.returns-in_default-clause-lines
returns-in_default-clause-lines c ts refer =
    let s = c.args.symbols.now in
    let v = c.args.terms.now in
    let k = c.literals.k in
    let r = c.index-clause-k.result in
    let below = c.literals-test.true in
    let lengths = c.if-clause-ratios.false in
    let term = term_at s v c.args.clause.now ts k r refer c.literals-test.true in
    let here : RefersTo s v r term.0 = subst (λ x. RefersTo s v x term.0) (sym c.index-clause-k.is) term.2 in
    let none = rw c.literals.invariant.same at c.in_default.ensures.line in
    no_line s v ts (map fraction_of_ratio c.args.ratios.now) k term.0 _ c.literals.lines.items term.1
    (ratio_at c.args.ratios.now k _ (omega (arith, below, lengths))) (none term.0 here)

pub literals-preserved : goal.literals-preserved
literals-preserved c =
    let s = c.args.symbols.now in
    let v = c.args.terms.now in
    let k = c.literals.k in
    let r = c.index-clause-k.result in
    let below = c.literals-test.true in
    let lengths = c.if-clause-ratios.false in
    let terms = rw c.literals.invariant.same at c.in-Some.ensures.terms in
    let line = rw c.literals.invariant.same at c.in-Some.ensures.line in
    record {
      same = c.line_of.ensures.same ∙ c.literals.invariant.same;
      terms = rw c.in_ok-push.ensures.items (All-push (IsLineOfTerms s v) c.literals.lines.items c.in-Some.line c.literals.invariant.terms terms);
      found = λ ts refer.
          (let term = term_at s v c.args.clause.now ts k r refer c.literals-test.true in
          let here : RefersTo s v r term.0 = subst (λ x. RefersTo s v x term.0) (sym c.index-clause-k.is) term.2 in
          rw c.in_ok-push.ensures.items
          (one_more s v ts (map fraction_of_ratio c.args.ratios.now) k term.0 _ c.literals.lines.items c.in-Some.line term.1
          (ratio_at c.args.ratios.now k _ (omega (arith, below, lengths))) (c.literals.invariant.found ts refer) (line term.0 here)));
    }

pub returns-clause-lines : goal.returns-clause-lines
returns-clause-lines c ts refer =
    let s = c.args.symbols.now in
    let v = c.args.terms.now in
    let k = c.literals.k in
    let qs = map fraction_of_ratio c.args.ratios.now in
    let test = c.literals-test.false in
    let count = refer_length s v c.args.clause.now ts refer in
    let lengths = c.if-clause-ratios.false in
    let all_ts = take_all k ts (omega (arith, test, count)) in
    let all_qs = take_all k qs (omega (arith, test, lengths, length-map c.args.ratios.now fraction_of_ratio)) in
    subst (λ xs. AreLinesFound s v xs qs c.literals.lines.items true) all_ts
    (subst (λ xs. AreLinesFound s v (take k ts) xs c.literals.lines.items true) all_qs (c.literals.invariant.found ts refer))
