-- Where a rule has the word, it is the first.
use Rattle.std.proofs.Common.{◌≡◌, ◌+◌, suc, drop, slice_index_or, true, false, sym, ◌∙◌, ap, subst, arith, if◌then◌else◌}
use Rattle.std.specs.Str.{bytes_eq}
use Rattle.std.proofs.lemmas.Option.{slice_get-get_or}
use Rattle.rule_model.specs.declared.rules.Rule.{Rule}
use Rattle.rule_model.specs.RuleNames.{rule_among, rule_named}
use Rattle.alethe_reader.proofs.RuleWords.{among_here, among_none}
use Rattle.alethe_reader.proofs.rules.rule_named.Goals as goal

pub rules-init : goal.rules-init
unfolding rule_named
rules-init c = record { so_far = ap (λ rs. rule_among rs c.args.name.now) c.known_rules-rules.ensures }

pub returns-then-eq : goal.returns-then-eq
returns-then-eq c =
    let rules = c.known_rules-rules.result.now in
    let r = slice_index_or rules c.rules.k Rule.Assume in
    let test = subst (λ w. bytes_eq w c.args.name.now ≡ true) c.word.ensures (sym c.eq.ensures ∙ c.if-eq.true) in
    sym (among_here rules c.rules.k r c.args.name.now (slice_get-get_or rules c.rules.k Rule.Assume c.rules-test.true)
    ∙ ap (λ b. if b then r else rule_among (drop (suc c.rules.k) rules) c.args.name.now) test)
    ∙ c.rules.invariant.so_far

pub rules-preserved : goal.rules-preserved
rules-preserved c =
    let rules = c.known_rules-rules.result.now in
    let r = slice_index_or rules c.rules.k Rule.Assume in
    let test = subst (λ w. bytes_eq w c.args.name.now ≡ false) c.word.ensures (sym c.eq.ensures ∙ c.if-eq.false) in
    let next : c.rules.k + 1 ≡ suc c.rules.k = omega arith in
    record {
      so_far =
          ap (λ n. rule_among (drop n rules) c.args.name.now) next
          ∙ (sym (among_here rules c.rules.k r c.args.name.now (slice_get-get_or rules c.rules.k Rule.Assume c.rules-test.true)
          ∙ ap (λ b. if b then r else rule_among (drop (suc c.rules.k) rules) c.args.name.now) test)
          ∙ c.rules.invariant.so_far);
    }

pub returns : goal.returns
returns c = sym (among_none c.known_rules-rules.result.now c.rules.k c.args.name.now c.rules-test.false) ∙ c.rules.invariant.so_far
