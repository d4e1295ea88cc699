-- By the difference of the two forms.
use Rattle.std.proofs.Common.{rules, ◌≡◌, All, sym, subst, arith}
use Rattle.std.proofs.lemmas.Int.{ints}
use Rattle.lia_rows.specs.Forms.{IsNarrow}
use Rattle.lia_rows.proofs.FormLemmas.{not_found, found_heavy, found_wide, found_small}
use Rattle.lia_rows.proofs.forms.form_of.Goals as goal

pub returns-in_default-clause-form : goal.returns-in_default-clause-form
returns-in_default-clause-form c said stands =
    not_found c.args.symbols.now c.args.terms.now said c.in_ok-numbers.numbers c.clear.new.self.items c.difference.new.into.items c.clear.ensures.items
    (c.in_ok-numbers.ensures.difference said.first said.second stands.first stands.second) c.in_default.is

pub returns-then-numbers-ge-LEAST_WEIGHT_REFUSED-clause-form : goal.returns-then-numbers-ge-LEAST_WEIGHT_REFUSED-clause-form
returns-then-numbers-ge-LEAST_WEIGHT_REFUSED-clause-form c said stands =
    found_heavy c.args.symbols.now c.args.terms.now said c.in_ok-numbers.numbers c.clear.new.self.items c.difference.new.into.items c.clear.ensures.items
    (c.in_ok-numbers.ensures.difference said.first said.second stands.first stands.second) c.in-Some.numbers c.in-Some.is c.if-numbers-ge-LEAST_WEIGHT_REFUSED.true

pub returns-then-not-are_narrow-clause-form : goal.returns-then-not-are_narrow-clause-form
returns-then-not-are_narrow-clause-form c said stands =
    found_wide c.args.symbols.now c.args.terms.now said c.in_ok-numbers.numbers c.clear.new.self.items c.difference.new.into.items c.clear.ensures.items
    (c.in_ok-numbers.ensures.difference said.first said.second stands.first stands.second) c.in-Some.numbers c.in-Some.is
    (λ all. let wrong = c.if-not-are_narrow.ensures.1 (subst (All IsNarrow) (sym c.deref.ensures.value) all) in cc)

pub returns-clause-form : goal.returns-clause-form
returns-clause-form c said stands =
    found_small c.args.symbols.now c.args.terms.now said c.in_ok-numbers.numbers c.clear.new.self.items c.difference.new.into.items c.clear.ensures.items
    (c.in_ok-numbers.ensures.difference said.first said.second stands.first stands.second) c.in-Some.numbers c.in-Some.is _ (omega (arith, ints))
    c.if-numbers-ge-LEAST_WEIGHT_REFUSED.false (subst (All IsNarrow) c.deref.ensures.value (c.if-not-are_narrow.ensures.0 (search rules)))
