-- What the term becomes is placed at once.
use Rattle.std.proofs.Common.{refl, arith}
use Rattle.std.proofs.lemmas.Result.{err_from_is_err_and}
use Rattle.rule_model.specs.Replacement.{replaced}
use Rattle.term_expansion.proofs.PutIn.{nothing_placed, says_of, said_of, put_places, put_lacks, put_value}
use Rattle.term_expansion.proofs.putting_in.put_in_expanded.Goals as goal

pub returns-in_err-expansion-clause-placed : goal.returns-in_err-expansion-clause-placed
returns-in_err-expansion-clause-placed c = λ t q h k. nothing_placed c.args.symbols.now c.args.terms.now c.args.terms.now c.args.replacement.now c.args.what refl t q h k

pub expand-requires-clause-said : goal.expand-requires-clause-said
expand-requires-clause-said c =
    said_of c.args.symbols.now c.args.terms.now c.in_ok-expansion.expansion.assignments c.args.replacement.now c.args.what c.requires.what.means c.requires.replacement.means c.requires.what.is
    (c.in_ok-expansion.ensures.says c.args.symbols.now c.args.terms.now c.requires.replacement.means c.leaves_differ.ensures.table c.leaves_differ.ensures.few c.requires.replacement.is)

pub expand-requires-clause-low : goal.expand-requires-clause-low
expand-requires-clause-low c =
    let h = c.requires.what.is in
    record { means = c.requires.what.means.tree; refers = h.refers; low = let high = h.high in omega arith }

pub returns-in_err-term-clause-placed : goal.returns-in_err-term-clause-placed
returns-in_err-term-clause-placed c =
    put_places c.args.symbols.now c.args.terms.now c.expand.new.terms c.expand.new.terms c.in_ok-expansion.expansion.assignments c.args.replacement.now c.args.what refl c.in_err-term.ensures.placed
    (λ q k. c.in_ok-expansion.ensures.says c.args.symbols.now c.args.terms.now q c.leaves_differ.ensures.table c.leaves_differ.ensures.few k)

pub returns-in_err-term-clause-full : goal.returns-in_err-term-clause-full
returns-in_err-term-clause-full c = λ t q h k.
    let e = err_from_is_err_and c.from_residual-in_err-term.result c.from_residual-in_err-term.ensures.1 in
    rw (e.1, e.2) (λ full.
    put_lacks c.args.symbols.now c.args.terms.now c.expand.new.terms c.in_ok-expansion.expansion.assignments c.args.replacement.now c.args.what (c.in_err-term.ensures.full full)
    (λ q k. c.in_ok-expansion.ensures.says c.args.symbols.now c.args.terms.now q c.leaves_differ.ensures.table c.leaves_differ.ensures.few k) t q h k)

pub height_of-requires : goal.height_of-requires
height_of-requires c =
    let t = c.requires.what.means in
    let q = c.requires.replacement.means in
    let refers = c.in_ok-term.ensures.value t.tree q c.requires.what.is.refers (says_of c.args.symbols.now c.args.terms.now c.in_ok-expansion.expansion.assignments q t.tree (c.in_ok-expansion.ensures.says c.args.symbols.now c.args.terms.now q c.leaves_differ.ensures.table c.leaves_differ.ensures.few c.requires.replacement.is)) in
    record { tree = refers.tree; stands = refers.known }

pub returns-in_err-height-clause-placed : goal.returns-in_err-height-clause-placed
returns-in_err-height-clause-placed c =
    put_places c.args.symbols.now c.args.terms.now c.expand.new.terms c.height_of.new.terms c.in_ok-expansion.expansion.assignments c.args.replacement.now c.args.what c.height_of.ensures.same c.in_ok-term.ensures.placed
    (λ q k. c.in_ok-expansion.ensures.says c.args.symbols.now c.args.terms.now q c.leaves_differ.ensures.table c.leaves_differ.ensures.few k)

pub returns-clause-value : goal.returns-clause-value
returns-clause-value c = λ t q h k.
    let said = says_of c.args.symbols.now c.args.terms.now c.in_ok-expansion.expansion.assignments q t.tree (c.in_ok-expansion.ensures.says c.args.symbols.now c.args.terms.now q c.leaves_differ.ensures.table c.leaves_differ.ensures.few k) in
    let refers = c.in_ok-term.ensures.value t.tree q h.refers said in
    put_value c.args.symbols.now c.args.terms.now c.expand.new.terms c.height_of.new.terms c.args.replacement.now c.args.what _ c.height_of.ensures.same refl c.all_plain.ensures t q h k refers
    (c.in_ok-height.ensures.height c.args.symbols.now (replaced q t.tree) c.leaves_differ.ensures.table refers)

pub returns-clause-placed : goal.returns-clause-placed
returns-clause-placed c =
    put_places c.args.symbols.now c.args.terms.now c.expand.new.terms c.height_of.new.terms c.in_ok-expansion.expansion.assignments c.args.replacement.now c.args.what c.height_of.ensures.same c.in_ok-term.ensures.placed
    (λ q k. c.in_ok-expansion.ensures.says c.args.symbols.now c.args.terms.now q c.leaves_differ.ensures.table c.leaves_differ.ensures.few k)
