use Rattle.std.proofs.Common.{◌∙◌, ap, sym}
use Rattle.rule_model.specs.Reading.{bindings_at}
use Rattle.term_model.specs.Terms.{let_in}
use Rattle.elaborator.proofs.ClosedOnce.{closed_within}
use Rattle.elab_equality.proofs.ClosingLemmas.{bound_here, images_here, is_let, let_equation, scope_same, scope_there}
use Rattle.elab_equality.proofs.ReadLemmas.{left_refers, literal_below, literal_refers, literal_sides, sides_found}
use Rattle.elab_equality.proofs.closing.read.Goals as goal

pub unwrap-scope-requires : goal.unwrap-scope-requires
unwrap-scope-requires c = scope_there c.args.at.now c.args.terms.now c.requires.job c.requires.rule c.closes.result c.closes.ensures

pub bounds-clause-0 : goal.bounds-clause-0
bounds-clause-0 c =
    let p = c.args.at.now in
    let v = c.args.terms.now in
    let k = (is_let p v c.requires.job c.requires.rule).closing in
    literal_below p v (let_in k.bindings k.body) k.result (let_equation p v c.requires.job c.requires.rule) c.clause.result.now c.clause.ensures

pub sides_of-requires : goal.sides_of-requires
sides_of-requires c =
    let p = c.args.at.now in
    let v = c.args.terms.now in
    let k = (is_let p v c.requires.job c.requires.rule).closing in
    record {
      means = _;
      refers = literal_refers p v (let_in k.bindings k.body) k.result (let_equation p v c.requires.job c.requires.rule) c.clause.result.now c.clause.ensures
          c.index-clause-0.result c.index-clause-0.is;
    }

pub unwrap-sides-requires : goal.unwrap-sides-requires
unwrap-sides-requires c =
    let p = c.args.at.now in
    let v = c.args.terms.now in
    let k = (is_let p v c.requires.job c.requires.rule).closing in
    literal_sides p v (let_in k.bindings k.body) k.result (let_equation p v c.requires.job c.requires.rule) c.clause.result.now c.clause.ensures c.index-clause-0.result
    c.index-clause-0.is c.sides_of.result c.sides_of.ensures.other

pub values_of-requires : goal.values_of-requires
values_of-requires c =
    let p = c.args.at.now in
    let v = c.args.terms.now in
    let k = (is_let p v c.requires.job c.requires.rule).closing in
    let q = c.unwrap-sides.result in
    let h = sides_found p v (let_in k.bindings k.body) k.result (let_equation p v c.requires.job c.requires.rule) c.clause.result.now c.clause.ensures
    c.index-clause-0.result c.index-clause-0.is c.sides_of.result q c.unwrap-sides.ensures c.sides_of.ensures.sides in
    rw c.sides_of.ensures.same (record {
      symbols = p.symbols.now;
      bindings = k.bindings;
      body = k.body;
      refers = left_refers p v (let_in k.bindings k.body) k.result q h;
    })

pub bindings-requires : goal.bindings-requires
bindings-requires c = closed_within c.args.at.now.proof.now c.args.at.now.command c.unwrap-scope.result (sym c.closes.ensures ∙ c.unwrap-scope.ensures)

pub returns-clause-read : goal.returns-clause-read
returns-clause-read c =
    let p = c.args.at.now in
    let s = p.symbols.now in
    let v = c.args.terms.now in
    let job = c.requires.job in
    let l = is_let p v job c.requires.rule in
    let k = l.closing in
    let q = c.unwrap-sides.result in
    let h = sides_found p v (let_in k.bindings k.body) k.result (let_equation p v job c.requires.rule) c.clause.result.now c.clause.ensures
    c.index-clause-0.result c.index-clause-0.is c.sides_of.result q c.unwrap-sides.ensures c.sides_of.ensures.sides in
    let scope = scope_same p v job c.requires.rule c.closes.result c.unwrap-scope.result c.closes.ensures c.unwrap-scope.ensures in
    bound_here p v job c.requires.rule c.in_ok-values.values.items c.in_ok-images.images.items
    ((rw c.sides_of.ensures.same at c.in_ok-values.ensures.values) s k.bindings k.body (left_refers p v (let_in k.bindings k.body) k.result q h))
    (images_here p v c.in_ok-images.images.items c.bindings.result.now (bindings_at p.proof.now l.scope) (bindings_at job.proof l.scope)
    (c.terms_correspond.ensures.bindings s v p.proof.now job.proof l.scope job.stand) (c.bindings.ensures ∙ ap (bindings_at p.proof.now) scope) c.in_ok-images.ensures)
