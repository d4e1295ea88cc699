-- One name after another.
use Rattle.std.proofs.Common.{subst, Ok, Err, find}
use Rattle.std.specs.Prelude.{bytes_eq}
use Rattle.std.proofs.lemmas.Result.{err_from_is_err_and}
use Rattle.text_items.specs.ItemShapes.{Name}
use Rattle.alethe_reader.specs.Reach.{IsIndex}
use Rattle.alethe_reader.proofs.Indices.{symbol_here, other_symbols, left_first, all_read, fails, left_next}
use Rattle.alethe_reader.proofs.premises.indices_at.Goals as goal

pub names-init : goal.names-init
names-init c = record { symbols = c.requires; left = λ sights p reach. left_first sights p _ _ c.clear.ensures.items }

pub named_at-requires : goal.named_at-requires
named_at-requires c = symbol_here c.args.items.now c.names.k c.args.range.end c.names-test.true c.names.invariant.symbols

pub returns-in_err-index : goal.returns-in_err-index
returns-in_err-index c = λ sights p reach.
    let is = err_from_is_err_and c.from_residual.result c.from_residual.ensures.1 in
    rw (is.1, is.2) (fails sights p _ c.names.indices.items c.args.items.now c.names.k c.args.range.end (c.names.invariant.left sights p reach) c.names-test.true c.requires.inside c.in_err-index.field-0.0
    (subst (λ (n : Name). IsIndex (find (λ c. bytes_eq c.id n.name) sights) n.place (Err c.in_err-index.field-0.0)) c.named_at.ensures (c.in_err-index.ensures sights reach)))

pub names-preserved : goal.names-preserved
names-preserved c = record {
  symbols = other_symbols c.args.items.now c.names.k c.args.range.end c.names-test.true c.names.invariant.symbols c.node-k.result c.node-k.ensures;
  left = λ sights p reach.
      left_next sights p _ c.names.indices.items c.args.items.now c.names.k c.args.range.end (c.names.invariant.left sights p reach) c.names-test.true c.requires.inside c.node-k.result c.node-k.ensures c.in_ok-index.index
      (subst (λ (n : Name). IsIndex (find (λ c. bytes_eq c.id n.name) sights) n.place (Ok c.in_ok-index.index)) c.named_at.ensures (c.in_ok-index.ensures sights reach)) _ c.in_ok-push.ensures.items;
}

pub returns : goal.returns
returns c = λ sights p reach. all_read sights p _ c.names.indices.items c.args.items.now c.names.k c.args.range.end (c.names.invariant.left sights p reach) c.names-test.false
