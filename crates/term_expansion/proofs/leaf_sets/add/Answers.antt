-- The keys after `insert`.
use Rattle.std.proofs.Common.{sym, subst}
use Rattle.term_expansion.specs.Free.{AddsOne}
use Rattle.term_expansion.proofs.SetLemmas.{insert_key-adds}
use Rattle.term_expansion.proofs.leaf_sets.add.Goals as goal

pub returns : goal.returns
returns c =
    subst (λ ks. AddsOne c.args.set.now.keys ks c.args.k) (sym c.in_ok-insert.ensures.keys) (insert_key-adds c.args.set.now.keys c.args.k)
