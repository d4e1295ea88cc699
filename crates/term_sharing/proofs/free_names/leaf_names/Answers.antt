use Rattle.std.proofs.Common.{refl}
use Rattle.term_sharing.proofs.NameLists.{more_leaves}
use Rattle.term_sharing.proofs.free_names.leaf_names.Goals as goal

pub leaves-preserved : goal.leaves-preserved
leaves-preserved c = more_leaves c.args.symbols.now _ _ _ _ _ refl c.leaves.invariant c.name.ensures c.in_ok-note.ensures
