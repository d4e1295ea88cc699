use Rattle.std.proofs.Common.{◌∙◌, sym}
use Rattle.contexts.proofs.NumberedLists.{shadowed_at}
use Rattle.contexts.proofs.layers.Layers.list.Goals as goal

pub returns : goal.returns
returns c = c.deref.ensures.value ∙ sym (shadowed_at _ _ _ c.requires c.index.ensures)
