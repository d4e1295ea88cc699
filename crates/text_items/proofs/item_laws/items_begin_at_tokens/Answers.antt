-- By recursion on the items of the text.
use Rattle.text_items.proofs.TokensOfItems.{items_begin}
use Rattle.text_items.proofs.item_laws.items_begin_at_tokens.Goals as goal

pub returns : goal.returns
returns c = items_begin
