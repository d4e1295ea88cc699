-- Private. What has been met, with the numbers of its nodes.
use Rattle.std.specs.Prelude.{◌≡◌, ◌≢◌, ℕ, zero, suc, List, length, slice_index_or, if◌then◌else◌, Option, Some, None}
use Rattle.std.specs.HashMap.{get}
use Rattle.linear_forms.specs.contracts.memory.ItemPartialEq.TheImpl as items
use Rattle.linear_forms.specs.declared.memory.Item.{Item}
use Rattle.linear_forms.specs.declared.memory.Item.TheVariants.{Term as TermItem}
use Rattle.linear_forms.specs.declared.memory.Numbered.{Numbered}
use Rattle.linear_forms.specs.declared.memory.Memo.{Memo}

abbrev pub no_numbered : Numbered
no_numbered = record { item = TermItem 0; number = 0 }

-- the number of an item among the first k of a list
abbrev pub number_among : List Numbered → ℕ → Item → Option ℕ
number_among few zero x = None
number_among few (suc k) x =
    if (items.ghosts).eq (slice_index_or few k no_numbered).item x then Some (slice_index_or few k no_numbered).number
    else number_among few k x

abbrev pub first_number : Option ℕ → Option ℕ → Option ℕ
first_number None o = o
first_number (Some k) o = Some k

abbrev pub number_remembered : Memo → Item → Option ℕ
number_remembered memo x = first_number (number_among memo.few.items (length memo.few.items) x) (get (items.ghosts).eq memo.others x)

-- nothing is remembered
abbrev pub IsForgotten : Memo → Type 0
IsForgotten memo = (x : Item) → number_remembered memo x ≡ None

-- one item more is remembered, and what there was
pub record RemembersItem (old new : Memo) (x : Item) (k : ℕ) : Type 0 where
  pub here : number_remembered new x ≡ Some k
  pub others : (y : Item) → y ≢ x → number_remembered new y ≡ number_remembered old y
