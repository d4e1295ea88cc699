-- Private. The attributes that most steps have: a rule, and at most one list behind it.
use Rattle.std.specs.Prelude.{◌≡◌, Bool, true, false, Some, None}
use Rattle.sexpr.specs.Items.{Item, Items, no_items, item}
use Rattle.text_items.specs.declared.keywords.Wanted.{Wanted}
use Rattle.text_items.specs.Keywords.{keyword_of, wanted_fault}
use Rattle.alethe_commands.specs.declared.attributes.AttributeWord.{AttributeWord}
use Rattle.alethe_commands.specs.CommandShapes.{attribute_word}

-- what has to stand behind a word
abbrev pub wants : AttributeWord → Wanted
wants AttributeWord.Rule = Wanted.Name
wants AttributeWord.Premises = Wanted.Names
wants AttributeWord.Arguments = Wanted.AnyList
wants AttributeWord.Discharge = Wanted.Names

abbrev pub is_rule : AttributeWord → Bool
is_rule AttributeWord.Rule = true
is_rule AttributeWord.Premises = false
is_rule AttributeWord.Arguments = false
is_rule AttributeWord.Discharge = false

-- the keyword of a word, and what it wants
pub record IsAttribute (w : AttributeWord) (i v : Item) : Type 0 where
  pub word : attribute_word (keyword_of i) ≡ Some w
  pub fits : wanted_fault (wants w) v ≡ None

-- one attribute that is no rule, and nothing else
pub record IsOneList (items : Items) : Type 0 where
  pub word : AttributeWord
  pub keyword : Item
  pub value : Item
  pub split : items ≡ item keyword (item value no_items)
  pub is : IsAttribute word keyword value
  pub other : is_rule word ≡ false
