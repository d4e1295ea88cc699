-- Public. The symbols of a text have names, and so do the ids and rules of its commands.
use Rattle.std.specs.Prelude.{⊤}
use Rattle.std.specs.List.{AllByRecursion}
use Rattle.sexpr.specs.Items.{Item, word, quoted, string, list, Items, no_items, item}
use Rattle.sexpr.specs.Words.{between_bars}
use Rattle.rule_model.specs.RuleNames.{IsSymbolName}
use Rattle.alethe_text.specs.Commands.{Attribute, rule, premises, arguments, discharge, Command, assume, step, anchor}

abbrev mutual
  pub HasNames : Item → Type 0
  HasNames (word place spelling) = IsSymbolName spelling
  HasNames (quoted place spelling) = IsSymbolName (between_bars spelling)
  HasNames (string place spelling) = ⊤
  HasNames (list place items) = HaveNames items

  pub HaveNames : Items → Type 0
  HaveNames no_items = ⊤
  HaveNames (item i rest) = HasNames i × HaveNames rest

abbrev pub IsRuleNamed : Attribute → Type 0
IsRuleNamed (rule n) = IsSymbolName n.name
IsRuleNamed (premises ns) = ⊤
IsRuleNamed (arguments items) = ⊤
IsRuleNamed (discharge ns) = ⊤

abbrev pub IsNamed : Command → Type 0
IsNamed (assume n i) = IsSymbolName n.name
IsNamed (step n literals attributes) = IsSymbolName n.name × AllByRecursion IsRuleNamed attributes
IsNamed (anchor place n others) = IsSymbolName n.name
