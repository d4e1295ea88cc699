-- Private. The entries of terms and lists over those of their parts.
use Rattle.std.specs.Prelude.{ℕ, ℤ, pos, neg_ℤ, ◌+◌, min, max, unsigned_abs, Option, Some, None}
use Rattle.sym_table.specs.Leaf.{Leaf, operator, numeral}
use Rattle.term_model.specs.declared.symbols.Op.{Op}
use Rattle.linear_forms.specs.declared.nodes.Part.{Part}
use Rattle.linear_forms.specs.declared.nodes.Node.TheVariants.{Number, Opaque, Multiple, Sum}
use Rattle.linear_forms.specs.declared.nodes.Factors.{Factors}
use Rattle.linear_forms.specs.declared.nodes.Factors.TheVariants.{Constants, Single, Many}
use Rattle.linear_forms.specs.declared.nodes.Info.{Info}
use Rattle.linear_forms.specs.declared.entries.Entry.{Entry}
use Rattle.linear_forms.specs.declared.entries.Found.{Found}
use Rattle.linear_forms.specs.declared.entries.Head.{Head}
use Rattle.linear_forms.specs.Infos.{limit_weight, joined_info}

abbrev pub once : ℕ → Part
once k = record { times = pos 1; node = k }

abbrev pub taken_away : ℕ → Part
taken_away k = record { times = neg_ℤ (pos 1); node = k }

-- what is known of a term that is no constant
abbrev pub term_info : ℕ → ℕ → Info
term_info w own = record { sum = w; product = w; factors = Single (once own) }

abbrev pub constant_info : ℤ → Info
constant_info n = record {
  sum = min (max (unsigned_abs n) 1) limit_weight;
  product = min (max (unsigned_abs n) 1) limit_weight;
  factors = Constants n;
}

abbrev pub constant_entry : ℤ → Entry
constant_entry n = record { node = Number n; info = constant_info n }

abbrev pub number_entry : ℤ → ℕ → Entry
number_entry n own = record { node = Number n; info = term_info 1 own }

abbrev pub opaque_entry : ℕ → ℕ → Entry
opaque_entry r own = record { node = Opaque r; info = term_info 1 own }

abbrev pub sum_entry : Found → ℕ → Entry
sum_entry f own = record { node = Multiple (once f.number); info = term_info f.info.sum own }

abbrev pub negated_entry : Found → ℕ → Entry
negated_entry f own = record { node = Multiple (taken_away f.number); info = term_info f.info.sum own }

abbrev pub difference_entry : Found → Found → ℕ → Entry
difference_entry f g own = record {
  node = Sum (once f.number) (taken_away g.number);
  info = term_info (min (f.info.sum + g.info.sum) limit_weight) own;
}

abbrev pub product_entry : ℕ → Factors → ℕ → ℕ → Entry
product_entry r (Constants n) w own = record { node = Number n; info = term_info w own }
product_entry r (Single p) w own = record { node = Multiple p; info = term_info w own }
product_entry r Many w own = opaque_entry r own

abbrev pub single_entry : Found → Entry
single_entry f = record { node = Multiple (once f.number); info = f.info }

abbrev pub pair_entry : Found → Found → Entry
pair_entry f g = record { node = Sum (once f.number) (once g.number); info = joined_info f.info g.info }

-- the entry of a leaf
abbrev pub leaf_entry : Leaf → ℕ → ℕ → Entry
leaf_entry (numeral n) r own = constant_entry n
leaf_entry (operator Op.Plus) r own = number_entry (pos 0) own
leaf_entry (operator Op.Minus) r own = number_entry (pos 0) own
leaf_entry (operator Op.Times) r own = number_entry (pos 1) own
leaf_entry l r own = opaque_entry r own

-- whether a leaf is a numeral
abbrev pub leaf_numeral : Leaf → Option ℤ
leaf_numeral (numeral n) = Some n
leaf_numeral l = None

-- what a leaf is as a head
abbrev pub head_of : Leaf → Head
head_of (operator Op.Plus) = Head.Plus
head_of (operator Op.Minus) = Head.Minus
head_of (operator Op.Times) = Head.Times
head_of l = Head.Other
