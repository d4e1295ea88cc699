-- Public. How terms are printed where terms that stand more than once may have names: a term that is to have a name is given it
-- where it is printed first, and is printed by that name from then on.
use Rattle.std.specs.Prelude.{if◌then◌else◌, List, codes, decimal, find, Option, Some, None}
use Rattle.sexpr.specs.Items.{Item, word, list, Items, no_items, item}
use Rattle.sexpr.specs.Printed.{symbol_item}
use Rattle.term_model.specs.Terms.{Term, numeral, variable, operation, call, let_in, Terms, no_terms, term, Bindings, no_bindings, binding}
use Rattle.sym_table.specs.Words.{operator_symbol}
use Rattle.rule_model.specs.TermTests.{term_eq}
use Rattle.problem_text.specs.PrintedTerms.{applied_item, named_item}
use Rattle.problem_text.specs.Scripts.{Named, Script, with_let_name, with_named, with_term}
use Rattle.problem_text.specs.Words.{is_among}

-- the names that terms are to have
abbrev pub Plan : Type 0
Plan = List Named

abbrev pub planned : Plan → Term → Option Named
planned plan t = find (λ n. term_eq n.meant.tree t) plan

-- A printer's state is the script that what is printed so far is read to. It knows which names are given.
-- A term whose item is this, where it has no name or is to have one; and the state behind it, which is `inside` but for the name.
abbrev pub shared_as : Script → Option Named → Item → Item
shared_as s None whole = whole
shared_as s (Some n) whole = if is_among s.taken n.name then symbol_item n.name else named_item whole n.name

abbrev pub behind_as : Script → Option Named → Term → Script → Script
behind_as s None t inside = inside
behind_as s (Some n) t inside = if is_among s.taken n.name then with_term t s else with_named n inside

abbrev mutual
  -- how a term is printed in a state
  pub shared_item : Plan → Script → Term → Item
  shared_item plan s (numeral n) = word 0 (decimal n)
  shared_item plan s (variable x) = symbol_item x.name
  shared_item plan s (operation op ts) =
      shared_as s (planned plan (operation op ts)) (applied_item (operator_symbol op) (shared_items plan s ts))
  shared_item plan s (call f ts) = shared_as s (planned plan (call f ts)) (applied_item f.name (shared_items plan s ts))
  shared_item plan s (let_in bs t) =
      list 0 (item (word 0 (codes "let")) (item (list 0 (shared_pairs plan s bs)) (item (shared_item plan (behind_pairs plan s bs) t) no_items)))

  pub shared_items : Plan → Script → Terms → Items
  shared_items plan s no_terms = no_items
  shared_items plan s (term t ts) = item (shared_item plan s t) (shared_items plan (behind_term plan s t) ts)

  pub shared_pairs : Plan → Script → Bindings → Items
  shared_pairs plan s no_bindings = no_items
  shared_pairs plan s (binding x t bs) =
      item (list 0 (item (symbol_item x.name) (item (shared_item plan (with_let_name x.name s) t) no_items)))
      (shared_pairs plan (behind_term plan (with_let_name x.name s) t) bs)

  -- the state behind it
  pub behind_term : Plan → Script → Term → Script
  behind_term plan s (numeral n) = with_term (numeral n) s
  behind_term plan s (variable x) = with_term (variable x) s
  behind_term plan s (operation op ts) =
      behind_as s (planned plan (operation op ts)) (operation op ts) (with_term (operation op ts) (behind_terms plan s ts))
  behind_term plan s (call f ts) = behind_as s (planned plan (call f ts)) (call f ts) (with_term (call f ts) (behind_terms plan s ts))
  behind_term plan s (let_in bs t) = with_term (let_in bs t) (behind_term plan (behind_pairs plan s bs) t)

  pub behind_terms : Plan → Script → Terms → Script
  behind_terms plan s no_terms = s
  behind_terms plan s (term t ts) = behind_terms plan (behind_term plan s t) ts

  pub behind_pairs : Plan → Script → Bindings → Script
  behind_pairs plan s no_bindings = s
  behind_pairs plan s (binding x t bs) = behind_pairs plan (behind_term plan (with_let_name x.name s) t) bs
