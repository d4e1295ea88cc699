-- What a visit meets: a leaf among the parts of its item, and nothing else.
use Rattle.std.proofs.Common.{◌≡◌, ◌≢◌, ◌⊎◌, inl, inr, ℕ, ◌<◌, ◌^◌, length, Option, Some, None, refl, sym, subst}
use Rattle.pair_pool.specs.Trees.{Tree, cell}
use Rattle.pair_pool.specs.Views.{Knows, IsOneToOne, HasPartsOfTrees}
use Rattle.sym_table.specs.Leaf.{Leaf}
use Rattle.sym_table.specs.Table.{Table, IsTable, LeafMeets}
use Rattle.term_model.specs.Terms.{no_terms, term}
use Rattle.term_pool.specs.Views.{TermsView, IsTerm}
use Rattle.linear_forms.specs.declared.entries.Entry.{Entry}
use Rattle.linear_forms.specs.declared.entries.Found.{Found}
use Rattle.linear_forms.specs.declared.graph.Graph.{Graph}
use Rattle.linear_forms.specs.declared.memory.Item.{Item}
use Rattle.linear_forms.specs.declared.memory.Item.TheVariants.{Term as TermItem, List as ListItem}
use Rattle.linear_forms.specs.Entries.{leaf_entry}
use Rattle.linear_forms.specs.Graphs.{IsItem, IsGraph, AddsEntry, IsItemBelow, MeetsTerm, MeetsParts, info_at}
use Rattle.linear_forms.specs.Memos.{number_remembered}
use Rattle.linear_forms.specs.Visits.{HasCellParts, IsListPart}
use Rattle.linear_forms.proofs.Graphing.{settled_graph, settled_found, settled_met, settled_grows}
use Rattle.linear_forms.proofs.Meaning.{list_is_cell, list_parts}
use Rattle.linear_forms.proofs.Visited.{parts_of, first_below, leaf_visited, deeper}
use Rattle.linear_forms.proofs.Walking.{same_item}

module _ (s : Table) (v : TermsView) where
  pub term_item : (r : ℕ) → IsTerm s v r → IsItem s v (TermItem r)
  term_item r h = record { terms = term h.means no_terms; meant = record { means = h.means; refers = h.refers; alone = refl } }

  -- a term that is below is met
  pub part_met : (old new : Graph) (x : Item) (r : ℕ) (found : Option Found) → MeetsTerm s v old new r found → IsItemBelow s v x (TermItem r) → MeetsParts s v old new x
  part_met old new x r found h under = record {
    graph = h.graph;
    keeps = λ y k e. (h.keeps y (record { number = k; info = info_at old k }) (e, refl)).0;
    grows = h.grows;
    below = λ y. go y (same_item y (TermItem r));
  }
    where
      go : (y : Item) → (y ≡ TermItem r) ⊎ (y ≢ TermItem r) → (number_remembered new.memo y ≡ number_remembered old.memo y) ⊎ IsItemBelow s v x y
      go y (inl same) = inr (subst (IsItemBelow s v x) (sym same) under)
      go y (inr other) = inl (h.others y other)

  module _ (table : IsTable s) (one : IsOneToOne v.pass) (parts : HasPartsOfTrees v.pass) where
    -- a leaf gets its number
    pub leaf_met : (old new : Graph) (r : ℕ) (entry : Entry) → IsGraph s v old → IsTerm s v r → r < 2 ^ 30 → number_remembered old.memo (TermItem r) ≡ None → LeafMeets s r (λ (l : Leaf). entry ≡ leaf_entry l r (length old.nodes.items)) → AddsEntry old new (TermItem r) entry → MeetsTerm s v old new r (Some (record { number = length old.nodes.items; info = entry.info }))
    leaf_met old new r entry right is low unmet meets settles =
        let item = term_item r is in
        let visit = leaf_visited s v old table one parts r entry low meets in
        record {
          graph = settled_graph s v old new (TermItem r) entry right item unmet visit settles;
          met = settled_found s v old new (TermItem r) entry right item unmet visit settles;
          keeps = settled_met s v old new (TermItem r) entry right item unmet visit settles;
          grows = settled_grows s v old new (TermItem r) entry right item unmet visit settles;
          others = settles.noted.others;
        }

    -- the first term of a list is met, or wants a visit of its own
    list_cell_parts : (list a b : ℕ) → IsItem s v (ListItem list) → ((x y : Tree) → Knows v.pass list (cell x y) → Knows v.pass a x) → ((x y : Tree) → Knows v.pass list (cell x y) → Knows v.pass b y) → HasCellParts v.pass list a b
    list_cell_parts list a b item = parts_of v.pass list a b (list_is_cell s v table one parts list item.terms item.meant)

    -- what stands first in it is a term
    pub first_is_term : (list a b : ℕ) → IsItem s v (ListItem list) → ((x y : Tree) → Knows v.pass list (cell x y) → Knows v.pass a x) → ((x y : Tree) → Knows v.pass list (cell x y) → Knows v.pass b y) → IsTerm s v a
    first_is_term list a b item first second =
        let p = list_parts s v table one parts list a b item.terms item.meant (list_cell_parts list a b item first second) in
        record { means = p.first; refers = p.one }

    pub list_met : (old new : Graph) (list a b : ℕ) (found : Option Found) → IsItem s v (ListItem list) → ((x y : Tree) → Knows v.pass list (cell x y) → Knows v.pass a x) → ((x y : Tree) → Knows v.pass list (cell x y) → Knows v.pass b y) → MeetsTerm s v old new a found → MeetsParts s v old new (ListItem list)
    list_met old new list a b found item first second h =
        part_met old new (ListItem list) a found h
        (first_below s v old table one parts list a b item.terms item.meant (list_cell_parts list a b item first second))

    pub first_unmet : (old new : Graph) (list a b : ℕ) → IsItem s v (ListItem list) → ((x y : Tree) → Knows v.pass list (cell x y) → Knows v.pass a x) → ((x y : Tree) → Knows v.pass list (cell x y) → Knows v.pass b y) → MeetsTerm s v old new a None → IsListPart v.pass new list (TermItem a)
    first_unmet old new list a b item first second h = record {
      first = a;
      rest = b;
      parts = list_cell_parts list a b item first second;
      item = inl refl;
      unmet = h.met;
    }

    -- what is met below a list is below its term
    pub parts_deeper : (old new : Graph) (r head list : ℕ) → HasCellParts v.pass r head list → MeetsParts s v old new (ListItem list) → MeetsParts s v old new (TermItem r)
    parts_deeper old new r head list cells h = record {
      graph = h.graph;
      keeps = h.keeps;
      grows = h.grows;
      below = λ y. elim (h.below y) [ inl same ↦ inl same | inr under ↦ inr (deeper s v old table one parts r list head y cells under) ];
    }
