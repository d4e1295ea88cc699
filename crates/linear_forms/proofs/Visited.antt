-- What visits of terms and of lists come to.
use Rattle.std.proofs.Common.{unsigned_abs, ◌≡◌, inl, inr, ℕ, ◌<◌, ◌≤◌, ◌^◌, pos, neg_ℤ, min, Some, length, refl, sym, ap, ◌∙◌, subst, arith}
use Rattle.pair_pool.specs.Trees.{Tree, cell, depth}
use Rattle.pair_pool.specs.Views.{PassView, Knows, IsOneToOne, HasPartsOfTrees}
use Rattle.sym_table.specs.Leaf.{Leaf}
use Rattle.sym_table.specs.Table.{Table, IsTable, LeafMeets}
use Rattle.term_model.specs.declared.symbols.Op.{Op}
use Rattle.term_model.specs.Terms.{Term, numeral, operation, Terms, no_terms, term}
use Rattle.term_pool.specs.Views.{TermsView, RefersTo, IsKnownCell}
use Rattle.rule_model.specs.Weights.{weight_sum, weight_product}
use Rattle.linear_forms.specs.declared.entries.Entry.{Entry}
use Rattle.linear_forms.specs.declared.entries.Found.{Found}
use Rattle.linear_forms.specs.declared.entries.Head.{Head}
use Rattle.linear_forms.specs.declared.graph.Graph.{Graph}
use Rattle.linear_forms.specs.declared.memory.Item.{Item}
use Rattle.linear_forms.specs.declared.memory.Item.TheVariants.{Term as TermItem, List as ListItem}
use Rattle.linear_forms.specs.declared.nodes.Factors.{Factors}
use Rattle.linear_forms.specs.declared.nodes.Factors.TheVariants.{Constants, Single, Many}
use Rattle.linear_forms.specs.declared.visiting.Visit.{Visit}
use Rattle.linear_forms.specs.Entries.{leaf_entry, head_of, opaque_entry, sum_entry, product_entry, constant_entry}
use Rattle.linear_forms.specs.Graphs.{AreSome, IsTermList, IsItemMeant, IsItem, AreFactors, IsInfo, IsEntry, info_at, IsGraphAt, IsGraph, HasInfos, IsMetItem, IsItemBelow, IsVisitOfItem}
use Rattle.linear_forms.specs.Infos.{limit_weight, size_of}
use Rattle.linear_forms.specs.Visits.{HasCellParts, IsListPart, IsListVisit, IsWholeVisit, HasNumeralLeaf, IsDifferenceVisit, AreJoinable}
use Rattle.linear_forms.proofs.Entering.{IsMet, constant_right, opaque_right, sum_right, negated_right, difference_right, product_right, single_right, pair_right, negated_constant}
use Rattle.linear_forms.proofs.Meaning.{meant_one, list_parts, plus_cell, minus_cell, times_cell, other_cell, leaf_right, leaf_there, is_numeral, no_numeral, head_there}
use Rattle.linear_forms.proofs.Passing.{times_le}
use Rattle.linear_forms.proofs.Weighing.{sum_positive, product_positive, below_min}

-- the parts of a cell
pub parts_of : (p : PassView) (r a b : ℕ) → IsKnownCell p r → ((s t : Tree) → Knows p r (cell s t) → Knows p a s) → ((s t : Tree) → Knows p r (cell s t) → Knows p b t) → HasCellParts p r a b
parts_of p r a b h first second = record {
  first = h.first;
  second = h.second;
  whole = h.stands;
  first_known = first h.first h.second h.stands;
  second_known = second h.first h.second h.stands;
}

-- a list's number is at most its weight
size_bound : (at : ℕ → Terms) (k : ℕ) (ts : Terms) (w : ℕ) (f : Factors) → ((k : ℕ) → AreSome (at k)) → w ≡ min (weight_product ts) limit_weight → AreFactors at k ts f → w < 2 ^ 127 → size_of f ≤ w
size_bound at k ts w (Constants n) filled e h narrow = omega (arith, h.weighs (below_min (weight_product ts) (omega (arith, e, narrow))), e, narrow)
size_bound at k ts w (Single p) filled e h narrow =
    omega (
      arith,
      h.weighs (below_min (weight_product ts) (omega (arith, e, narrow))),
      times_le (unsigned_abs p.times) 1 (weight_sum (at p.node)) (sum_positive (at p.node) (filled p.node)),
      e,
      narrow,
    )
size_bound at k ts w Many filled e h narrow = omega arith

known_positive : (at : ℕ → Terms) (k : ℕ) (ts : Terms) (w : ℕ) → w ≡ min (weight_product ts) limit_weight → 1 ≤ w
known_positive at k ts w e = omega (arith, e, product_positive ts)

pub graph_infos : (s : Table) (v : TermsView) (graph : Graph) → IsGraph s v graph → HasInfos graph
graph_infos s v graph h x k e = omega (arith, h.right.there x k e, h.right.long)

pub graph_joinable : (s : Table) (v : TermsView) (graph : Graph) → IsGraph s v graph → AreJoinable graph
graph_joinable s v graph h x y f g a b =
    let one = subst (IsInfo h.at f.number (h.at f.number)) (sym a.1) (h.right.known f.number (h.right.there x f.number a.0)) in
    let other = subst (IsInfo h.at g.number (h.at g.number)) (sym b.1) (h.right.known g.number (h.right.there y g.number b.0)) in
    record {
      one = size_bound h.at f.number (h.at f.number) f.info.product f.info.factors h.right.filled one.product_is one.factors_are;
      other = size_bound h.at g.number (h.at g.number) g.info.product g.info.factors h.right.filled other.product_is other.factors_are;
      one_positive = known_positive h.at f.number (h.at f.number) f.info.product one.product_is;
      other_positive = known_positive h.at g.number (h.at g.number) g.info.product other.product_is;
    }

module _ (s : Table) (v : TermsView) (graph : Graph) (table : IsTable s) (one : IsOneToOne v.pass) (parts : HasPartsOfTrees v.pass) where
  -- what has been met
  found_met : (at : ℕ → Terms) (x : Item) (ts : Terms) (f : Found) → IsGraphAt s v graph at → IsMetItem graph x (Some f) → IsItemMeant s v x ts → IsMet at (length graph.nodes.items) ts f
  found_met at x ts f right found meant =
      let here = right.there x f.number found.0 in
      let same : at f.number ≡ ts = meant_one s v table one parts x (at f.number) ts (right.meant x f.number found.0) meant in
      record {
        below = here;
        terms_are = same;
        known = subst (λ i. IsInfo at f.number ts i) (sym found.1) (subst (λ z. IsInfo at f.number z (info_at graph f.number)) same (right.known f.number here));
      }

  one_meant : (a : ℕ) (t : Term) → RefersTo s v a t → IsItemMeant s v (TermItem a) (term t no_terms)
  one_meant a t h = record { means = t; refers = h; alone = refl }

  -- parts are less deep
  first_less : (r a b : ℕ) → HasCellParts v.pass r a b → (x y : Tree) → Knows v.pass r x → Knows v.pass a y → depth y < depth x
  first_less r a b p x y known part =
      let e = one.one_tree r x (cell p.first p.second) known p.whole in
      let f = one.one_tree a y p.first part p.first_known in
      rw (e, f) (omega arith)

  second_less : (r a b : ℕ) → HasCellParts v.pass r a b → (x y : Tree) → Knows v.pass r x → Knows v.pass b y → depth y < depth x
  second_less r a b p x y known part =
      let e = one.one_tree r x (cell p.first p.second) known p.whole in
      let f = one.one_tree b y p.second part p.second_known in
      rw (e, f) (omega arith)

  -- a part of a list that has not been met
  part_below : (list : ℕ) (ts : Terms) (y : Item) → IsTermList s v list ts → IsListPart v.pass graph list y → IsItemBelow s v (ListItem list) y
  part_below list ts y h part =
      let p = list_parts s v table one parts list part.first part.rest ts h part.parts in
      elim part.item [
        | inl e ↦ subst (IsItemBelow s v (ListItem list)) (sym e) (record { item = record { terms = term p.first no_terms; meant = one_meant part.first p.first p.one }; less = first_less list part.first part.rest part.parts })
        | inr e ↦ subst (IsItemBelow s v (ListItem list)) (sym e.0) (record { item = record { terms = p.rest; meant = p.more e.1 }; less = second_less list part.first part.rest part.parts })
      ]

  pub first_below : (list a b : ℕ) (ts : Terms) → IsTermList s v list ts → HasCellParts v.pass list a b → IsItemBelow s v (ListItem list) (TermItem a)
  first_below list a b ts h inner =
      let p = list_parts s v table one parts list a b ts h inner in
      record { item = record { terms = term p.first no_terms; meant = one_meant a p.first p.one }; less = first_less list a b inner }

  pub deeper : (r list head : ℕ) (y : Item) → HasCellParts v.pass r head list → IsItemBelow s v (ListItem list) y → IsItemBelow s v (TermItem r) y
  deeper r list head y p h = record {
    item = h.item;
    less = λ x z known part.
        let a = second_less r head list p x p.second known p.second_known in
        let b = h.less p.second z p.second_known part in
        omega (arith, a, b);
  }

  list_below : (r list head : ℕ) (ts : Terms) → HasCellParts v.pass r head list → IsTermList s v list ts → IsItemBelow s v (TermItem r) (ListItem list)
  list_below r list head ts p h = record { item = record { terms = ts; meant = h }; less = second_less r head list p }

  -- lists
  pub list_visited : (list : ℕ) (ts : Terms) (visit : Visit) → IsTermList s v list ts → IsListVisit v.pass graph list visit → IsVisitOfItem s v graph (ListItem list) visit
  list_visited list ts (Visit.Part y) h part = (part_below list ts y h part, part.unmet)
  list_visited list ts (Visit.Done entry) h (inl (first, f, single, is)) =
      λ at right meant.
      let own = length graph.nodes.items in
      let p = list_parts s v table one parts list first single.rest (at own) meant single.parts in
      let whole : at own ≡ term p.first no_terms = p.whole ∙ ap (λ us. term p.first us) (p.last single.last) in
      subst (IsEntry s v at own (ListItem list)) (sym is)
      (single_right s v at own list p.first f whole (found_met at (TermItem first) (term p.first no_terms) f right single.found (one_meant first p.first p.one)))
  list_visited list ts (Visit.Done entry) h (inr (f, g, more, is)) =
      λ at right meant.
      let own = length graph.nodes.items in
      let p = list_parts s v table one parts list more.first more.rest (at own) meant more.parts in
      subst (IsEntry s v at own (ListItem list)) (sym is)
      (pair_right s v at own list p.first p.rest f g p.whole
      (found_met at (TermItem more.first) (term p.first no_terms) f right more.one (one_meant more.first p.first p.one))
      (found_met at (ListItem more.rest) p.rest g right more.others (p.more more.more)))

  -- terms
  pub leaf_visited : (r : ℕ) (entry : Entry) → r < 2 ^ 30 → LeafMeets s r (λ (l : Leaf). entry ≡ leaf_entry l r (length graph.nodes.items)) → IsVisitOfItem s v graph (TermItem r) (Visit.Done entry)
  leaf_visited r entry low meets at right meant =
      leaf_right s v table one parts at (length graph.nodes.items) r entry meets meant.means meant.alone meant.refers low

  module _ (r head list : ℕ) (t : Term) (refers : RefersTo s v r t) (cells : HasCellParts v.pass r head list) where
    pub plus_visited : (visit : Visit) → LeafMeets s head (λ (l : Leaf). Head.Plus ≡ head_of l) → IsWholeVisit graph list (λ f own. sum_entry f own) visit → IsVisitOfItem s v graph (TermItem r) visit
    plus_visited (Visit.Part y) meets h =
        let o = plus_cell s v table one parts r head list t refers cells meets in
        (subst (IsItemBelow s v (TermItem r)) (sym h.0) (list_below r list head o.arguments cells o.list), h.1)
    plus_visited (Visit.Done entry) meets (f, found, is) =
        λ at right meant.
        let own = length graph.nodes.items in
        let o = plus_cell s v table one parts r head list meant.means meant.refers cells meets in
        subst (IsEntry s v at own (TermItem r)) (sym is)
        (sum_right s v at own meant.means meant.alone (TermItem r) o.arguments f o.is o.list.filled (found_met at (ListItem list) o.arguments f right found o.list))

    pub times_visited : (visit : Visit) → LeafMeets s head (λ (l : Leaf). Head.Times ≡ head_of l) → IsWholeVisit graph list (λ f own. product_entry r f.info.factors f.info.product own) visit → IsVisitOfItem s v graph (TermItem r) visit
    times_visited (Visit.Part y) meets h =
        let o = times_cell s v table one parts r head list t refers cells meets in
        (subst (IsItemBelow s v (TermItem r)) (sym h.0) (list_below r list head o.arguments cells o.list), h.1)
    times_visited (Visit.Done entry) meets (f, found, is) =
        λ at right meant.
        let own = length graph.nodes.items in
        let o = times_cell s v table one parts r head list meant.means meant.refers cells meets in
        subst (IsEntry s v at own (TermItem r)) (sym is)
        (product_right s v at own meant.means meant.alone r o.arguments f o.is meant.refers (found_met at (ListItem list) o.arguments f right found o.list))

    pub other_visited : (entry : Entry) → LeafMeets s head (λ (l : Leaf). Head.Other ≡ head_of l) → entry ≡ opaque_entry r (length graph.nodes.items) → IsVisitOfItem s v graph (TermItem r) (Visit.Done entry)
    other_visited entry meets is = λ at right meant.
        let own = length graph.nodes.items in
        subst (IsEntry s v at own (TermItem r)) (sym is)
        (opaque_right s v at own meant.means meant.alone r (other_cell s v table one parts r head list meant.means meant.refers cells meets) meant.refers)

    pub minus_visited : (visit : Visit) → LeafMeets s head (λ (l : Leaf). Head.Minus ≡ head_of l) → IsDifferenceVisit s v.pass graph list visit → IsVisitOfItem s v graph (TermItem r) visit
    minus_visited (Visit.Part y) meets part =
        let o = minus_cell s v table one parts r head list t refers cells meets in
        (deeper r list head y cells (part_below list o.arguments y o.list part), part.unmet)
    minus_visited (Visit.Done entry) meets (inl h) =
        λ at right meant.
        let own = length graph.nodes.items in
        let o = minus_cell s v table one parts r head list meant.means meant.refers cells meets in
        let p = list_parts s v table one parts list h.first h.one.rest o.arguments o.list h.one.parts in
        let alone : o.arguments ≡ term p.first no_terms = p.whole ∙ ap (λ us. term p.first us) (p.last h.one.last) in
        let is : meant.means ≡ operation Op.Minus (term p.first no_terms) = o.is ∙ ap (operation Op.Minus) alone in
        elim h.entry_is [
          | inl n ↦ (
              let m = is_numeral s v table one parts h.first p.first n.0 p.one n.1 in
              let same : meant.means ≡ operation Op.Minus (term (numeral m.0) no_terms) = is ∙ ap (λ u. operation Op.Minus (term u no_terms)) m.1 in
              subst (IsEntry s v at own (TermItem r)) (sym (n.2 ∙ ap (λ z. constant_entry (neg_ℤ z)) m.2))
              (constant_right s v at own (operation Op.Minus (term (numeral m.0) no_terms)) (meant.alone ∙ ap (λ u. term u no_terms) same) (TermItem r) (neg_ℤ (pos m.0)) (negated_constant m.0))
              )
          | inr n ↦ (
              subst (IsEntry s v at own (TermItem r)) (sym n.1)
              (negated_right s v at own meant.means meant.alone (TermItem r) p.first h.found is
              (no_numeral s v table one parts h.first p.first p.one n.0)
              (found_met at (TermItem h.first) (term p.first no_terms) h.found right h.one.found (one_meant h.first p.first p.one)))
              )
        ]
    minus_visited (Visit.Done entry) meets (inr (f, g, more, entry_is)) =
        λ at right meant.
        let own = length graph.nodes.items in
        let o = minus_cell s v table one parts r head list meant.means meant.refers cells meets in
        let p = list_parts s v table one parts list more.first more.rest o.arguments o.list more.parts in
        let rest = p.more more.more in
        subst (IsEntry s v at own (TermItem r)) (sym entry_is)
        (difference_right s v at own meant.means meant.alone (TermItem r) p.first p.rest f g (o.is ∙ ap (operation Op.Minus) p.whole) rest.filled
        (found_met at (TermItem more.first) (term p.first no_terms) f right more.one (one_meant more.first p.first p.one))
        (found_met at (ListItem more.rest) p.rest g right more.others rest))

    pub minus_list : LeafMeets s head (λ (l : Leaf). Head.Minus ≡ head_of l) → IsItem s v (ListItem list)
    minus_list meets =
        let o = minus_cell s v table one parts r head list t refers cells meets in
        record { terms = o.arguments; meant = o.list }

    pub minus_numeral : LeafMeets s head (λ (l : Leaf). Head.Minus ≡ head_of l) → HasNumeralLeaf s v.pass list
    minus_numeral meets a b inner low =
        let o = minus_cell s v table one parts r head list t refers cells meets in
        let p = list_parts s v table one parts list a b o.arguments o.list inner in
        leaf_there s v table one parts a p.first p.one low

    pub head_known : head < length s.leaves
    head_known = head_there s v table one parts r head list t refers cells
