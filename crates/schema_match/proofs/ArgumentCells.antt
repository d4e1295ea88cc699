-- Cited by crates above. The arguments of an application, read from the cells of their list.
use Rattle.std.proofs.Common.{◌≡◌, ℕ, ◌+◌, ◌<◌, ◌≤◌, List, [], ◌∷◌, ◌++◌, length, take, drop, get_or, sym, subst, arith, add-one, drop-cons}
use Rattle.std.proofs.lemmas.List.{take_more, take_all}
use Rattle.pair_pool.specs.Trees.{Tree, leaf, cell}
use Rattle.pair_pool.specs.Views.{Knows}
use Rattle.sym_table.specs.Table.{Table}
use Rattle.term_model.specs.Terms.{Term, numeral, variable, operation, call, let_in, term, no_terms, list_of, terms_of}
use Rattle.term_model.proofs.Lists.{terms_of-list_of}
use Rattle.term_pool.specs.Reading.{arguments_of}
use Rattle.term_pool.specs.StandsFor.{StandsFor, StandsForList}
use Rattle.term_pool.specs.Views.{TermsView, RefersTo, ReferToAll, IsKnownCell}
use Rattle.schema_match.specs.Arguments.{HasSoMany}
use Rattle.schema_match.specs.ArgumentCells.{IsListOf, IsSomeList}
use Rattle.schema_match.proofs.ReferLemmas.{refer_append}

-- the cell of a head and the list of some terms
record IsApplicationCell (s : Table) (v : TermsView) (r : ℕ) (ts : List Term) : Type 0 where
  head : Tree
  list : Tree
  known : Knows v.pass r (cell head list)
  stands : StandsForList s list (terms_of ts)

abbrev some_term : Term
some_term = numeral 0

-- so many arguments are read, and these are left
pub record IsReadTo (s : Table) (v : TermsView) (items : List ℕ) (rest i : ℕ) (ts : List Term) : Type 0 where
  pub done : ReferToAll s v items (take i ts)
  pub left : IsListOf s v rest (drop i ts)

module _ (s : Table) (v : TermsView) where
  -- the parts of a list
  pub list_cell : (r : ℕ) (t : Term) (ts : List Term) → IsListOf s v r (t ∷ ts) → IsKnownCell v.pass r
  list_cell r t ts h = go h.tree h.known h.stands
    where
      go : (tree : Tree) → Knows v.pass r tree → StandsForList s tree (term t (terms_of ts)) → IsKnownCell v.pass r
      go (leaf k) known stands = absurd stands
      go (cell a b) known stands = record { first = a; second = b; stands = known }

  pub first_refers : (r q : ℕ) (t : Term) (ts : List Term) → IsListOf s v r (t ∷ ts) → ((a b : Tree) → Knows v.pass r (cell a b) → Knows v.pass q a) → RefersTo s v q t
  first_refers r q t ts h first = go h.tree h.known h.stands
    where
      go : (tree : Tree) → Knows v.pass r tree → StandsForList s tree (term t (terms_of ts)) → RefersTo s v q t
      go (leaf k) known stands = absurd stands
      go (cell a b) known stands = record { tree = a; known = first a b known; stands = stands.0 }

  pub others_are : (r q : ℕ) (t : Term) (ts : List Term) → IsListOf s v r (t ∷ ts) → ((a b : Tree) → Knows v.pass r (cell a b) → Knows v.pass q b) → IsListOf s v q ts
  others_are r q t ts h second = go h.tree h.known h.stands
    where
      go : (tree : Tree) → Knows v.pass r tree → StandsForList s tree (term t (terms_of ts)) → IsListOf s v q ts
      go (leaf k) known stands = absurd stands
      go (cell a b) known stands = record { tree = b; known = second a b known; stands = stands.1 }

  -- an application to one argument or more is a cell
  application_cell : (r : ℕ) (t : Term) → RefersTo s v r t → 1 ≤ length (arguments_of t) → IsApplicationCell s v r (arguments_of t)
  application_cell r (numeral n) refers some = absurd (omega arith)
  application_cell r (variable x) refers some = absurd (omega arith)
  application_cell r (operation op no_terms) refers some = absurd (omega arith)
  application_cell r (operation op (term t ts)) refers some = go refers.tree refers.known refers.stands
    where
      go : (tree : Tree) → Knows v.pass r tree → StandsFor s tree (operation op (term t ts)) → IsApplicationCell s v r (t ∷ list_of ts)
      go (leaf k) known stands = absurd stands
      go (cell a b) known stands = record {
        head = a;
        list = b;
        known = known;
        stands = subst (StandsForList s b) (sym (terms_of-list_of (term t ts))) stands.1;
      }
  application_cell r (call f no_terms) refers some = absurd (omega arith)
  application_cell r (call f (term t ts)) refers some = go refers.tree refers.known refers.stands
    where
      go : (tree : Tree) → Knows v.pass r tree → StandsFor s tree (call f (term t ts)) → IsApplicationCell s v r (t ∷ list_of ts)
      go (leaf k) known stands = absurd stands
      go (cell a b) known stands = record {
        head = a;
        list = b;
        known = known;
        stands = subst (StandsForList s b) (sym (terms_of-list_of (term t ts))) stands.1;
      }
  application_cell r (let_in bs u) refers some = absurd (omega arith)

  -- nothing is read yet
  pub read_none : (r rest n : ℕ) (items : List ℕ) (t : Term) → 1 ≤ n → items ≡ [] → ((a b : Tree) → Knows v.pass r (cell a b) → Knows v.pass rest b) → RefersTo s v r t → length (arguments_of t) ≡ n → IsReadTo s v items rest 0 (arguments_of t)
  read_none r rest n items t some empty second refers count =
      let is = application_cell r t refers (omega (arith, some, count)) in
      record {
        done = subst (λ rs. ReferToAll s v rs []) (sym empty) tt;
        left = record { tree = is.list; known = second is.head is.list is.known; stands = is.stands };
      }

  next_is : (rest i : ℕ) (ts : List Term) → i < length ts → IsListOf s v rest (drop i ts) → IsListOf s v rest (get_or ts i some_term ∷ drop (i + 1) ts)
  next_is rest i ts below h = subst (IsListOf s v rest) (rw (add-one) (drop-cons ts i some_term below)) h

  pub read_more : (items new : List ℕ) (rest first next i : ℕ) (ts : List Term) → i < length ts → new ≡ items ++ first ∷ [] → ((t : Term) (us : List Term) → IsListOf s v rest (t ∷ us) → RefersTo s v first t) → ((t : Term) (us : List Term) → IsListOf s v rest (t ∷ us) → IsListOf s v next us) → IsReadTo s v items rest i ts → IsReadTo s v new next (i + 1) ts
  read_more items new rest first next i ts below is item others h =
      let list = next_is rest i ts below h.left in
      record {
        done = rw (is, take_more ts i some_term below) (refer_append s v items (first ∷ []) (take i ts) (get_or ts i some_term ∷ []) h.done (item _ _ list, tt));
        left = others _ _ list;
      }

  pub read_all : (items : List ℕ) (rest i n : ℕ) (ts : List Term) → n ≤ i → length ts ≡ n → IsReadTo s v items rest i ts → ReferToAll s v items ts
  read_all items rest i n ts end count h =
      subst (ReferToAll s v items) (take_all i ts (omega (arith, end, count))) h.done

-- an application that has so many arguments, one or more, is a cell
pub many_cell : (v : TermsView) (r n : ℕ) → 1 ≤ n → HasSoMany v r n → IsKnownCell v.pass r
many_cell v r n some h =
    let count = h.many in
    let is = application_cell h.symbols v r h.means h.refers (omega (arith, some, count)) in
    record { first = is.head; second = is.list; stands = is.known }

-- a list of which not all is read
pub some_list : (v : TermsView) (r rest i n : ℕ) (items : List ℕ) → i < n → HasSoMany v r n → ((s : Table) (t : Term) → RefersTo s v r t → length (arguments_of t) ≡ n → IsReadTo s v items rest i (arguments_of t)) → IsSomeList v rest
some_list v r rest i n items below h read =
    let count = h.many in record {
      symbols = h.symbols;
      first = get_or (arguments_of h.means) i some_term;
      others = drop (i + 1) (arguments_of h.means);
      list = next_is h.symbols v rest i (arguments_of h.means) (omega (arith, below, count)) (read h.symbols h.means h.refers count).left;
    }
