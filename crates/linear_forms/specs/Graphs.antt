-- Private. Terms and lists of terms as numbered nodes: what has been met, and what is known of it.
use Rattle.std.specs.Prelude.{◌≡◌, ◌≢◌, ◌⊎◌, ℕ, ℤ, ◌+◌, ◌*◌, ◌<◌, ◌≤◌, ◌^◌, ◌+ℤ◌, ◌*ℤ◌, min, unsigned_abs, [], ◌∷◌, ◌++◌, length, slice_index_or, Option}
use Rattle.std.specs.Prelude.{Some, None}
use Rattle.pair_pool.specs.Trees.{Tree}
use Rattle.pair_pool.specs.Views.{Knows}
use Rattle.sym_table.specs.Table.{Table}
use Rattle.term_model.specs.Terms.{Term, Terms, no_terms, term}
use Rattle.term_pool.specs.StandsFor.{StandsForList}
use Rattle.term_pool.specs.Trees.{depth}
use Rattle.term_pool.specs.Views.{TermsView, RefersTo}
use Rattle.rule_model.specs.LinearForms.{others}
use Rattle.rule_model.specs.Weights.{weight_sum, weight_product}
use Rattle.linear_forms.specs.declared.graph.Graph.{Graph}
use Rattle.linear_forms.specs.declared.memory.Item.{Item}
use Rattle.linear_forms.specs.declared.memory.Item.TheVariants.{Term as TermItem, List as ListItem}
use Rattle.linear_forms.specs.declared.nodes.Part.{Part}
use Rattle.linear_forms.specs.declared.nodes.Node.{Node}
use Rattle.linear_forms.specs.declared.nodes.Node.TheVariants.{Number, Opaque, Multiple, Sum}
use Rattle.linear_forms.specs.declared.nodes.Factors.{Factors}
use Rattle.linear_forms.specs.declared.nodes.Factors.TheVariants.{Constants, Single, Many}
use Rattle.linear_forms.specs.declared.nodes.Info.{Info}
use Rattle.linear_forms.specs.declared.entries.Entry.{Entry}
use Rattle.linear_forms.specs.declared.entries.Found.{Found}
use Rattle.linear_forms.specs.declared.visiting.Visit.{Visit}
use Rattle.linear_forms.specs.Factors.{IsAbove}
use Rattle.linear_forms.specs.Infos.{limit_weight}
use Rattle.linear_forms.specs.Memos.{number_remembered, RemembersItem}
use Rattle.linear_forms.specs.Readings.{FormReading, unit_of, opaque_in, sum_in, product_in}
use Rattle.linear_forms.specs.Sweeps.{node_at}

abbrev pub item_reference : Item → ℕ
item_reference (TermItem r) = r
item_reference (ListItem r) = r

abbrev pub AreSome : Terms → Type 0
AreSome no_terms = ⊥
AreSome (term t ts) = Unit {0}

-- the reference stands for a term, which is this list's one term
pub record IsOneTerm (s : Table) (v : TermsView) (r : ℕ) (ts : Terms) : Type 0 where
  pub means : Term
  pub refers : RefersTo s v r means
  pub alone : ts ≡ term means no_terms

-- the reference stands for a list of one term or more
pub record IsTermList (s : Table) (v : TermsView) (r : ℕ) (ts : Terms) : Type 0 where
  pub tree : Tree
  pub known : Knows v.pass r tree
  pub stands : StandsForList s tree ts
  pub filled : AreSome ts

abbrev pub IsItemMeant : Table → TermsView → Item → Terms → Type 0
IsItemMeant s v (TermItem r) ts = IsOneTerm s v r ts
IsItemMeant s v (ListItem r) ts = IsTermList s v r ts

pub record IsItem (s : Table) (v : TermsView) (x : Item) : Type 0 where
  pub terms : Terms
  pub meant : IsItemMeant s v x terms

-- a node is what the terms of its number are, in both readings of a form, and weighs no less than its parts
pub record IsNumberNode (at : ℕ → Terms) (ts : Terms) (n : ℤ) : Type 0 where
  pub counts : (reading : FormReading) → sum_in reading ts ≡ n *ℤ unit_of reading
  pub weighs : unsigned_abs n ≤ weight_sum ts

pub record IsOpaqueNode (s : Table) (v : TermsView) (ts : Terms) (r : ℕ) : Type 0 where
  pub one : IsOneTerm s v r ts
  pub counts : (reading : FormReading) → sum_in reading ts ≡ opaque_in reading one.means

pub record IsMultipleNode (at : ℕ → Terms) (ts : Terms) (p : Part) : Type 0 where
  pub counts : (reading : FormReading) → sum_in reading ts ≡ p.times *ℤ sum_in reading (at p.node)
  pub weighs : unsigned_abs p.times * weight_sum (at p.node) ≤ weight_sum ts

pub record IsSumNode (at : ℕ → Terms) (ts : Terms) (p q : Part) : Type 0 where
  pub counts :
      (reading : FormReading) → sum_in reading ts ≡ p.times *ℤ sum_in reading (at p.node) +ℤ q.times *ℤ sum_in reading (at q.node)
  pub weighs : unsigned_abs p.times * weight_sum (at p.node) + unsigned_abs q.times * weight_sum (at q.node) ≤ weight_sum ts

abbrev pub IsNode : Table → TermsView → (ℕ → Terms) → Terms → Node → Type 0
IsNode s v at ts (Number n) = IsNumberNode at ts n
IsNode s v at ts (Opaque r) = IsOpaqueNode s v ts r
IsNode s v at ts (Multiple p) = IsMultipleNode at ts p
IsNode s v at ts (Sum p q) = IsSumNode at ts p q

-- terms as factors: constants alone, one that is none, or more
pub record AreConstants (ts : Terms) (n : ℤ) : Type 0 where
  pub others_are : others ts ≡ 0
  pub counts : weight_product ts < 2 ^ 127 → (reading : FormReading) → product_in reading ts ≡ n *ℤ unit_of reading
  pub weighs : weight_product ts < 2 ^ 127 → unsigned_abs n ≤ weight_product ts

pub record HasSingle (at : ℕ → Terms) (k : ℕ) (ts : Terms) (p : Part) : Type 0 where
  pub others_are : others ts ≡ 1
  pub low : p.node ≤ k
  pub counts : weight_product ts < 2 ^ 127 → (reading : FormReading) → product_in reading ts ≡ p.times *ℤ sum_in reading (at p.node)
  pub weighs : weight_product ts < 2 ^ 127 → unsigned_abs p.times * weight_sum (at p.node) ≤ weight_product ts

abbrev pub AreFactors : (ℕ → Terms) → ℕ → Terms → Factors → Type 0
AreFactors at k ts (Constants n) = AreConstants ts n
AreFactors at k ts (Single p) = HasSingle at k ts p
AreFactors at k ts Many = 2 ≤ others ts

pub record IsInfo (at : ℕ → Terms) (k : ℕ) (ts : Terms) (info : Info) : Type 0 where
  pub sum_is : info.sum ≡ min (weight_sum ts) limit_weight
  pub product_is : info.product ≡ min (weight_product ts) limit_weight
  pub factors_are : AreFactors at k ts info.factors

-- an opaque node is that of its own term
abbrev pub IsOwn : Item → Node → Type 0
IsOwn x node = (r : ℕ) → node ≡ Opaque r → x ≡ TermItem r

-- the entry k, of an item whose terms are these
pub record IsEntry (s : Table) (v : TermsView) (at : ℕ → Terms) (k : ℕ) (x : Item) (entry : Entry) : Type 0 where
  pub above : IsAbove k entry.node
  pub right : weight_sum (at k) < 2 ^ 127 → IsNode s v at (at k) entry.node
  pub known : IsInfo at k (at k) entry.info
  pub own : IsOwn x entry.node

abbrev pub no_info : Info
no_info = record { sum = 0; product = 0; factors = Many }

abbrev pub info_at : Graph → ℕ → Info
info_at graph k = slice_index_or graph.infos.items k no_info

-- the graph is right where its nodes are those of these terms
pub record IsGraphAt (s : Table) (v : TermsView) (graph : Graph) (at : ℕ → Terms) : Type 0 where
  pub long : length graph.infos.items ≡ length graph.nodes.items
  pub filled : (k : ℕ) → AreSome (at k)
  pub above : (k : ℕ) → k < length graph.nodes.items → IsAbove k (node_at graph.nodes.items k)
  pub right :
      (k : ℕ) → k < length graph.nodes.items → weight_sum (at k) < 2 ^ 127 → IsNode s v at (at k) (node_at graph.nodes.items k)
  pub known : (k : ℕ) → k < length graph.nodes.items → IsInfo at k (at k) (info_at graph k)
  pub there : (x : Item) (k : ℕ) → number_remembered graph.memo x ≡ Some k → k < length graph.nodes.items
  pub meant : (x : Item) (k : ℕ) → number_remembered graph.memo x ≡ Some k → IsItemMeant s v x (at k)
  pub own : (k r : ℕ) → node_at graph.nodes.items k ≡ Opaque r → number_remembered graph.memo (TermItem r) ≡ Some k

pub record IsGraph (s : Table) (v : TermsView) (graph : Graph) : Type 0 where
  pub at : ℕ → Terms
  pub right : IsGraphAt s v graph at

-- each number that is remembered has what is known of it
abbrev pub HasInfos : Graph → Type 0
HasInfos graph = (x : Item) (k : ℕ) → number_remembered graph.memo x ≡ Some k → k < length graph.infos.items

-- what has been met of an item
abbrev pub IsMetItem : Graph → Item → Option Found → Type 0
IsMetItem graph x None = number_remembered graph.memo x ≡ None
IsMetItem graph x (Some f) = (number_remembered graph.memo x ≡ Some f.number) × (f.info ≡ info_at graph f.number)

-- one entry more
pub record AddsEntry (old new : Graph) (x : Item) (entry : Entry) : Type 0 where
  pub noted : RemembersItem old.memo new.memo x (length old.nodes.items)
  pub nodes : new.nodes.items ≡ old.nodes.items ++ entry.node ∷ []
  pub infos : new.infos.items ≡ old.infos.items ++ entry.info ∷ []

-- numbers stay
abbrev pub KeepsNumbers : Graph → Graph → Type 0
KeepsNumbers old new = (x : Item) (k : ℕ) → number_remembered old.memo x ≡ Some k → number_remembered new.memo x ≡ Some k

-- what has been met stays so
abbrev pub KeepsMet : Graph → Graph → Type 0
KeepsMet old new = (x : Item) (f : Found) → IsMetItem old x (Some f) → IsMetItem new x (Some f)

-- a term has been met, or it is no leaf; and of others nothing is met that was not
pub record MeetsTerm (s : Table) (v : TermsView) (old new : Graph) (r : ℕ) (found : Option Found) : Type 0 where
  pub graph : IsGraph s v new
  pub met : IsMetItem new (TermItem r) found
  pub keeps : KeepsMet old new
  pub grows : length old.nodes.items ≤ length new.nodes.items
  pub others : (y : Item) → y ≢ TermItem r → number_remembered new.memo y ≡ number_remembered old.memo y

-- y is an item, less deep than x
pub record IsItemBelow (s : Table) (v : TermsView) (x y : Item) : Type 0 where
  pub item : IsItem s v y
  pub less : (a b : Tree) → Knows v.pass (item_reference x) a → Knows v.pass (item_reference y) b → depth b < depth a

-- nothing but parts of x is met that was not
pub record MeetsParts (s : Table) (v : TermsView) (old new : Graph) (x : Item) : Type 0 where
  pub graph : IsGraph s v new
  pub keeps : KeepsNumbers old new
  pub grows : length old.nodes.items ≤ length new.nodes.items
  pub below : (y : Item) → (number_remembered new.memo y ≡ number_remembered old.memo y) ⊎ IsItemBelow s v x y

-- a visit has found a part that has not been met, or the entry of the item
abbrev pub IsVisitOfItem : Table → TermsView → Graph → Item → Visit → Type 0
IsVisitOfItem s v graph x (Visit.Part y) = IsItemBelow s v x y × (number_remembered graph.memo y ≡ None)
IsVisitOfItem s v graph x (Visit.Done entry) =
    (at : ℕ → Terms) → IsGraphAt s v graph at → IsItemMeant s v x (at (length graph.nodes.items)) →
    IsEntry s v at (length graph.nodes.items) x entry

abbrev pub IsRemembered : Graph → Item → ℕ → Type 0
IsRemembered graph x k = number_remembered graph.memo x ≡ Some k
