-- Private. What visits of terms and of lists come to, by what has been met.
use Rattle.std.specs.Prelude.{◌≡◌, ◌⊎◌, ℕ, ℤ, neg_ℤ, ◌<◌, ◌≤◌, ◌^◌, length, Option, Some, None}
use Rattle.pair_pool.specs.Trees.{Tree, cell}
use Rattle.pair_pool.specs.Views.{PassView, Knows}
use Rattle.sym_table.specs.Leaf.{Leaf}
use Rattle.sym_table.specs.Table.{Table, LeafMeets}
use Rattle.linear_forms.specs.declared.graph.Graph.{Graph}
use Rattle.linear_forms.specs.declared.memory.Item.{Item}
use Rattle.linear_forms.specs.declared.memory.Item.TheVariants.{Term as TermItem, List as ListItem}
use Rattle.linear_forms.specs.declared.entries.Entry.{Entry}
use Rattle.linear_forms.specs.declared.entries.Found.{Found}
use Rattle.linear_forms.specs.declared.visiting.Visit.{Visit}
use Rattle.linear_forms.specs.declared.visiting.Listed.{Listed}
use Rattle.linear_forms.specs.Entries.{constant_entry, negated_entry, difference_entry, single_entry, pair_entry, leaf_numeral}
use Rattle.linear_forms.specs.Graphs.{IsMetItem}
use Rattle.linear_forms.specs.Infos.{CanJoin}
use Rattle.linear_forms.specs.Memos.{number_remembered}

-- the cell r has the parts a and b
pub record HasCellParts (p : PassView) (r a b : ℕ) : Type 0 where
  pub first : Tree
  pub second : Tree
  pub whole : Knows p r (cell first second)
  pub first_known : Knows p a first
  pub second_known : Knows p b second

-- a part of a list that has not been met
pub record IsListPart (p : PassView) (graph : Graph) (list : ℕ) (y : Item) : Type 0 where
  pub first : ℕ
  pub rest : ℕ
  pub parts : HasCellParts p list first rest
  pub item : (y ≡ TermItem first) ⊎ ((y ≡ ListItem rest) × (2 ^ 30 ≤ rest))
  pub unmet : number_remembered graph.memo y ≡ None

-- a list of one term
pub record IsOneItem (p : PassView) (graph : Graph) (list first : ℕ) (f : Found) : Type 0 where
  pub rest : ℕ
  pub parts : HasCellParts p list first rest
  pub last : rest < 2 ^ 30
  pub found : IsMetItem graph (TermItem first) (Some f)

-- a list of two terms or more
pub record AreMoreOf (p : PassView) (graph : Graph) (list : ℕ) (f g : Found) : Type 0 where
  pub first : ℕ
  pub rest : ℕ
  pub parts : HasCellParts p list first rest
  pub more : 2 ^ 30 ≤ rest
  pub one : IsMetItem graph (TermItem first) (Some f)
  pub others : IsMetItem graph (ListItem rest) (Some g)

abbrev pub IsListVisited : PassView → Graph → ℕ → Listed → Type 0
IsListVisited p graph list (Listed.Part y) = IsListPart p graph list y
IsListVisited p graph list (Listed.One first f) = IsOneItem p graph list first f
IsListVisited p graph list (Listed.More f g) = AreMoreOf p graph list f g

-- what has been met can be joined
abbrev pub AreJoinable : Graph → Type 0
AreJoinable graph = (x y : Item) (f g : Found) → IsMetItem graph x (Some f) → IsMetItem graph y (Some g) → CanJoin f.info g.info

abbrev pub IsListVisit : PassView → Graph → ℕ → Visit → Type 0
IsListVisit p graph list (Visit.Part y) = IsListPart p graph list y
IsListVisit p graph list (Visit.Done entry) =
    ((first : ℕ) × (f : Found) × IsOneItem p graph list first f × (entry ≡ single_entry f))
    ⊎ ((f : Found) × (g : Found) × AreMoreOf p graph list f g × (entry ≡ pair_entry f g))

-- a visit of an operation whose list is looked up as a whole
abbrev pub IsWholeVisit : Graph → ℕ → (Found → ℕ → Entry) → Visit → Type 0
IsWholeVisit graph list make (Visit.Part y) = (y ≡ ListItem list) × (number_remembered graph.memo y ≡ None)
IsWholeVisit graph list make (Visit.Done entry) =
    (f : Found) × IsMetItem graph (ListItem list) (Some f) × (entry ≡ make f (length graph.nodes.items))

-- the reference is that of a numeral's leaf, or of anything else
abbrev pub IsNumeralLeaf : Table → ℕ → Option ℤ → Type 0
IsNumeralLeaf s r (Some n) = (r < 2 ^ 30) × LeafMeets s r (λ (l : Leaf). leaf_numeral l ≡ Some n)
IsNumeralLeaf s r None = r < 2 ^ 30 → LeafMeets s r (λ (l : Leaf). leaf_numeral l ≡ None)

-- where the first term of a list is a leaf, the table has it
abbrev pub HasNumeralLeaf : Table → PassView → ℕ → Type 0
HasNumeralLeaf s p list = (a b : ℕ) → HasCellParts p list a b → a < 2 ^ 30 → a < length s.leaves

pub record IsNegation (s : Table) (p : PassView) (graph : Graph) (list : ℕ) (entry : Entry) : Type 0 where
  pub first : ℕ
  pub found : Found
  pub one : IsOneItem p graph list first found
  pub entry_is :
      ((n : ℤ) × IsNumeralLeaf s first (Some n) × (entry ≡ constant_entry (neg_ℤ n)))
      ⊎ (IsNumeralLeaf s first None × (entry ≡ negated_entry found (length graph.nodes.items)))

abbrev pub IsDifferenceVisit : Table → PassView → Graph → ℕ → Visit → Type 0
IsDifferenceVisit s p graph list (Visit.Part y) = IsListPart p graph list y
IsDifferenceVisit s p graph list (Visit.Done entry) =
    IsNegation s p graph list entry
    ⊎ ((f : Found) × (g : Found) × AreMoreOf p graph list f g × (entry ≡ difference_entry f g (length graph.nodes.items)))
