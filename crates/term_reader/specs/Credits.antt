-- Private. What the steps of a reading are counted by.
use Rattle.std.specs.Prelude.{◌+◌, ℕ, List, [], ◌∷◌, ◌*◌, ◌-◌, length}
use Rattle.term_reader.specs.declared.frames.Frame.{Frame}
use Rattle.sym_table.specs.Table.{Table}
use Rattle.text_items.specs.declared.nodes.Node.{Node}
use Rattle.term_reader.specs.declared.reader.Turn.{Turn}

-- how many leaves the table may still get for an open form
abbrev pub credit : List Frame → ℕ
credit [] = 0
credit (Frame.Bindings opened ∷ fs) = 2 + credit fs
credit (f ∷ fs) = 1 + credit fs

-- the node that a turn is at
abbrev pub node_of : Turn → ℕ
node_of (Turn.Read k) = k
node_of (Turn.Use c n) = n

-- At most so many leaves will be in the table when the term is read: each leaf that is added has a node of its own, and an
-- open let the nodes of its brackets besides.
abbrev pub bound_of : Table → List Node → List Frame → ℕ → ℕ
bound_of s nodes frames k = length s.leaves + (length nodes - k) + credit frames

-- what is left to be done, by a count that each turn lowers
abbrev pub effort : List Node → List Frame → Turn → ℕ
effort nodes frames (Turn.Read k) = 3 * (length nodes - k) + 2 * length frames
effort nodes frames (Turn.Use c n) = 3 * (length nodes - n) + 2 * length frames + 1
