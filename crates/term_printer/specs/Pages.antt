-- Public. What a page stands for: its text, the parts of a term that are left as its tasks, and the names of terms.
use Rattle.std.specs.Prelude.{◌≡◌, ◌≤◌, ◌<◌, ℕ, ◌+◌, ◌*◌, List, [], ◌∷◌, ◌++◌, length, Some, decimal, reverse, unsigned_abs, ⊤}
use Rattle.std.specs.List.{AllZip}
use Rattle.sexpr.specs.Printing.{printed_symbol}
use Rattle.sym_table.specs.Leaf.{Leaf, name_of}
use Rattle.sym_table.specs.Table.{Table}
use Rattle.term_model.specs.Terms.{Term}
use Rattle.term_pool.specs.Views.{TermsView, RefersTo}
use Rattle.problem_text.specs.Scripts.{Named, Script}
use Rattle.printed_proofs.specs.Parts.{Part, whole, arguments, pairs, body, close, bracket, naming, parts_text, parts_behind, GoesOn}
use Rattle.printed_proofs.specs.Shared.{Plan, planned}
use Rattle.term_printer.specs.Names.{AreGiven}
use Rattle.term_printer.specs.declared.page.Page.{Page}
use Rattle.term_walk.specs.Walks.{IsListOf, ArePairsOf}
use Rattle.term_walk.specs.declared.tasks.Task.{Task}

-- how a leaf is printed
abbrev pub leaf_text : Leaf → List ℕ
leaf_text (Leaf.numeral n) = decimal (unsigned_abs n)
leaf_text l = printed_symbol (name_of l)

-- the term of the reference is to have this name
pub record IsNamingOf (plan : Plan) (s : Table) (v : TermsView) (r : ℕ) (n : Named) : Type 0 where
  pub means : Term
  pub refers : RefersTo s v r means
  pub is : planned plan means ≡ Some n

-- the task is this part of a term
abbrev pub IsTask : Plan → Table → TermsView → Task → Part → Type 0
IsTask plan s v (Task.Term r) (whole t) = RefersTo s v r t
IsTask plan s v (Task.Arguments r) (arguments ts) = IsListOf s v r ts
IsTask plan s v (Task.FirstBindings r) (pairs before bs) = (before ≡ []) × ArePairsOf s v r bs
IsTask plan s v (Task.Bindings r) (pairs before bs) = (before ≡ 32 ∷ []) × ArePairsOf s v r bs
IsTask plan s v (Task.Body list r) (body t) = RefersTo s v r t
IsTask plan s v Task.Close (close t) = ⊤
IsTask plan s v Task.End (close t) = ⊤
IsTask plan s v Task.Close bracket = ⊤
IsTask plan s v (Task.Naming r) (naming n) = IsNamingOf plan s v r n
IsTask plan s v _ _ = ⊥

-- In this state the part was begun: bytes of it are printed, the parts that are left of it are tasks behind all others, no more than two
-- for each byte, and the names are in step with the state behind the bytes.
pub record PerformsIn (plan : Plan) (s : Table) (v : TermsView) (old new : Page) (p : Part) (u : Script) : Type 0 where
  pub bytes : List ℕ
  pub behind : Script
  pub tasks : List Task
  pub parts : List Part
  pub text : new.text.items ≡ old.text.items ++ bytes
  pub left : new.tasks.items ≡ old.tasks.items ++ tasks
  pub are : AllZip (IsTask plan s v) tasks parts
  pub few : length tasks ≤ 2 * length bytes
  pub given : AreGiven plan s v new.names behind.taken
  pub goes_on : (ps : List Part) → GoesOn plan u (p ∷ ps) bytes behind (reverse parts ++ ps)

abbrev pub Performs : Plan → Table → TermsView → Page → Page → Part → Type 0
Performs plan s v old new p = (u : Script) → AreGiven plan s v old.names u.taken → PerformsIn plan s v old new p u

abbrev pub PerformsFor : Table → TermsView → Page → Page → Part → Type 0
PerformsFor s v old new p = (plan : Plan) → Performs plan s v old new p

pub record IsSomeTask (s : Table) (v : TermsView) (task : Task) : Type 0 where
  pub plan : Plan
  pub part : Part
  pub is : IsTask plan s v task part

-- The page comes to these bytes, and to this state behind them, when the parts that are left of it are printed.
pub record ComesTo (plan : Plan) (s : Table) (v : TermsView) (page : Page) (bytes : List ℕ) (end : Script) : Type 0 where
  pub state : Script
  pub parts : List Part
  pub tasks : AllZip (IsTask plan s v) page.tasks.items parts
  pub given : AreGiven plan s v page.names state.taken
  pub text : page.text.items ++ parts_text plan state (reverse parts) ≡ bytes
  pub behind : parts_behind plan state (reverse parts) ≡ end

pub record ComesToSome (s : Table) (v : TermsView) (page : Page) : Type 0 where
  pub plan : Plan
  pub bytes : List ℕ
  pub end : Script
  pub comes : ComesTo plan s v page bytes end

-- What the old page came to begins with its text, and the new one comes to the rest.
pub record IsEmptied (plan : Plan) (s : Table) (v : TermsView) (old new : Page) (bytes : List ℕ) (end : Script) : Type 0 where
  pub rest : List ℕ
  pub is : bytes ≡ old.text.items ++ rest
  pub comes : ComesTo plan s v new rest end

-- Something more is printed, or a task is done: each byte counts as two tasks.
abbrev pub IsFurther : Page → Page → Type 0
IsFurther old new = length new.tasks.items + 2 * length old.text.items < length old.tasks.items + 2 * length new.text.items
