-- Private. How the parts of a schema are read from terms, and how far they are when some have been read.
use Rattle.std.specs.Prelude.{◌≡◌, ◌↔◌, ◌++◌, ℕ, List, [], ◌∷◌, length, ⊤, Some}
use Rattle.sym_table.specs.Table.{Table}
use Rattle.term_model.specs.Terms.{Term, Terms, operation, list_of}
use Rattle.term_pool.specs.Views.{TermsView}
use Rattle.rule_model.specs.declared.letter.Letter.{Letter}
use Rattle.schema_match.specs.declared.letters.Letters.{Letters}
use Rattle.schema_match.specs.declared.part.Part.{Part}
use Rattle.schema_match.specs.declared.part.Part.TheVariants.{Any, Apply}
use Rattle.schema_match.specs.Stack.{StackOf}
use Rattle.schema_match.specs.Letters.{Agrees}

-- the terms are what the parts spell where the letters stand for these
abbrev pub Reads : (Letter → Term) → List Part → List Term → Type 0
Reads f [] [] = ⊤
Reads f [] (t ∷ ts) = ⊥
Reads f (p ∷ ps) [] = ⊥
Reads f (Any l ∷ ps) (t ∷ ts) = (f l ≡ t) × Reads f ps ts
Reads f (Apply op n ∷ ps) (t ∷ ts) =
    (us : Terms) × (t ≡ operation op us) × (length (list_of us) ≡ n) × Reads f ps (list_of us ++ ts)

-- These parts are left to be read from the terms on the stack: with terms for the letters the whole is read exactly where
-- they are those of the letters that are settled, and these parts are read with them.
pub record Left (s : Table) (v : TermsView) (whole : List Part) (whole_terms : List Term) (parts : List Part) (letters : Letters)
    (stack : List ℕ) : Type 0 where
  pub terms : List Term
  pub refer : StackOf s v stack terms
  pub example : Letter → Term
  pub agrees : Agrees s v letters example
  pub reads : (f : Letter → Term) → Reads f whole whole_terms ↔ (Agrees s v letters f × Reads f parts terms)

-- the same letters, but that one stands for r
abbrev pub with_letter : Letters → Letter → ℕ → Letters
with_letter letters Letter.A r = record letters { a = Some r }
with_letter letters Letter.B r = record letters { b = Some r }
with_letter letters Letter.C r = record letters { c = Some r }
with_letter letters Letter.D r = record letters { d = Some r }
