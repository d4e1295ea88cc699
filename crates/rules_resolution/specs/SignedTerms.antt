-- Public. Terms with signs: what a clause of a strict chain is made of.
use Rattle.std.specs.Prelude.{◌≢◌, ℕ, Bool, true, false}
use Rattle.sym_table.specs.Table.{Table}
use Rattle.term_model.specs.Terms.{Term, not_of}
use Rattle.term_parts.specs.Parts.{StandsUnder}
use Rattle.term_pool.specs.Views.{TermsView, RefersTo}
use Rattle.clause_chain.specs.declared.signed_term.SignedTerm.{SignedTerm}

-- the term is what the reference stands for, which is no negation, or it is the negation of that
abbrev pub HasSign : Table → TermsView → ℕ → Bool → Term → Type 0
HasSign s v r true t = StandsUnder s v r t
HasSign s v r false t = RefersTo s v r t × ((u : Term) → t ≢ not_of u)

-- the term with the sign stands for the term
abbrev pub StandsForSigned : Table → TermsView → SignedTerm → Term → Type 0
StandsForSigned s v k t = HasSign s v k.term k.negative t

-- it stands for what the reference does
abbrev pub IsSignedOf : Table → TermsView → ℕ → SignedTerm → Type 0
IsSignedOf s v r k = (t : Term) → RefersTo s v r t → StandsForSigned s v k t
