-- Public. When two terms are equal up to flips: what is left where the order of the two sides of an equality does not
-- count, at any depth outside lets (`=` is symmetric: SMT-LIB 2.6, the theory Core).
use Rattle.term_model.specs.declared.symbols.Op.{Op}
use Rattle.term_model.specs.Terms.{Fun, Term, Terms, operation, call, no_terms, term}

-- `(= a b)`
abbrev pub equality : Term → Term → Term
equality a b = operation Op.Equal (term a (term b no_terms))

-- The least relation in which a term is equal to itself, applications of one head are equal where their arguments are,
-- one by one, and `(= a b)` and `(= c d)` are equal where a, d and b, c are. A let is equal to itself alone.
mutual
  pub data EqualUpToFlips : Term → Term → Type 0 where
    same : (t : Term) → EqualUpToFlips t t
    operations : (op : Op) (ts us : Terms) → AllEqualUpToFlips ts us → EqualUpToFlips (operation op ts) (operation op us)
    calls : (f : Fun) (ts us : Terms) → AllEqualUpToFlips ts us → EqualUpToFlips (call f ts) (call f us)
    flipped :
        (a b c d : Term) → EqualUpToFlips a d → EqualUpToFlips b c → EqualUpToFlips (equality a b) (equality c d)

  -- as many arguments, each equal up to flips to the one at its place
  pub data AllEqualUpToFlips : Terms → Terms → Type 0 where
    none : AllEqualUpToFlips no_terms no_terms
    each :
        (t u : Term) (ts us : Terms) → EqualUpToFlips t u → AllEqualUpToFlips ts us →
        AllEqualUpToFlips (term t ts) (term u us)
