-- What the parts of patterns are read from are the patterns with terms put in.
use Rattle.std.proofs.Common.{◌≡◌, List, [], ◌∷◌, map, refl, sym, ◌∙◌, ap}
use Rattle.term_model.specs.Terms.{Term, no_terms, term, operation}
use Rattle.rule_model.specs.declared.letter.Letter.{Letter}
use Rattle.rule_model.specs.Schemas.{Pattern, letter, nullary, unary, binary, ternary, fill}
use Rattle.schema_match.specs.declared.part.Part.{Part}
use Rattle.schema_match.specs.Matching.{prefix, parts_of}
use Rattle.schema_match.specs.Reads.{Reads}
use Rattle.schema_match.proofs.Counts.{none, one, two, three}

module _ (f : Letter → Term) where
  -- the terms begin with one, and the others are read from these parts
  abbrev Begins : Term → List Part → List Term → Type 0
  Begins t rest ts = (others : List Term) × (ts ≡ t ∷ others) × Reads f rest others

  begins : (t u : Term) (rest : List Part) (ts : List Term) → t ≡ u → Reads f rest ts → Begins u rest (t ∷ ts)
  begins t u rest ts same h = (ts, ap (λ x. x ∷ ts) same, h)

  first_is : (t u : Term) (ts us : List Term) → t ∷ ts ≡ u ∷ us → t ≡ u
  first_is t u ts us e = cc

  others_are : (t u : Term) (ts us : List Term) → t ∷ ts ≡ u ∷ us → ts ≡ us
  others_are t u ts us e = cc

  -- the first terms of what is read
  begins_more : (t u : Term) (rest : List Part) (ts : List Term) → Begins u rest (t ∷ ts) → (t ≡ u) × Reads f rest ts
  begins_more t u rest ts (others, e, h) = (first_is t u ts others e, rw (others_are t u ts others e) h)

  pub read_prefix : (p : Pattern) (rest : List Part) (ts : List Term) → Reads f (prefix p rest) ts → Begins (fill f p) rest ts
  read_prefix (letter l) rest [] h = absurd h
  read_prefix (letter l) rest (t ∷ ts) h = begins t (f l) rest ts (sym h.0) h.1
  read_prefix (nullary op) rest [] h = absurd h
  read_prefix (nullary op) rest (t ∷ ts) h =
      let is = none h.0 h.2 in
      begins t (operation op no_terms) rest ts (h.1 ∙ ap (operation op) is) (rw is at h.3)
  read_prefix (unary op p) rest [] h = absurd h
  read_prefix (unary op p) rest (t ∷ ts) h =
      let is = one h.0 h.2 in
      let inner = begins_more is.0 (fill f p) rest ts (read_prefix p rest (is.0 ∷ ts) (rw is.1 at h.3)) in
      begins t (fill f (unary op p)) rest ts (h.1 ∙ ap (operation op) (is.1 ∙ ap (λ u. term u no_terms) inner.0)) inner.1
  read_prefix (binary op p q) rest [] h = absurd h
  read_prefix (binary op p q) rest (t ∷ ts) h =
      let is = two h.0 h.2 in
      let first = begins_more is.0 (fill f p) (prefix q rest) (is.1 ∷ ts) (read_prefix p (prefix q rest) (is.0 ∷ is.1 ∷ ts) (rw is.2 at h.3)) in
      let second = begins_more is.1 (fill f q) rest ts (read_prefix q rest (is.1 ∷ ts) first.1) in
      begins t (fill f (binary op p q)) rest ts
      (h.1 ∙ ap (operation op) (is.2 ∙ (ap (λ u. term u (term is.1 no_terms)) first.0 ∙ ap (λ u. term (fill f p) (term u no_terms)) second.0))) second.1
  read_prefix (ternary op p q r) rest [] h = absurd h
  read_prefix (ternary op p q r) rest (t ∷ ts) h =
      let is = three h.0 h.2 in
      let first = begins_more is.0 (fill f p) (prefix q (prefix r rest)) (is.1 ∷ is.2 ∷ ts) (read_prefix p (prefix q (prefix r rest)) (is.0 ∷ is.1 ∷ is.2 ∷ ts) (rw is.3 at h.3)) in
      let second = begins_more is.1 (fill f q) (prefix r rest) (is.2 ∷ ts) (read_prefix q (prefix r rest) (is.1 ∷ is.2 ∷ ts) first.1) in
      let third = begins_more is.2 (fill f r) rest ts (read_prefix r rest (is.2 ∷ ts) second.1) in
      begins t (fill f (ternary op p q r)) rest ts
      (h.1 ∙ ap (operation op) (is.3 ∙ (ap (λ u. term u (term is.1 (term is.2 no_terms))) first.0
      ∙ (ap (λ u. term (fill f p) (term u (term is.2 no_terms))) second.0 ∙ ap (λ u. term (fill f p) (term (fill f q) (term u no_terms))) third.0)))) third.1

  pub filled_prefix : (p : Pattern) (rest : List Part) (ts : List Term) → Reads f rest ts → Reads f (prefix p rest) (fill f p ∷ ts)
  filled_prefix (letter l) rest ts h = (refl, h)
  filled_prefix (nullary op) rest ts h = (no_terms, refl, refl, h)
  filled_prefix (unary op p) rest ts h = (term (fill f p) no_terms, refl, refl, filled_prefix p rest ts h)
  filled_prefix (binary op p q) rest ts h =
      (term (fill f p) (term (fill f q) no_terms), refl, refl, filled_prefix p (prefix q rest) (fill f q ∷ ts) (filled_prefix q rest ts h))
  filled_prefix (ternary op p q r) rest ts h = (
    term (fill f p) (term (fill f q) (term (fill f r) no_terms)),
    refl,
    refl,
    filled_prefix p (prefix q (prefix r rest)) (fill f q ∷ fill f r ∷ ts) (filled_prefix q (prefix r rest) (fill f r ∷ ts) (filled_prefix r rest ts h)),
  )

  pub read_patterns : (ps : List Pattern) (ts : List Term) → Reads f (parts_of ps) ts → ts ≡ map (fill f) ps
  read_patterns [] [] h = refl
  read_patterns [] (t ∷ ts) h = absurd h
  read_patterns (p ∷ ps) ts h =
      let first = read_prefix p (parts_of ps) ts h in
      first.1 ∙ ap (λ us. fill f p ∷ us) (read_patterns ps first.0 first.2)

  pub filled_patterns : (ps : List Pattern) → Reads f (parts_of ps) (map (fill f) ps)
  filled_patterns [] = tt
  filled_patterns (p ∷ ps) = filled_prefix p (parts_of ps) (map (fill f) ps) (filled_patterns ps)
