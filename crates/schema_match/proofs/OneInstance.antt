-- An instance of one of some schemas, which are tried one after the other.
use Rattle.std.proofs.Common.{◌≡◌, ◌↔◌, ◌<◌, ◌≤◌, ◌+◌, ℕ, zero, suc, inl, inr, List, [], ◌∷◌, length, drop, get_or, Bool, true, false, IsTrue, refl, sym, subst, arith, add-one}
use Rattle.term_model.specs.Terms.{Term}
use Rattle.rule_model.specs.Schemas.{Schema, IsInstance}
use Rattle.schema_match.specs.declared.instances.SchemaParts.{SchemaParts}
use Rattle.schema_match.specs.Schemas.{AreSchemas, HasParts, IsInstanceOfOne}

module _ (ps : List (List Term)) (ts : List Term) where
  -- what is one of the later schemas is one of all
  pub later_instance : (i : ℕ) (of : List Schema) → IsInstanceOfOne (drop i of) ps ts → IsInstanceOfOne of ps ts
  later_instance zero of h = h
  later_instance (suc i) [] h = h
  later_instance (suc i) (schema ∷ of) h = inr (later_instance i of h)

  -- the schema at a place has the parts there
  schema_at : (i : ℕ) (of : List Schema) (parts : List SchemaParts) (d : SchemaParts) → AreSchemas of parts → i < length parts →
      (schema : Schema) × (drop i of ≡ schema ∷ drop (suc i) of) × HasParts schema.premises schema.clause (get_or parts i d)
  schema_at i [] [] d h below = absurd (omega (arith, below))
  schema_at i [] (q ∷ parts) d h below = absurd h
  schema_at i (schema ∷ of) [] d h below = absurd h
  schema_at zero (schema ∷ of) (q ∷ parts) d h below = (schema, refl, h.0)
  schema_at (suc i) (schema ∷ of) (q ∷ parts) d h below = schema_at i of parts d h.1 (omega (arith, below))

  module _ (i : ℕ) (of : List Schema) (parts : List SchemaParts) (d : SchemaParts) (b : Bool) (are : AreSchemas of parts) (below : i < length parts) (test : (schema : Schema) → HasParts schema.premises schema.clause (get_or parts i d) → IsTrue b ↔ IsInstance schema ps ts) where
    pub one_found : b ≡ true → IsInstanceOfOne of ps ts
    one_found holds =
        let here = schema_at i of parts d are below in
        later_instance i of (subst (λ rest. IsInstanceOfOne rest ps ts) (sym here.1) (inl ((test here.0 here.2).0 holds)))

    pub not_here : b ≡ false → IsInstanceOfOne (drop i of) ps ts → IsInstanceOfOne (drop (i + 1) of) ps ts
    not_here fails h =
        let here = schema_at i of parts d are below in
        rw (add-one) (go here.0 (test here.0 here.2) (subst (λ rest. IsInstanceOfOne rest ps ts) here.1 h))
      where
        go : (schema : Schema) → IsTrue b ↔ IsInstance schema ps ts → IsInstanceOfOne (schema ∷ drop (suc i) of) ps ts → IsInstanceOfOne (drop (suc i) of) ps ts
        go schema test (inl found) = absurd (let holds = test.1 found in cc)
        go schema test (inr rest) = rest

  pub none_left : (n : ℕ) (of : List Schema) (parts : List SchemaParts) → AreSchemas of parts → length parts ≤ n → (IsInstanceOfOne of ps ts → IsInstanceOfOne (drop n of) ps ts) → IsTrue false ↔ IsInstanceOfOne of ps ts
  none_left n of parts are end left = (λ e. absurd cc, λ h. absurd (go n of parts are end (left h)))
    where
      go : (n : ℕ) (of : List Schema) (parts : List SchemaParts) → AreSchemas of parts → length parts ≤ n → IsInstanceOfOne (drop n of) ps ts → ⊥
      go zero [] parts are end h = h
      go (suc n) [] parts are end h = h
      go n (schema ∷ of) [] are end h = absurd are
      go zero (schema ∷ of) (q ∷ parts) are end h = absurd (omega (arith, end))
      go (suc n) (schema ∷ of) (q ∷ parts) are end h = go n of parts are.1 (omega (arith, end)) h
