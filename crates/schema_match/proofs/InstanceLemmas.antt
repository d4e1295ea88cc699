-- Cited by crates above. Steps that are instances of a schema.
use Rattle.std.proofs.Common.{◌≡◌, ◌≢◌, ◌↔◌, ◌∷◌, ◌++◌, [], List, ℕ, map, length, reverse, Bool, false, IsTrue, All, sym, ◌∙◌, ap, subst}
use Rattle.std.specs.Borrow.{Bor}
use Rattle.std.proofs.lemmas.List.{reverse-reverse}
use Rattle.std.proofs.lemmas.List.Elements.{All-head, All-tail}
use Rattle.sym_table.specs.Table.{Table}
use Rattle.term_model.specs.Terms.{Term}
use Rattle.term_pool.specs.Views.{TermsView, RefersTo, ReferToAll, IsTerm}
use Rattle.rule_model.specs.declared.letter.Letter.{Letter}
use Rattle.rule_model.specs.Schemas.{Pattern, fill, Schema, IsInstance}
use Rattle.schema_match.specs.declared.part.Part.{Part}
use Rattle.schema_match.specs.declared.instances.SchemaParts.TheVariants.{Tautology, From}
use Rattle.schema_match.specs.Matching.{parts_of, Fits}
use Rattle.schema_match.specs.Premises.{IsOneUnit, IsNoUnit}
use Rattle.schema_match.specs.Schemas.{HasParts}
use Rattle.schema_match.specs.Stack.{StackOf, IsStack}
use Rattle.term_parts.specs.Judging.{ReferToClauses}
use Rattle.schema_match.proofs.PremiseLemmas.{no_premises, some_premises, unit_term, no_unit}
use Rattle.schema_match.proofs.ReferLemmas.{stack_push}

abbrev schema_with : List Pattern → List Pattern → Schema
schema_with premises clause = record { premises = premises; clause = clause }

module _ (s : Table) (v : TermsView) where
  -- references that are terms stand for some
  pub terms_of_references : (rs : List ℕ) → All (IsTerm s v) rs → (ts : List Term) × ReferToAll s v rs ts
  terms_of_references [] all = ([], tt)
  terms_of_references (r ∷ rs) all =
      let first = All-head (IsTerm s v) r rs all in
      let others = terms_of_references rs (All-tail (IsTerm s v) r rs all) in
      (first.means ∷ others.0, (first.refers, others.1))

  pub clause_stack : (items clause : List ℕ) (ts : List Term) → items ≡ reverse clause → ReferToAll s v clause ts → StackOf s v items ts
  clause_stack items clause ts e h = subst (λ rs. ReferToAll s v rs ts) (sym (ap reverse e ∙ reverse-reverse clause)) h

  pub clause_is_stack : (items clause : List ℕ) → items ≡ reverse clause → All (IsTerm s v) clause → IsStack s v items
  clause_is_stack items clause e all =
      let there = terms_of_references clause all in
      record { terms = there.0; refer = clause_stack items clause there.0 e there.1 }

  pub step_stack : (items old clause : List ℕ) (r : ℕ) (t : Term) (ts : List Term) → items ≡ old ++ r ∷ [] → old ≡ reverse clause → RefersTo s v r t → ReferToAll s v clause ts → StackOf s v items (t ∷ ts)
  step_stack items old clause r t ts e f h k =
      subst (λ rs. StackOf s v rs (t ∷ ts)) (sym e) (stack_push s v old r t ts h (clause_stack old clause ts f k))

  pub step_is_stack : (items old clause : List ℕ) (r : ℕ) → items ≡ old ++ r ∷ [] → old ≡ reverse clause → IsTerm s v r → All (IsTerm s v) clause → IsStack s v items
  step_is_stack items old clause r e f term all =
      let there = terms_of_references clause all in
      record { terms = term.means ∷ there.0; refer = step_stack items old clause r term.means there.0 e f term.refers there.1 }

  module _ (premises : List (Bor (List ℕ))) (ps : List (List Term)) (ts : List Term) (premises_are : ReferToClauses s v premises ps) where
    pub tautology_with_premises : (P C : List Pattern) (parts : Bor (List Part)) → HasParts P C (Tautology parts) → length premises ≢ 0 → IsTrue false ↔ IsInstance (schema_with P C) ps ts
    tautology_with_premises [] C parts has some = (λ e. absurd cc, λ i. absurd (some_premises s v premises ps some premises_are i.units))
    tautology_with_premises (p ∷ []) C parts has some = absurd has
    tautology_with_premises (p ∷ q ∷ P) C parts has some = absurd has

    pub tautology_is : (P C : List Pattern) (parts : Bor (List Part)) (b : Bool) → HasParts P C (Tautology parts) → length premises ≡ 0 → ((ps : List Pattern) → parts.now ≡ parts_of ps → IsTrue b ↔ Fits ps ts) → IsTrue b ↔ IsInstance (schema_with P C) ps ts
    tautology_is [] C parts b has none test = (
      λ e. (let f = (test C has).0 e in record { terms = f.0; units = no_premises s v premises ps none premises_are; literals = f.1 }),
      λ i. (test C has).1 (i.terms, i.literals),
    )
    tautology_is (p ∷ []) C parts b has none test = absurd has
    tautology_is (p ∷ q ∷ P) C parts b has none test = absurd has

    pub no_unit_instance : (P C : List Pattern) (parts : Bor (List Part)) → HasParts P C (From parts) → IsNoUnit premises → IsTrue false ↔ IsInstance (schema_with P C) ps ts
    no_unit_instance [] C parts has none = absurd has
    no_unit_instance (p ∷ []) C parts has none = (λ e. absurd cc, λ i. absurd (no_unit s v premises ps (fill i.terms p) none premises_are i.units))
    no_unit_instance (p ∷ q ∷ P) C parts has none = absurd has

    pub from_is : (P C : List Pattern) (parts : Bor (List Part)) (r : ℕ) (b : Bool) → HasParts P C (From parts) → IsOneUnit premises r → ((ps : List Pattern) (t : Term) → RefersTo s v r t → parts.now ≡ parts_of ps → IsTrue b ↔ Fits ps (t ∷ ts)) → IsTrue b ↔ IsInstance (schema_with P C) ps ts
    from_is [] C parts r b has is test = absurd has
    from_is (p ∷ []) C parts r b has is test = go (unit_term s v premises r ps is premises_are)
      where
        first_is : (f : Letter → Term) (t : Term) → t ∷ ts ≡ fill f p ∷ map (fill f) C → t ≡ fill f p
        first_is f t e = cc

        others_are : (f : Letter → Term) (t : Term) → t ∷ ts ≡ fill f p ∷ map (fill f) C → ts ≡ map (fill f) C
        others_are f t e = cc

        inner_is : (f : Letter → Term) (t : Term) → (t ∷ []) ∷ [] ≡ (fill f p ∷ []) ∷ [] → t ≡ fill f p
        inner_is f t e = cc

        go : ((t : Term) × (ps ≡ (t ∷ []) ∷ []) × RefersTo s v r t) → IsTrue b ↔ IsInstance (schema_with (p ∷ []) C) ps ts
        go (t, same, refers) = (
          λ e.
              (let f = (test (p ∷ C) t refers has).0 e in
              record { terms = f.0; units = same ∙ ap (λ x. (x ∷ []) ∷ []) (first_is f.0 t f.1); literals = others_are f.0 t f.1 }),
          λ i.
              (let first = inner_is i.terms t (sym same ∙ i.units) in
              (test (p ∷ C) t refers has).1 (i.terms, ap (λ x. x ∷ ts) first ∙ ap (λ us. fill i.terms p ∷ us) i.literals)),
        )
    from_is (p ∷ q ∷ P) C parts r b has is test = absurd has
