-- Public. The parts of schemas, and steps that are instances of one of some schemas.
use Rattle.std.specs.Prelude.{◌≡◌, ◌⊎◌, List, [], ◌∷◌, Option, Some, None, ⊤}
use Rattle.std.specs.List.{AllZip}
use Rattle.term_model.specs.Terms.{Term}
use Rattle.rule_model.specs.Schemas.{Pattern, Schema, IsInstance}
use Rattle.schema_match.specs.declared.instances.SchemaParts.{SchemaParts}
use Rattle.schema_match.specs.declared.instances.SchemaParts.TheVariants.{Tautology, From}
use Rattle.schema_match.specs.Matching.{parts_of}

-- These are the parts of the schema's clause, which has no premise, or those of its one premise and then its clause.
abbrev pub HasParts : List Pattern → List Pattern → SchemaParts → Type 0
HasParts [] clause (Tautology parts) = parts.now ≡ parts_of clause
HasParts (premise ∷ []) clause (From parts) = parts.now ≡ parts_of (premise ∷ clause)
HasParts _ clause _ = ⊥

-- the parts are those of the schema, and there are none where there is no schema
abbrev pub AreSchemaParts : Option Schema → Option SchemaParts → Type 0
AreSchemaParts (Some schema) (Some parts) = HasParts schema.premises schema.clause parts
AreSchemaParts None None = ⊤
AreSchemaParts _ _ = ⊥

-- the parts of some schemas, in order
abbrev pub AreSchemas : List Schema → List SchemaParts → Type 0
AreSchemas schemas parts = AllZip (λ schema p. HasParts schema.premises schema.clause p) schemas parts

-- the clauses of premises and of a step are an instance of one of the schemas
abbrev pub IsInstanceOfOne : List Schema → List (List Term) → List Term → Type 0
IsInstanceOfOne [] premises clause = ⊥
IsInstanceOfOne (schema ∷ schemas) premises clause = IsInstance schema premises clause ⊎ IsInstanceOfOne schemas premises clause
