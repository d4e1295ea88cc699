-- Private. The definitions of connectives as schemas.
use Rattle.std.specs.Prelude.{List, [], ◌∷◌}
use Rattle.rule_model.specs.Patterns.{equal}
use Rattle.rule_model.specs.Rewriting.{RewriteRow}
use Rattle.rule_model.specs.Schemas.{Schema}

-- of each row, the schema of a clause that is the equality of its sides
abbrev pub schemas_of : List RewriteRow → List Schema
schemas_of [] = []
schemas_of (row ∷ rows) = record { premises = []; clause = equal row.left row.right ∷ [] } ∷ schemas_of rows
