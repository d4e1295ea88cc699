-- Private. An equality as it stands, and denied.
use Rattle.std.specs.Prelude.{Bool, true, false}
use Rattle.term_model.specs.Terms.{Term, not_of}
use Rattle.rule_model.specs.Clausal.{as_it_stands}

abbrev pub sign_of : Bool → Term → Term
sign_of false t = as_it_stands t
sign_of true t = not_of t
