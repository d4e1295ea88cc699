-- What stands before the body of a defined function.
use Rattle.std.proofs.Common.{◌≡◌, ◌≤◌, ℕ, List, [], length, All, Ok, sym, ◌∙◌, ap}
use Rattle.sexpr.specs.Items.{Item, Items}
use Rattle.term_model.specs.declared.symbols.Sort.{Sort}
use Rattle.smtlib_reader.specs.Defining.{signature_from, IsSignatureRead}
use Rattle.text_items.specs.ItemsAt.{ItemsView}
use Rattle.smtlib_reader.specs.Parameters.{IsParameterThere, parameters_said}
use Rattle.problem_text.specs.Sorts.{result_then, sort_from, parameters_from}
use Rattle.smtlib_reader.specs.declared.parameters.Parameter.{Parameter}

pub signature_there : (items : ItemsView) (sorts : List (List ℕ)) (pairs : Items) (i : Item) (end : ℕ) (ps : List Parameter) (target : Sort)
    → (parameters_from sorts [] pairs ≡ Ok (parameters_said items ps)) × All (IsParameterThere items) ps × (length ps ≤ end) → Ok target ≡ sort_from sorts i
    → IsSignatureRead items end ps (signature_from sorts pairs i) (Ok target)
signature_there items sorts pairs i end ps target (e, there, few) f = (
  ap (λ r. result_then r (λ ys. result_then (sort_from sorts i) (λ t. Ok (record { parameters = ys; target = t })))) e
      ∙ ap (λ r. result_then r (λ t. Ok (record { parameters = parameters_said items ps; target = t }))) (sym f),
  there,
  few,
)
