-- The name is new, so the function with its name and its key goes last.
use Rattle.std.proofs.Common.{◌+◌, inr, refl, ap, sym, ◌∙◌}
use Rattle.std.proofs.lemmas.Bool.{true≢false}
use Rattle.sym_table.specs.Names.{Lacks}
use Rattle.sym_table.specs.Leaf.{function}
use Rattle.sym_table.specs.Table.{with_leaf}
use Rattle.sym_table.proofs.Laws.{table_of}
use Rattle.sym_table.proofs.Adds.{length-seen, Keeps-same, Keeps-with_leaf}
use Rattle.sym_table.proofs.Declares.{adds, with_leaf-declared, AreLinked-declared, few-declared, Lacks-undeclared}
use Rattle.sym_table.proofs.symbols.Symbols.declare.Goals as goal

pub add_function-requires : goal.add_function-requires
add_function-requires c =
    Lacks-undeclared _ _ _ _ _ _ _ c.self.view_is c.self.invariant.0 (λ d. true≢false (sym (c.is_taken.ensures.1 (inr d)) ∙ c.if-is_taken.false))

lacks_name : (c : goal.In_ok-add_function) → Lacks c.self.inside.function_names c.args.name.now
lacks_name c =
    Lacks-undeclared _ _ _ _ _ _ _ c.self.view_is c.self.invariant.0 (λ d. true≢false (sym (c.is_taken.ensures.1 (inr d)) ∙ c.if-is_taken.false))

pub returns-then-is_taken-clause-repeated : goal.returns-then-is_taken-clause-repeated
returns-then-is_taken-clause-repeated c = (λ e. c.is_taken.ensures.0 c.if-is_taken.true, λ d. refl)

pub returns-in_err-arguments-clause-repeated : goal.returns-in_err-arguments-clause-repeated
returns-in_err-arguments-clause-repeated c =
    (λ e. (let refusal = rw e at c.from_residual.ensures.1 in cc), λ d. absurd (true≢false (sym (c.is_taken.ensures.1 d) ∙ c.if-is_taken.false)))

pub returns-in_err-add_function-clause-repeated : goal.returns-in_err-add_function-clause-repeated
returns-in_err-add_function-clause-repeated c =
    (λ e. (let refusal = rw e at c.from_residual-in_err-add_function.ensures.1 in cc), λ d. absurd (true≢false (sym (c.is_taken.ensures.1 d) ∙ c.if-is_taken.false)))

pub returns-clause-repeated : goal.returns-clause-repeated
returns-clause-repeated c =
    (λ e. cc, λ d. absurd (true≢false (sym (c.is_taken.ensures.1 d) ∙ c.if-is_taken.false)))

pub returns-in_err-add_function-clause-keeps : goal.returns-in_err-add_function-clause-keeps
returns-in_err-add_function-clause-keeps c =
    let e = c.in_err-add_function.ensures in
    let inside = c.self.inside in
    Keeps-same _ _ (ap (λ ns. table_of ns c.add_function.new.functions.items inside.variable_names c.add_function.new.self inside.sort_names) e.same_names
    ∙ ap (λ fs. table_of inside.function_names fs inside.variable_names c.add_function.new.self inside.sort_names) e.same_functions
    ∙ ap (λ ks. table_of inside.function_names inside.functions.items inside.variable_names ks inside.sort_names) e.same_keys
    ∙ c.self.view_is)

pub invariant_of-self-2 : goal.invariant_of-self-2
invariant_of-self-2 c =
    let e = c.in_ok-add_function.ensures in
    let added = adds _ _ _ _ _ _ _ _ e.names e.functions e.keys in (
      AreLinked-declared _ _ _ _ _ _ _ _ _ _ _ c.self.view_is c.self.invariant.0 added (lacks_name c) c.len-place.ensures.len,
      few-declared _ _ _ _ _ _ _ _ _ _ _ c.self.view_is c.self.invariant.0 added c.requires,
      c.self.invariant.2,
      c.self.invariant.3,
    )

pub returns-clause-declared : goal.returns-clause-declared
returns-clause-declared c =
    let e = c.in_ok-add_function.ensures in
    let added = adds _ _ _ _ _ _ _ _ e.names e.functions e.keys in (
      ap (λ n. 21 + n) c.len-place.ensures.len ∙ sym (length-seen _ _ _ _ _ _ c.self.view_is),
      with_leaf-declared _ _ _ _ _ _ _ _ _ _ _ c.self.view_is c.self.invariant.0 added
          ∙ ap (λ sorts. with_leaf c.args.self.now (function c.args.name.now sorts c.args.target)) c.in_ok-arguments.ensures,
    )

pub returns-clause-keeps : goal.returns-clause-keeps
returns-clause-keeps c =
    let e = c.in_ok-add_function.ensures in
    Keeps-with_leaf _ _ _ (with_leaf-declared _ _ _ _ _ _ _ _ _ _ _ c.self.view_is c.self.invariant.0 (adds _ _ _ _ _ _ _ _ e.names e.functions e.keys))
