-- The name is new, so the sorts stay apart.
use Rattle.std.proofs.Common.{◌≡◌, ◌⊎◌, ◌↔◌, inl, inr, Bool, true, false, ℕ, List, ◌∙◌, ap, sym, subst, arith, length, slice_get}
use Rattle.std.proofs.lemmas.Bool.{true≢false}
use Rattle.sym_table.specs.Names.{Lacks, AreApart}
use Rattle.sym_table.specs.Words.{IsBuiltIn}
use Rattle.sym_table.specs.Table.{Table, IsSortName, Keeps}
use Rattle.sym_table.proofs.Lists.{AreApart-push}
use Rattle.sym_table.proofs.Links.{length-push}
use Rattle.sym_table.proofs.Laws.{table_of}
use Rattle.sym_table.proofs.Adds.{Keeps-with_sort, if_none}
use Rattle.sym_table.proofs.symbols.Symbols.declare_sort.Goals as goal

-- a name that is no built-in word and no declared sort's
not_taken : (t : Table) (names : List (List ℕ)) (name : List ℕ) (built_in : Bool) → names ≡ t.sorts → built_in ≡ false → (built_in ≡ true) ↔ IsBuiltIn name → Lacks names name → IsBuiltIn name ⊎ IsSortName t name → ⊥
not_taken t names name built_in v failed is lacks (inl d) = true≢false (sym (is.1 d) ∙ failed)
not_taken t names name built_in v failed is lacks (inr d) = lacks d.0 (ap (λ ns. slice_get ns d.0) v ∙ d.1)

pub returns-in_err-add-clause-repeated : goal.returns-in_err-add-clause-repeated
returns-in_err-add-clause-repeated c =
    let lacks = if_none _ (sym c.is_some.ensures ∙ c.if-is_some.false) c.place_of.ensures.lacks in
    (λ e. (let refusal = rw e at c.from_residual.ensures.1 in cc), λ d. absurd (not_taken c.args.self.now _ _ _ (ap (λ (t : Table). t.sorts) c.self.view_is) c.if-is_built_in.false c.is_built_in.ensures lacks d))

pub returns-clause-repeated : goal.returns-clause-repeated
returns-clause-repeated c =
    let lacks = if_none _ (sym c.is_some.ensures ∙ c.if-is_some.false) c.place_of.ensures.lacks in
    (λ e. cc, λ d. absurd (not_taken c.args.self.now _ _ _ (ap (λ (t : Table). t.sorts) c.self.view_is) c.if-is_built_in.false c.is_built_in.ensures lacks d))

pub invariant_of-self-2 : goal.invariant_of-self-2
invariant_of-self-2 c = (
  c.self.invariant.0,
  c.self.invariant.1,
  omega (arith, ap length c.in_ok-add.ensures.ok, length-push c.self.inside.sort_names c.args.name.now, ap (λ (t : Table). length t.sorts) c.self.view_is, c.requires),
  subst AreApart (sym c.in_ok-add.ensures.ok) (AreApart-push _ _ c.self.invariant.3 (if_none _ (sym c.is_some.ensures ∙ c.if-is_some.false) c.place_of.ensures.lacks)),
)

pub returns-clause-keeps : goal.returns-clause-keeps
returns-clause-keeps c =
    let inside = c.self.inside in
    let table = table_of inside.function_names inside.functions.items inside.variable_names inside.leaves in
    subst (λ (t : Table). Keeps t (table c.add.new.names)) c.self.view_is (Keeps-with_sort _ _ c.args.name.now (ap table c.in_ok-add.ensures.ok))
