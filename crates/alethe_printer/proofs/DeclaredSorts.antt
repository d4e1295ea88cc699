-- A sort that is read from what is printed of it is one of the table.
use Rattle.std.proofs.Common.{◌≡◌, ◌<◌, ℕ, zero, suc, Bool, true, false, if◌then◌else◌, Option, Some, None, Ok, List, [], ◌∷◌, length, get_or}
use Rattle.std.proofs.Common.{bytes_eq, codes, slice_get, refl, sym, ◌∙◌, subst, arith}
use Rattle.std.specs.Prelude.{position}
use Rattle.std.specs.List.{AllByRecursion, AllZip}
use Rattle.std.specs.Option.{option_map_or}
use Rattle.std.proofs.lemmas.List.Quantifiers.{position-Some}
use Rattle.sexpr.specs.declared.causes.Cause.TheVariants.{LeftOut}
use Rattle.sexpr.specs.Items.{Item, word, quoted, string, list, symbol_name}
use Rattle.sexpr.specs.Printed.{placed}
use Rattle.sym_table.specs.Table.{Table, IsLeaf}
use Rattle.term_model.specs.declared.symbols.Sort.{Sort}
use Rattle.term_model.specs.Terms.{Var, Term}
use Rattle.term_model.proofs.Lists.{all_joined}
use Rattle.term_pool.specs.Bindings.{IsBindingOf}
use Rattle.term_pool.specs.StandsFor.{variable_leaf}
use Rattle.term_pool.specs.Views.{TermsView}
use Rattle.rule_model.specs.Commands.{ScopeEntry, scopes_in, scopes}
use Rattle.rule_model.specs.Proofs.{ProofItems, no_items, with_assume, with_step, with_subproof}
use Rattle.rule_model.specs.Reading.{bindings_at}
use Rattle.rule_model.specs.Scopes.{Nesting, outermost, inner}
use Rattle.rule_model.proofs.Standing.{all_at}
use Rattle.problem_text.specs.Commands.{refused}
use Rattle.problem_text.specs.Scripts.{Script}
use Rattle.problem_text.specs.Sorts.{declared_sort, sort_spelled, sort_from}
use Rattle.problem_text.specs.Words.{is_among, left_out_sorts}
use Rattle.alethe_text.specs.States.{ProofSettings}
use Rattle.printed_proofs.specs.PrintedProof.{sort_item}
use Rattle.printed_proofs.specs.Readable.{IsSortReadable, AreBindingsReadable, AreReadable}
use Rattle.printed_proofs.specs.Shared.{Plan}
use Rattle.alethe_printer.specs.Printed.{IsDeclared, HaveSorts}

module _ (s : Table) where
  chosen : (a b c : Bool) (place : ℕ) (o : Option ℕ) (sort : Sort) → ((n : ℕ) → o ≡ Some n → n < length s.sorts)
      → (if a then Ok Sort.Bool else (if b then Ok Sort.Int else (if c then refused LeftOut place else declared_sort place o))) ≡ Ok sort → IsDeclared s sort
  chosen true b c place o sort bound e = let is : Sort.Bool ≡ sort = cc in subst (IsDeclared s) is tt
  chosen false true c place o sort bound e = let is : Sort.Int ≡ sort = cc in subst (IsDeclared s) is tt
  chosen false false true place o sort bound e = absurd (cc)
  chosen false false false place (Some n) sort bound e = let is : Sort.Declared n ≡ sort = cc in subst (IsDeclared s) is (bound n refl)
  chosen false false false place None sort bound e = absurd (cc)

  spelled : (place : ℕ) (o : Option (List ℕ)) (sort : Sort) → sort_spelled s.sorts place o ≡ Ok sort → IsDeclared s sort
  spelled place None sort e = absurd (cc)
  spelled place (Some name) sort e =
      chosen (bytes_eq name (codes "Bool")) (bytes_eq name (codes "Int")) (is_among left_out_sorts name) place (position (bytes_eq name) s.sorts) sort
      (λ n found. (position-Some (bytes_eq name) s.sorts n [] found).0) e

  sort_read : (i : Item) (sort : Sort) → sort_from s.sorts i ≡ Ok sort → IsDeclared s sort
  unfolding sort_from
  sort_read (word place spelling) sort e = spelled place (symbol_name (word place spelling)) sort e
  sort_read (quoted place spelling) sort e = spelled place (symbol_name (quoted place spelling)) sort e
  sort_read (string place spelling) sort e = spelled place (symbol_name (string place spelling)) sort e
  sort_read (list place items) sort e = absurd (cc)

  module _ (script : Script) (same : script.sorts ≡ s.sorts) where
    abbrev IsRead : Var × Term → Type 0
    IsRead b = IsSortReadable script b.0.sort

    read_declared : (b : Var × Term) → IsRead b → IsDeclared s b.0.sort
    read_declared b h =
        sort_read (placed 0 (sort_item script.sorts b.0.sort)) b.0.sort
        (subst (λ xs. sort_from xs (placed 0 (sort_item script.sorts b.0.sort)) ≡ Ok b.0.sort) same (h.read 0))

    -- the variables of all scopes
    abbrev AreRead : ScopeEntry Var Term → Type 0
    AreRead e = AllByRecursion IsRead e.bindings

    bindings_read : (settings : ProofSettings) (plan : Plan) (nesting : Nesting Var Term) (earlier : List (List ℕ)) (bs : List (Var × Term))
        → AreBindingsReadable settings plan script nesting earlier bs → AllByRecursion IsRead bs
    bindings_read settings plan nesting earlier [] h = tt
    bindings_read settings plan nesting earlier (b ∷ bs) h = (h.0.sort, bindings_read settings plan nesting (b.0.name ∷ earlier) bs h.1)

    scopes_read : (settings : ProofSettings) (plan : Plan) (nesting : Nesting Var Term) (of : ProofItems Var Term)
        → AreReadable settings plan script nesting of → AllByRecursion AreRead (scopes_in nesting of)
    scopes_read settings plan nesting no_items h = tt
    scopes_read settings plan nesting (with_assume items id t) h = scopes_read settings plan nesting items h.0
    scopes_read settings plan nesting (with_step items st) h = scopes_read settings plan nesting items h.0
    scopes_read settings plan nesting (with_subproof items bindings within st) h =
        all_joined AreRead (scopes_in nesting items) _ (scopes_read settings plan nesting items h.0)
        (bindings_read settings plan nesting [] bindings h.1, scopes_read settings plan (inner nesting items bindings st) within h.3)

    at_scope : (of : ProofItems Var Term) (k : ℕ) → AllByRecursion AreRead (scopes of) → AllByRecursion IsRead (bindings_at of k)
    at_scope of k h = go (slice_get (scopes of) k) refl
      where
        go : (o : Option (ScopeEntry Var Term)) → slice_get (scopes of) k ≡ o → AllByRecursion IsRead (option_map_or
            (λ (e : ScopeEntry Var Term). e.bindings) o [])
        go (Some e) there = all_at AreRead (scopes of) k e h there
        go None there = tt

    module _ (v : TermsView) where
      declared_at : (xs : List (ℕ × ℕ)) (ys : List (Var × Term)) (j : ℕ) (b : ℕ × ℕ) (x : Var) → AllZip (IsBindingOf s v) xs ys → AllByRecursion IsRead ys
          → j < length xs → get_or xs j b ≡ b → IsLeaf s b.0 (variable_leaf x) → IsDeclared s x.sort
      declared_at [] ys j b x zip read within e leaf = absurd (omega (arith, within))
      declared_at (a ∷ xs) [] j b x zip read within e leaf = absurd zip
      declared_at (a ∷ xs) (y ∷ ys) zero b x zip read within e leaf =
          let own : IsLeaf s b.0 (variable_leaf y.0) = subst (λ (c : ℕ × ℕ). IsLeaf s c.0 (variable_leaf y.0)) e zip.0.variable in
          let one : Some (variable_leaf y.0) ≡ Some (variable_leaf x) = sym own ∙ leaf in
          let sort : y.0.sort ≡ x.sort = cc in
          subst (IsDeclared s) sort (read_declared y read.0)
      declared_at (a ∷ xs) (y ∷ ys) (suc j) b x zip read within e leaf =
          declared_at xs ys j b x zip.1 read.1 (omega (arith, within)) e leaf

      pub read_sorts : (refs : ProofItems ℕ ℕ) (of : ProofItems Var Term)
          → ((k : ℕ) → AllZip (IsBindingOf s v) (bindings_at refs k) (bindings_at of k)) → ((k : ℕ) → AllByRecursion IsRead (bindings_at of k))
          → HaveSorts s refs
      read_sorts refs of zip read = λ k b x there leaf.
          declared_at (bindings_at refs k) (bindings_at of k) there.0 b x (zip k) (read k) there.1 there.2 leaf

      pub have_sorts : (settings : ProofSettings) (plan : Plan) (refs : ProofItems ℕ ℕ) (of : ProofItems Var Term)
          → ((k : ℕ) → AllZip (IsBindingOf s v) (bindings_at refs k) (bindings_at of k)) → AreReadable settings plan script outermost of → HaveSorts s refs
      have_sorts settings plan refs of zip readable =
          read_sorts refs of zip (λ k. at_scope of k (tt, scopes_read settings plan outermost of readable))
